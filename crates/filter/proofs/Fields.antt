-- Leaves, fields and children: what is kept of each, from what the code's steps keep.
use Prim.Native.Nat.{ℕ, zero, suc, ◌+◌, ◌≤◌, ◌<◌}
use native.Mathlib.Omega.{arith}
use native.Mathlib.Nat.{add-zero}
use mathlib.Core.Path.{◌≡◌, refl, sym, ap, subst, ◌∙◌}
use mathlib.Core.List.{List, [], ◌∷◌, ◌++◌, append-nil}
use mathlib.Core.Bool.{Bool, true, false, false≢true}
use lib.ListN.{length, drop, get_or}
use lib.Seq.{get_or-drop}
use lib.Dec.{eqb}
use borrow.Author.Tests.{eqb-true}
use Rattle.model.specs.Numbers.{max_sheet_bytes}
use Rattle.model.specs.Bytes.{Bytes, choose}
use Rattle.model.specs.Tree.{Head, FieldOver, DataType, Field}
use Rattle.model.specs.Sheet.{front_bytes, each, part, head_bytes, field_bytes, type_bytes}
use Rattle.model.specs.Filter.{Filtered, leaf, nested, filter_leaf, filter_to, filter_field, filter_type, field_leaf_count}
use Rattle.model.specs.WellFormed.{LaidOut}
use Rattle.model.proofs.Gives.{choose_true, choose_false}
use Rattle.walk.specs.Stands.{Stands, Skips, SkipsType}
use Rattle.walk.proofs.Standing.{skip_ahead, skip_join}
use Rattle.walk.proofs.Parts.{Ahead}
use Rattle.walk.proofs.Descents.{type_stands}
use Rattle.buffer.specs.declared.Output.{Output}
use Rattle.filter.specs.Filters.{Walk, walk_to, Begins, Filters, CopiesTo, taken_back, undone, FiltersLeaf, first_bytes, alone, below, TypeSifted, FieldFiltered, FiltersType, FiltersField, FiltersChild, child_bytes, kept_of}
use Rattle.filter.proofs.Walking.{filters_when, filters_as, filters_copied, filters_join, filters_fronted, filters_undone}

-- Bytes that are not none

pub part_some : (f : Bytes → Bytes) (b : Bytes) → 1 ≤ length b → part f b ≡ f b
part_some f [] h = absurd (omega (arith, h))
part_some f (x ∷ b) h = refl

pub type_some : (l : ℕ) (t : DataType l) → 1 ≤ length (type_bytes l t)
unfolding type_bytes
type_some zero t = absurd t
type_some (suc l) t = omega arith

pub field_some : {T : Type 0} (f : T → Bytes) (k : FieldOver T) → 1 ≤ length (field_bytes f k)
unfolding field_bytes front_bytes head_bytes
field_some f k = omega arith

-- What is kept of a field is none, or one under the same head

pub data KeptOne {T : Type 0} (f : FieldOver T) (ks : List (FieldOver T)) : Type 0 where
  none : ks ≡ [] → KeptOne f ks
  one : (g : FieldOver T) → g.head ≡ f.head → ks ≡ g ∷ [] → KeptOne f ks

module _ {T : Type 0} (filter : T → Bytes → Filtered T) (f : FieldOver T) where
  leaf_one : (mask : Bytes) → KeptOne f (filter_leaf f mask).kept
  unfolding filter_leaf
  leaf_one [] = none refl
  leaf_one (b ∷ mask) = go (eqb b 0) refl
    where
      go : (t : Bool) → eqb b 0 ≡ t → KeptOne f (choose (eqb b 0) (λ u. []) λ u. f ∷ [])
      go true e = none (choose_true _ _ _ e)
      go false e = one f refl (choose_false _ _ _ e)

  pub field_one : (mask : Bytes) → KeptOne f (filter_field filter f mask).kept
  unfolding filter_field filter_to
  field_one mask = go (filter f.data_type mask)
    where
      go : (r : Filtered T) → KeptOne f (filter_to f mask r).kept
      go leaf = leaf_one mask
      go (nested [] rest) = none refl
      go (nested (t ∷ ts) rest) = one (record { head = f.head; data_type = t }) refl refl

-- Leaves

-- the mask's byte decides, and behind its end nothing is kept
leaf_bytes : {A : Type 0} (f : A → Bytes) (x : A) (mask : Bytes) (next : ℕ)
    → choose (eqb (get_or mask next 0) 0) (λ u. []) (λ u. f x) ≡ each f (filter_leaf x (drop next mask)).kept
unfolding filter_leaf choose
leaf_bytes f x mask next =
    ap (λ b. choose (eqb b 0) (λ u. []) λ u. f x) (ap (λ n. get_or mask n 0) (sym (add-zero next)) ∙ sym (get_or-drop next mask 0 0)) ∙ go (drop next mask)
  where
    one : (t : Bool) → choose t (λ u. []) (λ u. f x) ≡ each f (choose t (λ u. []) λ u. x ∷ [])
    one true = refl
    one false = sym (append-nil (f x))

    go : (m : Bytes) → choose (eqb (get_or m 0 0) 0) (λ u. []) (λ u. f x) ≡ each f (filter_leaf x m).kept
    go [] = refl
    go (b ∷ m) = one (eqb b 0)

module _ {v : Walk} {end after : ℕ} (f : v.leaf < max_sheet_bytes → after ≡ v.leaf + 1) (m : ℕ) {byte : ℕ} (d : byte ≡ m) where
  -- a leaf that is not kept
  pub leaf_dropped : byte ≡ 0 → (b : Bytes) → 1 ≤ length b → Skips v.sheet v.at b end → Filters b 1 (choose (eqb m 0) (λ u. []) λ u. b) v (record { sheet = v.sheet; mask = v.mask; at = end; leaf = after; out = v.out })
  unfolding choose
  leaf_dropped e b n skip =
      filters_as refl refl (sym (ap (λ m. choose (eqb m 0) (λ u. []) λ u. b) (sym d ∙ e)))
      (record {
        does = λ x st h g.
            let i = skip.behind st in
            let j = f (omega (arith, h.leaves, h.small, st.inside, n)) in
            record {
              sheet = refl;
              mask = refl;
              behind = i;
              leaves = j;
              same_buffer = refl;
              fair = record { small = h.small; room = h.room; leaves = omega (arith, h.leaves, i, j, n); written = omega (arith, h.written, i) };
              begins = subst (Begins v.out) (sym (append-nil x)) g;
            };
      })

  -- a leaf that is copied
  pub leaf_kept : {v' : Walk} → (byte ≡ 0 → ⊥) → CopiesTo end (record { sheet = v.sheet; mask = v.mask; at = v.at; leaf = after; out = v.out }) v'
      → (b : Bytes) → 1 ≤ length b → Skips v.sheet v.at b end → Filters b 1 (choose (eqb m 0) (λ u. []) λ u. b) v v'
  unfolding choose
  leaf_kept {v'} e copy b n skip =
      subst (Filters b 1 (choose (eqb m 0) (λ u. []) λ u. b) v) (sym copy.behind)
      (filters_as refl refl (sym (choose_false _ _ _ (go (eqb m 0) refl)))
      (record {
        does = λ x st h g.
            let j = f (omega (arith, h.leaves, h.small, st.inside, n)) in
            let c = (filters_copied {v = v} b skip (record { behind = refl; puts = copy.puts })).does x st h g in
            record {
              sheet = refl;
              mask = refl;
              behind = c.behind;
              leaves = j;
              same_buffer = c.same_buffer;
              fair = record { small = h.small; room = c.fair.room; leaves = omega (arith, h.leaves, c.behind, j, n); written = c.fair.written };
              begins = c.begins;
            };
      }))
    where
      go : (t : Bool) → eqb m 0 ≡ t → eqb m 0 ≡ false
      go true i = absurd (e (d ∙ eqb-true m 0 i))
      go false i = i

-- Fields

-- the head, and what is left of the type
nested_bytes : (l : ℕ) (f : Field l) (m : Bytes) (ts : List (DataType l)) (rest : Bytes)
    → part (λ k. head_bytes f.head ++ k) (first_bytes (type_bytes l) ts) ≡ each (field_bytes (type_bytes l)) (filter_to f m (nested ts rest)).kept
unfolding filter_to field_bytes
nested_bytes l f m [] rest = refl
nested_bytes l f m (t ∷ ts) rest =
    part_some (λ k. head_bytes f.head ++ k) (type_bytes l t) (type_some l t) ∙ sym (append-nil (head_bytes f.head ++ type_bytes l t))

module _ {v : Walk} {body : ℕ} (levels : ℕ) {v₁ v₂ : Walk} {r : Bool} (skip : (h : Head) → Skips v.sheet v.at (head_bytes h) body) (copy : CopiesTo body v v₁)
    (type : FiltersType levels true v₁ v₂ r) where
  type_filtered : (l : ℕ) (f : Field l) → l ≤ levels → LaidOut l f.data_type → Stands v.sheet v.at (field_bytes (type_bytes l) f)
      → TypeSifted l true f.data_type (walk_to body v v₁.out) v₂ r
  type_filtered l f h z st = subst (λ y. FiltersType levels true y v₂ r) copy.behind type l f.data_type h z (type_stands l f skip st)

  pub field_nested : {o : Output} → r ≡ true → o ≡ taken_back v.out.written v₁.out.written v₂.out → FiltersField levels v (walk_to v₂.at v₂ o)
  unfolding field_bytes filter_field field_leaf_count
  field_nested {o} e u l f h z = filters_when λ st. go (type_filtered l f h z st)
    where
      go : TypeSifted l true f.data_type (walk_to body v v₁.out) v₂ r → FieldFiltered l f v (walk_to v₂.at v₂ o)
      go (alone a b c d) = absurd (false≢true (sym c ∙ e))
      go (below ts rest n a b c d) =
          filters_as refl (sym (ap field_leaf_count b))
          (nested_bytes l f (drop v.leaf v.mask) ts rest ∙ sym (ap (λ y. each (field_bytes (type_bytes l)) (filter_to f (drop v.leaf v.mask) y).kept) a))
          (filters_fronted (filters_copied (head_bytes f.head) (skip f.head) copy) d u)

  -- the field is a leaf
  pub field_leaf : {end : ℕ} {v₃ : Walk} → r ≡ false → SkipsType v.sheet body levels end → FiltersLeaf end (undone v v₂.out) v₃ → FiltersField levels v v₃
  unfolding field_bytes filter_field filter_to field_leaf_count
  field_leaf {end} {v₃} e types i l f h z = filters_when λ st. go st (type_filtered l f h z st)
    where
      go : Stands v.sheet v.at (field_bytes (type_bytes l) f) → TypeSifted l true f.data_type (walk_to body v v₁.out) v₂ r → FieldFiltered l f v v₃
      go st (alone a b c d) =
          filters_as refl (sym (ap field_leaf_count b))
          (leaf_bytes (field_bytes (type_bytes l)) f v.mask v.leaf ∙ sym (ap (λ y. each (field_bytes (type_bytes l)) (filter_to f (drop v.leaf v.mask) y).kept) a))
          (filters_join (filters_undone (head_bytes f.head) (type_bytes l f.data_type) v₂.out st (filters_copied (head_bytes f.head) (skip f.head) copy) d)
          (i (field_bytes (type_bytes l) f) (field_some (type_bytes l) f) (skip_join (skip f.head) (types l f.data_type h z))))
      go st (below ts rest n a b c d) = absurd (false≢true (sym e ∙ c))

-- Children

child_kept : (l : ℕ) (front : Head → Bytes) (f : Field l) (ks : List (Field l)) → KeptOne f ks
    → part (λ k. front f.head ++ k) (each (field_bytes (type_bytes l)) ks) ≡ each (child_bytes l front) ks
child_kept l front f ks (none e) = rw e
child_kept l front f ks (one g h e) =
    rw (e, ← h, append-nil (field_bytes (type_bytes l) g), append-nil (front g.head ++ field_bytes (type_bytes l) g))
    (part_some (λ k. front g.head ++ k) (field_bytes (type_bytes l) g) (field_some (type_bytes l) g))

module _ {v : Walk} {field : ℕ} (before levels : ℕ) {v₁ v₂ : Walk} {o : Output} where
  pub child_filtered : Ahead v.sheet v.at before field → CopiesTo field v v₁ → FiltersField levels v₁ v₂ → o ≡ taken_back v.out.written v₁.out.written v₂.out
      → FiltersChild before levels v (walk_to v₂.at v₂ o)
  child_filtered a copy g u l front f n h z =
      filters_as refl refl (child_kept l front f (kept_of l f (drop v.leaf v.mask)) (field_one (filter_type l true) f (drop v.leaf v.mask)))
      (filters_fronted (filters_copied (front f.head) (skip_ahead (front f.head) (n f.head) a.1) copy) (subst (λ y. FiltersField levels y v₂) copy.behind g l f h z) u)
