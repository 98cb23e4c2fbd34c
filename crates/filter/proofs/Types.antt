-- Types and their children: what is kept of each, from what the code's steps keep.
use Prim.Native.Nat.{ℕ, zero, suc, ◌-◌, ◌≤◌}
use native.Mathlib.Omega.{arith}
use native.Mathlib.Nat.{add-zero}
use mathlib.Core.Path.{◌≡◌, refl, sym, ap, subst, ◌∙◌}
use mathlib.Core.List.{List, [], ◌∷◌, ◌++◌, append-nil, append_assoc}
use mathlib.Core.Bool.{Bool, true, false, ◌&&◌, ◌||◌}
use lib.ListN.{length, drop, get_or, length-append}
use lib.Dec.{eqb}
use borrow.Author.Tests.{ne_eqb}
use Rattle.model.specs.Bytes.{Bytes, choose, u16}
use Rattle.model.specs.Tree.{Head, DataType, Field, Children, fields, key_and_value, counted, counted_with_ids, table, layout, with_children, with_data_type, Struct, Union, Dictionary, RunEndEncoded}
use Rattle.model.specs.Sheet.{each, part, with_count, head_bytes, field_bytes, children_bytes, type_bytes}
use Rattle.model.specs.WellFormed.{WellFormedParams, CountFits, LaidOut}
use Rattle.model.specs.Datatype.{holds_fields, encodes}
use Rattle.model.specs.Filter.{Filtered, leaf, nested, Leaves, itself, inside, filter_each, filter_field, with_left, around, look_through, filter_type, leaves_of_second, leaf_count_of_each, type_leaf_count}
use Rattle.model.proofs.Layouts.{held_child, encoded_two}
use Rattle.model.proofs.Gives.{choose_true, choose_false}
use Rattle.walk.specs.Stands.{Stands, Skips, SkipsType, SkipsField, AllLaidOut}
use Rattle.walk.proofs.Standing.{first_stands, second_stands, skip_ahead, skip_join}
use Rattle.walk.proofs.Parts.{Ahead}
use Rattle.walk.proofs.Descents.{code_stands}
use Rattle.buffer.specs.declared.Output.{Output}
use Rattle.filter.specs.Filters.{Walk, walk_to, Filters, CopiesTo, taken_back, undone, first_bytes, Sifts, alone, below, TypeSifted, InnerSifted, KindFiltered, FiltersType, FiltersField, FiltersCounted, FiltersChildren, FiltersNested, FiltersInner, FiltersEncoded, leaves_of, leaves_of_all, kept_of, kept_of_all}
use Rattle.filter.proofs.Walking.{filters_none, filters_as, filters_copied, filters_fronted, filters_undone}
use Rattle.filter.proofs.Fields.{part_some, type_some, field_some}

-- The children of a type that holds fields

-- one field, as the only one of its parent
module _ (l : ℕ) (k : Field l) where
  one_bytes : field_bytes (type_bytes l) k ≡ children_bytes (type_bytes l) (fields 1) (k ∷ [])
  unfolding children_bytes
  one_bytes = sym (append-nil (field_bytes (type_bytes l) k))

  one_leaves : leaves_of l k ≡ leaves_of_all l (k ∷ [])
  unfolding leaf_count_of_each
  one_leaves = sym (add-zero (leaves_of l k))

  one_kept : (mask : Bytes) → each (field_bytes (type_bytes l)) (kept_of l k mask) ≡ part (children_bytes (type_bytes l) (fields 1)) (kept_of_all l (k ∷ []) mask)
  unfolding filter_each children_bytes
  one_kept mask = ap (each (field_bytes (type_bytes l))) (sym (append-nil (kept_of l k mask))) ∙ go (kept_of l k mask ++ [])
    where
      go : (ks : List (Field l)) → each (field_bytes (type_bytes l)) ks ≡ part (children_bytes (type_bytes l) (fields 1)) ks
      go [] = refl
      go (k ∷ ks) = refl

module _ (code levels : ℕ) {v v' : Walk} where
  by_code : (c : ℕ) → code ≡ c → FiltersChildren c levels v v' → FiltersChildren code levels v v'
  by_code c e f = subst (λ c. FiltersChildren c levels v v') (sym e) f

  pub struct_filtered : code ≡ Struct → FiltersCounted 0 levels v v' → FiltersChildren code levels v v'
  unfolding layout table children_bytes
  struct_filtered e f = by_code Struct e λ l ks h c n z. f l (λ h. []) ks (λ h. refl) h z

  pub union_filtered : code ≡ Union → FiltersCounted 1 levels v v' → FiltersChildren code levels v v'
  unfolding layout table children_bytes
  union_filtered e f = by_code Union e λ l ks h c n z. f l (λ h. h.type_id ∷ []) ks (λ h. refl) h z

  pub others_filtered : (code ≡ Struct → ⊥) → (code ≡ Union → ⊥) → FiltersField levels v v' → FiltersChildren code levels v v'
  others_filtered a b f l ks h c =
      subst (λ k. CountFits k ks → AllLaidOut l ks → KindFiltered l k ks v v') (sym (held_child code c a b)) (go ks)
    where
      go : (ks : List (Field l)) → length ks ≡ 1 → AllLaidOut l ks → KindFiltered l (fields 1) ks v v'
      go [] n z = absurd (omega (arith, n))
      go (k ∷ []) n z = filters_as (one_bytes l k) (one_leaves l k) (one_kept l k (drop v.leaf v.mask)) (f l k h z.0)
      go (k ∷ x ∷ ks) n z = absurd (omega (arith, n))

-- A type that holds fields

children_some : (l : ℕ) (c : Children) (k : Field l) (ks : List (Field l)) → 1 ≤ length (children_bytes (type_bytes l) c (k ∷ ks))
unfolding children_bytes with_count u16
children_some l (fields n) k ks = omega (arith, field_some (type_bytes l) k, length-append (field_bytes (type_bytes l) k) (each (field_bytes (type_bytes l)) ks))
children_some l key_and_value k ks = omega (arith, type_some l k.data_type, length-append (type_bytes l k.data_type) (each (λ k. type_bytes l k.data_type) ks))
children_some l counted k ks = omega arith
children_some l counted_with_ids k ks = omega arith

-- its code and parameters stand before its children
front_skips : {s : Bytes} {place params children : ℕ} (code : ℕ) → Ahead s place 1 params → ((b : Bytes) → WellFormedParams (layout code).params b → Skips s params b children)
    → (l : ℕ) (t : DataType (suc l)) → code ≡ t.code → LaidOut (suc l) t → Skips s place (t.code ∷ t.params) children
front_skips code a f l t e z = skip_join (skip_ahead (t.code ∷ []) refl a.1) (f t.params (subst (λ c. WellFormedParams (layout c).params t.params) (sym e) z.0))

nested_kept : (l : ℕ) (t : DataType (suc l)) (ks : List (Field l))
    → part (λ k. (t.code ∷ t.params) ++ k) (part (children_bytes (type_bytes l) (layout t.code).children) ks) ≡ part (λ ks. type_bytes (suc l) (with_children t ks)) ks
unfolding type_bytes
nested_kept l t [] = refl
nested_kept l t (k ∷ ks) =
    part_some (λ k. (t.code ∷ t.params) ++ k) (children_bytes (type_bytes l) (layout t.code).children (k ∷ ks)) (children_some l (layout t.code).children k ks)

module _ {v : Walk} (code levels : ℕ) {v₁ v₂ : Walk} {o : Output} where
  pub nested_filtered : {params children : ℕ} → Ahead v.sheet v.at 1 params → ((b : Bytes) → WellFormedParams (layout code).params b → Skips v.sheet params b children)
      → CopiesTo children v v₁ → FiltersChildren code levels v₁ v₂ → o ≡ taken_back v.out.written v₁.out.written v₂.out
      → FiltersNested code levels v (walk_to v₂.at v₂ o)
  unfolding type_bytes
  nested_filtered {params} {children} a f copy g u l t h e c z =
      let filtered = subst (λ y. FiltersChildren code levels y v₂) copy.behind g in
      let kids = subst (λ c. holds_fields c ≡ true → CountFits (layout c).children t.children → AllLaidOut l t.children
      → KindFiltered l (layout c).children t.children (walk_to children v v₁.out) v₂)
      e (filtered l t.children h) in
      filters_as refl refl (nested_kept l t (kept_of_all l t.children (drop v.leaf v.mask)))
      (filters_fronted (filters_copied (t.code ∷ t.params) (front_skips code a f l t e z) copy) (kids (sym (ap holds_fields e) ∙ c) z.1 z.2) u)

-- A type and what stands before it

inner_kept : (l : ℕ) (a : Bytes) (ts : List (DataType l)) → part (λ k. a ++ k) (first_bytes (type_bytes l) ts) ≡ first_bytes (λ t. a ++ type_bytes l t) ts
inner_kept l a [] = refl
inner_kept l a (t ∷ ts) = part_some (λ k. a ++ k) (type_bytes l t) (type_some l t)

module _ {v : Walk} {inner : ℕ} (levels : ℕ) {v₁ v₂ : Walk} {r : Bool} {o : Output} where
  pub inner_filtered : CopiesTo inner v v₁ → FiltersType levels false v₁ v₂ r → o ≡ taken_back v.out.written v₁.out.written v₂.out
      → FiltersInner inner levels v (walk_to v₂.at v₂ o) r
  inner_filtered copy type u l t a h z i st =
      go (subst (λ y. FiltersType levels false y v₂ r) copy.behind type l t h z (subst (λ n. Stands v.sheet n (type_bytes l t)) (sym i) (second_stands a (type_bytes l t) st)))
    where
      skip : Skips v.sheet v.at a inner
      skip = record { behind = λ u. i }

      go : TypeSifted l false t (walk_to inner v v₁.out) v₂ r → InnerSifted l a t v (walk_to v₂.at v₂ o) r
      go (alone x y c d) =
          alone x y c (subst (λ o. Filters [] 0 [] v (undone v o)) (sym u) (filters_undone a (type_bytes l t) v₂.out st (filters_copied a skip copy) d))
      go (below ts rest n x y c d) = below ts rest n x y c (filters_as refl refl (inner_kept l a ts) (filters_fronted (filters_copied a skip copy) d u))

-- A Dictionary or RunEndEncoded that is looked through

module _ (l : ℕ) (t : DataType (suc l)) (f g : Field l) (a b : Bytes) {v v' : Walk} {r : Bool}
    (whole : a ++ type_bytes l g.data_type ≡ b) (again : (d : DataType l) → a ++ type_bytes l d ≡ type_bytes (suc l) (with_children t (f ∷ with_data_type g d ∷ []))) where
  -- the bytes a before the second child's type are all else of it
  second_sifted : {model : Filtered (DataType l)} {count : Leaves ℕ} → Sifts (a ++ type_bytes l g.data_type) (λ d. a ++ type_bytes l d) model count v v' r
      → Sifts b (type_bytes (suc l)) (around t f g model) count v v' r
  unfolding around
  second_sifted (alone x y e d) = alone (ap (around t f g) x) y e d
  second_sifted (below [] rest n x y e d) = below [] rest n (ap (around t f g) x) y e (filters_as whole refl refl d)
  second_sifted (below (c ∷ cs) rest n x y e d) =
      below (with_children t (f ∷ with_data_type g c ∷ []) ∷ []) rest n (ap (around t f g) x) y e (filters_as whole refl (again c) d)

module _ (l : ℕ) (t : DataType (suc l)) (mask : Bytes) where
  held_type : (through : Bool) → holds_fields t.code ≡ true
      → let left = filter_each (filter_field (λ x m. filter_type l true x m)) t.children mask in
      (filter_type (suc l) through t mask ≡ nested (choose (eqb (length left.kept) 0) (λ u. []) λ u. with_children t left.kept ∷ []) left.mask)
      × (type_leaf_count (suc l) through t ≡ inside (leaves_of_all l t.children))
  unfolding filter_type type_leaf_count with_left
  held_type through h = (choose_true _ _ _ h, choose_true _ _ _ h)

  plain : holds_fields t.code ≡ false → (through : Bool) → (through && encodes t.code) ≡ false
      → (filter_type (suc l) through t mask ≡ leaf) × (type_leaf_count (suc l) through t ≡ itself)
  unfolding filter_type type_leaf_count
  plain h through e = (choose_false _ _ _ h ∙ choose_false _ _ _ e, choose_false _ _ _ h ∙ choose_false _ _ _ e)

  looked : holds_fields t.code ≡ false → encodes t.code ≡ true → (f g : Field l) → t.children ≡ f ∷ g ∷ []
      → (filter_type (suc l) true t mask ≡ around t f g (filter_type l false g.data_type mask)) × (type_leaf_count (suc l) true t ≡ type_leaf_count l false g.data_type)
  unfolding filter_type type_leaf_count look_through leaves_of_second
  looked h e f g k = (
    choose_false _ _ _ h ∙ choose_true _ _ _ e ∙ ap (λ ks. look_through (λ x m. filter_type l false x m) t ks mask) k,
    choose_false _ _ _ h ∙ choose_true _ _ _ e ∙ ap (leaves_of_second (λ x. type_leaf_count l false x)) k,
  )

sifts_as : {b : Bytes} {T : Type 0} {f : T → Bytes} {m m' : Filtered T} {c c' : Leaves ℕ} {v v' : Walk} {r : Bool} → m ≡ m' → c ≡ c'
    → Sifts b f m' c' v v' r → Sifts b f m c v v' r
sifts_as d e (alone x y h k) = alone (d ∙ x) (e ∙ y) h k
sifts_as d e (below ts rest n x y h k) = below ts rest n (d ∙ x) (e ∙ y) h k

-- the bytes of a type without parameters
bare_bytes : (l : ℕ) (t : DataType (suc l)) (c : ℕ) → t.code ≡ c → t.params ≡ [] → (ks : List (Field l)) → t.children ≡ ks
    → type_bytes (suc l) t ≡ c ∷ children_bytes (type_bytes l) (layout c).children ks
unfolding type_bytes
bare_bytes l t c e p ks k = rw (e, p, k)

module _ (code levels : ℕ) {v v' : Walk} {r : Bool} where
  -- of a code without parameters, where the bytes of a type are those before the second child's type and that
  encoded : (c : ℕ) {inner : ℕ} → code ≡ c → encodes c ≡ true → ((b : Bytes) → WellFormedParams (layout c).params b → b ≡ [])
      → (front : (l : ℕ) (x w : Field l) → Bytes)
      → ((l : ℕ) (x w : Field l) (d : DataType l) → front l x w ++ type_bytes l d ≡ c ∷ children_bytes (type_bytes l) (layout c).children (x ∷ with_data_type w d ∷ []))
      → ((l : ℕ) (x w : Field l) → l ≤ levels → LaidOut l x.data_type → Skips v.sheet v.at (front l x w) inner)
      → FiltersInner inner levels v v' r → FiltersEncoded code levels v v' r
  encoded c e i bare front join skip g l t h d n z st =
      go t.children refl (encoded_two t.code (ap encodes (sym d ∙ e) ∙ i) t.children z.1) z.2
    where
      is : t.code ≡ c
      is = sym d ∙ e

      none : t.params ≡ []
      none = bare t.params (subst (λ c. WellFormedParams (layout c).params t.params) is z.0)

      go : (ks : List (Field l)) → t.children ≡ ks → length ks ≡ 2 → AllLaidOut l ks
          → TypeSifted (suc l) true t v v' r
      go [] k m y = absurd (omega (arith, m))
      go (x ∷ []) k m y = absurd (omega (arith, m))
      go (x ∷ w ∷ []) k m y =
          let whole : front l x w ++ type_bytes l w.data_type ≡ type_bytes (suc l) t = join l x w w.data_type ∙ sym (bare_bytes l t c is none (x ∷ w ∷ []) k) in
          let st' = subst (Stands v.sheet v.at) (sym whole) st in
          let q = looked l t (drop v.leaf v.mask) (sym (ap holds_fields d) ∙ n) (ap encodes is ∙ i) x w k in
          sifts_as q.0 q.1
          (second_sifted l t x w (front l x w) (type_bytes (suc l) t) whole
          (λ b. join l x w b ∙ sym (bare_bytes l (with_children t (x ∷ with_data_type w b ∷ [])) c is none (x ∷ with_data_type w b ∷ []) refl))
          (g l w.data_type (front l x w) h y.1.0 ((skip l x w h y.0).behind (first_stands (front l x w) (type_bytes l w.data_type) st')) st'))
      go (x ∷ w ∷ u ∷ ks) k m y = absurd (omega (arith, m))

  pub dictionary_filtered : {first value : ℕ} → code ≡ Dictionary → Ahead v.sheet v.at 1 first → SkipsType v.sheet first levels value → FiltersInner value levels v v' r
      → FiltersEncoded code levels v v' r
  unfolding layout table children_bytes encodes
  dictionary_filtered e a f g =
      encoded Dictionary e refl (λ b q. q) (λ l x w. Dictionary ∷ type_bytes l x.data_type)
      (λ l x w d. ap (λ b. Dictionary ∷ (type_bytes l x.data_type ++ b)) (sym (append-nil (type_bytes l d))))
      (λ l x w h z. skip_join (skip_ahead (Dictionary ∷ []) refl a.1) (f l x.data_type h z)) g

  pub runs_filtered : {first values body : ℕ} → code ≡ RunEndEncoded → Ahead v.sheet v.at 1 first → SkipsField v.sheet first levels values → ((h : Head) → Skips v.sheet values (head_bytes h) body)
      → FiltersInner body levels v v' r → FiltersEncoded code levels v v' r
  unfolding layout table children_bytes encodes field_bytes
  runs_filtered e a f k g =
      encoded RunEndEncoded e refl (λ b q. q) (λ l x w. RunEndEncoded ∷ (field_bytes (type_bytes l) x ++ head_bytes w.head))
      (λ l x w d.
      ap (λ b. RunEndEncoded ∷ b)
      (append_assoc (field_bytes (type_bytes l) x) (head_bytes w.head) (type_bytes l d)
      ∙ ap (λ b. field_bytes (type_bytes l) x ++ b) (sym (append-nil (head_bytes w.head ++ type_bytes l d)))))
      (λ l x w h z. skip_join (skip_ahead (RunEndEncoded ∷ []) refl a.1) (skip_join (f l x h z) (k w.head))) g

-- Types

held_kept : (l : ℕ) (t : DataType (suc l)) (ks : List (Field l))
    → part (λ ks. type_bytes (suc l) (with_children t ks)) ks ≡ first_bytes (type_bytes (suc l)) (choose (eqb (length ks) 0) (λ u. []) λ u. with_children t ks ∷ [])
unfolding choose
held_kept l t [] = refl
held_kept l t (k ∷ ks) = rw (ne_eqb (length (k ∷ ks)) 0 λ e. absurd (omega (arith, e)))

module _ (code levels : ℕ) {v : Walk} where
  -- all others are leaves
  pub others_encoded : (code ≡ Dictionary → ⊥) → (code ≡ RunEndEncoded → ⊥) → FiltersEncoded code levels v v false
  unfolding encodes
  others_encoded a b l t h d n z st =
      let e : encodes t.code ≡ false = ap encodes (sym d) ∙ ap (λ y. y || eqb code RunEndEncoded) (ne_eqb code Dictionary a) ∙ ne_eqb code RunEndEncoded b in
      let q = plain l t (drop v.leaf v.mask) (sym (ap holds_fields d) ∙ n) true e in
      alone q.0 q.1 refl filters_none

module _ (levels : ℕ) (through : Bool) {v : Walk} {code : ℕ} {test : Bool} (e : code ≡ get_or v.sheet v.at 0) (i : test ≡ holds_fields code) where
  pub type_held : {v' : Walk} → test ≡ true → FiltersNested code (levels - 1) v v'
      → FiltersType levels through v v' true
  type_held h g zero t k z st = absurd z
  type_held {v'} h g (suc l) t k z st =
      let c : code ≡ t.code = e ∙ code_stands l t st in
      let d : holds_fields code ≡ true = sym i ∙ h in
      let left = filter_each (filter_field (λ x m. filter_type l true x m)) t.children (drop v.leaf v.mask) in
      let q = held_type l t (drop v.leaf v.mask) through (sym (ap holds_fields c) ∙ d) in
      below (choose (eqb (length left.kept) 0) (λ u. []) λ u. with_children t left.kept ∷ []) left.mask (leaves_of_all l t.children) q.0 q.1 refl
      (filters_as refl refl (held_kept l t left.kept) (g l t (omega arith) c d z))

  -- one was looked through before, and this type holds no fields
  pub type_leaf : test ≡ false → through ≡ false → FiltersType levels through v v false
  type_leaf h j zero t k z st = absurd z
  type_leaf h j (suc l) t k z st =
      let c : code ≡ t.code = e ∙ code_stands l t st in
      let q = plain l t (drop v.leaf v.mask) (sym (ap holds_fields c) ∙ sym i ∙ h) through (ap (λ b. b && encodes t.code) j) in
      alone q.0 q.1 refl filters_none

  pub type_encoded : {v' : Walk} {r : Bool} → test ≡ false → through ≡ true → FiltersEncoded code (levels - 1) v v' r
      → FiltersType levels through v v' r
  type_encoded h j g zero t k z st = absurd z
  type_encoded {v'} {r} h j g (suc l) t k z st =
      let c : code ≡ t.code = e ∙ code_stands l t st in
      subst (λ b. TypeSifted (suc l) b t v v' r) (sym j)
      (g l t (omega arith) c (sym i ∙ h) z st)
