-- What the filter leaves of a well-formed tree is well-formed, so its answer reads without refusal.
use Prim.Native.Nat.{ℕ, zero, suc, ◌≤◌}
use native.Mathlib.Omega.{arith}
use mathlib.Core.Path.{◌≡◌, refl, sym, ap, subst, ◌∙◌}
use mathlib.Core.List.{List, [], ◌∷◌, ◌++◌, map}
use mathlib.Core.Bool.{Bool, true, false, not, ◌&&◌, ◌||◌}
use lib.ListN.{length}
use lib.Dec.{eqb}
use borrow.Author.Tests.{eqb-false}
use borrow.Table.Steps.{cases}
use Rattle.model.specs.Numbers.{max_levels, id_repeated}
use Rattle.model.specs.Bytes.{Bytes, AreBytes, Every, choose, among}
use Rattle.model.specs.Tree.{FieldOver, DataType, Field, Schema, Children, fields, key_and_value, counted, counted_with_ids, layout, with_children, with_data_type}
use Rattle.model.specs.Sheet.{sheet_bytes}
use Rattle.model.specs.Read.{got, id_fits, read_sheet, unless}
use Rattle.model.specs.Datatype.{holds_fields, encodes}
use Rattle.model.specs.Filter.{Filtered, leaf, nested, filter_each, filter_leaf, filter_to, filter_field, with_left, around, look_through, filter_type, filter_columns, filter_leaves}
use Rattle.model.specs.Call.{bytes, sheet_answer, filter_answer}
use Rattle.model.specs.WellFormed.{Each, WellFormedField, WellFormedChildren, WellFormedType, WellFormedSchema, Fits}
use Rattle.model.proofs.Lists.{and_true, or_false}
use Rattle.model.proofs.Steps.{Holds, of_got, then_zero, then_got, unless_got}
use Rattle.model.proofs.Layouts.{Held, one, some, some_with_ids, held_children, encoded_two}
use Rattle.model.proofs.WellFormed.{type_laid_out}
use Rattle.model.proofs.LeafCount.{judged_value, filter_no_longer}
use Rattle.model.proofs.WholeSheets.{sheet_exact, sheet_reads}
use Rattle.model.proofs.Calls.{then_inv, bytes_inv}

-- each type that is left is such a one
data Leaves {T : Type 0} (P : T → Type 0) : Filtered T → Type 0 where
  alone : Leaves P leaf
  below : {ts : List T} {rest : Bytes} → Every P ts → Leaves P (nested ts rest)

first_left : {T : Type 0} {P : T → Type 0} {t : T} {ts : List T} {rest : Bytes} → Leaves P (nested (t ∷ ts) rest) → P t
first_left (below h) = h.0

module _ {T : Type 0} (G : Bool → T → Type 0) where
  -- The fields ks are some of fs, in their order, each with a type that is good where its own was.
  data Some : List (FieldOver T) → List (FieldOver T) → Type 0 where
    nothing : Some [] []
    without : {ks fs : List (FieldOver T)} (f : FieldOver T) → Some ks fs → Some ks (f ∷ fs)
    with : {ks fs : List (FieldOver T)} (f : FieldOver T) (t : T) → ((o : Bool) → G o f.data_type → G o t) → Some ks fs → Some (with_data_type f t ∷ ks) (f ∷ fs)

  some_few : {ks fs : List (FieldOver T)} → Some ks fs → length ks ≤ length fs
  some_few nothing = omega arith
  some_few (without f s) = omega (arith, some_few s)
  some_few (with f t g s) = omega (arith, some_few s)

  abbrev ids : List (FieldOver T) → List ℕ
  ids fs = map (λ f. f.head.type_id) fs

  -- no id stands among these that does not among those
  abbrev Fewer : List (FieldOver T) → List (FieldOver T) → Type 0
  Fewer xs ys = (i : ℕ) → among i (ids ys) ≡ false → among i (ids xs) ≡ false

  -- what holds of each, with those before it, holds of some of them
  some_each : (W : List (FieldOver T) → FieldOver T → Type 0)
      → ((seen seen' : List (FieldOver T)) (f : FieldOver T) (t : T) → Fewer seen' seen → ((o : Bool) → G o f.data_type → G o t) → W seen f → W seen' (with_data_type f t))
      → {ks fs : List (FieldOver T)} → Some ks fs → (seen seen' : List (FieldOver T)) → Fewer seen' seen → Each W seen fs → Each W seen' ks
  unfolding among
  some_each W g nothing seen seen' h e = tt
  some_each W g (without f s) seen seen' h e = some_each W g s (f ∷ seen) seen' (λ i n. h i (or_false (eqb i f.head.type_id) (among i (ids seen)) n).1) e.1
  some_each W g (with f t k s) seen seen' h e = (
    g seen seen' f t h k e.0,
    some_each W g s (f ∷ seen) (with_data_type f t ∷ seen') (λ i n. let (p, q) = or_false (eqb i f.head.type_id) (among i (ids seen)) n in ap (λ b. b || among i (ids seen')) p ∙ h i q) e.1,
  )

  -- a field with another type
  other_type : (f : FieldOver T) (t : T) → ((o : Bool) → G o f.data_type → G o t) → WellFormedField G f → WellFormedField G (with_data_type f t)
  other_type f t g w = record { name = w.name; metadata = w.metadata; data_type = g f.head.dict_is_ordered w.data_type }

  some_plain : {ks fs : List (FieldOver T)} → Some ks fs → Each (λ seen k. WellFormedField G k × (k.head.type_id ≡ 0)) [] fs → Each (λ seen k. WellFormedField G k × (k.head.type_id ≡ 0)) [] ks
  some_plain s e = some_each _ (λ seen seen' f t h g w. (other_type f t g w.0, w.1)) s [] [] (λ i n. n) e

  fewer_fits : (seen seen' : List (FieldOver T)) (i : ℕ) → Fewer seen' seen → id_fits (ids seen) i ≡ 0 → id_fits (ids seen') i ≡ 0
  unfolding unless
  fewer_fits seen seen' i h e =
      let (p, q) = then_zero _ _ e in
      then_got _ _ p (go (among i (ids seen)) refl q)
    where
      go : (b : Bool) → among i (ids seen) ≡ b → unless (not b) id_repeated ≡ 0 → unless (not (among i (ids seen'))) id_repeated ≡ 0
      go true r q = absurd (omega (arith, q))
      go false r q = unless_got _ id_repeated (ap not (h i r))

  -- some of the children of a type that holds fields, but not none
  some_children : (c : Children) → Held c → {ks fs : List (FieldOver T)} → 1 ≤ length ks → Some ks fs → WellFormedChildren G c fs → WellFormedChildren G c ks
  some_children c (one e) {ks} {fs} n s w =
      subst (λ c. WellFormedChildren G c ks) (sym e) (
      let v = subst (λ c. WellFormedChildren G c fs) e w in (omega (arith, n, some_few s, v.0), some_plain s v.1)
      )
  some_children c (some e) {ks} {fs} n s w = subst (λ c. WellFormedChildren G c ks) (sym e) (some_plain s (subst (λ c. WellFormedChildren G c fs) e w))
  some_children c (some_with_ids e) {ks} {fs} n s w =
      subst (λ c. WellFormedChildren G c ks) (sym e)
      (some_each _ (λ seen seen' f t h g v. (other_type f t g v.0, fewer_fits seen seen' f.head.type_id h v.1)) s [] [] (λ i n. n) (subst (λ c. WellFormedChildren G c fs) e w))

  -- two children, the second with another type
  second_children : (c : Children) (f g : FieldOver T) (t : T) → ((o : Bool) → G o g.data_type → G o t) → WellFormedChildren G c (f ∷ g ∷ []) → WellFormedChildren G c (f ∷ with_data_type g t ∷ [])
  second_children (fields n) f g t h w = (w.0, (w.1.0, ((other_type g t h w.1.1.0.0, w.1.1.0.1), tt)))
  second_children key_and_value f g t h w = (w.0, (w.1.0, ((w.1.1.0.0, h false w.1.1.0.1), tt)))
  second_children counted f g t h w = (w.0, ((other_type g t h w.1.0.0, w.1.0.1), tt))
  second_children counted_with_ids f g t h w = (w.0, ((other_type g t h w.1.0.0, w.1.0.1), tt))

  module _ (filter : T → Bytes → Filtered T) (keeps : (o : Bool) (t : T) (mask : Bytes) → G o t → Leaves (G o) (filter t mask)) where
    -- of a field, none or one is left
    field_some : (f : FieldOver T) (mask : Bytes) {ks fs : List (FieldOver T)} → Some ks fs → Some ((filter_field filter f mask).kept ++ ks) (f ∷ fs)
    unfolding filter_field filter_to filter_leaf choose
    field_some f mask {ks} {fs} s = go (filter f.data_type mask) (λ o g. keeps o f.data_type mask g)
      where
        single : (mask : Bytes) → Some ((filter_leaf f mask).kept ++ ks) (f ∷ fs)
        single [] = without f s
        single (b ∷ mask) = cases (eqb b 0) (λ e. rw e (without f s)) λ e. rw e (with f f.data_type (λ o g. g) s)

        go : (r : Filtered T) → ((o : Bool) → G o f.data_type → Leaves (G o) r) → Some ((filter_to f mask r).kept ++ ks) (f ∷ fs)
        go leaf h = single mask
        go (nested [] rest) h = without f s
        go (nested (t ∷ ts) rest) h = with f t (λ o g. first_left (h o g)) s

    each_some : (fs : List (FieldOver T)) (mask : Bytes) → Some (filter_each (filter_field filter) fs mask).kept fs
    unfolding filter_each
    each_some [] mask = nothing
    each_some (f ∷ fs) mask = field_some f mask (each_some fs (filter_field filter f mask).mask)

-- Types

module _ (l : ℕ) (filter : DataType l → Bytes → Filtered (DataType l))
    (keeps : (o : Bool) (t : DataType l) (mask : Bytes) → WellFormedType l o t → Leaves (WellFormedType l o) (filter t mask)) where
  left_keeps : (o : Bool) (t : DataType (suc l)) (mask : Bytes) → holds_fields t.code ≡ true → WellFormedType (suc l) o t
      → Leaves (WellFormedType (suc l) o) (with_left t (filter_each (filter_field filter) t.children mask))
  unfolding with_left choose
  left_keeps o t mask h w =
      let left = filter_each (filter_field filter) t.children mask in
      cases (eqb (length left.kept) 0) (λ e. rw e (below tt)) λ e.
      rw e (below {ts = with_children t left.kept ∷ []} (
        (
          w.0,
          w.1,
          some_children (WellFormedType l) (layout t.code).children (held_children t.code h) (omega (arith, eqb-false (length left.kept) 0 e)) (each_some (WellFormedType l) filter keeps t.children mask) w.2,
        ),
        tt,
      ))

  second_keeps : (o : Bool) (t : DataType (suc l)) (mask : Bytes) → encodes t.code ≡ true → WellFormedType (suc l) o t → Leaves (WellFormedType (suc l) o) (look_through filter t t.children mask)
  unfolding look_through around
  second_keeps o t mask e w = go t.children (encoded_two t.code e t.children (type_laid_out (suc l) o t w).1) w.2
    where
      look : (f g : Field l) → WellFormedChildren (WellFormedType l) (layout t.code).children (f ∷ g ∷ []) → (r : Filtered (DataType l))
          → ((o : Bool) → WellFormedType l o g.data_type → Leaves (WellFormedType l o) r) → Leaves (WellFormedType (suc l) o) (around t f g r)
      look f g v leaf h = alone
      look f g v (nested [] rest) h = below tt
      look f g v (nested (d ∷ ds) rest) h =
          below {ts = with_children t (f ∷ with_data_type g d ∷ []) ∷ []} ((w.0, w.1, second_children (WellFormedType l) (layout t.code).children f g d (λ o k. first_left (h o k)) v), tt)

      go : (ks : List (Field l)) → length ks ≡ 2 → WellFormedChildren (WellFormedType l) (layout t.code).children ks → Leaves (WellFormedType (suc l) o) (look_through filter t ks mask)
      go [] n v = alone
      go (f ∷ []) n v = alone
      go (f ∷ g ∷ []) n v = look f g v (filter g.data_type mask) (λ o k. keeps o g.data_type mask k)
      go (f ∷ g ∷ x ∷ ks) n v = absurd (omega (arith, n))

type_keeps : (l : ℕ) (through o : Bool) (t : DataType l) (mask : Bytes) → WellFormedType l o t → Leaves (WellFormedType l o) (filter_type l through t mask)
unfolding filter_type choose
type_keeps zero through o t mask w = alone
type_keeps (suc l) through o t mask w =
    cases (holds_fields t.code) (λ e. rw e (left_keeps l _ (type_keeps l true) o t mask e w)) λ e.
    rw e (cases (through && encodes t.code) (λ e. rw e (second_keeps l _ (type_keeps l false) o t mask (and_true through _ e).1 w)) λ e.
    rw e alone)

-- Schemas

-- what the filter leaves of a schema that one sheet can hold, one sheet can hold
pub filter_keeps : (x y : Schema) (mask : Bytes) (e : ℕ) → Fits x → filter_leaves x mask ≡ got y e → Fits y
unfolding filter_leaves filter_columns
filter_keeps x y mask e fits h =
    let kept = (filter_columns x.columns mask).kept in
    let good : WellFormedSchema (record { metadata = x.metadata; columns = kept }) = record {
      metadata = fits.well_formed.metadata;
      columns = some_plain (WellFormedType max_levels) (each_some (WellFormedType max_levels) (filter_type max_levels true) (type_keeps max_levels true) x.columns mask) fits.well_formed.columns;
    } in
    record { well_formed = subst WellFormedSchema (judged_value _ 0 0 h) good; size = omega (arith, fits.size, filter_no_longer x y mask e h) }

-- so the answer to a filter is a sheet, and reads as the schema that was written
pub filter_reads : (sheet mask b : Bytes) → AreBytes sheet → filter_answer sheet mask ≡ bytes b → (y : Schema) × (b ≡ sheet_bytes y) × (read_sheet b ≡ got y (length b))
unfolding filter_answer sheet_answer
filter_reads sheet mask b byte h =
    let (x, e, p, q) = then_inv _ _ h in
    let (y, i, r, w) = then_inv _ _ q in
    let fits = filter_keeps x y mask i (of_got (subst (Holds _) p (sheet_exact sheet byte))).1 r in
    let same : sheet_bytes y ≡ b = bytes_inv w in
    (y, sym same, subst (λ b. read_sheet b ≡ got y (length b)) same (sheet_reads y fits))
