-- The flattened offsets are the places of the fields' maps in the sheet.
use Prim.Native.Nat.{ℕ, zero, suc, ◌+◌, ◌*◌, ◌≤◌, ◌<◌, max}
use native.Mathlib.Nat.{zero-add, suc-add, add-zero, add-suc}
use native.Mathlib.Omega.{arith}
use mathlib.Core.Path.{◌≡◌, refl, sym, ap, ◌∙◌}
use mathlib.Core.List.{List, [], ◌∷◌, ◌++◌, append_assoc, append-nil}
use mathlib.Core.Bool.{Bool, true, false, ◌&&◌, ◌||◌, false≢true, and-eq-true_iff}
use lib.ListN.{length, drop, get_or, length-append}
use lib.Seq.{drop-drop, drop_at}
use lib.Dec.{eqb}
use borrow.Table.Steps.{cases}
use borrow.Author.Tests.{eqb-true}
use Rattle.model.specs.Numbers.{max_levels}
use Rattle.model.specs.Bytes.{Bytes, choose, u16, among}
use Rattle.model.specs.Tree.{FieldOver, DataType, Field, Schema, Struct, Union, Dictionary, RunEndEncoded, Children, fields, key_and_value, counted, counted_with_ids, Layout, leaf, table, layout}
use Rattle.model.specs.Sheet.{front_bytes, each, with_count, part, pair_bytes, head_bytes, field_bytes, children_bytes, type_bytes, column_bytes, sheet_bytes}
use Rattle.model.specs.Schema.{join, each_at, after_first, field_fields, child_fields, type_fields, flattened_fields}

-- The fields in the order of `Schema::flattened_fields`, each by its own bytes

module _ {T : Type 0} (write : T → Bytes) (flat_type : T → List Bytes) where
  -- `Field::fields`: the field itself, then those of its type
  unfoldable pub flat_field : FieldOver T → List Bytes
  flat_field f = field_bytes write f ∷ flat_type f.data_type

  -- `Field::_fields`: of a Dictionary those of its value type, of a RunEndEncoded its values' and theirs, else every child's and theirs.
  -- Keys and run ends are the first of two children.
  unfoldable pub flat_children : ℕ → List (FieldOver T) → List Bytes
  flat_children code ks =
      choose (eqb code Dictionary) (λ u. join (λ k. flat_type k.data_type) (drop 1 ks)) λ u.
      choose (eqb code RunEndEncoded) (λ u. join flat_field (drop 1 ks)) λ u.
      join flat_field ks

unfoldable pub flat_type : (l : ℕ) → DataType l → List Bytes
flat_type zero t = []
flat_type (suc l) t = flat_children (type_bytes l) (λ x. flat_type l x) t.code t.children

abbrev pub flat_fields : (l : ℕ) → Field l → List Bytes
flat_fields l f = flat_field (type_bytes l) (flat_type l) f

-- these bytes stand at this place of s
pub record Stands (s : Bytes) (place : ℕ) (b : Bytes) : Type 0 where
  pub rest : Bytes
  pub bytes : drop place s ≡ b ++ rest

-- the lists are as long as each other, and each byte string stands at its place
pub data PairwiseStands (s : Bytes) : List ℕ → List Bytes → Type 0 where
  none : PairwiseStands s [] []
  more : {place : ℕ} {b : Bytes} {places : List ℕ} {bs : List Bytes}
      → Stands s place b → PairwiseStands s places bs → PairwiseStands s (place ∷ places) (b ∷ bs)

-- How the arms of `Field::_fields` and the layouts of the table go together

pub data Arm (c : ℕ) (k : Children) : Type 0 where
  struct : c ≡ Struct → k ≡ counted → Arm c k
  union : c ≡ Union → k ≡ counted_with_ids → Arm c k
  dictionary : c ≡ Dictionary → k ≡ key_and_value → Arm c k
  other : (n : ℕ) → k ≡ fields n → eqb c Struct ≡ false → eqb c Union ≡ false → eqb c Dictionary ≡ false → Arm c k

is_fields : Children → Bool
is_fields (fields n) = true
is_fields key_and_value = false
is_fields counted = false
is_fields counted_with_ids = false

-- a code with so many fields, or one of the three whose children are written in another way
abbrev fixed : ℕ → Layout → Bool
fixed c x = is_fields x.children || among c (Struct ∷ Union ∷ Dictionary ∷ [])

fixed_from : ℕ → List Layout → Bool
fixed_from c [] = true
fixed_from c (x ∷ xs) = fixed c x && fixed_from (suc c) xs

fixed_entry : (xs : List Layout) (c i : ℕ) → fixed_from c xs ≡ true → fixed (c + i) (get_or xs i leaf) ≡ true
unfolding is_fields fixed_from
fixed_entry [] c i h = refl
fixed_entry (x ∷ xs) c zero h = rw add-zero ((and-eq-true_iff (fixed c x) _).0 h).0
fixed_entry (x ∷ xs) c (suc i) h = rw (add-suc, ← suc-add) (fixed_entry xs (suc c) i ((and-eq-true_iff (fixed c x) _).0 h).1)

pub arm : (c : ℕ) → Arm c (layout c).children
unfolding layout table fixed_from is_fields among
arm c =
    cases (eqb c Struct) (λ e. let h = eqb-true c Struct e in struct h (ap (λ c. (layout c).children) h)) λ s.
    cases (eqb c Union) (λ e. let h = eqb-true c Union e in union h (ap (λ c. (layout c).children) h)) λ u.
    cases (eqb c Dictionary) (λ e. let h = eqb-true c Dictionary e in dictionary h (ap (λ c. (layout c).children) h)) λ d.
    go (layout c).children (rw (zero-add, s, u, d) at (fixed_entry table 0 c refl)) s u d
  where
    go : (k : Children) → (is_fields k || false) ≡ true → eqb c Struct ≡ false → eqb c Union ≡ false → eqb c Dictionary ≡ false → Arm c k
    go (fields n) h = other n refl
    go key_and_value h = absurd (false≢true h)
    go counted h = absurd (false≢true h)
    go counted_with_ids h = absurd (false≢true h)

-- Places

module _ {s : Bytes} where
  stands_front : {place : ℕ} (b c : Bytes) → Stands s place (b ++ c) → Stands s place b
  stands_front b c h = record { rest = c ++ h.rest; bytes = h.bytes ∙ append_assoc b c h.rest }

  stands_behind : {place : ℕ} (b c : Bytes) (next : ℕ) → place + length b ≡ next → Stands s place (b ++ c) → Stands s next c
  stands_behind {place} b c next e h =
      let n = length b in
      let step : drop n (drop place s) ≡ c ++ h.rest = ap (drop n) (h.bytes ∙ append_assoc b c h.rest) ∙ drop_at b (c ++ h.rest) n refl in
      record { rest = h.rest; bytes = ap (λ n. drop n s) (sym e) ∙ sym (drop-drop n place s) ∙ step }

  pairwise_append : {ps qs : List ℕ} {bs cs : List Bytes} → PairwiseStands s ps bs → PairwiseStands s qs cs → PairwiseStands s (ps ++ qs) (bs ++ cs)
  pairwise_append none k = k
  pairwise_append (more h hs) k = more h (pairwise_append hs k)

  module _ {A : Type 0} (write : A → Bytes) (one : ℕ → A → List ℕ) (flat : A → List Bytes)
      (one-stands : (place : ℕ) (x : A) → Stands s place (write x) → PairwiseStands s (one place x) (flat x)) where
    each_stands : (place : ℕ) (xs : List A) → Stands s place (each write xs) → PairwiseStands s (each_at write one place xs) (join flat xs)
    unfolding each_at join
    each_stands place [] h = none
    each_stands place (x ∷ xs) h =
        pairwise_append (one-stands place x (stands_front (write x) (each write xs) h)) (each_stands (place + length (write x)) xs (stands_behind (write x) (each write xs) _ refl h))

    after_first_stands : (place : ℕ) (xs : List A) → Stands s place (each write xs)
        → PairwiseStands s (after_first write one place xs) (join flat (drop 1 xs))
    unfolding after_first join
    after_first_stands place [] h = none
    after_first_stands place (x ∷ xs) h = each_stands _ xs (stands_behind (write x) (each write xs) _ refl h)

  module _ {T : Type 0} (write : T → Bytes) (places : ℕ → T → List ℕ) (flat : T → List Bytes)
      (type_stands : (place : ℕ) (t : T) → Stands s place (write t) → PairwiseStands s (places place t) (flat t)) where
    field_stands : (place : ℕ) (f : FieldOver T) → Stands s place (field_bytes write f)
        → PairwiseStands s (field_fields write places place f) (flat_field write flat f)
    unfolding field_fields flat_field field_bytes
    field_stands place f h = more h (type_stands _ f.data_type (stands_behind (head_bytes f.head) (write f.data_type) _ refl h))

    children_stand : (c : ℕ) (k : Children) → Arm c k → (place : ℕ) (ks : List (FieldOver T)) → Stands s place (children_bytes write k ks)
        → PairwiseStands s (child_fields write places c place ks) (flat_children write flat c ks)
    unfolding child_fields flat_children children_bytes with_count u16 choose
    children_stand c k (struct e q) place ks h =
        let g = rw q at h in
        rw e (each_stands (field_bytes write) _ _ field_stands _ ks (stands_behind (u16 (length ks)) (each (field_bytes write) ks) _ refl g))
    children_stand c k (union e q) place ks h =
        let g = rw q at h in
        let w : FieldOver T → Bytes = λ k. k.head.type_id ∷ field_bytes write k in
        let one : (p : ℕ) (k : FieldOver T) → Stands s p (w k) → PairwiseStands s (field_fields write places (suc p) k) (flat_field write flat k) =
        λ p k h. field_stands (suc p) k (stands_behind (k.head.type_id ∷ []) (field_bytes write k) (suc p) (omega arith) h) in
        rw e (each_stands w _ _ one _ ks (stands_behind (u16 (length ks)) (each w ks) _ refl g))
    children_stand c k (dictionary e q) place ks h =
        let g = rw q at h in
        rw e (after_first_stands (λ k. write k.data_type) _ _ (λ p k h. type_stands p k.data_type h) place ks g)
    children_stand c k (other n q s u d) place ks h =
        let g = rw q at h in
        rw (s, u, d) (cases (eqb c RunEndEncoded) (λ e. rw e (after_first_stands (field_bytes write) _ _ field_stands place ks g)) λ e.
        rw e (each_stands (field_bytes write) _ _ field_stands place ks g))

  type_stands : (l place : ℕ) (t : DataType l) → Stands s place (type_bytes l t) → PairwiseStands s (type_fields l place t) (flat_type l t)
  unfolding type_fields flat_type type_bytes
  type_stands zero place t h = none
  type_stands (suc l) place t h =
      let k = (layout t.code).children in
      let behind = stands_behind (t.code ∷ t.params) (children_bytes (type_bytes l) k t.children) (suc place + length t.params) (omega arith) h in
      children_stand (type_bytes l) _ _ (type_stands l) t.code k (arm t.code) _ t.children behind

  columns_stand : (place : ℕ) (cs : List (Field max_levels)) → Stands s place (part (with_count column_bytes) cs)
      → PairwiseStands s (each_at column_bytes (field_fields (type_bytes max_levels) (type_fields max_levels)) (place + 2) cs) (join (flat_fields max_levels) cs)
  unfolding each_at join with_count u16
  columns_stand place [] h = none
  columns_stand place (c ∷ cs) h =
      let behind = stands_behind (u16 (length (c ∷ cs))) (each column_bytes (c ∷ cs)) (place + 2) refl h in
      each_stands column_bytes _ _ (field_stands (type_bytes max_levels) _ _ (type_stands max_levels)) (place + 2) (c ∷ cs) behind

-- the flattened offsets are, one by one, the places in the sheet of the bytes of the fields: each is the place of a field's map
pub flattened_stands : (x : Schema) → PairwiseStands (sheet_bytes x) (flattened_fields x) (join (flat_fields max_levels) x.columns)
unfolding flattened_fields sheet_bytes
flattened_stands x =
    let meta = part (with_count pair_bytes) x.metadata in
    let whole : Stands (sheet_bytes x) 0 (sheet_bytes x) = record { rest = []; bytes = sym (append-nil (sheet_bytes x)) } in
    columns_stand (1 + length meta) x.columns (stands_behind {place = 0} (_ ∷ meta) (part (with_count column_bytes) x.columns) _ (omega arith) whole)

-- How many

length_pairwise : {s : Bytes} {ps : List ℕ} {bs : List Bytes} → PairwiseStands s ps bs → length ps ≡ length bs
length_pairwise none = refl
length_pairwise (more h hs) = ap suc (length_pairwise hs)

-- there are as many offsets as fields
pub flattened_count : (x : Schema) → length (flattened_fields x) ≡ length (join (flat_fields max_levels) x.columns)
flattened_count x = length_pairwise (flattened_stands x)

-- A field takes at least two bytes, a type one more than twice the fields below it

module _ {A : Type 0} (write : A → Bytes) (flat : A → List Bytes) (half : (x : A) → 2 * length (flat x) ≤ length (write x)) where
  join_half : (xs : List A) → 2 * length (join flat xs) ≤ length (each write xs)
  unfolding join
  join_half [] = omega arith
  join_half (x ∷ xs) = omega (arith, half x, join_half xs, length-append (flat x) (join flat xs), length-append (write x) (each write xs))

  rest_half : (xs : List A) → 2 * length (join flat (drop 1 xs)) ≤ length (each write xs)
  unfolding join
  rest_half [] = omega arith
  rest_half (x ∷ xs) = omega (arith, join_half xs, length-append (write x) (each write xs))

module _ {T : Type 0} (write : T → Bytes) (flat : T → List Bytes) (half : (t : T) → 2 * length (flat t) < length (write t)) where
  field_half : (f : FieldOver T) → 2 * length (flat_field write flat f) ≤ length (field_bytes write f)
  unfolding flat_field field_bytes head_bytes front_bytes
  field_half f = omega (arith, half f.data_type, length-append (head_bytes f.head) (write f.data_type))

  children_half : (c : ℕ) (k : Children) → Arm c k → (ks : List (FieldOver T))
      → 2 * length (flat_children write flat c ks) ≤ length (children_bytes write k ks)
  unfolding flat_children children_bytes with_count u16 choose
  children_half c k (struct e q) ks = rw (e, q) (omega (arith, join_half (field_bytes write) (flat_field write flat) field_half ks))
  children_half c k (union e q) ks =
      rw (e, q) (omega (arith, join_half (λ k. k.head.type_id ∷ field_bytes write k) (flat_field write flat) (λ k. omega (arith, field_half k)) ks))
  children_half c k (dictionary e q) ks = rw (e, q) (rest_half (λ k. write k.data_type) _ (λ k. omega (arith, half k.data_type)) ks)
  children_half c k (other n q s u d) ks =
      rw (q, d) (cases (eqb c RunEndEncoded) (λ e. rw e (rest_half (field_bytes write) _ field_half ks)) λ e.
      rw e (join_half (field_bytes write) _ field_half ks))

type_half : (l : ℕ) (t : DataType l) → 2 * length (flat_type l t) < length (type_bytes l t)
unfolding flat_type type_bytes
type_half zero t = absurd t
type_half (suc l) t =
    let k = (layout t.code).children in
    omega (
      arith,
      children_half (type_bytes l) (flat_type l) (type_half l) t.code k (arm t.code) t.children,
      length-append t.params (children_bytes (type_bytes l) k t.children),
    )

-- u16 numbers take two bytes each
pub length_numbers : (ns : List ℕ) → length (each u16 ns) ≡ 2 * length ns
unfolding u16
length_numbers [] = refl
length_numbers (n ∷ ns) = omega (arith, length_numbers ns)

-- with the count
columns_half : (cs : List (Field max_levels)) → 2 + 2 * length (join (flat_fields max_levels) cs) ≤ max 2 (length (part (with_count column_bytes) cs))
unfolding join with_count u16
columns_half [] = omega arith
columns_half (c ∷ cs) =
    omega (arith, join_half column_bytes (flat_fields max_levels) (field_half (type_bytes max_levels) (flat_type max_levels) (type_half max_levels)) (c ∷ cs))

-- the answer with the offsets is no longer than the sheet, or it is the count 0 alone: so it is never above 65,535 bytes
pub flattened_no_longer : (x : Schema) → length (with_count u16 (flattened_fields x)) ≤ max 2 (length (sheet_bytes x))
unfolding with_count u16 sheet_bytes
flattened_no_longer x =
    let columns = part (with_count column_bytes) x.columns in
    omega (
      arith,
      columns_half x.columns,
      flattened_count x,
      length_numbers (flattened_fields x),
      length-append (part (with_count pair_bytes) x.metadata) columns,
    )

-- a sheet has at least two bytes for each of its fields
pub flattened_half : (x : Schema) → 2 * length (flattened_fields x) ≤ length (sheet_bytes x)
unfolding with_count u16 sheet_bytes
flattened_half x = omega (arith, flattened_no_longer x, length_numbers (flattened_fields x))
