-- What "grown" means, and the third demand.
use Rattle.std.specs.Prelude.{ℕ, zero, suc, ◌≡◌, Bool, true, ◌&&◌, ◌⊎◌, length}
use mathlib.Core.List.{List, [], ◌∷◌, ◌++◌, map, Memᴰ}
use Rattle.model.specs.Numbers.{max_levels, accepted}
use Rattle.model.specs.Bytes.{Bytes, AreBytes, Metadata, Every}
use Rattle.model.specs.Tree.{DataTypeOver, FieldOver, DataType, Schema, Null, List', LargeList, Struct, Union}
use Rattle.model.specs.Sheet.{each, field_bytes, type_bytes}
use Rattle.model.specs.Read.{got, read_sheet}
use Rattle.model.specs.Merge.{is_null}
use Rattle.model.specs.Call.{Exit, written, merge_call}

-- the second list begins with the first, related element by element
pub data Begins {A : Type 0} (R : A → A → Type 0) : List A → List A → Type 0 where
  here : {ys : List A} → Begins R [] ys
  onto : {x y : A} {xs ys : List A} → R x y → Begins R xs ys → Begins R (x ∷ xs) (y ∷ ys)

-- the lists are as long as each other, and related element by element
pub data Pairwise {A : Type 0} (R : A → A → Type 0) : List A → List A → Type 0 where
  none : Pairwise R [] []
  pair : {x y : A} {xs ys : List A} → R x y → Pairwise R xs ys → Pairwise R (x ∷ xs) (y ∷ ys)

-- "Metadata is kept if each key still has its value."
abbrev pub Kept : Metadata → Metadata → Type 0
Kept old new = (p : Bytes × Bytes) → Memᴰ p old → Memᴰ p new

-- an order flag stayed; or, parked log first, it was that of a Null: that mode lets "the order flag change where the old type was Null"
abbrev pub Stayed : (parked null old new : Bool) → Type 0
Stayed parked null old new = (old ≡ new) ⊎ ((parked && null) ≡ true)

-- "A field grew if name and order flag are equal, old metadata is all kept, nullable stayed if set, and the type is identical or grew."
-- `G nullable t t'` says the last of a type t and the type t' of a field that is now nullable or not.
pub record GrownField {T : Type 0} (parked : Bool) (is_null : T → Bool) (G : Bool → T → T → Type 0) (f g : FieldOver T) : Type 0 where
  pub name : f.head.name ≡ g.head.name
  pub dict_is_ordered : Stayed parked (is_null f.data_type) f.head.dict_is_ordered g.head.dict_is_ordered
  pub metadata : Kept f.head.metadata g.head.metadata
  -- the dictionary number: "Growth and the third promise keep it equal."
  pub dict_id : f.head.dict_id ≡ g.head.dict_id
  pub nullable : f.head.nullable ≡ true → g.head.nullable ≡ true
  pub data_type : G g.head.nullable f.data_type g.data_type

-- a union child as it stands in a sheet: "begins with the same children and ids"
abbrev pub child_bytes : {T : Type 0} → (T → Bytes) → FieldOver T → Bytes
child_bytes write f = f.head.type_id ∷ field_bytes write f

-- How the type a of a field, now nullable or not, became b. `type` and `child` give what must be equal for two types, or two union
-- children, to count as the same; `F` says of two fields that one grew into the other.
pub data GrownOver {T A C : Type 0} (type : DataTypeOver (FieldOver T) → A) (child : FieldOver T → C) (F : FieldOver T → FieldOver T → Type 0) (nullable : Bool) (a b : DataTypeOver (FieldOver T)) : Type 0 where
  identical : type a ≡ type b → GrownOver type child F nullable a b
  -- "if it was Null and the field holding it is now nullable"
  was_null : a.code ≡ Null → nullable ≡ true → GrownOver type child F nullable a b
  -- "if Struct still begins with its old children in order, each grown"
  struct : a.code ≡ Struct → b.code ≡ Struct → Begins F a.children b.children → GrownOver type child F nullable a b
  -- "if List or LargeList has its child grown"
  list : a.code ≡ List' → b.code ≡ List' → Pairwise F a.children b.children → GrownOver type child F nullable a b
  large_list : a.code ≡ LargeList → b.code ≡ LargeList → Pairwise F a.children b.children → GrownOver type child F nullable a b
  -- "if Union keeps its mode and begins with the same children and ids"
  union : a.code ≡ Union → b.code ≡ Union → a.params ≡ b.params → Begins (λ x y. child x ≡ child y) a.children b.children
      → GrownOver type child F nullable a b

-- The type is identical or grew, under a field that is now nullable or not. "Types and union children count as the same, or identical,
-- when their bytes are equal."
abbrev pub Grown : Bool → (l : ℕ) → Bool → DataType l → DataType l → Type 0
Grown parked zero nullable a b = ⊥
Grown parked (suc l) nullable a b = GrownOver (type_bytes (suc l)) (child_bytes (type_bytes l)) (GrownField parked (is_null l) (Grown parked l)) nullable a b

-- each column at the same index, and the schema's own metadata kept
pub record GrownSchema (parked : Bool) (x y : Schema) : Type 0 where
  pub metadata : Kept x.metadata y.metadata
  pub columns : Begins (GrownField parked (is_null max_levels) (Grown parked max_levels)) x.columns y.columns

-- "no struct in any of them holding a name twice". "An empty name counts as a name."

abbrev pub Distinct : List Bytes → Type 0
Distinct [] = Unit {0}
Distinct (n ∷ ns) = Every (λ m. n ≡ m → ⊥) ns × Distinct ns

abbrev pub names : {T : Type 0} → List (FieldOver T) → List Bytes
names fs = map (λ f. f.head.name) fs

-- "any": at every depth, in the children of every type
abbrev pub NoNameTwice : (l : ℕ) → DataType l → Type 0
NoNameTwice zero t = ⊥
NoNameTwice (suc l) t = (t.code ≡ Struct → Distinct (names t.children)) × Every (λ f. NoNameTwice l f.data_type) t.children

-- "each sheet is whole and reads without refusal"
pub record WholeSheet (s : Bytes) : Type 0 where
  pub bytes : AreBytes s
  pub schema : Schema
  pub reads : read_sheet s ≡ got schema (length s)

-- "with no struct in any of them holding a name twice"; "a sheet's own columns may repeat a name"
pub record SheetOfDemand3 (s : Bytes) : Type 0 where
  pub whole : WholeSheet s
  pub no_name_twice : Every (λ f. NoNameTwice max_levels f.data_type) whole.schema.columns

-- "sheets end to end"
abbrev pub end_to_end : List Bytes → Bytes
end_to_end ss = each (λ s. s) ss

-- an accepted call, and the schema of the sheet that it wrote
abbrev pub Accepts : Exit → Type 0
Accepts e = e.number ≡ accepted

abbrev pub WroteSheet : Exit → Schema → Type 0
WroteSheet e x = read_sheet (written e) ≡ got x e.length

-- "take two merges with equal buffers, the first given the list, the second the list and then those that follow. If the second is accepted,
-- so is the first, and" its schema is grown into the second's: said of lists of whichever sheets. "Equal buffers are equal in length, answer
-- with answer and work with work."
abbrev pub MergeOnlyGrows : Bool → (Bytes → Type 0) → Type 0
MergeOnlyGrows parked Sheet =
    (list following : List Bytes) → Every Sheet list → Every Sheet following →
    (work work' answer answer' : Bytes) → length work ≡ length work' → length answer ≡ length answer' →
    let first = merge_call parked (end_to_end list) work answer in
    let second = merge_call parked (end_to_end (list ++ following)) work' answer' in
    Accepts second →
    Accepts first × (old : Schema) × (new : Schema) × WroteSheet first old × WroteSheet second new × GrownSchema parked old new

-- Demand 3: "For every list of sheets, empty too, and whatever sheets follow it, with no struct in any of them holding a name twice".
-- It "speaks of two merges in the same mode" (document 02, Item 6), whichever that is.
abbrev pub Demand3 : Type 0
Demand3 = (parked : Bool) → MergeOnlyGrows parked SheetOfDemand3
