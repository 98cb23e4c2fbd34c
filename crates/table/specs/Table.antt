-- The schema merged so far, as a table in the work buffer. The train stays where it is and is the only source of names, metadata and
-- types; an entry of the table refers to it by places. Each relation says of some bytes y what they stand for in the train s, and how many
-- bytes k they may grow to in all: what they were made of, four bytes for each byte, as the work buffer has them.
use Rattle.std.specs.Prelude.{ℕ, zero, suc, ◌+◌, ◌*◌, ◌/◌, ◌%◌, ◌≤◌, ◌<◌, ◌≡◌, List, [], ◌∷◌, ◌++◌, Bool, true, false, ◌⊎◌, length, get_or, eqb, cond}
use Rattle.model.specs.Numbers.{max_levels}
use Rattle.model.specs.Bytes.{Bytes, Metadata, Every}
use Rattle.model.specs.Tree.{DataTypeOver, FieldOver, DataType, Field, Schema, Null, List', LargeList, Struct, Union}
use Rattle.model.specs.Sheet.{each, with_count, part, pair_bytes, field_bytes, type_bytes}
use Rattle.model.specs.WellFormed.{WellFormedField, WellFormedType, Whole}
use Rattle.model.specs.Growth.{Distinct, names}
use Rattle.walk.specs.Stands.{Stands, member_bytes}
use Rattle.table.specs.declared.Kind.{Kind}
use Rattle.table.specs.declared.Kind.TheVariants.{Raw, OpenStruct, OpenList, OpenUnion}

-- a place of the train, in three bytes: a train has at most 256 times 65,535 bytes
unfoldable pub u24 : ℕ → Bytes
u24 n = n % 256 ∷ n / 256 % 256 ∷ n / 65536 % 256 ∷ []

-- the number at a place of the table
unfoldable pub three : Bytes → ℕ → ℕ
three w p = get_or w p 0 + 256 * get_or w (p + 1) 0 + 65536 * get_or w (p + 2) 0

-- what stands behind the last place of a row of places, where no place can be
abbrev pub no_place : ℕ
no_place = 16777215

-- what stands behind the last entry of a row of entries; an entry begins with its flags, which are below 8
abbrev pub no_entry : ℕ
no_entry = 255

-- The kinds of a type's entry

-- nothing was merged inside it: all of it stands in the train
abbrev pub raw : ℕ
raw = 0

-- its children have entries of their own
abbrev pub open_struct : ℕ
open_struct = 1

abbrev pub open_list : ℕ
open_list = 2

-- each of its children stands in the train
abbrev pub open_union : ℕ
open_union = 3

-- the kind of a byte
unfoldable pub kind_of : ℕ → Kind
kind_of b = cond (eqb b raw) Raw (cond (eqb b open_struct) OpenStruct (cond (eqb b open_list) OpenList OpenUnion))

-- one behind the other
pub data Rows {A : Type 0} (P : ℕ → Bytes → A → Type 0) : ℕ → Bytes → List A → Type 0 where
  none : Rows P 0 [] []
  more : {k m : ℕ} {y ys : Bytes} {x : A} {xs : List A} → P k y x → Rows P m ys xs → Rows P (k + m) (y ++ ys) (x ∷ xs)

-- at each place of the train stands what is written of the one
pub data Refer {A : Type 0} (s : Bytes) (write : A → Bytes) : List ℕ → List A → Type 0 where
  none_left : Refer s write [] []
  one_place : {p : ℕ} {ps : List ℕ} {x : A} {xs : List A} → p < no_place → Stands s p (write x) → Refer s write ps xs → Refer s write (p ∷ ps) (x ∷ xs)

-- a row of places, and its end
abbrev pub places_bytes : List ℕ → Bytes
places_bytes ps = each u24 ps ++ u24 no_place

pub record Places {A : Type 0} (s : Bytes) (write : A → Bytes) (k : ℕ) (y : Bytes) (xs : List A) : Type 0 where
  pub places : List ℕ
  pub bytes : y ≡ places_bytes places
  pub refer : Refer s write places xs
  pub room : 3 * length places + 3 ≤ k

-- a field's metadata: that of its first occurrence, or a row of the places of its pairs
pub data SpellMetadata (s : Bytes) (k : ℕ) (opened : Bool) (y : Bytes) (own m : Metadata) : Type 0 where
  raw_pairs : opened ≡ false → y ≡ [] → own ≡ m → 4 * length (part (with_count pair_bytes) own) ≤ k → SpellMetadata s k opened y own m
  pair_places : opened ≡ true → Places s pair_bytes k y m → SpellMetadata s k opened y own m

-- an entry: flags (bit 0 nullable and bit 1 ordered dictionary, as in a field's map; bit 2 metadata of its own), the place of the first
-- occurrence, its metadata, its type. P spells a type, given that of the first occurrence.
pub record SpellFieldOver {T : Type 0} (write : T → Bytes) (G : Bool → T → Type 0) (P : T → ℕ → Bytes → T → Type 0) (s : Bytes) (k : ℕ) (y : Bytes) (f : FieldOver T) : Type 0 where
  pub flags : ℕ
  pub first : ℕ
  pub own : FieldOver T
  pub metadata_bytes : Bytes
  pub type_spelt : Bytes
  pub metadata_room : ℕ
  pub type_room : ℕ
  pub bytes : y ≡ flags ∷ (u24 first ++ (metadata_bytes ++ type_spelt))
  pub small_flags : flags < 8
  pub small : first < no_place
  pub stands : Stands s first (field_bytes write own)
  pub well_formed : WellFormedField G own
  pub name : own.head.name ≡ f.head.name
  pub dict_is_ordered : eqb (flags / 2 % 2) 1 ≡ f.head.dict_is_ordered
  pub dict_id : own.head.dict_id ≡ f.head.dict_id
  pub type_id : f.head.type_id ≡ 0
  pub nullable : eqb (flags % 2) 1 ≡ f.head.nullable
  pub metadata : SpellMetadata s metadata_room (eqb (flags / 4) 1) metadata_bytes own.head.metadata f.head.metadata
  pub data_type : P own.data_type type_room type_spelt f.data_type
  pub room : 4 + metadata_room + type_room ≤ k

-- a row of entries, no two of one name, and its end
pub record SpellRowOver {T : Type 0} (P : ℕ → Bytes → FieldOver T → Type 0) (k : ℕ) (y : Bytes) (fs : List (FieldOver T)) : Type 0 where
  pub row_bytes : Bytes
  pub row_room : ℕ
  pub bytes : y ≡ row_bytes ++ (no_entry ∷ [])
  pub row : Rows P row_room row_bytes fs
  pub distinct : Distinct (names fs)
  pub room : row_room + 1 ≤ k

-- a type that stands in the train
pub record RawAt (l : ℕ) (s : Bytes) (k x : ℕ) (t : DataType l) : Type 0 where
  pub small : x < no_place
  pub stands : Stands s x (type_bytes l t)
  pub ordered : Bool
  pub well_formed : WellFormedType l ordered t
  pub room : 4 * length (type_bytes l t) ≤ k

-- A type: its kind and a place of the train where a type of its code stands, for a union the one whose mode it has; then what was merged
-- inside. `P` spells a child, `R` says that a type stands at a place, `C` writes a union child and `W` holds of it. A raw type is that of
-- the first occurrence, unless that one is Null.
pub data SpellTypeOver {T : Type 0} (P : ℕ → Bytes → FieldOver T → Type 0) (R : ℕ → ℕ → DataTypeOver (FieldOver T) → Type 0) (C : FieldOver T → Bytes) (W : FieldOver T → Type 0)
    (s : Bytes) (first : DataTypeOver (FieldOver T)) (k : ℕ) (y : Bytes) (t : DataTypeOver (FieldOver T)) : Type 0 where
  spell_raw : (x : ℕ) → y ≡ raw ∷ u24 x → R k x t → (eqb first.code Null ≡ false → first ≡ t) → SpellTypeOver P R C W s first k y t
  spell_struct : (x m : ℕ) (ys : Bytes) → y ≡ open_struct ∷ (u24 x ++ ys) → x < no_place → get_or s x 0 ≡ Struct → t.code ≡ Struct → t.params ≡ []
      → SpellRowOver P m ys t.children → 4 + m ≤ k → SpellTypeOver P R C W s first k y t
  spell_list : (x m : ℕ) (ys : Bytes) (c : FieldOver T) → y ≡ open_list ∷ (u24 x ++ ys) → x < no_place → get_or s x 0 ≡ t.code → (t.code ≡ List') ⊎ (t.code ≡ LargeList)
      → t.params ≡ [] → P m ys c → t.children ≡ c ∷ [] → 4 + m ≤ k → SpellTypeOver P R C W s first k y t
  spell_union : (x m : ℕ) (ys : Bytes) → y ≡ open_union ∷ (u24 x ++ ys) → x < no_place → get_or s x 0 ≡ Union → t.code ≡ Union → t.params ≡ get_or s (x + 1) 0 ∷ []
      → Places s C m ys t.children → Every W t.children → 4 + m ≤ k → SpellTypeOver P R C W s first k y t

-- of so many levels

abbrev pub SpellType : (l : ℕ) → Bytes → DataType l → ℕ → Bytes → DataType l → Type 0
SpellType zero s first k y t = ⊥
SpellType (suc l) s first k y t =
    SpellTypeOver (λ i z f. SpellFieldOver (type_bytes l) (WellFormedType l) (λ o j v u. SpellType l s o j v u) s i z f) (RawAt (suc l) s)
    (member_bytes l) (λ f. Whole l f.data_type) s first k y t

abbrev pub SpellField : (l : ℕ) → Bytes → ℕ → Bytes → Field l → Type 0
SpellField l s k y f = SpellFieldOver (type_bytes l) (WellFormedType l) (λ o j v u. SpellType l s o j v u) s k y f

abbrev pub SpellRow : (l : ℕ) → Bytes → ℕ → Bytes → List (Field l) → Type 0
SpellRow l s k y fs = SpellRowOver (λ i z f. SpellField l s i z f) k y fs

-- the table: the places of the schema's pairs, then the columns
pub record SpellSchema (s : Bytes) (k : ℕ) (y : Bytes) (x : Schema) : Type 0 where
  pub metadata_bytes : Bytes
  pub columns_bytes : Bytes
  pub metadata_room : ℕ
  pub columns_room : ℕ
  pub bytes : y ≡ metadata_bytes ++ columns_bytes
  pub metadata : Places s pair_bytes metadata_room metadata_bytes x.metadata
  pub columns : SpellRow max_levels s columns_room columns_bytes x.columns
  pub room : metadata_room + columns_room ≤ k
