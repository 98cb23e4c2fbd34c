-- What the functions of the merge promise: the table between x and z spells the model's merge, and grows by at most four bytes for each byte
-- that came in; or the number is the model's clash. Each says so of every table and every incoming part that stand where it is told.
use Rattle.std.specs.Prelude.{ℕ, suc, ◌+◌, ◌*◌, ◌≤◌, ◌<◌, ◌≡◌, List, [], ◌∷◌, ◌++◌, Bool, cond, ◌||◌, ◌&&◌, ◌⊎◌, length, get_or, Result, Ok, Err}
use Rattle.model.specs.Bytes.{Bytes, same, same_bytes}
use Rattle.model.specs.Tree.{FieldOver, DataType, Field, with_data_type, with_children, List', LargeList, Struct, Union}
use Rattle.model.specs.Sheet.{each, field_bytes, type_bytes}
use Rattle.model.specs.Merge as model
use Rattle.model.specs.Merge.{◌>>=◌, done, need, orders_agree, merge_field, merge_by_name, merge_each, merge_same_code, merge_type, is_null, pour}
use Rattle.model.specs.Numbers.{type_clash}
use Rattle.model.specs.Equal.{same_child, same_type}
use Rattle.buffer.specs.declared.refusal.Number.{Number}
use Rattle.walk.specs.Stands.{Stands}
use Rattle.table.specs.Held.{Held}
use Rattle.table.specs.Table.{no_place, u24, open_struct, SpellField, SpellType, SpellRow}
use Rattle.table.specs.Look.{Cut}
use Rattle.table.specs.Becomes.{Incoming, IncomingType, IncomingFields, Becomes, Coded}
use Rattle.table.specs.Says.{Merged}

-- a field into the entry at a place
pub record MergesField (parked : Bool) (levels place q : ℕ) (s w : Bytes) (used : ℕ) (w' : Bytes) (r : Merged) : Type 0 where
  pub says : (l : ℕ) (g : Field l) → l ≤ levels → Incoming l s q g
      → Becomes (SpellField l s) (SpellField l s) w used place (4 * length (field_bytes (type_bytes l) g)) w' r λ f. merge_field parked (merge_type parked l) (is_null l) f g

-- a type into the one at a place, of a field whose first occurrence had the type `first`
pub record MergesType (parked : Bool) (levels place t : ℕ) (s w : Bytes) (used : ℕ) (w' : Bytes) (r : Merged) : Type 0 where
  pub says : (l : ℕ) (first u : DataType l) → l ≤ levels → IncomingType l s t u
      → Becomes (SpellType l s first) (SpellType l s first) w used place (4 * length (type_bytes l u)) w' r λ a. merge_type parked l a u

-- the same where both have the code, which is not that of Null
pub record MergesSameCode (parked : Bool) (code levels place t : ℕ) (s w : Bytes) (used : ℕ) (w' : Bytes) (r : Merged) : Type 0 where
  pub says : (l : ℕ) (first u : DataType (suc l)) → suc l ≤ levels → u.code ≡ code → IncomingType (suc l) s t u
      → Becomes (Coded l s first code) (SpellType (suc l) s first) w used place (4 * length (type_bytes (suc l) u)) w' r
      λ a. merge_same_code parked (λ x y. merge_type parked l x y) (is_null l) (same_type l) a u

-- fields into a row, by name
abbrev pub by_name : Bool → (l : ℕ) → List (Field l) → Field l → model.Merged (List (Field l))
by_name parked l = merge_by_name (merge_field parked (merge_type parked l) (is_null l))

pub record Pours (parked : Bool) (levels row q count : ℕ) (s w : Bytes) (used : ℕ) (w' : Bytes) (r : Merged) : Type 0 where
  pub says : (l : ℕ) (gs : List (Field l)) → l ≤ levels → IncomingFields l s q count gs
      → Becomes (SpellRow l s) (SpellRow l s) w used row (4 * length (each (field_bytes (type_bytes l)) gs)) w' r λ fs. pour (by_name parked l) fs gs

-- a row, and a place between its entries to look at first
abbrev pub Hinted : (l : ℕ) (s : Bytes) (row hint k : ℕ) (y : Bytes) (fs : List (Field l)) → Type 0
Hinted l s row hint k y fs = SpellRow l s k y fs × Cut l s row k y fs hint

-- one field into a row: the same, and where to look first for the next one
pub record Puts (parked : Bool) (levels row hint q : ℕ) (s w : Bytes) (used : ℕ) (w' : Bytes) (r : Merged) (next : ℕ) : Type 0 where
  pub says : (l : ℕ) (g : Field l) → l ≤ levels → Incoming l s q g
      → Becomes (Hinted l s row hint) (Hinted l s row next) w used row (4 * length (field_bytes (type_bytes l) g)) w' r λ fs. by_name parked l fs g

-- of what it answers, that place; at a clash there is no next one
abbrev pub PutsField : (parked : Bool) (levels row hint q : ℕ) → Result ℕ Number → (s w : Bytes) (used : ℕ) (w' : Bytes) (used' : ℕ) → Type 0
PutsField parked levels row hint q (Ok next) s w used w' used' = Puts parked levels row hint q s w used w' (Ok used') next
PutsField parked levels row hint q (Err c) s w used w' used' = Puts parked levels row hint q s w used w' (Err c) row

-- The parts of merging a field

-- nullable and ordered or not
abbrev pub with_flags : {T : Type 0} → FieldOver T → (nullable ordered : Bool) → FieldOver T
with_flags f n o = record { head = record { type_id = f.head.type_id; nullable = n; dict_is_ordered = o; name = f.head.name; metadata = f.head.metadata; dict_id = f.head.dict_id }; data_type = f.data_type }

-- of two fields that are merged
abbrev pub both_flags : (l : ℕ) → Field l → Field l → Field l
both_flags l f g =
    with_flags f (f.head.nullable || g.head.nullable || is_null l f.data_type || is_null l g.data_type)
    (cond (is_null l f.data_type) g.head.dict_is_ordered f.head.dict_is_ordered)

-- what is left of merging a field when the order flags agree and its metadata is settled
abbrev pub merge_rest : Bool → (l : ℕ) → Field l → Field l → model.Merged (Field l)
merge_rest parked l f g = merge_type parked l f.data_type g.data_type >>= λ t. done (with_data_type (both_flags l f g) t)

pub record MergesRest (parked : Bool) (levels place q : ℕ) (s w : Bytes) (used : ℕ) (w' : Bytes) (r : Merged) : Type 0 where
  pub says : (l : ℕ) (g : Field l) → l ≤ levels → Incoming l s q g
      → Becomes (SpellField l s) (SpellField l s) w used place (4 * length (type_bytes l g.data_type)) w' r λ f. merge_rest parked l f g

-- Opened types

-- an open struct with these children
pub record OpenStruct (l : ℕ) (s : Bytes) (k : ℕ) (y : Bytes) (ks : List (Field l)) : Type 0 where
  pub place : ℕ
  pub row_bytes : Bytes
  pub row_room : ℕ
  pub bytes : y ≡ open_struct ∷ (u24 place ++ row_bytes)
  pub small : place < no_place
  pub code : get_or s place 0 ≡ Struct
  pub row : SpellRow l s row_room row_bytes ks
  pub room : 4 + row_room ≤ k

-- a struct is opened: its own children are poured by name
pub record OpensStruct (parked : Bool) (levels place : ℕ) (s w : Bytes) (used : ℕ) (w' : Bytes) (r : Merged) : Type 0 where
  pub says : (l : ℕ) (first : DataType (suc l)) → l ≤ levels → length s < no_place
      → Becomes (Coded l s first Struct) (OpenStruct l s) w used place 0 w' r λ a. pour (by_name parked l) [] a.children

-- two structs: the first's children, then the other's
pub record MergesStruct (parked : Bool) (levels place t : ℕ) (s w : Bytes) (used : ℕ) (w' : Bytes) (r : Merged) : Type 0 where
  pub says : (l : ℕ) (first u : DataType (suc l)) → l ≤ levels → u.code ≡ Struct → IncomingType (suc l) s t u
      → Becomes (Coded l s first Struct) (SpellType (suc l) s first) w used place (4 * length (type_bytes (suc l) u)) w' r
      λ a. pour (by_name parked l) [] (a.children ++ u.children) >>= λ ks. done (with_children a ks)

-- two lists, or two large lists
pub record MergesList (parked : Bool) (levels place t : ℕ) (s w : Bytes) (used : ℕ) (w' : Bytes) (r : Merged) : Type 0 where
  pub says : (l : ℕ) (first u : DataType (suc l)) (code : ℕ) → l ≤ levels → (code ≡ List') ⊎ (code ≡ LargeList) → u.code ≡ code → IncomingType (suc l) s t u
      → Becomes (Coded l s first code) (SpellType (suc l) s first) w used place (4 * length (type_bytes (suc l) u)) w' r
      λ a. merge_each parked (merge_type parked l) (is_null l) a.children u.children >>= λ ks. done (with_children a ks)

-- types of a code that nothing is merged inside
pub record MergesEqual (levels place t : ℕ) (s w : Bytes) (used : ℕ) (w' : Bytes) (r : Merged) : Type 0 where
  pub says : (l : ℕ) (first u : DataType (suc l)) (code : ℕ) → suc l ≤ levels → (code ≡ Struct → ⊥) → (code ≡ Union → ⊥) → ((code ≡ List') ⊎ (code ≡ LargeList) → ⊥)
      → u.code ≡ code → IncomingType (suc l) s t u
      → Becomes (Coded l s first code) (SpellType (suc l) s first) w used place (4 * length (type_bytes (suc l) u)) w' r
      λ a. need (same_bytes a.params u.params && same (same_child (same_type l)) a.children u.children) type_clash a

-- the flags of an entry whose type stands at b are set for an incoming field, whose type stands at t
pub record SetsFlags (place b q t : ℕ) (s w : Bytes) (used : ℕ) (w' : Bytes) : Type 0 where
  pub says : (l : ℕ) (f g : Field l) (x y z : Bytes) (k : ℕ) (e : SpellField l s k y f) → Held w used x y z → place ≡ length x → b ≡ length x + (4 + length e.metadata_bytes)
      → Stands s q (field_bytes (type_bytes l) g) → Stands s t (type_bytes l g.data_type)
      → (v : Bytes) × (e' : SpellField l s k v (both_flags l f g)) × Held w' used x v z × (length e'.metadata_bytes ≡ length e.metadata_bytes)

-- whether the type of an entry or of a field of the train is Null
pub record HasNull (s w : Bytes) (place q : ℕ) (r : Bool) : Type 0 where
  pub says : (l k : ℕ) (y : Bytes) (f g : Field l) → SpellField l s k y f → Stands w place y → Stands s q (field_bytes (type_bytes l) g)
      → r ≡ (is_null l f.data_type || is_null l g.data_type)

-- whether the order flags of an entry and of a field of the train let them be merged
pub record OrdersAgree (parked : Bool) (s w : Bytes) (place q : ℕ) (r : Bool) : Type 0 where
  pub says : (l k : ℕ) (y : Bytes) (f g : Field l) → SpellField l s k y f → Stands w place y → Stands s q (field_bytes (type_bytes l) g)
      → r ≡ orders_agree parked (is_null l) f g
