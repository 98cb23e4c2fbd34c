-- The three comparisons of document 01, module 2, under one name for each part of a tree: what the code's `Comparison` stands for.
use Rattle.std.specs.Prelude.{ℕ, ◌+◌, ◌≡◌, List, Bool, true, false, not, ◌&&◌, ◌||◌, length, eqb}
use Rattle.std.specs.Bool.{beq}
use Rattle.model.specs.Bytes.{Bytes, Metadata, choose, all, any, same, same_bytes}
use Rattle.model.specs.Tree.{Head, DataType, Field, Schema, Union, RunEndEncoded}
use Rattle.model.specs.Sheet.{each, pair_bytes}
use Rattle.model.specs.Equal.{same_metadata, same_field, same_child, same_type, same_columns}
use Rattle.model.specs.Datatype.{equals_field, equals_child, equals_datatype, equals_columns, contains_metadata, contains_field, contains_child, contains, contains_schema}
use Rattle.model.specs.Read.{read_two}
use Rattle.model.specs.Call.{and_then, yes_no, Exit, call}
use Rattle.walk.specs.Stands.{Stands}
use Rattle.datatype.specs.declared.compare.Comparison.{Comparison}
use Rattle.datatype.specs.declared.compare.Comparison.TheVariants.{Equal, EqualsDatatype, Contains}

-- Metadata that stands at a place: the number of its keys, and where the first stands
pub record PairsAt (s : Bytes) (m : Metadata) (n first : ℕ) : Type 0 where
  pub count : length m ≡ n
  pub stands : Stands s first (each pair_bytes m)

-- Heads: what the three fields' tests say without the types

unfoldable pub same_head : Head → Head → Bool
same_head h g = same_bytes h.name g.name && beq h.nullable g.nullable && same_metadata h.metadata g.metadata

unfoldable pub contains_head : Head → Head → Bool
contains_head h g =
    same_bytes h.name g.name && beq h.dict_is_ordered g.dict_is_ordered && (h.nullable || not g.nullable) && contains_metadata h.metadata g.metadata

unfoldable pub compare_head : Comparison → Head → Head → Bool
compare_head Equal h g = same_head h g
compare_head EqualsDatatype h g = beq h.nullable g.nullable
compare_head Contains h g = contains_head h g

-- Types, fields, children

unfoldable pub compare_type : Comparison → (l : ℕ) → DataType l → DataType l → Bool
compare_type Equal l = same_type l
compare_type EqualsDatatype l = equals_datatype l
compare_type Contains l = contains l

unfoldable pub compare_field : Comparison → (l : ℕ) → Field l → Field l → Bool
compare_field Equal l = same_field (same_type l)
compare_field EqualsDatatype l = equals_field (equals_datatype l)
compare_field Contains l = contains_field (contains l)

unfoldable pub compare_child : Comparison → (l : ℕ) → Field l → Field l → Bool
compare_child Equal l = same_child (same_type l)
compare_child EqualsDatatype l = equals_child (equals_datatype l)
compare_child Contains l = contains_child (contains l)

-- The children of two types of one code

-- union children are matched by id, but for plain equality
unfoldable pub by_id : Comparison → ℕ → Bool
by_id Equal code = false
by_id EqualsDatatype code = eqb code Union
by_id Contains code = eqb code Union

-- how the children of a type of this code are compared
unfoldable pub below : Comparison → ℕ → Comparison
below Equal code = Equal
below EqualsDatatype code = EqualsDatatype
below Contains code = choose (eqb code RunEndEncoded) (λ u. Equal) λ u. Contains

-- the numbers of children of two unions
unfoldable pub counts_agree : Comparison → ℕ → ℕ → Bool
counts_agree Equal n m = true
counts_agree EqualsDatatype n m = eqb n m
counts_agree Contains n m = true

unfoldable pub compare_members : Comparison → (l : ℕ) → List (Field l) → List (Field l) → Bool
compare_members how l js ks = counts_agree how (length js) (length ks) && all (λ j. any (compare_child how l j) ks) js

unfoldable pub compare_children : Comparison → (l : ℕ) → ℕ → List (Field l) → List (Field l) → Bool
compare_children how l code js ks = choose (by_id how code) (λ u. compare_members how l js ks) λ u. same (compare_child (below how code) l) js ks

-- Sheets, and the call

unfoldable pub compare_schema : Comparison → Schema → Schema → Bool
compare_schema Equal = same_columns
compare_schema EqualsDatatype = equals_columns
compare_schema Contains = contains_schema

unfoldable pub compare_call : Comparison → Bytes → Bytes → (work answer : Bytes) → Exit
compare_call how sheet other = call (length sheet + length other) (and_then (read_two sheet other) λ p. yes_no (compare_schema how p.0 p.1))
