-- Bytes that stand at a place of a sheet, and the place behind them; what the functions of `walk` give of each part.
use Rattle.std.specs.Prelude.{ℕ, ◌+◌, ◌≤◌, ◌≡◌, List, ◌∷◌, ◌++◌, Bool, length, drop}
use Rattle.model.specs.Numbers.{max_levels}
use Rattle.model.specs.Bytes.{Bytes, Every, flag}
use Rattle.model.specs.Tree.{Head, DataType, Field, Schema, Children}
use Rattle.model.specs.Sheet.{head_map, front_bytes, each, part, stands, with_count, text_bytes, pair_bytes, field_bytes, children_bytes, type_bytes, column_bytes, sheet_bytes}
use Rattle.model.specs.WellFormed.{CountFits, LaidOut}
use Rattle.model.specs.Datatype.{is_nested}

-- the bytes b stand in s from a place on
pub record Stands (s : Bytes) (place : ℕ) (b : Bytes) : Type 0 where
  pub inside : place + length b ≤ length s
  pub bytes : drop place s ≡ b ++ drop (place + length b) s

-- where the bytes b stand at a place, r is the place behind them
pub record Skips (s : Bytes) (place : ℕ) (b : Bytes) (r : ℕ) : Type 0 where
  pub behind : Stands s place b → r ≡ place + length b

-- where a field's map, name and metadata stand at a place, r is the place behind the name
abbrev pub SkipsName : (s : Bytes) (place r : ℕ) → Type 0
SkipsName s place r = (h : Head) → Stands s place (front_bytes h) → Skips s place (head_map h ∷ part text_bytes h.name) r

-- Trees of at most so many levels

abbrev pub SkipsType : (s : Bytes) (place levels r : ℕ) → Type 0
SkipsType s place levels r = (l : ℕ) (t : DataType l) → l ≤ levels → LaidOut l t → Skips s place (type_bytes l t) r

abbrev pub SkipsField : (s : Bytes) (place levels r : ℕ) → Type 0
SkipsField s place levels r = (l : ℕ) (f : Field l) → l ≤ levels → LaidOut l f.data_type → Skips s place (field_bytes (type_bytes l) f) r

-- the types of fields are laid out
abbrev pub AllLaidOut : (l : ℕ) → List (Field l) → Type 0
AllLaidOut l ks = Every (λ k. LaidOut l k.data_type) ks

-- so many fields, and so many bytes before each
abbrev pub SkipsRow : (s : Bytes) (place count before levels r : ℕ) → Type 0
SkipsRow s place count before levels r =
    (l : ℕ) (front : Head → Bytes) (ks : List (Field l)) → ((h : Head) → length (front h) ≡ before) → l ≤ levels → length ks ≡ count → AllLaidOut l ks
    → Skips s place (each (λ k. front k.head ++ field_bytes (type_bytes l) k) ks) r

-- a union's child: an id and a field
abbrev pub member_bytes : (l : ℕ) → Field l → Bytes
member_bytes l k = k.head.type_id ∷ field_bytes (type_bytes l) k

abbrev pub SkipsMember : (s : Bytes) (place levels r : ℕ) → Type 0
SkipsMember s place levels r = (l : ℕ) (f : Field l) → l ≤ levels → LaidOut l f.data_type → Skips s place (member_bytes l f) r

-- the children of a type, of a kind
abbrev pub SkipsChildren : (s : Bytes) (place : ℕ) → Children → (levels r : ℕ) → Type 0
SkipsChildren s place k levels r =
    (l : ℕ) (ks : List (Field l)) → l ≤ levels → CountFits k ks → AllLaidOut l ks → Skips s place (children_bytes (type_bytes l) k ks) r

-- the verdict on the type that stands at a place
abbrev pub TellsNested : (s : Bytes) (place levels : ℕ) → Bool → Type 0
TellsNested s place levels r = (l : ℕ) (t : DataType l) → l ≤ levels → LaidOut l t → Stands s place (type_bytes l t) → r ≡ is_nested l t

-- Sheets

-- the map and the metadata
abbrev pub sheet_head : Schema → Bytes
sheet_head x = (flag 1 (stands x.metadata) + flag 2 (stands x.columns)) ∷ part (with_count pair_bytes) x.metadata

-- where a sheet stands at a place, r is the place behind its map and metadata
abbrev pub SkipsSheetHead : (s : Bytes) (place r : ℕ) → Type 0
SkipsSheetHead s place r = (x : Schema) → Stands s place (sheet_bytes x) → Skips s place (sheet_head x) r

-- of a schema whose sheet stands at a place: the number of columns, and where the first stands; they reach to the sheet's end
pub record ColumnsAt (s : Bytes) (place : ℕ) (x : Schema) (n first : ℕ) : Type 0 where
  pub count : n ≡ length x.columns
  pub stands : Stands s first (each column_bytes x.columns)
  pub ends : first + length (each column_bytes x.columns) ≡ place + length (sheet_bytes x)

abbrev pub SkipsSheet : (s : Bytes) (place r : ℕ) → Type 0
SkipsSheet s place r = (x : Schema) → AllLaidOut max_levels x.columns → Skips s place (sheet_bytes x) r
