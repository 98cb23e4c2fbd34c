-- Going over fields of a sheet and writing the columns that they become.
use Rattle.std.specs.Prelude.{ℕ, ◌+◌, ◌≤◌, ◌<◌, ◌≡◌, List, [], ◌∷◌, ◌++◌, length, get_or, leb}
use Rattle.model.specs.Numbers.{max_levels, max_sheet_bytes}
use Rattle.model.specs.Bytes.{Bytes, choose}
use Rattle.model.specs.Tree.{Head, DataType, Field, Schema, blank}
use Rattle.model.specs.Sheet.{each, head_bytes, field_bytes, type_bytes, column_bytes, sheet_bytes}
use Rattle.model.specs.WellFormed.{LaidOut, Fits}
use Rattle.model.specs.Schema.{plain_column, join, expand, normalized_columns}
use Rattle.buffer.specs.declared.Output.{Output}
use Rattle.buffer.specs.Puts.{Puts}
use Rattle.walk.specs.Stands.{Stands, AllLaidOut}
use Rattle.normalize.specs.declared.Reach.{Reach}

-- Names

-- the fields that hold a field, the outermost first: their heads stand at the places of the path
pub record Above (s : Bytes) (path : List ℕ) (hs : List Head) : Type 0 where
  pub count : length hs ≡ length path
  pub stand : (i : ℕ) → i < length path → Stands s (get_or path i 0) (head_bytes (get_or hs i blank))

-- what the name of a column below them begins with: each name, with the separator behind it
unfoldable pub prefix : Bytes → List Head → Bytes
prefix separator hs = join (λ h. h.name ++ separator) hs

-- r is the length of b, where a string may be so long, else above the longest
pub record Measures (b : Bytes) (r : ℕ) : Type 0 where
  pub inside : length b ≤ max_sheet_bytes → r ≡ length b
  pub beyond : max_sheet_bytes < length b → max_sheet_bytes < r

-- Columns

-- The columns are put, and counted on from c: o' is the output then, and d their number. Nothing is said of the number where they pass the
-- longest answer.
pub record Adds (cs : List (Field max_levels)) (o o' : Output) (c d : ℕ) : Type 0 where
  pub puts : Puts (each column_bytes cs) o o'
  pub counts : o.written + length (each column_bytes cs) ≤ max_sheet_bytes → c + length cs ≤ max_sheet_bytes → d ≡ c + length cs

-- Where the bytes b stand at the place, the walk goes past them and adds the columns. It may stop once they pass the longest answer.
pub record Expands (s b : Bytes) (cs : List (Field max_levels)) (o o' : Output) (from to : Reach) : Type 0 where
  pub behind : Stands s from.place b → o'.written ≤ max_sheet_bytes → to.place ≡ from.place + length b
  pub adds : Stands s from.place b → Adds cs o o' from.count to.count

-- a type of fewer levels is written as a column's by the same bytes
abbrev pub Lifts : (l : ℕ) → (DataType l → DataType max_levels) → Type 0
Lifts l up = (t : DataType l) → type_bytes max_levels (up t) ≡ type_bytes l t

module _ (separator : Bytes) where
  -- the column that a field is itself
  abbrev pub own_column : (l : ℕ) → (DataType l → DataType max_levels) → List Head → Field l → Field max_levels
  own_column l up hs f = plain_column (prefix separator hs ++ f.head.name) f.head (up f.data_type)

  -- the columns that it becomes
  abbrev pub columns_of : (maxLevel depth l : ℕ) → (DataType l → DataType max_levels) → List Head → Field l → List (Field max_levels)
  columns_of maxLevel depth l up hs f = expand separator maxLevel l up depth (prefix separator hs ++ f.head.name) f.head f.data_type

-- What the walk does below the fields of a path, for any field with those above it

abbrev pub ExpandsColumn : (s separator : Bytes) (path : List ℕ) (o o' : Output) (from to : Reach) → Type 0
ExpandsColumn s separator path o o' from to =
    (l : ℕ) (up : DataType l → DataType max_levels) (hs : List Head) (f : Field l)
    → l + length path ≤ max_levels → Lifts l up → Above s path hs → LaidOut l f.data_type
    → Expands s (field_bytes (type_bytes l) f) (own_column separator l up hs f ∷ []) o o' from to

abbrev pub ExpandsField : (s separator : Bytes) (maxLevel : ℕ) (path : List ℕ) (o o' : Output) (from to : Reach) → Type 0
ExpandsField s separator maxLevel path o o' from to =
    (l : ℕ) (up : DataType l → DataType max_levels) (hs : List Head) (f : Field l)
    → l + length path ≤ max_levels → Lifts l up → Above s path hs → LaidOut l f.data_type
    → Expands s (field_bytes (type_bytes l) f) (columns_of separator maxLevel (length path) l up hs f) o o' from to

-- so many fields
abbrev pub ExpandsFields : (s separator : Bytes) (maxLevel : ℕ) (path : List ℕ) (count : ℕ) (o o' : Output) (from to : Reach) → Type 0
ExpandsFields s separator maxLevel path count o o' from to =
    (l : ℕ) (up : DataType l → DataType max_levels) (hs : List Head) (ks : List (Field l))
    → l + length path ≤ max_levels → Lifts l up → Above s path hs → length ks ≡ count → AllLaidOut l ks
    → Expands s (each (field_bytes (type_bytes l)) ks) (join (columns_of separator maxLevel (length path) l up hs) ks) o o' from to

-- The sheet

-- the schema that `normalize` answers
abbrev pub normalized : Bytes → ℕ → Schema → Schema
normalized separator maxLevel x = record { metadata = []; columns = normalized_columns separator maxLevel x.columns }

-- where s is the sheet of a schema that was read, its columns are put, and n is their number
abbrev pub PutsColumns : (s separator : Bytes) (maxLevel : ℕ) (o o' : Output) (n : ℕ) → Type 0
PutsColumns s separator maxLevel o o' n =
    (x : Schema) → Fits x → s ≡ sheet_bytes x → Adds (normalized_columns separator maxLevel x.columns) o o' 0 n

-- and the sheet of the normalised schema, where so many is the number of its columns
abbrev pub PutsNormalized : (s separator : Bytes) (maxLevel count : ℕ) (o o' : Output) → Type 0
PutsNormalized s separator maxLevel count o o' =
    (x : Schema) → Fits x → s ≡ sheet_bytes x → count ≡ length (normalized_columns separator maxLevel x.columns)
    → Puts (sheet_bytes (normalized separator maxLevel x)) o o'

-- the length of a sheet without metadata, whose columns behind its map and their count reach so far
unfoldable pub sheet_length : ℕ → ℕ
sheet_length end = choose (leb end 3) (λ u. 1) λ u. end
