-- Going over bytes of a sheet and writing down the places of the fields among them.
use Rattle.std.specs.Prelude.{ℕ, ◌+◌, ◌≤◌, ◌<◌, ◌≡◌, List, ◌++◌, length}
use Rattle.model.specs.Bytes.{Bytes, u16}
use Rattle.model.specs.Tree.{Head, DataType, Field, Schema, layout}
use Rattle.model.specs.Sheet.{each, with_count, field_bytes, children_bytes, type_bytes, sheet_bytes}
use Rattle.model.specs.WellFormed.{LaidOut, CountFits, WellFormedSchema}
use Rattle.model.specs.Schema.{each_at, field_fields, child_fields, type_fields, flattened_fields}
use Rattle.walk.specs.Stands.{Stands, AllLaidOut}
use Rattle.buffer.specs.declared.Output.{Output}
use Rattle.buffer.specs.Buffer.{pasted}
use Rattle.buffer.specs.Puts.{Puts}

-- Where the bytes b stand at a place of a sheet s, `behind` is the place behind them, and the numbers ns are put, two bytes each.
pub record Flattens (s : Bytes) (place : ℕ) (b : Bytes) (ns : List ℕ) (o o' : Output) (behind : ℕ) : Type 0 where
  pub does : length s < 65536 → Stands s place b → (behind ≡ place + length b) × Puts (each u16 ns) o o'

-- Fields and types of at most so many levels

-- the places of a field and of those below it
abbrev pub own : (l : ℕ) → ℕ → Field l → List ℕ
own l = field_fields (type_bytes l) (type_fields l)

abbrev pub FlattensType : (s : Bytes) (place levels : ℕ) (o o' : Output) (behind : ℕ) → Type 0
FlattensType s place levels o o' behind = (l : ℕ) (t : DataType l) → l ≤ levels → LaidOut l t → Flattens s place (type_bytes l t) (type_fields l place t) o o' behind

abbrev pub FlattensField : (s : Bytes) (place levels : ℕ) (o o' : Output) (behind : ℕ) → Type 0
FlattensField s place levels o o' behind =
    (l : ℕ) (f : Field l) → l ≤ levels → LaidOut l f.data_type → Flattens s place (field_bytes (type_bytes l) f) (own l place f) o o' behind

-- so many fields, and so many bytes before each
abbrev pub FlattensRow : (s : Bytes) (place count before levels : ℕ) (o o' : Output) (behind : ℕ) → Type 0
FlattensRow s place count before levels o o' behind =
    (l : ℕ) (front : Head → Bytes) (one : ℕ → Field l → List ℕ) (ks : List (Field l)) → ((h : Head) → length (front h) ≡ before) → ((n : ℕ) (k : Field l) → one n k ≡ own l (n + before) k)
    → l ≤ levels → length ks ≡ count → AllLaidOut l ks
    → Flattens s place (each (λ k. front k.head ++ field_bytes (type_bytes l) k) ks) (each_at (λ k. front k.head ++ field_bytes (type_bytes l) k) one place ks) o o' behind

-- the children of a type of a code
abbrev pub FlattensChildren : (s : Bytes) (place code levels : ℕ) (o o' : Output) (behind : ℕ) → Type 0
FlattensChildren s place code levels o o' behind =
    (l : ℕ) (ks : List (Field l)) → l ≤ levels → CountFits (layout code).children ks → AllLaidOut l ks
    → Flattens s place (children_bytes (type_bytes l) (layout code).children ks) (child_fields (type_bytes l) (type_fields l) code place ks) o o' behind

-- Where s is the sheet of a schema, and there is room: what `flattened_fields` answers is written over w from its start on, and r is its length.
pub record Listed (s w w' : Bytes) (r : ℕ) : Type 0 where
  pub listed : (x : Schema) → WellFormedSchema x → s ≡ sheet_bytes x → length s < 65536 → length (with_count u16 (flattened_fields x)) ≤ length w
      → (r ≡ length (with_count u16 (flattened_fields x))) × (w' ≡ pasted w 0 (with_count u16 (flattened_fields x)))
