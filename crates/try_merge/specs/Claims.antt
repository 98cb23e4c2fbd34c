-- What the functions that merge the sheets of a train promise: s is the train, w the work buffer before, of which `used` bytes are in use, w' after.
use Rattle.std.specs.Prelude.{ℕ, ◌+◌, ◌*◌, ◌≤◌, ◌<◌, ◌≡◌, List, [], ◌∷◌, ◌++◌, Bool, length, Result}
use Rattle.model.specs.Numbers.{max_sheets, work_bytes_per_sheet_byte}
use Rattle.model.specs.Bytes.{Bytes, Every}
use Rattle.model.specs.Tree.{Schema}
use Rattle.model.specs.Sheet.{each, pair_bytes, column_bytes, sheet_bytes}
use Rattle.model.specs.WellFormed.{WellFormedSchema, Fits}
use Rattle.model.specs.Read.{got}
use Rattle.model.specs.Merge.{merge_schema, try_merge}
use Rattle.walk.specs.Stands.{Stands}
use Rattle.sheet.specs.Answers.{step_of}
use Rattle.buffer.specs.declared.refusal.Refusal.{Refusal}
use Rattle.buffer.specs.Refusals.{numbered}
use Rattle.table.specs.Held.{Held}
use Rattle.table.specs.Table.{u24, no_place, no_entry, SpellSchema}
use Rattle.table.specs.Becomes.{Becomes}
use Rattle.table.specs.Says.{Merged}

-- the table of the empty schema
abbrev pub empty_table : Bytes
empty_table = u24 no_place ++ (no_entry ∷ [])

pub record BeginsTable (w w' : Bytes) (used : ℕ) : Type 0 where
  pub same_length : length w' ≡ length w
  pub begins : 4 ≤ length w → Held w' used [] empty_table []

-- what the pairs and the columns of a sheet may add to the table: four bytes for each of theirs, and so four less than for all of the sheet
abbrev pub added : Schema → ℕ
added y = 4 * length (each pair_bytes y.metadata) + 4 * length (each column_bytes y.columns)

-- one sheet
pub record MergesSheet (parked : Bool) (q : ℕ) (s w : Bytes) (used : ℕ) (w' : Bytes) (r : Merged) : Type 0 where
  pub says : (y : Schema) → Stands s q (sheet_bytes y) → WellFormedSchema y → length s < no_place
      → Becomes (SpellSchema s) (SpellSchema s) w used 0 (added y) w' r λ x. merge_schema parked x y

-- the table spells a schema, from its first byte on
pub record Spelt (s w : Bytes) (x : Schema) : Type 0 where
  pub room : ℕ
  pub spelt : Bytes
  pub spells : SpellSchema s room spelt x
  pub stands : Stands w 0 spelt

-- all sheets of a train
pub record MergesSheets (parked : Bool) (s w w' : Bytes) (r : Result ℕ Refusal) : Type 0 where
  pub same_length : length w' ≡ length w
  pub merges : (xs : List Schema) → s ≡ each sheet_bytes xs → Every Fits xs → length xs ≤ max_sheets → 1 ≤ length s → work_bytes_per_sheet_byte * length s ≤ length w
      → (numbered r ≡ step_of (try_merge parked xs)) × ((x : Schema) (n : ℕ) → try_merge parked xs ≡ got x n → Spelt s w' x)
