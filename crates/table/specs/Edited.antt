-- What the functions that take a table leave of it, and what they say of it: each with a relation of the train, the buffer and how many of its
-- bytes are in use before, and what these are after.
use Rattle.std.specs.Prelude.{ℕ, ◌≡◌, length, Result, Ok, Err}
use Rattle.model.specs.Bytes.{Bytes}
use Rattle.buffer.specs.declared.refusal.Number.{Number}
use Rattle.table.specs.Says.{Merged}
use Rattle.table.specs.declared.Table.{Table}

-- the same train, and the same buffer, as long as it was
pub record SameBuffers (t t' : Table) : Type 0 where
  pub train : t'.train ≡ t.train
  pub buffer : t'.w.ghost_name ≡ t.w.ghost_name
  pub size : length t'.w.now ≡ length t.w.now

-- bytes change, and as many are in use
pub record Rewrites (R : (s w : Bytes) (used : ℕ) (w' : Bytes) → Type 0) (t t' : Table) : Type 0 where
  pub same : SameBuffers t t'
  pub used : t'.used ≡ t.used
  pub is : R t.train.now t.w.now t.used t'.w.now

-- an edit that gives how many bytes are in use then
pub record Edits (E : (s w : Bytes) (used : ℕ) (w' : Bytes) (used' : ℕ) → Type 0) (t t' : Table) : Type 0 where
  pub same : SameBuffers t t'
  pub is : E t.train.now t.w.now t.used t'.w.now t'.used

-- how many bytes are in use after a merge, or the clash
abbrev pub merged : Table → Result Unit Number → Merged
merged t (Ok _) = Ok t.used
merged t (Err n) = Err n

-- a merge
pub record Merges (M : (s w : Bytes) (used : ℕ) (w' : Bytes) (r : Merged) → Type 0) (t t' : Table) (r : Result Unit Number) : Type 0 where
  pub same : SameBuffers t t'
  pub is : M t.train.now t.w.now t.used t'.w.now (merged t' r)
