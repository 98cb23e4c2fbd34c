-- Writing an answer piece by piece, where its length may not be known yet.
use Rattle.std.specs.Prelude.{ℕ, zero, suc, ◌+◌, ◌≤◌, ◌<◌, ◌≡◌, Bool, true, false, length, ltb, Result, Ok, Err}
use Rattle.model.specs.Numbers.{max_sheet_bytes, accepted, answer_too_long, answer_buffer_short}
use Rattle.model.specs.Bytes.{Bytes, choose}
use Rattle.buffer.specs.declared.Output.{Output}
use Rattle.buffer.specs.declared.refusal.Number.{Number}
use Rattle.buffer.specs.declared.refusal.Refusal.{Refusal}
use Rattle.buffer.specs.Buffer.{pasted}
use Rattle.buffer.specs.Refusals.{without_place}

-- The bytes b are put behind what was put: o' is the output then. Where they pass the longest answer, it says so by how many were put, and
-- nothing is said of the buffer but its length; where they pass the buffer alone, they are counted still. So what writes an answer also finds
-- its length, in a buffer of no bytes.
pub record Puts (b : Bytes) (o o' : Output) : Type 0 where
  pub same_buffer : o'.buffer.ghost_name ≡ o.buffer.ghost_name
  pub inside : o.written + length b ≤ max_sheet_bytes → o'.written ≡ o.written + length b
  pub beyond : max_sheet_bytes < o.written + length b → max_sheet_bytes < o'.written
  pub size : length o'.buffer.now ≡ length o.buffer.now
  pub written : o.written + length b ≤ max_sheet_bytes → o.written + length b ≤ length o.buffer.now → o'.buffer.now ≡ pasted o.buffer.now o.written b

-- They are put into a buffer w from its start on: w' is the buffer then, and n says how many bytes they are. What it says is what `Puts` says
-- of an output whose buffer is w and to which nothing was put.
pub record Fills (b w w' : Bytes) (n : ℕ) : Type 0 where
  pub inside : length b ≤ max_sheet_bytes → n ≡ length b
  pub beyond : max_sheet_bytes < length b → max_sheet_bytes < n
  pub size : length w' ≡ length w
  pub written : length b ≤ max_sheet_bytes → length b ≤ length w → w' ≡ pasted w 0 b

-- the number for an answer of so many bytes in a buffer of so many: 30, then 31, or acceptance
unfoldable pub length_number : ℕ → ℕ → ℕ
length_number n room = choose (ltb max_sheet_bytes n) (λ u. answer_too_long) λ u. choose (ltb room n) (λ u. answer_buffer_short) λ u. accepted

-- a number without a place, unless it is that of acceptance
abbrev pub unless_refused : ℕ → Result Unit (ℕ × ℕ)
unless_refused zero = Ok tt
unless_refused (suc n) = Err (suc n, 0)

-- 32 where the work buffer is too short
abbrev pub unless_short : Bool → Result Unit Refusal
unless_short true = Err (without_place Number.WorkBufferShort)
unless_short false = Ok tt
