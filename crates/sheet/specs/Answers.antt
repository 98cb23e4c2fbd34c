-- What the answers of this crate say: the images of the definition's steps, without the tree that was read.
use Rattle.std.specs.Prelude.{ℕ, ◌+◌, Result, Ok, Err}
use Rattle.model.specs.Numbers.{max_sheet_bytes}
use Rattle.model.specs.Read as read
use Rattle.sheet.specs.declared.Cursor.{Cursor}

-- the place past what was read, or the number and the place of the refusal
abbrev pub Step : Type 0
Step = Result ℕ (ℕ × ℕ)

-- a number that was read and the place past it, or the refusal
abbrev pub Item : Type 0
Item = Result (ℕ × ℕ) (ℕ × ℕ)

-- an item that is a number
abbrev pub item_of : read.Step ℕ → Item
item_of (read.got v e) = Ok (v, e)
item_of (read.bad n p) = Err (n, p)

-- anything that was read: the place past it
abbrev pub step_of : {A : Type 0} → read.Step A → Step
step_of (read.got a e) = Ok e
step_of (read.bad n p) = Err (n, p)

-- a cursor at a sheet's first byte
abbrev pub cursor_at : ℕ → Cursor
cursor_at place = record { at = place; limit = place + max_sheet_bytes }
