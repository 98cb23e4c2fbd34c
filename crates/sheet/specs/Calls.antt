-- What is asked of the parts of a call: of reading, and of what is answered of what was read.
use Rattle.std.specs.Prelude.{◌≡◌, ℕ, ◌*◌, ◌≤◌, length, Result, Err}
use Rattle.std.specs.Borrow.{MutBor}
use Rattle.model.specs.Numbers.{work_bytes_per_sheet_byte}
use Rattle.model.specs.Bytes.{Bytes}
use Rattle.model.specs.Tree.{Schema}
use Rattle.model.specs.Sheet.{sheet_bytes}
use Rattle.model.specs.WellFormed.{Fits}
use Rattle.model.specs.Call.{Answer, refused, settled, zeros}
use Rattle.buffer.specs.declared.refusal.Refusal.{Refusal}
use Rattle.buffer.specs.Refusals.{number_of}
use Rattle.buffer.specs.Leaves.{leaves}

-- each refusal that it gives is the outcome
abbrev pub Refuses : (post : Result ℕ Refusal → Type 0) → Answer → Type 0
Refuses post outcome = (x : Refusal) → post (Err x) → outcome ≡ refused (number_of x.0) x.1

-- whatever it gives and leaves, with room in the work buffer for so many sheet bytes, is the outcome
abbrev pub Settles : (post : MutBor Bytes → MutBor Bytes → Result ℕ Refusal → MutBor Bytes → MutBor Bytes → Type 0) → Answer → (given : ℕ) → Type 0
Settles post outcome given =
    (w a w' a' : MutBor Bytes) (r : Result ℕ Refusal) → work_bytes_per_sheet_byte * given ≤ length w.now → post w a r w' a'
    → leaves r a'.now w'.now ≡ settled outcome (zeros (length w.now)) a.now

-- of a sheet that was read, it may be called with room in the work buffer
abbrev pub TakesSheet : (pre : MutBor Bytes → MutBor Bytes → Type 0) → Bytes → Type 0
TakesSheet pre s = (x : Schema) → Fits x → s ≡ sheet_bytes x → (w a : MutBor Bytes) → work_bytes_per_sheet_byte * length s ≤ length w.now → pre w a

-- and it answers what the operation f does to the schema
abbrev pub AnswersSheet : (post : MutBor Bytes → MutBor Bytes → Result ℕ Refusal → MutBor Bytes → MutBor Bytes → Type 0) → (Schema → Answer) → Bytes → Type 0
AnswersSheet post f s = (x : Schema) → Fits x → s ≡ sheet_bytes x → Settles post (f x) (length s)
