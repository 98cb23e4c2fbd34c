-- What the test of document 01's 32, "work buffer below 4 times the sheet bytes given", tells a call.
use mathlib.Core.Path.{◌≡◌, refl, sym, ◌∙◌}
use mathlib.Core.Bool.{Bool, true, false}
use Prim.Native.Nat.{ℕ, ◌*◌, ◌≤◌}
use lib.Dec.{ltb}
use borrow.Author.Tests.{ltb-false}
use Rattle.std.specs.Prelude.{Result, Ok}
use Rattle.model.specs.Numbers.{work_bytes_per_sheet_byte}
use Rattle.buffer.specs.declared.refusal.Refusal.{Refusal}
use Rattle.buffer.specs.Puts.{unless_short}

-- what a call knows of its work buffer once its test for 32 let it go on
pub room_enough : {r : Result Unit Refusal} (work given : ℕ) → r ≡ unless_short (ltb work (work_bytes_per_sheet_byte * given)) → r ≡ Ok tt → work_bytes_per_sheet_byte * given ≤ work
room_enough work given tested h = go (ltb work (work_bytes_per_sheet_byte * given)) refl (sym h ∙ tested)
  where
    go : (t : Bool) → ltb work (work_bytes_per_sheet_byte * given) ≡ t → ◌≡◌ {A = Result Unit Refusal} (Ok tt) (unless_short t) → work_bytes_per_sheet_byte * given ≤ work
    go true e q = cc
    go false e q = ltb-false work (work_bytes_per_sheet_byte * given) e
