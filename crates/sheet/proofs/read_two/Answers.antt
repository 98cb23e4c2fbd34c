use Rattle.sheet.proofs.Ways.{told_ok, told_err}
use Rattle.sheet.proofs.TreeWays.{sheet_ends, sheet_stops, two_done, two_stop, two_refused}
use native.Mathlib.Omega.{arith}
use Rattle.sheet.proofs.read_two.Goals as goal

pub returns-in_default : goal.returns-in_default
returns-in_default c = two_refused _ _ _ _ _ c.read_sheet-first.ensures (told_err c.in_default.is)

pub overflow_add-result : goal.overflow_add-result
overflow_add-result c = omega (arith, sheet_ends _ _ _ c.read_sheet.ensures (told_ok c.in-Ok-read_sheet.is), c.well_formed.0.1, c.well_formed.1.0.1)

pub overflow_add-result-in-Err : goal.overflow_add-result-in-Err
overflow_add-result-in-Err c = omega (arith, sheet_stops _ _ _ _ c.read_sheet.ensures (told_err c.in-Err.is), c.well_formed.0.1, c.well_formed.1.0.1)

pub returns-in-Ok-read_sheet : goal.returns-in-Ok-read_sheet
returns-in-Ok-read_sheet c = two_done _ _ _ _ _ c.read_sheet-first.ensures (told_ok c.in-Ok.is) c.read_sheet.ensures _ (told_ok c.in-Ok-read_sheet.is)

pub returns-in-Err : goal.returns-in-Err
returns-in-Err c = two_stop _ _ _ _ _ c.read_sheet-first.ensures (told_ok c.in-Ok.is) c.read_sheet.ensures _ _ (told_err c.in-Err.is)
