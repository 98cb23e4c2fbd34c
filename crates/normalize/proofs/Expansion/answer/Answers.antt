-- `answer`: 18, 30 or 31, or the sheet.
use Rattle.std.proofs.Common.{arith, rules}
use mathlib.Core.Path.{refl, sym, ap, ◌∙◌}
use Rattle.std.specs.Prelude.{Err}
use Rattle.normalize.proofs.Sheets.{check_failed, check_passed, separator_refused, length_refused, length_accepted}
use Rattle.normalize.proofs.Expansion.answer.Goals as goal

pub returns-then-is_err : goal.returns-then-is_err
returns-then-is_err c =
    separator_refused _ _ _ _ _ c.refuse.ensures.1 (check_failed _ c.check.ensures (sym c.is_err.ensures.value ∙ c.if-is_err.true)) (c.refuse.ensures.0 ∙ ap Err c.from.ensures)

pub returns-in-Err : goal.returns-in-Err
returns-in-Err c =
    length_refused _ _ _ _ _ c.refuse-in-Err.ensures.1 (check_passed _ c.check.ensures (sym c.is_err.ensures.value ∙ c.if-is_err.false))
    (omega (arith, c.put.ensures.inside, c.new-measured.ensures.2)) c.put_columns-count.ensures c.sheet_length-length.ensures c.length_fits.ensures c.in-Err.is c.refuse-in-Err.ensures.0

pub returns-in-Ok : goal.returns-in-Ok
returns-in-Ok c =
    length_accepted _ _ _ _ _ c.clear.ensures (check_passed _ c.check.ensures (sym c.is_err.ensures.value ∙ c.if-is_err.false))
    (omega (arith, c.put.ensures.inside, c.new-measured.ensures.2)) c.put_columns-count.ensures c.sheet_length-length.ensures c.length_fits.ensures c.in-Ok.is
    c.new.ensures (search rules) c.put_normalized.ensures refl
