-- `answer_merged`: the clash, 30 or 31, or the sheet.
use mathlib.Core.Path.{refl}
use Rattle.try_merge.proofs.Calls.{clash_refused, length_refused, length_accepted}
use Rattle.try_merge.proofs.answer_merged.Goals as goal

pub returns-in-Err : goal.returns-in-Err
returns-in-Err c = clash_refused _ _ c.merge_sheets.ensures c.refuse.ensures.1 c.in-Err.is c.refuse.ensures.0

pub returns-in-Err-length_fits : goal.returns-in-Err-length_fits
returns-in-Err-length_fits c =
    length_refused _ _ c.merge_sheets.ensures c.refuse-in-Err-length_fits.ensures.1 c.in_default.is c.emit-length.ensures c.length_fits.ensures c.in-Err-length_fits.is c.refuse-in-Err-length_fits.ensures.0

pub returns : goal.returns
returns c = length_accepted _ _ c.merge_sheets.ensures c.clear.ensures c.in_default.is c.emit-length.ensures c.length_fits.ensures c.in_default-length_fits.is c.emit.ensures refl
