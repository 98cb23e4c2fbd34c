-- `answer_comparison`: the call on two sheets.
use mathlib.Core.Path.{◌≡◌, refl}
use Rattle.std.specs.Prelude.{Ok, Err}
use Rattle.std.proofs.Common.{rules}
use Rattle.model.specs.Read.{read_two}
use Rattle.buffer.specs.Refusals.{numbered}
use Rattle.buffer.proofs.Ends.{settled_as}
use Rattle.sheet.specs.Answers.{step_of}
use Rattle.sheet.proofs.Reading.{two_refused, two_whole}
use Rattle.datatype.specs.Comparisons.{compare_call}
use Rattle.datatype.proofs.answer_comparison.Goals as goal

pub returns : goal.returns
unfolding compare_call
returns c =
    let given = c.args in
    c.on_read.ensures _ _ c.work_fits_two-fits.ensures
    (λ x p. let read : numbered (Err x) ≡ step_of (read_two given.sheet.now given.other.now) = search rules in two_refused _ _ _ read refl)
    λ n p w a w' a' r room q.
    let read : numbered (Ok n) ≡ step_of (read_two given.sheet.now given.other.now) = search rules in
    let v = two_whole _ _ _ read (λ i. (c.type_inv.sheet i).fits) (λ i. (c.type_inv.other i).fits) refl in
    settled_as _ _ v.outcome (search (rules, v))
