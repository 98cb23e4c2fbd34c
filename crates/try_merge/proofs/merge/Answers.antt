-- `merge`: the call on a train.
use mathlib.Core.Path.{◌≡◌, refl}
use Rattle.std.specs.Prelude.{Ok, Err}
use Rattle.std.proofs.Common.{rules}
use Rattle.model.specs.Read.{read_train}
use Rattle.model.specs.Call.{merge_answer}
use Rattle.buffer.specs.Refusals.{numbered}
use Rattle.buffer.proofs.Ends.{settled_as}
use Rattle.sheet.specs.Answers.{step_of}
use Rattle.sheet.proofs.Reading.{train_refused, train_whole}
use Rattle.try_merge.proofs.merge.Goals as goal

pub returns : goal.returns
unfolding merge_answer
returns c =
    let train = c.args.train.now in
    c.on_read.ensures _ _ c.work_fits-fits.ensures
    (λ x p. let read : numbered (Err x) ≡ step_of (read_train train) = search rules in train_refused _ _ read refl)
    λ n p w a w' a' r room q.
    let read : numbered (Ok n) ≡ step_of (read_train train) = search rules in
    let v = train_whole _ _ read (λ k. (c.type_inv.train k).fits) refl in
    settled_as _ _ v.outcome (search (rules, v))
