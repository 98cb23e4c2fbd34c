-- `try_new`: the refusal, or the ids as they were given.
use Rattle.buffer.proofs.Ends.{handed_up}
use Rattle.unions.proofs.Ends.{new_refused, new_accepted}
use Rattle.unions.proofs.try_new.Goals as goal

pub returns-in_err-check_ids : goal.returns-in_err-check_ids
returns-in_err-check_ids c =
    rw (← c.from.ensures) (new_refused _ _ _ c.check_ids.ensures c.in_err-check_ids.was (handed_up _ c.from_residual.ensures.1))

pub returns : goal.returns
returns c = rw (← c.from.ensures) (new_accepted _ _ _ c.check_ids.ensures c.in_ok-check_ids.was (c.write_answer.ensures _))
