-- `check_ids`: what is left of the ids and the fields is answered as the whole.
use Rattle.unions.proofs.Walk.{Walk}
use Rattle.unions.proofs.check_ids.Given as goal

abbrev pub invariant-loop-i : goal.invariant-loop-i
invariant-loop-i l = Walk l.ids l.fields l.seen l.i
