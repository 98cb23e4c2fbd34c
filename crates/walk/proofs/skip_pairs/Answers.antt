-- `skip_pairs`: one pair behind the other.
use Rattle.model.proofs.Lists.{every_unit}
use Rattle.walk.proofs.Turns.{turns_again, turns_done}
use Rattle.walk.proofs.skip_pairs.Goals as goal

pub loop-preserved : goal.loop-preserved
loop-preserved c = turns_again _ _ _ c.loop.invariant c.loop-test.true (λ p w. c.skip_pair-place.ensures p)

pub returns : goal.returns
returns c = λ m e. turns_done _ _ _ c.loop.invariant c.loop-test.false m e (every_unit m)
