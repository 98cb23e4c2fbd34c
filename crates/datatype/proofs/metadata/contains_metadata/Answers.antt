-- `contains_metadata`: the pairs asked behind those passed decide.
use Rattle.datatype.proofs.Texts.{asks_begin, asks_again, asks_stop, asks_done}
use Rattle.datatype.proofs.metadata.contains_metadata.Goals as goal

pub loop-init : goal.loop-init
loop-init c = asks_begin _ _ _ _ _ _

pub returns-then-not-get_is : goal.returns-then-not-get_is
returns-then-not-get_is c = asks_stop _ _ c.loop.invariant c.loop-test.true c.get_is.ensures c.if-not-get_is.true

pub loop-preserved : goal.loop-preserved
loop-preserved c = asks_again _ _ c.loop.invariant c.loop-test.true c.get_is.ensures c.if-not-get_is.false c.skip_pair-place.ensures

pub returns : goal.returns
returns c = asks_done _ _ c.loop.invariant c.loop-test.false
