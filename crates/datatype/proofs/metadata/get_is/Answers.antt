-- `get_is`: the pairs behind those passed decide, until one has the key.
use Rattle.datatype.proofs.Texts.{gets_begin, gets_again, gets_found, gets_none}
use Rattle.datatype.proofs.metadata.get_is.Goals as goal

pub loop-init : goal.loop-init
loop-init c = gets_begin _ _ _ _ _

pub returns-then-same_text : goal.returns-then-same_text
returns-then-same_text c = gets_found _ _ c.loop.invariant c.loop-test.true c.same_text.ensures c.if-same_text.true c.skip_text-own.ensures c.skip_text-value.ensures c.same_text-then-same_text.ensures

pub loop-preserved : goal.loop-preserved
loop-preserved c = gets_again _ _ c.loop.invariant c.loop-test.true c.same_text.ensures c.if-same_text.false c.skip_text-own.ensures c.skip_text-place.ensures

pub returns : goal.returns
returns c = gets_none _ _ c.loop.invariant c.loop-test.false
