-- `find_child`: none of the children passed passes the test.
use Rattle.datatype.proofs.Finds.{find_begin, find_again, find_found, find_none}
use Rattle.datatype.proofs.find_child.Goals as goal

pub loop-i-init : goal.loop-i-init
loop-i-init g c = find_begin _ _ _ _ _

pub returns-then-matches : goal.returns-then-matches
returns-then-matches g c = find_found _ _ _ c.loop-i.invariant c.loop-i-test.true c.matches.ensures c.if-matches.true

pub loop-i-preserved : goal.loop-i-preserved
loop-i-preserved g c = find_again _ _ _ c.loop-i.invariant c.loop-i-test.true c.matches.ensures c.if-matches.false c.ahead.ensures c.skip_field-place.ensures

pub returns : goal.returns
returns g c = find_none _ _ _ c.loop-i.invariant c.loop-i-test.false
