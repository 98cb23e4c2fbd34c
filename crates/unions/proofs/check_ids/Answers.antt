-- `check_ids`: what is left of the ids and the fields is answered as the whole.
use native.Mathlib.Omega.{arith}
use Rattle.unions.proofs.Walk.{walk_begin, walk_more_ids, walk_stop, walk_next, walk_more_fields, walk_end}
use Rattle.unions.proofs.check_ids.Goals as goal

pub loop-i-init : goal.loop-i-init
loop-i-init c = walk_begin _ _

pub returns-then-fields-i : goal.returns-then-fields-i
returns-then-fields-i c = rw c.from.ensures (walk_more_ids _ _ c.loop-i.invariant c.loop-i-test.true c.if-fields-i.true)

pub returns-in_default : goal.returns-in_default
returns-in_default c =
    walk_stop _ _ c.loop-i.invariant c.loop-i-test.true c.if-fields-i.false c.check_id-checked.ensures.0 c.in_default.is

pub loop-i-preserved : goal.loop-i-preserved
loop-i-preserved c =
    walk_next _ _ c.loop-i.invariant c.loop-i-test.true c.if-fields-i.false c.check_id-checked.ensures.0 c.in-Ok.is c.check_id-checked.ensures.1

pub returns-then-ids-fields : goal.returns-then-ids-fields
returns-then-ids-fields c = rw c.from-then-ids-fields.ensures (walk_more_fields _ _ c.loop-i.invariant c.loop-i-test.false (omega arith))

pub returns : goal.returns
returns c = walk_end _ _ c.loop-i.invariant c.loop-i-test.false (omega arith)
