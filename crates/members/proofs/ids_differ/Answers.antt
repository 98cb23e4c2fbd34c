-- `ids_differ`: of each child, whether one behind it has its id.
use native.Mathlib.Omega.{arith}
use mathlib.Core.Path.{refl, ap}
use lib.ListN.{length}
use Rattle.members.proofs.Searching.{differ_begin, differ_end, differ_stop, differ_on}
use Rattle.members.proofs.ids_differ.Goals as goal

pub loop-there-init : goal.loop-there-init
loop-there-init c = (refl, differ_begin refl)

pub loop-there-preserved : goal.loop-there-preserved
loop-there-preserved c = differ_on c.loop-there.behind c.next.new.self c.loop-there.invariant c.in-Some.ensures.steps c.byte.ensures.0 c.has_id.ensures c.if-has_id.false

pub loop-there-smaller : goal.loop-there-smaller
loop-there-smaller c = let g = c.in-Some.ensures.steps in omega (arith, g.1.2, g.1.3, ap length c.loop-there.invariant.0)

pub returns-then-has_id : goal.returns-then-has_id
returns-then-has_id c = differ_stop c.loop-there.behind c.next.new.self c.loop-there.invariant c.in-Some.ensures.steps c.byte.ensures.0 c.has_id.ensures c.if-has_id.true

pub returns : goal.returns
returns c = differ_end c.loop-there.behind c.next.new.self c.loop-there.invariant c.in_default.ensures.steps
