-- `insert_members`: one place after the other.
use native.Mathlib.Omega.{arith}
use Rattle.table.proofs.Edited.{same_buffers, edits_on}
use Rattle.members.proofs.Opening.{inserting_begin, inserting_again, inserting_done}
use Rattle.members.proofs.insert_members.Goals as goal

pub loop-init : goal.loop-init
loop-init c = (same_buffers, inserting_begin _ _ _ _)

pub loop-preserved : goal.loop-preserved
loop-preserved c =
    let (same, k) = c.loop.invariant in
    let i = c.insert_place.ensures in
    ((edits_on same i).0, inserting_again k c.loop-test.true i.same.size i.is c.ahead-row.ensures c.skip_member-place.ensures)

pub returns : goal.returns
returns c = let (same, k) = c.loop.invariant in record { same = same; is = inserting_done k (omega arith) }
