-- `merge_members`: one child after the other, up to a clash.
use native.Mathlib.Omega.{arith}
use Rattle.table.proofs.Edited.{same_buffers, merges_on, went, stopped, handed_up}
use Rattle.members.proofs.Merging.{merging_begin, merging_again, merging_stop, merging_done}
use Rattle.members.proofs.merge_members.Goals as goal

pub loop-init : goal.loop-init
loop-init c = (same_buffers, merging_begin _ _ _ _ (omega arith))

pub loop-preserved : goal.loop-preserved
loop-preserved c =
    let (same, k) = c.loop.invariant in
    let m = c.merge_member.ensures in
    let (on, one) = merges_on same m in
    (on, merging_again k (omega arith) one m.same.size (went m c.in_ok-merge_member.was) c.skip_member-place.ensures (omega arith))

pub returns-in_err-merge_member : goal.returns-in_err-merge_member
returns-in_err-merge_member c =
    let (same, k) = c.loop.invariant in
    let m = c.merge_member.ensures in
    let (on, one) = merges_on same m in
    let e = c.in_err-merge_member.was in
    handed_up e c.from_residual.ensures.1 (record { same = on; is = merging_stop k (omega arith) one (stopped m e) })

pub returns : goal.returns
returns c = let (same, k) = c.loop.invariant in record { same = same; is = merging_done k (omega arith) }
