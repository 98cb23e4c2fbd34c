-- `merge_pairs`: one pair after the other, up to a clash.
use native.Mathlib.Omega.{arith}
use Rattle.table.proofs.Edited.{same_buffers, merges_on, went, stopped, handed_up}
use Rattle.metadata.proofs.Pouring.{pour_begin, pour_again, pour_stop, pour_done}
use Rattle.metadata.proofs.merge_pairs.Goals as goal

pub loop-init : goal.loop-init
loop-init c = (same_buffers, pour_begin _ _ _ _ _ (omega arith))

pub loop-preserved : goal.loop-preserved
loop-preserved c =
    let (same, k) = c.loop.invariant in
    let find = rw same.train at c.find_key-from.ensures in
    let p = c.put_pair.ensures in
    let (on, puts) = merges_on same p in
    (on, pour_again k (omega arith) find puts p.same.size (went p c.in_ok-put_pair.was) c.skip_pair-place.ensures (omega arith))

pub returns-in_err-put_pair : goal.returns-in_err-put_pair
returns-in_err-put_pair c =
    let (same, k) = c.loop.invariant in
    let find = rw same.train at c.find_key-from.ensures in
    let p = c.put_pair.ensures in
    let (on, puts) = merges_on same p in
    let e = c.in_err-put_pair.was in
    handed_up e c.from_residual.ensures.1 (record { same = on; is = pour_stop k (omega arith) find puts (stopped p e) })

pub returns : goal.returns
returns c = let (same, k) = c.loop.invariant in record { same = same; is = pour_done k (omega arith) }
