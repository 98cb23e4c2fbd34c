-- `open_metadata`: nothing to do, or the pairs of the first occurrence into a row of none.
use Rattle.table.proofs.Edited.{same_buffers, merges_on, in_use}
use Rattle.metadata.proofs.Opening.{opens_none, opens_some}
use Rattle.metadata.proofs.open_metadata.Goals as goal

pub returns-then-flags-eq1 : goal.returns-then-flags-eq1
returns-then-flags-eq1 c = record { same = same_buffers; is = opens_none c.byte-flags.ensures.0 c.if-flags-eq1.true }

pub returns : goal.returns
returns c =
    let m = c.mark_opened.ensures in
    let (same, pairs) = merges_on m.same c.merge_pairs.ensures in
    record { same = same; is = opens_some c.byte-flags.ensures.0 c.if-flags-eq1.false c.place_at.ensures c.of_head-own.ensures m.same.size m.is c.ahead-row.ensures pairs (in_use c.merge_pairs.new.table c.merge_pairs.result) }
