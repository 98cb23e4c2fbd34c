-- `merge_metadata`: nothing comes in, or nothing new, or pair by pair.
use Rattle.table.proofs.Edited.{same_buffers, merges_on}
use Rattle.metadata.proofs.Opening.{merges_none, merges_same, merges_row}
use Rattle.metadata.proofs.merge_metadata.Goals as goal
use Rattle.metadata.proofs.merge_metadata.Goals.{then-new-eq0-via-then-new-eq0 as no_pair, then-new-eq0-via-else-new-eq0+then-has_metadata as the_same}

pub returns-then-new-eq0 : goal.returns-then-new-eq0
returns-then-new-eq0 c = record {
  same = same_buffers;
  is = elim c.then-new-eq0.branch [ no_pair w ↦ merges_none c.of_head-new.ensures w.if-new-eq0.true | the_same w ↦ merges_same w.has_metadata.ensures w.if-has_metadata.true ];
}

pub returns : goal.returns
returns c =
    let o = c.open_metadata.ensures in
    let (same, pairs) = merges_on o.same c.merge_pairs.ensures in
    record { same = same; is = merges_row c.of_head-new.ensures c.if-new-eq0.false o.same.size o.is c.ahead-row.ensures pairs }
