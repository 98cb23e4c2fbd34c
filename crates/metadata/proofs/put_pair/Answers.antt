-- `put_pair`: before the first, or by the value of the first.
use Rattle.table.proofs.Edited.{same_buffers}
use Rattle.metadata.proofs.Putting.{put_last, put_before, put_there, put_clash}
use Rattle.metadata.proofs.put_pair.Goals as goal
use Rattle.metadata.proofs.put_pair.Goals.{then-there-eq-NO_PLACE-via-then-there-eq-NO_PLACE as at_mark, then-there-eq-NO_PLACE-via-else-there-eq-NO_PLACE+then-key_below as above}

pub returns-then-there-eq-NO_PLACE : goal.returns-then-there-eq-NO_PLACE
returns-then-there-eq-NO_PLACE c =
    let i = c.insert_place.ensures in
    elim c.then-there-eq-NO_PLACE.branch [
      | at_mark w ↦ record { same = i.same; is = put_last _ c.args.clash c.three-there.ensures.0 i.is w.if-there-eq-NO_PLACE.true }
      | above w ↦ record { same = i.same; is = put_before _ c.args.clash c.three-there.ensures.0 i.is w.key_below.ensures w.if-key_below.true }
    ]

pub returns-then-same_value : goal.returns-then-same_value
returns-then-same_value c = record {
  same = same_buffers;
  is = put_there _ c.args.clash c.three-there.ensures.0 c.if-there-eq-NO_PLACE.false c.key_below.ensures c.if-key_below.false c.same_value.ensures c.if-same_value.true;
}

pub returns : goal.returns
returns c = record {
  same = same_buffers;
  is = put_clash _ c.args.clash c.three-there.ensures.0 c.if-there-eq-NO_PLACE.false c.key_below.ensures c.if-key_below.false c.same_value.ensures c.if-same_value.false;
}
