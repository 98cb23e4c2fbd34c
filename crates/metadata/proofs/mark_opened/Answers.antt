-- `mark_opened`: the flags, and the mark behind the place of the first occurrence.
use Rattle.table.proofs.Edited.{edits_there}
use Rattle.metadata.proofs.Opening.{marked}
use Rattle.metadata.proofs.mark_opened.Goals as goal

pub returns : goal.returns
returns c =
    let b = c.set_byte.ensures in
    let (same, mark) = edits_there b c.insert_place.ensures in
    record { same = same; is = marked b.same.size b.is c.ahead-row.ensures mark }
