-- `open_raw`: the kind, the mark, then the places before it.
use Rattle.table.proofs.Edited.{edits_there, edits_on}
use Rattle.members.proofs.Opening.{raw_opened}
use Rattle.members.proofs.open_raw.Goals as goal

pub returns : goal.returns
returns c =
    let b = c.set_byte.ensures in
    let i = c.insert_place.ensures in
    let (marked, mark) = edits_there b i in
    let (same, places) = edits_on marked c.insert_members.ensures in
    record { same = same; is = raw_opened c.find_children-children.ensures b.same.size b.is c.ahead-row.ensures i.same.size mark places }
