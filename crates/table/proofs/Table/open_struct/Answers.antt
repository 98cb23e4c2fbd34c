-- `Table::open_struct`: the kind, then the end of a row.
use Rattle.table.proofs.Edited.{edits_there}
use Rattle.table.proofs.Opening.{struct_opened}
use Rattle.table.proofs.Table.open_struct.Goals as goal

pub returns : goal.returns
returns c =
    let b = c.set_byte.ensures in
    let (same, i) = edits_there b c.insert.ensures in
    record { same = same; is = λ x z p h e room. struct_opened _ b.same.size p b.is c.ahead-inner.ensures i h e room }
