-- `Table::open_list`: it is open, or the kind and the entry of its child.
use Rattle.std.proofs.Common.{rules}
use Rattle.table.proofs.Edited.{same_buffers, edits_there}
use Rattle.table.proofs.OfKinds.{is_list, not_list}
use Rattle.table.proofs.Opening.{list_open, list_opened}
use Rattle.table.proofs.Table.open_list.Goals as goal

pub returns : goal.returns
returns c =
    let b = c.set_byte.ensures in
    let (same, i) = edits_there b c.insert_entry.ensures in
    record { same = same; is = list_opened b.same.size (not_list c.kind_at.ensures (search rules)) c.place_at.ensures c.ahead-child.ensures c.ahead-inner.ensures b.is i }

pub returns-then-eq : goal.returns-then-eq
returns-then-eq c = record { same = same_buffers; is = list_open (is_list c.kind_at.ensures (search rules)) }
