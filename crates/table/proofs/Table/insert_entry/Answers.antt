-- `Table::insert_entry`: the eight bytes of an entry, put in.
use Rattle.table.proofs.NewEntries.{entry_inserted}
use Rattle.table.proofs.Table.insert_entry.Goals as goal

pub returns : goal.returns
returns c =
    let i = c.insert.ensures in
    record { same = i.same; is = λ l g x z n h e room. entry_inserted c.byte.ensures.0 c.skip_head.ensures c.place_bytes.ensures c.place_bytes-2.ensures l g n (i.is x z h e room).1 }
