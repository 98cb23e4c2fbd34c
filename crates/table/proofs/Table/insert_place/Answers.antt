-- `Table::insert_place`: the three bytes of a place.
use Rattle.table.specs.Table.{u24}
use Rattle.table.proofs.Table.insert_place.Goals as goal

pub returns : goal.returns
unfolding u24
returns c = let k = rw c.place_bytes.ensures at c.insert.ensures in record { same = k.same; is = k.is }
