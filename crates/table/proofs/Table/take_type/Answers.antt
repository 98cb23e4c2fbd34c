-- `Table::take_type`: four bytes over four.
use Rattle.table.proofs.Types.{four}
use Rattle.table.proofs.Table.take_type.Goals as goal

pub returns : goal.returns
returns c = let o = c.overwrite.ensures in record { same = o.same; used = o.used; is = λ x y z h e n. four _ c.place_bytes.ensures (o.is x y z h e n) }
