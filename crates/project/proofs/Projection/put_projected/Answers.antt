-- `put_projected`: the map and the metadata, and if the list is not empty the count and the columns.
use Rattle.std.proofs.Common.{rules}
use Rattle.buffer.proofs.Puts.{filled}
use Rattle.project.proofs.Putting.{sheet_none, sheet_some}
use Rattle.project.proofs.Projection.put_projected.Goals as goal

pub returns-then-none : goal.returns-then-none
returns-then-none c = λ x y strict n e t p.
    filled _ c.new-out.ensures (search rules) (sheet_none _ c.is_empty-none.ensures c.put_front.ensures c.if-none.true x y strict n e t p)

pub returns : goal.returns
returns c = λ x y strict n e t p.
    filled _ c.new-out.ensures (search rules) (sheet_some _ c.is_empty-none.ensures c.put_front.ensures c.if-none.false c.put_two.ensures c.put_columns.ensures x y strict n e t p)
