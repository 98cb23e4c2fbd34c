-- `has_places`: the row gives one, or none.
use Rattle.emit.proofs.Copies.{has_places}
use Rattle.emit.proofs.has_places.Goals as goal

pub returns : goal.returns
returns c = rw c.is_some.ensures (has_places c.new.result c.next.new.self c.new.ensures c.next.result c.next.ensures.steps)
