-- `has_entries`: a row that has none begins with its end.
use Rattle.emit.proofs.Rows.{has_entries}
use Rattle.emit.proofs.has_entries.Goals as goal

pub returns : goal.returns
returns c = has_entries c.byte.ensures.0
