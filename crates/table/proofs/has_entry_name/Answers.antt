-- `has_entry_name`: of an entry, by the name of its first occurrence.
use Rattle.table.proofs.Look.{named_entry}
use Rattle.table.proofs.has_entry_name.Goals as goal

pub returns : goal.returns
returns c = named_entry c.place_at.ensures.0 c.has_name.ensures
