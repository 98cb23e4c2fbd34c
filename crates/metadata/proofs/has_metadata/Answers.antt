-- `has_metadata`: not one with places of its pairs, and that of the first occurrence.
use Rattle.metadata.proofs.Entries.{has_same}
use Rattle.metadata.proofs.has_metadata.Goals as goal

pub returns-then-byte-ne1 : goal.returns-then-byte-ne1
returns-then-byte-ne1 c = has_same c.byte.ensures.0 c.if-byte-ne1.true c.place_at.ensures c.same_metadata.ensures
