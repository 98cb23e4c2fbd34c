-- `put_metadata`: the count and the pairs, or nothing.
use Rattle.emit.proofs.Copies.{metadata_puts, no_metadata}
use borrow.Author.Rules.{rules}
use Rattle.emit.proofs.Spelling.put_metadata.Goals as goal

pub returns-then-has_places : goal.returns-then-has_places
returns-then-has_places c = metadata_puts c.has_places.ensures _ c.if-has_places.true (λ place end small i x. search rules) c.put_places.ensures

pub returns-else-has_places : goal.returns-else-has_places
returns-else-has_places c = no_metadata c.has_places.ensures c.if-has_places.false
