-- `by_id`: two bytes.
use Rattle.members.proofs.Members.{same_id, other_id}
use Rattle.members.proofs.by_id.Goals as goal

pub returns-then-byte : goal.returns-then-byte
returns-then-byte c = same_id c.byte.ensures.0 c.byte-2.ensures.0 c.if-byte.true

pub returns : goal.returns
returns c = other_id c.byte.ensures.0 c.byte-2.ensures.0 c.if-byte.false
