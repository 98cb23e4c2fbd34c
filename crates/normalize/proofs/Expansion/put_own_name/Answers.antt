-- `put_own_name`: the name, or nothing where its bit is clear.
use Rattle.normalize.proofs.Names.{own_named, own_unnamed}
use Rattle.normalize.proofs.Expansion.put_own_name.Goals as goal

pub returns-then-bit : goal.returns-then-bit
returns-then-bit c = own_named c.byte.ensures.0 c.bit.ensures c.if-bit.true c.ahead-text.ensures c.ahead-body.ensures c.skip_text-end.ensures c.put_part.ensures

pub returns-else-bit : goal.returns-else-bit
returns-else-bit c = own_unnamed c.byte.ensures.0 c.bit.ensures c.if-bit.false
