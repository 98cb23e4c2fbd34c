-- `has_name`: the text behind the map, or none.
use Rattle.schema.proofs.Names.{named, unnamed}
use Rattle.schema.proofs.has_name.Goals as goal

pub returns-then-bit : goal.returns-then-bit
returns-then-bit c = named c.byte.ensures.0 c.bit.ensures _ c.if-bit.true c.ahead.ensures c.is_text.ensures

pub returns : goal.returns
returns c = unnamed c.byte.ensures.0 c.bit.ensures _ c.if-bit.false c.is_empty.ensures
