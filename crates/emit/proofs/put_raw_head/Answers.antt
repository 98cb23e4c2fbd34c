-- `put_raw_head`: the map with another lowest bit, then the rest of the head.
use Rattle.emit.proofs.Heads.{raw_head_puts}
use Rattle.emit.proofs.put_raw_head.Goals as goal

pub returns : goal.returns
returns c = raw_head_puts c.byte.ensures.0 c.ahead.ensures _ c.put_part.ensures c.put_one.ensures c.skip_head.ensures
