-- `put_name`: the map with other lowest and highest bits, then the name.
use Rattle.emit.proofs.Heads.{name_puts}
use Rattle.emit.proofs.Putting.{flag_of}
use Rattle.emit.proofs.put_name.Goals as goal

pub returns : goal.returns
returns c = name_puts c.byte-map.ensures.0 c.ahead.ensures _ c.put_part.ensures c.args.metadata (flag_of 8 _ c.from.ensures) c.put_one.ensures c.skip_name.ensures
