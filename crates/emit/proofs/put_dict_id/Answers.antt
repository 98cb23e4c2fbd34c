-- `put_dict_id`: what stands between the front of a head and its end.
use Rattle.emit.proofs.Heads.{dict_id_puts}
use Rattle.emit.proofs.put_dict_id.Goals as goal

pub returns : goal.returns
returns c = dict_id_puts c.skip_front.ensures c.skip_head.ensures c.put_part.ensures
