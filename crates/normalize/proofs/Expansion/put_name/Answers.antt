-- `put_name`: the names above, then the field's own.
use Rattle.buffer.proofs.Puts.{puts_join}
use Rattle.normalize.proofs.Expansion.put_name.Goals as goal

pub returns : goal.returns
returns c hs h a st = puts_join _ _ (c.put_prefix.ensures hs a) (c.put_own_name.ensures h st)
