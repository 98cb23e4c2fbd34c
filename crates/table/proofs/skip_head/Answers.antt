-- `skip_head`: flags and place, then the places of the metadata.
use Rattle.table.proofs.Entries.{head_skips}
use Rattle.table.proofs.skip_head.Goals as goal

pub returns : goal.returns
returns c = λ l s k y f e. head_skips c.byte-flags.ensures.0 c.ahead.ensures c.skip_metadata.ensures e
