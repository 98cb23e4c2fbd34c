-- `of_head`: behind the map and the name.
use Rattle.datatype.proofs.Texts.{head_pairs, pairs_found}
use Rattle.datatype.proofs.metadata.of_head.Goals as goal

pub returns : goal.returns
returns c = head_pairs c.skip_name-place.ensures c.byte.ensures.0 c.bit.ensures (pairs_found c.counted_if.ensures.set c.counted_if.ensures.unset)
