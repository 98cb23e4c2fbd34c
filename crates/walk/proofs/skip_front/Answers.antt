-- `skip_front`: the map says whether metadata follows the name.
use Rattle.walk.proofs.Parts.{front_skips}
use Rattle.walk.proofs.skip_front.Goals as goal

pub returns : goal.returns
returns c = front_skips c.byte.ensures.0 c.skip_name-metadata.ensures c.bit.ensures c.skip_if.ensures.set c.skip_if.ensures.unset
