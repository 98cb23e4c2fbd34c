-- `skip_name`: the map says whether a name follows.
use Rattle.walk.proofs.Parts.{name_skips}
use Rattle.walk.proofs.skip_name.Goals as goal

pub returns : goal.returns
returns c = name_skips c.byte-map.ensures.0 c.ahead-name.ensures c.bit.ensures c.skip_if.ensures.set c.skip_if.ensures.unset
