-- `skip_timestamp`: a unit, a map, and a zone where the map has its bit.
use Rattle.walk.proofs.Parts.{timestamp_skips}
use Rattle.walk.proofs.skip_timestamp.Goals as goal

pub returns : goal.returns
returns c = timestamp_skips c.ahead-map.ensures c.byte.ensures.0 c.ahead-zone.ensures c.bit.ensures c.skip_if.ensures.set c.skip_if.ensures.unset
