-- `skip_sheet_head`: the map says whether metadata stands.
use Rattle.walk.proofs.Schemas.{head_skips}
use Rattle.walk.proofs.skip_sheet_head.Goals as goal

pub returns : goal.returns
returns c = head_skips c.byte-map.ensures.0 c.ahead-metadata.ensures c.bit.ensures c.skip_if.ensures.set c.skip_if.ensures.unset
