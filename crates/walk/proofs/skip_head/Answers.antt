-- `skip_head`: the map says whether a dictionary number follows.
use Rattle.walk.proofs.Parts.{head_skips}
use Rattle.walk.proofs.skip_head.Goals as goal

pub returns : goal.returns
returns c = head_skips c.byte-map.ensures.0 c.skip_front-number.ensures c.bit.ensures c.skip_dict_id_if.ensures
