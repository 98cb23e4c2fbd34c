-- `same_metadata`: the bytes behind the two names.
use Rattle.metadata.proofs.Heads.{name_ends, same_metadata_lem}
use Rattle.metadata.proofs.same_metadata.Goals as goal

pub returns : goal.returns
returns c = same_metadata_lem (name_ends c.skip_name-from.ensures) (name_ends c.skip_name-since.ensures) c.skip_front.ensures c.skip_front-2.ensures c.same_stretch.ensures
