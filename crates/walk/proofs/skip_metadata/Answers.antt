-- `skip_metadata`: a count, then as many pairs.
use Rattle.walk.proofs.Parts.{list_skips}
use Rattle.model.specs.Sheet.{pair_bytes}
use Rattle.walk.proofs.skip_metadata.Goals as goal

pub returns : goal.returns
returns c = λ m. list_skips pair_bytes c.counted.ensures.at c.counted.ensures.count m (c.skip_pairs.ensures m)
