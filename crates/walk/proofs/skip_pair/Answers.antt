-- `skip_pair`: a key and its value are two strings.
use Rattle.model.specs.Sheet.{pair_bytes}
use Rattle.walk.proofs.Standing.{skip_join}
use Rattle.walk.proofs.skip_pair.Goals as goal

pub returns : goal.returns
unfolding pair_bytes
returns c = λ p. skip_join (c.skip_text.ensures p.0) (c.skip_text-2.ensures p.1)
