-- `key_below`: the bodies of the two keys.
use Rattle.metadata.proofs.Texts.{key_below}
use Rattle.metadata.proofs.key_below.Goals as goal

pub returns : goal.returns
returns c = key_below c.ahead-key.ensures c.ahead-other.ensures c.skip_text.ensures c.skip_text-2.ensures c.below_stretch.ensures
