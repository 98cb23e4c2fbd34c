-- `skip_text`: a string begins with its length.
use Rattle.walk.proofs.Parts.{text_skips}
use Rattle.walk.proofs.skip_text.Goals as goal

pub returns : goal.returns
returns c = text_skips c.skip_counted.ensures
