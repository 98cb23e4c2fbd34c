-- `same_value`: the texts behind the keys.
use Rattle.metadata.proofs.Texts.{same_value}
use Rattle.metadata.proofs.same_value.Goals as goal

pub returns : goal.returns
returns c = same_value c.skip_text.ensures c.skip_text-2.ensures c.same_text.ensures
