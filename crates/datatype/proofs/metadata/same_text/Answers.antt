-- `same_text`: behind the lengths.
use Rattle.datatype.proofs.Texts.{texts_bodies}
use Rattle.datatype.proofs.metadata.same_text.Goals as goal

pub returns : goal.returns
returns c = texts_bodies c.ahead-from.ensures c.ahead-since.ensures c.skip_text.ensures c.skip_text-2.ensures c.same_stretch.ensures
