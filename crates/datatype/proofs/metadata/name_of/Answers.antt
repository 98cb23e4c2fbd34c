-- `name_of`: where a head stands, the name lies inside.
use Rattle.std.proofs.Common.{rules}
use Rattle.datatype.proofs.Texts.{name_taken}
use Rattle.datatype.proofs.metadata.name_of.Goals as goal

pub returns : goal.returns
returns c = λ h st. let (f, g, t) = name_taken c.skip_name.ensures c.ahead-from.ensures h st in search rules
