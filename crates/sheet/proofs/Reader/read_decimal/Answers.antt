use Rattle.sheet.proofs.Ways.{ways}
use Rattle.sheet.proofs.ParamWays.{two_way}
use Rattle.layout.specs.Kinds.{params_of}
use Rattle.sheet.proofs.Reader.read_decimal.Goals as goal

pub returns-in_default : goal.returns-in_default
unfolding params_of
returns-in_default c = search (two_way, ways) depth 8

pub returns : goal.returns
unfolding params_of
returns c = search (two_way, ways) depth 8
