-- `put_merged`: the line for what the merge left.
use Rattle.model.specs.Call.{zeros}
use Rattle.line.proofs.Programs.{line_as}
use Rattle.line.proofs.put_merged.Goals as goal

pub returns : goal.returns
unfolding zeros
returns c =
    line_as _ _ _ _ c.merge-answered.ensures c.from.ensures c.put_line.ensures
