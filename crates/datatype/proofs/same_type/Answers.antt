-- `same_type`: plain equality.
use Rattle.datatype.specs.Comparisons.{compare_type}
use Rattle.datatype.proofs.same_type.Goals as goal

pub returns : goal.returns
unfolding compare_type
returns c = c.compare_type.ensures
