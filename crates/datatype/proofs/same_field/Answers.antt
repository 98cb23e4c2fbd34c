-- `same_field`: plain equality.
use Rattle.datatype.specs.Comparisons.{compare_field}
use Rattle.datatype.proofs.same_field.Goals as goal

pub returns : goal.returns
unfolding compare_field
returns c = c.compare_field.ensures
