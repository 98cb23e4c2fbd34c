-- `compare_head`: the test of the comparison meant.
use Rattle.datatype.specs.Comparisons.{compare_head}
use Rattle.datatype.specs.declared.compare.Comparison.TheVariants.{Equal, EqualsDatatype, Contains}
use Rattle.datatype.proofs.Heads.{heads_alike, heads_as}
use Rattle.datatype.proofs.compare.Comparer.compare_head.Goals as goal

pub returns-in-Equal : goal.returns-in-Equal
unfolding compare_head
returns-in-Equal c = heads_as Equal c.in-Equal.is c.same_head.ensures

pub returns-in-EqualsDatatype : goal.returns-in-EqualsDatatype
unfolding compare_head
returns-in-EqualsDatatype c = heads_as EqualsDatatype c.in-EqualsDatatype.is (heads_alike c.byte.ensures.0 c.byte-in-EqualsDatatype.ensures.0 c.bit.ensures c.bit-in-EqualsDatatype.ensures)

pub returns-in-Contains : goal.returns-in-Contains
unfolding compare_head
returns-in-Contains c = heads_as Contains c.in-Contains.is c.contains_head.ensures
