-- `equals_datatype`: the call with this comparison.
use Rattle.model.specs.Call.{equals_datatype_answer}
use Rattle.datatype.specs.Comparisons.{compare_schema, compare_call}
use Rattle.datatype.proofs.equals_datatype.Goals as goal

pub returns : goal.returns
unfolding compare_call compare_schema equals_datatype_answer
returns c = c.answer_comparison.ensures
