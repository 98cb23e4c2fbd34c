-- `equal`: the call with this comparison.
use Rattle.model.specs.Call.{equal_answer}
use Rattle.datatype.specs.Comparisons.{compare_schema, compare_call}
use Rattle.datatype.proofs.equal.Goals as goal

pub returns : goal.returns
unfolding compare_call compare_schema equal_answer
returns c = c.answer_comparison.ensures
