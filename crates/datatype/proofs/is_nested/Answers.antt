-- `is_nested`: the call on one sheet.
use Rattle.std.proofs.Common.{rules}
use Rattle.model.specs.Call.{is_nested_answer, settled}
use Rattle.datatype.proofs.is_nested.Goals as goal

pub returns : goal.returns
unfolding is_nested_answer settled
returns c = c.on_sheet.ensures _ (search rules)
