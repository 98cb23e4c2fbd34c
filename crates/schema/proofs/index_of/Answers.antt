-- `index_of`: the call on one sheet.
use Rattle.std.proofs.Common.{rules}
use Rattle.model.specs.Call.{index_of_answer}
use Rattle.schema.proofs.index_of.Goals as goal

pub returns : goal.returns
unfolding index_of_answer
returns c = c.on_sheet.ensures _ (search rules)
