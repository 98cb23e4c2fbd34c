-- `filter`: the call on one sheet.
use Rattle.std.proofs.Common.{rules}
use Rattle.model.specs.Call.{filter_answer}
use Rattle.filter.proofs.filter.Goals as goal

pub returns : goal.returns
unfolding filter_answer
returns c = c.on_sheet.ensures _ (search rules)
