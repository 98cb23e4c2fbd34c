-- `normalize`: the call on one sheet.
use Rattle.std.proofs.Common.{rules}
use Rattle.model.specs.Call.{normalize_answer}
use Rattle.normalize.proofs.normalize.Goals as goal

pub returns : goal.returns
unfolding normalize_answer
returns c = c.on_sheet.ensures _ (search rules)
