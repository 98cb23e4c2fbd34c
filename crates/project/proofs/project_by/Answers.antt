-- `project_by`: the call on one sheet.
use Rattle.std.proofs.Common.{rules}
use Rattle.model.specs.Call.{project_answer}
use Rattle.project.proofs.project_by.Goals as goal

pub returns : goal.returns
unfolding project_answer
returns c = c.on_sheet.ensures _ (search rules)
