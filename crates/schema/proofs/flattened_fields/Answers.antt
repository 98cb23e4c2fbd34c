-- `flattened_fields`: the call on one sheet.
use Rattle.std.proofs.Common.{rules}
use Rattle.model.specs.Call.{flattened_fields_answer}
use Rattle.schema.proofs.flattened_fields.Goals as goal

pub returns : goal.returns
unfolding flattened_fields_answer
returns c = c.on_sheet.ensures _ (search rules)
