-- `skip_sheet`: the columns reach to its end.
use Rattle.walk.proofs.Schemas.{sheet_skips}
use Rattle.walk.proofs.skip_sheet.Goals as goal

pub returns : goal.returns
returns c = sheet_skips c.find_columns.ensures c.skip_fields.ensures
