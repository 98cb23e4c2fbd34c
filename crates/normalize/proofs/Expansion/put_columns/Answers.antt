-- `put_columns`: the columns of a sheet that was read.
use Rattle.normalize.proofs.Sheets.{columns_put}
use Rattle.normalize.proofs.Expansion.put_columns.Goals as goal

pub returns : goal.returns
returns c = columns_put _ _ c.new.ensures c.find_columns-columns.ensures c.expand_fields.ensures.1
