-- `find_column`: the columns stand where `find_columns` says.
use Rattle.schema.proofs.Names.{column_found}
use Rattle.schema.proofs.find_column.Goals as goal

pub returns : goal.returns
returns c = column_found _ c.find_columns.ensures c.find_name.ensures
