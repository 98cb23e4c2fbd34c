-- `put_columns`: the count and the fields, if there are any.
use Rattle.emit.proofs.Sheets.{columns_put, no_columns}
use Rattle.emit.proofs.Spelling.put_columns.Goals as goal

pub returns-then-has_entries : goal.returns-then-has_entries
returns-then-has_entries c = columns_put c.has_entries.ensures c.if-has_entries.true c.put_row.ensures

pub returns-else-has_entries : goal.returns-else-has_entries
returns-else-has_entries c = no_columns c.has_entries.ensures c.if-has_entries.false
