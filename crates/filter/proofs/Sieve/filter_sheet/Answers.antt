-- `filter_sheet`: the map says whether there are columns.
use Rattle.filter.proofs.Sheets.{sheet_columns, sheet_bare}
use Rattle.filter.proofs.Sieve.filter_sheet.Goals as goal

pub returns-then-bit : goal.returns-then-bit
returns-then-bit c = sheet_columns c.skip_sheet_head-columns.ensures c.copy_to.ensures c.byte.ensures.0 c.bit.ensures c.if-bit.true c.filter_columns.ensures

pub returns-else-bit : goal.returns-else-bit
returns-else-bit c = sheet_bare c.skip_sheet_head-columns.ensures c.copy_to.ensures c.byte.ensures.0 c.bit.ensures c.if-bit.false
