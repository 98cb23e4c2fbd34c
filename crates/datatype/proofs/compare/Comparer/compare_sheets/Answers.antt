-- `compare_sheets`: the columns, and for containment the schema metadata.
use Rattle.datatype.proofs.Types.{sheets_columns, sheets_equal, sheets_metadata}
use Rattle.datatype.proofs.compare.Comparer.compare_sheets.Goals as goal

pub returns-then-not-compare_columns : goal.returns-then-not-compare_columns
returns-then-not-compare_columns c = sheets_columns _ c.compare_columns.ensures c.if-not-compare_columns.true

pub returns-in-Equal : goal.returns-in-Equal
returns-in-Equal c = sheets_equal _ c.compare_columns.ensures c.if-not-compare_columns.false c.in-Equal.is

pub returns-in-Contains : goal.returns-in-Contains
returns-in-Contains c = sheets_metadata _ c.compare_columns.ensures c.if-not-compare_columns.false c.in-Contains.is c.of_sheet-all.ensures c.of_sheet-asked.ensures c.contains_metadata.ensures
