-- `compare_columns`: as many columns, one row of them in each sheet.
use Rattle.datatype.proofs.Types.{columns_counts, columns_rows}
use Rattle.datatype.proofs.compare.Comparer.compare_columns.Goals as goal

pub returns-then-own-others : goal.returns-then-own-others
returns-then-own-others c = columns_counts _ c.find_columns-own.ensures c.find_columns-others.ensures c.if-own-others.true

pub returns : goal.returns
returns c = columns_rows _ c.find_columns-own.ensures c.find_columns-others.ensures c.if-own-others.false c.compare_row.ensures
