-- `filter_columns`: by whether as much was put as before.
use Rattle.filter.proofs.Sheets.{columns_gone, columns_left}
use Rattle.filter.proofs.Sieve.filter_columns.Goals as goal

pub returns-then-out-put : goal.returns-then-out-put
returns-then-out-put c = columns_gone c.filter_counted.ensures c.if-out-put.true c.byte-map.ensures.0 c.put_one.ensures

pub returns-else-out-put : goal.returns-else-out-put
returns-else-out-put c = columns_left c.filter_counted.ensures c.if-out-put.false
