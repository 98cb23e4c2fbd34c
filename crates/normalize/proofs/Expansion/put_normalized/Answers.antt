-- `put_normalized`: the map alone, or the map, the count and the columns.
use Rattle.normalize.proofs.Sheets.{none_put, some_put}
use Rattle.normalize.proofs.Expansion.put_normalized.Goals as goal

pub returns-then-count-eq0 : goal.returns-then-count-eq0
returns-then-count-eq0 c x fits e n = none_put _ c.if-count-eq0.true n c.put_one.ensures

pub returns : goal.returns
returns c x fits e n = some_put _ c.if-count-eq0.false n c.put_one-2.ensures c.put_two.ensures (c.put_columns.ensures x fits e)
