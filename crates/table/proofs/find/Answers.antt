-- `find`: at the hint, or by the scan.
use Rattle.table.proofs.Look.{hint_found}
use Rattle.table.proofs.find.Goals as goal

pub returns-then-is_named : goal.returns-then-is_named
returns-then-is_named c = λ l k y fs g i p st u d. hint_found c.if-is_named.true c.is_named.ensures g.name st (c.name_of-name.ensures g u) d

pub returns : goal.returns
returns c = λ l k y fs g i p st u d. c.scan.ensures l k y fs g.name i p st (c.name_of-name.ensures g u)
