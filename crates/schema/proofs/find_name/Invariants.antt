-- `find_name`: none of the columns passed has the name.
use Rattle.schema.proofs.Names.{Searched}
use Rattle.schema.proofs.find_name.Given as goal

abbrev pub invariant-loop-i : goal.invariant-loop-i
invariant-loop-i l = Searched l.s l.name l.fn.columns.at l.fn.columns.count l.place l.i
