-- `write_places`: the places of the columns passed stand in the table.
use Rattle.project.proofs.Places.{Placing}
use Rattle.project.proofs.write_places.Given as goal

abbrev pub invariant-loop-i : goal.invariant-loop-i
invariant-loop-i l = Placing l.s l.fn.columns.at l.fn.columns.count l.initial.work l.work l.place l.i
