-- `find_child`: none of the children passed passes the test.
use Rattle.datatype.proofs.Finds.{Finding}
use Rattle.datatype.proofs.find_child.Given as goal

abbrev pub invariant-loop-i : goal.invariant-loop-i
invariant-loop-i g l = Finding (goal.F-post g l.matches) l.s l.fn.members.at l.fn.members.count l.levels l.place l.i
