-- `contains_metadata`: the pairs asked behind those passed decide.
use Rattle.datatype.proofs.Texts.{Asks}
use Rattle.datatype.proofs.metadata.contains_metadata.Given as goal

abbrev pub invariant-loop : goal.invariant-loop
invariant-loop l = Asks l.s l.all.count l.all.at l.t l.fn.asked.at l.fn.asked.count l.place l.counter
