-- `get_is`: the pairs behind those passed decide, until one has the key.
use Rattle.datatype.proofs.Texts.{Gets}
use Rattle.datatype.proofs.metadata.get_is.Given as goal

abbrev pub invariant-loop : goal.invariant-loop
invariant-loop l = Gets l.s l.t l.key l.fn.pairs.at l.fn.pairs.count l.place l.counter
