-- `skip_pairs`: a key and its value are two strings.
use Rattle.model.specs.Bytes.{Bytes}
use Rattle.model.specs.Sheet.{pair_bytes}
use Rattle.walk.proofs.Turns.{Turns}
use Rattle.walk.proofs.skip_pairs.Given as goal

abbrev pub invariant-loop : goal.invariant-loop
invariant-loop l = Turns {A = Bytes × Bytes} (λ p. Unit {0}) pair_bytes l.s l.fn.pairs.at l.fn.pairs.count l.place l.counter
