-- `skip`: one byte a turn.
use Rattle.std.proofs.Common.{◌≡◌, ℕ, List, length}
use Rattle.replay.specs.Reads.{Reads}
use Rattle.replay.proofs.list.skip.Given as goal

abbrev pub invariant-loop : goal.invariant-loop
invariant-loop g l = (bs : List ℕ) × (length bs ≡ l.counter) × Reads (g.R.Read.remaining l.initial.input) (g.R.Read.remaining l.input) bs
