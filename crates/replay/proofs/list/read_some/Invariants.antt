-- `read_some`: a read that a signal interrupts takes nothing.
use Rattle.std.specs.Prelude.{[]}
use Rattle.std.specs.Io.KnownBytes.{Consumes}
use Rattle.replay.proofs.list.read_some.Given as goal

abbrev pub invariant-loop : goal.invariant-loop
invariant-loop g l = Consumes (g.R.Read.remaining l.initial.input) (g.R.Read.remaining l.input) []
