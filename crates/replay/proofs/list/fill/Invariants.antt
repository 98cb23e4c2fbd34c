-- `fill`: what was read lies at the buffer's start, and each turn leaves less room.
use Rattle.std.proofs.Common.{◌-◌, ◌≤◌, length, take}
use Rattle.replay.specs.Reads.{Reads}
use Rattle.replay.proofs.list.fill.Given as goal

abbrev pub invariant-loop-end : goal.invariant-loop-end
invariant-loop-end g l = (l.end ≤ length l.dst) × Reads (g.R.Read.remaining l.initial.input) (g.R.Read.remaining l.input) (take l.end l.dst)

abbrev pub decreases-loop-end : goal.decreases-loop-end
decreases-loop-end g l = length l.initial.dst - l.end
