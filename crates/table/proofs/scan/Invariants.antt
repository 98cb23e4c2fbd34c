-- `scan`: of what was passed, no entry has the name.
use Prim.Native.Nat.{◌-◌}
use lib.ListN.{length}
use Rattle.table.proofs.Look.{Scanning}
use Rattle.table.proofs.scan.Given as goal

abbrev pub invariant-loop-place : goal.invariant-loop-place
invariant-loop-place l = Scanning l.s l.w l.row l.name l.levels l.entries

abbrev pub decreases-loop-place : goal.decreases-loop-place
decreases-loop-place l = length l.w - l.entries.at
