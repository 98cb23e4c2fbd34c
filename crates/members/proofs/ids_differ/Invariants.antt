-- `ids_differ`: of each child, whether one behind it has its id.
use mathlib.Core.Path.{◌≡◌}
use Prim.Native.Nat.{◌-◌}
use lib.ListN.{length}
use Rattle.members.proofs.Searching.{Differing}
use Rattle.members.proofs.ids_differ.Given as goal

abbrev pub invariant-loop-there : goal.invariant-loop-there
invariant-loop-there l = (l.behind.w.now ≡ l.row.w.now) × Differing l.s l.row.w.now l.row.at l.behind.at

abbrev pub decreases-loop-there : goal.decreases-loop-there
decreases-loop-there l = length l.row.w.now - l.behind.at
