-- Entries, types and rows. The levels left fall from a type to what it holds, and each function calls on one that stands before it at equal levels.
use Prim.Native.Nat.{◌+◌, ◌*◌, ◌-◌}
use lib.ListN.{length}
use Rattle.table.proofs.Look.{Skipping}
use Rattle.table.proofs.+skipping.Given as goal

abbrev pub decreases-skip_entry : goal.decreases-skip_entry
decreases-skip_entry l = 8 * l.levels + 1

abbrev pub decreases-skip_row : goal.decreases-skip_row
decreases-skip_row l = 8 * l.levels + 2

abbrev pub decreases-skip_type : goal.decreases-skip_type
decreases-skip_type l = 8 * l.levels + 0

abbrev pub invariant-skip_row-loop-place : goal.invariant-skip_row-loop-place
invariant-skip_row-loop-place l = Skipping l.w l.at l.levels l.place

abbrev pub decreases-skip_row-loop-place : goal.decreases-skip_row-loop-place
decreases-skip_row-loop-place l = length l.w - l.place
