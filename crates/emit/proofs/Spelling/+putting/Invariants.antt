-- Entries, types and rows. The levels left fall from a type to what it holds, and each function calls on one that stands before it at equal levels.
use Prim.Native.Nat.{◌+◌, ◌*◌}
use Rattle.emit.proofs.Rows.{Emitting}
use Rattle.emit.proofs.Spelling.+putting.Given as goal

abbrev pub decreases-put_entry : goal.decreases-put_entry
decreases-put_entry l = 8 * l.levels + 1

abbrev pub decreases-put_row : goal.decreases-put_row
decreases-put_row l = 8 * l.levels + 2

abbrev pub decreases-put_type : goal.decreases-put_type
decreases-put_type l = 8 * l.levels + 0

abbrev pub invariant-put_row-loop-place : goal.invariant-put_row-loop-place
invariant-put_row-loop-place l =
    (goal.iterator-put_row-loop-place).can_next l.place-iterator
    × (goal.iterator-put_row-loop-place).is_finite l.place-iterator
    × Emitting l.self.train.now l.self.table.now l.at l.levels l.initial.out l.place-iterator l.out
