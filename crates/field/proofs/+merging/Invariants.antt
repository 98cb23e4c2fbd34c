-- A field, its type, and what the type holds. The levels left fall from a type to what it holds, and each function calls on one that stands before it at equal levels.
use Prim.Native.Nat.{◌+◌, ◌*◌, ◌-◌}
use Rattle.table.specs.Edited.{SameBuffers}
use Rattle.field.proofs.Pouring.{Pouring}
use Rattle.field.proofs.+merging.Given as goal

abbrev pub decreases-merge_field : goal.decreases-merge_field
decreases-merge_field l = 8 * l.levels + 3

abbrev pub decreases-merge_list : goal.decreases-merge_list
decreases-merge_list l = 8 * l.levels + 7

abbrev pub decreases-merge_rest : goal.decreases-merge_rest
decreases-merge_rest l = 8 * l.levels + 2

abbrev pub decreases-merge_same_code : goal.decreases-merge_same_code
decreases-merge_same_code l = 8 * l.levels + 0

abbrev pub decreases-merge_struct : goal.decreases-merge_struct
decreases-merge_struct l = 8 * l.levels + 7

abbrev pub decreases-merge_type : goal.decreases-merge_type
decreases-merge_type l = 8 * l.levels + 1

abbrev pub decreases-pour : goal.decreases-pour
decreases-pour l = 8 * l.levels + 5

abbrev pub decreases-pour_own : goal.decreases-pour_own
decreases-pour_own l = 8 * l.levels + 6

abbrev pub decreases-put : goal.decreases-put
decreases-put l = 8 * l.levels + 4

abbrev pub invariant-pour-loop : goal.invariant-pour-loop
invariant-pour-loop l =
    let t = l.initial.table in
    let u = l.table in
    SameBuffers t u × Pouring l.parked l.levels t.train.now t.w.now u.w.now t.used l.row l.fn.fields.at l.fn.fields.count u.used l.hint l.place (l.end - l.counter)
