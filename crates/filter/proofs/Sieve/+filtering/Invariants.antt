-- Fields, types and their children. The levels left fall from a type to its children, and each function calls on one that stands before it at equal levels.
use mathlib.Core.Path.{◌≡◌}
use Prim.Native.Nat.{ℕ, ◌≤◌, ◌+◌, ◌*◌, ◌-◌}
use lib.ListN.{length}
use Rattle.model.specs.Bytes.{Bytes}
use Rattle.model.specs.Tree.{Head}
use Rattle.filter.specs.Filters.{reached}
use Rattle.filter.proofs.Rows.{Turns}
use Rattle.filter.proofs.Sieve.+filtering.Given as goal

abbrev pub decreases-filter_child : goal.decreases-filter_child
decreases-filter_child l = 8 * l.levels + 2

abbrev pub decreases-filter_children : goal.decreases-filter_children
decreases-filter_children l = 8 * l.levels + 5

abbrev pub decreases-filter_counted : goal.decreases-filter_counted
decreases-filter_counted l = 8 * l.levels + 4

abbrev pub decreases-filter_encoded : goal.decreases-filter_encoded
decreases-filter_encoded l = 8 * l.levels + 2

abbrev pub decreases-filter_field : goal.decreases-filter_field
decreases-filter_field l = 8 * l.levels + 1

abbrev pub decreases-filter_inner : goal.decreases-filter_inner
decreases-filter_inner l = 8 * l.levels + 1

abbrev pub decreases-filter_nested : goal.decreases-filter_nested
decreases-filter_nested l = 8 * l.levels + 6

abbrev pub decreases-filter_row : goal.decreases-filter_row
decreases-filter_row l = 8 * l.levels + 3

abbrev pub decreases-filter_type : goal.decreases-filter_type
decreases-filter_type l = 8 * l.levels + 0

abbrev pub invariant-filter_row-loop : goal.invariant-filter_row-loop
invariant-filter_row-loop v =
    (v.kept ≤ v.counter)
    × ((l : ℕ) (front : Head → Bytes) → ((h : Head) → length (front h) ≡ v.before) → l ≤ v.levels → Turns l front v.count (reached v.initial.self v.initial.out) (v.count - v.counter) (reached v.self v.out) v.kept)
