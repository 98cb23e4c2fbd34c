-- Fields, types and their children. The levels left fall from a type to its children, and each function calls on one that stands before it at equal levels.
use Prim.Native.Nat.{ℕ, ◌≤◌, ◌+◌, ◌*◌}
use mathlib.Core.Path.{◌≡◌}
use mathlib.Core.List.{◌++◌}
use lib.ListN.{length}
use Rattle.model.specs.Bytes.{Bytes}
use Rattle.model.specs.Tree.{Head, Field}
use Rattle.model.specs.Sheet.{field_bytes, type_bytes}
use Rattle.model.specs.WellFormed.{LaidOut}
use Rattle.walk.proofs.Turns.{Turns}
use Rattle.walk.proofs.+skipping.Given as goal

abbrev pub decreases-skip_children : goal.decreases-skip_children
decreases-skip_children l = 8 * l.levels + 3

abbrev pub decreases-skip_field : goal.decreases-skip_field
decreases-skip_field l = 8 * l.levels + 1

abbrev pub decreases-skip_fields : goal.decreases-skip_fields
decreases-skip_fields l = 8 * l.levels + 2

abbrev pub decreases-skip_type : goal.decreases-skip_type
decreases-skip_type l = 8 * l.levels + 0

abbrev pub invariant-skip_fields-loop : goal.invariant-skip_fields-loop
invariant-skip_fields-loop v =
    (l : ℕ) (front : Head → Bytes) → ((h : Head) → length (front h) ≡ v.before) → l ≤ v.levels
    → Turns {A = Field l} (λ k. LaidOut l k.data_type) (λ k. front k.head ++ field_bytes (type_bytes l) k) v.s v.fn.fields.at v.fn.fields.count v.place v.counter
