-- Fields, types and their children. The levels left fall from a type to its children, and each function calls on one that stands before it at equal levels.
use mathlib.Core.Path.{◌≡◌}
use Prim.Native.Nat.{ℕ, ◌≤◌, ◌+◌, ◌*◌}
use mathlib.Core.List.{List, ◌++◌}
use lib.ListN.{length}
use Rattle.model.specs.Bytes.{Bytes}
use Rattle.model.specs.Tree.{Head, Field}
use Rattle.model.specs.WellFormed.{LaidOut}
use Rattle.model.specs.Sheet.{field_bytes, type_bytes}
use Rattle.schema.proofs.Writing.{Turns}
use Rattle.schema.specs.Flattens.{own}
use Rattle.schema.proofs.+flattening.Given as goal

abbrev pub decreases-flatten_children : goal.decreases-flatten_children
decreases-flatten_children l = 8 * l.levels + 3

abbrev pub decreases-flatten_field : goal.decreases-flatten_field
decreases-flatten_field l = 8 * l.levels + 1

abbrev pub decreases-flatten_fields : goal.decreases-flatten_fields
decreases-flatten_fields l = 8 * l.levels + 2

abbrev pub decreases-flatten_type : goal.decreases-flatten_type
decreases-flatten_type l = 8 * l.levels + 0

abbrev pub invariant-flatten_fields-loop : goal.invariant-flatten_fields-loop
invariant-flatten_fields-loop v =
    (l : ℕ) (front : Head → Bytes) (one : ℕ → Field l → List ℕ) → ((h : Head) → length (front h) ≡ v.before) → ((n : ℕ) (k : Field l) → one n k ≡ own l (n + v.before) k) → l ≤ v.levels
    → Turns (λ k. LaidOut l k.data_type) (λ k. front k.head ++ field_bytes (type_bytes l) k) one v.s v.fn.fields.at v.fn.fields.count v.place v.counter v.initial.out v.out
