-- Fields and the fields below them. The depth rises from a field to its children, up to the levels that there are.
use mathlib.Core.Path.{◌≡◌}
use mathlib.Core.List.{List}
use Prim.Native.Nat.{ℕ, ◌+◌, ◌*◌, ◌-◌, ◌≤◌}
use lib.ListN.{length}
use Rattle.model.specs.Numbers.{max_levels}
use Rattle.model.specs.Tree.{Head, DataType}
use Rattle.model.specs.Sheet.{field_bytes, type_bytes}
use Rattle.model.specs.WellFormed.{LaidOut}
use Rattle.normalize.specs.Expands.{Above, Lifts, columns_of}
use Rattle.normalize.proofs.Columns.{Turns}
use Rattle.normalize.proofs.Expansion.+expanding.Given as goal

abbrev pub decreases-expand_field : goal.decreases-expand_field
decreases-expand_field l = 2 * (max_levels - length l.path.now)

abbrev pub decreases-expand_fields : goal.decreases-expand_fields
decreases-expand_fields l = 2 * (max_levels - length l.path.now) + 1

abbrev pub invariant-expand_fields-loop : goal.invariant-expand_fields-loop
invariant-expand_fields-loop v =
    (v.path ≡ v.initial.path)
    × ((l : ℕ) (up : DataType l → DataType max_levels) (hs : List Head) → l + length v.initial.path ≤ max_levels → Lifts l up → Above v.self.sheet.now v.initial.path hs
    → Turns (λ k. LaidOut l k.data_type) (field_bytes (type_bytes l)) (columns_of v.self.separator.now v.self.max_level (length v.initial.path) l up hs) v.self.sheet.now v.count (v.count - v.counter) v.initial.out v.out v.initial.reach v.reach)
