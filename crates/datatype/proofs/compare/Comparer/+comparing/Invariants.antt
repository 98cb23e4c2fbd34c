-- Types, fields, children, rows of them and union children. The levels left fall from a type to its children, and each function calls on one
-- that stands before it at equal levels.
use Prim.Native.Nat.{ℕ, ◌+◌, ◌*◌, ◌≤◌}
use Rattle.layout.specs.Kinds.{children_of}
use Rattle.model.specs.WellFormed.{Child}
use Rattle.datatype.specs.Children.{child_bytes}
use Rattle.datatype.specs.Comparisons.{compare_child}
use Rattle.datatype.proofs.Rows.{Rounds}
use Rattle.datatype.proofs.Members.{One, EachOne}
use Rattle.datatype.proofs.compare.Comparer.+comparing.Given as goal

abbrev pub decreases-compare_child : goal.decreases-compare_child
decreases-compare_child l = 8 * l.levels + 2

abbrev pub decreases-compare_children : goal.decreases-compare_children
decreases-compare_children l = 8 * l.levels + 6

abbrev pub decreases-compare_field : goal.decreases-compare_field
decreases-compare_field l = 8 * l.levels + 1

abbrev pub decreases-compare_in_order : goal.decreases-compare_in_order
decreases-compare_in_order l = 8 * l.levels + 4

abbrev pub decreases-compare_members : goal.decreases-compare_members
decreases-compare_members l = 8 * l.levels + 5

abbrev pub decreases-compare_row : goal.decreases-compare_row
decreases-compare_row l = 8 * l.levels + 3

abbrev pub decreases-compare_type : goal.decreases-compare_type
decreases-compare_type l = 8 * l.levels + 0

abbrev pub decreases-every_member : goal.decreases-every_member
decreases-every_member l = 8 * l.levels + 4

abbrev pub decreases-has_member : goal.decreases-has_member
decreases-has_member l = 8 * l.levels + 3

abbrev pub invariant-compare_row-loop : goal.invariant-compare_row-loop
invariant-compare_row-loop v = (l : ℕ) → l ≤ v.levels → Rounds (Child l (children_of v.kind)) (child_bytes l (children_of v.kind)) (compare_child v.self.how l) v.self.own.now v.self.other.now v.a v.b v.count v.place v.other v.counter

abbrev pub invariant-every_member-loop : goal.invariant-every_member-loop
invariant-every_member-loop l = EachOne l.self.how l.self.own.now l.fn.own.at l.fn.own.count l.self.other.now l.others.at l.others.count l.levels l.place l.counter

abbrev pub invariant-has_member-loop : goal.invariant-has_member-loop
invariant-has_member-loop l = One l.self.how l.self.own.now l.a l.self.other.now l.fn.others.at l.fn.others.count l.levels l.place l.counter
