use mathlib.Core.Path.{◌≡◌}
use mathlib.Core.List.{[]}
use Prim.Native.Nat.{◌+◌, ◌-◌, ◌*◌}
use Rattle.model.specs.Read.{read_many, read_field, read_union_child, read_type}
use Rattle.sheet.specs.Answers.{step_of}
use Rattle.sheet.specs.Shapes.{read_members}
use Rattle.sheet.proofs.Reader.+reading.Given as goal

abbrev pub decreases-read_children : goal.decreases-read_children
decreases-read_children l = 8 * l.levels + 4

abbrev pub decreases-read_dictionary : goal.decreases-read_dictionary
decreases-read_dictionary l = 8 * l.levels + 1

abbrev pub decreases-read_field : goal.decreases-read_field
decreases-read_field l = 8 * l.levels + 1

abbrev pub decreases-read_fields : goal.decreases-read_fields
decreases-read_fields l = 8 * l.levels + 2

abbrev pub decreases-read_members : goal.decreases-read_members
decreases-read_members l = 8 * l.levels + 2

abbrev pub decreases-read_shape : goal.decreases-read_shape
decreases-read_shape l = 8 * l.levels + 5

abbrev pub decreases-read_struct : goal.decreases-read_struct
decreases-read_struct l = 8 * l.levels + 3

abbrev pub decreases-read_type : goal.decreases-read_type
decreases-read_type l = 8 * l.levels + 0

abbrev pub decreases-read_union : goal.decreases-read_union
decreases-read_union l = 8 * l.levels + 3

abbrev pub invariant-read_fields-loop : goal.invariant-read_fields-loop
invariant-read_fields-loop l = step_of (read_many (l.count - l.counter) (λ seen. read_field l.self.bytes.now l.self.limit l.levels (read_type l.self.bytes.now l.self.limit l.levels) 0) [] l.place) ≡ step_of (read_many l.count (λ seen. read_field l.self.bytes.now l.self.limit l.levels (read_type l.self.bytes.now l.self.limit l.levels) 0) [] l.at)

abbrev pub invariant-read_members-loop : goal.invariant-read_members-loop
invariant-read_members-loop l = step_of (read_members l.self.bytes.now l.self.limit l.levels l.used (l.count - l.counter) l.place) ≡ step_of (read_many l.count (read_union_child l.self.bytes.now l.self.limit l.levels (read_type l.self.bytes.now l.self.limit l.levels)) [] l.at)
