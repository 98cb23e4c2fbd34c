-- The test of `find_by_field`: whether the field behind the id at a place is equal to the one looked for.
use Rattle.datatype.proofs.Finds.{SameMember}
use Rattle.datatype.proofs.fn.find_by_field.find_child.Given as goal

abbrev pub ensures : goal.ensures
ensures l r = SameMember l.s.entry.now l.place l.t.entry.now l.field l.levels r
