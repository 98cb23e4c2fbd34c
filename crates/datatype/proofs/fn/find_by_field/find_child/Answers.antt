-- The test of `find_by_field`: whether the field behind the id at a place is equal to the one looked for.
use Rattle.datatype.proofs.Finds.{behind_id}
use Rattle.datatype.proofs.fn.find_by_field.find_child.Goals as goal

pub returns : goal.returns
returns c = behind_id c.ahead.ensures c.same_field.ensures
