-- `find_name`: none of the columns passed has the name.
use mathlib.Core.Path.{refl}
use Rattle.schema.proofs.Names.{searched_again, searched_found, searched_done}
use Rattle.schema.proofs.find_name.Goals as goal

pub returns-then-has_name : goal.returns-then-has_name
returns-then-has_name c = searched_found _ _ c.loop-i.invariant c.loop-i-test.true c.has_name.ensures c.if-has_name.true refl

pub loop-i-preserved : goal.loop-i-preserved
loop-i-preserved c = searched_again _ _ c.loop-i.invariant c.loop-i-test.true c.has_name.ensures c.if-has_name.false c.skip_field-place.ensures

pub returns : goal.returns
returns c = searched_done _ _ c.loop-i.invariant c.loop-i-test.false refl
