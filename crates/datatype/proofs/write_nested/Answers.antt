-- `write_nested`: the first bytes are those of the columns passed.
use Rattle.datatype.proofs.Nested.{nested_begin, nested_again, nested_done}
use Rattle.datatype.proofs.write_nested.Goals as goal

pub loop-byte-init : goal.loop-byte-init
loop-byte-init c = nested_begin _ _ _

pub loop-byte-preserved : goal.loop-byte-preserved
loop-byte-preserved c = nested_again c.loop-byte.invariant c.loop-byte-test.true c.skip_head-data_type.ensures c.is_nested.ensures c.from.ensures c.skip_type-place.ensures

pub returns : goal.returns
returns c = nested_done c.loop-byte.invariant c.loop-byte-test.false
