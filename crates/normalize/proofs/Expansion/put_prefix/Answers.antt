-- `put_prefix`: so many names are put.
use Rattle.normalize.proofs.Names.{prefixed_begin, prefixed_again}
use Rattle.normalize.proofs.Expansion.put_prefix.Goals as goal

pub loop-place-init : goal.loop-place-init
loop-place-init c = prefixed_begin

pub loop-place-preserved : goal.loop-place-preserved
loop-place-preserved c = prefixed_again c.loop-place.invariant c.places-place-items.ensures c.loop-place-test.true c.put_own_name.ensures c.put.ensures
