-- `write_places`: the places of the columns passed stand in the table.
use Rattle.project.proofs.Places.{placing_begin, placing_again, placing_done}
use Rattle.project.proofs.write_places.Goals as goal

pub loop-i-preserved : goal.loop-i-preserved
loop-i-preserved c =
    placing_again c.loop-i.invariant c.loop-i-test.true c.skip_field-place.ensures c.put_place-in-loop-i.ensures

pub loop-i-init : goal.loop-i-init
loop-i-init c = placing_begin _ _ _ c.args.work.now c.requires c.put_place.ensures

pub returns : goal.returns
returns c = placing_done c.loop-i.invariant c.loop-i-test.false
