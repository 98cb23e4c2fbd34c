-- `all_ids`: the ids of the positions passed are written, and the next id is counted along.
use native.Mathlib.Omega.{arith}
use mathlib.Core.Path.{refl}
use Rattle.model.specs.Unions.{ids_from}
use Rattle.unions.proofs.Ends.{ids_turn}
use Rattle.unions.proofs.all_ids.Goals as goal

pub loop-id-init : goal.loop-id-init
unfolding ids_from
loop-id-init c = record { counted = refl; written = refl }

pub loop-id-preserved : goal.loop-id-preserved
loop-id-preserved c =
    let l = c.loop-id.invariant in
    record { counted = omega arith; written = ids_turn _ _ _ l.counted l.written (omega arith) }
