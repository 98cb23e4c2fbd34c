-- `all_ids`: the ids of the positions passed are written, and the next id is counted along.
use mathlib.Core.Path.{◌≡◌}
use lib.ListN.{take}
use Rattle.model.specs.Unions.{ids_from}
use Rattle.unions.proofs.all_ids.Given as goal

abbrev pub invariant-loop-id : goal.invariant-loop-id
invariant-loop-id l = record { counted : l.next ≡ l.id-index; written : take l.id-index l.id-items ≡ ids_from 0 l.id-index }
