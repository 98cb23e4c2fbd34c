-- `skip_member`: the id, then the field.
use mathlib.Core.Path.{refl}
use mathlib.Core.List.{[], ◌∷◌}
use Rattle.walk.proofs.Standing.{skip_ahead, skip_join}
use Rattle.walk.proofs.skip_member.Goals as goal

pub returns : goal.returns
returns c = λ l f h z. skip_join (skip_ahead (f.head.type_id ∷ []) refl c.ahead.ensures.1) (c.skip_field.ensures l f h z)
