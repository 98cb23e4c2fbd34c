-- `put_column`: the head, then the type.
use native.Mathlib.Omega.{arith}
use Rattle.normalize.proofs.Fields.{column_expanded}
use Rattle.normalize.proofs.Expansion.put_column.Goals as goal

pub returns : goal.returns
returns c =
    column_expanded _ c.skip_head-data_type.ensures c.skip_type-place.ensures c.put_head.ensures c.put_part.ensures (λ h. omega (arith, h, c.saturating_add.ensures))
