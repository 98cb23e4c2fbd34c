-- `Table::set_byte`: one byte over one.
use mathlib.Core.Path.{refl}
use mathlib.Core.List.{[], ◌∷◌}
use Rattle.table.proofs.Opening.{byte_set}
use Rattle.table.proofs.Table.set_byte.Goals as goal

pub returns : goal.returns
returns c = let o = c.overwrite.ensures in record { same = o.same; used = o.used; is = λ x z b h e n. byte_set n (o.is x (b ∷ []) z h e refl) }
