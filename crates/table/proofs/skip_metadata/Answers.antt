-- `skip_metadata`: the places, or nothing.
use mathlib.Core.Path.{refl}
use Rattle.table.proofs.skip_metadata.Goals as goal

pub returns-then-flags-eq1 : goal.returns-then-flags-eq1
returns-then-flags-eq1 c = (λ n. absurd (n c.if-flags-eq1.true), λ e. c.skip_places.ensures)

pub returns : goal.returns
returns c = (λ n. refl, λ e. absurd (c.if-flags-eq1.false e))
