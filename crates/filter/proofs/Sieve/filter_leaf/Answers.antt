-- `filter_leaf`: the mask's byte decides.
use native.Mathlib.Omega.{arith}
use Rattle.filter.proofs.Fields.{leaf_dropped, leaf_kept}
use Rattle.filter.proofs.Sieve.filter_leaf.Goals as goal

pub returns-then-mark-eq0 : goal.returns-then-mark-eq0
returns-then-mark-eq0 c = leaf_dropped (λ h. omega (arith, h, c.saturating_add-self.ensures)) _ c.byte-mark.ensures.0 c.if-mark-eq0.true

pub returns-else-mark-eq0 : goal.returns-else-mark-eq0
returns-else-mark-eq0 c = leaf_kept (λ h. omega (arith, h, c.saturating_add-self.ensures)) _ c.byte-mark.ensures.0 c.if-mark-eq0.false c.copy_to.ensures
