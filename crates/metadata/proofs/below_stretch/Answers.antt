-- `below_stretch`: where bytes stand, there are both stretches.
use Rattle.metadata.proofs.Texts.{below_taken}
use Rattle.metadata.proofs.below_stretch.Goals as goal

pub returns-in-Some-Some : goal.returns-in-Some-Some
returns-in-Some-Some c = let h = c.in-Some-Some in let i = h.ensures.lookup in let j = h.ensures'.lookup in below_taken cc
