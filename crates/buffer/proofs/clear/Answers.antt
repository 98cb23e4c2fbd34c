-- `buffer::clear` meets its contract: a copy of 0 is 0.
use Rattle.model.specs.Call.{zeros}
use Rattle.buffer.proofs.clear.Goals as goal

pub returns : goal.returns
unfolding zeros
returns c = c.fill.ensures.after (λ y h. h)
