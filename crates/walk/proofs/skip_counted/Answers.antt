-- `skip_counted`: the length, then as many bytes.
use Rattle.walk.proofs.Parts.{counted_skips}
use Rattle.walk.proofs.skip_counted.Goals as goal

pub returns : goal.returns
returns c = counted_skips c.ahead-body.ensures c.two.ensures.0 c.ahead.ensures
