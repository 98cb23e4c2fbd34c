-- `put_line`: six pieces, one behind the other.
use mathlib.Core.Path.{ap}
use Rattle.model.specs.Program.{decimal}
use Rattle.buffer.proofs.Puts.{puts_same}
use Rattle.line.proofs.Lines.{line_put}
use Rattle.line.proofs.put_line.Goals as goal

pub returns : goal.returns
returns c work =
    line_put _ _ work (puts_same (ap decimal c.from.ensures) c.put_decimal.ensures) c.put_one.ensures c.put_decimal-2.ensures c.put_one-2.ensures (c.put_answer.ensures work) c.put_one-3.ensures
