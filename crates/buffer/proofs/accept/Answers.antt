-- `buffer::accept` meets its contract.
use Rattle.buffer.proofs.accept.Goals as goal

pub returns : goal.returns
returns c =
    rw c.clear.ensures (c.write_answer.ensures _)
