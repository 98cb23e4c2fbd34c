-- `buffer::accept_u16` meets its contract.
use mathlib.Core.Path.{ap, ◌∙◌}
use lib.ListN.{length}
use Rattle.model.specs.Call.{zeros, acceptance}
use Rattle.buffer.proofs.Puts.{two_bytes_lem}
use Rattle.buffer.proofs.accept_u16.Goals as goal

pub returns : goal.returns
returns c = λ h.
    let a = c.args in
    c.accept.ensures ∙ ap (λ b. acceptance b (zeros (length a.work.now)) a.answer.now) (c.two_bytes.ensures ∙ two_bytes_lem a.v h)
