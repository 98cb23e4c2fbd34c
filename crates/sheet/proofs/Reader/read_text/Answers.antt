use Rattle.sheet.proofs.Ways.{ways, number_stop}
use Rattle.model.specs.Read.{read_text}
use Rattle.sheet.proofs.Reader.read_text.Goals as goal

pub returns-in_err-n : goal.returns-in_err-n
unfolding read_text
returns-in_err-n c = number_stop _ _ _ _ _ _ _ _ c.read_u16.ensures c.in_err-n.was c.from_residual.ensures.1

pub returns-then-n-least : goal.returns-then-n-least
unfolding read_text
returns-then-n-least c = search (ways, c.in_ok-n.was) depth 8

pub returns : goal.returns
unfolding read_text
returns c = search (ways, c.in_ok-n.was) depth 8
