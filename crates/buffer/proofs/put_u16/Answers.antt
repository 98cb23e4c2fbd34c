-- `buffer::put_u16` meets its contract.
use mathlib.Core.Path.{ap, ◌∙◌}
use Rattle.buffer.specs.Buffer.{pasted}
use Rattle.buffer.proofs.Puts.{two_bytes_lem}
use Rattle.buffer.proofs.put_u16.Goals as goal

pub returns : goal.returns
returns c =
    c.copy_in.ensures ∙ ap (pasted c.args.dst.now c.args.at) (c.two_bytes.ensures ∙ two_bytes_lem c.args.v c.requires.1)
