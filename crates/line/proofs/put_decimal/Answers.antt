-- `put_decimal`: the library's digits.
use mathlib.Core.Path.{◌∙◌}
use Rattle.buffer.proofs.Puts.{puts_same}
use Rattle.line.proofs.Lines.{decimal_text}
use Rattle.line.proofs.put_decimal.Goals as goal

pub returns : goal.returns
returns c = puts_same (c.as_bytes.ensures.value ∙ c.format.ensures.text ∙ decimal_text c.args.n c.ranges.n.fits) c.put.ensures
