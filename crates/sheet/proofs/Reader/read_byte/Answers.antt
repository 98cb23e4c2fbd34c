-- `read_byte`: the byte as it stands is the number.
use native.Mathlib.Omega.{arith}
use mathlib.Core.Path.{◌∙◌}
use Rattle.sheet.proofs.Ways.{raw_got, num_stop, num_read, one_byte}
use Rattle.sheet.proofs.Reader.read_byte.Goals as goal

pub returns-in_err-next : goal.returns-in_err-next
returns-in_err-next c = num_stop _ _ _ _ c.read_raw.ensures _ _ c.in_err-next.was c.from_residual.ensures.1

pub bounds-self-at : goal.bounds-self-at
bounds-self-at c = omega (arith, (raw_got _ _ _ _ c.read_raw.ensures c.in_ok-next.was).inside)

pub returns : goal.returns
returns c = num_read _ _ _ _ c.read_raw.ensures c.in_ok-next.was (c.from.ensures ∙ one_byte _ _ (raw_got _ _ _ _ c.read_raw.ensures c.in_ok-next.was).inside)
