use Rattle.sheet.proofs.Ways.{raw_got, body_stop, body_text, body_broken}
use native.Mathlib.Omega.{arith}
use Rattle.sheet.proofs.Reader.read_body.Goals as goal

pub returns-in_default : goal.returns-in_default
returns-in_default c = body_stop _ _ _ _ c.read_raw-raw.ensures c.in_default.is

pub slice_bounds-check-count : goal.slice_bounds-check-count
slice_bounds-check-count c = omega (arith, (raw_got _ _ _ _ c.read_raw-raw.ensures c.in-Ok.is).ends)

pub slice_bounds-check-start : goal.slice_bounds-check-start
slice_bounds-check-start c = omega (arith, (raw_got _ _ _ _ c.read_raw-raw.ensures c.in-Ok.is).ends)

pub slice_bounds-check-end : goal.slice_bounds-check-end
slice_bounds-check-end c = let g = raw_got _ _ _ _ c.read_raw-raw.ensures c.in-Ok.is in omega (arith, g.ends, g.inside)

pub returns-in_default-check : goal.returns-in_default-check
returns-in_default-check c = body_broken _ _ _ _ c.read_raw-raw.ensures c.in-Ok.is c.check.ensures c.in_default-check.is

pub returns : goal.returns
returns c = body_text _ _ _ _ c.read_raw-raw.ensures c.in-Ok.is c.check.ensures c.in-Ok-check.is
