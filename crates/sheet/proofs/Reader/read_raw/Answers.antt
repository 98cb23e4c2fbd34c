use Rattle.sheet.proofs.Ways.{step_ends, step_far, step_fits}
use native.Mathlib.Omega.{arith}
use Rattle.sheet.proofs.Reader.read_raw.Goals as goal

pub returns-then-self-at : goal.returns-then-self-at
returns-then-self-at c = step_ends _ _ _ _ _ (omega arith)

pub returns-then-self-at-2 : goal.returns-then-self-at-2
returns-then-self-at-2 c = step_ends _ _ _ _ _ (omega arith)

pub returns-then-self-at-3 : goal.returns-then-self-at-3
returns-then-self-at-3 c = step_far _ _ _ _ _ (omega arith) (omega arith)

pub returns : goal.returns
returns c = step_fits _ _ _ _ (omega arith) (omega arith)
