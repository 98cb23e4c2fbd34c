-- `program_line`: no line is longer than the buffer.
use native.Mathlib.Omega.{arith}
use Rattle.buffer.proofs.Puts.{fills}
use Rattle.line.proofs.Programs.{prints}
use Rattle.line.proofs.program_line.Goals as goal

pub returns : goal.returns
returns c = prints _ _ (λ k. (c.type_inv.input k).fits) (omega arith) (fills _ c.new-out.ensures.1 c.new-out.ensures.2 c.put_program_line.ensures)
