-- `put_answer`: `-`, or the answer in hex.
use native.Mathlib.Omega.{arith}
use mathlib.Core.Path.{ap}
use Rattle.std.proofs.lemmas.List.{take_min}
use Rattle.model.specs.Sheet.{each}
use Rattle.model.specs.Program.{hex_byte}
use Rattle.buffer.proofs.Puts.{puts_same}
use Rattle.line.proofs.Lines.{answer_refused, answer_part}
use Rattle.line.proofs.put_answer.Goals as goal

pub returns-then-refused : goal.returns-then-refused
returns-then-refused c work = answer_refused _ _ work c.if-refused.true c.put_one.ensures

pub returns : goal.returns
returns c work =
    answer_part _ _ work (omega arith) (puts_same (ap (each hex_byte) (rw c.min.ensures (take_min _ _))) c.put_hex.ensures)
