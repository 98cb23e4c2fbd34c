-- `put_hex`: the digits of the bytes so far.
use lib.ListN.{take}
use Rattle.model.specs.Sheet.{each}
use Rattle.model.specs.Program.{hex_byte}
use Rattle.buffer.specs.Puts.{Puts}
use Rattle.line.proofs.put_hex.Given as goal

abbrev pub invariant-loop-b : goal.invariant-loop-b
invariant-loop-b l = Puts (each hex_byte (take l.b-index l.bytes)) l.initial.out l.out
