-- `write_nested`: the first bytes are those of the columns passed.
use lib.ListN.{length}
use Rattle.datatype.proofs.Nested.{NestedLoop}
use Rattle.datatype.proofs.write_nested.Given as goal

abbrev pub invariant-loop-byte : goal.invariant-loop-byte
invariant-loop-byte l = NestedLoop l.sheet l.at (length l.fn.answer) l.byte-items l.place l.byte-index
