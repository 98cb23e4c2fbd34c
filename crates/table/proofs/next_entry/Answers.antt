-- `next_entry`: eight bytes, or as `skip_entry` has it.
use native.Mathlib.Omega.{arith}
use Rattle.table.proofs.Entries.{plain_entry}
use Rattle.table.proofs.next_entry.Goals as goal

pub returns : goal.returns
returns c = plain_entry _ (omega arith) (omega arith) (omega arith)
