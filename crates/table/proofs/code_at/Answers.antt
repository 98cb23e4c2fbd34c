-- `code_at`: the code at the place in the entry.
use Rattle.table.proofs.Types.{code_of}
use Rattle.table.proofs.code_at.Goals as goal

pub returns : goal.returns
returns c = code_of c.place_at.ensures.0 c.byte.ensures.0
