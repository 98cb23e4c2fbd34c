-- `skip_places`: so many places, and the mark.
use native.Mathlib.Omega.{arith}
use Rattle.std.proofs.lemmas.Iterator.Consumers.{count_from_yields_List}
use Rattle.table.proofs.Given.{row_gives}
use Rattle.table.proofs.Places.{length_places}
use Rattle.table.proofs.skip_places.Goals as goal

pub returns : goal.returns
returns c = λ ps g. record { behind = λ st. omega (arith, c.ahead.ensures, st.inside, length_places ps, count_from_yields_List _ _ c.count-count.ensures.ran (row_gives ps c.new.ensures g st)) }
