-- `has_id`: whether one of the children has the id.
use mathlib.Core.Path.{refl}
use Rattle.std.proofs.Common.{rules}
use borrow.Author.Tests.{tests}
use Rattle.std.proofs.lemmas.Iterator.Search.{any_from_yields_List}
use Rattle.table.proofs.Given.{row_gives}
use Rattle.members.proofs.Searching.{has_at, id_found}
use Rattle.members.proofs.has_id.Goals as goal

pub returns : goal.returns
returns c = id_found c.args.id λ ps g st. any_from_yields_List (has_at c.args.s.now c.args.id) c.any.new.self _ _ c.any.ensures.ran (row_gives ps (refl, refl) g st) (λ x b q k. search (rules, tests))
