-- `find_member`: the first child that is equal, or where the row ends.
use mathlib.Core.Bool.{true, false}
use Rattle.std.proofs.Common.{rules, Some, None}
use borrow.Author.Tests.{tests}
use Rattle.std.proofs.lemmas.Iterator.{first_from_find}
use Rattle.table.proofs.Given.{row_gives, row_ends}
use Rattle.members.specs.Claims.{SameMembers}
use Rattle.members.proofs.Searching.{find_here, find_none}
use Rattle.members.proofs.find_member.Goals as goal

pub returns-in-Some : goal.returns-in-Some
returns-in-Some c =
    let a = c.args in
    find_here {there = c.in-Some.there}
    (λ ps g st.
    first_from_find c.find.new.self _ (Some c.in-Some.there) (λ p. SameMembers a.table.now.train.now a.q p a.levels true) (λ p. SameMembers a.table.now.train.now a.q p a.levels false) c.in-Some.ensures.ran (row_gives ps c.places-children.ensures g st)
    (λ x q k. search (rules, tests)) (λ x q k. search (rules, tests))) c.by_id.ensures

pub returns-in-None : goal.returns-in-None
returns-in-None c =
    let a = c.args in
    let ran = c.in-None.ensures.ran in
    find_none λ ps g st. (
      first_from_find c.find.new.self _ None (λ p. SameMembers a.table.now.train.now a.q p a.levels true) (λ p. SameMembers a.table.now.train.now a.q p a.levels false) ran (row_gives ps c.places-children.ensures g st)
          (λ x q k. search (rules, tests)) (λ x q k. search (rules, tests)),
      row_ends ps c.places-children.result c.find.new.self c.places-children.ensures g st ran.0 ran.2,
    )
