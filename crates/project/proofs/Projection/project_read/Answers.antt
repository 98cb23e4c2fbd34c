-- `project_read`: the refusal of the list, or the projection.
use Rattle.project.proofs.Ends.{list_refused, list_accepted}
use borrow.Author.Rules.{rules}
use Rattle.project.proofs.Projection.project_read.Goals as goal

pub returns-in-Err : goal.returns-in-Err
returns-in-Err c =
    λ x fits e room.
    list_refused _ _ _ (c.check_columns.ensures x fits e room).0 c.in-Err.is c.refuse.ensures.0 c.refuse.ensures.1 (search rules)

pub returns-in-Ok : goal.returns-in-Ok
returns-in-Ok c =
    λ x fits e room.
    let (valid, table) = c.check_columns.ensures x fits e room in
    list_accepted _ _ _ valid c.in-Ok.is (λ y n h. c.answer_projected.ensures x y _ n e table h) (search rules)
