-- `check_columns`: the table, then the verdict.
use Rattle.project.proofs.Ends.{table_fits, table_checked}
use Rattle.project.proofs.Projection.check_columns.Goals as goal

pub returns : goal.returns
returns c =
    λ x fits e room. table_checked c.find_columns-columns.ensures x e _ _ fits c.write_places.ensures c.check_behind.ensures

pub returns-then-work-count : goal.returns-then-work-count
returns-then-work-count c = λ x fits e room. absurd (table_fits c.find_columns-columns.ensures x e _ room c.if-work-count.true)
