-- `begin_table`: the table of the empty schema.
use mathlib.Core.Path.{ap, ◌∙◌}
use Rattle.try_merge.proofs.Trains.{table_begun}
use Rattle.try_merge.proofs.begin_table.Goals as goal

pub returns : goal.returns
returns c =
    let n = c.new-table.ensures in
    let i = c.insert.ensures in
    record { same_reference = i.same.buffer ∙ n.same_reference; begins = (ap (λ s. s.now) i.same.train ∙ n.empty.0, table_begun n.empty.1 n.empty.2 i.same.size i.is) }
