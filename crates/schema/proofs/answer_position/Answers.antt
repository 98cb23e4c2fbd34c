-- `answer_position`: the position, or 13.
use mathlib.Core.Path.{ap, ◌∙◌}
use Rattle.std.specs.Prelude.{Err}
use Rattle.schema.proofs.Names.{index_written, index_missing}
use Rattle.schema.proofs.answer_position.Goals as goal

pub returns-in-Some : goal.returns-in-Some
returns-in-Some c = λ x fits same. index_written x _ _ _ (c.find_column.ensures x fits same) fits c.in-Some.is c.accept_u16.ensures

pub returns-in-None : goal.returns-in-None
returns-in-None c = λ x fits same.
    index_missing x _ _ _ (c.find_column.ensures x fits same) c.in-None.is (c.refuse.ensures.0 ∙ ap Err c.from.ensures) c.refuse.ensures.1
