-- `answer`: the byte of the comparison.
use Rattle.model.proofs.Whole.{columns_whole}
use Rattle.walk.proofs.Standing.{whole_stands}
use Rattle.datatype.proofs.Calls.{flag_settled}
use Rattle.datatype.proofs.compare.Comparer.answer.Goals as goal

pub returns : goal.returns
returns c = λ x y fx fy p q.
    let same = c.compare_sheets.ensures x y (columns_whole x fx.well_formed) (columns_whole y fy.well_formed) (whole_stands _ _ p) (whole_stands _ _ q) in
    flag_settled _ _ same c.from.ensures c.accept_byte.ensures
