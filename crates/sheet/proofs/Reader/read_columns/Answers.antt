use Rattle.sheet.proofs.Ways.{ways, number_stop}
use Rattle.model.specs.Read.{read_list, read_column}
use Rattle.sheet.proofs.Reader.read_columns.Goals as goal

pub returns-in_err-count : goal.returns-in_err-count
unfolding read_list read_column
returns-in_err-count c = number_stop _ _ _ _ _ _ _ _ c.read_u16.ensures c.in_err-count.was c.from_residual.ensures.1

pub returns-then-count-lt1 : goal.returns-then-count-lt1
unfolding read_list read_column
returns-then-count-lt1 c = search (ways, c.in_ok-count.was) depth 8

pub returns : goal.returns
unfolding read_list read_column
returns c = search (ways, c.in_ok-count.was) depth 8
