use Rattle.sheet.proofs.Ways.{ways, number_stop}
use Rattle.model.specs.Read.{read_metadata, read_list}
use Rattle.sheet.proofs.Reader.read_metadata.Goals as goal

pub returns-in_err-count : goal.returns-in_err-count
unfolding read_metadata read_list
returns-in_err-count c = number_stop _ _ _ _ _ _ _ _ c.read_u16.ensures c.in_err-count.was c.from_residual.ensures.1

pub returns-then-count-lt1 : goal.returns-then-count-lt1
unfolding read_metadata read_list
returns-then-count-lt1 c = search (ways, c.in_ok-count.was) depth 8

pub returns : goal.returns
unfolding read_metadata read_list
returns c = search (ways, c.in_ok-count.was) depth 8
