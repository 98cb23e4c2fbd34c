use Rattle.sheet.proofs.Ways.{ways, param_way, item_stop}
use Rattle.sheet.proofs.Reader.read_param.Goals as goal

pub returns-in_err-v : goal.returns-in_err-v
returns-in_err-v c = param_way _ _ _ _ _ (item_stop _ _ _ _ c.read_byte.ensures c.in_err-v.was c.from_residual.ensures.1)

pub returns-then-v-top : goal.returns-then-v-top
returns-then-v-top c = search (ways, c.in_ok-v.was) depth 8

pub returns-else-v-top : goal.returns-else-v-top
returns-else-v-top c = search (ways, c.in_ok-v.was) depth 8
