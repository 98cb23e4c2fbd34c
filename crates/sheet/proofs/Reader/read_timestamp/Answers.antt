use Rattle.sheet.proofs.Ways.{ways, told_ok, item_stop, item_then, step_then, judge_le, bit_way_0}
use Rattle.sheet.proofs.ParamWays.{timestamp_way}
use Rattle.sheet.proofs.Reader.read_timestamp.Goals as goal

pub returns-in_default : goal.returns-in_default
returns-in_default c = search (timestamp_way, ways) depth 10

pub returns-in_err-map : goal.returns-in_err-map
returns-in_err-map c =
    timestamp_way _ _ _ _ (step_then _ _ _ _ _ c.read_param-unit.ensures (told_ok c.in-Ok.is) λ u. item_stop _ _ _ _ c.read_byte.ensures c.in_err-map.was c.from_residual.ensures.1)

pub returns-then-map-gt1 : goal.returns-then-map-gt1
returns-then-map-gt1 c = search (timestamp_way, ways, c.in_ok-map.was) depth 10

pub returns : goal.returns
returns c =
    timestamp_way _ _ _ _ (step_then _ _ _ _ _ c.read_param-unit.ensures (told_ok c.in-Ok.is) λ u.
    item_then _ _ _ _ _ _ c.read_byte.ensures (told_ok c.in_ok-map.was) (judge_le _ _ _ _ _ _ _ _ c.if-map-gt1.false
    (bit_way_0 _ _ _ _ c.read_if.ensures.there c.read_if.ensures.absent)))
