use Rattle.sheet.proofs.Ways.{told_ok, told_err, step_then, step_stop, number_stop, number_then, judge_le, judge_nle, bit_way, bit_way_0}
use Rattle.sheet.proofs.TreeWays.{schema_way}
use Rattle.sheet.proofs.read_schema.Goals as goal

pub returns-in_err-map : goal.returns-in_err-map
returns-in_err-map c = schema_way _ _ _ _ (number_stop _ _ _ _ _ _ _ _ c.read_byte.ensures c.in_err-map.was c.from_residual.ensures.1)

pub returns-then-map-gt3 : goal.returns-then-map-gt3
returns-then-map-gt3 c = search (schema_way, number_then, judge_nle, told_ok, c.in_ok-map.was) depth 10

pub returns-in_default : goal.returns-in_default
returns-in_default c =
    schema_way _ _ _ _ (number_then _ _ _ _ _ _ _ _ _ _ c.read_byte.ensures (told_ok c.in_ok-map.was) (judge_le _ _ _ _ _ _ _ _ c.if-map-gt3.false
    (step_stop _ _ _ _ _ (bit_way_0 _ _ _ _ c.read_if-metadata.ensures.there c.read_if-metadata.ensures.absent) (told_err c.in_default.is))))

pub returns : goal.returns
returns c =
    schema_way _ _ _ _ (number_then _ _ _ _ _ _ _ _ _ _ c.read_byte.ensures (told_ok c.in_ok-map.was) (judge_le _ _ _ _ _ _ _ _ c.if-map-gt3.false
    (step_then _ _ _ _ _ (bit_way_0 _ _ _ _ c.read_if-metadata.ensures.there c.read_if-metadata.ensures.absent) (told_ok c.in-Ok.is) λ d.
    bit_way _ _ _ _ _ c.read_if.ensures.there c.read_if.ensures.absent)))
