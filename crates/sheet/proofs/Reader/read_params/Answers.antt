use Rattle.sheet.proofs.ParamWays.{params_way, none_way, one_way, wide_way}
use Rattle.layout.specs.Kinds.{params_of}
use Rattle.sheet.proofs.Reader.read_params.Goals as goal

pub returns-in-None : goal.returns-in-None
unfolding params_of
returns-in-None c = params_way _ _ _ _ _ _ c.in-None.ensures (none_way _ _ _)

pub returns-in-Timestamp : goal.returns-in-Timestamp
unfolding params_of
returns-in-Timestamp c = params_way _ _ _ _ _ _ c.in-Timestamp.ensures c.read_timestamp.ensures

pub returns-in-Unit : goal.returns-in-Unit
unfolding params_of
returns-in-Unit c = params_way _ _ _ _ _ _ c.in-Unit.ensures (one_way _ _ _ _ _ c.read_param.ensures)

pub returns-in-IntervalUnit : goal.returns-in-IntervalUnit
unfolding params_of
returns-in-IntervalUnit c = params_way _ _ _ _ _ _ c.in-IntervalUnit.ensures (one_way _ _ _ _ _ c.read_param-in-IntervalUnit.ensures)

pub returns-in-Int32 : goal.returns-in-Int32
unfolding params_of
returns-in-Int32 c = params_way _ _ _ _ _ _ c.in-Int32.ensures (wide_way _ _ _ _ c.read_raw.ensures)

pub returns-in-Flag : goal.returns-in-Flag
unfolding params_of
returns-in-Flag c = params_way _ _ _ _ _ _ c.in-Flag.ensures (one_way _ _ _ _ _ c.read_param-in-Flag.ensures)
