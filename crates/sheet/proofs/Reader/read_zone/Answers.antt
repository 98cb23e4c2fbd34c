use Rattle.sheet.proofs.Ways.{ways, item_stop}
use Rattle.sheet.proofs.ParamWays.{zone_way}
use Rattle.sheet.proofs.Reader.read_zone.Goals as goal

pub returns-in_err-n : goal.returns-in_err-n
returns-in_err-n c = zone_way _ _ _ _ (item_stop _ _ _ _ c.read_u16.ensures c.in_err-n.was c.from_residual.ensures.1)

pub returns : goal.returns
returns c = search (zone_way, ways, c.in_ok-n.was) depth 8
