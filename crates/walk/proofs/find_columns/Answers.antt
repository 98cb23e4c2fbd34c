-- `find_columns`: the map says whether columns stand.
use Rattle.walk.proofs.Schemas.{columns_found}
use Rattle.walk.proofs.find_columns.Goals as goal

pub returns : goal.returns
returns c = columns_found c.byte.ensures.0 c.skip_sheet_head-place.ensures c.bit.ensures c.counted_if.ensures.set c.counted_if.ensures.unset
