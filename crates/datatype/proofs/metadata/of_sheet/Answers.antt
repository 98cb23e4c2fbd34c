-- `of_sheet`: behind the map.
use Rattle.datatype.proofs.Texts.{sheet_pairs, pairs_found}
use Rattle.datatype.proofs.metadata.of_sheet.Goals as goal

pub returns : goal.returns
returns c = sheet_pairs c.byte-map.ensures.0 c.ahead-place.ensures c.bit.ensures (pairs_found c.counted_if.ensures.set c.counted_if.ensures.unset)
