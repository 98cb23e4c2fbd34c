-- `put_front`: the map, then the metadata that stands behind the sheet's own.
use native.Mathlib.Omega.{arith}
use Rattle.project.proofs.Putting.{bits_added, front_put}
use Rattle.project.proofs.put_front.Goals as goal

pub returns : goal.returns
returns c =
    front_put _ c.byte.ensures.0 c.bit-metadata.ensures (omega (arith, bits_added c.bit-metadata.result c.args.columns)) c.put_one.ensures c.skip_sheet_head.ensures c.put_part.ensures
