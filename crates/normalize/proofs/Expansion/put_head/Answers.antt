-- `put_head`: the map alone, or the map, the name's length and the name.
use native.Mathlib.Omega.{arith}
use Rattle.walk.proofs.Descents.{nullable_stands}
use Rattle.normalize.proofs.Names.{head_unnamed, head_named}
use Rattle.normalize.proofs.Expansion.put_head.Goals as goal

pub returns-then-length-eq0 : goal.returns-then-length-eq0
returns-then-length-eq0 c hs h a st =
    head_unnamed h _ (c.name_length-length.ensures hs h a st) c.if-length-eq0.true (nullable_stands c.byte-nullable.ensures.0 h st) c.put_one.ensures

pub returns : goal.returns
returns c hs h a st =
    head_named h _ (c.name_length-length.ensures hs h a st) c.if-length-eq0.false (omega (arith, nullable_stands c.byte-nullable.ensures.0 h st))
    c.put_one-2.ensures c.put_two.ensures (c.put_name.ensures hs h a st)
