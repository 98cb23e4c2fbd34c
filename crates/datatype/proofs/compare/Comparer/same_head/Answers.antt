-- `same_head_lem`: the maps, then the bytes behind them.
use Rattle.datatype.proofs.Encodings.{equal, unequal}
use Rattle.datatype.proofs.Heads.{heads_by_low, heads_by_high, heads_by_rest}
use Rattle.datatype.proofs.compare.Comparer.same_head.Goals as goal

pub returns-then-bit : goal.returns-then-bit
returns-then-bit c = heads_by_low c.byte-map.ensures.0 c.byte-other.ensures.0 c.bit.ensures c.bit-2.ensures (unequal _ _ c.if-bit.true)

pub returns-then-map-other : goal.returns-then-map-other
returns-then-map-other c = heads_by_high c.byte-map.ensures.0 c.byte-other.ensures.0 c.bit.ensures c.bit-2.ensures c.if-map-other.true

pub returns : goal.returns
returns c =
    heads_by_rest c.byte-map.ensures.0 c.byte-other.ensures.0 c.bit.ensures c.bit-2.ensures (equal _ _ c.if-bit.false) c.if-map-other.false c.ahead-from.ensures c.ahead-since.ensures
    c.skip_front.ensures c.skip_front-2.ensures c.same_stretch.ensures
