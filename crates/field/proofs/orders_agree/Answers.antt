-- `orders_agree`: equal flags, or Nulls where they may differ.
use Rattle.field.proofs.Orders.{agree_same, agree_null, agree_not}
use Rattle.field.proofs.orders_agree.Goals as goal

pub returns-then-bit : goal.returns-then-bit
returns-then-bit c = agree_same c.byte.ensures.0 c.byte-2.ensures.0 c.bit.ensures c.bit-2.ensures c.if-bit.true

pub returns-then-parked : goal.returns-then-parked
returns-then-parked c = agree_null c.byte.ensures.0 c.byte-2.ensures.0 c.bit.ensures c.bit-2.ensures c.if-bit.false c.if-parked.true c.has_null.ensures

pub returns-else-parked : goal.returns-else-parked
returns-else-parked c = agree_not c.byte.ensures.0 c.byte-2.ensures.0 c.bit.ensures c.bit-2.ensures c.if-bit.false c.if-parked.false
