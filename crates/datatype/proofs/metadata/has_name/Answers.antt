-- `has_name`: the bit of the name, room, then the bytes.
use native.Mathlib.Omega.{arith}
use mathlib.Core.Path.{◌≡◌, ap}
use Prim.Native.Nat.{◌+◌, ◌-◌}
use lib.ListN.{length, take, drop}
use Rattle.datatype.proofs.Texts.{name_empty, name_missing, name_long, name_compared}
use Rattle.datatype.proofs.metadata.has_name.Goals as goal

pub returns-then-is_empty : goal.returns-then-is_empty
returns-then-is_empty c = name_empty c.byte.ensures.0 c.bit-named.ensures c.if-is_empty.ensures

pub returns-then-not-named : goal.returns-then-not-named
returns-then-not-named c = name_missing c.byte.ensures.0 c.bit-named.ensures c.if-is_empty.ensures c.if-not-named.true

pub returns-then-s-from : goal.returns-then-s-from
returns-then-s-from c = name_long c.byte.ensures.0 c.bit-named.ensures c.if-is_empty.ensures c.ahead-from.ensures c.if-not-named.false (omega (arith, c.if-s-from.true, c.ahead-from.ensures.0))

pub returns : goal.returns
returns c =
    let e : c.ahead-from.result + length c.args.name.now - c.ahead-from.result ≡ length c.args.name.now = omega arith in
    name_compared c.byte.ensures.0 c.bit-named.ensures c.if-is_empty.ensures c.ahead-from.ensures c.if-not-named.false c.same.ensures (ap (λ n. take n (drop c.ahead-from.result c.args.s.now)) e)
