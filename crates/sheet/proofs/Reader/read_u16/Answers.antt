-- `read_u16`: two bytes as they stand, the low one first.
use native.Mathlib.Omega.{arith}
use mathlib.Core.Path.{◌≡◌, ◌∙◌}
use Prim.Native.Nat.{◌+◌, ◌*◌}
use lib.ListN.{get_or}
use Rattle.sheet.proofs.Ways.{raw_got, num_stop, num_read, two_bytes}
use Rattle.sheet.proofs.Reader.read_u16.Goals as goal

pub returns-in_err-next : goal.returns-in_err-next
returns-in_err-next c = num_stop _ _ _ _ c.read_raw.ensures _ _ c.in_err-next.was c.from_residual.ensures.1

pub bounds-self-at : goal.bounds-self-at
bounds-self-at c = omega (arith, (raw_got _ _ _ _ c.read_raw.ensures c.in_ok-next.was).inside)

pub overflow_add-at : goal.overflow_add-at
overflow_add-at c = omega (arith, (raw_got _ _ _ _ c.read_raw.ensures c.in_ok-next.was).ends)

pub bounds-self-at-2 : goal.bounds-self-at-2
bounds-self-at-2 c = omega (arith, (raw_got _ _ _ _ c.read_raw.ensures c.in_ok-next.was).inside)

pub returns : goal.returns
returns c =
    let s = c.args.self.now.bytes.now in
    let at = c.args.at in
    let e : c.from.result ≡ get_or s at 0 + 256 * get_or s (at + 1) 0 = omega arith in
    num_read _ _ _ _ c.read_raw.ensures c.in_ok-next.was (e ∙ two_bytes _ _ (raw_got _ _ _ _ c.read_raw.ensures c.in_ok-next.was).inside)
