-- `put_hex`: the digits of the bytes so far.
use Rattle.std.specs.Prelude.{Result, Ok, Err, IsOk, OnOk}
use native.Mathlib.Omega.{arith}
use Rattle.buffer.proofs.Puts.{puts_none}
use Rattle.line.proofs.Lines.{hex_again}
use Rattle.line.proofs.put_hex.Goals as goal

on_ok : {T E P : Type 0} (r : Result T E) → IsOk r → OnOk r P → P
on_ok (Ok x) h p = p
on_ok (Err e) h p = cc h

pub loop-b-init : goal.loop-b-init
loop-b-init c = puts_none

pub loop-b-preserved : goal.loop-b-preserved
loop-b-preserved c =
    let h = c.encode_to_slice.ensures in
    hex_again _ _ _ (λ k. (c.type_inv.bytes k).fits) c.loop-b-test.true c.loop-b.invariant (on_ok _ (h.fits.1 (omega arith)) h.written) c.put.ensures
