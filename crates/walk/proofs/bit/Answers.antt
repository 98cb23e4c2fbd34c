-- `bit`: past bit 63 nothing stands.
use Prim.Native.Nat.{ℕ, ◌<◌, ◌≤◌, ◌^◌, ◌/◌, ◌%◌}
use Prim.{yes, no}
use native.Mathlib.Omega.{arith}
use native.Mathlib.Decide.{dec_lt}
use mathlib.Core.Path.{◌≡◌, sym, ap, ◌∙◌}
use lib.Dec.{eqb, ltb}
use borrow.Author.Tests.{lt-ltb, le-ltb}
use Rattle.std.proofs.Math.Nat.{div-eq_of_lt}
use Rattle.std.proofs.Math.Pow.{pow_mono}
use Rattle.std.specs.Bool.{if◌then◌else◌}
use Rattle.model.specs.Bytes.{bit}
use Rattle.walk.proofs.bit.Goals as goal

shifted : (map k : ℕ) → map < 2 ^ 64 → (if ltb k 64 then map / 2 ^ k else 0) ≡ map / 2 ^ k
shifted map k h = elim (dec_lt k 64) [
  | yes i ↦ rw (lt-ltb k 64 i)
  | no i ↦ let j : 2 ^ 64 ≤ 2 ^ k = pow_mono {i = 64} (omega arith) in rw (le-ltb k 64 (omega arith)) (sym (div-eq_of_lt (omega arith)))
]

pub returns : goal.returns
unfolding bit
returns c = ap (λ n. eqb (n % 2) 1) (c.unbounded_shr.ensures ∙ shifted c.args.map c.args.k c.ranges.map.fits)
