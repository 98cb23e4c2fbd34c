-- Numbers of three bytes.
use mathlib.Core.Path.{◌≡◌, refl, sym, ap, ◌∙◌}
use mathlib.Core.List.{[], ◌∷◌, ◌++◌}
use Prim.Native.Nat.{ℕ, ◌+◌, ◌*◌, ◌/◌, ◌%◌, ◌<◌}
use native.Mathlib.Omega.{arith}
use lib.ListN.{length, get_or}
use Rattle.model.specs.Bytes.{Bytes}
use Rattle.walk.specs.Stands.{Stands}
use Rattle.walk.proofs.Standing.{byte_stands, second_stands}
use Rattle.table.specs.Table.{u24, three}

-- the parts of a number below 2^24
digits : (n : ℕ) → n < 16777216 → n % 256 + 256 * (n / 256 % 256) + 65536 * (n / 65536 % 256) ≡ n
digits n h =
    let a : n / 65536 ≡ n / 256 / 256 = omega arith in
    let b : n / 256 < 65536 = omega arith in
    let c : n / 256 / 256 % 256 ≡ n / 256 / 256 = omega arith in
    omega arith

pub length_u24 : (n : ℕ) → length (u24 n) ≡ 3
unfolding u24
length_u24 n = refl

-- the number that stands at a place
pub three_stands : {w : Bytes} {place : ℕ} (n : ℕ) (b : Bytes) → n < 16777216 → Stands w place (u24 n ++ b) → three w place ≡ n
unfolding u24 three
three_stands {w} {place} n b h st =
    let x = byte_stands st in
    let st2 = second_stands (n % 256 ∷ []) (n / 256 % 256 ∷ n / 65536 % 256 ∷ b) st in
    let y = byte_stands st2 in
    let z = byte_stands (second_stands (n / 256 % 256 ∷ []) (n / 65536 % 256 ∷ b) st2) in
    let e : place + 1 + 1 ≡ place + 2 = omega arith in
    let z2 = ap (λ i. get_or w i 0) (sym e) ∙ z in
    omega (arith, x, y, z2, digits n h)
