-- Numbers in bytes: `little_endian` and `num` undo each other, in any number of bytes.
use Prim.Native.Nat.{ℕ, zero, suc, ◌+◌, ◌*◌, ◌/◌, ◌%◌, ◌<◌}
use native.Mathlib.Omega.{arith}
use mathlib.Core.Path.{◌≡◌, refl, ap, ap₂, ◌∙◌}
use mathlib.Core.List.{[], ◌∷◌}
use lib.ListN.{length}
use Rattle.model.specs.Bytes.{Bytes, Every, little_endian, num}

-- the bytes of a number stand for it, whether or not the last is a byte
pub num_little_endian : (k n : ℕ) → num (little_endian (suc k) n) ≡ n
unfolding num
num_little_endian zero n = omega arith
num_little_endian (suc k) n = omega (arith, num_little_endian k (n / 256))

pub length_little_endian : (k n : ℕ) → length (little_endian k n) ≡ k
length_little_endian zero n = refl
length_little_endian (suc zero) n = refl
length_little_endian (suc (suc k)) n = ap suc (length_little_endian (suc k) (n / 256))

-- bytes are those of the number that they stand for
pub little_endian_num : (b : Bytes) → Every (λ x. x < 256) b → little_endian (length b) (num b) ≡ b
unfolding num
little_endian_num [] low = refl
little_endian_num (x ∷ []) low = let same : x + 256 * 0 ≡ x = omega arith in ap (λ y. y ∷ []) same
little_endian_num (x ∷ y ∷ b) low =
    let first : (x + 256 * num (y ∷ b)) % 256 ≡ x = omega (arith, low.0) in
    let rest : (x + 256 * num (y ∷ b)) / 256 ≡ num (y ∷ b) = omega (arith, low.0) in
    ap₂ (λ z n. z ∷ little_endian (length (y ∷ b)) n) first rest ∙ ap (λ z. x ∷ z) (little_endian_num (y ∷ b) low.1)
