-- The position that an iterator gives is the definition's.
use Prim.Native.Nat.{ℕ, ◌+◌}
use native.Mathlib.Omega.{arith}
use mathlib.Core.Path.{◌≡◌, refl, sym, ap, ◌∙◌}
use mathlib.Core.List.{List, [], ◌∷◌}
use mathlib.Core.Bool.{Bool, true, false, cond}
use Rattle.std.proofs.Common.{Some}
use Rattle.std.proofs.lemmas.Iterator.Adapters.{position_from-zero}
use Rattle.std.specs.List.{position_from}
use Rattle.std.specs.Prelude as std
use Rattle.model.specs.Bytes.{onward, choose, position}
use Rattle.model.proofs.Search.{from, from_next, from_start}

module _ {A : Type 0} (p : A → Bool) where
  from_position : (i : ℕ) (xs : List A) → position_from p i xs ≡ from i (position p xs)
  unfolding from position choose
  from_position i [] = refl
  from_position i (x ∷ xs) = go (p x) (from_position (i + 1) xs ∙ sym (from_next i (position p xs)))
    where
      go : (b : Bool) → position_from p (i + 1) xs ≡ from i (onward (position p xs))
          → cond b (Some i) (position_from p (i + 1) xs) ≡ from i (choose b (λ u. Some 0) λ u. onward (position p xs))
      go true e = let e : i ≡ i + 0 = omega arith in ap (λ k. Some k) e
      go false e = e

  pub position_is : (xs : List A) → std.position p xs ≡ position p xs
  position_is xs = position_from-zero p xs ∙ from_position 0 xs ∙ from_start (position p xs)
