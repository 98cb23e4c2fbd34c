-- A look-up by a loop: the elements passed do not pass the test, so the first that does is what `position` finds.
use Rattle.std.specs.Prelude.{Option, Some, None}
use Prim.Native.Nat.{ℕ, zero, suc, ◌+◌, ◌≤◌, ◌<◌}
use native.Mathlib.Omega.{arith}
use native.Mathlib.Numerals.{add-one}
use mathlib.Core.Path.{◌≡◌, refl, ap}
use mathlib.Core.List.{List, [], ◌∷◌}
use mathlib.Core.Bool.{Bool, true, false}
use lib.ListN.{length, take, get_or}
use lib.Seq.{take-suc}
use Rattle.model.specs.Bytes.{choose, Every, onward, position}
use Rattle.model.proofs.Lists.{every_append}

-- one element more, whatever would stand there if the list were shorter
pub every_take_next : {A : Type 0} (P : A → Type 0) (d : A) (xs : List A) (i : ℕ) → i < length xs → Every P (take i xs) → P (get_or xs i d) → Every P (take (i + 1) xs)
every_take_next P d xs i h k e = rw (add-one, take-suc xs i d h) (every_append P (take i xs) _ k (e, tt))

-- a position counted from another
unfoldable pub from : ℕ → Option ℕ → Option ℕ
from i (Some j) = Some (i + j)
from i None = None

pub from_next : (i : ℕ) (r : Option ℕ) → from i (onward r) ≡ from (i + 1) r
unfolding from onward
from_next i (Some j) = let e : i + suc j ≡ i + 1 + j = omega arith in ap (λ k. Some k) e
from_next i None = refl

pub from_start : (r : Option ℕ) → from 0 r ≡ r
unfolding from
from_start (Some j) = let e : 0 + j ≡ j = omega arith in ap (λ k. Some k) e
from_start None = refl

module _ {A : Type 0} (p : A → Bool) where
  pub position_first : (d : A) (xs : List A) (i : ℕ) → Every (λ x. p x ≡ false) (take i xs) → i < length xs → p (get_or xs i d) ≡ true → position p xs ≡ Some i
  unfolding position choose onward
  position_first d [] i k h e = absurd (omega arith)
  position_first d (x ∷ xs) zero k h e = rw e
  position_first d (x ∷ xs) (suc i) k h e = rw (k.0, position_first d xs i k.1 (omega arith) e)

  pub position_none : (xs : List A) (i : ℕ) → Every (λ x. p x ≡ false) (take i xs) → length xs ≤ i → position p xs ≡ None
  unfolding position choose onward
  position_none [] i k h = refl
  position_none (x ∷ xs) zero k h = absurd (omega arith)
  position_none (x ∷ xs) (suc i) k h = rw (k.0, position_none xs i k.1 (omega arith))
