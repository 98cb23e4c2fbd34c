-- The loop over parts that stand one behind the other, of which a verdict is sought: `all`, `any`, a look-up. A turn passes one part where
-- the verdict on it and the rest is that on the rest, and stops where the part decides.
use Prim.Native.Nat.{ℕ, ◌+◌, ◌≤◌, ◌<◌}
use native.Mathlib.Omega.{arith}
use mathlib.Core.Path.{◌≡◌, refl, sym, ◌∙◌}
use mathlib.Core.List.{List, [], ◌∷◌}
use lib.ListN.{length}
use Rattle.model.specs.Bytes.{Bytes, Every}
use Rattle.model.specs.Sheet.{each}
use Rattle.walk.specs.Stands.{Stands, Skips}
use Rattle.walk.proofs.Standing.{first_stands, stands_behind}

module _ {A B : Type 0} (W : A → Type 0) (f : A → Bytes) (s : Bytes) where
  -- i of so many are passed; the verdict G on those left at the place is the answer
  record Left (G : List A → B) (count place i : ℕ) (answer : B) : Type 0 where
    xs : List A
    left : i + length xs ≡ count
    good : Every W xs
    stands : Stands s place (each f xs)
    rest : G xs ≡ answer

  -- of so many that stand from `first` on, i are passed, and the verdict F on all is G on those left
  pub record Seeks (F G : List A → B) (first count place i : ℕ) : Type 0 where
    rest : (xs : List A) → length xs ≡ count → Every W xs → Stands s first (each f xs) → Left G count place i (F xs)

  pub seeks_begin : (F : List A → B) (first count : ℕ) → Seeks F F first count first 0
  seeks_begin F first count = record { rest = λ xs e w st. record { xs = xs; left = omega (arith, e); good = w; stands = st; rest = refl } }

  module _ {F G : List A → B} {first count place i : ℕ} (k : Seeks F G first count place i) where
    pub seeks_again : {H : List A → B} {p : ℕ} → i < count → ((x : A) → W x → Skips s place (f x) p)
        → ((x : A) (xs : List A) → W x → Stands s place (f x) → G (x ∷ xs) ≡ H xs) → Seeks F H first count p (i + 1)
    seeks_again {H} {p} h g d = record { rest = λ xs e w st. out (k.rest xs e w st) }
      where
        go : {answer : B} (xs : List A) → i + length xs ≡ count → Every W xs → Stands s place (each f xs) → G xs ≡ answer → Left H count p (i + 1) answer
        go [] n w st e = absurd (omega (arith, n, h))
        go (x ∷ xs) n w st e =
            record {
              xs = xs;
              left = omega (arith, n);
              good = w.1;
              stands = stands_behind (g x w.0) st;
              rest = sym (d x xs w.0 (first_stands (f x) (each f xs) st)) ∙ e;
            }

        out : {answer : B} → Left G count place i answer → Left H count p (i + 1) answer
        out l = go l.xs l.left l.good l.stands l.rest

    pub seeks_stop : {r : B} → i < count → ((x : A) (xs : List A) → W x → Stands s place (f x) → r ≡ G (x ∷ xs))
        → (xs : List A) → length xs ≡ count → Every W xs → Stands s first (each f xs) → r ≡ F xs
    seeks_stop {r} h d xs e w st = out (k.rest xs e w st)
      where
        go : {answer : B} (xs : List A) → i + length xs ≡ count → Every W xs → Stands s place (each f xs) → G xs ≡ answer → r ≡ answer
        go [] n w st e = absurd (omega (arith, n, h))
        go (x ∷ xs) n w st e = d x xs w.0 (first_stands (f x) (each f xs) st) ∙ e

        out : {answer : B} → Left G count place i answer → r ≡ answer
        out l = go l.xs l.left l.good l.stands l.rest

    pub seeks_done : {r : B} → count ≤ i → r ≡ G [] → (xs : List A) → length xs ≡ count → Every W xs → Stands s first (each f xs) → r ≡ F xs
    seeks_done {r} h d xs e w st = out (k.rest xs e w st)
      where
        go : {answer : B} (xs : List A) → i + length xs ≡ count → G xs ≡ answer → r ≡ answer
        go [] n e = d ∙ e
        go (x ∷ xs) n e = absurd (omega (arith, n, h))

        out : {answer : B} → Left G count place i answer → r ≡ answer
        out l = go l.xs l.left l.rest
