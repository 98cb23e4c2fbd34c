-- The loop over two rows of parts, each one behind the other.
use Prim.Native.Nat.{ℕ, ◌+◌, ◌<◌}
use native.Mathlib.Omega.{arith}
use mathlib.Core.Path.{◌≡◌, refl, sym, ap, ◌∙◌}
use mathlib.Core.List.{List, [], ◌∷◌}
use mathlib.Core.Bool.{Bool, true, false, ◌&&◌}
use lib.ListN.{length}
use Rattle.model.specs.Bytes.{Bytes, Every, same}
use Rattle.model.specs.Sheet.{each}
use Rattle.walk.specs.Stands.{Stands, Skips}
use Rattle.walk.proofs.Standing.{first_stands, stands_behind}

pub alone : (b : Bool) → (b && true) ≡ b
alone true = refl
alone false = refl

module _ {A : Type 0} (W : A → Type 0) (f : A → Bytes) (eq : A → A → Bool) (s t : Bytes) where
  -- the i-th of so many, counted from 1, and those behind it stand at the two places; whether they are equal is the answer
  record Left (count place other i : ℕ) (answer : Bool) : Type 0 where
    xs : List A
    ys : List A
    left : length xs + i ≡ count + 1
    left' : length ys + i ≡ count + 1
    good : Every W xs
    good' : Every W ys
    stands : Stands s place (each f xs)
    stands' : Stands t other (each f ys)
    rest : same eq xs ys ≡ answer

  -- of so many that stand from a and from b on, those before the i-th are passed
  pub record Rounds (a b count place other i : ℕ) : Type 0 where
    rest : (xs ys : List A) → length xs ≡ count → length ys ≡ count → Every W xs → Every W ys → Stands s a (each f xs) → Stands t b (each f ys)
        → Left count place other i (same eq xs ys)

  pub rounds_begin : (a b count : ℕ) → Rounds a b count a b 1
  rounds_begin a b count = record {
    rest = λ xs ys e e' w w' st st'.
        record { xs = xs; ys = ys; left = omega (arith, e); left' = omega (arith, e'); good = w; good' = w'; stands = st; stands' = st'; rest = refl };
  }

  -- what the comparison of two parts ensures
  abbrev Compares : ℕ → ℕ → Bool → Type 0
  Compares place other r = (x y : A) → W x → W y → Stands s place (f x) → Stands t other (f y) → r ≡ eq x y

  one_round : {count place other i p q : ℕ} {r answer : Bool} → i < count → Compares place other r → r ≡ true
      → ((x : A) → W x → Skips s place (f x) p) → ((y : A) → W y → Skips t other (f y) q) → Left count place other i answer → Left count p q (i + 1) answer
  unfolding same
  one_round {count} {place} {other} {i} {p} {q} {r} {answer} h c e g g' k =
      go k.xs k.ys k.left k.left' k.good k.good' k.stands k.stands' k.rest
    where
      go : (xs ys : List A) → length xs + i ≡ count + 1 → length ys + i ≡ count + 1 → Every W xs → Every W ys → Stands s place (each f xs) → Stands t other (each f ys)
          → same eq xs ys ≡ answer → Left count p q (i + 1) answer
      go [] ys n m w w' st st' j = absurd (omega (arith, n, h))
      go (x ∷ xs) [] n m w w' st st' j = absurd (omega (arith, m, h))
      go (x ∷ xs) (y ∷ ys) n m w w' st st' j =
          let d = c x y w.0 w'.0 (first_stands (f x) (each f xs) st) (first_stands (f y) (each f ys) st') in
          record {
            xs = xs;
            ys = ys;
            left = omega (arith, n);
            left' = omega (arith, m);
            good = w.1;
            good' = w'.1;
            stands = stands_behind (g x w.0) st;
            stands' = stands_behind (g' y w'.0) st';
            rest = ap (λ b. b && same eq xs ys) (sym e ∙ d) ∙ j;
          }

  pub rounds_again : {a b count place other i p q : ℕ} {r : Bool} → Rounds a b count place other i → i < count → Compares place other r → r ≡ true
      → ((x : A) → W x → Skips s place (f x) p) → ((y : A) → W y → Skips t other (f y) q) → Rounds a b count p q (i + 1)
  rounds_again k h c e g g' = record { rest = λ xs ys n m w w' st st'. one_round h c e g g' (k.rest xs ys n m w w' st st') }

  -- what the row's comparison ensures
  abbrev pub Verdict : ℕ → ℕ → ℕ → Bool → Type 0
  Verdict a b count r = (xs ys : List A) → length xs ≡ count → length ys ≡ count → Every W xs → Every W ys → Stands s a (each f xs) → Stands t b (each f ys)
      → r ≡ same eq xs ys

  pub rounds_stop : {a b count place other i : ℕ} {r : Bool} → Rounds a b count place other i → i < count → Compares place other r → r ≡ false
      → Verdict a b count false
  unfolding same
  rounds_stop {a} {b} {count} {place} {other} {i} {r} k h c e xs ys n m w w' st st' = out (k.rest xs ys n m w w' st st')
    where
      go : (answer : Bool) (xs ys : List A) → length xs + i ≡ count + 1 → length ys + i ≡ count + 1 → Every W xs → Every W ys → Stands s place (each f xs) → Stands t other (each f ys)
          → same eq xs ys ≡ answer → false ≡ answer
      go answer [] ys n m w w' st st' j = absurd (omega (arith, n, h))
      go answer (x ∷ xs) [] n m w w' st st' j = absurd (omega (arith, m, h))
      go answer (x ∷ xs) (y ∷ ys) n m w w' st st' j =
          let d = c x y w.0 w'.0 (first_stands (f x) (each f xs) st) (first_stands (f y) (each f ys) st') in
          ap (λ b. b && same eq xs ys) (sym e ∙ d) ∙ j

      out : {answer : Bool} → Left count place other i answer → false ≡ answer
      out {answer} k = go answer k.xs k.ys k.left k.left' k.good k.good' k.stands k.stands' k.rest

  -- where the last is left, the verdict on it is that on all
  pub rounds_last : {a b count place other i : ℕ} {r : Bool} → Rounds a b count place other i → i ≡ count → Compares place other r → Verdict a b count r
  unfolding same
  rounds_last {a} {b} {count} {place} {other} {i} {r} k h c xs ys n m w w' st st' = out (k.rest xs ys n m w w' st st')
    where
      go : (answer : Bool) (xs ys : List A) → length xs + i ≡ count + 1 → length ys + i ≡ count + 1 → Every W xs → Every W ys → Stands s place (each f xs) → Stands t other (each f ys)
          → same eq xs ys ≡ answer → r ≡ answer
      go answer [] ys n m w w' st st' j = absurd (omega (arith, n, h))
      go answer (x ∷ xs) [] n m w w' st st' j = absurd (omega (arith, m, h))
      go answer (x ∷ []) (y ∷ []) n m w w' st st' j = c x y w.0 w'.0 (first_stands (f x) [] st) (first_stands (f y) [] st') ∙ sym (alone (eq x y)) ∙ j
      go answer (x ∷ []) (y ∷ z ∷ ys) n m w w' st st' j = absurd (omega (arith, m, h))
      go answer (x ∷ z ∷ xs) (y ∷ ys) n m w w' st st' j = absurd (omega (arith, n, h))

      out : {answer : Bool} → Left count place other i answer → r ≡ answer
      out {answer} k = go answer k.xs k.ys k.left k.left' k.good k.good' k.stands k.stands' k.rest

  -- of none there is nothing to compare
  pub rounds_none : (a b : ℕ) {count : ℕ} → count ≡ 0 → Verdict a b count true
  unfolding same
  rounds_none a b h [] [] n m w w' st st' = refl
  rounds_none a b h [] (y ∷ ys) n m w w' st st' = absurd (omega (arith, m, h))
  rounds_none a b h (x ∷ xs) ys n m w w' st st' = absurd (omega (arith, n, h))

-- lists that are not as long as each other are not equal
pub counts_differ : {A : Type 0} (eq : A → A → Bool) (xs ys : List A) → (length xs ≡ length ys → ⊥) → false ≡ same eq xs ys
unfolding same
counts_differ eq [] [] h = absurd (h refl)
counts_differ eq [] (y ∷ ys) h = refl
counts_differ eq (x ∷ xs) [] h = refl
counts_differ eq (x ∷ xs) (y ∷ ys) h = go (eq x y) (counts_differ eq xs ys λ e. h (omega (arith, e)))
  where
    go : (b : Bool) → false ≡ same eq xs ys → false ≡ (b && same eq xs ys)
    go true e = e
    go false e = refl
