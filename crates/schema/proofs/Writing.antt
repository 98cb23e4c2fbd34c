-- One part of a sheet after another: the places behind them, and what is put.
use Prim.Native.Nat.{ℕ, ◌+◌, ◌-◌, ◌/◌, ◌%◌, ◌≤◌, ◌<◌}
use native.Mathlib.Omega.{arith}
use mathlib.Core.Path.{◌≡◌, sym, subst, ◌∙◌}
use mathlib.Core.List.{List, [], ◌∷◌, ◌++◌}
use lib.ListN.{length, length-append}
use Rattle.model.specs.Bytes.{Bytes, Every, u16}
use Rattle.model.specs.Sheet.{each}
use Rattle.model.specs.Schema.{each_at}
use Rattle.model.proofs.Lists.{each_append}
use Rattle.walk.specs.Stands.{Stands, Skips}
use Rattle.walk.proofs.Standing.{first_stands, stands_behind}
use Rattle.buffer.specs.declared.Output.{Output}
use Rattle.buffer.specs.Puts.{Puts}
use Rattle.buffer.proofs.Puts.{puts_none, puts_same, puts_join, two_bytes_lem}
use Rattle.schema.specs.Flattens.{Flattens}

module _ {s : Bytes} {place : ℕ} where
  -- nothing is passed, and nothing is put
  pub flat_none : {o : Output} → Flattens s place [] [] o o place
  flat_none = record { does = λ h st. (omega arith, puts_none) }

  -- a part without a field of its own, then another; n is the place between them
  pub flat_past : {a b : Bytes} {m : ℕ} (ms : ℕ → List ℕ) {o o' : Output} {r : ℕ} (n : ℕ) → place + length a ≡ n
      → Skips s place a m → Flattens s m b (ms m) o o' r → Flattens s place (a ++ b) (ms n) o o' r
  flat_past {a} {b} {m} ms {o} {o'} {r} n e f g = record {
    does = λ h st.
        let i : m ≡ n = f.behind (first_stands a b st) ∙ e in
        let g' = subst (λ m. Flattens s m b (ms m) o o' r) i g in
        let st' = subst (λ m. Stands s m b) i (stands_behind f st) in
        let x = g'.does h st' in
        (omega (arith, x.0, e, length-append a b), x.1);
  }

  -- one part, then another
  pub flat_join : {a b : Bytes} {m : ℕ} (ns : List ℕ) (ms : ℕ → List ℕ) {o o₁ o₂ : Output} {r : ℕ}
      → Flattens s place a ns o o₁ m → Flattens s m b (ms m) o₁ o₂ r → Flattens s place (a ++ b) (ns ++ ms (place + length a)) o o₂ r
  flat_join {a} {b} {m} ns ms {o₁ = o₁} {o₂} {r} f g = record {
    does = λ h st.
        let x = f.does h (first_stands a b st) in
        let skip : Skips s place a m = record { behind = λ u. x.0 } in
        let g' = subst (λ m. Flattens s m b (ms m) o₁ o₂ r) x.0 g in
        let st' = subst (λ m. Stands s m b) x.0 (stands_behind skip st) in
        let y = g'.does h st' in (
          omega (arith, y.0, length-append a b),
          puts_same (sym (each_append u16 ns (ms (place + length a)))) (puts_join (each u16 ns) (each u16 (ms (place + length a))) x.1 y.1),
        );
  }

  -- the place itself is put first
  pub flat_own : {b : Bytes} {ns : List ℕ} {o o₁ o₂ : Output} {r : ℕ}
      → Puts (place % 256 ∷ place / 256 % 256 ∷ []) o o₁ → Flattens s place b ns o₁ o₂ r → Flattens s place b (place ∷ ns) o o₂ r
  flat_own {ns = ns} f g = record {
    does = λ h st.
        let y = g.does h st in
        (y.0, puts_join (u16 place) (each u16 ns) (puts_same (two_bytes_lem place (omega (arith, h, st.inside))) f) y.1);
  }

-- The loop: what is put of the rest makes what is put of all

module _ {A : Type 0} (W : A → Type 0) (f : A → Bytes) (one : ℕ → A → List ℕ) (s : Bytes) where
  -- so many parts from a place on
  abbrev Rest : (place left : ℕ) (o o' : Output) (r : ℕ) → Type 0
  Rest place left o o' r = (xs : List A) → length xs ≡ left → Every W xs → Flattens s place (each f xs) (each_at f one place xs) o o' r

  -- of so many from `first` on, i have been passed; the others begin at the place
  pub record Turns (first count place i : ℕ) (o o₁ : Output) : Type 0 where
    rest : (o' : Output) (r : ℕ) → Rest place (count - i) o₁ o' r → Rest first count o o' r

  module _ {first count : ℕ} {o : Output} where
    pub turns_begin : Turns first count first 0 o o
    turns_begin = record { rest = λ o' r k xs e z. k xs (omega (arith, e)) z }

    module _ {place i : ℕ} {o₁ : Output} (turns : Turns first count place i o o₁) where
      pub turns_again : {o₂ : Output} {m : ℕ} → i < count → ((x : A) → W x → Flattens s place (f x) (one place x) o₁ o₂ m) → Turns first count m (i + 1) o o₂
      unfolding each_at
      turns_again {o₂} {m} h g = record { rest = λ o' r k. turns.rest o' r (go o' r k) }
        where
          go : (o' : Output) (r : ℕ) → Rest m (count - (i + 1)) o₂ o' r → Rest place (count - i) o₁ o' r
          go o' r k [] e z = absurd (omega (arith, e, h))
          go o' r k (x ∷ xs) e z = flat_join (one place x) (λ m. each_at f one m xs) (g x z.0) (k xs (omega (arith, e)) z.1)

      pub turns_done : count ≤ i → Rest first count o o₁ place
      unfolding each_at
      turns_done h = turns.rest o₁ place go
        where
          go : Rest place (count - i) o₁ o₁ place
          go [] e z = flat_none
          go (x ∷ xs) e z = absurd (omega (arith, e, h))
