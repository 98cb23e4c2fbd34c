-- The loops over parts that stand one behind the other.
use Prim.Native.Nat.{ℕ, ◌+◌, ◌≤◌, ◌<◌}
use native.Mathlib.Omega.{arith}
use mathlib.Core.Path.{◌≡◌, ap}
use mathlib.Core.List.{List, [], ◌∷◌}
use lib.ListN.{length, length-append}
use Rattle.model.specs.Bytes.{Bytes, Every}
use Rattle.model.specs.Sheet.{each}
use Rattle.model.proofs.Lists.{each_append}
use Rattle.walk.specs.Stands.{Skips}
use Rattle.walk.proofs.Passed.{Passed, passed_again, passed_done}

module _ {A : Type 0} (W : A → Type 0) (f : A → Bytes) (s : Bytes) where
  -- of so many that stand from `first` on, i have been passed; the place is behind them
  abbrev pub Turns : (first count place i : ℕ) → Type 0
  Turns first count place i = Passed W f s (λ done. place ≡ first + length (each f done)) first count place i

  pub turns_again : {first count place i r : ℕ} → Turns first count place i → i < count → ((x : A) → W x → Skips s place (f x) r) → Turns first count r (i + 1)
  turns_again t h g =
      passed_again W f s t h g λ done x n p w st.
      omega (arith, p, (g x w).behind st, ap length (each_append f done (x ∷ [])), length-append (each f done) (each f (x ∷ [])), length-append (f x) [])

  pub turns_done : {first count place i : ℕ} → Turns first count place i → count ≤ i → (xs : List A) → length xs ≡ count → Every W xs → Skips s first (each f xs) place
  turns_done t h xs e w = record { behind = λ st. passed_done W f s t h xs e w st }
