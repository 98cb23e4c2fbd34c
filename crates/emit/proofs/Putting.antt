-- What is put: a part of the train, and lists element by element, those that are left, the count before them, and the part under a bit.
use Prim.Native.Nat.{ℕ, ◌+◌, ◌*◌, ◌%◌, ◌/◌, ◌≤◌, ◌<◌}
use native.Mathlib.Omega.{arith}
use mathlib.Core.Path.{◌≡◌, sym}
use mathlib.Core.List.{List, [], ◌∷◌}
use mathlib.Core.Bool.{Bool, true, false, false≢true}
use Rattle.std.specs.Int.{from_bool}
use lib.ListN.{length}
use Rattle.model.specs.Numbers.{max_sheet_bytes}
use Rattle.model.specs.Bytes.{Bytes, flag}
use Rattle.model.specs.Sheet.{each, with_count, part, stands}
use Rattle.buffer.specs.declared.Output.{Output}
use Rattle.buffer.specs.Puts.{Puts}
use Rattle.buffer.proofs.Puts.{puts_none, puts_beyond, puts_join, puts_two}
use Rattle.walk.specs.Stands.{Stands}

-- what `put_part` ensures
abbrev pub PutsPart : (s : Bytes) (from to : ℕ) (o o' : Output) → Type 0
PutsPart s from to o o' = (b : Bytes) → Stands s from b → to ≡ from + length b → Puts b o o'

-- a bit of this value is added to a map where it is set
pub flag_of : (n : ℕ) (set : Bool) {m : ℕ} → m ≡ from_bool set → m * n ≡ flag n set
flag_of n true e = rw e (omega arith)
flag_of n false e = rw e (omega arith)

module _ {A : Type 0} (write : A → Bytes) where
  -- with those that are left put behind o, all are put behind o₀
  pub record Onward (xs : List A) (o₀ o : Output) (left : List A) : Type 0 where
    pub whole : (o' : Output) → Puts (each write left) o o' → Puts (each write xs) o₀ o'

  module _ {xs : List A} {o₀ o : Output} where
    pub onward_one : {o₁ : Output} {x : A} {left : List A} → Puts (write x) o o₁ → Onward xs o₀ o (x ∷ left) → Onward xs o₀ o₁ left
    onward_one {x = x} {left = left} f k = record { whole = λ o' h. k.whole o' (puts_join (write x) (each write left) f h) }

    pub onward_done : Onward xs o₀ o [] → Puts (each write xs) o₀ o
    onward_done k = k.whole o puts_none

    pub onward_beyond : {left : List A} → max_sheet_bytes < o.written → Onward xs o₀ o left → Puts (each write xs) o₀ o
    onward_beyond {left} h k = k.whole o (puts_beyond (each write left) h)

  pub onward_begin : {xs : List A} {o : Output} → Onward xs o o xs
  onward_begin = record { whole = λ o' h. h }

  -- The count, then as many. Where the count passes 65,535, so does the answer.
  pub puts_counted_list : {o o₁ o₂ : Output} {n : ℕ} (xs : List A) → n ≡ length xs → length xs ≤ length (each write xs)
      → Puts (n % 256 ∷ n / 256 % 256 ∷ []) o o₁ → Puts (each write xs) o₁ o₂ → Puts (with_count write xs) o o₂
  unfolding with_count
  puts_counted_list xs e long f g = puts_two (length xs) (each write xs) (λ h. (e, omega (arith, h, long))) f g

-- A part under a bit

module _ {A : Type 0} (f : List A → Bytes) {o : Output} where
  pub puts_part : {o' : Output} (xs : List A) → true ≡ stands xs → Puts (f xs) o o' → Puts (part f xs) o o'
  puts_part [] e h = absurd (false≢true (sym e))
  puts_part (x ∷ xs) e h = h

  pub puts_no_part : (xs : List A) → false ≡ stands xs → Puts (part f xs) o o
  puts_no_part [] e = puts_none
  puts_no_part (x ∷ xs) e = absurd (false≢true e)
