-- The union numberings: the ids accepted are the ids given; a walk over ids and fields from a position on, as a loop goes; the ids from 0 on.
use Prim.Native.Nat.{ℕ, zero, suc, ◌+◌, ◌-◌, ◌≤◌, ◌<◌}
use native.Mathlib.Omega.{arith}
use native.Mathlib.Numerals.{add-one}
use mathlib.Core.Path.{◌≡◌, refl, ap}
use mathlib.Core.List.{List, [], ◌∷◌, ◌++◌}
use lib.ListN.{length, take, drop, get_or, drop_of_length-le}
use Rattle.model.specs.Numbers.{more_fields_than_ids, more_ids_than_fields}
use Rattle.model.specs.Bytes.{Bytes}
use Rattle.model.specs.Read.{Step, got, bad, next, judged, id_fits}
use Rattle.model.specs.Unions.{try_new, ids_from}
use Rattle.model.proofs.ByteStrings.{drop_next}
use Rattle.model.proofs.Steps.{Holds, value, refusal, next_holds, judged_holds}

-- the ids of an accepted numbering are those that were given
pub try_new_ids : (ids : Bytes) (count : ℕ) (seen : List ℕ) (place : ℕ) → Holds (λ b e. b ≡ ids) (try_new ids count seen place)
unfolding try_new
try_new_ids [] zero seen place = value refl
try_new_ids [] (suc n) seen place = refusal
try_new_ids (i ∷ ids) zero seen place = refusal
try_new_ids (i ∷ ids) (suc n) seen place =
    next_holds (judged_holds {P = λ j e. j ≡ i} (id_fits seen i) place i (suc place) λ z. refl) λ j e h.
    next_holds (try_new_ids ids n (j ∷ seen) e) λ rest e k.
    value (rw (h, k))

-- From a position on

module _ (ids : Bytes) (count : ℕ) (seen : List ℕ) (i : ℕ) where
  abbrev from : Step Bytes
  from = try_new (drop i ids) (count - i) seen i

  left : (n : ℕ) → i < n → n - i ≡ suc (n - (i + 1))
  left n h = omega arith

  -- an id and a field
  pub try_new_next : i < length ids → i < count
      → from ≡ next (judged (id_fits seen (get_or ids i 0)) i (get_or ids i 0) (i + 1)) λ j e. next (try_new (drop (i + 1) ids) (count - (i + 1)) (j ∷ seen) e) λ rest e. got (j ∷ rest) e
  unfolding try_new
  try_new_next h k = rw (drop_next ids i h, left count k, add-one)

  pub try_new_more_ids : i < length ids → count ≤ i → from ≡ bad more_ids_than_fields 0
  unfolding try_new
  try_new_more_ids h k = let e : count - i ≡ 0 = omega arith in rw (drop_next ids i h, e)

  pub try_new_more_fields : length ids ≤ i → i < count → from ≡ bad more_fields_than_ids 0
  unfolding try_new
  try_new_more_fields h k = rw (drop_of_length-le ids h, left count k)

  pub try_new_end : length ids ≤ i → count ≤ i → from ≡ got [] i
  unfolding try_new
  try_new_end h k = let e : count - i ≡ 0 = omega arith in rw (drop_of_length-le ids h, e)

-- The ids from an id on

-- one id more
pub ids_from_next : (i n : ℕ) → ids_from i (suc n) ≡ ids_from i n ++ ((i + n) ∷ [])
unfolding ids_from
ids_from_next i zero = let e : i + 0 ≡ i = omega arith in rw e
ids_from_next i (suc n) = let e : i + suc n ≡ suc i + n = omega arith in rw e (ap (λ t. i ∷ t) (ids_from_next (suc i) n))

pub take_ids_from : (i n m : ℕ) → n ≤ m → take n (ids_from i m) ≡ ids_from i n
unfolding ids_from
take_ids_from i zero m h = refl
take_ids_from i (suc n) zero h = absurd (omega arith)
take_ids_from i (suc n) (suc m) h = ap (λ t. i ∷ t) (take_ids_from (suc i) n m (omega arith))
