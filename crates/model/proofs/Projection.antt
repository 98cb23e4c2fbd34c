-- Projecting by all indexes in order gives the schema itself; and what an accepted projection has.
use Prim.Native.Nat.{ℕ, zero, suc, ◌+◌, ◌*◌, ◌/◌, ◌%◌, ◌<◌}
use native.Mathlib.Omega.{arith}
use mathlib.Core.Path.{◌≡◌, refl, ap, ap₂, subst, ◌∙◌}
use mathlib.Core.List.{List, [], ◌∷◌, ◌++◌, nil≢cons, head-eq_of_cons-eq, tail-eq_of_cons-eq}
use mathlib.Core.Bool.{Bool, false, not, ◌||◌, or-true}
use lib.ListN.{length, drop, length-append}
use lib.Dec.{ltb→lt}
use borrow.Author.Tests.{lt-ltb, ne_eqb}
use Rattle.model.specs.Bytes.{Bytes, Every, u16, among}
use Rattle.model.specs.Tree.{Schema}
use Rattle.model.specs.Sheet.{each}
use Rattle.model.specs.Read.{got}
use Rattle.model.specs.Unions.{ids_from}
use Rattle.model.specs.Schema.{indices, select, index_fits, selected, project, join}
use Rattle.model.proofs.Steps.{Holds, value, refusal, of_got, next_holds, judged_holds, next_got, judged_got}
use Rattle.model.proofs.Steps.{then_zero, unless_zero, then_got, unless_got}

-- All indexes in order

-- the indexes 0, 1, and so on, so many, as an index list has them: "lists are u16 numbers"
abbrev pub all_indices : ℕ → Bytes
all_indices n = each u16 (ids_from 0 n)

-- an index list gives back the numbers that it was written for, however large
pub indices_each : (is : List ℕ) → indices (each u16 is) ≡ got is 0
unfolding indices u16
indices_each [] = refl
indices_each (i ∷ is) =
    let w : i % 256 + 256 * (i / 256) ≡ i = omega arith in
    next_got _ (indices_each is) (ap (λ j. got (j ∷ is) 0) w)

select_drop : {A : Type 0} (xs : List A) (i : ℕ) (y : A) (ys : List A) → drop i xs ≡ y ∷ ys → (select xs i ≡ y ∷ []) × (drop (suc i) xs ≡ ys)
unfolding select
select_drop [] zero y ys h = absurd (nil≢cons h)
select_drop [] (suc i) y ys h = absurd (nil≢cons h)
select_drop (x ∷ xs) zero y ys h = (ap (λ z. z ∷ []) (head-eq_of_cons-eq h), tail-eq_of_cons-eq h)
select_drop (x ∷ xs) (suc i) y ys h = select_drop xs i y ys h

among_above : (i : ℕ) (seen : List ℕ) → Every (λ j. j < i) seen → among i seen ≡ false
unfolding among
among_above i [] h = refl
among_above i (j ∷ seen) h = ap₂ ◌||◌ (ne_eqb i j (λ e. omega (arith, e, h.0))) (among_above i seen h.1)

below_next : (i : ℕ) (seen : List ℕ) → Every (λ j. j < i) seen → Every (λ j. j < suc i) seen
below_next i [] h = tt
below_next i (j ∷ seen) h = (omega (arith, h.0), below_next i seen h.1)

fits_next : (strict : Bool) (count i : ℕ) (seen : List ℕ) → i < count → Every (λ j. j < i) seen → index_fits strict count seen i ≡ 0
unfolding index_fits
fits_next strict count i seen h k =
    then_got _ _ (unless_got _ _ (lt-ltb i count h)) (unless_got _ _ (ap (λ b. not strict || not b) (among_above i seen k) ∙ or-true (not strict)))

-- from an index on, where those before it were taken
selected_rest : {A : Type 0} (strict : Bool) (xs : List A) (i : ℕ) (rest : List A) (seen : List ℕ)
    → drop i xs ≡ rest → i + length rest ≡ length xs → Every (λ j. j < i) seen → selected strict xs (ids_from i (length rest)) seen i ≡ got rest (length xs)
unfolding selected ids_from
selected_rest strict xs i [] seen d n k = ap (got []) (omega (arith, n))
selected_rest {A} strict xs i (y ∷ ys) seen d n k =
    let s = select_drop xs i y ys d in
    let n' : suc i + length ys ≡ length xs = omega (arith, n) in
    let below : Every (λ j. j < suc i) (i ∷ seen) = (omega arith, below_next i seen k) in
    next_got _ (judged_got _ i (select xs i) (suc i) (fits_next strict (length xs) i seen (omega (arith, n)) k))
    (next_got _ (selected_rest strict xs (suc i) ys (i ∷ seen) s.1 n' below) (ap (λ (x : List A). got (x ++ ys) (length xs)) s.0))

-- the projection by all indexes in order is the schema itself, strict or not and however many columns there are
pub project_all : (strict : Bool) (x : Schema) → project strict x (all_indices (length x.columns)) ≡ got x (length x.columns)
unfolding project
project_all strict x =
    next_got _ (indices_each (ids_from 0 (length x.columns)))
    (next_got _ (selected_rest strict x.columns 0 x.columns [] refl (omega arith) tt) refl)

-- Any projection that is accepted

-- y is what a projection of x by an index list of so many entries gives
pub record Projected (x : Schema) (list : Bytes) (y : Schema) (count : ℕ) : Type 0 where
  -- the list is that of so many numbers, each the index of a column
  pub entries : List ℕ
  pub reads : indices list ≡ got entries 0
  pub two_bytes_each : length list ≡ 2 * count
  pub entry_count : length entries ≡ count
  pub inside : Every (λ i. i < length x.columns) entries
  -- a column for each entry, the one at its index, in the list's order
  pub columns : y.columns ≡ join (select x.columns) entries
  pub column_count : length y.columns ≡ count
  pub metadata : y.metadata ≡ x.metadata

indices_holds : (list : Bytes) → Holds (λ is e. (indices list ≡ got is 0) × (length list ≡ 2 * length is)) (indices list)
unfolding indices
indices_holds [] = value (refl, refl)
indices_holds (a ∷ []) = refusal
indices_holds (a ∷ b ∷ bs) =
    next_holds (indices_holds bs) λ is e h.
    value {a = (a + 256 * b) ∷ is} (next_got _ h.0 refl, omega (arith, h.1))

length_select : {A : Type 0} (xs : List A) (i : ℕ) → i < length xs → length (select xs i) ≡ 1
unfolding select
length_select [] i h = absurd (omega (arith, h))
length_select (x ∷ xs) zero h = refl
length_select (x ∷ xs) (suc i) h = length_select xs i (omega (arith, h))

fits_inside : (strict : Bool) (count i : ℕ) (seen : List ℕ) → index_fits strict count seen i ≡ 0 → i < count
unfolding index_fits
fits_inside strict count i seen h = ltb→lt i count (unless_zero _ _ (then_zero _ _ h).0)

record Selected {A : Type 0} (xs : List A) (is : List ℕ) (place : ℕ) (cs : List A) (e : ℕ) : Type 0 where
  all : cs ≡ join (select xs) is
  count : length cs ≡ length is
  inside : Every (λ i. i < length xs) is
  ends : e ≡ place + length is

selected_holds : {A : Type 0} (strict : Bool) (xs : List A) (is seen : List ℕ) (place : ℕ) → Holds (Selected xs is place) (selected strict xs is seen place)
unfolding selected join
selected_holds strict xs [] seen place = value {e = place} (record { all = refl; count = refl; inside = tt; ends = omega arith })
selected_holds {A} strict xs (i ∷ is) seen place =
    next_holds (judged_holds {P = One} _ place (select xs i) (suc place) λ z. (refl, fits_inside strict (length xs) i seen z, refl)) λ c m h.
    next_holds (selected_holds strict xs is (i ∷ seen) m) λ rest e k.
    let n : length c ≡ 1 = ap length h.0 ∙ length_select xs i h.1 in
    value {e = e} (record {
      all = ap₂ ◌++◌ h.0 k.all;
      count = length-append c rest ∙ omega (arith, n, k.count);
      inside = (h.1, k.inside);
      ends = omega (arith, h.2, k.ends);
    })
  where
    One : List A → ℕ → Type 0
    One c e = (c ≡ select xs i) × (i < length xs) × (e ≡ suc place)

-- an accepted projection has the schema's metadata and a column for each entry of the list, the one at that index
pub project_accepted : (strict : Bool) (x : Schema) (list : Bytes) (y : Schema) (count : ℕ) → project strict x list ≡ got y count → Projected x list y count
unfolding project
project_accepted strict x list y count h = of_got (subst (Holds (Projected x list)) h holds)
  where
    holds : Holds (Projected x list) (project strict x list)
    holds =
        next_holds (indices_holds list) λ is e a.
        next_holds (selected_holds strict x.columns is [] 0) λ cs e b.
        value (record {
          entries = is;
          reads = a.0;
          two_bytes_each = omega (arith, a.1, b.ends);
          entry_count = omega (arith, b.ends);
          inside = b.inside;
          columns = b.all;
          column_count = omega (arith, b.count, b.ends);
          metadata = refl;
        })
