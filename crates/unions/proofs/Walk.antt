-- The walk over ids and fields: what is answered to one id, and the turns and the ends of the loop.
use Prim.Native.Nat.{ℕ, zero, suc, ◌+◌, ◌-◌, ◌≤◌, ◌<◌}
use native.Mathlib.Omega.{arith}
use mathlib.Core.Path.{◌≡◌, refl, sym, ap, ◌∙◌}
use mathlib.Core.List.{List, [], ◌∷◌}
use mathlib.Core.Bool.{Bool, true, false, not}
use lib.ListN.{length, drop, get_or, replicate, length-set, length-replicate}
use lib.Dec.{eqb, leb}
use borrow.Author.Tests.{leb-true, le-leb, lt-leb}
use Rattle.model.specs.Numbers.{max_type_id, more_fields_than_ids, more_ids_than_fields, id_too_large, id_repeated}
use Rattle.model.specs.Bytes.{Bytes}
use Rattle.model.specs.Read.{Step, got, bad, next, judged, unless, ◌then◌, id_fits}
use Rattle.model.specs.Unions.{try_new}
use Rattle.model.proofs.Flags.{Flags, flags_none, flags_more, fits_by_flags}
use Rattle.model.proofs.Unions.{try_new_next, try_new_more_ids, try_new_more_fields, try_new_end}
use Rattle.std.specs.Prelude.{Result, Ok, Err}
use Rattle.buffer.specs.declared.refusal.Refusal.{Refusal}
use Rattle.buffer.specs.Refusals.{number_of, numbered}
use Rattle.unions.specs.Answers.{checked_of}
use Rattle.unions.specs.Seen.{id_fits_by, marked}

-- what is said of an id, or of a list of ids, by its number and its place
abbrev Verdict : Type 0
Verdict = Result Unit (ℕ × ℕ)

-- One id

module _ (seen : List ℕ) (i place : ℕ) where
  abbrev answer : Verdict
  answer = checked_of (judged (id_fits_by seen i) place i (place + 1))

  pub id_large : max_type_id < i → Err (id_too_large, place) ≡ answer
  unfolding id_fits_by judged unless ◌then◌
  id_large h = rw (lt-leb i max_type_id h)

  pub id_repeated_lem : i ≤ max_type_id → eqb (get_or seen i 0) 1 ≡ true → Err (id_repeated, place) ≡ answer
  unfolding id_fits_by judged unless ◌then◌
  id_repeated_lem h k = rw (le-leb i max_type_id h, k)

  pub id_new : i ≤ max_type_id → eqb (get_or seen i 0) 1 ≡ false → Ok tt ≡ answer
  unfolding id_fits_by judged unless ◌then◌
  id_new h k = rw (le-leb i max_type_id h, k)

  -- a valid id is at most 127
  id_small : answer ≡ Ok tt → i ≤ max_type_id
  unfolding id_fits_by judged unless ◌then◌
  id_small h = go (leb i max_type_id) refl h
    where
      go : (t : Bool) → leb i max_type_id ≡ t → checked_of (judged (unless t id_too_large then unless (not (eqb (get_or seen i 0) 1)) id_repeated) place i (place + 1)) ≡ Ok tt → i ≤ max_type_id
      go true e h = leb-true i max_type_id e
      go false e h = cc

fits_same : {seen ids : List ℕ} → Flags seen ids → length seen ≡ suc max_type_id → (i : ℕ) → id_fits_by seen i ≡ id_fits ids i
unfolding id_fits_by
fits_same = fits_by_flags

-- what follows an id that is refused, or valid
module _ {A B : Type 0} (place : ℕ) (a : A) (e : ℕ) (f : A → ℕ → Step B) where
  next_refused : (v n p : ℕ) → checked_of (judged v place a e) ≡ Err (n, p) → checked_of (next (judged v place a e) f) ≡ Err (n, p)
  unfolding next judged
  next_refused zero n p h = cc
  next_refused (suc v) n p h = h

  next_valid : (v : ℕ) → checked_of (judged v place a e) ≡ Ok tt → checked_of (next (judged v place a e) f) ≡ checked_of (f a e)
  unfolding next judged
  next_valid zero h = refl
  next_valid (suc v) h = cc

-- the values of a step are not seen
made_checked : {A B : Type 0} (f : A → B) (r : Step A) → checked_of (next r λ a e. got (f a) e) ≡ checked_of r
unfolding next
made_checked f (got a e) = refl
made_checked f (bad n p) = refl

-- where i ids are passed: what is left is answered as the whole
pub record Walk (ids : Bytes) (fields : ℕ) (seen : List ℕ) (i : ℕ) : Type 0 where
  pub passed : List ℕ
  pub flags : Flags seen passed
  pub size : length seen ≡ suc max_type_id
  pub same : checked_of (try_new (drop i ids) (fields - i) passed i) ≡ checked_of (try_new ids fields [] 0)

module _ (ids : Bytes) (fields : ℕ) where
  abbrev whole : Verdict
  whole = checked_of (try_new ids fields [] 0)

  pub walk_begin : Walk ids fields (replicate (suc max_type_id) 0) 0
  walk_begin = record { passed = []; flags = flags_none (suc max_type_id); size = length-replicate {A = ℕ} (suc max_type_id) 0; same = let e : fields - 0 ≡ fields = omega arith in rw e }

  module _ {seen : List ℕ} {i : ℕ} (w : Walk ids fields seen i) where
    pub walk_more_ids : i < length ids → fields ≤ i → Err (more_ids_than_fields, 0) ≡ whole
    walk_more_ids h k = ap checked_of (sym (try_new_more_ids ids fields w.passed i h k)) ∙ w.same

    pub walk_more_fields : length ids ≤ i → i < fields → Err (more_fields_than_ids, 0) ≡ whole
    walk_more_fields h k = ap checked_of (sym (try_new_more_fields ids fields w.passed i h k)) ∙ w.same

    pub walk_end : length ids ≤ i → fields ≤ i → Ok tt ≡ whole
    walk_end h k = ap checked_of (sym (try_new_end ids fields w.passed i h k)) ∙ w.same

    -- the id at i, and its answer
    module _ (h : i < length ids) (k : i < fields) where
      abbrev id : ℕ
      id = get_or ids i 0

      abbrev verdict : ℕ
      verdict = id_fits w.passed id

      by_list : {v : Verdict} → v ≡ checked_of (judged (id_fits_by seen id) i id (i + 1)) → v ≡ checked_of (judged verdict i id (i + 1))
      by_list e = e ∙ ap (λ v. checked_of (judged v i id (i + 1))) (fits_same w.flags w.size id)

      module _ {r : Result Unit Refusal} (e : numbered r ≡ checked_of (judged (id_fits_by seen id) i id (i + 1))) where
        pub walk_stop : {x : Refusal} → r ≡ Err x → numbered r ≡ whole
        walk_stop {x} g =
            let n = ap numbered g in
            n ∙ sym (ap checked_of (try_new_next ids fields w.passed i h k) ∙ next_refused i id (i + 1) _ verdict (number_of x.0) x.1 (sym (by_list e) ∙ n)) ∙ w.same

        pub walk_next : {after : List ℕ} → r ≡ Ok tt → after ≡ marked r seen id → Walk ids fields after (i + 1)
        walk_next g m =
            let s : id ≤ max_type_id = id_small seen id i (sym e ∙ ap numbered g) in
            let a = m ∙ ap (λ r. marked r seen id) g in
            record {
              passed = id ∷ w.passed;
              flags = rw a (flags_more id w.flags (omega (arith, w.size)));
              size = rw a (length-set seen id 1 ∙ w.size);
              same =
                  sym
                  (ap checked_of (try_new_next ids fields w.passed i h k) ∙ next_valid i id (i + 1) _ verdict (sym (by_list e) ∙ ap numbered g)
                  ∙ made_checked (λ rest. id ∷ rest) _)
                  ∙ w.same;
            }
