-- The walk over the entries of an index list: what is answered to one entry, and the turns and the ends of the loop.
use Prim.Native.Nat.{ℕ, zero, suc, ◌+◌, ◌*◌, ◌/◌, ◌%◌, ◌≤◌, ◌<◌}
use native.Mathlib.Omega.{arith}
use mathlib.Core.Path.{◌≡◌, refl, sym, ap, ◌∙◌}
use mathlib.Core.List.{List, [], ◌∷◌, ◌++◌}
use mathlib.Core.Bool.{Bool, true, false, not, ◌||◌, false≢true}
use lib.ListN.{length, get_or, set, length-set, length-append, length-replicate, get_or-append}
use lib.Seq.{drop_at}
use lib.Dec.{eqb, ltb}
use borrow.Author.Tests.{ltb-true, lt-ltb, le-ltb}
use Rattle.model.specs.Numbers.{max_levels, index_out_of_bounds, index_repeated, odd_list}
use Rattle.model.specs.Bytes.{Bytes, among}
use Rattle.model.specs.Tree.{Field, Schema}
use Rattle.model.specs.Read.{Step, got, bad, next, judged, unless, ◌then◌}
use Rattle.model.specs.Schema.{select, index_fits, selected, project}
use Rattle.model.specs.Call.{zeros}
use Rattle.model.proofs.Entries.{entries, indices_even, indices_odd, entries_next, entries_end}
use Rattle.model.proofs.Flags.{Flags, flags_none, flags_more}
use Rattle.project.specs.Answers.{checked_of, verdict_of}
use Rattle.project.specs.Seen.{index_fits_by, marked}
use Rattle.std.specs.Prelude.{Result, Ok, Err}
use Rattle.buffer.specs.declared.refusal.Refusal.{Refusal}
use Rattle.buffer.specs.Refusals.{numbered}

-- what is said of an entry, or of a list of entries, by its number and its place
abbrev Verdict : Type 0
Verdict = Result Unit (ℕ × ℕ)

-- One entry

module _ (strict : Bool) (seen : Bytes) (i place : ℕ) where
  abbrev answer : Verdict
  answer = verdict_of (index_fits_by strict seen i) place

  pub entry_outside : length seen ≤ i → Err (index_out_of_bounds, place) ≡ answer
  unfolding index_fits_by unless ◌then◌
  entry_outside h = rw (le-ltb i (length seen) h)

  pub entry_repeated : i < length seen → strict ≡ true → eqb (get_or seen i 0) 1 ≡ true → Err (index_repeated, place) ≡ answer
  unfolding index_fits_by unless ◌then◌
  entry_repeated h s k = rw (lt-ltb i (length seen) h, s, k)

  pub entry_any : i < length seen → strict ≡ false → (Ok tt ≡ answer) × (seen ≡ marked strict (Ok tt) seen i)
  unfolding index_fits_by unless ◌then◌
  entry_any h s = (rw (lt-ltb i (length seen) h, s), rw s)

  pub entry_new : i < length seen → strict ≡ true → eqb (get_or seen i 0) 1 ≡ false → (Ok tt ≡ answer) × (set seen i 1 ≡ marked strict (Ok tt) seen i)
  unfolding index_fits_by unless ◌then◌
  entry_new h s k = (rw (lt-ltb i (length seen) h, s, k), rw s)

  -- a valid entry is the index of a column
  entry_inside : answer ≡ Ok tt → i < length seen
  unfolding index_fits_by unless ◌then◌
  entry_inside h = go (ltb i (length seen)) refl h
    where
      go : (t : Bool) → ltb i (length seen) ≡ t → verdict_of (unless t index_out_of_bounds then unless (not strict || not (eqb (get_or seen i 0) 1)) index_repeated) place ≡ Ok tt
          → i < length seen
      go true e h = ltb-true i (length seen) e
      go false e h = cc

-- only the strict projection looks at the flags
abbrev Marks : Bool → Bytes → List ℕ → Type 0
Marks strict seen passed = strict ≡ true → Flags seen passed

fits_same : (strict : Bool) {seen : Bytes} {passed : List ℕ} → Marks strict seen passed → (count : ℕ) → length seen ≡ count → (i : ℕ)
    → index_fits_by strict seen i ≡ index_fits strict count passed i
unfolding index_fits_by index_fits unless ◌then◌
fits_same strict {seen} {passed} f count l i = go strict f (ltb i (length seen)) refl ∙ ap (λ n. unless (ltb i n) index_out_of_bounds then unless (not strict || not (among i passed)) index_repeated) l
  where
    go : (strict : Bool) → Marks strict seen passed → (t : Bool) → ltb i (length seen) ≡ t
        → (unless t index_out_of_bounds then unless (not strict || not (eqb (get_or seen i 0) 1)) index_repeated)
        ≡ (unless t index_out_of_bounds then unless (not strict || not (among i passed)) index_repeated)
    go true f true e = ap (λ b. unless (not b) index_repeated) ((f refl).stands i (ltb-true i (length seen) e))
    go true f false e = refl
    go false f true e = refl
    go false f false e = refl

-- the flags after a valid entry
marks_more : (strict : Bool) {seen : Bytes} {passed : List ℕ} {r : Result Unit Refusal} → Marks strict seen passed → (i : ℕ) → r ≡ Ok tt → i < length seen → Marks strict (marked strict r seen i) (i ∷ passed)
marks_more true {seen} {passed} f i e h s = rw e (flags_more i (f refl) h)
marks_more false f i e h s = absurd (false≢true s)

length_marked : (strict : Bool) (r : Result Unit Refusal) (seen : Bytes) (i : ℕ) → length (marked strict r seen i) ≡ length seen
length_marked true (Ok u) seen i = length-set seen i 1
length_marked false (Ok u) seen i = refl
length_marked strict (Err r) seen i = refl

-- what follows an entry that is refused, or valid
module _ {A B : Type 0} (place : ℕ) (a : A) (e : ℕ) (f : A → ℕ → Step B) where
  next_refused : (v : ℕ) {n p : ℕ} → verdict_of v place ≡ Err (n, p) → checked_of (next (judged v place a e) f) ≡ Err (n, p)
  unfolding next judged
  next_refused zero h = cc
  next_refused (suc v) h = h

  next_valid : (v : ℕ) → verdict_of v place ≡ Ok tt → checked_of (next (judged v place a e) f) ≡ checked_of (f a e)
  unfolding next judged
  next_valid zero h = refl
  next_valid (suc v) h = cc

-- the values of a step are not seen
made_checked : {A B : Type 0} (f : A → B) (r : Step A) → checked_of (next r λ a e. got (f a) e) ≡ checked_of r
unfolding next
made_checked f (got a e) = refl
made_checked f (bad n p) = refl

module _ (strict : Bool) (x : Schema) (list : Bytes) where
  abbrev whole : Verdict
  whole = checked_of (project strict x list)

  -- the schema of the columns selected
  with_columns : List (Field max_levels) → Schema
  with_columns cs = record { metadata = x.metadata; columns = cs }

  rest : List ℕ → ℕ → Step Schema
  rest is e = next (selected strict x.columns is [] 0) λ cs e. got (with_columns cs) e

  project_entries : (n : ℕ) → length list ≡ 2 * n → checked_of (selected strict x.columns (entries list) [] 0) ≡ whole
  unfolding project next rest with_columns
  project_entries n h = sym (ap (λ r. checked_of (next r rest)) (indices_even list n h) ∙ made_checked with_columns (selected strict x.columns (entries list) [] 0))

  pub project_odd : length list % 2 ≡ 1 → Err (odd_list, 0) ≡ whole
  unfolding project next rest with_columns
  project_odd h = ap (λ r. checked_of (next r rest)) (sym (indices_odd list (length list / 2) (omega (arith, h))))

-- the first entry of those left, which the loop takes apart from them: entry 0 of what they are together
pub entries_first : (entry behind : Bytes) → length entry ≡ 2 → {i : ℕ} → i ≡ get_or entry 0 0 + 256 * get_or entry 1 0 → entries (entry ++ behind) ≡ i ∷ entries behind
entries_first entry behind h {i} is =
    let low = get_or-append entry behind 0 0 (omega (arith, h)) in
    let high = get_or-append entry behind 0 1 (omega (arith, h)) in
    entries_next (entry ++ behind) 0 (omega (arith, length-append entry behind, h)) (rw (low, high) is) ∙ ap (λ b. i ∷ entries b) (drop_at entry behind 2 h)

-- where e entries are passed: those left are answered as the whole
pub record Walk (strict : Bool) (list left : Bytes) (count : ℕ) (seen : Bytes) (e : ℕ) : Type 0 where
  pub size : length seen ≡ count
  pub passed : List ℕ
  pub marks : strict ≡ true → Flags seen passed
  pub same : (x : Schema) → length x.columns ≡ count → checked_of (selected strict x.columns (entries left) passed e) ≡ checked_of (project strict x list)

-- what `check_list` ensures
abbrev Checks : Bool → Bytes → ℕ → Verdict → Type 0
Checks strict list count r = (x : Schema) → length x.columns ≡ count → r ≡ checked_of (project strict x list)

-- flags that were cleared are as many
pub cleared : {seen : Bytes} (n : ℕ) → seen ≡ zeros n → n ≡ length seen
unfolding zeros
cleared n z = sym (ap length z ∙ length-replicate {A = ℕ} n 0)

module _ (strict : Bool) (list : Bytes) where
  pub walk_begin : {left seen : Bytes} {e : ℕ} (n : ℕ) → (length list % 2 ≡ 1 → ⊥) → left ≡ list → e ≡ 0 → seen ≡ zeros n → Walk strict list left (length seen) seen e
  unfolding zeros
  walk_begin {seen = seen} n h l none z = record {
    size = refl;
    passed = [];
    marks = λ s. rw z (flags_none n);
    same = λ x n. (λ j. checked_of (selected strict x.columns (entries (l j)) [] (none j))) ∙ project_entries strict x list (length list / 2) (omega (arith, h));
  }

  module _ {left : Bytes} {count : ℕ} {seen : Bytes} {e : ℕ} (w : Walk strict list left count seen e) where
    pub walk_end : length left < 2 → Checks strict list count (Ok tt)
    unfolding selected
    walk_end h x n = ap (λ is. checked_of (selected strict x.columns is w.passed e)) (sym (entries_end left 0 (omega (arith, h)))) ∙ w.same x n

    -- the first entry of those left, and its answer
    module _ (entry behind : Bytes) (h : left ≡ entry ++ behind) (two : length entry ≡ 2) {i place : ℕ} (is : i ≡ get_or entry 0 0 + 256 * get_or entry 1 0) (at_e : place ≡ e) where
      verdict : {v : Verdict} → v ≡ verdict_of (index_fits_by strict seen i) place → (x : Schema) → length x.columns ≡ count
          → v ≡ verdict_of (index_fits strict (length x.columns) w.passed i) e
      verdict a x n = a ∙ λ j. verdict_of (fits_same strict w.marks (length x.columns) (w.size ∙ sym n) i j) (at_e j)

      left_same : (x : Schema) → length x.columns ≡ count → checked_of (selected strict x.columns (i ∷ entries behind) w.passed e) ≡ checked_of (project strict x list)
      left_same x n = ap (λ is. checked_of (selected strict x.columns is w.passed e)) (sym (ap entries h ∙ entries_first entry behind two is)) ∙ w.same x n

      module _ {r : Result Unit Refusal} (a : numbered r ≡ verdict_of (index_fits_by strict seen i) place) where
        pub walk_stop : {y : Refusal} → r ≡ Err y → Checks strict list count (numbered r)
        unfolding selected
        walk_stop g x n = let k = ap numbered g in k ∙ sym (next_refused e _ _ _ _ (sym (verdict a x n) ∙ k)) ∙ left_same x n

        pub walk_next : {after : Bytes} {next : ℕ} → r ≡ Ok tt → after ≡ marked strict r seen i → next ≡ e + 1 → Walk strict list behind count after next
        unfolding selected
        walk_next {after} {next} g m step = record {
          size = ap length m ∙ length_marked strict r seen i ∙ w.size;
          passed = i ∷ w.passed;
          marks = rw m (marks_more strict w.marks i g (entry_inside strict seen i place (sym a ∙ ap numbered g)));
          same = λ x n.
              let s : next ≡ suc e = omega (arith, step) in
              ap (λ k. checked_of (selected strict x.columns (entries behind) (i ∷ w.passed) k)) s
              ∙ sym (next_valid e _ _ _ _ (sym (verdict a x n) ∙ ap numbered g) ∙ made_checked (λ rest. select x.columns i ++ rest) _) ∙ left_same x n;
        }
