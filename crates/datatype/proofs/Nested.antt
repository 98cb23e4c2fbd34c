-- `is_nested` of each column: one turn of the loop, and the ends of the call.
use Prim.Native.Nat.{ℕ, ◌+◌, ◌≤◌, ◌<◌}
use native.Mathlib.Omega.{arith}
use mathlib.Core.Path.{◌≡◌, refl, sym, ap, ◌∙◌}
use mathlib.Core.List.{List, [], ◌∷◌, ◌++◌, map, map-append}
use mathlib.Core.Bool.{Bool}
use lib.ListN.{length, take, drop, set, replicate, length-map, length-set, length-replicate}
use lib.Seq.{length-take-le, take-suc-set, take_all}
use native.Mathlib.Numerals.{add-one}
use mir.Val.{bool_byte}
use Rattle.model.specs.Numbers.{max_levels}
use Rattle.model.specs.Bytes.{Bytes, Every, flag}
use Rattle.model.specs.Tree.{Head, DataType, Field, Schema}
use Rattle.model.specs.Sheet.{each, head_bytes, type_bytes, field_bytes, column_bytes, sheet_bytes}
use Rattle.model.specs.WellFormed.{LaidOut, Fits}
use Rattle.model.specs.Datatype.{is_nested}
use Rattle.model.specs.Call.{acceptance}
use Rattle.model.proofs.WellFormed.{columns_laid_out}
use Rattle.std.specs.Prelude.{Result, Ok, Err}
use Rattle.buffer.specs.declared.refusal.Refusal.{Refusal}
use Rattle.buffer.specs.Refusals.{numbered}
use Rattle.buffer.specs.Puts.{length_number, unless_refused}
use Rattle.buffer.specs.Leaves.{leaves}
use Rattle.buffer.proofs.Ends.{acceptance_refused, length_room, acceptance_written}
use Rattle.buffer.proofs.Pasted.{pasted_zero}
use Rattle.walk.specs.Stands.{Stands, Skips, ColumnsAt}
use Rattle.walk.proofs.Standing.{whole_stands, stands_behind, skip_join}
use Rattle.walk.proofs.Passed.{Passed, passed_begin, passed_again, passed_done}
use Rattle.datatype.proofs.Calls.{bool_flag}

-- the byte of a column
abbrev pub byte_of : Field max_levels → ℕ
byte_of f = flag 1 (is_nested max_levels f.data_type)

-- a column that can be gone over
abbrev pub Good : Field max_levels → Type 0
Good f = LaidOut max_levels f.data_type

-- the first bytes are those of the columns passed
abbrev pub Written : Bytes → ℕ → List (Field max_levels) → Type 0
Written answer i done = take i answer ≡ map byte_of done

pub record NestedLoop (s : Bytes) (first count : ℕ) (answer : Bytes) (place i : ℕ) : Type 0 where
  pub passed : Passed Good column_bytes s (Written answer i) first count place i
  pub size : length answer ≡ count

pub nested_begin : (s : Bytes) (first : ℕ) (answer : Bytes) → NestedLoop s first (length answer) answer first 0
nested_begin s first answer = record { passed = passed_begin Good column_bytes s first (length answer) refl; size = refl }

pub nested_again : {s : Bytes} {first count : ℕ} {answer : Bytes} {place i dt r : ℕ} {b : Bool} {v : ℕ}
    → NestedLoop s first count answer place i → i < count
    → ((h : Head) → Skips s place (head_bytes h) dt)
    → ((l : ℕ) (t : DataType l) → l ≤ max_levels → LaidOut l t → Stands s dt (type_bytes l t) → b ≡ is_nested l t)
    → v ≡ bool_byte b
    → ((l : ℕ) (t : DataType l) → l ≤ max_levels → LaidOut l t → Skips s dt (type_bytes l t) r)
    → NestedLoop s first count (set answer i v) r (i + 1)
unfolding field_bytes
nested_again {s} {first} {count} {answer} {place} {i} {dt} {r} {b} {v} k h head verdict e skip =
    record {
      passed = passed_again Good column_bytes s k.passed h (λ f w. skip_join (head f.head) (skip max_levels f.data_type (omega arith) w)) more;
      size = length-set answer i v ∙ k.size;
    }
  where
    more : (done : List (Field max_levels)) (f : Field max_levels) → length done ≡ i → Written answer i done → Good f → Stands s place (column_bytes f)
        → Written (set answer i v) (i + 1) (done ++ (f ∷ []))
    more done f n p w st =
        let q : v ≡ byte_of f = e ∙ bool_flag b ∙ ap (flag 1) (verdict max_levels f.data_type (omega arith) w (stands_behind (head f.head) st)) in
        rw (add-one, take-suc-set answer i v (omega (arith, k.size))) (ap (λ a. a ++ (v ∷ [])) p ∙ ap (λ u. map byte_of done ++ (u ∷ [])) q ∙ sym (map-append byte_of done (f ∷ [])))

pub nested_done : {s : Bytes} {first count : ℕ} {answer : Bytes} {place i : ℕ} → NestedLoop s first count answer place i → count ≤ i
    → (fs : List (Field max_levels)) → length fs ≡ count → Every Good fs → Stands s first (each column_bytes fs) → answer ≡ map byte_of fs
nested_done {s} {count = count} {answer = answer} {i = i} k h fs n w st =
    sym (take_all i answer (omega (arith, k.size))) ∙ passed_done Good column_bytes s k.passed h fs n w st

-- The ends: the columns are those of the schema whose sheet was read. f is the code's test of the answer's length

pub nested_room : {n : ℕ} (answer : Bytes) {f : Result Unit Refusal} → numbered f ≡ unless_refused (length_number n (length answer)) → f ≡ Ok tt → n ≤ length answer
nested_room {n} answer tested h =
    let e = length-replicate {A = ℕ} n 0 in
    let room = length_room (replicate n 0) [] answer (tested ∙ ap (λ n. unless_refused (length_number n (length answer))) (sym e)) h in
    omega (arith, room, e)

module _ {s : Bytes} {n first : ℕ} (find : (x : Schema) → Stands s 0 (sheet_bytes x) → ColumnsAt s 0 x n first) (x : Schema) (e : s ≡ sheet_bytes x) where
  columns : ColumnsAt s 0 x n first
  columns = find x (whole_stands s (sheet_bytes x) e)

  counted : length (map byte_of x.columns) ≡ n
  counted = length-map x.columns byte_of ∙ sym columns.count

  module _ (answer : Bytes) {f : Result Unit Refusal} (tested : numbered f ≡ unless_refused (length_number n (length answer))) where
    pub nested_short : {r : Result ℕ Refusal} {y : Refusal} → f ≡ Err y → r ≡ Err y → (work : Bytes) → leaves r answer work ≡ acceptance (map byte_of x.columns) work answer
    nested_short h k work =
        acceptance_refused (map byte_of x.columns) work answer (tested ∙ ap (λ n. unless_refused (length_number n (length answer))) (sym counted)) h k

    -- the bytes written stand over the answer's beginning
    pub nested_accepted : {written : Bytes} → Fits x → f ≡ Ok tt
        → ((fs : List (Field max_levels)) → length fs ≡ length (take n answer) → Every Good fs → Stands s first (each column_bytes fs) → written ≡ map byte_of fs)
        → (work : Bytes) → leaves (Ok n) (written ++ drop n answer) work ≡ acceptance (map byte_of x.columns) work answer
    nested_accepted fits h wrote work =
        let w = wrote x.columns (sym columns.count ∙ sym (length-take-le n answer (nested_room answer tested h))) (columns_laid_out x fits.well_formed) columns.stands in
        acceptance_written (map byte_of x.columns) work answer (tested ∙ ap (λ n. unless_refused (length_number n (length answer))) (sym counted)) h (ap Ok (sym counted))
        (ap (λ b. b ++ drop n answer) w ∙ ap (λ n. map byte_of x.columns ++ drop n answer) (sym counted) ∙ sym (pasted_zero answer (map byte_of x.columns)))
