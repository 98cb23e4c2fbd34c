-- The name of a field that stands at a place, and the first of the columns that has it.
use Prim.Native.Nat.{ℕ, ◌+◌, ◌≤◌, ◌<◌}
use native.Mathlib.Omega.{arith}
use mathlib.Core.Path.{◌≡◌, refl, sym, ap, subst, ◌∙◌}
use mathlib.Core.List.{List, [], ◌∷◌, ◌++◌}
use mathlib.Core.Bool.{Bool, true, false}
use lib.ListN.{length, get_or, take, drop, length-append}
use lib.Dec.{eqb}
use lib.Seq.{take-length, take-append_seam}
use borrow.Author.Tests.{ne_eqb}
use Rattle.model.specs.Numbers.{max_levels, no_such_column}
use Rattle.model.specs.Bytes.{Bytes, Every, bit, position, same, same_bytes, u16}
use Rattle.model.specs.Tree.{Head, Field, Schema}
use Rattle.model.specs.Sheet.{each, text_bytes, head_bytes, column_bytes, sheet_bytes}
use Rattle.model.specs.WellFormed.{LaidOut, Fits}
use Rattle.model.specs.Schema.{if_found, index_of}
use Rattle.model.specs.Call.{bytes, and_then, Exit, refusal, acceptance, settled}
use Rattle.model.proofs.Lists.{every_append}
use Rattle.model.proofs.WellFormed.{columns_laid_out}
use Rattle.model.proofs.Look.{position_found}
use Rattle.model.proofs.Search.{position_first, position_none}
use Rattle.buffer.specs.declared.refusal.Number.{Number}
use Rattle.buffer.specs.declared.refusal.Refusal.{Refusal}
use Rattle.buffer.specs.Refusals.{without_place}
use Rattle.buffer.specs.Leaves.{leaves}
use Rattle.buffer.proofs.Ends.{leaves_refusal}
use Rattle.walk.specs.Stands.{Stands, SkipsField, ColumnsAt}
use Rattle.walk.proofs.Schemas.{sheet_columns}
use Rattle.walk.proofs.Descents.{head_stands, name_stands, no_name, body_stands}
use Rattle.walk.proofs.Passed.{Passed, Here, passed_again, passed_here, passed_done}
use Rattle.std.specs.Prelude.{Option, Some, None, Result, Err}
use Rattle.walk.proofs.Standing.{whole_stands, first_stands, two_stands, num_u16}
use Rattle.walk.proofs.Parts.{Ahead, two_at, bit_true, bit_false}

-- The text that stands at a place

module _ {s : Bytes} {place body n : ℕ} (a : Ahead s place 2 body) (e : n ≡ two_at s place) (t : Bytes) (st : Stands s place (text_bytes t)) where
  body_is : (body ≡ place + 2) × Stands s body t
  body_is = body_stands t a st

  size_is : n ≡ length t
  unfolding text_bytes u16
  size_is = e ∙ two_stands (u16 (length t)) t refl st ∙ num_u16 (length t)

  -- it is as long as said, inside the bytes
  pub text_inside : body + n ≤ length s
  unfolding text_bytes u16
  text_inside = omega (arith, body_is.0, size_is, st.inside)

  pub text_is : take n (drop body s) ≡ t
  text_is = ap (λ k. take k (drop body s)) size_is ∙ ap (take (length t)) body_is.1.bytes ∙ take-append_seam t _

  -- so it is compared
  pub text_compared : {r : Bool} {b : Bytes} (name : Bytes) {k : ℕ} → r ≡ same_bytes b name → b ≡ take k (drop body s) → k ≡ n → r ≡ same_bytes t name
  text_compared name e i h = e ∙ ap (λ b. same_bytes b name) (i ∙ ap (λ m. take m (drop body s)) h ∙ text_is)

-- The name of the field that stands at a place

none_same : (name : Bytes) → eqb (length name) 0 ≡ same_bytes [] name
unfolding same
none_same [] = refl
none_same (x ∷ name) = ne_eqb (length (x ∷ name)) 0 (λ h. omega (arith, h))

-- what `has_name` ensures
abbrev Names : (s : Bytes) (place : ℕ) (name : Bytes) → Bool → Type 0
Names s place name r = (h : Head) → Stands s place (head_bytes h) → r ≡ same_bytes h.name name

module _ {s : Bytes} {place map : ℕ} (e : map ≡ get_or s place 0) where
  module _ {n : Bool} (i : n ≡ bit 2 map) where
    pub named : {body : ℕ} {r : Bool} (name : Bytes) → n ≡ true → Ahead s place 1 body → ((t : Bytes) → Stands s body (text_bytes t) → r ≡ same_bytes t name) → Names s place name r
    named name b a f h st = f h.name (name_stands e (bit_true 2 _ (sym i ∙ b)) a h st)

    pub unnamed : {r : Bool} (name : Bytes) → n ≡ false → r ≡ eqb (length name) 0 → Names s place name r
    unnamed name b k h st = k ∙ none_same name ∙ ap (λ m. same_bytes m name) (sym (no_name e (bit_false 2 _ (sym i ∙ b)) h st))

-- The first of the columns that has a name

-- a column that can be gone over
abbrev Good : Field max_levels → Type 0
Good f = LaidOut max_levels f.data_type

abbrev pub has_name : Bytes → Field max_levels → Bool
has_name name f = same_bytes f.head.name name

abbrev Others : Bytes → List (Field max_levels) → Type 0
Others name done = Every (λ f. has_name name f ≡ false) done

pub record Searched (s name : Bytes) (first count place i : ℕ) : Type 0 where
  pub passed : Passed Good column_bytes s (Others name) first count place i
  pub bound : i ≤ count

seam : {A : Type 0} (d x : A) (done rest : List A) → get_or (done ++ (x ∷ rest)) (length done) d ≡ x
seam d x [] rest = refl
seam d x (y ∷ done) rest = seam d x done rest

-- what `find_name` ensures
abbrev Finds : (s name : Bytes) (first count : ℕ) → Option ℕ → Type 0
Finds s name first count r =
    (fs : List (Field max_levels)) → length fs ≡ count → Every Good fs → Stands s first (each column_bytes fs) → r ≡ position (has_name name) fs

module _ (s name : Bytes) where
  module _ {first count place i : ℕ} (k : Searched s name first count place i) where
    module _ (h : i < count) {b : Bool} (v : Names s place name b) where
      verdict : (f : Field max_levels) → Stands s place (column_bytes f) → b ≡ has_name name f
      verdict f st = v f.head (head_stands max_levels f st)

      pub searched_again : {r : ℕ} → b ≡ false → SkipsField s place max_levels r → Searched s name first count r (i + 1)
      searched_again e skip = record {
        passed = passed_again Good column_bytes s k.passed h (λ f w. skip max_levels f (omega arith) w) λ done f n p w st.
            every_append (λ g. has_name name g ≡ false) done (f ∷ []) p (sym (verdict f st) ∙ e, tt);
        bound = omega (arith, h);
      }

      pub searched_found : {r : Option ℕ} → b ≡ true → r ≡ Some i → Finds s name first count r
      searched_found {r} e q fs n w st = go (passed_here Good column_bytes s k.passed h fs n w st)
        where
          go : Here Good column_bytes s (Others name) place i fs → r ≡ position (has_name name) fs
          go u =
              let xs = u.done ++ (u.this ∷ u.rest) in
              let f : position (has_name name) xs ≡ Some (length u.done) =
              position_first (has_name name) u.this xs (length u.done)
              (subst (Others name) (sym (take-append_seam u.done (u.this ∷ u.rest))) u.fact)
              (omega (arith, length-append u.done (u.this ∷ u.rest)))
              (ap (has_name name) (seam u.this u.this u.done u.rest) ∙ sym (verdict u.this (first_stands (column_bytes u.this) (each column_bytes u.rest) u.stands)) ∙ e) in
              q ∙ sym (ap (position (has_name name)) u.parts ∙ f ∙ ap (λ i. Some i) u.passed)

    pub searched_done : {r : Option ℕ} → count ≤ i → r ≡ None → Finds s name first count r
    searched_done h q fs n w st =
        let p = passed_done Good column_bytes s k.passed h fs n w st in
        q ∙ sym (position_none (has_name name) fs (length fs) (subst (Others name) (sym (take-length fs)) p) (omega arith))

-- among the columns of a sheet that was read
pub column_found : {s : Bytes} (name : Bytes) {n first : ℕ} {r : Option ℕ} → ((x : Schema) → Stands s 0 (sheet_bytes x) → ColumnsAt s 0 x n first) → Finds s name first n r
    → (x : Schema) → Fits x → s ≡ sheet_bytes x → r ≡ position (has_name name) x.columns
column_found {s} name find f x fits e =
    let c = find x (whole_stands s (sheet_bytes x) e) in
    f x.columns (sym c.count) (columns_laid_out x fits.well_formed) c.stands

-- What is answered: m is the code's position of the definition's column

module _ (x : Schema) {m : Option ℕ} (name work answer : Bytes) (found : m ≡ position (has_name name) x.columns) where
  -- a position among a sheet's columns is a u16
  pub index_written : {i : ℕ} {e : Exit} → Fits x → m ≡ Some i → (i < 65536 → e ≡ acceptance (u16 i) work answer) → e ≡ settled (and_then (index_of x name) bytes) work answer
  unfolding settled and_then if_found index_of
  index_written {i} fits h k =
      let there : position (has_name name) x.columns ≡ Some i = sym found ∙ h in
      rw there (k (omega (arith, (position_found (has_name name) x.columns i there).inside, sheet_columns x, fits.size)))

  pub index_missing : {r : Result ℕ Refusal} {after : Bytes} → m ≡ None → r ≡ Err (without_place Number.NoSuchColumn) → after ≡ work
      → leaves r answer after ≡ settled (and_then (index_of x name) bytes) work answer
  unfolding settled and_then if_found index_of
  index_missing h k z =
      let none : position (has_name name) x.columns ≡ None = sym found ∙ h in
      rw none (leaves_refusal (without_place Number.NoSuchColumn) _ answer k ∙ ap (λ v. refusal no_such_column 0 v answer) z)
