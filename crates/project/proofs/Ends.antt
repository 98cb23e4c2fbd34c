-- From the columns of an accepted sheet to what stands in the buffers at the end of a call.
use Prim.Native.Nat.{ℕ, ◌+◌, ◌*◌, ◌/◌, ◌≤◌, ◌<◌}
use native.Mathlib.Omega.{arith}
use mathlib.Core.Path.{◌≡◌, refl, sym, ap, ◌∙◌}
use mathlib.Core.List.{List}
use mathlib.Core.Bool.{Bool}
use lib.ListN.{length, take}
use Rattle.model.specs.Numbers.{max_levels}
use Rattle.model.specs.Bytes.{Bytes, Every}
use Rattle.model.specs.Tree.{Field, Schema}
use Rattle.model.specs.Sheet.{each, column_bytes, sheet_bytes}
use Rattle.model.specs.WellFormed.{Fits}
use Rattle.model.specs.Read.{Step, got, bad}
use Rattle.model.specs.Schema.{project}
use Rattle.model.specs.Call.{Exit, and_then, sheet_answer, refusal, acceptance, settled, zeros}
use Rattle.model.proofs.WellFormed.{columns_laid_out}
use Rattle.std.specs.Prelude.{Result, Ok, Err}
use Rattle.buffer.specs.declared.refusal.Refusal.{Refusal}
use Rattle.buffer.specs.Refusals.{number_of, numbered}
use Rattle.buffer.specs.Puts.{Fills, length_number, unless_refused}
use Rattle.buffer.specs.Leaves.{leaves}
use Rattle.buffer.proofs.Puts.{put_refused, put_accepted}
use Rattle.buffer.proofs.Ends.{leaves_refusal}
use Rattle.walk.specs.Stands.{Stands, ColumnsAt}
use Rattle.walk.proofs.Standing.{whole_stands}
use Rattle.walk.proofs.Schemas.{sheet_columns}
use Rattle.project.specs.Answers.{checked_of}
use Rattle.project.specs.Table.{Table}
use Rattle.project.proofs.Places.{Good, table_kept}

-- The table and the verdict of a sheet that was read

module _ {s : Bytes} {n first : ℕ} (find : (x : Schema) → Stands s 0 (sheet_bytes x) → ColumnsAt s 0 x n first) (x : Schema) (e : s ≡ sheet_bytes x) where
  columns : ColumnsAt s 0 x n first
  columns = find x (whole_stands s (sheet_bytes x) e)

  -- a sheet has more bytes than columns, so the work buffer has room
  pub table_fits : (room : ℕ) → 4 * length s ≤ room → room / 4 ≤ n → ⊥
  table_fits room h k = omega (arith, h, k, columns.count, sheet_columns x, ap length e)

  pub table_checked : (strict : Bool) (list : Bytes) {w₁ w₂ : Bytes} {v : Result Unit (ℕ × ℕ)} → Fits x
      → ((fs : List (Field max_levels)) → length fs ≡ n → Every Good fs → Stands s first (each column_bytes fs) → length s < 65536 → Table s w₁ fs)
      → (take (2 * n + 2) w₂ ≡ take (2 * n + 2) w₁) × ((x : Schema) → length x.columns ≡ n → v ≡ checked_of (project strict x list))
      → (v ≡ checked_of (project strict x list)) × Table s w₂ x.columns
  table_checked strict list fits table checked = (
    checked.1 x (sym columns.count),
    table_kept (2 * n + 2) (omega (arith, columns.count)) checked.0
        (table x.columns (sym columns.count) (columns_laid_out x fits.well_formed) columns.stands (omega (arith, fits.size, ap length e))),
  )

-- What a list that was accepted ends with

-- what `answer_projected` ensures
abbrev Ends : (s list work answer : Bytes) → Result ℕ Refusal → Bytes → Bytes → Type 0
Ends s list work answer r after cleared =
    (x y : Schema) (strict : Bool) (n : ℕ) → s ≡ sheet_bytes x → Table s work x.columns → project strict x list ≡ got y n
    → leaves r after cleared ≡ acceptance (sheet_bytes y) (zeros (length work)) answer

-- what `put_projected` ensures
abbrev FillsSheet : (s table list : Bytes) (w w' : Bytes) (n : ℕ) → Type 0
FillsSheet s table list w w' n =
    (x y : Schema) (strict : Bool) (m : ℕ) → s ≡ sheet_bytes x → Table s table x.columns → project strict x list ≡ got y m → Fills (sheet_bytes y) w w' n

module _ {s work : Bytes} (list : Bytes) {w w' : Bytes} {n : ℕ} (f : FillsSheet s work list w w' n) (answer : Bytes) {fits : Result Unit Refusal}
    (m : numbered fits ≡ unless_refused (length_number n (length answer))) where
  pub end_refused : {r : Result ℕ Refusal} {z : Refusal} {cleared : Bytes} → fits ≡ Err z → r ≡ Err z → cleared ≡ zeros (length work) → Ends s list work answer r answer cleared
  end_refused {r} {cleared = cleared} h o z x y strict k i t p =
      put_refused (sheet_bytes y) (f x y strict k i t p) cleared answer m h o ∙ ap (λ w. acceptance (sheet_bytes y) w answer) z

  pub end_accepted : {r : Result ℕ Refusal} {after cleared : Bytes} {q : ℕ} → fits ≡ Ok tt → FillsSheet s work list answer after q → r ≡ Ok n → cleared ≡ zeros (length work)
      → Ends s list work answer r after cleared
  end_accepted {r} {after} {cleared} h g o z x y strict k i t p =
      put_accepted (sheet_bytes y) (f x y strict k i t p) cleared answer m h (g x y strict k i t p) o ∙ ap (λ w. acceptance (sheet_bytes y) w answer) z

-- What a list ends with, by its verdict

refused_step : {A : Type 0} (p : Step A) {c : Result Unit Refusal} {x : Refusal} → numbered c ≡ checked_of p → c ≡ Err x → p ≡ bad (number_of x.0) x.1
refused_step (got a e) h i = let z = ap numbered i in cc
refused_step {A} (bad m q) {x = x} h i = go (sym h ∙ ap numbered i)
  where
    go : ◌≡◌ {A = Result Unit (ℕ × ℕ)} (Err (m, q)) (Err (number_of x.0, x.1)) → ◌≡◌ {A = Step A} (bad m q) (bad (number_of x.0) x.1)
    go h = let e : ◌≡◌ {A = ℕ × ℕ} (m, q) (number_of x.0, x.1) = cc in ap (λ (r : ℕ × ℕ). bad r.0 r.1) e

valid_step : {A : Type 0} (p : Step A) {c : Result Unit Refusal} → numbered c ≡ checked_of p → c ≡ Ok tt → (a : A) × (e : ℕ) × (p ≡ got a e)
valid_step (got a e) h i = (a, e, refl)
valid_step (bad m q) h i = let z = ap numbered i in absurd cc

module _ (p : Step Schema) (room : ℕ) (answer : Bytes) {c : Result Unit Refusal} (e : numbered c ≡ checked_of p) where
  -- the work buffer's bytes are as many as they were
  pub list_refused : {x : Refusal} {l : ℕ} {r : Result ℕ Refusal} {cleared : Bytes} → c ≡ Err x → r ≡ Err x → cleared ≡ zeros l → l ≡ room
      → leaves r answer cleared ≡ settled (sheet_answer p) (zeros room) answer
  unfolding sheet_answer and_then settled
  list_refused {x} {cleared = cleared} h o z m =
      leaves_refusal x cleared answer o
      ∙ ap (λ w. refusal (number_of x.0) x.1 w answer) (z ∙ ap zeros m)
      ∙ ap (λ p. settled (sheet_answer p) (zeros room) answer) (sym (refused_step p e h))

  pub list_accepted : {l : ℕ} {x : Exit} → c ≡ Ok tt → ((y : Schema) (n : ℕ) → p ≡ got y n → x ≡ acceptance (sheet_bytes y) (zeros l) answer) → l ≡ room
      → x ≡ settled (sheet_answer p) (zeros room) answer
  unfolding sheet_answer and_then settled
  list_accepted h f m =
      let (y, n, g) = valid_step p e h in
      f y n g ∙ ap (λ l. acceptance (sheet_bytes y) (zeros l) answer) m ∙ ap (λ p. settled (sheet_answer p) (zeros room) answer) (sym g)
