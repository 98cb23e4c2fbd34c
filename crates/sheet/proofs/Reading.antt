-- What the answers of `read_sheet`, `read_two` and `read_train` say of the outcome of a call on one sheet, on two and on a train.
use Prim.Native.Nat.{ℕ, ◌≤◌}
use mathlib.Core.Path.{◌≡◌, ap, subst}
use mathlib.Core.List.{List}
use lib.ListN.{length}
use Rattle.model.specs.Numbers.{max_sheets}
use Rattle.model.specs.Bytes.{Bytes, AreBytes, Every}
use Rattle.model.specs.Tree.{Schema}
use Rattle.model.specs.Sheet.{each, sheet_bytes}
use Rattle.model.specs.Read.{Step, shifted, read_sheet, read_two, read_train}
use Rattle.model.specs.WellFormed.{Fits}
use Rattle.model.specs.Call.{Answer, refused, and_then}
use Rattle.model.proofs.Steps.{Holds, value, refusal, of_got, next_holds}
use Rattle.model.proofs.WholeSheets.{sheet_exact, train_exact}
use Rattle.std.specs.Prelude.{Result, Ok, Err}
use Rattle.buffer.specs.declared.refusal.Refusal.{Refusal}
use Rattle.buffer.specs.Refusals.{number_of, numbered}
use Rattle.sheet.specs.Answers.{step_of}
use Rattle.sheet.proofs.Ways.{step_is, step_no, told_ok, told_err}

-- the bytes are the sheet of a schema, to which the operation answers
pub record Whole (s : Bytes) (f : Schema → Answer) : Type 0 where
  pub schema : Schema
  pub bytes : s ≡ sheet_bytes schema
  pub fits : Fits schema
  pub outcome : and_then (read_sheet s) f ≡ f schema

module _ (s : Bytes) (f : Schema → Answer) {r : Result ℕ Refusal} (e : numbered r ≡ step_of (read_sheet s)) where
  pub sheet_refused : {x : Refusal} → r ≡ Err x → and_then (read_sheet s) f ≡ refused (number_of x.0) x.1
  unfolding and_then
  sheet_refused h = ap (λ q. and_then q f) (step_no (read_sheet s) e (told_err h))

  pub sheet_whole : AreBytes s → {end : ℕ} → r ≡ Ok end → Whole s f
  unfolding and_then
  sheet_whole b {end} h =
      let (x, i) = step_is (read_sheet s) e (told_ok h) in
      let w = of_got (subst (Holds (λ x k. (s ≡ sheet_bytes x) × Fits x)) i (sheet_exact s b)) in
      record { schema = x; bytes = w.0; fits = w.1; outcome = ap (λ q. and_then q f) i }

-- Two sheets

shifted_holds : {A : Type 0} {P : A → Type 0} (n : ℕ) {r : Step A} → Holds (λ a e. P a) r → Holds (λ a e. P a) (shifted n r)
unfolding shifted
shifted_holds n (value h) = value h
shifted_holds n refusal = refusal

-- the bytes are those of the sheet, which fits
abbrev Exact : Bytes → Schema → Type 0
Exact s x = (s ≡ sheet_bytes x) × Fits x

-- two accepted sheets are exactly those of the schemas read
pub two_exact : (s t : Bytes) → AreBytes s → AreBytes t → Holds (λ p e. Exact s p.0 × Exact t p.1) (read_two s t)
unfolding read_two
two_exact s t b c =
    next_holds (sheet_exact s b) λ x e h.
    next_holds (shifted_holds {P = Exact t} (length s) (sheet_exact t c)) λ y e k.
    value {a = (x, y)} (h, k)

-- the bytes are the sheets of two schemas, to which the operation answers
pub record WholeTwo (s t : Bytes) (f : Schema × Schema → Answer) : Type 0 where
  pub first : Schema
  pub second : Schema
  pub bytes : (s ≡ sheet_bytes first) × (t ≡ sheet_bytes second)
  pub fits : Fits first × Fits second
  pub outcome : and_then (read_two s t) f ≡ f (first, second)

module _ (s t : Bytes) (f : Schema × Schema → Answer) {r : Result ℕ Refusal} (e : numbered r ≡ step_of (read_two s t)) where
  pub two_refused : {x : Refusal} → r ≡ Err x → and_then (read_two s t) f ≡ refused (number_of x.0) x.1
  unfolding and_then
  two_refused h = ap (λ q. and_then q f) (step_no (read_two s t) e (told_err h))

  pub two_whole : AreBytes s → AreBytes t → {end : ℕ} → r ≡ Ok end → WholeTwo s t f
  unfolding and_then
  two_whole b c {end} h =
      let ((x, y), i) = step_is (read_two s t) e (told_ok h) in
      let ((p, fx), (q, fy)) = of_got (subst (Holds λ p k. Exact s p.0 × Exact t p.1) i (two_exact s t b c)) in
      record { first = x; second = y; bytes = (p, q); fits = (fx, fy); outcome = ap (λ q. and_then q f) i }

-- A train

-- the bytes are the sheets of schemas, to which the operation answers
pub record WholeTrain (s : Bytes) (f : List Schema → Answer) : Type 0 where
  pub schemas : List Schema
  pub bytes : s ≡ each sheet_bytes schemas
  pub fits : Every Fits schemas
  pub count : length schemas ≤ max_sheets
  pub outcome : and_then (read_train s) f ≡ f schemas

module _ (s : Bytes) (f : List Schema → Answer) {r : Result ℕ Refusal} (e : numbered r ≡ step_of (read_train s)) where
  pub train_refused : {x : Refusal} → r ≡ Err x → and_then (read_train s) f ≡ refused (number_of x.0) x.1
  unfolding and_then
  train_refused h = ap (λ q. and_then q f) (step_no (read_train s) e (told_err h))

  pub train_whole : AreBytes s → {end : ℕ} → r ≡ Ok end → WholeTrain s f
  unfolding and_then
  train_whole b {end} h =
      let (xs, i) = step_is (read_train s) e (told_ok h) in
      let w = of_got (subst (Holds (λ xs k. (s ≡ each sheet_bytes xs) × Every Fits xs × (length xs ≤ max_sheets))) i (train_exact s b)) in
      record { schemas = xs; bytes = w.0; fits = w.1; count = w.2; outcome = ap (λ q. and_then q f) i }
