-- A train behind whole sheets is read as it is read alone, so many bytes on: the same sheets more, or the same number.
use Prim.Native.Nat.{ℕ, zero, suc, ◌+◌, ◌-◌, ◌≤◌}
use native.Mathlib.Omega.{arith}
use mathlib.Core.Path.{◌≡◌, refl, sym, ap, subst, ◌∙◌}
use mathlib.Core.List.{List, [], ◌∷◌, ◌++◌, append_assoc}
use mathlib.Core.Bool.{Bool, true, false}
use lib.ListN.{length, drop, length-append}
use lib.Seq.{drop-append-add}
use lib.Dec.{leb}
use Rattle.model.specs.Numbers.{max_sheet_bytes, max_sheets, too_many_sheets}
use Rattle.model.specs.Bytes.{Bytes, Every, choose}
use Rattle.model.specs.Tree.{Schema}
use Rattle.model.specs.Sheet.{each, sheet_bytes}
use Rattle.model.specs.Read.{Step, got, bad, next, read_schema, read_sheets, read_train}
use Rattle.model.specs.WellFormed.{Fits}
use Rattle.model.specs.SavedAnswer.{NotTooManySheets}
use Rattle.model.proofs.Gives.{choose_false}
use Rattle.model.proofs.Steps.{next_got}
use Rattle.model.proofs.WholeSheets.{sheet_begins, sheet_stands}
use Rattle.model.proofs.Alike.{Alike, value, refusal, next_alike, Moved, sheets_alike}

-- Where fewer sheets than allowed do not lead to 33, more allowed sheets change nothing

-- a step is not refused by 33
abbrev pub NotTooMany : {A : Type 0} → Step A → Type 0
NotTooMany r = (p : ℕ) → r ≡ bad too_many_sheets p → ⊥

more_allowed : (s : Bytes) (n m place : ℕ) → n ≤ m → NotTooMany (read_sheets s n place) → read_sheets s m place ≡ read_sheets s n place
unfolding read_sheets choose next
more_allowed s zero zero place w h = refl
more_allowed s zero (suc m) place w h = go (leb (length s) place) h
  where
    go : (b : Bool) → NotTooMany {A = List Schema} (choose b (λ u. got [] place) λ u. bad too_many_sheets place)
        → choose b (λ u. got [] place) (λ u. next (read_schema s (place + max_sheet_bytes) place) λ x e. next (read_sheets s m e) λ xs e. got (x ∷ xs) e)
        ≡ choose b (λ u. got [] place) λ u. bad too_many_sheets place
    go true h = refl
    go false h = absurd (h place refl)
more_allowed s (suc n) zero place w h = absurd (omega (arith, w))
more_allowed s (suc n) (suc m) place w h = go (leb (length s) place) (read_schema s (place + max_sheet_bytes) place) h λ e. more_allowed s n m e (omega (arith, w))
  where
    go : (b : Bool) (r : Step Schema) → NotTooMany {A = List Schema} (choose b (λ u. got [] place) λ u. next r λ x e. next (read_sheets s n e) λ xs e. got (x ∷ xs) e)
        → ((e : ℕ) → NotTooMany (read_sheets s n e) → read_sheets s m e ≡ read_sheets s n e)
        → choose b (λ u. got [] place) (λ u. next r λ x e. next (read_sheets s m e) λ xs e. got (x ∷ xs) e)
        ≡ choose b (λ u. got [] place) λ u. next r λ x e. next (read_sheets s n e) λ xs e. got (x ∷ xs) e
    go true r h k = refl
    go false (bad c p) h k = refl
    go false (got x e) h k = ap (λ r. next r λ xs e. got (x ∷ xs) e) (k e λ p q. h p (ap (λ r. next r λ xs e. got (x ∷ xs) e) q))

-- Whole sheets, and what is read behind them

onto_self : {A : Type 0} (r : Step A) → r ≡ next r λ a e. got a e
unfolding next
onto_self (got a e) = refl
onto_self (bad n p) = refl

onto_more : (x : Schema) (ws : List Schema) (r : Step (List Schema)) → next (next r λ vs e. got (ws ++ vs) e) (λ vs e. got (x ∷ vs) e) ≡ next r λ vs e. got (x ∷ ws ++ vs) e
unfolding next
onto_more x ws (got vs e) = refl
onto_more x ws (bad n p) = refl

-- sheets that stand at a place are read, whatever comes behind them, which is read from their end on
front_reads : (s : Bytes) (ws : List Schema) (rest : Bytes) (n k place e : ℕ) → Every Fits ws → n ≡ length ws + k → e ≡ place + length (each sheet_bytes ws)
    → place ≤ length s → drop place s ≡ each sheet_bytes ws ++ rest → read_sheets s n place ≡ next (read_sheets s k e) λ vs e. got (ws ++ vs) e
unfolding read_sheets
front_reads s [] rest n k place e f i j w h =
    let i' : n ≡ k = omega (arith, i) in
    let j' : place ≡ e = omega (arith, j) in
    ap (λ n. read_sheets s n place) i' ∙ ap (read_sheets s k) j' ∙ onto_self (read_sheets s k e)
front_reads s (x ∷ ws) rest zero k place e f i j w h = absurd (omega (arith, i))
front_reads s (x ∷ ws) rest (suc n) k place e f i j w h =
    let b : drop place s ≡ sheet_bytes x ++ (each sheet_bytes ws ++ rest) = h ∙ append_assoc (sheet_bytes x) (each sheet_bytes ws) rest in
    let (r, v, q) = sheet_stands s place x (each sheet_bytes ws ++ rest) w b f.0 in
    choose_false _ _ _ (sheet_begins s place x (each sheet_bytes ws ++ rest) w b)
    ∙ next_got _ r (
    ap (λ r. next r λ xs e. got (x ∷ xs) e)
    (front_reads s ws rest n k (place + length (sheet_bytes x)) e f.1 (omega (arith, i)) (omega (arith, j, length-append (sheet_bytes x) (each sheet_bytes ws))) v q)
    ∙ onto_more x ws (read_sheets s k e)
    )

not_too_many : {A B : Type 0} {R : ℕ → ℕ → Type 0} {r r' : Step A} (f : A → ℕ → Step B) → Alike R r r' → NotTooMany (next r' f) → NotTooMany r
unfolding next
not_too_many f (value h) k p q = let z : ◌≡◌ {A = ℕ} 0 1 = cc in omega arith
not_too_many {B = B} f (refusal {n} {p = p₀} {p'} h) k p q = let i : n ≡ too_many_sheets = cc in k p' (ap {B = Step B} (λ n. bad n p') i)

-- at most 256 whole sheets, and whatever bytes behind them: while there is no 33, these are read as the train that they are, so many bytes on
pub train_behind : (ws : List Schema) (further : Bytes) → Every Fits ws → length ws ≤ max_sheets → NotTooManySheets (each sheet_bytes ws ++ further)
    → Alike (Moved (length (each sheet_bytes ws))) (next (read_train further) λ vs e. got (ws ++ vs) e) (read_train (each sheet_bytes ws ++ further))
unfolding read_train
train_behind ws t f w h =
    let a = each sheet_bytes ws in
    let s = a ++ t in
    let k = max_sheets - length ws in
    let front : read_sheets s max_sheets 0 ≡ (next (read_sheets s k (length a)) λ vs e. got (ws ++ vs) e) =
    front_reads s ws t max_sheets k 0 (length a) f (omega (arith, w)) (omega arith) (omega arith) refl in
    let moved : Alike (Moved (length a)) (read_sheets t k 0) (read_sheets s k (length a)) =
    sheets_alike t s (length a) (drop-append-add a t) (length-append a t) k 0 (length a) (omega arith) in
    let alone : read_sheets t max_sheets 0 ≡ read_sheets t k 0 =
    more_allowed t k max_sheets 0 (omega arith) (not_too_many (λ vs e. got (ws ++ vs) e) moved λ p q. h p (front ∙ q)) in
    subst (λ r. Alike (Moved (length a)) (next r λ vs e. got (ws ++ vs) e) (read_sheets s max_sheets 0)) (sym alone)
    (subst (λ r. Alike (Moved (length a)) (next (read_sheets t k 0) λ vs e. got (ws ++ vs) e) r) (sym front)
    (next_alike moved λ vs e e' u. value u))
