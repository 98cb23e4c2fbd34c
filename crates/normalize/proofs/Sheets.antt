-- The sheet of the normalised schema, and `normalize` as a call.
use base.Fml.{GName}
use Prim.Native.Nat.{ℕ, ◌+◌, ◌%◌, ◌/◌, ◌≤◌, ◌<◌}
use native.Mathlib.Omega.{arith}
use mathlib.Core.Path.{◌≡◌, refl, sym, ap, subst, ◌∙◌}
use mathlib.Core.List.{List, [], ◌∷◌, ◌++◌}
use mathlib.Core.Bool.{Bool, true, false, false≢true}
use lib.ListN.{length}
use lib.Dec.{leb, ltb}
use borrow.Author.Tests.{leb-true, leb-false, ltb-false, le-leb, lt-leb}
use Rattle.model.specs.Numbers.{max_levels, max_sheet_bytes, separator_not_utf8}
use Rattle.model.specs.Bytes.{Bytes, choose, u16}
use Rattle.model.specs.Text.{utf8}
use Rattle.model.specs.Tree.{Field, Schema}
use Rattle.model.specs.Sheet.{each, with_count, column_bytes, sheet_bytes}
use Rattle.model.specs.WellFormed.{Fits}
use Rattle.model.specs.Read.{judged, unless}
use Rattle.model.specs.Schema.{join, normalized_columns, normalize}
use Rattle.model.specs.Call.{bytes, refused, and_then, sheet_answer, acceptance, settled}
use Rattle.model.proofs.Gives.{choose_true, choose_false}
use Rattle.model.proofs.WellFormed.{columns_laid_out}
use Rattle.std.specs.Prelude.{Result, Ok, Err, is_err}
use Rattle.text.specs.declared.NotUtf8.{NotUtf8}
use Rattle.text.specs.Text.{text_of}
use Rattle.buffer.specs.declared.refusal.Number.{Number}
use Rattle.buffer.specs.declared.refusal.Refusal.{Refusal}
use Rattle.buffer.specs.Refusals.{numbered, without_place}
use Rattle.buffer.specs.declared.Output.{Output}
use Rattle.buffer.specs.Puts.{Puts, Fills, length_number, unless_refused}
use Rattle.buffer.specs.Leaves.{leaves}
use Rattle.buffer.proofs.Puts.{puts_join, puts_two, filled, put_refused, put_accepted}
use Rattle.buffer.proofs.Ends.{leaves_refusal}
use Rattle.walk.specs.Stands.{Stands, ColumnsAt}
use Rattle.walk.proofs.Standing.{whole_stands}
use Rattle.walk.proofs.Schemas.{each_column}
use Rattle.normalize.specs.declared.Reach.{Reach}
use Rattle.normalize.specs.Expands.{prefix, Measures, Adds, ExpandsFields, normalized, PutsColumns, PutsNormalized, sheet_length}

-- all columns of a sheet that was read: no field is above them
pub columns_put : {s : Bytes} (separator : Bytes) (maxLevel : ℕ) {path : List ℕ} {n first : ℕ} {o o' : Output} {to : Reach} → path ≡ []
    → ((x : Schema) → Stands s 0 (sheet_bytes x) → ColumnsAt s 0 x n first)
    → ExpandsFields s separator maxLevel path n o o' (record { place = first; count = 0 }) to → PutsColumns s separator maxLevel o o' to.count
unfolding normalized_columns prefix join
columns_put {s} separator maxLevel {path} {n} {first} {o} {o'} {to} none f g x fits e =
    let a = f x (whole_stands s (sheet_bytes x) e) in
    let fields = subst (λ q. ExpandsFields s separator maxLevel q n o o' (record { place = first; count = 0 }) to) none g in
    (fields max_levels (λ t. t) [] x.columns (omega arith) (λ t. refl)
    (record { count = refl; stand = λ i h. absurd (omega (arith, h)) })
    (sym a.count) (columns_laid_out x fits.well_formed)).adds a.stands

-- A sheet of such columns and no metadata: its map, and behind it their count and the columns, if there are any

abbrev plain : List (Field max_levels) → Schema
plain cs = record { metadata = []; columns = cs }

module _ {o : Output} {n : ℕ} where
  pub none_put : (cs : List (Field max_levels)) {o' : Output} → n ≡ 0 → n ≡ length cs → Puts (0 ∷ []) o o' → Puts (sheet_bytes (plain cs)) o o'
  unfolding sheet_bytes
  none_put [] z e f = f
  none_put (c ∷ cs) z e f = absurd (omega (arith, z, e))

  pub some_put : (cs : List (Field max_levels)) {o₁ o₂ o₃ : Output} {d : ℕ} → (n ≡ 0 → ⊥) → n ≡ length cs
      → Puts (2 ∷ []) o o₁ → Puts (n % 256 ∷ n / 256 % 256 ∷ []) o₁ o₂ → Adds cs o₂ o₃ 0 d → Puts (sheet_bytes (plain cs)) o o₃
  unfolding sheet_bytes with_count
  some_put [] z e f g h = absurd (z e)
  some_put (c ∷ cs) z e f g h =
      let ds = c ∷ cs in
      let b = each column_bytes ds in
      puts_join (2 ∷ []) (u16 (length ds) ++ b) f (puts_two (length ds) b (λ i. (e, omega (arith, i, each_column ds))) g h.puts)

-- Its length and the number of its columns, from the columns as they are put behind three bytes

pub short_sheet : (q : ℕ) → q ≤ 3 → sheet_length q ≡ 1
unfolding sheet_length
short_sheet q h = choose_true _ _ _ (le-leb q 3 h)

pub long_sheet : (q : ℕ) → 3 < q → sheet_length q ≡ q
unfolding sheet_length
long_sheet q h = choose_false _ _ _ (lt-leb q 3 h)

module _ {o o' : Output} {n d : ℕ} (three : o.written ≡ 3) (e : n ≡ sheet_length o'.written) where
  pub sheet_measured : (cs : List (Field max_levels)) → Adds cs o o' 0 d → Measures (sheet_bytes (plain cs)) n
  unfolding sheet_bytes with_count u16 sheet_length choose
  sheet_measured [] f =
      let i : o'.written ≡ 3 = omega (arith, three, f.puts.inside (omega (arith, three))) in
      let k : n ≡ 1 = e ∙ ap sheet_length i in
      record { inside = λ h. k; beyond = λ h. absurd (omega (arith, h)) }
  sheet_measured (c ∷ cs) f =
      let some = each_column (c ∷ cs) in
      record {
        inside = λ h.
            let i = f.puts.inside (omega (arith, three, h)) in
            omega (arith, three, e, i, long_sheet o'.written (omega (arith, three, i, some)));
        beyond = λ h.
            let i = f.puts.beyond (omega (arith, three, h)) in
            omega (arith, e, i, long_sheet o'.written (omega (arith, i)));
      }

  pub columns_counted : (cs : List (Field max_levels)) → Adds cs o o' 0 d → n ≤ max_sheet_bytes → d ≡ length cs
  columns_counted cs f h = go (leb (o.written + length (each column_bytes cs)) max_sheet_bytes) refl
    where
      go : (t : Bool) → leb (o.written + length (each column_bytes cs)) max_sheet_bytes ≡ t → d ≡ length cs
      go true i =
          let j = leb-true (o.written + length (each column_bytes cs)) max_sheet_bytes i in
          omega (arith, f.counts j (omega (arith, j, each_column cs)))
      go false i =
          let j = f.puts.beyond (leb-false (o.written + length (each column_bytes cs)) max_sheet_bytes i) in
          absurd (omega (arith, e, h, j, long_sheet o'.written (omega (arith, j))))

-- The call

-- as put into a buffer of no bytes
measured_fills : (b : Bytes) {n : ℕ} → Measures b n → 1 ≤ length b → Fills b [] [] n
measured_fills b m h = record {
  inside = λ k. omega (arith, m.inside (omega (arith, k)));
  beyond = λ k. m.beyond (omega (arith, k));
  size = refl;
  written = λ k l. absurd (omega (arith, h, l));
}

-- a length that fits is no longer than the longest answer
fitting_length : (n room : ℕ) {f : Result Unit Refusal} → numbered f ≡ unless_refused (length_number n room) → f ≡ Ok tt → n ≤ max_sheet_bytes
unfolding length_number choose
fitting_length n room {f} e h = go (ltb max_sheet_bytes n) refl (sym (ap numbered h) ∙ e)
  where
    go : (t : Bool) → ltb max_sheet_bytes n ≡ t
        → ◌≡◌ {A = Result Unit (ℕ × ℕ)} (Ok tt) (unless_refused (choose t (λ u. 30) (λ u. choose (ltb room n) (λ u. 31) λ u. 0))) → n ≤ max_sheet_bytes
    go true i k = cc
    go false i k = ltb-false max_sheet_bytes n i

-- the check of the separator
pub check_failed : (t : Bool) {r : Result Unit NotUtf8} → r ≡ text_of t → is_err r ≡ true → t ≡ false
check_failed true e h = absurd (false≢true (sym (ap is_err e) ∙ h))
check_failed false e h = refl

pub check_passed : (t : Bool) {r : Result Unit NotUtf8} → r ≡ text_of t → is_err r ≡ false → t ≡ true
check_passed true e h = refl
check_passed false e h = absurd (false≢true (sym h ∙ ap is_err e))

-- what the operation answers, by it
module _ (x : Schema) (separator : Bytes) (maxLevel : ℕ) where
  broken_answer : utf8 separator ≡ false → sheet_answer (normalize x separator maxLevel) ≡ refused separator_not_utf8 0
  unfolding normalize judged unless sheet_answer and_then
  broken_answer h = ap (λ b. sheet_answer (judged (unless b separator_not_utf8) 0 (normalized separator maxLevel x) 0)) h

  valid_answer : utf8 separator ≡ true → sheet_answer (normalize x separator maxLevel) ≡ bytes (sheet_bytes (normalized separator maxLevel x))
  unfolding normalize judged unless sheet_answer and_then
  valid_answer h = ap (λ b. sheet_answer (judged (unless b separator_not_utf8) 0 (normalized separator maxLevel x) 0)) h

module _ (s separator : Bytes) (maxLevel : ℕ) (cleared answer : Bytes) where
  -- what the call leaves on a sheet that was read, with the work buffer cleared
  abbrev Ends : Result ℕ Refusal → Bytes → Bytes → Type 0
  Ends r answer' after =
      (x : Schema) → Fits x → s ≡ sheet_bytes x → leaves r answer' after ≡ settled (sheet_answer (normalize x separator maxLevel)) cleared answer

  module _ {after : Bytes} (z : after ≡ cleared) where
    -- 18
    pub separator_refused : {r : Result ℕ Refusal} → utf8 separator ≡ false → r ≡ Err (without_place Number.SeparatorNotUtf8) → Ends r answer after
    unfolding settled
    separator_refused {r} h k x fits i =
        ap (λ w. leaves r answer w) z ∙ leaves_refusal (without_place Number.SeparatorNotUtf8) cleared answer k
        ∙ sym (ap (λ o. settled o cleared answer) (broken_answer x separator maxLevel h))

    module _ (h : utf8 separator ≡ true) {o o' : Output} {count : ℕ} (three : o.written ≡ 3) (f : PutsColumns s separator maxLevel o o' count)
        {n : ℕ} (l : n ≡ sheet_length o'.written) where
      sheet_ends : (r : Result ℕ Refusal) (answer' : Bytes)
          → ((x : Schema) → Fits x → s ≡ sheet_bytes x → leaves r answer' cleared ≡ acceptance (sheet_bytes (normalized separator maxLevel x)) cleared answer)
          → Ends r answer' after
      unfolding settled
      sheet_ends r answer' k x fits i =
          ap (λ w. leaves r answer' w) z ∙ k x fits i ∙ sym (ap (λ o. settled o cleared answer) (valid_answer x separator maxLevel h))

      measured : (x : Schema) → Fits x → s ≡ sheet_bytes x → Fills (sheet_bytes (normalized separator maxLevel x)) [] [] n
      unfolding sheet_bytes
      measured x fits i = measured_fills _ (sheet_measured three l _ (f x fits i)) (omega arith)

      module _ {v : Result Unit Refusal} (m : numbered v ≡ unless_refused (length_number n (length answer))) where
        -- 30 and 31
        pub length_refused : {r : Result ℕ Refusal} {y : Refusal} → v ≡ Err y → r ≡ Err y → Ends r answer after
        length_refused {r} e k = sheet_ends r answer λ x fits i. put_refused _ (measured x fits i) cleared answer m e k

        pub length_accepted : {r : Result ℕ Refusal} {answer' : Bytes} {p p' : Output} {name : GName} → v ≡ Ok tt → (p.buffer.ghost_name ≡ name) × (p.buffer.now ≡ answer) × (p.written ≡ 0)
            → (name ≡ p'.buffer.ghost_name → answer' ≡ p'.buffer.now) → PutsNormalized s separator maxLevel count p p' → r ≡ Ok n → Ends r answer' after
        length_accepted {r} {answer'} e new done g k =
            sheet_ends r answer' λ x fits i.
            put_accepted _ (measured x fits i) cleared answer m e
            (filled _ new done (g x fits i (columns_counted three l _ (f x fits i) (fitting_length n (length answer) m e)))) k
