-- The ends of the call on a train that was read.
use Prim.Native.Nat.{ℕ, ◌*◌, ◌≤◌}
use native.Mathlib.Omega.{arith}
use mathlib.Core.Path.{◌≡◌, sym, ap, ◌∙◌}
use mathlib.Core.List.{List, [], ◌∷◌}
use lib.ListN.{length, length-append}
use Rattle.model.specs.Numbers.{max_sheets, work_bytes_per_sheet_byte}
use Rattle.model.specs.Bytes.{Bytes, Every}
use Rattle.model.specs.Tree.{Schema}
use Rattle.model.specs.Sheet.{each, sheet_bytes}
use Rattle.model.specs.WellFormed.{Fits}
use Rattle.model.specs.Merge.{merge_from, try_merge}
use Rattle.model.specs.Call.{Exit, and_then, sheet_answer, acceptance, settled, zeros}
use Rattle.std.specs.Prelude.{Result, Ok, Err}
use Rattle.buffer.specs.declared.refusal.Refusal.{Refusal}
use Rattle.buffer.specs.Refusals.{numbered}
use Rattle.buffer.specs.Puts.{Fills, length_number, unless_refused}
use Rattle.buffer.specs.Leaves.{leaves}
use Rattle.buffer.proofs.Ends.{leaves_refusal}
use Rattle.buffer.proofs.Puts.{put_refused, put_accepted}
use Rattle.walk.specs.Stands.{Stands}
use Rattle.sheet.proofs.Ways.{told_ok, told_err, step_is, step_no}
use Rattle.table.specs.Table.{SpellSchema}
use Rattle.try_merge.specs.Claims.{MergesSheets}
use mathlib.Core.Bool.{Bool}

-- The end of the call: s is the train, w₀ the work buffer before and w what the merge left in it

abbrev Writes : Bytes → Bytes → Bytes → Bytes → ℕ → Type 0
Writes s w dst dst' n = (x : Schema) (k : ℕ) (y : Bytes) → SpellSchema s k y x → Stands w 0 y → Fills (sheet_bytes x) dst dst' n

-- in either mode
module _ (parked : Bool) where
  -- no sheets: "for an empty train the byte 00"
  pub none_merged : (s : Bytes) (x : Exit) (work answer : Bytes) → length s ≡ 0 → x ≡ acceptance (0 ∷ []) work answer
      → (xs : List Schema) → s ≡ each sheet_bytes xs → x ≡ settled (sheet_answer (try_merge parked xs)) work answer
  unfolding settled sheet_answer and_then try_merge merge_from sheet_bytes
  none_merged s x work answer h e [] i = e
  none_merged s x work answer h e (y ∷ ys) i = absurd (omega (arith, h, ap length i, length-append (sheet_bytes y) (each sheet_bytes ys)))

  module _ {s w₀ w : Bytes} (answer : Bytes) {merged : Result ℕ Refusal} (m : MergesSheets parked s w₀ w merged) {after : Bytes} (z : after ≡ zeros (length w)) where
    abbrev Ends : Result ℕ Refusal → Bytes → Type 0
    Ends r answer' =
        (xs : List Schema) → s ≡ each sheet_bytes xs → Every Fits xs → length xs ≤ max_sheets → 1 ≤ length s → work_bytes_per_sheet_byte * length s ≤ length w₀
        → leaves r answer' after ≡ settled (sheet_answer (try_merge parked xs)) (zeros (length w₀)) answer

    cleared : after ≡ zeros (length w₀)
    cleared = z ∙ ap zeros m.same_length

    -- 20 to 25
    pub clash_refused : {r : Result ℕ Refusal} {x : Refusal} → merged ≡ Err x → r ≡ Err x → Ends r answer
    unfolding settled sheet_answer and_then
    clash_refused {r} {x} h e xs i f k one room =
        let t = step_no (try_merge parked xs) (m.merges xs i f k one room).0 (told_err h) in
        ap (λ w. leaves r answer w) cleared ∙ leaves_refusal x (zeros (length w₀)) answer e ∙ sym (ap (λ o. settled (sheet_answer o) (zeros (length w₀)) answer) t)

    module _ {count : ℕ} (h : merged ≡ Ok count) where
      ends : (r : Result ℕ Refusal) (answer' : Bytes)
          → ((x : Schema) (k : ℕ) (y : Bytes) → SpellSchema s k y x → Stands w 0 y → leaves r answer' (zeros (length w₀)) ≡ acceptance (sheet_bytes x) (zeros (length w₀)) answer) → Ends r answer'
      unfolding settled sheet_answer and_then
      ends r answer' by xs i f k one room =
          let all = m.merges xs i f k one room in
          let (x, t) = step_is (try_merge parked xs) all.0 (told_ok h) in
          let sp = all.1 x count t in
          ap (λ w. leaves r answer' w) cleared ∙ by x sp.room sp.spelt sp.spells sp.stands ∙ sym (ap (λ o. settled (sheet_answer o) (zeros (length w₀)) answer) t)

      module _ {none none' : Bytes} {n : ℕ} {f : Result Unit Refusal} (measured : Writes s w none none' n) (tested : numbered f ≡ unless_refused (length_number n (length answer))) where
        -- 30 and 31
        pub length_refused : {r : Result ℕ Refusal} {x : Refusal} → f ≡ Err x → r ≡ Err x → Ends r answer
        length_refused {r} o e = ends r answer λ x k y p st. put_refused (sheet_bytes x) (measured x k y p st) (zeros (length w₀)) answer tested o e

        pub length_accepted : {r : Result ℕ Refusal} {answer' : Bytes} {q : ℕ} → f ≡ Ok tt → Writes s w answer answer' q → r ≡ Ok n → Ends r answer'
        length_accepted {r} {answer'} o written e =
            ends r answer' λ x k y p st. put_accepted (sheet_bytes x) (measured x k y p st) (zeros (length w₀)) answer tested o (written x k y p st) e
