-- The line of the program: 35, or that of the merge; and in a buffer that holds every line.
use Prim.Native.Nat.{ℕ, ◌+◌, ◌*◌, ◌≤◌, ◌<◌}
use native.Mathlib.Omega.{arith}
use mathlib.Core.Path.{◌≡◌, refl, sym, ap, ◌∙◌}
use mathlib.Core.List.{[]}
use mathlib.Core.Bool.{Bool, true, false}
use lib.ListN.{length, take}
use lib.Seq.{take_all, length-take-le}
use lib.Dec.{ltb}
use borrow.Author.Tests.{ltb-true, ltb-false, lt-ltb, le-ltb}
use Rattle.model.specs.Numbers.{max_program_bytes, max_sheet_bytes, work_bytes_per_sheet_byte}
use Rattle.model.specs.Bytes.{Bytes, AreBytes}
use Rattle.model.specs.Call.{Exit, zeros, merge_call}
use Rattle.model.specs.Program.{line_of, program_line}
use Rattle.model.proofs.Gives.{choose_true, choose_false}
use Rattle.std.specs.Prelude.{Result, Err}
use Rattle.buffer.specs.declared.Outcome.{Outcome}
use Rattle.buffer.specs.declared.Output.{Output}
use Rattle.buffer.specs.declared.refusal.Number.{Number}
use Rattle.buffer.specs.declared.refusal.Refusal.{Refusal}
use Rattle.buffer.specs.Refusals.{without_place}
use Rattle.buffer.specs.Puts.{Puts, Fills}
use Rattle.buffer.specs.Leaves.{leaves, outcome_of}
use Rattle.buffer.proofs.Ends.{leaves_refusal}
use Rattle.buffer.proofs.Pasted.{pasted_zero}
use Rattle.buffer.proofs.Puts.{puts_same}
use Rattle.line.specs.Exits.{exit_of}
use Rattle.line.specs.Prints.{max_line_bytes, Prints}
use Rattle.line.proofs.Lengths.{program_line_length}

module _ {o o' : Output} where
  -- the line for what a call left is that for the call
  pub line_as : (r : Result ℕ Refusal) (out : Outcome) (answer work : Bytes) {x : Exit} → leaves r answer work ≡ x → out ≡ outcome_of r
      → ((work : Bytes) → Puts (line_of (exit_of out answer work)) o o') → Puts (line_of x) o o'
  unfolding leaves exit_of
  line_as r out answer work e t f = puts_same (ap (λ out. line_of (exit_of out answer work)) t ∙ ap line_of e) (f work)

  pub too_long : (parked : Bool) (input : Bytes) (x : Refusal) (out : Outcome) → max_program_bytes < length input → x ≡ without_place Number.InputTooLong → out ≡ outcome_of (Err x)
      → ((work : Bytes) → Puts (line_of (exit_of out [] work)) o o') → Puts (program_line parked input) o o'
  unfolding program_line
  too_long parked input x out h e t f =
      puts_same (sym (choose_true _ _ _ (lt-ltb max_program_bytes (length input) h))) (line_as (Err x) out [] [] (leaves_refusal _ [] [] (ap Err e)) t f)

  pub not_too_long : (parked : Bool) (input : Bytes) → length input ≤ max_program_bytes
      → Puts (line_of (merge_call parked input (zeros (work_bytes_per_sheet_byte * max_program_bytes)) (zeros max_sheet_bytes))) o o' → Puts (program_line parked input) o o'
  unfolding program_line
  not_too_long parked input h f = puts_same (sym (choose_false _ _ _ (le-ltb max_program_bytes (length input) h))) f

-- 16,001 bytes tell an input that is too long from the longest one
program_line_read : (parked : Bool) (all : Bytes) → program_line parked (take (max_program_bytes + 1) all) ≡ program_line parked all
unfolding program_line
program_line_read parked all = go (ltb max_program_bytes (length all)) refl
  where
    go : (t : Bool) → ltb max_program_bytes (length all) ≡ t → program_line parked (take (max_program_bytes + 1) all) ≡ program_line parked all
    go true e =
        let h = ltb-true max_program_bytes (length all) e in
        let n = length-take-le (max_program_bytes + 1) all (omega (arith, h)) in
        choose_true _ _ _ (lt-ltb max_program_bytes (length (take (max_program_bytes + 1) all)) (omega (arith, n))) ∙ sym (choose_true _ _ _ e)
    go false e = ap (program_line parked) (take_all (max_program_bytes + 1) all (omega (arith, ltb-false max_program_bytes (length all) e)))

-- no line passes the buffer, and none the longest answer
pub prints : (parked : Bool) (input : Bytes) {w w' : Bytes} {r : ℕ} → AreBytes input → length w ≡ max_line_bytes → Fills (program_line parked input) w w' r → Prints parked input w w' r
prints parked input {w} byte room f =
    let h = program_line_length parked input byte in
    let n = f.inside (omega (arith, h)) in
    record {
      counted = omega (arith, n);
      fits = omega (arith, h, n, room, f.size);
      written = f.written (omega (arith, h)) (omega (arith, h, room)) ∙ pasted_zero w (program_line parked input);
      whole = λ all e. ap (program_line parked) e ∙ program_line_read parked all;
    }
