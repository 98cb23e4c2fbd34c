-- The ends of a call: what an outcome and the two buffers say, as the model's call in each of its cases.
use mathlib.Core.Path.{◌≡◌, refl, sym, ap, ◌∙◌}
use mathlib.Core.List.{◌++◌}
use mathlib.Core.Bool.{Bool, true, false}
use Prim.Native.Nat.{ℕ, ◌*◌, ◌≤◌}
use lib.ListN.{length, drop}
use lib.Dec.{ltb}
use borrow.Author.Tests.{le-ltb, ltb-false}
use Rattle.model.specs.Numbers.{max_sheet_bytes, work_bytes_per_sheet_byte, accepted, answer_too_long, answer_buffer_short, work_buffer_short}
use Rattle.model.specs.Bytes.{Bytes, choose}
use Rattle.model.specs.Call.{Answer, bytes, refused, Exit, zeros, refusal, acceptance, settled, call}
use Rattle.model.proofs.Gives.{choose_false}
use Rattle.std.specs.Prelude.{Result, Ok, Err, IsErrAnd}
use Rattle.std.proofs.lemmas.Result.{err_from_is_err_and}
use Rattle.buffer.specs.declared.refusal.Number.{Number}
use Rattle.buffer.specs.declared.refusal.Refusal.{Refusal}
use Rattle.buffer.specs.Refusals.{number_of, numbered, without_place}
use Rattle.buffer.specs.Puts.{length_number, unless_short, unless_refused}
use Rattle.buffer.specs.Buffer.{pasted}
use Rattle.buffer.specs.Leaves.{leaves}
use Rattle.buffer.proofs.Pasted.{pasted_zero}

-- the `?` of a call whose refusal is handed up as it is
pub handed_up : {A : Type 0} {x : Refusal} (r : Result A Refusal) → IsErrAnd r (λ y. y ≡ x) → r ≡ Err x
handed_up r h = let p = err_from_is_err_and r h in p.1 ∙ ap Err p.2

-- a refusal leaves the answer buffer as it was
pub leaves_refusal : {r : Result ℕ Refusal} (x : Refusal) (work answer : Bytes) → r ≡ Err x → leaves r answer work ≡ refusal (number_of x.0) x.1 work answer
unfolding leaves refusal
leaves_refusal x work answer e = ap (λ r. leaves r answer work) e

-- What is done with an answer: 30, 31, or its bytes at the answer buffer's start. f is the code's test of the answer's length

module _ {f : Result Unit Refusal} (b work answer : Bytes) (tested : numbered f ≡ unless_refused (length_number (length b) (length answer))) where
  pub acceptance_refused : {r : Result ℕ Refusal} {x : Refusal} → f ≡ Err x → r ≡ Err x → leaves r answer work ≡ acceptance b work answer
  unfolding length_number choose acceptance
  acceptance_refused {r} {x} h e = leaves_refusal x work answer e ∙ go (ltb max_sheet_bytes (length b)) (ltb (length answer) (length b)) (sym (ap numbered h) ∙ tested)
    where
      ends : (n p : ℕ) → ◌≡◌ {A = Result Unit (ℕ × ℕ)} (Err (number_of x.0, x.1)) (Err (n, p)) → refusal (number_of x.0) x.1 work answer ≡ refusal n p work answer
      ends n p q = let e : ◌≡◌ {A = ℕ × ℕ} (number_of x.0, x.1) (n, p) = cc in ap (λ (r : ℕ × ℕ). refusal r.0 r.1 work answer) e

      go : (t s : Bool)
          → ◌≡◌ {A = Result Unit (ℕ × ℕ)} (Err (number_of x.0, x.1)) (unless_refused (choose t (λ u. answer_too_long) λ u. choose s (λ u. answer_buffer_short) λ u. accepted))
          → refusal (number_of x.0) x.1 work answer
          ≡ choose t (λ u. refusal answer_too_long 0 work answer) λ u. choose s (λ u. refusal answer_buffer_short 0 work answer) λ u. record { number = accepted; place = 0; length = length b; answer = b ++ drop (length b) answer; work = work }
      go true s q = ends answer_too_long 0 q
      go false true q = ends answer_buffer_short 0 q
      go false false q = cc

  -- it is no longer than the longest answer, and the answer buffer has room for it
  pub length_room : f ≡ Ok tt → (length b ≤ max_sheet_bytes) × (length b ≤ length answer)
  unfolding length_number choose
  length_room h = go (ltb max_sheet_bytes (length b)) refl (ltb (length answer) (length b)) refl (sym (ap numbered h) ∙ tested)
    where
      go : (t : Bool) → ltb max_sheet_bytes (length b) ≡ t → (s : Bool) → ltb (length answer) (length b) ≡ s
          → ◌≡◌ {A = Result Unit (ℕ × ℕ)} (Ok tt) (unless_refused (choose t (λ u. answer_too_long) λ u. choose s (λ u. answer_buffer_short) λ u. accepted))
          → (length b ≤ max_sheet_bytes) × (length b ≤ length answer)
      go true i s j q = cc
      go false i true j q = cc
      go false i false j q = (ltb-false max_sheet_bytes (length b) i, ltb-false (length answer) (length b) j)

  pub acceptance_written : {r : Result ℕ Refusal} {after : Bytes} → f ≡ Ok tt → r ≡ Ok (length b) → after ≡ pasted answer 0 b → leaves r after work ≡ acceptance b work answer
  unfolding acceptance leaves
  acceptance_written {r} {after} h e w =
      let room = length_room h in
      rw (e, w, pasted_zero answer b)
      (sym (choose_false _ _ _ (le-ltb max_sheet_bytes (length b) room.0) ∙ choose_false _ _ _ (le-ltb (length answer) (length b) room.1)))

-- a refusal with the number of that test
pub acceptance_err : (x : Refusal) (b work answer : Bytes) → ◌≡◌ {A = Result Unit (ℕ × ℕ)} (Err (number_of x.0, x.1)) (unless_refused (length_number (length b) (length answer)))
    → leaves (Err x) answer work ≡ acceptance b work answer
acceptance_err x b work answer t = acceptance_refused {f = Err x} b work answer t refl refl

-- an answer that is another's
pub settled_as : {x : Exit} {o p : Answer} (work answer : Bytes) → o ≡ p → x ≡ settled p work answer → x ≡ settled o work answer
settled_as work answer e h = h ∙ sym (ap (λ o. settled o work answer) e)

-- The call's cases: 32; a refusal; bytes. `room` is the code's test for 32

module _ (given : ℕ) (outcome : Answer) (work answer : Bytes) {room : Result Unit Refusal} (tested : room ≡ unless_short (ltb (length work) (work_bytes_per_sheet_byte * given))) where
  pub call_short : {r : Result ℕ Refusal} {x : Refusal} → room ≡ Err x → r ≡ Err x → leaves r answer work ≡ call given outcome work answer
  unfolding call choose
  call_short {r} {x} h e = leaves_refusal x work answer e ∙ go (ltb (length work) (work_bytes_per_sheet_byte * given)) (sym h ∙ tested)
    where
      go : (t : Bool) → ◌≡◌ {A = Result Unit Refusal} (Err x) (unless_short t)
          → refusal (number_of x.0) x.1 work answer ≡ choose t (λ u. refusal work_buffer_short 0 work answer) λ u. settled outcome (zeros (length work)) answer
      go true q = let e : x ≡ without_place Number.WorkBufferShort = cc in ap (λ x. refusal (number_of x.0) x.1 work answer) e
      go false q = cc

  pub call_settled : {x : Exit} → room ≡ Ok tt → x ≡ settled outcome (zeros (length work)) answer → x ≡ call given outcome work answer
  unfolding call choose
  call_settled {x} h e = go (ltb (length work) (work_bytes_per_sheet_byte * given)) (sym h ∙ tested)
    where
      go : (t : Bool) → ◌≡◌ {A = Result Unit Refusal} (Ok tt) (unless_short t)
          → x ≡ choose t (λ u. refusal work_buffer_short 0 work answer) λ u. settled outcome (zeros (length work)) answer
      go true q = cc
      go false q = e

  pub call_refused : {r : Result ℕ Refusal} {after : Bytes} {x : Refusal} → room ≡ Ok tt → outcome ≡ refused (number_of x.0) x.1 → r ≡ Err x → after ≡ zeros (length work)
      → leaves r answer after ≡ call given outcome work answer
  unfolding settled
  call_refused {r} {after} {x} h o e z = call_settled h (rw (z, o) (leaves_refusal x (zeros (length work)) answer e))

  pub call_answered : {x : Exit} {b : Bytes} → room ≡ Ok tt → outcome ≡ bytes b → x ≡ acceptance b (zeros (length work)) answer
      → x ≡ call given outcome work answer
  unfolding settled
  call_answered h o e = call_settled h (rw o e)
