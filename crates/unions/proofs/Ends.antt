-- The ids from 0 on, written by a loop; the ends of the two numbering calls, which have no sheet and no work buffer.
use Prim.Native.Nat.{ℕ, suc, ◌+◌, ◌≤◌, ◌<◌}
use native.Mathlib.Omega.{arith}
use native.Mathlib.Numerals.{add-one}
use mathlib.Core.Path.{◌≡◌, refl, ap}
use mathlib.Core.List.{[]}
use lib.ListN.{length, take, set}
use lib.Seq.{take-suc-set}
use borrow.Author.Tests.{le-leb, lt-leb}
use Rattle.model.specs.Numbers.{max_type_id}
use Rattle.model.specs.Bytes.{Bytes}
use Rattle.model.specs.Read.{Step, got, bad}
use Rattle.model.specs.Unions.{try_new, try_from_fields, ids_from}
use Rattle.model.specs.Call.{Answer, bytes, refused, and_then, try_new_answer, try_from_fields_answer, Exit, zeros, acceptance, call}
use Rattle.model.proofs.Steps.{Holds, of_got}
use Rattle.model.proofs.Gives.{choose_true, choose_false}
use Rattle.model.proofs.Unions.{try_new_ids, ids_from_next, take_ids_from}
use Rattle.std.specs.Prelude.{Result, Ok, Err}
use Rattle.buffer.specs.declared.refusal.Number.{Number}
use Rattle.buffer.specs.declared.refusal.Refusal.{Refusal}
use Rattle.buffer.specs.Refusals.{number_of, numbered, without_place}
use Rattle.buffer.specs.Leaves.{leaves}
use Rattle.buffer.proofs.Ends.{call_refused, call_answered}
use Rattle.unions.specs.Answers.{checked_of}

-- The ids from 0 on

-- one id more
pub ids_turn : (ids : Bytes) (id i : ℕ) → id ≡ i → take i ids ≡ ids_from 0 i → i < length ids → take (i + 1) (set ids i id) ≡ ids_from 0 (i + 1)
ids_turn ids id i e w h =
    let n : 0 + i ≡ i = omega arith in
    rw (e, add-one, take-suc-set ids i i h, w, ids_from_next 0 i, n)

-- A call without a sheet: its refusal, its answer

module _ (outcome : Answer) (answer : Bytes) where
  refusal_ends : {r : Result ℕ Refusal} {x : Refusal} → outcome ≡ refused (number_of x.0) x.1 → r ≡ Err x → leaves r answer [] ≡ call 0 outcome [] answer
  unfolding zeros
  refusal_ends o e = call_refused 0 outcome [] answer {room = Ok tt} refl refl o e refl

  answer_ends : {x : Exit} {b : Bytes} → outcome ≡ bytes b → x ≡ acceptance b [] answer → x ≡ call 0 outcome [] answer
  unfolding zeros
  answer_ends o e = call_answered 0 outcome [] answer {room = Ok tt} refl refl o e

-- `try_new`

module _ (answer : Bytes) {k : Result Unit Refusal} where
  step_refused : (g : Step Bytes) {r : Result ℕ Refusal} {x : Refusal} → numbered k ≡ checked_of g → k ≡ Err x → r ≡ Err x
      → leaves r answer [] ≡ call 0 (and_then g bytes) [] answer
  unfolding and_then
  step_refused (got b e) q h u = let z = ap numbered h in cc
  step_refused (bad m p) {x = x} q h u = refusal_ends (refused m p) answer (let e : ◌≡◌ {A = ℕ × ℕ} (m, p) (number_of x.0, x.1) = let z = ap numbered h in cc in ap (λ (r : ℕ × ℕ). refused r.0 r.1) e) u

  step_valid : {ids : Bytes} (g : Step Bytes) {x : Exit} → Holds (λ b e. b ≡ ids) g → numbered k ≡ checked_of g → k ≡ Ok tt → x ≡ acceptance ids [] answer
      → x ≡ call 0 (and_then g bytes) [] answer
  unfolding and_then
  step_valid (got b e) w q h u = answer_ends (bytes b) answer (ap bytes (of_got w)) u
  step_valid (bad m x) w q h u = let z = ap numbered h in cc

module _ (ids : Bytes) (count : ℕ) (answer : Bytes) {k : Result Unit Refusal} (e : numbered k ≡ checked_of (try_new ids count [] 0)) where
  pub new_refused : {r : Result ℕ Refusal} {x : Refusal} → k ≡ Err x → r ≡ Err x → leaves r answer [] ≡ call 0 (try_new_answer ids count) [] answer
  unfolding try_new_answer
  new_refused h u = step_refused answer (try_new ids count [] 0) e h u

  pub new_accepted : {x : Exit} → k ≡ Ok tt → x ≡ acceptance ids [] answer → x ≡ call 0 (try_new_answer ids count) [] answer
  unfolding try_new_answer
  new_accepted h u = step_valid answer (try_new ids count [] 0) (try_new_ids ids count [] 0) e h u

-- `try_from_fields`

module _ (count : ℕ) (answer : Bytes) where
  pub from_fields_refused : {r : Result ℕ Refusal} → suc max_type_id < count → r ≡ Err (without_place Number.TooManyFields) → leaves r answer [] ≡ call 0 (try_from_fields_answer count) [] answer
  unfolding try_from_fields_answer try_from_fields and_then
  from_fields_refused h e = refusal_ends _ answer (ap (λ r. and_then r bytes) (choose_false _ _ _ (lt-leb count (suc max_type_id) h))) e

  pub from_fields_accepted : {ids : Bytes} {x : Exit} → count ≤ suc max_type_id → ids ≡ ids_from 0 (suc max_type_id) → x ≡ acceptance (take count ids) [] answer
      → x ≡ call 0 (try_from_fields_answer count) [] answer
  unfolding try_from_fields_answer try_from_fields and_then
  from_fields_accepted {ids} h i e =
      let t : take count ids ≡ ids_from 0 count = rw i (take_ids_from 0 count (suc max_type_id) h) in
      answer_ends _ answer (ap (λ r. and_then r bytes) (choose_true _ _ _ (le-leb count (suc max_type_id) h))) (rw t at e)
