-- Bytes put one behind the other, and the end of a call that puts its answer: first for its length, then into the answer buffer.
use base.Fml.{GName}
use Prim.Native.Nat.{ℕ, ◌+◌, ◌%◌, ◌/◌, ◌≤◌, ◌<◌}
use native.Mathlib.Omega.{arith}
use mathlib.Core.Path.{◌≡◌, refl, sym, ap, subst, ◌∙◌}
use mathlib.Core.List.{[], ◌∷◌, ◌++◌}
use mathlib.Core.Bool.{Bool, true, false}
use lib.ListN.{length, length-append}
use lib.Dec.{leb}
use borrow.Author.Tests.{leb-true, leb-false, lt-ltb}
use Rattle.model.proofs.Gives.{choose_true}
use Rattle.model.specs.Numbers.{max_sheet_bytes}
use Rattle.model.specs.Bytes.{Bytes, choose, u16}
use Rattle.model.specs.Call.{acceptance}
use Rattle.std.specs.Prelude.{Result, Ok, Err}
use Rattle.buffer.specs.declared.Output.{Output}
use Rattle.buffer.specs.declared.refusal.Refusal.{Refusal}
use Rattle.buffer.specs.Refusals.{numbered}
use Rattle.buffer.specs.Buffer.{pasted}
use Rattle.buffer.specs.Puts.{Puts, Fills, length_number, unless_refused}
use Rattle.buffer.specs.Leaves.{leaves}
use Rattle.buffer.proofs.Pasted.{pasted_nil, pasted_join}
use Rattle.buffer.proofs.Ends.{acceptance_refused, acceptance_written, length_room}

module _ {o : Output} where
  -- nothing
  pub puts_none : Puts [] o o
  puts_none = record { same_buffer = refl; inside = λ h. omega arith; beyond = λ h. omega arith; size = refl; written = λ h k. sym (pasted_nil o.buffer.now o.written) }

  pub puts_same : {b c : Bytes} {o' : Output} → b ≡ c → Puts b o o' → Puts c o o'
  puts_same {o' = o'} e h = subst (λ b. Puts b o o') e h

  -- as other bytes, of the same length, and the same where they do not pass the longest answer
  pub puts_as : (b c : Bytes) {o' : Output} → length b ≡ length c → (o.written + length c ≤ max_sheet_bytes → b ≡ c) → Puts b o o' → Puts c o o'
  puts_as b c e f h = record {
    same_buffer = h.same_buffer;
    inside = λ k. omega (arith, h.inside (omega (arith, e, k)), e);
    beyond = λ k. h.beyond (omega (arith, e, k));
    size = h.size;
    written = λ k l. h.written (omega (arith, e, k)) (omega (arith, e, l)) ∙ ap (pasted o.buffer.now o.written) (f k);
  }

  -- beyond the longest answer: whatever follows is so too
  pub puts_beyond : (b : Bytes) → max_sheet_bytes < o.written → Puts b o o
  puts_beyond b h = record { same_buffer = refl; inside = λ k. absurd (omega (arith, h, k)); beyond = λ k. h; size = refl; written = λ k l. absurd (omega (arith, h, k)) }

  -- one behind the other
  pub puts_join : (a b : Bytes) {o₁ o₂ : Output} → Puts a o o₁ → Puts b o₁ o₂ → Puts (a ++ b) o o₂
  puts_join a b {o₁} {o₂} f g =
      let n = length-append a b in
      record {
        same_buffer = g.same_buffer ∙ f.same_buffer;
        inside = λ k.
            let i = f.inside (omega (arith, k, n)) in
            omega (arith, i, g.inside (omega (arith, k, n, i)), n);
        beyond = λ k. go (leb (o.written + length a) max_sheet_bytes) refl (omega (arith, k, n));
        size = g.size ∙ f.size;
        written = λ k l.
            let i = f.inside (omega (arith, k, n)) in
            let x = f.written (omega (arith, k, n)) (omega (arith, l, n)) in
            g.written (omega (arith, k, n, i)) (omega (arith, l, n, i, f.size))
            ∙ ap (λ z. pasted z o₁.written b) x ∙ pasted_join o.buffer.now o.written a b o₁.written (sym i) (omega (arith, l, n));
      }
    where
      go : (t : Bool) → leb (o.written + length a) max_sheet_bytes ≡ t → max_sheet_bytes < o.written + length a + length b → max_sheet_bytes < o₂.written
      go true e k = g.beyond (omega (arith, k, f.inside (leb-true _ _ e)))
      go false e k = g.beyond (omega (arith, f.beyond (leb-false _ _ e)))

-- a count, where so many elements do not pass the longest answer
pub two_bytes_lem : (v : ℕ) → v < 65536 → ◌≡◌ {A = Bytes} (v % 256 ∷ v / 256 % 256 ∷ []) (u16 v)
unfolding u16
two_bytes_lem v h = let e : v / 256 % 256 ≡ v / 256 = omega (arith, h) in ap (λ n. v % 256 ∷ n ∷ []) e

-- the two bytes that `put_two` puts and what is put behind them, where the number is right unless these pass the longest answer
pub puts_two : (n : ℕ) (b : Bytes) {k : ℕ} {o o₁ o₂ : Output} → (o.written + 2 + length b ≤ max_sheet_bytes → (k ≡ n) × (n < 65536))
    → Puts (k % 256 ∷ k / 256 % 256 ∷ []) o o₁ → Puts b o₁ o₂ → Puts (u16 n ++ b) o o₂
unfolding u16
puts_two n b {k} h f g =
    puts_as ((k % 256 ∷ k / 256 % 256 ∷ []) ++ b) (u16 n ++ b) refl
    (λ i. let (e, small) = h (omega (arith, i)) in ap (λ t. t ++ b) (ap (λ k. k % 256 ∷ k / 256 % 256 ∷ []) e ∙ two_bytes_lem n small))
    (puts_join (k % 256 ∷ k / 256 % 256 ∷ []) b f g)

-- a buffer that they were put into from its start on
pub fills : (b : Bytes) {w : Bytes} {o o' : Output} → o.buffer.now ≡ w → o.written ≡ 0 → Puts b o o' → Fills b w o'.buffer.now o'.written
fills b {w} {o} e z h =
    record { inside = λ k. omega (arith, h.inside (omega (arith, k, z)), z); beyond = λ k. h.beyond (omega (arith, k, z)); size = h.size ∙ ap length e; written = λ k l. h.written (omega (arith, k, z)) (rw e (omega (arith, l, z))) ∙ (λ i. pasted (e i) (z i) b) }

-- the same, of an output that was made of the buffer: d is what the buffer is once the output is done with
pub filled : (b : Bytes) {w d : Bytes} {name : GName} {o o' : Output} → (o.buffer.ghost_name ≡ name) × (o.buffer.now ≡ w) × (o.written ≡ 0) → (name ≡ o'.buffer.ghost_name → d ≡ o'.buffer.now)
    → Puts b o o' → Fills b w d o'.written
filled b {w} {o' = o'} new done h = subst (λ d. Fills b w d o'.written) (sym (done (sym (h.same_buffer ∙ new.0)))) (fills b new.1 new.2 h)

-- The end of a call: the bytes were put into some buffer from its start on, for their length n, and f is the test of such a length

module _ (b : Bytes) {w w' : Bytes} {n : ℕ} (counted : Fills b w w' n) where
  -- a length beyond the longest answer has the same number as the bytes' own
  same_number : (room : ℕ) → length_number n room ≡ length_number (length b) room
  unfolding length_number choose
  same_number room = go (leb (length b) max_sheet_bytes) refl
    where
      go : (t : Bool) → leb (length b) max_sheet_bytes ≡ t → length_number n room ≡ length_number (length b) room
      go true e =
          let k : n ≡ length b = omega (arith, counted.inside (omega (arith, leb-true (length b) max_sheet_bytes e))) in
          ap (λ n. length_number n room) k
      go false e =
          let k = leb-false (length b) max_sheet_bytes e in
          choose_true _ _ _ (lt-ltb max_sheet_bytes n (counted.beyond (omega (arith, k)))) ∙ sym (choose_true _ _ _ (lt-ltb max_sheet_bytes (length b) k))

  own : (f : Result Unit Refusal) (room : ℕ) → numbered f ≡ unless_refused (length_number n room) → numbered f ≡ unless_refused (length_number (length b) room)
  own f room t = t ∙ ap unless_refused (same_number room)

  module _ (work answer : Bytes) {f : Result Unit Refusal} (tested : numbered f ≡ unless_refused (length_number n (length answer))) where
    pub put_refused : {r : Result ℕ Refusal} {x : Refusal} → f ≡ Err x → r ≡ Err x → leaves r answer work ≡ acceptance b work answer
    put_refused h e = acceptance_refused b work answer (own _ (length answer) tested) h e

    -- and then into the answer buffer
    pub put_accepted : {r : Result ℕ Refusal} {after : Bytes} {q : ℕ} → f ≡ Ok tt → Fills b answer after q → r ≡ Ok n → leaves r after work ≡ acceptance b work answer
    put_accepted h g e =
        let t = own _ (length answer) tested in
        let room = length_room b work answer t h in
        let k : n ≡ length b = omega (arith, counted.inside (omega (arith, room.0))) in
        acceptance_written b work answer t h (e ∙ ap Ok k) (g.written (omega (arith, room.0)) (omega (arith, room.1)))
