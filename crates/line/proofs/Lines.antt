-- The line, piece by piece: a number's digits, bytes in hex, the answer or `-`, and all of them one behind the other.
use Prim.Native.Nat.{ℕ, ◌+◌, ◌/◌, ◌%◌, ◌^◌, ◌<◌}
use native.Mathlib.Omega.{arith}
use mathlib.Core.Path.{◌≡◌, refl, sym, ap, ◌∙◌}
use mathlib.Core.List.{[], ◌∷◌, ◌++◌}
use lib.Dec.{eqb, eqb→eq}
use lib.ListN.{length, take, get_or}
use Rattle.std.proofs.lemmas.List.{take_more}
use borrow.Author.Tests.{lt-ltb, le-ltb, eq-eqb, ne_eqb}
use Rattle.std.specs.Fmt.{decimal as text}
use Rattle.std.proofs.lemmas.Fmt.{decimal_from_appends, length-decimal-le}
use Rattle.hex.specs.Hex.{lower_digits, encode_with, encode_lower}
use Rattle.model.specs.Numbers.{accepted}
use Rattle.model.specs.Bytes.{Bytes, AreBytes, choose}
use Rattle.model.specs.Sheet.{each}
use Rattle.model.specs.Program.{space, minus, line_feed, decimal_of, decimal, hex_digit, hex_byte, hex_or_minus, line_of}
use Rattle.model.proofs.Lists.{each_append}
use Rattle.model.proofs.Computed.{at_below}
use Rattle.buffer.specs.declared.Outcome.{Outcome}
use Rattle.buffer.specs.declared.Output.{Output}
use Rattle.buffer.specs.Puts.{Puts}
use Rattle.buffer.proofs.Puts.{puts_same, puts_join}
use Rattle.line.specs.Exits.{exit_of}

-- Digits: the library's are those of the definitions

pub decimal_text : (n : ℕ) → n < 2 ^ 64 → text n ≡ decimal n
unfolding decimal decimal_of choose
decimal_text n h =
    sym (decimal_from_appends decimal_of (record { one = λ k n h. rw (lt-ltb n 10 h); more = λ k n h. rw (le-ltb n 10 h) }) 20 n h (length-decimal-le 20 n (omega arith) (omega arith) h))

hex_text_digit : (d : ℕ) → d < 16 → get_or lower_digits d 0 ≡ hex_digit d
unfolding hex_digit choose
hex_text_digit d h = eqb→eq _ _ (at_below (λ d. eqb (get_or lower_digits d 0) (hex_digit d)) 16 tt d h)

hex_text : (b : ℕ) → b < 256 → encode_lower (b ∷ []) ≡ hex_byte b
unfolding encode_with hex_byte
hex_text b h = rw (hex_text_digit (b / 16) (omega (arith, h)), hex_text_digit (b % 16) (omega arith)) refl

-- The digits of bytes, one byte after the other

-- those of a byte more: `written` is what the library says of them
pub hex_again : (s : Bytes) (i : ℕ) (digits : Bytes) {o o₁ o₂ : Output} → AreBytes s → i < length s → Puts (each hex_byte (take i s)) o o₁
    → digits ≡ encode_lower (get_or s i 0 ∷ []) → Puts digits o₁ o₂ → Puts (each hex_byte (take (i + 1) s)) o o₂
unfolding hex_byte
hex_again s i digits byte h f written g =
    let b = get_or s i 0 in
    puts_same (sym (ap (each hex_byte) (take_more s i 0 h) ∙ each_append hex_byte (take i s) (b ∷ [])))
    (puts_join (each hex_byte (take i s)) (hex_byte b) f (puts_same (written ∙ hex_text b (byte i)) g))

-- The answer, of a call that left this answer buffer

module _ (o : Outcome) (answer work : Bytes) {p q : Output} where
  pub answer_refused : (o.number ≡ accepted → ⊥) → Puts (minus ∷ []) p q → Puts (hex_or_minus (exit_of o answer work)) p q
  unfolding hex_or_minus exit_of choose
  answer_refused h f = rw (ne_eqb o.number accepted h) f

  pub answer_part : o.number ≡ accepted → Puts (each hex_byte (take o.length answer)) p q → Puts (hex_or_minus (exit_of o answer work)) p q
  unfolding hex_or_minus exit_of choose
  answer_part h f = rw (eq-eqb o.number accepted h) f

-- The line

pub line_put : (o : Outcome) (answer work : Bytes) {o₀ o₁ o₂ o₃ o₄ o₅ o₆ : Output}
    → Puts (decimal o.number) o₀ o₁ → Puts (space ∷ []) o₁ o₂
    → Puts (decimal o.place) o₂ o₃ → Puts (space ∷ []) o₃ o₄
    → Puts (hex_or_minus (exit_of o answer work)) o₄ o₅ → Puts (line_feed ∷ []) o₅ o₆
    → Puts (line_of (exit_of o answer work)) o₀ o₆
unfolding line_of exit_of
line_put o answer work f₁ f₂ f₃ f₄ f₅ f₆ =
    let shown = hex_or_minus (exit_of o answer work) in
    let behind = shown ++ (line_feed ∷ []) in
    let second = decimal o.place ++ (space ∷ behind) in
    puts_join (decimal o.number) (space ∷ second) f₁
    (puts_join (space ∷ []) second f₂
    (puts_join (decimal o.place) (space ∷ behind) f₃
    (puts_join (space ∷ []) behind f₄
    (puts_join shown (line_feed ∷ []) f₅ f₆))))
