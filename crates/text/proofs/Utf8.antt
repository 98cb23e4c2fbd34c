-- UTF-8: the row of a first byte; ASCII; the answer.
use Prim.Native.Nat.{ℕ, suc, ◌+◌, ◌-◌, ◌≤◌, ◌<◌, max}
use native.Mathlib.Omega.{arith}
use mathlib.Core.Path.{◌≡◌, refl, sym, subst, ◌∙◌}
use mathlib.Core.List.{List, [], ◌∷◌}
use mathlib.Core.Bool.{Bool, true, false, ◌&&◌, and_assoc, and-true}
use lib.Dec.{T, eqb}
use borrow.Author.Tests.{eqb-true, ltb-true, ltb-false, lt-ltb, le-ltb}
use Rattle.std.specs.Prelude.{Result, Ok, Err, fold}
use Rattle.model.specs.Bytes.{Bytes, all, same}
use Rattle.model.specs.Text.{Range, rows, row_of, utf8, utf8_from}
use Rattle.model.proofs.Lists.{and_true as both_true}
use Rattle.model.proofs.Computed.{all_below, at_below}
use Rattle.model.proofs.ByteStrings.{same_eq}
use Rattle.text.specs.Text.{text_of, ascii}
use Rattle.text.specs.declared.NotUtf8.{NotUtf8}

-- The row of a first byte

abbrev same_range : Range → Range → Bool
same_range r s = eqb r.0 s.0 && eqb r.1 s.1

range_eq : (r s : Range) → same_range r s ≡ true → r ≡ s
range_eq (a, z) (b, y) h =
    let t = both_true (eqb a b) (eqb z y) h in
    let e : a ≡ b = eqb-true a b t.0 in
    let f : z ≡ y = eqb-true z y t.1 in
    cc

is_true : (t : Bool) → T t → t ≡ true
is_true true h = refl
is_true false h = absurd h

-- one row at each byte of a stretch, by a computed test at all of them
pub stretch : (rs : List Range) (low high : ℕ) → T (all_below (λ k. same same_range rs (row_of (low + k) rows)) (suc high - low))
    → (b : ℕ) → low ≤ b → b ≤ high → rs ≡ row_of b rows
stretch rs low high t b h k =
    let e : low + (b - low) ≡ b = omega arith in
    rw e at (same_eq same_range range_eq rs (row_of (low + (b - low)) rows) (is_true _ (at_below _ (suc high - low) t (b - low) (omega arith))))

-- ASCII

pub ascii_row : (b : ℕ) → b < 0x80 → [] ≡ row_of b rows
unfolding rows row_of same
ascii_row b k = stretch [] 0 0x7F tt b (omega arith) (omega arith)

pub ascii_text : (p : Bytes) → all ascii p ≡ true → utf8 p ≡ true
unfolding utf8 utf8_from all
ascii_text [] h = refl
ascii_text (b ∷ p) h =
    let t = both_true (ascii b) (all ascii p) h in
    let k : b < 0x80 = ltb-true b 0x80 t.0 in
    subst (λ rs. utf8_from rs p ≡ true) (ascii_row b k) (ascii_text p t.1)

max_ascii : (a b : ℕ) → ascii (max a b) ≡ (ascii a && ascii b)
max_ascii a b = go (ascii a) (ascii b) refl refl
  where
    go : (s t : Bool) → ascii a ≡ s → ascii b ≡ t → ascii (max a b) ≡ (s && t)
    go true true e f = lt-ltb (max a b) 0x80 (omega (arith, ltb-true a 0x80 e, ltb-true b 0x80 f))
    go true false e f = le-ltb (max a b) 0x80 (omega (arith, ltb-false b 0x80 f))
    go false t e f = le-ltb (max a b) 0x80 (omega (arith, ltb-false a 0x80 e))

-- the largest byte says it of all
pub ascii_largest : (p : Bytes) (m : ℕ) → ascii (fold (λ m b. max m b) m p) ≡ (ascii m && all ascii p)
unfolding all
ascii_largest [] m = sym (and-true (ascii m))
ascii_largest (b ∷ p) m = ascii_largest p (max m b) ∙ rw (max_ascii m b, and_assoc)

-- The answer, for whoever calls `check`

pub valid_true : (t : Bool) {r : Result Unit NotUtf8} → r ≡ text_of t → r ≡ Ok tt → t ≡ true
valid_true true e h = refl
valid_true false e h = cc

pub broken_false : (t : Bool) {r : Result Unit NotUtf8} {x : NotUtf8} → r ≡ text_of t → r ≡ Err x → t ≡ false
broken_false true e h = cc
broken_false false e h = refl
