-- Equality of byte strings, eight bytes at a time and from the end.
use Prim.Native.Nat.{ℕ, zero, suc, ◌+◌, ◌-◌, ◌≤◌, ◌<◌}
use Prim.{Dec, yes, no}
use native.Mathlib.Omega.{arith}
use native.Mathlib.Nat.{add_assoc}
use native.Mathlib.Numerals.{add-one}
use native.Mathlib.Decide.{dec_lt}
use mathlib.Core.Path.{◌≡◌, refl, sym, ap, ◌∙◌}
use mathlib.Core.List.{[], ◌∷◌}
use mathlib.Core.Bool.{Bool, true, false, false≢true}
use lib.ListN.{length, take, drop, get_or, length-take, length-drop, get_or-eq_default}
use lib.Seq.{drop-cons, drop-drop, get_or-take, get_or-drop, take_all}
use borrow.Author.Tests.{eq-eqb}
use Rattle.std.specs.Prelude.{reverse}
use Rattle.std.specs.Int.{w64, from_le_bytes}
use Rattle.std.proofs.lemmas.List.{reverse-reverse}
use Rattle.std.proofs.lemmas.Nat.{le_bytes_8}
use Rattle.model.specs.Bytes.{Bytes, AreBytes, num, same, same_bytes}
use Rattle.model.proofs.ByteStrings.{same_bytes_refl, differ_same_bytes}

-- eight bytes, written out
eight : (l : Bytes) (i : ℕ) → i + 8 ≤ length l
    → take 8 (drop i l) ≡ get_or l i 0 ∷ get_or l (i + 1) 0 ∷ get_or l (i + 2) 0 ∷ get_or l (i + 3) 0 ∷ get_or l (i + 4) 0 ∷ get_or l (i + 5) 0 ∷ get_or l (i + 6) 0 ∷ get_or l (i + 7) 0 ∷ []
eight l i h =
    let s : (k : ℕ) → k < 8 → drop (i + k) l ≡ get_or l (i + k) 0 ∷ drop (i + (k + 1)) l =
    (λ k hk. drop-cons l (i + k) 0 (omega arith) ∙ rw (← add-one (i + k), add_assoc)) in
    let z : i + 0 ≡ i = omega arith in
    let s₀ : drop i l ≡ get_or l i 0 ∷ drop (i + 1) l = rw z at (s 0 (omega arith)) in
    rw (s₀, s 1 (omega arith), s 2 (omega arith), s 3 (omega arith), s 4 (omega arith), s 5 (omega arith), s 6 (omega arith), s 7 (omega arith))

-- the library's number of eight bytes
pub num_eight : (l : Bytes) (i : ℕ) → i + 8 ≤ length l → from_le_bytes w64 (take 8 (drop i l)) ≡ num (take 8 (drop i l))
unfolding num
num_eight l i h = rw (eight l i h) (omega arith)

part_bytes : (x : Bytes) (i : ℕ) → AreBytes x → AreBytes (take 8 (drop i x))
part_bytes x i h k = go (dec_lt k 8)
  where
    go : Dec (k < 8) → get_or (take 8 (drop i x)) k 0 < 256
    go (yes p) = rw (get_or-take 8 (drop i x) k 0 p, get_or-drop) (h (i + k))
    go (no p) = rw (get_or-eq_default (take 8 (drop i x)) 0 {n = k} (simp length-take (omega arith))) (omega arith)

-- beyond so many bytes that are equal, the rest decides
same_beyond : (n : ℕ) (a b : Bytes) → take n a ≡ take n b → same_bytes (drop n a) (drop n b) ≡ same_bytes a b
unfolding same
same_beyond zero a b e = refl
same_beyond (suc n) [] [] e = refl
same_beyond (suc n) [] (y ∷ b) e = cc
same_beyond (suc n) (x ∷ a) [] e = cc
same_beyond (suc n) (x ∷ a) (y ∷ b) e =
    let h : x ≡ y = cc in
    let t : take n a ≡ take n b = cc in
    rw (eq-eqb x y h) (same_beyond n a b t)

module _ (a b : Bytes) (l : length a ≡ length b) (i : ℕ) (h : i + 8 ≤ length a) where
  word_told : AreBytes a → AreBytes b → num (take 8 (drop i a)) ≡ num (take 8 (drop i b)) → take 8 (drop i a) ≡ take 8 (drop i b)
  word_told ha hb e =
      let k : i + 8 ≤ length b = omega arith in
      sym (le_bytes_8 (take 8 (drop i a)) _ (simp (length-take, length-drop) (omega arith)) (part_bytes a i ha) (sym (num_eight a i h)))
      ∙ le_bytes_8 (take 8 (drop i b)) _ (simp (length-take, length-drop) (omega arith)) (part_bytes b i hb) (e ∙ sym (num_eight b i k))

  -- past eight bytes of one number
  pub word_next : AreBytes a → AreBytes b → num (take 8 (drop i a)) ≡ num (take 8 (drop i b)) → same_bytes (drop (i + 8) a) (drop (i + 8) b) ≡ same_bytes (drop i a) (drop i b)
  word_next ha hb e = rw (← drop-drop 8 i a, ← drop-drop 8 i b) (same_beyond 8 (drop i a) (drop i b) (word_told ha hb e))

  -- the last eight
  pub word_last : AreBytes a → AreBytes b → length a ≡ i + 8 → num (take 8 (drop i a)) ≡ num (take 8 (drop i b)) → drop i a ≡ drop i b
  word_last ha hb k e =
      sym (take_all 8 (drop i a) (simp length-drop (omega arith))) ∙ word_told ha hb e ∙ take_all 8 (drop i b) (simp length-drop (omega arith))

-- eight bytes of other numbers
pub word_differs : (a b : Bytes) (i : ℕ) → (num (take 8 (drop i a)) ≡ num (take 8 (drop i b)) → ⊥) → same_bytes a b ≡ false
word_differs a b i h = differ_same_bytes a b λ e. h (ap (λ (x : Bytes). num (take 8 (drop i x))) e)

-- what is left is equal, where it lies within the last bytes, which are equal
pub word_end : (a b : Bytes) (i last : ℕ) → last ≤ i → drop last a ≡ drop last b → same_bytes (drop i a) (drop i b) ≡ same_bytes a b → true ≡ same_bytes a b
word_end a b i last h e f =
    let m : last + (i - last) ≡ i = omega arith in
    let g : drop i a ≡ drop i b = rw (← m, ← drop-drop (i - last) last a, ← drop-drop (i - last) last b, e) in
    sym (same_bytes_refl (drop i b)) ∙ ap (λ z. same_bytes z (drop i b)) (sym g) ∙ f

-- From the end: a test that is true of equal byte strings, and of none that differ when read from there
pub told_from_end : (r : Bool) (a b : Bytes) → (a ≡ b → r ≡ true) → (r ≡ true → reverse a ≡ reverse b) → r ≡ same_bytes a b
told_from_end true a b h k =
    let e : a ≡ b = sym (reverse-reverse a) ∙ ap reverse (k refl) ∙ reverse-reverse b in
    sym (rw e (same_bytes_refl b))
told_from_end false a b h k = sym (differ_same_bytes a b λ e. false≢true (h e))
