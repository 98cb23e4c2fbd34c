-- A buffer that is written over: its length, nothing written, one stretch behind another, a store, a turn of a copying loop.
use mathlib.Core.Path.{◌≡◌, refl, sym, ap, ◌∙◌}
use mathlib.Core.List.{[], ◌∷◌, ◌++◌, append_assoc}
use Prim.Native.Nat.{ℕ, ◌+◌, ◌≤◌, ◌<◌}
use native.Mathlib.Nat.{add-zero, add_assoc, zero-add}
use native.Mathlib.Numerals.{add-one}
use native.Mathlib.Omega.{arith}
use lib.ListN.{length, take, drop, get_or, set, length-append, length-take, length-drop, take-append-drop}
use lib.Seq.{length-take-le, take-suc, set_split, take_at, drop_at, drop-drop}
use Rattle.model.specs.Bytes.{Bytes}
use Rattle.buffer.specs.Buffer.{pasted}

pub length_pasted : (d : Bytes) (i : ℕ) (s : Bytes) → i + length s ≤ length d → length (pasted d i s) ≡ length d
unfolding pasted
length_pasted d i s h = simp (length-append, length-take, length-drop) (omega arith)

pub pasted_nil : (d : Bytes) (i : ℕ) → pasted d i [] ≡ d
unfolding pasted
pasted_nil d i = rw add-zero (take-append-drop i d)

-- at the start: what an accepted call does to its answer buffer
pub pasted_zero : (d s : Bytes) → pasted d 0 s ≡ s ++ drop (length s) d
unfolding pasted
pasted_zero d s = rw zero-add

-- one stretch behind another is one stretch; j is where the first one ends
pub pasted_join : (d : Bytes) (i : ℕ) (s t : Bytes) (j : ℕ) → i + length s ≡ j → i ≤ length d → pasted (pasted d i s) j t ≡ pasted d i (s ++ t)
unfolding pasted
pasted_join d i s t j e h =
    let l : length (take i d ++ s) ≡ j = simp (length-append, length-take-le i d h) e in
    rw (← append_assoc (take i d) s, take_at (take i d ++ s) _ j l, e, ← drop-drop (length t) j, drop_at (take i d ++ s) _ j l, drop-drop, length-append, ← add_assoc, e)
    (simp append_assoc)

-- one stretch before another, up to it, is one stretch
pub pasted_front : (d s t : Bytes) (i : ℕ) → length s ≡ i → i ≤ length d → pasted (pasted d i t) 0 s ≡ pasted d 0 (s ++ t)
unfolding pasted
pasted_front d s t i e h =
    let n : i + length t ≡ length (s ++ t) = omega (arith, e, length-append s t) in
    pasted_zero (pasted d i t) s
    ∙ ap (λ r. s ++ r) (drop_at (take i d) (t ++ drop (i + length t) d) (length s) (length-take-le i d h ∙ sym e))
    ∙ sym (append_assoc s t (drop (i + length t) d))
    ∙ ap (λ n. (s ++ t) ++ drop n d) n
    ∙ sym (pasted_zero d (s ++ t))

-- what was written at the start stands there
pub take_pasted : (d s : Bytes) (n : ℕ) → n ≡ length s → take n (pasted d 0 s) ≡ s
take_pasted d s n e = ap (take n) (pasted_zero d s) ∙ take_at s (drop (length s) d) n (sym e)

-- one store
pub pasted_byte : (d : Bytes) (i v : ℕ) → i < length d → set d i v ≡ pasted d i (v ∷ [])
unfolding pasted
pasted_byte d i v h = rw (set_split d i v h, add-one)

-- a store behind what was written
pub pasted_snoc : (d : Bytes) (i : ℕ) (s : Bytes) (v j : ℕ) → i + length s ≡ j → j < length d → set (pasted d i s) j v ≡ pasted d i (s ++ (v ∷ []))
pasted_snoc d i s v j e h =
    pasted_byte (pasted d i s) j v (rw (length_pasted d i s (omega arith)) h)
    ∙ pasted_join d i s (v ∷ []) j e (omega arith)

-- one store, and two, for a stretch that is as long
pub pasted_one : (d : Bytes) (i : ℕ) (s : Bytes) → 1 ≤ length s → length s < 2 → i + length s ≤ length d → set d i (get_or s 0 0) ≡ pasted d i s
pasted_one d i [] h k l = absurd (omega (arith, h))
pasted_one d i (a ∷ []) h k l = pasted_byte d i a (omega (arith, l))
pasted_one d i (a ∷ b ∷ s) h k l = absurd (omega (arith, k))

pub pasted_two : (d : Bytes) (i : ℕ) (s : Bytes) → 2 ≤ length s → length s < 3 → i + length s ≤ length d
    → set (set d i (get_or s 0 0)) (i + 1) (get_or s 1 0) ≡ pasted d i s
pasted_two d i [] h k l = absurd (omega (arith, h))
pasted_two d i (a ∷ []) h k l = absurd (omega (arith, h))
pasted_two d i (a ∷ b ∷ []) h k l =
    ap (λ w. set w (i + 1) b) (pasted_byte d i a (omega (arith, l))) ∙ pasted_snoc d i (a ∷ []) b (i + 1) refl (omega (arith, l))
pasted_two d i (a ∷ b ∷ c ∷ s) h k l = absurd (omega (arith, k))

-- a turn of a loop that writes s over d from i: w is the buffer before, j elements are written
pub copy_turn : (d : Bytes) (i : ℕ) (s : Bytes) (j : ℕ) (w : Bytes) → w ≡ pasted d i (take j s) → j < length s → i + length s ≤ length d
    → set w (i + j) (get_or s j 0) ≡ pasted d i (take (j + 1) s)
copy_turn d i s j w e h k =
    let hj : i + length (take j s) ≡ i + j = simp length-take (omega arith) in
    rw (e, add-one, take-suc s j 0) (pasted_snoc d i (take j s) (get_or s j 0) (i + j) hj (omega arith))
