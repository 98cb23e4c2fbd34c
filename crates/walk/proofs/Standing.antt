-- Bytes that stand at a place: their parts, and the places behind the parts.
use Prim.Native.Nat.{ℕ, ◌+◌, ◌*◌, ◌-◌, ◌≤◌}
use native.Mathlib.Omega.{arith}
use mathlib.Core.Path.{◌≡◌, refl, sym, ap, subst, ◌∙◌}
use mathlib.Core.List.{[], ◌∷◌, ◌++◌, append_assoc, append-nil}
use lib.ListN.{length, take, drop, get_or, length-append, length-drop}
use lib.Seq.{drop-drop, drop-append_seam, get_or-drop, take-append_seam}
use Rattle.model.specs.Bytes.{Bytes, num, u16}
use Rattle.walk.specs.Stands.{Stands, Skips}

-- what follows a place stands there
pub rest_stands : (s : Bytes) (place : ℕ) (b r : Bytes) → place ≤ length s → drop place s ≡ b ++ r → Stands s place b
rest_stands s place b r h e = record {
  inside = omega (arith, sym (length-drop place s) ∙ ap length e ∙ length-append b r);
  bytes = e ∙ ap (λ x. b ++ x) (sym (sym (drop-drop (length b) place s) ∙ ap (drop (length b)) e ∙ drop-append_seam b r));
}

-- a whole list stands at its beginning
pub whole_stands : (s b : Bytes) → s ≡ b → Stands s 0 b
whole_stands s b e = rest_stands s 0 b [] (omega arith) (e ∙ sym (append-nil b))

module _ {s : Bytes} {place : ℕ} where
  seam : (a b : Bytes) → Stands s place (a ++ b) → drop (place + length a) s ≡ b ++ drop (place + length (a ++ b)) s
  seam a b h =
      sym (drop-drop (length a) place s) ∙ ap (drop (length a)) (h.bytes ∙ append_assoc a b _) ∙ drop-append_seam a _

  -- the first of two parts
  pub first_stands : (a b : Bytes) → Stands s place (a ++ b) → Stands s place a
  first_stands a b h = record {
    inside = omega (arith, h.inside, length-append a b);
    bytes = h.bytes ∙ append_assoc a b _ ∙ ap (λ r. a ++ r) (sym (seam a b h));
  }

  -- the second of two parts
  pub second_stands : (a b : Bytes) → Stands s place (a ++ b) → Stands s (place + length a) b
  second_stands a b h =
      let w : place + length (a ++ b) ≡ place + length a + length b = omega (arith, length-append a b) in
      record {
        inside = omega (arith, h.inside, length-append a b);
        bytes = seam a b h ∙ ap (λ n. b ++ drop n s) w;
      }

  -- the byte that stands there
  pub byte_stands : {x : ℕ} {b : Bytes} → Stands s place (x ∷ b) → get_or s place 0 ≡ x
  byte_stands {x} h =
      let w : place ≡ place + 0 = omega arith in
      ap (λ n. get_or s n 0) w ∙ sym (get_or-drop place s 0 0) ∙ ap (λ l. get_or l 0 0) h.bytes

module _ {s : Bytes} {place : ℕ} where
  -- the number of the two bytes that stand there
  pub two_stands : (n b : Bytes) → length n ≡ 2 → Stands s place (n ++ b) → get_or s place 0 + 256 * get_or s (place + 1) 0 ≡ num n
  unfolding num
  two_stands [] b e h = absurd (omega (arith, e))
  two_stands (x ∷ []) b e h = absurd (omega (arith, e))
  two_stands (x ∷ y ∷ []) b e h =
      omega (arith, byte_stands h, byte_stands (second_stands (x ∷ []) (y ∷ b) h))
  two_stands (x ∷ y ∷ z ∷ n) b e h = absurd (omega (arith, e))

  -- the part of a slice where bytes stand
  pub taken : {end : ℕ} {b : Bytes} → Stands s place b → end ≡ place + length b → take (end - place) (drop place s) ≡ b
  taken {end} {b} st h =
      let w : end - place ≡ length b = omega (arith, h) in
      ap (λ n. take n (drop place s)) w ∙ ap (take (length b)) st.bytes ∙ take-append_seam b _

  -- nothing is skipped
  pub skip_none : Skips s place [] place
  skip_none = record { behind = λ h. omega arith }

  -- so many bytes are skipped
  pub skip_ahead : (b : Bytes) {n r : ℕ} → length b ≡ n → (place + n ≤ length s → r ≡ place + n) → Skips s place b r
  skip_ahead b {n} e f = record { behind = λ h. let k : place + n ≤ length s = omega (arith, h.inside) in omega (arith, f k) }

  -- what stands there reaches so far
  pub skip_self : {b : Bytes} → Skips s place b (place + length b)
  skip_self = record { behind = λ h. refl }

  -- with the bytes at hand
  pub skip_when : {b : Bytes} {r : ℕ} → (Stands s place b → Skips s place b r) → Skips s place b r
  skip_when f = record { behind = λ h. (f h).behind h }

  -- the second part stands behind the first
  pub stands_behind : {a b : Bytes} {m : ℕ} → Skips s place a m → Stands s place (a ++ b) → Stands s m b
  stands_behind {a} {b} p h = subst (λ n. Stands s n b) (sym (p.behind (first_stands a b h))) (second_stands a b h)

  -- one part, and then the next
  pub skip_join : {a b : Bytes} {m r : ℕ} → Skips s place a m → Skips s m b r → Skips s place (a ++ b) r
  skip_join {a} {b} p q = record {
    behind = λ h.
        omega (arith, q.behind (stands_behind p h), p.behind (first_stands a b h), length-append a b);
  }

pub num_u16 : (n : ℕ) → num (u16 n) ≡ n
unfolding num u16
num_u16 n = omega arith
