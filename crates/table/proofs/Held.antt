-- What is in use of the work buffer, read and edited: a stretch between what stands before and behind it.
use mathlib.Core.Path.{◌≡◌, sym, ap, ◌∙◌}
use mathlib.Core.List.{[], ◌++◌, append_assoc, append-nil}
use Prim.Native.Nat.{ℕ, ◌+◌, ◌-◌, ◌≤◌}
use native.Mathlib.Omega.{arith}
use lib.ListN.{length, take, drop, length-append, length-drop, take-append-drop}
use lib.Seq.{paste, take_at, drop_at, length-take-le, take-append-le, take-take, take-add, drop-drop}
use borrow.Rule.Slice.PartMut.{mid_of, put_mid}
use Rattle.std.specs.List.{copy_within}
use Rattle.std.proofs.lemmas.List.{take_all, drop_all}
use Rattle.model.specs.Bytes.{Bytes}
use Rattle.walk.specs.Stands.{Stands}
use Rattle.walk.proofs.Standing.{rest_stands}
use Rattle.table.specs.Held.{Held}

held_from : (w x v z d : Bytes) (u : ℕ) → w ≡ (x ++ (v ++ z)) ++ d → length (x ++ (v ++ z)) ≡ u → Held w u x v z
held_from w x v z d u e h = record {
  fits = omega (arith, ap length e, length-append (x ++ (v ++ z)) d, h);
  is = rw e (take_at (x ++ (v ++ z)) d u h);
}

module _ {w : Bytes} {used : ℕ} {x y z : Bytes} (h : Held w used x y z) where
  pub held_all : w ≡ x ++ (y ++ (z ++ drop used w))
  held_all = sym (take-append-drop used w) ∙ ap (λ t. t ++ drop used w) h.is ∙ simp append_assoc

  pub held_length : length x + length y + length z ≡ used
  held_length =
      let n = length-append x (y ++ z) in
      let m = length-append y z in
      omega (arith, n, m, ap length h.is, length-take-le used w h.fits)

  -- the stretch stands in the buffer
  pub held_stands : {p : ℕ} → p ≡ length x → Stands w p y
  held_stands {p} e = rest_stands w p y (z ++ drop used w) (omega (arith, e, held_length, h.fits)) (ap (drop p) held_all ∙ drop_at x _ p (sym e))

  pub held_overwritten : {p : ℕ} (v : Bytes) {after : Bytes} → p ≡ length x → length y ≡ length v → after ≡ paste w p v (length v) → Held after used x v z
  held_overwritten {p} v {after} hx hy e =
      let d = drop used w in
      let a : take p w ≡ x = ap (take p) held_all ∙ take_at x (y ++ (z ++ d)) p (sym hx) in
      let w1 : w ≡ (x ++ y) ++ (z ++ d) = held_all ∙ sym (append_assoc x y (z ++ d)) in
      let b : drop (p + length v) w ≡ z ++ d = ap (drop (p + length v)) w1 ∙ drop_at (x ++ y) (z ++ d) (p + length v) (omega (arith, length-append x y, hx, hy)) in
      held_from after x v z d used (e ∙ rw (a, b, take_all (length v) v (omega arith)) (simp append_assoc)) (omega (arith, length-append x (v ++ z), length-append v z, held_length, hy))

  -- seen from afar, or nearer
  pub held_as : {x' y' z' : Bytes} → x ++ (y ++ z) ≡ x' ++ (y' ++ z') → Held w used x' y' z'
  held_as e = record { fits = h.fits; is = h.is ∙ e }

-- the bytes from p on, moved on by d in the part of the buffer that begins there
pub moved_on : (w : Bytes) (p k d n : ℕ) {part : Bytes} → length w ≡ p + k → part ≡ copy_within (mid_of p k w) 0 n d → put_mid p k w part ≡ paste w (p + d) (drop p w) n
moved_on w p k d n {part} h e =
    let long = length-drop p w in
    let whole : mid_of p k w ≡ drop p w = take_all k (drop p w) (omega arith) in
    let all : n - 0 ≡ n = omega arith in
    let none : drop k (drop p w) ≡ [] = drop_all k (drop p w) (omega arith) in
    let moved : part ++ drop k (drop p w) ≡ paste (drop p w) d (drop p w) n = rw none (append-nil part ∙ e ∙ ap (paste (mid_of p k w) d (mid_of p k w)) all ∙ ap (λ t. paste t d t n) whole) in
    let behind : drop (d + n) (drop p w) ≡ drop (p + d + n) w = drop-drop (d + n) p w ∙ ap (λ m. drop m w) (omega arith) in
    ap (λ t. take p w ++ t) moved ∙ rw (behind, take-add p d w) (simp append_assoc)

take_front : (p n : ℕ) (w r : Bytes) → p ≤ n → length (take n w) ≡ n → take p (take n w ++ r) ≡ take p w
take_front p n w r h e = let i : p ≤ length (take n w) = omega (arith, h, e) in take-append-le p (take n w) r i ∙ take-take p n w h

module _ {w : Bytes} {used : ℕ} {x z : Bytes} (h : Held w used x [] z) where
  -- bytes put in between, after what stands behind was moved on
  pub held_inserted : {p : ℕ} (v : Bytes) {moved after : Bytes} → p ≡ length x → used + length v ≤ length w
      → moved ≡ paste w (p + length v) (drop p w) (used - p) → after ≡ paste moved p v (length v) → Held after (used + length v) x v z
  held_inserted {p} v {moved} {after} hx room m e =
      let d = drop used w in
      let n = held_length h in
      let w1 : w ≡ x ++ (z ++ d) = held_all h in
      let back : drop p w ≡ z ++ d = ap (drop p) w1 ∙ drop_at x (z ++ d) p (sym hx) in
      let b : take (used - p) (drop p w) ≡ z = ap (take (used - p)) back ∙ take_at z d (used - p) (omega (arith, n, hx)) in
      let k : length (take (p + length v) w) ≡ p + length v = length-take-le (p + length v) w (omega (arith, room, n, hx)) in
      let behind = drop (p + length v + (used - p)) w in
      let m2 : moved ≡ take (p + length v) w ++ (take (used - p) (drop p w) ++ behind) = m ∙ append_assoc (take (p + length v) w) (take (used - p) (drop p w)) behind in
      let a : take p moved ≡ x = ap (take p) m2 ∙ take_front p (p + length v) w _ (omega arith) k ∙ ap (take p) w1 ∙ take_at x (z ++ d) p (sym hx) in
      let c : drop (p + length v) moved ≡ z ++ behind = ap (drop (p + length v)) m2 ∙ drop_at (take (p + length v) w) _ (p + length v) k ∙ ap (λ t. t ++ behind) b in
      held_from after x v z behind (used + length v) (e ∙ rw (a, c, take_all (length v) v (omega arith)) (simp append_assoc))
      (omega (arith, length-append x (v ++ z), length-append v z, n))
