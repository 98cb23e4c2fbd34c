-- Texts and pairs of the train: their keys and values.
use Prim.Native.Nat.{ℕ, ◌+◌, ◌-◌}
use native.Mathlib.Omega.{arith}
use mathlib.Core.Path.{◌≡◌, refl, ap, ◌∙◌}
use mathlib.Core.List.{◌++◌}
use mathlib.Core.Bool.{Bool}
use lib.ListN.{length, take, drop, length-append}
use Rattle.model.specs.Bytes.{Bytes, same_bytes, below, u16}
use Rattle.model.specs.Sheet.{text_bytes, pair_bytes}
use Rattle.walk.specs.Stands.{Stands, Skips}
use Rattle.walk.proofs.Standing.{first_stands, stands_behind, skip_ahead, taken}
use Rattle.walk.proofs.Parts.{Ahead}
use Rattle.datatype.proofs.Texts.{Texts}

-- what `skip_text` ensures
abbrev pub SkipsPair : Bytes → ℕ → ℕ → Type 0
SkipsPair s place r = (p : Bytes × Bytes) → Skips s place (pair_bytes p) r

abbrev pub SkipsText : Bytes → ℕ → ℕ → Type 0
SkipsText s place r = (t : Bytes) → Skips s place (text_bytes t) r

-- a text's body stands behind its length
module _ {s : Bytes} {place body : ℕ} (a : Ahead s place 2 body) (t : Bytes) (st : Stands s place (text_bytes t)) where
  body_stands : Stands s body t
  unfolding text_bytes u16
  body_stands = stands_behind (skip_ahead (u16 (length t)) refl a.1) st

  body_ends : {r : ℕ} → SkipsText s place r → r ≡ body + length t
  unfolding text_bytes u16
  body_ends f = omega (arith, (f t).behind st, a.1 (omega (arith, st.inside)))

-- what `below_stretch` ensures
abbrev pub BelowStretches : Bytes → ℕ → ℕ → ℕ → ℕ → Bool → Type 0
BelowStretches s a e b f r = (x y : Bytes) → Stands s a x → Stands s b y → e ≡ a + length x → f ≡ b + length y → r ≡ below x y

pub below_taken : {s : Bytes} {a e b f : ℕ} {r : Bool} → r ≡ below (take (e - a) (drop a s)) (take (f - b) (drop b s)) → BelowStretches s a e b f r
below_taken {s} {b = b} {f = f} g x y p q h k = g ∙ ap (λ z. below z (take (f - b) (drop b s))) (taken p h) ∙ ap (below x) (taken q k)

-- what `key_below` and `same_value` ensure

abbrev pub KeyBelow : Bytes → ℕ → ℕ → Bool → Type 0
KeyBelow s a b r = (p q : Bytes × Bytes) → Stands s a (pair_bytes p) → Stands s b (pair_bytes q) → r ≡ below p.0 q.0

abbrev pub SameValue : Bytes → ℕ → ℕ → Bool → Type 0
SameValue s a b r = (p q : Bytes × Bytes) → Stands s a (pair_bytes p) → Stands s b (pair_bytes q) → r ≡ same_bytes p.1 q.1

key_stands : {s : Bytes} {a : ℕ} (p : Bytes × Bytes) → Stands s a (pair_bytes p) → Stands s a (text_bytes p.0)
unfolding pair_bytes
key_stands p st = first_stands (text_bytes p.0) (text_bytes p.1) st

value_stands : {s : Bytes} {a e : ℕ} → SkipsText s a e → (p : Bytes × Bytes) → Stands s a (pair_bytes p) → Stands s e (text_bytes p.1)
unfolding pair_bytes
value_stands f p st = stands_behind (f p.0) st

module _ {s : Bytes} {a b body other e f : ℕ} {r : Bool} (u : Ahead s a 2 body) (v : Ahead s b 2 other) (i : SkipsText s a e) (j : SkipsText s b f) where
  pub key_below : BelowStretches s body e other f r → KeyBelow s a b r
  key_below k p q st st2 =
      let p0 = key_stands p st in
      let q0 = key_stands q st2 in
      k p.0 q.0 (body_stands u p.0 p0) (body_stands v q.0 q0) (body_ends u p.0 p0 i) (body_ends v q.0 q0 j)

pub same_value : {s : Bytes} {a b e f : ℕ} {r : Bool} → SkipsText s a e → SkipsText s b f → Texts s e s f r → SameValue s a b r
same_value i j k p q st st2 = k p.1 q.1 (value_stands i p st) (value_stands j q st2)

-- a pair has at least its two lengths
pub pair_long : (p : Bytes × Bytes) → 4 + length p.0 + length p.1 ≡ length (pair_bytes p)
unfolding pair_bytes text_bytes u16
pair_long p = sym_long p.0 p.1
  where
    sym_long : (k v : Bytes) → 4 + length k + length v ≡ length (text_bytes k ++ text_bytes v)
    sym_long k v = omega (arith, length-append (text_bytes k) (text_bytes v))
