-- Keys and values: the reading that keeps the key before is the definition's, which keeps every pair.
use Prim.Native.Nat.{ℕ, zero, suc, ◌+◌, ◌-◌, ◌<◌, ◌≤◌}
use native.Mathlib.Omega.{arith}
use mathlib.Core.Path.{◌≡◌, refl, sym, ap, subst, ◌∙◌}
use mathlib.Core.List.{List, [], ◌∷◌}
use mathlib.Core.Bool.{Bool, true, false}
use lib.ListN.{length, take, drop}
use Rattle.model.specs.Bytes.{Bytes, Metadata, below}
use Rattle.model.specs.Read as read
use Rattle.model.specs.Read.{got, bad, next, judged, unless, above, read_text, read_pair, read_many}
use Rattle.model.proofs.Steps.{Holds, of_got}
use Rattle.model.proofs.Items.{TextRoom, text_room}
use Rattle.std.specs.Prelude.{Option, Some, None, Ok, Err}
use Rattle.sheet.specs.Answers.{Step, step_of}
use Rattle.sheet.specs.Keys.{part, is_above, read_key, read_pairs}
use Rattle.sheet.proofs.Ways.{step_is, step_no, step_made, next_next, next_alike}

-- a string that was read, as its answer shows it
pub record TextGot (s : Bytes) (lim least at e : ℕ) : Type 0 where
  pub begins : at + 2 ≤ e
  pub inside : e ≤ length s
  pub reads : read_text s lim least at ≡ got (take (e - (at + 2)) (drop (at + 2) s)) e

pub text_got : (s : Bytes) (lim least at e : ℕ) (i : Step) → i ≡ step_of (read_text s lim least at) → i ≡ Ok e → TextGot s lim least at e
text_got s lim least at e i p q =
    let (t, h) = step_is (read_text s lim least at) p q in
    let r : TextRoom s at t e = of_got (subst (Holds (TextRoom s at)) h (text_room s lim least at)) in
    record { begins = r.begins; inside = r.inside; reads = h ∙ ap (λ t. got t e) r.body }

module _ (s : Bytes) (lim at : ℕ) (i : Step) (p : i ≡ step_of (read_text s lim 0 at)) where
  pub key_stop : (before : Option Bytes) (k q : ℕ) → i ≡ Err (k, q) → i ≡ step_of (read_key s lim before at)
  unfolding read_key next
  key_stop before k q h = rw (step_no (read_text s lim 0 at) p h) h

  module _ (e : ℕ) (q : i ≡ Ok e) where
    pub key_first : (before : Option Bytes) → before ≡ None → Ok e ≡ step_of (read_key s lim before at)
    unfolding read_key is_above next judged unless
    key_first before h = rw ((text_got s lim 0 at e i p q).reads, h)

    module _ (before : Option Bytes) {b : Bytes} (f : before ≡ Some b) (d : Bool) (c : d ≡ below b (take (e - (at + 2)) (drop (at + 2) s))) where
      pub key_above : d ≡ true → Ok e ≡ step_of (read_key s lim before at)
      unfolding read_key is_above next judged unless
      key_above h = rw ((text_got s lim 0 at e i p q).reads, f, sym c ∙ h)

      pub key_not : d ≡ false → Err (4, at) ≡ step_of (read_key s lim before at)
      unfolding read_key is_above next judged unless
      key_not h = rw ((text_got s lim 0 at e i p q).reads, f, sym c ∙ h)

-- a key that was read stands behind its length
pub record KeyGot (s : Bytes) (lim : ℕ) (before : Option Bytes) (at e : ℕ) : Type 0 where
  pub begins : at + 2 ≤ e
  pub inside : e ≤ length s
  pub reads : read_key s lim before at ≡ got (part s (at + 2) (e - (at + 2))) e

judged_inv : {A : Type 0} (n place : ℕ) (a : A) (e : ℕ) {b : A} {f : ℕ} → judged n place a e ≡ got b f → judged n place a e ≡ got a e
unfolding judged
judged_inv zero place a e h = refl
judged_inv (suc n) place a e h = let z : ◌≡◌ {A = ℕ} 0 1 = cc in absurd (omega arith)

pub key_got : (s : Bytes) (lim : ℕ) (before : Option Bytes) (at e : ℕ) (i : Step) → i ≡ step_of (read_key s lim before at) → i ≡ Ok e → KeyGot s lim before at e
unfolding read_key next
key_got s lim before at e i p q = go (read_text s lim 0 at) refl (step_is (read_key s lim before at) p q).1
  where
    go : (g : read.Step Bytes) → read_text s lim 0 at ≡ g
        → next g (λ k m. judged (unless (is_above before k) 4) at k m) ≡ got (step_is (read_key s lim before at) p q).0 e → KeyGot s lim before at e
    go (bad n j) h w = let z : ◌≡◌ {A = ℕ} 0 1 = cc in absurd (omega arith)
    go (got t m) h w =
        let v = judged_inv (unless (is_above before t) 4) at t m w in
        let me : m ≡ e = let z = sym v ∙ w in cc in
        let r : TextRoom s at t m = of_got (subst (Holds (TextRoom s at)) h (text_room s lim 0 at)) in
        record {
          begins = omega (arith, r.begins, me);
          inside = omega (arith, r.inside, me);
          reads = ap (λ g. next g (λ k m. judged (unless (is_above before k) 4) at k m)) h ∙ v ∙ ap (λ t. got t m) r.body ∙ ap (λ m. got (part s (at + 2) (m - (at + 2))) m) me;
        }

-- The same answers, with every pair kept or only the key before

pairs_law : (s : Bytes) (lim : ℕ) (seen : Metadata) (before : Option Bytes) → ((k : Bytes) → above seen k ≡ is_above before k)
    → (n at : ℕ) → step_of (read_pairs s lim before n at) ≡ step_of (read_many n (read_pair s lim) seen at)
unfolding read_pairs read_many read_key read_pair is_above next
pairs_law s lim seen before h zero at = refl
pairs_law s lim seen before h (suc n) at =
    ap step_of (next_next (read_text s lim 0 at) _ _)
    ∙ next_alike (read_text s lim 0 at) _ _ (λ k m.
    ap (λ t. step_of (next (judged (unless t 4) at k m) (λ k m. next (read_text s lim 0 m) (λ v e. read_pairs s lim (Some k) n e)))) (sym (h k))
    ∙ next_alike (judged (unless (above seen k) 4) at k m) _ _ (λ k m. next_alike (read_text s lim 0 m) _ _ (λ v e.
    pairs_law s lim ((k, v) ∷ seen) (Some k) (λ j. refl) n e ∙ sym (step_made (λ r. (k, v) ∷ r) (read_many n (read_pair s lim) ((k, v) ∷ seen) e))))
    ∙ ap step_of (sym (next_next (judged (unless (above seen k) 4) at k m) _ _ ∙ ap (next (judged (unless (above seen k) 4) at k m)) (λ i k m. next_next (read_text s lim 0 m) (λ v e. got (k, v) e) (rest) i))))
    ∙ ap step_of (sym (next_next (read_text s lim 0 at) _ _))
  where
    rest : Bytes × Bytes → ℕ → read.Step Metadata
    rest a e = next (read_many n (read_pair s lim) (a ∷ seen) e) (λ r e. got (a ∷ r) e)

pub pairs_begin : (s : Bytes) (lim n at : ℕ) → step_of (read_pairs s lim None n at) ≡ step_of (read_many n (read_pair s lim) [] at)
unfolding is_above
pairs_begin s lim n at = pairs_law s lim [] None (λ k. refl) n at

-- A turn over keys and values

turn : (s : Bytes) (lim : ℕ) (before : Option Bytes) (n at : ℕ) → 0 < n
    → read_pairs s lim before n at ≡ next (read_key s lim before at) (λ k m. next (read_text s lim 0 m) (λ v e. read_pairs s lim (Some k) (n - 1) e))
unfolding read_pairs
turn s lim before zero at h = absurd (omega (arith, h))
turn s lim before (suc n) at h =
    let w : suc n - 1 ≡ n = omega arith in
    ap (λ m. next (read_key s lim before at) (λ k p. next (read_text s lim 0 p) (λ v e. read_pairs s lim (Some k) m e))) (sym w)

module _ (s : Bytes) (lim : ℕ) (before : Option Bytes) (place left : ℕ) (whole : Step) (inv : step_of (read_pairs s lim before left place) ≡ whole) where
  abbrev after : Bytes → ℕ → read.Step (List Bytes)
  after k m = next (read_text s lim 0 m) (λ v e. read_pairs s lim (Some k) (left - 1) e)

  pub pairs_done : left ≤ 0 → Ok place ≡ whole
  unfolding read_pairs
  pairs_done h = let z : left ≡ 0 = omega (arith, h) in ap (λ n. step_of (read_pairs s lim before n place)) (sym z) ∙ inv

  module _ (more : 0 < left) (i : Step) (p : i ≡ step_of (read_key s lim before place)) where
    pub pairs_key_stop : (k q : ℕ) → i ≡ Err (k, q) → i ≡ whole
    unfolding next
    pairs_key_stop k q h = h ∙ ap step_of (sym (turn s lim before left place more ∙ ap (λ g. next g after) (step_no (read_key s lim before place) p h))) ∙ inv

    module _ (m : ℕ) (q : i ≡ Ok m) (j : Step) (t : j ≡ step_of (read_text s lim 0 m)) where
      key_then : step_of (next (read_text s lim 0 m) (λ v e. read_pairs s lim (Some (part s (place + 2) (m - (place + 2)))) (left - 1) e)) ≡ whole
      unfolding next
      key_then = ap step_of (sym (turn s lim before left place more ∙ ap (λ g. next g after) (key_got s lim before place m i p q).reads)) ∙ inv

      abbrev last : Bytes → ℕ → read.Step (List Bytes)
      last v e = read_pairs s lim (Some (part s (place + 2) (m - (place + 2)))) (left - 1) e

      pub pairs_value_stop : (k r : ℕ) → j ≡ Err (k, r) → j ≡ whole
      unfolding next
      pairs_value_stop k r h = h ∙ ap (λ g. step_of (next g last)) (sym (step_no (read_text s lim 0 m) t h)) ∙ key_then

      pub pairs_again : (e : ℕ) → j ≡ Ok e → step_of (read_pairs s lim (Some (part s (place + 2) (m - (place + 2)))) (left - 1) e) ≡ whole
      unfolding next
      pairs_again e h = ap (λ g. step_of (next g last)) (sym (step_is (read_text s lim 0 m) t h).1) ∙ key_then
