-- The name of a column: the names of the fields above, each with the separator behind it, then the field's own.
use Prim.Native.Nat.{ℕ, ◌+◌, ◌/◌, ◌%◌, ◌<◌}
use native.Mathlib.Omega.{arith}
use native.Mathlib.Numerals.{add-one}
use mathlib.Core.Path.{◌≡◌, refl, sym, ap, ap₂, subst, subst₂, ◌∙◌}
use mathlib.Core.List.{List, [], ◌∷◌, ◌++◌, append-nil}
use mathlib.Core.Bool.{Bool, true, false}
use lib.ListN.{length, take, get_or, length-append}
use lib.Dec.{eqb, leb}
use lib.Seq.{take-suc, take_at, get_or_at, get_or-take}
use borrow.Author.Tests.{eqb-true, eqb-false, leb-true, leb-false}
use Rattle.model.specs.Numbers.{max_sheet_bytes}
use Rattle.model.specs.Bytes.{Bytes, u16, bit, flag}
use Rattle.model.specs.Tree.{Head, blank}
use Rattle.model.specs.Sheet.{front_bytes, text_bytes, head_bytes}
use Rattle.model.specs.Schema.{plain_head, join}
use Rattle.model.proofs.Normalized.{join_append}
use Rattle.buffer.specs.declared.Output.{Output}
use Rattle.buffer.specs.Puts.{Puts}
use Rattle.buffer.proofs.Puts.{puts_none, puts_same, puts_join, puts_two}
use Rattle.walk.specs.Stands.{Stands, Skips}
use Rattle.walk.proofs.Parts.{Ahead, bit_true, bit_false}
use Rattle.walk.proofs.Descents.{name_stands, no_name, body_stands}
use Rattle.normalize.specs.Expands.{Above, prefix, Measures}

-- The field's own name

-- what `put_own_name` ensures
abbrev PutsOwn : (s : Bytes) (place : ℕ) (o o' : Output) → Type 0
PutsOwn s place o o' = (h : Head) → Stands s place (head_bytes h) → Puts h.name o o'

module _ {s : Bytes} {place map : ℕ} {set : Bool} (e : map ≡ get_or s place 0) (k : set ≡ bit 2 map) {o : Output} where
  pub own_named : {text body end : ℕ} {o' : Output} → set ≡ true → Ahead s place 1 text → Ahead s text 2 body → ((t : Bytes) → Skips s text (text_bytes t) end)
      → ((b : Bytes) → Stands s body b → end ≡ body + length b → Puts b o o') → PutsOwn s place o o'
  unfolding text_bytes u16
  own_named b i j l f h st =
      let t = name_stands e (bit_true 2 map (sym k ∙ b)) i h st in
      let u = body_stands h.name j t in
      f h.name u.1 (omega (arith, (l h.name).behind t, u.0))

  pub own_unnamed : set ≡ false → PutsOwn s place o o
  own_unnamed b h st = puts_same (sym (no_name e (bit_false 2 map (sym k ∙ b)) h st)) puts_none

-- The names above

pub prefix_snoc : (separator : Bytes) (hs : List Head) (h : Head) → prefix separator (hs ++ (h ∷ [])) ≡ prefix separator hs ++ (h.name ++ separator)
unfolding prefix join
prefix_snoc separator hs h =
    join_append (λ h. h.name ++ separator) hs (h ∷ []) ∙ ap (λ r. prefix separator hs ++ r) (append-nil (h.name ++ separator))

-- a field that stands at a place is added to those above
pub above_longer : {s : Bytes} {path : List ℕ} {place : ℕ} {hs : List Head} (h : Head) → Above s path hs → Stands s place (head_bytes h)
    → Above s (path ++ (place ∷ [])) (hs ++ (h ∷ []))
above_longer {s} {path} {place} {hs} h a st = record {
  count = omega (arith, length-append hs (h ∷ []), length-append path (place ∷ []), a.count);
  stand = λ i j. go i (omega (arith, j, length-append path (place ∷ []))) (eqb i (length path)) refl;
}
  where
    before : {A : Type 0} (xs : List A) (x d : A) (i : ℕ) → i < length xs → get_or xs i d ≡ get_or (xs ++ (x ∷ [])) i d
    before xs x d i l = sym (sym (get_or-take (length xs) (xs ++ (x ∷ [])) i d l) ∙ ap (λ ys. get_or ys i d) (take_at xs (x ∷ []) (length xs) refl))

    go : (i : ℕ) → i < length path + 1 → (b : Bool) → eqb i (length path) ≡ b → Stands s (get_or (path ++ (place ∷ [])) i 0) (head_bytes (get_or (hs ++ (h ∷ [])) i blank))
    go i j true e =
        let n = eqb-true i (length path) e in
        subst₂ (λ m x. Stands s m (head_bytes x))
        (sym (get_or_at path place [] 0 i (sym n)))
        (sym (get_or_at hs h [] blank i (a.count ∙ sym n)))
        st
    go i j false e =
        let l : i < length path = omega (arith, j, eqb-false i (length path) e) in
        subst₂ (λ m x. Stands s m (head_bytes x)) (before path place 0 i l) (before hs h blank i (omega (arith, l, a.count))) (a.stand i l)

-- the loop: the names of so many are put
pub record Prefixed (s separator : Bytes) (path : List ℕ) (o o' : Output) (i : ℕ) : Type 0 where
  pub puts : (hs : List Head) → Above s path hs → Puts (prefix separator (take i hs)) o o'

module _ {s separator : Bytes} {path : List ℕ} {o : Output} where
  pub prefixed_begin : Prefixed s separator path o o 0
  unfolding prefix join
  prefixed_begin = record { puts = λ hs a. puts_none }

  module _ {o₁ : Output} {i : ℕ} (k : Prefixed s separator path o o₁ i) where
    pub prefixed_again : {places : List ℕ} {o₂ o₃ : Output} → places ≡ path → i < length places → PutsOwn s (get_or places i 0) o₁ o₂ → Puts separator o₂ o₃
        → Prefixed s separator path o o₃ (i + 1)
    prefixed_again {places} {o₂} e l f' g = record {
      puts = λ hs a.
          let x = get_or hs i blank in
          let h : i < length path = subst (λ ps. i < length ps) e l in
          let f = subst (λ ps. PutsOwn s (get_or ps i 0) o₁ o₂) e f' in
          let all : prefix separator (take i hs) ++ (x.name ++ separator) ≡ prefix separator (take (i + 1) hs) =
          sym (ap (λ n. prefix separator (take n hs)) (add-one i) ∙ ap (prefix separator) (take-suc hs i blank (omega (arith, h, a.count))) ∙ prefix_snoc separator (take i hs) x) in
          puts_same all (puts_join (prefix separator (take i hs)) (x.name ++ separator) (k.puts hs a) (puts_join x.name separator (f x (a.stand i h)) g));
    }

-- A column's head: the map, and behind it the name with its length, if it is not empty

-- no length is an empty name
measured_none : (b : Bytes) {k : ℕ} → Measures b k → k ≡ 0 → length b ≡ 0
measured_none b {k} m z = go (leb (length b) max_sheet_bytes) refl
  where
    go : (t : Bool) → leb (length b) max_sheet_bytes ≡ t → length b ≡ 0
    go true e = omega (arith, z, m.inside (leb-true _ _ e))
    go false e = absurd (omega (arith, z, m.beyond (leb-false _ _ e)))

named_bytes : (x : ℕ) (b : Bytes) (own : Head) → head_bytes (plain_head (x ∷ b) own) ≡ (flag 1 own.nullable + 4) ∷ (u16 (length (x ∷ b)) ++ (x ∷ b))
unfolding front_bytes head_bytes text_bytes
named_bytes x b own = ap₂ ◌∷◌ (omega arith) (append-nil ((u16 (length (x ∷ b)) ++ (x ∷ b)) ++ []) ∙ append-nil (u16 (length (x ∷ b)) ++ (x ∷ b)))

module _ (own : Head) {k v : ℕ} {o : Output} where
  pub head_unnamed : (b : Bytes) → Measures b k → {o' : Output} → k ≡ 0 → v ≡ flag 1 own.nullable → Puts (v ∷ []) o o' → Puts (head_bytes (plain_head b own)) o o'
  unfolding front_bytes head_bytes
  head_unnamed [] m z e f = puts_same (ap (λ x. x ∷ []) (omega (arith, e))) f
  head_unnamed (x ∷ b) m z e f = absurd (omega (arith, measured_none (x ∷ b) m z))

  pub head_named : (b : Bytes) → Measures b k → {o₁ o₂ o₃ : Output} → (k ≡ 0 → ⊥) → v ≡ flag 1 own.nullable + 4
      → Puts (v ∷ []) o o₁ → Puts (k % 256 ∷ k / 256 % 256 ∷ []) o₁ o₂ → Puts b o₂ o₃ → Puts (head_bytes (plain_head b own)) o o₃
  head_named [] m z e f g h = absurd (z (m.inside (omega arith)))
  head_named (x ∷ b) m z e f g h =
      let name = x ∷ b in
      let text = puts_two (length name) name (λ i. (m.inside (omega (arith, i)), omega (arith, i))) g h in
      puts_same (ap (λ v. v ∷ (u16 (length name) ++ name)) e ∙ sym (named_bytes x b own)) (puts_join (v ∷ []) (u16 (length name) ++ name) f text)
