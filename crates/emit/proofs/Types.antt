-- A type's entry, by its kind.
use Prim.Native.Nat.{ℕ, zero, suc, ◌+◌, ◌-◌}
use native.Mathlib.Omega.{arith}
use mathlib.Core.Path.{◌≡◌, refl, sym, ap, subst, ◌∙◌}
use mathlib.Core.List.{[], ◌∷◌, ◌++◌, append-nil}
use mathlib.Core.Bool.{true, ◌||◌}
use mathlib.Core.Logic.{◌⊎◌, inl, inr}
use lib.ListN.{get_or}
use lib.Dec.{eqb}
use borrow.Author.Tests.{eq-eqb}
use Rattle.model.specs.Bytes.{Bytes}
use Rattle.model.specs.Tree.{DataType, Field, Children, fields, counted, counted_with_ids, layout, List', LargeList, Struct, Union}
use Rattle.model.specs.Sheet.{each, with_count, field_bytes, children_bytes, type_bytes}
use Rattle.model.proofs.WellFormed.{type_laid_out}
use Rattle.model.proofs.Layouts.{struct_children, union_children, list_children}
use Rattle.model.proofs.Lists.{or_left, or_right}
use Rattle.buffer.specs.declared.Output.{Output}
use Rattle.buffer.specs.Puts.{Puts}
use Rattle.buffer.proofs.Puts.{puts_same, puts_join}
use Rattle.walk.specs.Stands.{Stands, member_bytes}
use Rattle.walk.proofs.Parts.{Ahead}
use Rattle.table.specs.Look.{NamesPlace}
use Rattle.table.specs.Table.{u24, raw, open_struct, open_list, open_union, spell_raw, spell_struct, spell_list, spell_union}
use Rattle.emit.specs.Emission.{PutsType, PutsEntry, PutsRow, PutsSurvivor, PutsUnion}
use Rattle.emit.proofs.Fronts.{byte_is, place_is, behind_stands}
use Rattle.emit.proofs.Survivors.{raw_survives}

-- The bytes of a type in which something was merged

module _ (l : ℕ) (t : DataType (suc l)) where
  by_children : (c : Children) (b : Bytes) → (layout t.code).children ≡ c → t.params ≡ b → type_bytes (suc l) t ≡ t.code ∷ (b ++ children_bytes (type_bytes l) c t.children)
  unfolding type_bytes
  by_children c b e i = rw (e, i) refl

  struct_bytes : t.code ≡ Struct → t.params ≡ [] → type_bytes (suc l) t ≡ t.code ∷ with_count (field_bytes (type_bytes l)) t.children
  unfolding children_bytes
  struct_bytes h i = by_children counted [] (struct_children t.code h) i

  list_bytes : (c : Field l) → (t.code ≡ List') ⊎ (t.code ≡ LargeList) → t.params ≡ [] → t.children ≡ c ∷ [] → type_bytes (suc l) t ≡ t.code ∷ field_bytes (type_bytes l) c
  unfolding children_bytes
  list_bytes c h i j =
      by_children (fields 1) [] (list_children t.code (of h)) i ∙ ap (λ ks. t.code ∷ each (field_bytes (type_bytes l)) ks) j ∙ ap (λ z. t.code ∷ z) (append-nil (field_bytes (type_bytes l) c))
    where
      of : (t.code ≡ List') ⊎ (t.code ≡ LargeList) → (eqb t.code List' || eqb t.code LargeList) ≡ true
      of (inl e) = or_left (eqb t.code List') (eqb t.code LargeList) (eq-eqb t.code List' e)
      of (inr e) = or_right (eqb t.code List') (eqb t.code LargeList) (eq-eqb t.code LargeList e)

  union_bytes : (mode : ℕ) → t.code ≡ Union → t.params ≡ mode ∷ [] → type_bytes (suc l) t ≡ t.code ∷ (mode ∷ with_count (member_bytes l) t.children)
  unfolding children_bytes
  union_bytes mode h i = by_children counted_with_ids (mode ∷ []) (union_children t.code h) i

-- the code, then the rest
code_and : (s : Bytes) (x z c : ℕ) (b : Bytes) {bytes : Bytes} {o o₁ o₂ : Output} → x ≡ z → get_or s z 0 ≡ c → bytes ≡ c ∷ b → Puts (get_or s x 0 ∷ []) o o₁ → Puts b o₁ o₂ → Puts bytes o o₂
code_and s x z c b o g n one f = puts_same (sym n) (puts_join (c ∷ []) b (puts_same (ap (λ n. n ∷ []) (ap (λ i. get_or s i 0) o ∙ g)) one) f)

module _ {s w : Bytes} {place own : ℕ} (levels : ℕ) where
  module _ {kind x : ℕ} (e : kind ≡ get_or w place 0) (j : NamesPlace w place x) where
    module _ {o : Output} where
      pub type_raw : {o' : Output} → kind ≡ raw → PutsSurvivor s own x levels o o' → PutsType s w place own levels o o'
      type_raw h f zero k y first t i q st u v = absurd q
      type_raw h f (suc l) k y first t i (spell_raw z b n o) st u v =
          let c : x ≡ z = place_is raw z [] j n.small (b ∙ ap (λ y. raw ∷ y) (sym (append-nil (u24 z)))) st in
          puts_same (ap (type_bytes (suc l)) (raw_survives l first t o))
          (f (suc l) first t i v (type_laid_out (suc l) n.ordered t n.well_formed) u (subst (λ n. Stands s n (type_bytes (suc l) t)) (sym c) n.stands))
      type_raw h f (suc l) k y first t i (spell_struct z m ys b n g c o row room) st u v = absurd (omega (arith, h, byte_is e b st))
      type_raw h f (suc l) k y first t i (spell_list z m ys k₁ b n g c o ps v₁ room) st u v = absurd (omega (arith, h, byte_is e b st))
      type_raw h f (suc l) k y first t i (spell_union z m ys b n g c o ps v₁ room) st u v = absurd (omega (arith, h, byte_is e b st))

      module _ {inner : ℕ} (ahead : Ahead w place 4 inner) {o₁ : Output} (one : Puts (get_or s x 0 ∷ []) o o₁) where
        pub type_struct : {o₂ : Output} → kind ≡ open_struct → PutsRow s w inner (levels - 1) o₁ o₂ → PutsType s w place own levels o o₂
        type_struct h f zero k y first t i p st u v = absurd p
        type_struct h f (suc l) k y first t i (spell_raw z b n o) st u v = absurd (omega (arith, h, byte_is e b st))
        type_struct h f (suc l) k y first t i (spell_struct z m ys b n g c o row room) st u v =
            code_and s x z t.code _ (place_is open_struct z ys j n b st) (g ∙ sym c) (struct_bytes l t c o) one (f l m ys t.children (omega (arith, i)) row (behind_stands open_struct z ys ahead b st))
        type_struct h f (suc l) k y first t i (spell_list z m ys k₁ b n g c o ps v₁ room) st u v = absurd (omega (arith, h, byte_is e b st))
        type_struct h f (suc l) k y first t i (spell_union z m ys b n g c o ps v₁ room) st u v = absurd (omega (arith, h, byte_is e b st))

        pub type_list : {o₂ : Output} → kind ≡ open_list → PutsEntry s w inner (levels - 1) o₁ o₂ → PutsType s w place own levels o o₂
        type_list h f zero k y first t i p st u v = absurd p
        type_list h f (suc l) k y first t i (spell_raw z b n o) st u v = absurd (omega (arith, h, byte_is e b st))
        type_list h f (suc l) k y first t i (spell_struct z m ys b n g c o row room) st u v = absurd (omega (arith, h, byte_is e b st))
        type_list h f (suc l) k y first t i (spell_list z m ys k₁ b n g c o ps v₁ room) st u v =
            code_and s x z t.code _ (place_is open_list z ys j n b st) g (list_bytes l t k₁ c o v₁) one (f l m ys k₁ (omega (arith, i)) ps (behind_stands open_list z ys ahead b st))
        type_list h f (suc l) k y first t i (spell_union z m ys b n g c o ps v₁ room) st u v = absurd (omega (arith, h, byte_is e b st))

        pub type_union : {o₂ : Output} → (kind ≡ raw → ⊥) → (kind ≡ open_struct → ⊥) → (kind ≡ open_list → ⊥) → PutsUnion s w (x + 1) inner (levels - 1) o₁ o₂
            → PutsType s w place own levels o o₂
        type_union h₀ h₁ h₂ f zero k y first t i p st u v = absurd p
        type_union h₀ h₁ h₂ f (suc l) k y first t i (spell_raw z b n o) st u v = absurd (h₀ (byte_is e b st))
        type_union h₀ h₁ h₂ f (suc l) k y first t i (spell_struct z m ys b n g c o row room) st u v = absurd (h₁ (byte_is e b st))
        type_union h₀ h₁ h₂ f (suc l) k y first t i (spell_list z m ys k₁ b n g c o ps v₁ room) st u v = absurd (h₂ (byte_is e b st))
        type_union h₀ h₁ h₂ f (suc l) k y first t i (spell_union z m ys b n g c o ps v₁ room) st u v =
            let x-is = place_is open_union z ys j n b st in
            code_and s x z t.code _ x-is (g ∙ sym c) (union_bytes l t (get_or s (x + 1) 0) c (o ∙ ap (λ n. get_or s (n + 1) 0 ∷ []) (sym x-is))) one
            (f l m ys t.children (omega (arith, i)) ps v₁ (behind_stands open_union z ys ahead b st))
