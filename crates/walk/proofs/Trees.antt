-- Types and their children: the place behind each, from the places that the code's steps give.
use Prim.Native.Nat.{ℕ, zero, suc, ◌-◌}
use native.Mathlib.Omega.{arith}
use mathlib.Core.Path.{◌≡◌, refl, sym, subst, ◌∙◌}
use mathlib.Core.List.{[], ◌∷◌}
use lib.ListN.{get_or}
use Rattle.model.specs.Bytes.{Bytes}
use Rattle.model.specs.Tree.{Layout, Children, layout, leaf}
use Rattle.model.specs.Tree.Children.{fields, key_and_value}
use Rattle.model.specs.Sheet.{field_bytes, children_bytes, type_bytes}
use Rattle.model.specs.WellFormed.{WellFormedParams, CountFits}
use Rattle.walk.specs.Stands.{Skips, SkipsType, SkipsRow, member_bytes, SkipsChildren}
use Rattle.layout.specs.declared.ChildrenKind.TheVariants.{Fields, KeyAndValue, Counted, CountedWithIds}
use Rattle.layout.specs.Kinds.{children_of}
use Rattle.walk.proofs.Standing.{byte_stands, skip_none, skip_ahead, skip_when, skip_join}
use Rattle.walk.proofs.Parts.{Ahead, two_at, list_skips}

module _ {s : Bytes} {place : ℕ} (levels : ℕ) where
  pub type_skips : {code params children r : ℕ} → code ≡ get_or s place 0 → Ahead s place 1 params
      → ((b : Bytes) → WellFormedParams (layout code).params b → Skips s params b children)
      → SkipsChildren s children (layout code).children (levels - 1) r → SkipsType s place levels r
  unfolding type_bytes
  type_skips e a f g zero t h w = absurd w
  type_skips {children = children} {r = r} e a f g (suc l) t h (p, n, q) =
      skip_when λ st.
      let w = e ∙ byte_stands st in
      skip_join (skip_ahead (_ ∷ []) refl a.1)
      (skip_join (f t.params (subst (λ c. WellFormedParams (layout c).params t.params) (sym w) p))
      (subst (λ c. Skips s children (children_bytes (type_bytes l) (layout c).children t.children) r) w
      (g l t.children (omega arith) (subst (λ c. CountFits (layout c).children t.children) (sym w) n) q)))

-- Children by their kind

module _ {s : Bytes} {place : ℕ} (levels code : ℕ) where
  abbrev by_kind : {c : Children} {r : ℕ} → c ≡ (layout code).children → SkipsChildren s place c levels r → SkipsChildren s place (layout code).children levels r
  by_kind {r = r} d g = subst (λ c. SkipsChildren s place c levels r) d g

  pub kids_fields : {n r : ℕ} → children_of (Fields n) ≡ (layout code).children → SkipsRow s place n 0 levels r → SkipsChildren s place (layout code).children levels r
  unfolding children_bytes children_of
  kids_fields d f = by_kind d (λ l ks b n q. f l (λ h. []) ks (λ h. refl) b n q)

  pub kids_types : {m r : ℕ} → children_of KeyAndValue ≡ (layout code).children → SkipsType s place levels m → SkipsType s m levels r → SkipsChildren s place (layout code).children levels r
  unfolding children_bytes children_of
  kids_types {m} {r} d f g = by_kind d go
    where
      go : SkipsChildren s place key_and_value levels r
      go l [] b n q = absurd (omega (arith, n))
      go l (x ∷ []) b n q = absurd (omega (arith, n))
      go l (x ∷ y ∷ []) b n q = skip_join (f l x.data_type b q.0) (skip_join (g l y.data_type b q.1.0) skip_none)
      go l (x ∷ y ∷ z ∷ ks) b n q = absurd (omega (arith, n))

  pub kids_counted : {first n r : ℕ} → children_of Counted ≡ (layout code).children → Ahead s place 2 first → n ≡ two_at s place → SkipsRow s first n 0 levels r
      → SkipsChildren s place (layout code).children levels r
  unfolding children_bytes children_of
  kids_counted d a i f = by_kind d (λ l ks b n q. list_skips (field_bytes (type_bytes l)) a i ks (λ c. f l (λ h. []) ks (λ h. refl) b c q))

  pub kids_members : {first n r : ℕ} → children_of CountedWithIds ≡ (layout code).children → Ahead s place 2 first → n ≡ two_at s place → SkipsRow s first n 1 levels r
      → SkipsChildren s place (layout code).children levels r
  unfolding children_bytes children_of
  kids_members d a i f = by_kind d (λ l ks b n q. list_skips (member_bytes l) a i ks (λ c. f l (λ h. h.type_id ∷ []) ks (λ h. refl) b c q))

-- Types with neither parameters nor children: their code alone

no_fields : {s : Bytes} {place : ℕ} (levels : ℕ) → SkipsChildren s place (fields 0) levels place
unfolding children_bytes
no_fields levels l [] h n w = skip_none
no_fields levels l (k ∷ ks) h n w = absurd (omega (arith, n))

pub plain_skips : {s : Bytes} {place : ℕ} (levels : ℕ) {code behind : ℕ} → code ≡ get_or s place 0 → layout code ≡ leaf → Ahead s place 1 behind → SkipsType s place levels behind
plain_skips {s} {place} levels {code} {behind} e h a =
    type_skips levels e a
    (λ b w. subst (λ b. Skips s behind b behind) (sym (subst (λ (p : Layout). WellFormedParams p.params b) h w)) skip_none)
    (subst (λ (p : Layout). SkipsChildren s behind p.children (levels - 1) behind) (sym h) (no_fields (levels - 1)))
