-- Children of unions in the train: their ids and fields, and where those of a union stand.
use Prim.Native.Nat.{ℕ, suc, ◌+◌, ◌≤◌}
use native.Mathlib.Omega.{arith}
use mathlib.Core.Path.{◌≡◌, refl, sym, ap, subst, ◌∙◌}
use mathlib.Core.List.{List, [], ◌∷◌, ◌++◌}
use mathlib.Core.Bool.{Bool}
use lib.ListN.{length, get_or, length-append}
use lib.Dec.{eqb}
use borrow.Author.Tests.{eq-eqb, ne_eqb}
use Rattle.model.specs.Bytes.{Bytes, Every, u16}
use Rattle.model.specs.Tree.{DataType, Field, Union, layout, table, mode}
use Rattle.model.specs.Tree.Params.{items}
use Rattle.model.specs.Tree.Children.{counted_with_ids}
use Rattle.model.specs.Sheet.{each, with_count, field_bytes, children_bytes, type_bytes}
use Rattle.model.specs.WellFormed.{WellFormedParams, WellFormedType, Child}
use Rattle.model.specs.Equal.{same_field, same_type}
use Rattle.model.proofs.Lists.{every_map}
use Rattle.model.proofs.Whole.{whole_laid_out, type_whole}
use Rattle.walk.specs.Stands.{Stands, Skips, SkipsMember, member_bytes}
use Rattle.walk.proofs.Standing.{byte_stands, second_stands, stands_behind, skip_ahead}
use Rattle.walk.proofs.Parts.{Ahead, two_at}
use Rattle.walk.proofs.Descents.{count_stands, elements_stand}
use Rattle.members.specs.declared.Match.TheVariants.{SameId, OtherId}
use Rattle.members.specs.Rows.{WholeChild, by_id}
use Rattle.members.specs.Claims.{SameMembers, FindsChildren}

-- what `same_field` of two fields of the train ensures
abbrev SameFields : (s : Bytes) (a b levels : ℕ) → Bool → Type 0
SameFields s a b levels r =
    (l : ℕ) (f g : Field l) → l ≤ levels → WholeChild l f → WholeChild l g → Stands s a (field_bytes (type_bytes l) f) → Stands s b (field_bytes (type_bytes l) g) → r ≡ same_field (same_type l) f g

module _ {s : Bytes} where
  -- a child's field stands behind its id
  behind_id : {place own : ℕ} (l : ℕ) (f : Field l) → Ahead s place 1 own → Stands s place (member_bytes l f) → Stands s own (field_bytes (type_bytes l) f)
  behind_id l f a st = stands_behind (skip_ahead (_ ∷ []) refl a.1) st

  pub members_same : {a b field other levels : ℕ} {r : Bool} → Ahead s a 1 field → Ahead s b 1 other → SameFields s field other levels r → SameMembers s a b levels r
  members_same i j c l f g h v w st u = c l f g h v w (behind_id l f i st) (behind_id l g j u)

  -- a child that is gone over
  pub child_skips : {place levels r : ℕ} → SkipsMember s place levels r → (l : ℕ) (f : Field l) → l ≤ levels → WholeChild l f → Skips s place (member_bytes l f) r
  child_skips g l f h w = g l f h (whole_laid_out l f.data_type w)

-- Ids

module _ {n m i j : ℕ} (e : n ≡ i) (f : m ≡ j) where
  pub same_id : n ≡ m → SameId ≡ by_id (eqb i j)
  unfolding by_id
  same_id h = ap by_id (sym (eq-eqb i j (sym e ∙ h ∙ f)))

  pub other_id : (n ≡ m → ⊥) → OtherId ≡ by_id (eqb i j)
  unfolding by_id
  other_id h = ap by_id (sym (ne_eqb i j λ k. h (e ∙ k ∙ sym f)))

-- Unions: a code, a mode, a count, the children

pub record UnionParts (l : ℕ) (u : DataType (suc l)) : Type 0 where
  pub mode : ℕ
  pub params : u.params ≡ mode ∷ []
  pub bytes : type_bytes (suc l) u ≡ Union ∷ (mode ∷ with_count (member_bytes l) u.children)
  pub whole : Every (WholeChild l) u.children

union_layout : (c : ℕ) → c ≡ Union → ((layout c).params ≡ items (mode ∷ [])) × ((layout c).children ≡ counted_with_ids)
unfolding layout table
union_layout c e = (ap (λ c. (layout c).params) e, ap (λ c. (layout c).children) e)

pub union_parts : (l : ℕ) (o : Bool) (u : DataType (suc l)) → u.code ≡ Union → WellFormedType (suc l) o u → UnionParts l u
unfolding type_bytes children_bytes
union_parts l o u e w = go (subst (λ p. WellFormedParams p u.params) y.0 w.1)
  where
    y : ((layout u.code).params ≡ items (mode ∷ [])) × ((layout u.code).children ≡ counted_with_ids)
    y = union_layout u.code e

    whole : Every (WholeChild l) u.children
    whole = every_map (Child l (layout u.code).children) (WholeChild l) (λ k v. v.1) u.children (type_whole (suc l) o u w).2

    made : (m : ℕ) → u.params ≡ m ∷ [] → UnionParts l u
    made m p = record {
      mode = m;
      params = p;
      bytes =
          ap (λ b. u.code ∷ (b ++ children_bytes (type_bytes l) (layout u.code).children u.children)) p
          ∙ ap (λ c. u.code ∷ (m ∷ children_bytes (type_bytes l) c u.children)) y.1
          ∙ ap (λ c. c ∷ (m ∷ with_count (member_bytes l) u.children)) e;
      whole = whole;
    }

    go : WellFormedParams (items (mode ∷ [])) u.params → UnionParts l u
    go (c, d, i, n, f, j) = of c n (i ∙ ap (λ d. c ++ d) j)
      where
        of : (c : Bytes) → length c ≡ 1 → u.params ≡ c ++ [] → UnionParts l u
        of [] n p = absurd (omega (arith, n))
        of (m ∷ []) n p = made m p
        of (m ∷ b ∷ c) n p = absurd (omega (arith, n))

module _ {s : Bytes} {t : ℕ} where
  -- the mode stands behind the code
  pub mode_stands : (l : ℕ) (u : DataType (suc l)) (p : UnionParts l u) → Stands s t (type_bytes (suc l) u) → get_or s (t + 1) 0 ≡ p.mode
  mode_stands l u p st = byte_stands (second_stands (Union ∷ []) (p.mode ∷ with_count (member_bytes l) u.children) (subst (Stands s t) p.bytes st))

  pub children_found : {m n first : ℕ} → Ahead s t 2 m → n ≡ two_at s m → Ahead s m 2 first → FindsChildren s t n first
  children_found a e b l o u c w st =
      let p = union_parts l o u c w in
      let st2 = stands_behind (skip_ahead (Union ∷ (p.mode ∷ [])) refl a.1) (subst (Stands s t) p.bytes st) in
      record { counts = sym (e ∙ count_stands (member_bytes l) u.children st2); stands = elements_stand (member_bytes l) u.children b st2 }

-- Lengths

pub members_long : (l : ℕ) (ks : List (Field l)) → length ks ≤ length (each (member_bytes l) ks)
members_long l [] = omega arith
members_long l (f ∷ fs) = omega (arith, members_long l fs, length-append (member_bytes l f) (each (member_bytes l) fs))

pub union_long : (l : ℕ) (u : DataType (suc l)) → UnionParts l u → length (type_bytes (suc l) u) ≡ 4 + length (each (member_bytes l) u.children)
unfolding with_count u16
union_long l u p = omega (arith, ap length p.bytes)
