-- Lists and large lists: the child with the other's.
use Prim.Native.Nat.{ℕ, suc, ◌+◌, ◌*◌}
use native.Mathlib.Omega.{arith}
use mathlib.Core.Path.{◌≡◌, refl, sym, ap, subst, ◌∙◌}
use mathlib.Core.Bool.{Bool}
use mathlib.Core.List.{[], ◌∷◌, ◌++◌, append_assoc, append-nil}
use mathlib.Core.Logic.{◌⊎◌}
use lib.ListN.{length, length-append}
use Rattle.model.specs.Bytes.{Bytes}
use Rattle.model.specs.Tree.{DataType, Field, with_children, List', LargeList}
use Rattle.model.specs.Sheet.{field_bytes, type_bytes}
use Rattle.model.specs.Merge as model
use Rattle.model.specs.Merge.{◌>>=◌, done, clash, merge_field, merge_each, merge_type, is_null}
use Rattle.walk.specs.Stands.{Stands}
use Rattle.walk.proofs.Standing.{stands_behind, skip_ahead}
use Rattle.walk.proofs.Parts.{Ahead}
use Rattle.table.specs.Held.{Held}
use Rattle.table.specs.Table.{open_list, u24, SpellField, SpellType, spell_list}
use Rattle.table.specs.Says.{Merged, Says}
use Rattle.table.specs.Opened.{OpensList}
use Rattle.table.proofs.Numbers.{length_u24}
use Rattle.table.proofs.Held.{held_length, held_as}
use Rattle.table.proofs.Says.{says_in}
use Rattle.table.proofs.Opening.{only_child}
use Rattle.field.specs.Claims.{MergesField, MergesList}

-- in either mode
module _ (parked : Bool) where
  -- the model's merge of the only children
  only_children : (l : ℕ) (a u : DataType (suc l)) (f g : Field l) → a.children ≡ f ∷ [] → u.children ≡ g ∷ []
      → (merge_each parked (merge_type parked l) (is_null l) a.children u.children >>= λ ks. done (with_children a ks)) ≡ (merge_field parked (merge_type parked l) (is_null l) f g >>= λ h. done (with_children a (h ∷ [])))
  unfolding merge_each ◌>>=◌
  only_children l a u f g e d =
      ap (λ ks. merge_each parked (merge_type parked l) (is_null l) ks u.children >>= λ ks. done (with_children a ks)) e
      ∙ ap (λ ks. merge_each parked (merge_type parked l) (is_null l) (f ∷ []) ks >>= λ ks. done (with_children a ks)) d ∙ go (merge_field parked (merge_type parked l) (is_null l) f g)
    where
      go : (m : model.Merged (Field l)) → ((m >>= λ h. merge_each parked (merge_type parked l) (is_null l) [] [] >>= λ r. done (h ∷ r)) >>= λ ks. done (with_children a ks)) ≡ (m >>= λ h. done (with_children a (h ∷ [])))
      go (done h) = refl
      go (clash n) = refl

  pub list_merged : {s w w₁ w₂ : Bytes} {used place t inner opened child levels : ℕ} {r : Merged} → Ahead w place 4 inner → length w₁ ≡ length w → OpensList place s w used w₁ opened → Ahead s t 1 child
      → MergesField parked levels inner child s w₁ opened w₂ r → MergesList parked levels place t s w used w₂ r
  list_merged {s} {w} {w₁} {w₂} {used} {place} {t} {inner} {opened} {child} {levels} {r} a same opens b merge = record {
    says = λ l first u code low h c i x y z k d held hx p room.
        let o = opens l first code h i.small x y z k d held hx p (omega (arith, room)) in
        let op = o.opened in
        let head : Bytes = open_list ∷ u24 op.place in
        let q = only_child l i.ordered u (subst (λ n. (n ≡ List') ⊎ (n ≡ LargeList)) (sym c) h) i.well_formed in
        let st = stands_behind (skip_ahead (u.code ∷ []) refl b.1) (subst (Stands s t) q.bytes i.stands) in
        let held₁ : Held w₁ opened (x ++ head) op.entry_bytes z =
        held_as o.held (ap (λ v. x ++ (v ++ z)) op.bytes ∙ ap (λ v. x ++ v) (append_assoc head op.entry_bytes z) ∙ sym (append_assoc x head (op.entry_bytes ++ z))) in
        let long : length (type_bytes (suc l) u) ≡ 1 + length (field_bytes (type_bytes l) q.child) = omega (arith, ap length q.bytes) in
        let n = length-append x head in
        let hl = held_length held₁ in
        let there : inner ≡ length (x ++ head) = omega (arith, a.1 (omega (arith, hx, hl, held₁.fits, same, n, length_u24 op.place)), hx, n, length_u24 op.place) in
        let more = 4 * length (field_bytes (type_bytes l) q.child) in
        let says = merge.says l q.child low (record { small = i.small; stands = st; well_formed = q.well_formed; type_id = q.type_id }) (x ++ head) op.entry_bytes z op.entry_room o.child held₁ there op.entry
        (omega (arith, room, same, n, length_u24 op.place, op.room, long)) in
        subst (λ m. Says (SpellType (suc l) s first) (k + 4 * length (type_bytes (suc l) u)) x z w₂ r m) (sym (only_children l d u o.child q.child o.children q.children))
        (says_in (SpellField l s) (SpellType (suc l) s first) (op.entry_room + more) (k + 4 * length (type_bytes (suc l) u)) x head [] z w₂ (λ h. with_children d (h ∷ [])) (merge_field parked (merge_type parked l) (is_null l) o.child q.child)
        (λ j v e f g. (
          k + 4 * length (type_bytes (suc l) u),
          spell_list op.place j v e (ap (λ z. head ++ z) (append-nil v)) op.small (op.code_there ∙ sym p.1) (subst (λ n. (n ≡ List') ⊎ (n ≡ LargeList)) (sym p.1) h) o.params f refl
              (omega (arith, g, op.room, long)),
          omega arith,
        )) r says);
  }
