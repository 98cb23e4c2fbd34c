-- A merge of well-formed trees is well-formed, so what a merge answers reads without refusal.
use Prim.Native.Nat.{ℕ, zero, suc}
use mathlib.Core.Path.{◌≡◌, refl, sym, ap, subst, ◌∙◌}
use mathlib.Core.List.{List, [], ◌∷◌, ◌++◌, map}
use mathlib.Core.Bool.{Bool, true, false, not, cond, ◌||◌}
use lib.ListN.{length}
use lib.Dec.{eqb, leb}
use borrow.Author.Tests.{eqb-true, eqb-false, ne_eqb, not-true, not-false}
use Rattle.model.specs.Bytes.{Bytes, Metadata, Every, among}
use Rattle.model.specs.Tree.{FieldOver, DataType, Field, Schema, with_children, Children, counted, counted_with_ids}
use Rattle.model.specs.Read.{unless, is_text, id_fits}
use Rattle.model.specs.Equal.{same_type}
use Rattle.model.specs.Merge.{Merged, merge_pair, merge_metadata, merge_by_name, merge_child, ids_differ, orders_agree, merge_field, merge_each, is_null, merge_same_code, merge_type, merge_schema, empty, merge_from}
use Rattle.model.specs.WellFormed.{Each, WellFormedPair, WellFormedField, WellFormedChildren, WellFormedType, WellFormedSchema}
use Rattle.model.proofs.Lists.{and_true, or_false, every_append}
use Rattle.model.proofs.Gives.{Gives, value, refusal, bind_gives, need_gives, choose_gives, gives_map, pour_keeps, placed_holds}
use Rattle.model.proofs.Steps.{Holds, next_holds, then_zero, unless_got, then_got}
use Rattle.model.proofs.Layouts.{struct_children, union_children, list_children}
use Rattle.model.proofs.Modes.{merged_order_lem}
use Rattle.model.proofs.WellFormed.{every_each, each_every}
use Rattle.model.proofs.Steps as steps

-- Metadata

Texts : Bytes × Bytes → Type 0
Texts p = (is_text p.0 ≡ 0) × (is_text p.1 ≡ 0)

texts : (seen xs : Metadata) → Each WellFormedPair seen xs → Every Texts xs
unfolding Texts
texts seen [] h = tt
texts seen (x ∷ xs) h = ((h.0.key, h.0.value), texts (x ∷ seen) xs h.1)

after : (q : Bytes × Bytes) (seen seen' xs : Metadata) → Each WellFormedPair (q ∷ seen) xs → Each WellFormedPair (q ∷ seen') xs
after q seen seen' [] h = tt
after q seen seen' (x ∷ xs) h = (record { key = h.0.key; value = h.0.value; order = h.0.order }, after x (q ∷ seen) (q ∷ seen') xs h.1)

merge_pair_well_formed : (n : ℕ) (seen m : Metadata) (p : Bytes × Bytes) → Each WellFormedPair seen m → WellFormedPair seen p → Gives (λ r. Each WellFormedPair seen r) (merge_pair n m p)
unfolding merge_pair
merge_pair_well_formed n seen [] p e g = value {a = p ∷ []} (g, tt)
merge_pair_well_formed n seen (q ∷ qs) p e g =
    choose_gives _ _ _
    (λ b. bind_gives _ (merge_pair_well_formed n (q ∷ seen) qs p e.1 (record { key = g.key; value = g.value; order = unless_got _ 4 b })) λ r k. value {a = q ∷ r} (e.0, k)) λ b.
    choose_gives _ _ _
    (λ b. value {a = p ∷ q ∷ qs} (g, (record { key = e.0.key; value = e.0.value; order = unless_got _ 4 b }, after q seen (p ∷ seen) qs e.1))) λ c.
    need_gives _ n (q ∷ qs) λ z. e

meta_keeps : (n : ℕ) (a b : Metadata) → Each WellFormedPair [] a → Each WellFormedPair [] b → Gives (λ r. Each WellFormedPair [] r) (merge_metadata n a b)
unfolding merge_metadata Texts unless
meta_keeps n a b g h =
    pour_keeps (merge_pair n) (λ r. Each WellFormedPair [] r) Texts (λ a x i j. merge_pair_well_formed n [] a x i (record { key = j.0; value = j.1; order = refl })) a b g (texts [] b h)

-- Fields

-- a field with no union id
abbrev Plain : {T : Type 0} → (Bool → T → Type 0) → FieldOver T → Type 0
Plain G f = WellFormedField G f × (f.head.type_id ≡ 0)

-- A type keeps the order flag that it came with, whatever the other's is.
module _ {T : Type 0} (G : Bool → T → Type 0) (parked : Bool) (merge : T → T → Merged T) (is_null : T → Bool)
    (merge_keeps : (o o' : Bool) (a b : T) → G o a → G o' b → Gives (λ t. G (cond (is_null a) o' o) t) (merge a b)) where
  field_keeps : (f g : FieldOver T) → WellFormedField G f → WellFormedField G g → Gives (λ h. WellFormedField G h × (h.head.type_id ≡ f.head.type_id)) (merge_field parked merge is_null f g)
  unfolding merge_field
  field_keeps f g p q =
      bind_gives {P = λ u. orders_agree parked is_null f g ≡ true} _ (need_gives _ 20 tt λ e. e) λ u o.
      bind_gives _ (meta_keeps 21 f.head.metadata g.head.metadata p.metadata q.metadata) λ d k.
      bind_gives _ (merge_keeps f.head.dict_is_ordered g.head.dict_is_ordered f.data_type g.data_type p.data_type q.data_type) λ t r.
      value (record { name = p.name; metadata = k; data_type = subst (λ o. G o t) (sym (merged_order_lem is_null f g parked o)) r }, refl)

  plain_keeps : (f g : FieldOver T) → Plain G f → Plain G g → Gives (Plain G) (merge_field parked merge is_null f g)
  plain_keeps f g p q = gives_map (field_keeps f g p.0 q.0) λ h k. (k.0, k.1 ∙ p.1)

  merge_by_name_keeps : (gs : List (FieldOver T)) (f : FieldOver T) → Every (Plain G) gs → Plain G f → Gives (λ r. Every (Plain G) r) (merge_by_name (merge_field parked merge is_null) gs f)
  unfolding merge_by_name
  merge_by_name_keeps [] f e n = value {a = f ∷ []} (n, tt)
  merge_by_name_keeps (g ∷ gs) f e n =
      choose_gives _ _ _ (λ b. bind_gives _ (plain_keeps g f e.0 n) λ h k. value {a = h ∷ gs} (k, e.1)) λ b.
      bind_gives _ (merge_by_name_keeps gs f e.1 n) λ r k. value {a = g ∷ r} (e.0, k)

  each_keeps : (fs gs : List (FieldOver T)) → Every (Plain G) fs → Every (Plain G) gs → Gives (λ r. (length r ≡ length fs) × Every (Plain G) r) (merge_each parked merge is_null fs gs)
  unfolding merge_each
  each_keeps [] gs e k = value {a = []} (refl, tt)
  each_keeps (f ∷ fs) [] e k = value (refl, e)
  each_keeps (f ∷ fs) (g ∷ gs) e k =
      bind_gives _ (plain_keeps f g e.0 k.0) λ h p.
      bind_gives _ (each_keeps fs gs e.1 k.1) λ hs q.
      value {a = h ∷ hs} (ap suc q.0, (p, q.1))

-- Union children

not_false_got : (b : Bool) → b ≡ false → not b ≡ true
not_false_got b h = ap not h

-- what holds of the children that there are and of the one that comes holds of what they give
pub merge_child_keeps : {T : Type 0} (P : FieldOver T → Type 0) (eq : T → T → Bool) (gs : List (FieldOver T)) (f : FieldOver T) → Every P gs → P f
    → Gives (λ r. Every P r) (merge_child eq gs f)
unfolding merge_child
merge_child_keeps P eq [] f e n = value {a = f ∷ []} (n, tt)
merge_child_keeps P eq (g ∷ gs) f e n =
    choose_gives _ _ _ (λ b. need_gives _ 23 (g ∷ gs) λ q. e) λ b.
    bind_gives _ (merge_child_keeps P eq gs f e.1 n) λ r k. value {a = g ∷ r} (e.0, k)

module _ {T : Type 0} (G : Bool → T → Type 0) where
  abbrev Child : FieldOver T → Type 0
  Child f = WellFormedField G f × (unless (leb f.head.type_id 127) 6 ≡ 0)

  apart : (i : ℕ) (seen : List ℕ) (xs : List (FieldOver T)) → among i (map (λ f. f.head.type_id) xs) ≡ false
      → Every (λ y. among y.head.type_id seen ≡ false) xs → Every (λ y. among y.head.type_id (i ∷ seen) ≡ false) xs
  unfolding among
  apart i seen [] h e = tt
  apart i seen (y ∷ ys) h e =
      let (p, q) = or_false _ _ h in
      let r : eqb y.head.type_id i ≡ false = ne_eqb _ _ (λ w. eqb-false i y.head.type_id p (sym w)) in
      (ap (λ b. b || among y.head.type_id seen) r ∙ e.0, apart i seen ys q e.1)

  each_ids : (seen xs : List (FieldOver T)) → Every Child xs → ids_differ xs ≡ true → Every (λ y. among y.head.type_id (map (λ f. f.head.type_id) seen) ≡ false) xs
      → Each (λ seen k. WellFormedField G k × (id_fits (map (λ f. f.head.type_id) seen) k.head.type_id ≡ 0)) seen xs
  unfolding ids_differ
  each_ids seen [] c d e = tt
  each_ids seen (x ∷ xs) c d e =
      let (p, q) = and_true _ _ d in (
        (c.0.0, then_got _ _ c.0.1 (unless_got _ 7 (not_false_got _ e.0))),
        each_ids (x ∷ seen) xs c.1 q (apart x.head.type_id _ xs (not-true _ p) e.1),
      )

  none_seen : (xs : List (FieldOver T)) → Every (λ y. among y.head.type_id [] ≡ false) xs
  unfolding among
  none_seen [] = tt
  none_seen (x ∷ xs) = (refl, none_seen xs)

-- Types

plain_kids : (l : ℕ) {k : Children} (ks : List (Field l)) → k ≡ counted → WellFormedChildren (WellFormedType l) k ks → Every (Plain (WellFormedType l)) ks
plain_kids l ks e g = each_every (λ seen k. Plain (WellFormedType l) k) (Plain (WellFormedType l)) (λ s x w. w) [] ks (subst (λ k. WellFormedChildren (WellFormedType l) k ks) e g)

child_kids : (l : ℕ) {k : Children} (ks : List (Field l)) → k ≡ counted_with_ids → WellFormedChildren (WellFormedType l) k ks → Every (Child (WellFormedType l)) ks
child_kids l ks e g =
    each_every (λ seen k. WellFormedField (WellFormedType l) k × (id_fits (map (λ f. f.head.type_id) seen) k.head.type_id ≡ 0)) (Child (WellFormedType l))
    (λ s x w. (w.0, (then_zero _ _ w.1).0)) [] ks (subst (λ k. WellFormedChildren (WellFormedType l) k ks) e g)

type_keeps : (parked : Bool) (l : ℕ) (o o' : Bool) (a b : DataType l) → WellFormedType l o a → WellFormedType l o' b
    → Gives (λ t. WellFormedType l (cond (is_null l a) o' o) t) (merge_type parked l a b)
unfolding merge_type merge_same_code is_null
type_keeps parked zero o o' a b n m = absurd a
type_keeps parked (suc l) o o' a b n m =
    choose_gives _ _ _ (λ p. value (subst (λ z. WellFormedType (suc l) (cond z o' o) b) (sym p) m)) λ own.
    let n = subst (λ z. WellFormedType (suc l) (cond z o' o) a) (sym own) n in
    choose_gives _ _ _ (λ p. value n) λ p.
    choose_gives _ _ _ (λ p. refusal) λ d.
    let same : a.code ≡ b.code = eqb-true _ _ (not-false _ d) in
    choose_gives _ _ _ (λ p.
    let e = struct_children a.code (eqb-true _ 32 p) in
    let e' = struct_children b.code (sym same ∙ eqb-true _ 32 p) in
    bind_gives _ (pour_keeps _ (Every (Plain (WellFormedType l))) (Plain (WellFormedType l)) (merge_by_name_keeps (WellFormedType l) parked (merge_type parked l) (is_null l) (type_keeps parked l)) [] (a.children ++ b.children) tt
    (every_append (Plain (WellFormedType l)) a.children b.children (plain_kids l a.children e n.2) (plain_kids l b.children e' m.2))) λ ks k.
    value {a = with_children a ks} (n.0, n.1, subst (λ k. WellFormedChildren (WellFormedType l) k ks) (sym e) (every_each (Plain (WellFormedType l)) [] ks k))) λ p.
    choose_gives _ _ _ (λ p.
    let e = union_children a.code (eqb-true _ 33 p) in
    let e' = union_children b.code (sym same ∙ eqb-true _ 33 p) in
    bind_gives _ (pour_keeps _ (Every (Child (WellFormedType l))) (Child (WellFormedType l)) (merge_child_keeps (Child (WellFormedType l)) (same_type l)) a.children b.children
    (child_kids l a.children e n.2) (child_kids l b.children e' m.2)) λ ks k.
    need_gives _ 24 (with_children a ks) λ i.
    (n.0, n.1, subst (λ k. WellFormedChildren (WellFormedType l) k ks) (sym e) (each_ids (WellFormedType l) [] ks k i (none_seen (WellFormedType l) ks)))) λ p.
    choose_gives _ _ _ (λ p.
    let e = list_children a.code p in
    let e' = list_children b.code (ap (λ c. eqb c 27 || eqb c 30) (sym same) ∙ p) in
    let g = subst (λ k. WellFormedChildren (WellFormedType l) k a.children) e n.2 in
    let h = subst (λ k. WellFormedChildren (WellFormedType l) k b.children) e' m.2 in
    bind_gives _ (each_keeps (WellFormedType l) parked (merge_type parked l) (is_null l) (type_keeps parked l) a.children b.children
    (each_every _ (Plain (WellFormedType l)) (λ s x w. w) [] a.children g.1) (each_every _ (Plain (WellFormedType l)) (λ s x w. w) [] b.children h.1)) λ ks k.
    value {a = with_children a ks} (n.0, n.1, subst (λ k. WellFormedChildren (WellFormedType l) k ks) (sym e) (k.0 ∙ g.0, every_each (Plain (WellFormedType l)) [] ks k.1))) λ p.
    need_gives _ 22 a λ e. n

pub schema_keeps : (parked : Bool) (x y : Schema) → WellFormedSchema x → WellFormedSchema y → Gives WellFormedSchema (merge_schema parked x y)
unfolding merge_schema
schema_keeps parked x y g h =
    bind_gives _ (meta_keeps 25 x.metadata y.metadata g.metadata h.metadata) λ d k.
    bind_gives _ (pour_keeps _ (Every (Plain (WellFormedType 32))) (Plain (WellFormedType 32)) (merge_by_name_keeps (WellFormedType 32) parked (merge_type parked 32) (is_null 32) (type_keeps parked 32)) x.columns y.columns
    (each_every (λ seen k. Plain (WellFormedType 32) k) (Plain (WellFormedType 32)) (λ s x w. w) [] x.columns g.columns)
    (each_every (λ seen k. Plain (WellFormedType 32) k) (Plain (WellFormedType 32)) (λ s x w. w) [] y.columns h.columns)) λ cs q.
    value (record { metadata = k; columns = every_each (Plain (WellFormedType 32)) [] cs q })

pub empty_well_formed : WellFormedSchema empty
empty_well_formed = record { metadata = tt; columns = tt }

-- so what is merged from well-formed schemas is one
pub merge_keeps : (parked : Bool) (i : ℕ) (x : Schema) (ys : List Schema) → WellFormedSchema x → Every WellFormedSchema ys
    → Holds (λ z e. WellFormedSchema z) (merge_from parked i x ys)
unfolding merge_from
merge_keeps parked i x [] g f = steps.value g
merge_keeps parked i x (y ∷ ys) g f = next_holds (placed_holds i (schema_keeps parked x y g f.0)) λ z j h. merge_keeps parked j z ys h f.1
