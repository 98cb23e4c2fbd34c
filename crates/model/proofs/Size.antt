-- A merge never makes more than it was given: what it gives is written in at most as many bytes as the two that it merged.
use Prim.Native.Nat.{ℕ, zero, suc, ◌+◌, ◌≤◌}
use native.Mathlib.Omega.{arith}
use mathlib.Core.Path.{◌≡◌, refl, sym, ap, subst, ◌∙◌}
use mathlib.Core.List.{List, [], ◌∷◌, ◌++◌}
use mathlib.Core.Bool.{Bool}
use lib.ListN.{length, length-append}
use borrow.Author.Tests.{eqb-true, not-false}
use Rattle.model.specs.Numbers.{max_levels, schema_metadata_clash, field_metadata_clash, ordered_clash, equal_child_clash, type_clash, type_id_clash}
use Rattle.model.specs.Bytes.{Bytes, Metadata, u16}
use Rattle.model.specs.Tree.{FieldOver, DataType, Schema, Children, fields, counted, counted_with_ids, layout, with_children, Struct, Union}
use Rattle.model.specs.Sheet.{front_bytes, each, with_count, part, pair_bytes, head_bytes, field_bytes, children_bytes, type_bytes, column_bytes, sheet_bytes}
use Rattle.model.specs.Read.{got, next}
use Rattle.model.specs.Equal.{same_type}
use Rattle.model.specs.Growth.{child_bytes}
use Rattle.model.specs.Merge.{Merged, done, clash, pour, merge_pair, merge_metadata, merge_by_name, merge_child, merge_field, merge_each, is_null, merge_same_code, merge_type, merge_schema, empty, placed, merge_from, try_merge}
use Rattle.model.proofs.Lists.{length_each_append}
use Rattle.model.proofs.Layouts.{struct_children, union_children, list_children}
use Rattle.model.proofs.Gives.{Gives, value, refusal, bind_gives, need_gives, choose_gives, gives_map}

-- Lists

module _ {A : Type 0} (f : A → Bytes) where
  -- A count takes two bytes, however much it counts.
  pub length_with_count : (xs : List A) → length (with_count f xs) ≡ length (each f xs) + 2
  unfolding with_count u16
  length_with_count xs = omega arith

  -- The third list has at most as many elements as the first two together, and is written in at most as many bytes.
  pub record Within (xs ys r : List A) : Type 0 where
    pub count : length r ≤ length xs + length ys
    pub bytes : length (each f r) ≤ length (each f xs) + length (each f ys)

  within_left : (xs ys : List A) → Within xs ys xs
  within_left xs ys = record { count = omega arith; bytes = omega arith }

  -- a new one, put before them
  within_new : (y : A) (xs : List A) → Within xs (y ∷ []) (y ∷ xs)
  within_new y xs = record { count = omega arith; bytes = omega (arith, length-append (f y) (each f xs), length-append (f y) []) }

  -- the first of each merged
  within_both : {x y z : A} {xs ys zs : List A} → length (f z) ≤ length (f x) + length (f y) → Within xs ys zs → Within (x ∷ xs) (y ∷ ys) (z ∷ zs)
  within_both {x} {y} {z} {xs} {ys} {zs} h k =
      record {
        count = omega (arith, k.count);
        bytes = omega (arith, h, k.bytes, length-append (f x) (each f xs), length-append (f y) (each f ys), length-append (f z) (each f zs));
      }

  within_cons : (x : A) {xs ys r : List A} → Within xs ys r → Within (x ∷ xs) ys (x ∷ r)
  within_cons x {xs} {ys} {r} h =
      record { count = omega (arith, h.count); bytes = omega (arith, h.bytes, length-append (f x) (each f xs), length-append (f x) (each f r)) }

  -- one list after the other
  within_append : (xs ys : List A) {r : List A} → Within [] (xs ++ ys) r → Within xs ys r
  within_append xs ys h = record { count = omega (arith, h.count, length-append xs ys); bytes = omega (arith, h.bytes, length_each_append f xs ys) }

  -- Then, with counts before them, two bytes are saved at least: there is one count fewer.
  pub with_count_within : {xs ys r : List A} → Within xs ys r → length (with_count f r) + 2 ≤ length (with_count f xs) + length (with_count f ys)
  with_count_within {xs} {ys} {r} h = omega (arith, h.bytes, length_with_count xs, length_with_count ys, length_with_count r)

  -- As parts under a bit they are within each other too, where the empty list is written as nothing, not even a count.
  pub part_within : (xs ys r : List A) → Within xs ys r → length (part (with_count f) r) ≤ length (part (with_count f) xs) + length (part (with_count f) ys)
  part_within xs ys [] h = omega arith
  part_within [] [] (z ∷ r) h = absurd (omega (arith, h.count))
  part_within [] (y ∷ ys) (z ∷ r) h = omega (arith, with_count_within h, length_with_count [])
  part_within (x ∷ xs) [] (z ∷ r) h = omega (arith, with_count_within h, length_with_count [])
  part_within (x ∷ xs) (y ∷ ys) (z ∷ r) h = omega (arith, with_count_within h)

  -- If no step makes more than it was given, nor do all of them, one after the other.
  pub pour_within : (put : List A → A → Merged (List A)) → ((xs : List A) (y : A) → Gives (Within xs (y ∷ [])) (put xs y))
      → (xs ys : List A) → Gives (Within xs ys) (pour put xs ys)
  unfolding pour
  pour_within put step xs [] = value (within_left xs [])
  pour_within put step xs (y ∷ ys) =
      bind_gives _ (step xs y) λ r h.
      gives_map (pour_within put step r ys) λ q k.
      record { count = omega (arith, h.count, k.count); bytes = omega (arith, h.bytes, k.bytes, length-append (f y) (each f ys), length-append (f y) []) }

-- Metadata

pair_step : (n : ℕ) (m : Metadata) (p : Bytes × Bytes) → Gives (Within pair_bytes m (p ∷ [])) (merge_pair n m p)
unfolding merge_pair
pair_step n [] p = value {a = p ∷ []} (within_new pair_bytes p [])
pair_step n (q ∷ qs) p =
    choose_gives _ _ _ (λ b. bind_gives _ (pair_step n qs p) λ r h. value {a = q ∷ r} (within_cons pair_bytes q h)) λ b.
    choose_gives _ _ _ (λ b. value {a = p ∷ q ∷ qs} (within_new pair_bytes p (q ∷ qs))) λ b.
    need_gives _ n (q ∷ qs) λ e. within_left pair_bytes (q ∷ qs) (p ∷ [])

-- Merged metadata has at most as many pairs as the two together, and at most as many bytes.
pub metadata_size : (n : ℕ) (a b : Metadata) → Gives (Within pair_bytes a b) (merge_metadata n a b)
unfolding merge_metadata
metadata_size n a b = pour_within pair_bytes (merge_pair n) (pair_step n) a b

-- So with the count that a field or a sheet writes before it, unless it is empty.
pub metadata_part_size : (n : ℕ) (a b : Metadata)
    → Gives (λ m. length (part (with_count pair_bytes) m) ≤ length (part (with_count pair_bytes) a) + length (part (with_count pair_bytes) b)) (merge_metadata n a b)
metadata_part_size n a b = gives_map (metadata_size n a b) λ m h. part_within pair_bytes a b m h

-- Fields

module _ {T : Type 0} (f : T → Bytes) (merge : FieldOver T → FieldOver T → Merged (FieldOver T))
    (merge-size : (g h : FieldOver T) → Gives (λ r. length (field_bytes f r) ≤ length (field_bytes f g) + length (field_bytes f h)) (merge g h)) where
  by_name_step : (gs : List (FieldOver T)) (x : FieldOver T) → Gives (Within (field_bytes f) gs (x ∷ [])) (merge_by_name merge gs x)
  unfolding merge_by_name
  by_name_step [] x = value {a = x ∷ []} (within_new (field_bytes f) x [])
  by_name_step (g ∷ gs) x =
      choose_gives _ _ _ (λ b. bind_gives _ (merge-size g x) λ h k. value {a = h ∷ gs} (within_both (field_bytes f) k (within_left (field_bytes f) gs []))) λ b.
      bind_gives _ (by_name_step gs x) λ r h. value {a = g ∷ r} (within_cons (field_bytes f) g h)

  -- If no merge of two fields makes more bytes than it was given, nor does a merge of lists of fields by name; and it makes no more fields.
  pub by_name_size : (gs fs : List (FieldOver T)) → Gives (Within (field_bytes f) gs fs) (pour (merge_by_name merge) gs fs)
  by_name_size gs fs = pour_within (field_bytes f) (merge_by_name merge) by_name_step gs fs

child_step : {T : Type 0} (f : T → Bytes) (eq : T → T → Bool) (gs : List (FieldOver T)) (x : FieldOver T)
    → Gives (Within (child_bytes f) gs (x ∷ [])) (merge_child eq gs x)
unfolding merge_child
child_step f eq [] x = value {a = x ∷ []} (within_new (child_bytes f) x [])
child_step f eq (g ∷ gs) x =
    choose_gives _ _ _ (λ b. need_gives _ equal_child_clash (g ∷ gs) λ e. within_left (child_bytes f) (g ∷ gs) (x ∷ [])) λ b.
    bind_gives _ (child_step f eq gs x) λ r h. value {a = g ∷ r} (within_cons (child_bytes f) g h)

-- Merged unions have at most as many children as the two together, and at most as many bytes of children with their ids.
pub children_size : {T : Type 0} (f : T → Bytes) (eq : T → T → Bool) (gs fs : List (FieldOver T))
    → Gives (Within (child_bytes f) gs fs) (pour (merge_child eq) gs fs)
children_size f eq gs fs = pour_within (child_bytes f) (merge_child eq) (child_step f eq) gs fs

module _ {T : Type 0} (w : T → Bytes) (parked : Bool) (merge : T → T → Merged T) (is_null : T → Bool) (saved : ℕ)
    (merge-size : (a b : T) → Gives (λ t. length (w t) + saved ≤ length (w a) + length (w b)) (merge a b)) where
  -- If a merge of types saves so many bytes at least, a merge of fields saves one more: two had a map, one is left.
  pub field_size : (f g : FieldOver T)
      → Gives (λ h. length (field_bytes w h) + suc saved ≤ length (field_bytes w f) + length (field_bytes w g)) (merge_field parked merge is_null f g)
  unfolding merge_field field_bytes head_bytes front_bytes
  field_size f g =
      bind_gives {P = λ u. Unit {0}} _ (need_gives _ ordered_clash tt λ e. tt) λ u z.
      bind_gives _ (metadata_part_size field_metadata_clash f.head.metadata g.head.metadata) λ m k.
      bind_gives _ (merge-size f.data_type g.data_type) λ t q.
      value (simp length-append (omega (arith, k, q)))

  -- So a merge of the fields of two schemas or two structs makes no more fields than it was given, and no more bytes.
  pub fields_size : (gs fs : List (FieldOver T)) → Gives (Within (field_bytes w) gs fs) (pour (merge_by_name (merge_field parked merge is_null)) gs fs)
  fields_size = by_name_size w (merge_field parked merge is_null) λ g h. gives_map (field_size g h) λ r k. omega (arith, k)

  -- So for the child of a list type and that of another.
  pub each_size : (fs gs : List (FieldOver T)) → Gives (Within (field_bytes w) fs gs) (merge_each parked merge is_null fs gs)
  unfolding merge_each
  each_size [] gs = value (within_left (field_bytes w) [] gs)
  each_size (f ∷ fs) [] = value (within_left (field_bytes w) (f ∷ fs) [])
  each_size (f ∷ fs) (g ∷ gs) =
      bind_gives _ (field_size f g) λ h p.
      bind_gives _ (each_size fs gs) λ hs q.
      value {a = h ∷ hs} (within_both (field_bytes w) (omega (arith, p)) q)

-- Types

-- The bytes of a type: its code, its parameters, its children.
pub length_type_bytes : (l : ℕ) (t : DataType (suc l)) {k : Children} → (layout t.code).children ≡ k
    → length (type_bytes (suc l) t) ≡ 1 + length t.params + length (children_bytes (type_bytes l) k t.children)
unfolding type_bytes
length_type_bytes l t e =
    subst (λ k. length (type_bytes (suc l) t) ≡ 1 + length t.params + length (children_bytes (type_bytes l) k t.children)) e
    (simp length-append (omega arith))

-- a type of the first's code and parameters, whose children are no longer than those of the two
same_code_size : (l : ℕ) (a b : DataType (suc l)) (k : Children) (ks : List (FieldOver (DataType l))) → a.code ≡ b.code → (layout a.code).children ≡ k
    → length (children_bytes (type_bytes l) k ks) ≤ length (children_bytes (type_bytes l) k a.children) + length (children_bytes (type_bytes l) k b.children)
    → length (type_bytes (suc l) (with_children a ks)) + 1 ≤ length (type_bytes (suc l) a) + length (type_bytes (suc l) b)
same_code_size l a b k ks same e h =
    let e' : (layout b.code).children ≡ k = ap (λ c. (layout c).children) (sym same) ∙ e in
    omega (arith, h, length_type_bytes l (with_children a ks) e, length_type_bytes l a e, length_type_bytes l b e')

-- A merge of types saves a byte at least: two had a code, one is left.
pub type_size : (parked : Bool) (l : ℕ) (a b : DataType l) → Gives (λ t. length (type_bytes l t) + 1 ≤ length (type_bytes l a) + length (type_bytes l b)) (merge_type parked l a b)
unfolding merge_type merge_same_code children_bytes
type_size parked zero a b = absurd a
type_size parked (suc l) a b =
    choose_gives _ _ _ (λ p. value (omega (arith, length_type_bytes l a refl))) λ p.
    choose_gives _ _ _ (λ p. value (omega (arith, length_type_bytes l b refl))) λ p.
    choose_gives _ _ _ (λ p. refusal) λ d.
    let same : a.code ≡ b.code = eqb-true _ _ (not-false _ d) in
    choose_gives _ _ _ (λ p.
    bind_gives _ (fields_size (type_bytes l) parked (merge_type parked l) (is_null l) 1 (type_size parked l) [] (a.children ++ b.children)) λ ks k.
    let q = within_append (field_bytes (type_bytes l)) a.children b.children k in
    value (same_code_size l a b counted ks same (struct_children _ (eqb-true _ Struct p)) (omega (arith, with_count_within (field_bytes (type_bytes l)) q)))) λ p.
    choose_gives _ _ _ (λ p.
    bind_gives _ (children_size (type_bytes l) (same_type l) a.children b.children) λ ks k.
    need_gives _ type_id_clash (with_children a ks) λ i.
    same_code_size l a b counted_with_ids ks same (union_children _ (eqb-true _ Union p)) (omega (arith, with_count_within (child_bytes (type_bytes l)) k))) λ p.
    choose_gives _ _ _ (λ p.
    bind_gives _ (each_size (type_bytes l) parked (merge_type parked l) (is_null l) 1 (type_size parked l) a.children b.children) λ ks k.
    value (same_code_size l a b (fields 1) ks same (list_children _ p) k.bytes)) λ p.
    need_gives _ type_clash a λ e. omega (arith, length_type_bytes l b refl)

-- Schemas

-- A merge of schemas saves a byte at least: two sheets had a map, one is left.
pub schema_size : (parked : Bool) (x y : Schema) → Gives (λ z. length (sheet_bytes z) + 1 ≤ length (sheet_bytes x) + length (sheet_bytes y)) (merge_schema parked x y)
unfolding merge_schema sheet_bytes
schema_size parked x y =
    bind_gives _ (metadata_part_size schema_metadata_clash x.metadata y.metadata) λ m k.
    bind_gives _ (fields_size (type_bytes max_levels) parked (merge_type parked max_levels) (is_null max_levels) 1 (type_size parked max_levels) x.columns y.columns) λ cs q.
    value (simp length-append (omega (arith, k, part_within column_bytes x.columns y.columns cs q)))

-- So a byte for each sheet merged onto what there is.
pub from_size : (parked : Bool) (i : ℕ) (x : Schema) (ys : List Schema) (z : Schema) (e : ℕ) → merge_from parked i x ys ≡ got z e
    → length (sheet_bytes z) + length ys ≤ length (sheet_bytes x) + length (each sheet_bytes ys)
unfolding merge_from next placed
from_size parked i x [] z e h = let same : x ≡ z = cc in omega (arith, ap (λ x. length (sheet_bytes x)) same)
from_size parked i x (y ∷ ys) z e h = go (merge_schema parked x y) (schema_size parked x y) (λ w. from_size parked (suc i) w ys z e) h
  where
    go : (r : Merged Schema) → Gives (λ w. length (sheet_bytes w) + 1 ≤ length (sheet_bytes x) + length (sheet_bytes y)) r
        → ((w : Schema) → merge_from parked (suc i) w ys ≡ got z e → length (sheet_bytes z) + length ys ≤ length (sheet_bytes w) + length (each sheet_bytes ys))
        → next (placed i r) (λ w j. merge_from parked j w ys) ≡ got z e
        → length (sheet_bytes z) + suc (length ys) ≤ length (sheet_bytes x) + length (each sheet_bytes (y ∷ ys))
    go (done w) (value g) k h = omega (arith, g, k w h, length-append (sheet_bytes y) (each sheet_bytes ys))
    go (clash n) refusal k h = let z : ◌≡◌ {A = ℕ} 0 1 = cc in absurd (omega arith)

-- The merge of a train is written in at most as many bytes as its sheets, less one for each sheet but the first; that of no sheets in one.
pub train_size : (parked : Bool) (xs : List Schema) (z : Schema) (e : ℕ) → try_merge parked xs ≡ got z e → length (sheet_bytes z) + length xs ≤ 1 + length (each sheet_bytes xs)
unfolding try_merge sheet_bytes
train_size parked xs z e h = from_size parked 0 empty xs z e h
