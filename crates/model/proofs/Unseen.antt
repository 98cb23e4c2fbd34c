-- What the comparisons see of a head. Where heads change in the rest, at any depth, each answers as before: plain equality sees no order
-- flag, `equals_datatype` no name, metadata or order flag, and none of the three sees a dictionary number.
use Prim.Native.Nat.{ℕ, zero, suc}
use mathlib.Core.Path.{◌≡◌, refl, ap, ap₂, ◌∙◌}
use mathlib.Core.List.{List, [], ◌∷◌, map}
use mathlib.Core.Bool.{Bool, false, not, ◌&&◌, ◌||◌, beq}
use lib.ListN.{length-map}
use lib.Dec.{eqb}
use Rattle.model.specs.Numbers.{max_levels}
use Rattle.model.specs.Bytes.{choose, all, any, same, same_bytes}
use Rattle.model.specs.Tree.{Head, FieldOver, DataType, Field, Schema, Union, RunEndEncoded, with_children}
use Rattle.model.specs.Equal.{same_metadata, same_field, same_child, same_type, same_columns}
use Rattle.model.specs.Datatype.{equals_field, equals_child, equals_datatype, equals_columns, contains_metadata, contains_field, contains_child, contains, contains_schema}

-- Other heads, at every depth

-- a field with another head, and another type
abbrev pub rehead_over : {T : Type 0} → (Head → Head) → (T → T) → FieldOver T → FieldOver T
rehead_over φ g f = record { head = φ f.head; data_type = g f.data_type }

-- every field below a type, at every depth, with the head that the function gives for its own; nothing else changes
unfoldable pub rehead : (Head → Head) → (l : ℕ) → DataType l → DataType l
rehead φ zero t = t
rehead φ (suc l) t = with_children t (map (rehead_over φ (rehead φ l)) t.children)

abbrev pub rehead_field : (Head → Head) → (l : ℕ) → Field l → Field l
rehead_field φ l f = rehead_over φ (rehead φ l) f

abbrev pub rehead_schema : (Head → Head) → Schema → Schema
rehead_schema φ x = record { metadata = x.metadata; columns = map (rehead_field φ max_levels) x.columns }

-- Lists of such fields

module _ {A B : Type 0} where
  -- lists of images compare as the lists do, where the images of any two compare as the two do
  same_map : (R : B → B → Bool) (S : A → A → Bool) (f g : A → B) → ((x y : A) → R (f x) (g y) ≡ S x y)
      → (xs ys : List A) → same R (map f xs) (map g ys) ≡ same S xs ys
  unfolding same
  same_map R S f g h [] [] = refl
  same_map R S f g h [] (y ∷ ys) = refl
  same_map R S f g h (x ∷ xs) [] = refl
  same_map R S f g h (x ∷ xs) (y ∷ ys) = ap₂ ◌&&◌ (h x y) (same_map R S f g h xs ys)

  any_map : (p : B → Bool) (q : A → Bool) (f : A → B) → ((x : A) → p (f x) ≡ q x) → (xs : List A) → any p (map f xs) ≡ any q xs
  unfolding any
  any_map p q f h [] = refl
  any_map p q f h (x ∷ xs) = ap₂ ◌||◌ (h x) (any_map p q f h xs)

  all_map : (p : B → Bool) (q : A → Bool) (f : A → B) → ((x : A) → p (f x) ≡ q x) → (xs : List A) → all p (map f xs) ≡ all q xs
  unfolding all
  all_map p q f h [] = refl
  all_map p q f h (x ∷ xs) = ap₂ ◌&&◌ (h x) (all_map p q f h xs)

-- What is seen

-- a head as plain equality sees it (`PartialEq for Field`); the id belongs to the union
abbrev pub seen_by_equal : Head → Head
seen_by_equal h = record { type_id = h.type_id; nullable = h.nullable; dict_is_ordered = false; name = h.name; metadata = h.metadata; dict_id = 0 }

-- as containment sees it (`Field::contains`)
abbrev pub seen_by_contains : Head → Head
seen_by_contains h = record { type_id = h.type_id; nullable = h.nullable; dict_is_ordered = h.dict_is_ordered; name = h.name; metadata = h.metadata; dict_id = 0 }

-- as `equals_datatype` sees it
abbrev pub seen_by_equals_datatype : Head → Head
seen_by_equals_datatype h = record { type_id = h.type_id; nullable = h.nullable; dict_is_ordered = false; name = []; metadata = []; dict_id = 0 }

-- a change of heads that is not seen
abbrev pub Unseen : (Head → Head) → (Head → Head) → Type 0
Unseen seen φ = (h : Head) → seen (φ h) ≡ seen h

-- Plain equality

module _ (φ ψ : Head → Head) (unseen : Unseen seen_by_equal φ) (unseen' : Unseen seen_by_equal ψ) where
  module _ {T : Type 0} (eq : T → T → Bool) (g h : T → T) (e : (a b : T) → eq (g a) (h b) ≡ eq a b) where
    same_field_lem : (x y : FieldOver T) → same_field eq (rehead_over φ g x) (rehead_over ψ h y) ≡ same_field eq x y
    unfolding same_field
    same_field_lem x y =
        let seen : Head → Head → Bool → Bool =
        λ a b t. same_bytes a.name b.name && t && beq a.nullable b.nullable && same_metadata a.metadata b.metadata in
        ap₂ (λ a b. seen a b (eq (g x.data_type) (h y.data_type))) (unseen x.head) (unseen' y.head) ∙ ap (seen x.head y.head) (e x.data_type y.data_type)

    same_child_lem : (x y : FieldOver T) → same_child eq (rehead_over φ g x) (rehead_over ψ h y) ≡ same_child eq x y
    unfolding same_child
    same_child_lem x y = ap₂ ◌&&◌ (ap₂ (λ a b. eqb a.type_id b.type_id) (unseen x.head) (unseen' y.head)) (same_field_lem x y)

  pub same_type_rehead : (l : ℕ) (a b : DataType l) → same_type l (rehead φ l a) (rehead ψ l b) ≡ same_type l a b
  unfolding same_type rehead
  same_type_rehead zero a b = refl
  same_type_rehead (suc l) a b =
      ap (λ s. eqb a.code b.code && same_bytes a.params b.params && s)
      (same_map _ _ _ _ (same_child_lem (same_type l) (rehead φ l) (rehead ψ l) (same_type_rehead l)) a.children b.children)

  -- of two fields: not the field's own head, nor those below it
  pub same_field_rehead : (l : ℕ) (f g : Field l) → same_field (same_type l) (rehead_field φ l f) (rehead_field ψ l g) ≡ same_field (same_type l) f g
  same_field_rehead l f g = same_field_lem (same_type l) (rehead φ l) (rehead ψ l) (same_type_rehead l) f g

  pub same_columns_rehead : (x y : Schema) → same_columns (rehead_schema φ x) (rehead_schema ψ y) ≡ same_columns x y
  unfolding same_columns
  same_columns_rehead x y =
      same_map _ _ _ _ (same_child_lem (same_type max_levels) (rehead φ max_levels) (rehead ψ max_levels) (same_type_rehead max_levels)) x.columns y.columns

-- Containment

-- what it does not see, plain equality does not: RunEndEncoded is compared by that
equal_too : (φ : Head → Head) → Unseen seen_by_contains φ → Unseen seen_by_equal φ
equal_too φ unseen h = ap seen_by_equal (unseen h)

module _ (φ ψ : Head → Head) (unseen : Unseen seen_by_contains φ) (unseen' : Unseen seen_by_contains ψ) where
  module _ {T : Type 0} (eq : T → T → Bool) (g h : T → T) (e : (a b : T) → eq (g a) (h b) ≡ eq a b) where
    contains_field_lem : (x y : FieldOver T) → contains_field eq (rehead_over φ g x) (rehead_over ψ h y) ≡ contains_field eq x y
    unfolding contains_field
    contains_field_lem x y =
        let seen : Head → Head → Bool → Bool =
        λ a b t. same_bytes a.name b.name && t && beq a.dict_is_ordered b.dict_is_ordered && (a.nullable || not b.nullable) && contains_metadata a.metadata b.metadata in
        ap₂ (λ a b. seen a b (eq (g x.data_type) (h y.data_type))) (unseen x.head) (unseen' y.head) ∙ ap (seen x.head y.head) (e x.data_type y.data_type)

    contains_child_lem : (x y : FieldOver T) → contains_child eq (rehead_over φ g x) (rehead_over ψ h y) ≡ contains_child eq x y
    unfolding contains_child
    contains_child_lem x y = ap₂ ◌&&◌ (ap₂ (λ a b. eqb a.type_id b.type_id) (unseen x.head) (unseen' y.head)) (contains_field_lem x y)

  pub contains_rehead : (l : ℕ) (a b : DataType l) → contains l (rehead φ l a) (rehead ψ l b) ≡ contains l a b
  unfolding contains rehead
  contains_rehead zero a b = refl
  contains_rehead (suc l) a b =
      let equal = same_type_rehead φ ψ (equal_too φ unseen) (equal_too ψ unseen') (suc l) a b in
      let child = contains_child_lem (contains l) (rehead φ l) (rehead ψ l) (contains_rehead l) in
      let field = contains_field_lem (contains l) (rehead φ l) (rehead ψ l) (contains_rehead l) in
      ap (λ c. eqb a.code b.code && same_bytes a.params b.params && c)
      (ap₂ (λ r s. choose (eqb a.code RunEndEncoded) (λ u. r) λ u. s) equal
      (ap₂ (λ u s. choose (eqb a.code Union) (λ w. u) λ w. s)
      (all_map _ _ _ (λ x. any_map _ _ _ (child x) b.children) a.children)
      (same_map _ _ _ _ field a.children b.children)))

  pub contains_schema_rehead : (x y : Schema) → contains_schema (rehead_schema φ x) (rehead_schema ψ y) ≡ contains_schema x y
  unfolding contains_schema
  contains_schema_rehead x y =
      ap (λ s. s && contains_metadata x.metadata y.metadata)
      (same_map _ _ _ _ (contains_field_lem (contains max_levels) (rehead φ max_levels) (rehead ψ max_levels) (contains_rehead max_levels)) x.columns y.columns)

-- `equals_datatype`

module _ (φ ψ : Head → Head) (unseen : Unseen seen_by_equals_datatype φ) (unseen' : Unseen seen_by_equals_datatype ψ) where
  module _ {T : Type 0} (eq : T → T → Bool) (g h : T → T) (e : (a b : T) → eq (g a) (h b) ≡ eq a b) where
    equals_field_lem : (x y : FieldOver T) → equals_field eq (rehead_over φ g x) (rehead_over ψ h y) ≡ equals_field eq x y
    unfolding equals_field
    equals_field_lem x y = ap₂ ◌&&◌ (ap₂ (λ a b. beq a.nullable b.nullable) (unseen x.head) (unseen' y.head)) (e x.data_type y.data_type)

    equals_child_lem : (x y : FieldOver T) → equals_child eq (rehead_over φ g x) (rehead_over ψ h y) ≡ equals_child eq x y
    unfolding equals_child
    equals_child_lem x y = ap₂ ◌&&◌ (ap₂ (λ a b. eqb a.type_id b.type_id) (unseen x.head) (unseen' y.head)) (equals_field_lem x y)

  pub equals_datatype_rehead : (l : ℕ) (a b : DataType l) → equals_datatype l (rehead φ l a) (rehead ψ l b) ≡ equals_datatype l a b
  unfolding equals_datatype rehead
  equals_datatype_rehead zero a b = refl
  equals_datatype_rehead (suc l) a b =
      let child = equals_child_lem (equals_datatype l) (rehead φ l) (rehead ψ l) (equals_datatype_rehead l) in
      let field = equals_field_lem (equals_datatype l) (rehead φ l) (rehead ψ l) (equals_datatype_rehead l) in
      let counts = ap₂ eqb (length-map a.children (rehead_field φ l)) (length-map b.children (rehead_field ψ l)) in
      let matches = all_map _ _ _ (λ x. any_map _ _ _ (child x) b.children) a.children in
      ap (λ c. eqb a.code b.code && same_bytes a.params b.params && c)
      (ap₂ (λ u s. choose (eqb a.code Union) (λ w. u) λ w. s) (ap₂ ◌&&◌ counts matches) (same_map _ _ _ _ field a.children b.children))

  pub equals_columns_rehead : (x y : Schema) → equals_columns (rehead_schema φ x) (rehead_schema ψ y) ≡ equals_columns x y
  unfolding equals_columns
  equals_columns_rehead x y =
      let field = equals_field_lem (equals_datatype max_levels) (rehead φ max_levels) (rehead ψ max_levels) (equals_datatype_rehead max_levels) in
      same_map _ _ _ _ field x.columns y.columns

-- Dictionary numbers: "equality and containment ignore it"

-- a head with another dictionary number
abbrev pub with_dict_id : (Head → ℕ) → Head → Head
with_dict_id ι h = record { type_id = h.type_id; nullable = h.nullable; dict_is_ordered = h.dict_is_ordered; name = h.name; metadata = h.metadata; dict_id = ι h }

-- every field's, at every depth, is what the function says of its head
abbrev pub renumber : (Head → ℕ) → Schema → Schema
renumber ι = rehead_schema (with_dict_id ι)

-- each comparison of two schemas answers as before
pub record SameAnswers (x y x' y' : Schema) : Type 0 where
  pub equal : same_columns x' y' ≡ same_columns x y
  pub equals_datatype : equals_columns x' y' ≡ equals_columns x y
  pub contains : contains_schema x' y' ≡ contains_schema x y

pub dict_ids_unseen : (ι κ : Head → ℕ) (x y : Schema) → SameAnswers x y (renumber ι x) (renumber κ y)
dict_ids_unseen ι κ x y = record {
  equal = same_columns_rehead _ _ (λ h. refl) (λ h. refl) x y;
  equals_datatype = equals_columns_rehead _ _ (λ h. refl) (λ h. refl) x y;
  contains = contains_schema_rehead _ _ (λ h. refl) (λ h. refl) x y;
}
