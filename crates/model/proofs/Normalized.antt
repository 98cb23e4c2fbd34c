-- What the columns of a normalised schema are: each has the nullability and the type of the field that it was made of.
use Prim.Native.Nat.{ℕ, zero, suc}
use mathlib.Core.Path.{◌≡◌, refl, sym, ap, ap₂, ◌∙◌}
use mathlib.Core.List.{List, [], ◌∷◌, ◌++◌, map, append_assoc}
use mathlib.Core.Bool.{Bool, true, false, ◌&&◌, ◌||◌}
use lib.ListN.{length-map}
use lib.Dec.{eqb, ltb}
use Rattle.model.specs.Numbers.{max_levels}
use Rattle.model.specs.Bytes.{Bytes, choose, Every, u16}
use Rattle.model.specs.Tree.{Head, FieldOver, DataType, Field, Struct, Children, fields, key_and_value, counted, counted_with_ids, layout}
use Rattle.model.specs.Sheet.{each, with_count, head_bytes, field_bytes, children_bytes, type_bytes}
use Rattle.model.specs.Schema.{lift, plain_column, join, expand, normalized_columns}
use Rattle.model.proofs.Gives.{choose_true, choose_false}
use Rattle.model.proofs.Lists.{every_append}

-- A type with a level to spare

module _ {A B : Type 0} (f : A → Bytes) (g : B → Bytes) (h : A → B) (e : (a : A) → g (h a) ≡ f a) where
  each_map : (xs : List A) → each g (map h xs) ≡ each f xs
  each_map [] = refl
  each_map (x ∷ xs) = ap₂ ◌++◌ (e x) (each_map xs)

  with_count_map : (xs : List A) → with_count g (map h xs) ≡ with_count f xs
  unfolding with_count
  with_count_map xs = ap₂ (λ n y. u16 n ++ y) (length-map xs h) (each_map xs)

children_map : {S T : Type 0} (f : S → Bytes) (g : T → Bytes) (h : S → T) → ((s : S) → g (h s) ≡ f s) → (k : Children) (ks : List (FieldOver S))
    → children_bytes g k (map (λ x. record { head = x.head; data_type = h x.data_type }) ks) ≡ children_bytes f k ks
unfolding children_bytes field_bytes
children_map f g h e (fields n) ks = each_map _ _ _ (λ x. ap (λ y. head_bytes x.head ++ y) (e x.data_type)) ks
children_map f g h e key_and_value ks = each_map _ _ _ (λ x. e x.data_type) ks
children_map f g h e counted ks = with_count_map _ _ _ (λ x. ap (λ y. head_bytes x.head ++ y) (e x.data_type)) ks
children_map f g h e counted_with_ids ks = with_count_map _ _ _ (λ x. ap (λ y. x.head.type_id ∷ (head_bytes x.head ++ y)) (e x.data_type)) ks

-- a type is written by the same bytes with a level to spare
pub lift_bytes : (l : ℕ) (t : DataType l) → type_bytes (suc l) (lift l t) ≡ type_bytes l t
unfolding lift type_bytes
lift_bytes zero t = absurd t
lift_bytes (suc l) t =
    ap (λ y. t.code ∷ (t.params ++ y)) (children_map (type_bytes l) (type_bytes (suc l)) (lift l) (lift_bytes l) (layout t.code).children t.children)

-- Lists end to end

map_append : {A B : Type 0} (g : A → B) (xs ys : List A) → map g (xs ++ ys) ≡ map g xs ++ map g ys
map_append g [] ys = refl
map_append g (x ∷ xs) ys = ap (λ r. g x ∷ r) (map_append g xs ys)

map_join : {A B C : Type 0} (g : B → C) (f : A → List B) (h : A → List C) → ((x : A) → map g (f x) ≡ h x) → (xs : List A) → map g (join f xs) ≡ join h xs
unfolding join
map_join g f h e [] = refl
map_join g f h e (x ∷ xs) = map_append g (f x) (join f xs) ∙ ap₂ ◌++◌ (e x) (map_join g f h e xs)

every_join : {A B : Type 0} (P : B → Type 0) (f : A → List B) → ((x : A) → Every P (f x)) → (xs : List A) → Every P (join f xs)
unfolding join
every_join P f h [] = tt
every_join P f h (x ∷ xs) = every_append P (f x) (join f xs) (h x) (every_join P f h xs)

pub join_append : {A B : Type 0} (f : A → List B) (xs ys : List A) → join f (xs ++ ys) ≡ join f xs ++ join f ys
unfolding join
join_append f [] ys = refl
join_append f (x ∷ xs) ys = ap (λ r. f x ++ r) (join_append f xs ys) ∙ sym (append_assoc (f x) (join f xs) (join f ys))

pub join_same : {A B : Type 0} (f g : A → List B) → ((x : A) → f x ≡ g x) → (xs : List A) → join f xs ≡ join g xs
unfolding join
join_same f g e [] = refl
join_same f g e (x ∷ xs) = ap₂ ◌++◌ (e x) (join_same f g e xs)

-- The fields that are written as columns

-- the nullability and the type's bytes of each field that becomes a column: those of a Struct's children where it is opened, else the field's own
unfoldable pub written_fields : (maxLevel l depth : ℕ) → Field l → List (Bool × Bytes)
written_fields maxLevel zero depth f = absurd f.data_type
written_fields maxLevel (suc l) depth f =
    choose (eqb f.data_type.code Struct && (eqb maxLevel 0 || ltb depth maxLevel))
    (λ u. join (written_fields maxLevel l (suc depth)) f.data_type.children) λ u.
    (f.head.nullable, type_bytes (suc l) f.data_type) ∷ []

-- the same of a column
abbrev pub written : Field max_levels → Bool × Bytes
written c = (c.head.nullable, type_bytes max_levels c.data_type)

map_choose : {A B : Type 0} (g : A → B) (b : Bool) (x y : Unit {0} → A) (v w : Unit {0} → B)
    → g (x tt) ≡ v tt → g (y tt) ≡ w tt → g (choose b x y) ≡ choose b v w
unfolding choose
map_choose g true x y v w h k = h
map_choose g false x y v w h k = k

of_choose : {A : Type 0} (P : A → Type 0) (b : Bool) (x y : Unit {0} → A) → P (x tt) → P (y tt) → P (choose b x y)
unfolding choose
of_choose P true x y h k = h
of_choose P false x y h k = k

-- a column without metadata and order flag
pub record Plain (c : Field max_levels) : Type 0 where
  pub type_id : c.head.type_id ≡ 0
  pub dict_is_ordered : c.head.dict_is_ordered ≡ false
  pub metadata : c.head.metadata ≡ []
  pub dict_id : c.head.dict_id ≡ 0

module _ (separator : Bytes) (maxLevel : ℕ) where
  -- the name that a child's columns begin with
  abbrev under : {T : Type 0} → Bytes → FieldOver T → Bytes
  under name c = name ++ (separator ++ c.head.name)

  -- a Struct that is expanded becomes the columns of its children, any other field one column
  module _ (l : ℕ) (up : DataType (suc l) → DataType max_levels) (depth : ℕ) (name : Bytes) (own : Head) (t : DataType (suc l)) where
    pub expand_children : (eqb t.code Struct && (eqb maxLevel 0 || ltb depth maxLevel)) ≡ true
        → expand separator maxLevel (suc l) up depth name own t
        ≡ join (λ c. expand separator maxLevel l (λ x. up (lift l x)) (suc depth) (under name c) c.head c.data_type) t.children
    unfolding expand
    expand_children h = choose_true _ _ _ h

    pub expand_itself : (eqb t.code Struct && (eqb maxLevel 0 || ltb depth maxLevel)) ≡ false
        → expand separator maxLevel (suc l) up depth name own t ≡ plain_column name own (up t) ∷ []
    unfolding expand
    expand_itself h = choose_false _ _ _ h

  expand_written : (l : ℕ) (up : DataType l → DataType max_levels) → ((t : DataType l) → type_bytes max_levels (up t) ≡ type_bytes l t)
      → (depth : ℕ) (name : Bytes) (f : Field l)
      → map written (expand separator maxLevel l up depth name f.head f.data_type) ≡ written_fields maxLevel l depth f
  unfolding expand written_fields
  expand_written zero up e depth name f = absurd f.data_type
  expand_written (suc l) up e depth name f =
      map_choose (map written) _ _ _ _ _
      (map_join written _ _ (λ c. expand_written l (λ x. up (lift l x)) (λ t. e (lift l t) ∙ lift_bytes l t) (suc depth) (under name c) c)
      f.data_type.children)
      (ap (λ b. (f.head.nullable, b) ∷ []) (e f.data_type))

  expand_plain : (l : ℕ) (up : DataType l → DataType max_levels) (depth : ℕ) (name : Bytes) (own : Head) (t : DataType l)
      → Every Plain (expand separator maxLevel l up depth name own t)
  unfolding expand
  expand_plain zero up depth name own t = absurd t
  expand_plain (suc l) up depth name own t =
      of_choose (Every Plain) _ _ _
      (every_join Plain _ (λ c. expand_plain l (λ x. up (lift l x)) (suc depth) (under name c) c.head c.data_type) t.children)
      (record { type_id = refl; dict_is_ordered = refl; metadata = refl; dict_id = refl }, tt)

  -- each column of a normalised schema has the nullability and the type of the field that it was made of, whatever the separator
  pub normalized_written : (cs : List (Field max_levels))
      → map written (normalized_columns separator maxLevel cs) ≡ join (λ f. written_fields maxLevel max_levels 0 f) cs
  unfolding normalized_columns
  normalized_written cs = map_join written _ _ (λ f. expand_written max_levels (λ x. x) (λ t. refl) 0 f.head.name f) cs

  -- "written columns lose metadata and order flag"; "normalising drops a written column's own" dictionary number
  pub normalized_plain : (cs : List (Field max_levels)) → Every Plain (normalized_columns separator maxLevel cs)
  unfolding normalized_columns
  normalized_plain cs = every_join Plain _ (λ f. expand_plain max_levels (λ x. x) 0 f.head.name f.head f.data_type) cs

  -- where no column is a Struct, normalising takes away metadata, order flags and dictionary numbers and changes nothing else (a column's type id is 0 already)
  pub normalized_flat : (cs : List (Field max_levels)) → Every (λ f. eqb f.data_type.code Struct ≡ false) cs
      → normalized_columns separator maxLevel cs ≡ map (λ f. plain_column f.head.name f.head f.data_type) cs
  unfolding normalized_columns join expand
  normalized_flat [] h = refl
  normalized_flat (f ∷ cs) h =
      ap₂ ◌++◌ (choose_false _ _ _ (ap (λ b. b && (eqb maxLevel 0 || ltb 0 maxLevel)) h.0)) (normalized_flat cs h.1)
