-- The merge: `Field::try_merge`, `UnionFields::try_merge`, `SchemaBuilder::try_merge` and `Schema::try_merge`.
use Rattle.std.specs.Prelude.{ℕ, zero, suc, List, [], ◌∷◌, ◌++◌, map, Bool, true, false, not, ◌&&◌, ◌||◌, cond, eqb}
use Rattle.std.specs.Bool.{beq}
use Rattle.model.specs.Numbers.{max_levels, schema_metadata_clash, ordered_clash, field_metadata_clash, type_clash, equal_child_clash, type_id_clash}
use Rattle.model.specs.Bytes.{Bytes, Metadata, choose, same, same_bytes, below, among}
use Rattle.model.specs.Tree.{DataTypeOver, FieldOver, DataType, Field, Schema, with_children, Null, List', LargeList, Struct, Union}
use Rattle.model.specs.Read.{Step, got, bad, next}
use Rattle.model.specs.Equal.{same_field, same_child, same_type}

-- What a merge gives: a value, or the number of a clash. `Result<(), ArrowError>`

pub data Merged (A : Type 0) : Type 0 where
  done : A → Merged A
  clash : ℕ → Merged A

infixl 20 ◌>>=◌
unfoldable pub ◌>>=◌ : {A B : Type 0} → Merged A → (A → Merged B) → Merged B
◌>>=◌ (done a) f = f a
◌>>=◌ (clash n) f = clash n

unfoldable pub need : {A : Type 0} → Bool → ℕ → A → Merged A
need true n a = done a
need false n a = clash n

-- one after the other into what there is: `try_for_each`
unfoldable pub pour : {A B : Type 0} → (A → B → Merged A) → A → List B → Merged A
pour put a [] = done a
pour put a (x ∷ xs) = put a x >>= λ b. pour put b xs

-- Metadata: a pair goes to its place in the order; where its key is there, the values must be equal

unfoldable pub merge_pair : ℕ → Metadata → Bytes × Bytes → Merged Metadata
merge_pair n [] p = done (p ∷ [])
merge_pair n (q ∷ qs) p =
    choose (below q.0 p.0) (λ u. merge_pair n qs p >>= λ r. done (q ∷ r)) λ u.
    choose (below p.0 q.0) (λ u. done (p ∷ q ∷ qs)) λ u.
    need (same_bytes q.1 p.1) n (q ∷ qs)

-- the number tells the metadata of a field (21) from that of a schema (25)
unfoldable pub merge_metadata : ℕ → Metadata → Metadata → Merged Metadata
merge_metadata n old new = pour (merge_pair n) old new

module _ {T : Type 0} where
  -- `SchemaBuilder::try_merge`: into the first field of that name, or behind them all
  unfoldable pub merge_by_name : (FieldOver T → FieldOver T → Merged (FieldOver T)) → List (FieldOver T) → FieldOver T → Merged (List (FieldOver T))
  merge_by_name merge [] f = done (f ∷ [])
  merge_by_name merge (g ∷ gs) f =
      choose (same_bytes g.head.name f.head.name) (λ u. merge g f >>= λ h. done (h ∷ gs)) λ u.
      merge_by_name merge gs f >>= λ r. done (g ∷ r)

  -- `UnionFields::try_merge`, its loop: "each newcomer is matched to the first equal child so far", which must have its id
  unfoldable pub merge_child : (T → T → Bool) → List (FieldOver T) → FieldOver T → Merged (List (FieldOver T))
  merge_child eq [] f = done (f ∷ [])
  merge_child eq (g ∷ gs) f =
      choose (same_field eq f g) (λ u. need (eqb g.head.type_id f.head.type_id) equal_child_clash (g ∷ gs)) λ u.
      merge_child eq gs f >>= λ r. done (g ∷ r)

  -- `UnionFields::try_new` at its end: no id twice
  unfoldable pub ids_differ : List (FieldOver T) → Bool
  ids_differ [] = true
  ids_differ (f ∷ fs) = not (among f.head.type_id (map (λ g. g.head.type_id) fs)) && ids_differ fs

-- The modes of a merge: the Rust's, and "Parked log first" (document 02, Item 6), "a merge mode beside the old one". The mode is a parameter
-- of the two rules that speak of order flags, `orders_agree` and `merged_order`; everything else is said of both modes at once.

abbrev pub as_the_rust : Bool
as_the_rust = false

abbrev pub parked_first : Bool
parked_first = true

module _ {T : Type 0} (parked : Bool) (is_null : T → Bool) where
  -- whether the order flags let a field be merged into another: "the order flags are not compared when either type is Null at that place"
  unfoldable pub orders_agree : FieldOver T → FieldOver T → Bool
  orders_agree f g = beq f.head.dict_is_ordered g.head.dict_is_ordered || (parked && (is_null f.data_type || is_null g.data_type))

  -- whose order flag stays, the first's but for this: "a Null column that takes a type takes its order flag too"
  unfoldable pub merged_order : FieldOver T → FieldOver T → Bool
  merged_order f g = cond (parked && is_null f.data_type) g.head.dict_is_ordered f.head.dict_is_ordered

module _ {T : Type 0} (parked : Bool) (merge : T → T → Merged T) (is_null : T → Bool) where
  -- `Field::try_merge`: "Checks in order: ordered flags, metadata, type." The first Null becomes nullable, a later Null makes the
  -- column nullable, and "at the end the first is nullable if either is". Of the dictionary number: "merging keeps the first
  -- column's, even for a Null that takes a type".
  unfoldable pub merge_field : FieldOver T → FieldOver T → Merged (FieldOver T)
  merge_field f g =
      need (orders_agree parked is_null f g) ordered_clash tt >>= λ (u : Unit {0}).
      merge_metadata field_metadata_clash f.head.metadata g.head.metadata >>= λ m.
      merge f.data_type g.data_type >>= λ t.
      done (record {
        head = record {
          type_id = f.head.type_id;
          nullable = f.head.nullable || g.head.nullable || is_null f.data_type || is_null g.data_type;
          dict_is_ordered = merged_order parked is_null f g;
          name = f.head.name;
          metadata = m;
          dict_id = f.head.dict_id;
        };
        data_type = t;
      })

  -- the child of a list with that of the other: it keeps its own name
  unfoldable pub merge_each : List (FieldOver T) → List (FieldOver T) → Merged (List (FieldOver T))
  merge_each [] gs = done []
  merge_each (f ∷ fs) [] = done (f ∷ fs)
  merge_each (f ∷ fs) (g ∷ gs) = merge_field f g >>= λ h. merge_each fs gs >>= λ r. done (h ∷ r)

unfoldable pub is_null : (l : ℕ) → DataType l → Bool
is_null zero t = false
is_null (suc l) t = eqb t.code Null

-- two types of one code, neither Null: the arms of `Field::try_merge` for Struct, Union, List and LargeList, and all others
module _ {T : Type 0} (parked : Bool) (merge : T → T → Merged T) (is_null : T → Bool) (eq : T → T → Bool) where
  unfoldable pub merge_same_code : DataTypeOver (FieldOver T) → DataTypeOver (FieldOver T) → Merged (DataTypeOver (FieldOver T))
  merge_same_code a b =
      choose (eqb a.code Struct)
      (λ u. pour (merge_by_name (merge_field parked merge is_null)) [] (a.children ++ b.children) >>= λ ks. done (with_children a ks)) λ u.
      choose (eqb a.code Union)
      (λ u. pour (merge_child eq) a.children b.children >>= λ ks. need (ids_differ ks) type_id_clash (with_children a ks)) λ u.
      choose (eqb a.code List' || eqb a.code LargeList)
      (λ u. merge_each parked merge is_null a.children b.children >>= λ ks. done (with_children a ks)) λ u.
      need (same_bytes a.params b.params && same (same_child eq) a.children b.children) type_clash a

-- `Field::try_merge`, the match on the types: "The first Null takes the other's type"
unfoldable pub merge_type : Bool → (l : ℕ) → DataType l → DataType l → Merged (DataType l)
merge_type parked zero a b = absurd a
merge_type parked (suc l) a b =
    choose (eqb a.code Null) (λ u. done b) λ u.
    choose (eqb b.code Null) (λ u. done a) λ u.
    choose (not (eqb a.code b.code)) (λ u. clash type_clash) λ u.
    merge_same_code parked (λ x y. merge_type parked l x y) (is_null l) (same_type l) a b

abbrev pub merge_column : Bool → Field max_levels → Field max_levels → Merged (Field max_levels)
merge_column parked f g = merge_field parked (merge_type parked max_levels) (is_null max_levels) f g

-- one turn of the loop of `Schema::try_merge`: "per sheet, its metadata by ascending key, then its columns in order"
unfoldable pub merge_schema : Bool → Schema → Schema → Merged Schema
merge_schema parked x y =
    merge_metadata schema_metadata_clash x.metadata y.metadata >>= λ m.
    pour (merge_by_name (merge_column parked)) x.columns y.columns >>= λ cs.
    done (record { metadata = m; columns = cs })

-- `Schema::empty`
abbrev pub empty : Schema
empty = record { metadata = []; columns = [] }

-- "sheets .. count from 0": the clash of a sheet has its number for a place
unfoldable pub placed : {A : Type 0} → ℕ → Merged A → Step A
placed i (done a) = got a (suc i)
placed i (clash n) = bad n i

-- `Schema::try_merge`, from sheet i on, onto what there is
unfoldable pub merge_from : Bool → ℕ → Schema → List Schema → Step Schema
merge_from parked i x [] = got x i
merge_from parked i x (y ∷ ys) = next (placed i (merge_schema parked x y)) λ z j. merge_from parked j z ys

unfoldable pub try_merge : Bool → List Schema → Step Schema
try_merge parked xs = merge_from parked 0 empty xs
