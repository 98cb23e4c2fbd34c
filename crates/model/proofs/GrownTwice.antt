-- A table grown onto twice has grown once (document 02, Item 1). "Grown" compares bytes, and of well-formed trees equal bytes are those of equal
-- trees, since both read back from them: so what grew by its bytes grew as a tree, and that is transitive.
use Prim.Native.Nat.{ℕ, zero, suc}
use native.Mathlib.Omega.{arith}
use mathlib.Core.Path.{◌≡◌, refl, sym, ap, subst, ◌∙◌}
use mathlib.Core.List.{List, [], ◌++◌, append-nil}
use mathlib.Core.Bool.{Bool}
use lib.ListN.{length, drop, get_or}
use lib.Seq.{drop-length}
use Rattle.model.specs.Numbers.{max_levels}
use Rattle.model.specs.Bytes.{Bytes, Every}
use Rattle.model.specs.Tree.{DataType, Field, Schema, Union, layout}
use Rattle.model.specs.Sheet.{field_bytes, type_bytes}
use Rattle.model.specs.Read.{Step, got, code_fits, read_field, read_type}
use Rattle.model.specs.Merge.{is_null}
use Rattle.model.specs.Growth.{Begins, here, onto, Pairwise, none, pair, GrownField, identical, was_null, struct, list, large_list, union, child_bytes, Grown, GrownSchema}
use Rattle.model.specs.WellFormed.{WellFormedField, WellFormedChildren, WellFormedType, SomeOrder, WellFormedSchema}
use Rattle.model.proofs.Steps.{got_inv}
use Rattle.model.proofs.Layouts.{union_children}
use Rattle.model.proofs.WellFormed.{each_every, children_types, column_types}
use Rattle.model.proofs.ReadsBack.{Lies, field_reads, type_reads}
use Rattle.model.proofs.Grows.{begins_trans, begins_map, kept_trans, field_trans, field_map, Grows, grows_null, grows_trans, grows_grown}

-- Equal bytes are written by equal trees

-- bytes that are the whole input
alone : (s : Bytes) → Lies s (length s) 0 (length s) s
alone s = record { ends = omega arith; bytes = sym (append-nil s) ∙ ap (λ r. s ++ r) (sym (drop-length s)); inside = omega arith; below = omega arith }

-- one reading gives back both
one_writer : {A : Type 0} (write : A → Bytes) (read : Bytes → Step A) (W : A → Type 0)
    → ((s : Bytes) (x : A) → W x → Lies s (length s) 0 (length s) (write x) → read s ≡ got x (length s))
    → (x y : A) → W x → W y → write x ≡ write y → x ≡ y
one_writer write read W reads x y w v e =
    let s = write x in
    got_inv (sym (reads s x w (alone s)) ∙ reads s y v (subst (Lies s (length s) 0 (length s)) e (alone s)))

-- the codes are equal, so the second type is well-formed under the first's order flag too
type_equal : (l : ℕ) (o o' : Bool) (a b : DataType l) → WellFormedType l o a → WellFormedType l o' b → type_bytes l a ≡ type_bytes l b → a ≡ b
unfolding type_bytes
type_equal zero o o' a b w v e = absurd a
type_equal (suc l) o o' a b w v e =
    let same : b.code ≡ a.code = ap (λ s. get_or s 0 0) (sym e) in
    one_writer (type_bytes (suc l)) (λ s. read_type s (length s) (suc l) o 0) (WellFormedType (suc l) o)
    (λ s t w h. type_reads s (length s) (suc l) o t 0 (length s) w h) a b w (ap (code_fits o) same ∙ w.0, v.1, v.2) e

-- a field whose id is known
read_with_id : (l i : ℕ) → Bytes → Step (Field l)
read_with_id l i s = read_field s (length s) l (λ o. read_type s (length s) l o) i 0

child_equal : (l : ℕ) (x y : Field l) → WellFormedField (WellFormedType l) x → WellFormedField (WellFormedType l) y → child_bytes (type_bytes l) x ≡ child_bytes (type_bytes l) y → x ≡ y
unfolding read_with_id
child_equal l x y w v e =
    let i = x.head.type_id in
    one_writer (field_bytes (type_bytes l)) (read_with_id l i) (λ f. WellFormedField (WellFormedType l) f × (f.head.type_id ≡ i))
    (λ s f w h. ap (λ i. read_with_id l i s) (sym w.1)
    ∙ field_reads s (length s) l _ (type_bytes l) (WellFormedType l) (λ o t at e g h. type_reads s (length s) l o t at e g h) f 0 (length s) w.0 h)
    x y (w, refl) (v, ap (λ s. get_or s 0 0) (sym e)) (ap (drop 1) e)

-- What grew by its bytes grew as a tree

module _ {A : Type 0} {R S : A → A → Type 0} (P : A → Type 0) (f : (x y : A) → P x → P y → R x y → S x y) where
  begins_every : {xs ys : List A} → Every P xs → Every P ys → Begins R xs ys → Begins S xs ys
  begins_every h k here = here
  begins_every h k (onto p ps) = onto (f _ _ h.0 k.0 p) (begins_every h.1 k.1 ps)

  pairwise_every : {xs ys : List A} → Every P xs → Every P ys → Pairwise R xs ys → Pairwise S xs ys
  pairwise_every h k none = none
  pairwise_every h k (pair p ps) = pair (f _ _ h.0 k.0 p) (pairwise_every h.1 k.1 ps)

-- the children of a union are well-formed fields
union_fields : (l : ℕ) (t : DataType (suc l)) → t.code ≡ Union → WellFormedChildren (WellFormedType l) (layout t.code).children t.children
    → Every (WellFormedField (WellFormedType l)) t.children
union_fields l t c w =
    each_every _ (WellFormedField (WellFormedType l)) (λ s f h. h.0) [] t.children
    (subst (λ k. WellFormedChildren (WellFormedType l) k t.children) (union_children t.code c) w)

abbrev WellTyped : (l : ℕ) → Field l → Type 0
WellTyped l f = SomeOrder (WellFormedType l) f

grown_grows : (parked : Bool) (l : ℕ) (n o o' : Bool) (a b : DataType l) → WellFormedType l o a → WellFormedType l o' b → Grown parked l n a b → Grows parked l n a b
grown_grows parked zero n o o' a b w v h = absurd h
grown_grows parked (suc l) n o o' a b w v h =
    over (λ f g i j. field_map f g (grown_grows parked l _ i.0 j.0 _ _ i.1 j.1))
    (children_types (WellFormedType l) (layout a.code).children a.children w.2) (children_types (WellFormedType l) (layout b.code).children b.children v.2) h
  where
    over : ((f g : Field l) → WellTyped l f → WellTyped l g → GrownField parked (is_null l) (Grown parked l) f g → GrownField parked (is_null l) (Grows parked l) f g)
        → Every (WellTyped l) a.children → Every (WellTyped l) b.children → Grown parked (suc l) n a b → Grows parked (suc l) n a b
    over k i j (identical e) = identical (type_equal (suc l) o o' a b w v e)
    over k i j (was_null e h) = was_null e h
    over k i j (struct p q h) = struct p q (begins_every (WellTyped l) k i j h)
    over k i j (list p q h) = list p q (pairwise_every (WellTyped l) k i j h)
    over k i j (large_list p q h) = large_list p q (pairwise_every (WellTyped l) k i j h)
    over k i j (union p q r h) = union p q r (begins_every (WellFormedField (WellFormedType l)) (child_equal l) (union_fields l a p w.2) (union_fields l b q v.2) h)

columns_grow : (parked : Bool) (x y : Schema) → WellFormedSchema x → WellFormedSchema y → GrownSchema parked x y
    → Begins (GrownField parked (is_null max_levels) (Grows parked max_levels)) x.columns y.columns
columns_grow parked x y w v h =
    begins_every (WellTyped max_levels) (λ f g i j. field_map f g (grown_grows parked max_levels _ i.0 j.0 _ _ i.1 j.1))
    (column_types x w) (column_types y v) h.columns

-- Each of the three must be well-formed: a type that is not can have the bytes of another and other children.
pub grown_twice : (parked : Bool) (x y z : Schema) → WellFormedSchema x → WellFormedSchema y → WellFormedSchema z
    → GrownSchema parked x y → GrownSchema parked y z → GrownSchema parked x z
grown_twice parked x y z w v u p q =
    let trans = field_trans parked (is_null max_levels) (Grows parked max_levels) (grows_null parked max_levels) (grows_trans parked max_levels) in
    record {
      metadata = kept_trans _ _ _ p.metadata q.metadata;
      columns = begins_map (λ f g. field_map f g (grows_grown parked max_levels _ _ _)) (begins_trans trans (columns_grow parked x y w v p) (columns_grow parked y z v u q));
    }
