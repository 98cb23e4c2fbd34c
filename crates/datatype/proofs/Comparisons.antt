-- What the three comparisons have in common: fields are heads and types, types are codes, parameters and children.
use Prim.Native.Nat.{ℕ, zero, suc, ◌+◌}
use native.Mathlib.Omega.{arith}
use mathlib.Core.Path.{◌≡◌, refl, sym, ap, ap₂, ◌∙◌}
use mathlib.Core.List.{List, [], ◌∷◌}
use mathlib.Core.Bool.{Bool, true, false, not, ◌&&◌, ◌||◌, beq, false≢true}
use lib.ListN.{get_or}
use lib.Dec.{eqb}
use borrow.Author.Tests.{eq-eqb, ne_eqb, eqb-true}
use Rattle.model.specs.Bytes.{Every, choose, all, same, same_bytes}
use Rattle.model.specs.Tree.{Head, DataType, Field, blank, Children, Layout, leaf, table, layout, Union, RunEndEncoded}
use Rattle.model.specs.Tree.Children.{fields, key_and_value, counted, counted_with_ids}
use Rattle.model.specs.WellFormed.{Written, Child}
use Rattle.model.specs.Equal.{same_metadata, same_field, same_child, same_type}
use Rattle.model.specs.Datatype.{equals_field, equals_child, equals_datatype, contains_metadata, contains_field, contains_child, contains}
use Rattle.model.proofs.Lists.{and_true, or_right}
use Rattle.datatype.specs.declared.compare.Comparison.{Comparison}
use Rattle.datatype.specs.declared.compare.Comparison.TheVariants.{Equal, EqualsDatatype, Contains}
use Rattle.datatype.specs.Comparisons.{same_head, contains_head, compare_head, compare_type, compare_field, compare_child, by_id, below, counts_agree, compare_members, compare_children}

-- Fields

swap : (z x y : Bool) → (z && x && y) ≡ (z && y && x)
swap true true true = refl
swap true true false = refl
swap true false true = refl
swap true false false = refl
swap false x y = refl

-- a test goes behind two others, and behind three
past_two : (n x b m : Bool) → ((n && b && m) && x) ≡ (n && x && b && m)
past_two n x b m = swap (n && b) m x ∙ ap (λ w. w && m) (swap n b x)

past_three : (n x o q m : Bool) → ((n && o && q && m) && x) ≡ (n && x && o && q && m)
past_three n x o q m = swap (n && o && q) m x ∙ ap (λ w. w && m) (past_two n x o q)

-- the heads, then the types
pub field_parts : (how : Comparison) (l : ℕ) (f g : Field l) → (compare_head how f.head g.head && compare_type how l f.data_type g.data_type) ≡ compare_field how l f g
unfolding compare_head compare_type compare_field same_head same_field equals_field contains_head contains_field
field_parts Equal l f g =
    past_two (same_bytes f.head.name g.head.name) (same_type l f.data_type g.data_type) (beq f.head.nullable g.head.nullable)
    (same_metadata f.head.metadata g.head.metadata)
field_parts EqualsDatatype l f g = refl
field_parts Contains l f g =
    past_three (same_bytes f.head.name g.head.name) (contains l f.data_type g.data_type) (beq f.head.dict_is_ordered g.head.dict_is_ordered)
    (f.head.nullable || not g.head.nullable) (contains_metadata f.head.metadata g.head.metadata)

-- Children

child_parts : (how : Comparison) (l : ℕ) (j k : Field l) → compare_child how l j k ≡ (eqb j.head.type_id k.head.type_id && compare_field how l j k)
unfolding compare_child compare_field same_child equals_child contains_child
child_parts Equal l j k = refl
child_parts EqualsDatatype l j k = refl
child_parts Contains l j k = refl

module _ (how : Comparison) (l : ℕ) where
  pub same_ids : (j k : Field l) → j.head.type_id ≡ k.head.type_id → compare_child how l j k ≡ compare_field how l j k
  same_ids j k e = child_parts how l j k ∙ ap (λ b. b && compare_field how l j k) (eq-eqb _ _ e)

  pub other_ids : (j k : Field l) → (j.head.type_id ≡ k.head.type_id → ⊥) → false ≡ compare_child how l j k
  other_ids j k e = sym (child_parts how l j k ∙ ap (λ b. b && compare_field how l j k) (ne_eqb _ _ e))

blank_heads : (how : Comparison) → compare_head how blank blank ≡ true
unfolding compare_head same_head contains_head contains_metadata same all
blank_heads Equal = refl
blank_heads EqualsDatatype = refl
blank_heads Contains = refl

-- a Dictionary's two types have no heads
pub no_heads : (how : Comparison) (l : ℕ) (j k : Field l) → j.head ≡ blank → k.head ≡ blank → compare_type how l j.data_type k.data_type ≡ compare_child how l j k
no_heads how l j k e f =
    let t = compare_type how l j.data_type k.data_type in
    sym
    (same_ids how l j k (ap (λ h. h.type_id) e ∙ sym (ap (λ h. h.type_id) f)) ∙ sym (field_parts how l j k)
    ∙ ap (λ h. compare_head how h k.head && t) e ∙ ap (λ h. compare_head how blank h && t) f ∙ ap (λ b. b && t) (blank_heads how))

-- Children that are no union's have the id 0, so their ids are equal

abbrev idless : Children → Bool
idless (fields n) = true
idless key_and_value = true
idless counted = true
idless counted_with_ids = false

written_id : (c : Children) (h : Head) → idless c ≡ true → Written c h → h.type_id ≡ 0
written_id (fields n) h e w = w
written_id key_and_value h e w = ap (λ h. h.type_id) w
written_id counted h e w = w
written_id counted_with_ids h e w = absurd (false≢true e)

-- a test of each element with its position
abbrev checks : {A : Type 0} → (ℕ → A → Bool) → ℕ → List A → Bool
checks q i [] = true
checks q i (x ∷ xs) = q i x && checks q (suc i) xs

checked : {A : Type 0} (q : ℕ → A → Bool) (d : A) → ((i : ℕ) → q i d ≡ true) → (xs : List A) (i n m : ℕ) → i + n ≡ m → checks q i xs ≡ true → q m (get_or xs n d) ≡ true
checked q d f [] i n m e h = f m
checked q d f (x ∷ xs) i zero m e h = let w : m ≡ i = omega (arith, e) in ap (λ m. q m x) w ∙ (and_true _ _ h).0
checked q d f (x ∷ xs) i (suc n) m e h = checked q d f xs (suc i) n m (omega (arith, e)) (and_true (q i x) (checks q (suc i) xs) h).1

plain_idless : (c : ℕ) → eqb c Union ≡ false → idless (layout c).children ≡ true
unfolding layout table
plain_idless c e =
    sym (ap (λ b. b || idless (layout c).children) e) ∙ checked (λ i (x : Layout). eqb i Union || idless x.children) leaf (λ i. or_right (eqb i Union) true refl) table 0 c c (omega arith) refl

pub plain_row : (how : Comparison) (l code : ℕ) → eqb code Union ≡ false → (js ks : List (Field l)) → Every (Child l (layout code).children) js → Every (Child l (layout code).children) ks
    → same (compare_child how l) js ks ≡ same (compare_field how l) js ks
unfolding same
plain_row how l code e [] [] w w' = refl
plain_row how l code e [] (k ∷ ks) w w' = refl
plain_row how l code e (j ∷ js) [] w w' = refl
plain_row how l code e (j ∷ js) (k ∷ ks) w w' =
    let i = plain_idless code e in
    ap₂ ◌&&◌ (same_ids how l j k (written_id (layout code).children j.head i w.0.0 ∙ sym (written_id (layout code).children k.head i w'.0.0))) (plain_row how l code e js ks w.1 w'.1)

-- Types

module _ (l : ℕ) (x y : DataType (suc l)) where
  -- what is asked of two types beside code and parameters
  rest : Comparison → Bool
  rest Equal = same (compare_child Equal l) x.children y.children
  rest EqualsDatatype =
      choose (eqb x.code Union) (λ u. compare_members EqualsDatatype l x.children y.children) λ u. same (compare_field EqualsDatatype l) x.children y.children
  rest Contains =
      choose (eqb x.code RunEndEncoded) (λ u. same_type (suc l) x y) λ u.
      choose (eqb x.code Union) (λ u. compare_members Contains l x.children y.children) λ u. same (compare_field Contains l) x.children y.children

  type_parts : (how : Comparison) → compare_type how (suc l) x y ≡ (eqb x.code y.code && same_bytes x.params y.params && rest how)
  unfolding rest compare_type compare_child compare_field compare_members counts_agree same_type equals_datatype contains
  type_parts Equal = refl
  type_parts EqualsDatatype = refl
  type_parts Contains = refl

  pub other_codes : (how : Comparison) → (x.code ≡ y.code → ⊥) → false ≡ compare_type how (suc l) x y
  other_codes how d = sym (type_parts how ∙ ap (λ b. b && same_bytes x.params y.params && rest how) (ne_eqb _ _ d))

  by_rest : (how : Comparison) → x.code ≡ y.code → same_bytes x.params y.params ≡ true → compare_type how (suc l) x y ≡ rest how
  by_rest how e p = type_parts how ∙ ap (λ b. b && same_bytes x.params y.params && rest how) (eq-eqb _ _ e) ∙ ap (λ b. b && rest how) p

  module _ (how : Comparison) (e : x.code ≡ y.code) where
    pub other_params : same_bytes x.params y.params ≡ false → false ≡ compare_type how (suc l) x y
    other_params p = sym (type_parts how ∙ ap (λ b. b && same_bytes x.params y.params && rest how) (eq-eqb _ _ e) ∙ ap (λ b. b && rest how) p)

    module _ (p : same_bytes x.params y.params ≡ true) (w : Every (Child l (layout x.code).children) x.children) (w' : Every (Child l (layout x.code).children) y.children) where
      rest_children : (how : Comparison) → (compare_type Equal (suc l) x y ≡ rest Equal) → compare_children how l x.code x.children y.children ≡ rest how
      unfolding rest compare_children by_id below choose compare_type
      rest_children Equal d = refl
      rest_children EqualsDatatype d = go (eqb x.code Union) refl
        where
          go : (b : Bool) → eqb x.code Union ≡ b
              → choose b (λ u. compare_members EqualsDatatype l x.children y.children) (λ u. same (compare_child EqualsDatatype l) x.children y.children)
              ≡ choose b (λ u. compare_members EqualsDatatype l x.children y.children) (λ u. same (compare_field EqualsDatatype l) x.children y.children)
          go true e = refl
          go false e = plain_row EqualsDatatype l x.code e x.children y.children w w'
      rest_children Contains d = go (eqb x.code Union) (eqb x.code RunEndEncoded) refl refl
        where
          go : (b r : Bool) → eqb x.code Union ≡ b → eqb x.code RunEndEncoded ≡ r
              → choose b (λ u. compare_members Contains l x.children y.children) (λ u. same (compare_child (choose r (λ u. Equal) λ u. Contains) l) x.children y.children)
              ≡ choose r (λ u. same_type (suc l) x y) (λ u. choose b (λ u. compare_members Contains l x.children y.children) (λ u. same (compare_field Contains l) x.children y.children))
          go true true e f = absurd (omega (arith, eqb-true x.code Union e, eqb-true x.code RunEndEncoded f))
          go true false e f = refl
          go false true e f = sym d
          go false false e f = plain_row Contains l x.code e x.children y.children w w'

      pub children_decide : compare_children how l x.code x.children y.children ≡ compare_type how (suc l) x y
      children_decide = rest_children how (by_rest Equal e p) ∙ sym (by_rest how e p)
