-- Two fields, two children, rows of children, and the children of two types of one code.
use Prim.Native.Nat.{ℕ, ◌≤◌}
use mathlib.Core.Path.{◌≡◌, refl, sym, ap, subst, ◌∙◌}
use mathlib.Core.List.{List, [], ◌∷◌}
use mathlib.Core.Bool.{Bool, true, false, ◌&&◌, false≢true}
use mathlib.Core.Logic.{◌⊎◌}
use lib.ListN.{length, get_or}
use borrow.Author.Tests.{eqb-true}
use Rattle.model.specs.Bytes.{Bytes, Every, choose, same, all, any}
use Rattle.model.specs.Tree.{Head, DataType, Field, Children, layout, Union}
use Rattle.model.specs.Tree.Children.{counted_with_ids}
use Rattle.model.specs.Sheet.{each, head_bytes, field_bytes, children_bytes, type_bytes}
use Rattle.model.specs.WellFormed.{CountFits, Whole, Child}
use Rattle.model.proofs.Layouts.{union_children}
use Rattle.layout.specs.Kinds.{children_of}
use Rattle.layout.specs.declared.ChildrenKind.{ChildrenKind}
use Rattle.layout.specs.declared.ChildrenKind.TheVariants.{Fields, KeyAndValue, Counted, CountedWithIds}
use Rattle.walk.specs.Stands.{Stands, Skips}
use Rattle.walk.proofs.Standing.{first_stands, byte_stands, stands_behind, skip_ahead}
use Rattle.walk.proofs.Parts.{Ahead, two_at}
use Rattle.walk.proofs.Descents.{count_stands, elements_stand}
use Rattle.datatype.specs.declared.compare.Comparison.{Comparison}
use Rattle.datatype.specs.declared.compare.Comparison.TheVariants.{Equal, EqualsDatatype, Contains}
use Rattle.datatype.specs.Children.{child_bytes}
use Rattle.datatype.specs.Comparisons.{compare_head, compare_type, compare_field, compare_child, by_id, below, counts_agree, compare_members, compare_children}
use Rattle.datatype.proofs.Texts.{Heads}
use Rattle.datatype.proofs.Heads.{field_case, counted_case}
use Rattle.datatype.proofs.Comparisons.{field_parts, same_ids, other_ids, no_heads}
use Rattle.datatype.proofs.Rows.{counts_differ}

-- what the code's functions ensure of two types, two fields, two children, rows of children, children by position and by id, and the
-- children of two types of one code

abbrev pub Types : Comparison → Bytes → ℕ → Bytes → ℕ → ℕ → Bool → Type 0
Types how s a t b levels r = (l : ℕ) (x y : DataType l) → l ≤ levels → Whole l x → Whole l y → Stands s a (type_bytes l x) → Stands t b (type_bytes l y) → r ≡ compare_type how l x y

abbrev pub TwoFields : Comparison → Bytes → ℕ → Bytes → ℕ → ℕ → Bool → Type 0
TwoFields how s a t b levels r = (l : ℕ) (f g : Field l) → l ≤ levels → Whole l f.data_type → Whole l g.data_type
    → Stands s a (field_bytes (type_bytes l) f) → Stands t b (field_bytes (type_bytes l) g) → r ≡ compare_field how l f g

abbrev pub Pairs : Comparison → Bytes → ℕ → Bytes → ℕ → Children → ℕ → Bool → Type 0
Pairs how s a t b c levels r = (l : ℕ) (j k : Field l) → l ≤ levels → Child l c j → Child l c k
    → Stands s a (child_bytes l c j) → Stands t b (child_bytes l c k) → r ≡ compare_child how l j k

abbrev pub Rows : Comparison → Bytes → ℕ → Bytes → ℕ → Children → ℕ → ℕ → Bool → Type 0
Rows how s a t b c count levels r = (l : ℕ) (js ks : List (Field l)) → l ≤ levels → length js ≡ count → length ks ≡ count → Every (Child l c) js → Every (Child l c) ks
    → Stands s a (each (child_bytes l c) js) → Stands t b (each (child_bytes l c) ks) → r ≡ same (compare_child how l) js ks

abbrev pub InOrder : Comparison → Bytes → ℕ → Bytes → ℕ → Children → ℕ → Bool → Type 0
InOrder how s a t b c levels r = (l : ℕ) (js ks : List (Field l)) → l ≤ levels → CountFits c js → CountFits c ks → Every (Child l c) js → Every (Child l c) ks
    → Stands s a (children_bytes (type_bytes l) c js) → Stands t b (children_bytes (type_bytes l) c ks) → r ≡ same (compare_child how l) js ks

abbrev pub Members : Comparison → Bytes → ℕ → Bytes → ℕ → ℕ → Bool → Type 0
Members how s a t b levels r = (l : ℕ) (js ks : List (Field l)) → l ≤ levels → Every (Child l counted_with_ids) js → Every (Child l counted_with_ids) ks
    → Stands s a (children_bytes (type_bytes l) counted_with_ids js) → Stands t b (children_bytes (type_bytes l) counted_with_ids ks) → r ≡ compare_members how l js ks

abbrev pub Kids : Comparison → Bytes → ℕ → Bytes → ℕ → ℕ → ℕ → Bool → Type 0
Kids how s a t b code levels r = (l : ℕ) (js ks : List (Field l)) → l ≤ levels → CountFits (layout code).children js → CountFits (layout code).children ks
    → Every (Child l (layout code).children) js → Every (Child l (layout code).children) ks
    → Stands s a (children_bytes (type_bytes l) (layout code).children js) → Stands t b (children_bytes (type_bytes l) (layout code).children ks) → r ≡ compare_children how l code js ks

-- Fields

module _ (how : Comparison) {s t : Bytes} {a b levels : ℕ} where
  -- heads that differ
  pub fields_heads : {r : Bool} → r ≡ false → Heads (compare_head how) s a t b r → TwoFields how s a t b levels false
  unfolding field_bytes
  fields_heads {r} e h l f g n w w' st st' =
      ap (λ x. x && compare_type how l f.data_type g.data_type)
      (sym e ∙ h f.head g.head (first_stands (head_bytes f.head) (type_bytes l f.data_type) st) (first_stands (head_bytes g.head) (type_bytes l g.data_type) st'))
      ∙ field_parts how l f g

  -- heads that are equal: the types decide
  pub fields_types : {p q : ℕ} {r z : Bool} → r ≡ true → Heads (compare_head how) s a t b r → ((h : Head) → Skips s a (head_bytes h) p) → ((h : Head) → Skips t b (head_bytes h) q)
      → Types how s p t q levels z → TwoFields how s a t b levels z
  unfolding field_bytes
  fields_types {r = r} {z = z} e h sk sk' i l f g n w w' st st' =
      i l f.data_type g.data_type n w w' (stands_behind (sk f.head) st) (stands_behind (sk' g.head) st')
      ∙ ap (λ x. x && compare_type how l f.data_type g.data_type)
      (sym e ∙ h f.head g.head (first_stands (head_bytes f.head) (type_bytes l f.data_type) st) (first_stands (head_bytes g.head) (type_bytes l g.data_type) st'))
      ∙ field_parts how l f g

-- Children

module _ (how : Comparison) {s t : Bytes} {a b : ℕ} (levels : ℕ) {kind : ChildrenKind} where
  pub pairs_types : {r : Bool} → kind ≡ KeyAndValue → Types how s a t b levels r → Pairs how s a t b (children_of kind) levels r
  unfolding children_of child_bytes
  pairs_types e f = rw e λ l j k n w w' st st'. f l j.data_type k.data_type n w.1 w'.1 st st' ∙ no_heads how l j k w.0 w'.0

  pub pairs_fields : {r : Bool} → ((n : ℕ) × kind ≡ Fields n) ⊎ kind ≡ Counted → TwoFields how s a t b levels r → Pairs how s a t b (children_of kind) levels r
  unfolding child_bytes
  pairs_fields {r} e f =
      field_case (λ c. Pairs how s a t b c levels r) (λ n l j k m w w' st st'. f l j k m w.1 w'.1 st st' ∙ sym (same_ids how l j k (w.0 ∙ sym w'.0)))
      (λ l j k m w w' st st'. f l j k m w.1 w'.1 st st' ∙ sym (same_ids how l j k (w.0 ∙ sym w'.0))) e

  module _ (c : kind ≡ CountedWithIds) {x y : ℕ} (e : x ≡ get_or s a 0) (e' : y ≡ get_or t b 0) where
    pub pairs_ids : (x ≡ y → ⊥) → Pairs how s a t b (children_of kind) levels false
    unfolding children_of child_bytes
    pairs_ids d = rw c λ l j k m w w' st st'. other_ids how l j k λ i. d (e ∙ byte_stands st ∙ i ∙ sym (e' ∙ byte_stands st'))

    pub pairs_members : {p q : ℕ} {r : Bool} → x ≡ y → Ahead s a 1 p → Ahead t b 1 q → TwoFields how s p t q levels r → Pairs how s a t b (children_of kind) levels r
    unfolding children_of child_bytes
    pairs_members d u v f =
        rw c λ l j k m w w' st st'.
        f l j k m w.1 w'.1 (stands_behind (skip_ahead (_ ∷ []) refl u.1) st) (stands_behind (skip_ahead (_ ∷ []) refl v.1) st')
        ∙ sym (same_ids how l j k (sym (byte_stands st) ∙ sym e ∙ d ∙ e' ∙ byte_stands st'))

-- Children by position

module _ (how : Comparison) {s t : Bytes} {a b : ℕ} (levels : ℕ) {kind : ChildrenKind} where
  pub order_fields : {n : ℕ} {r : Bool} → kind ≡ Fields n → Rows how s a t b (children_of (Fields n)) n levels r → InOrder how s a t b (children_of kind) levels r
  unfolding children_of children_bytes child_bytes
  order_fields e f = rw e f

  pub order_types : {r : Bool} → kind ≡ KeyAndValue → Rows how s a t b (children_of kind) 2 levels r → InOrder how s a t b (children_of kind) levels r
  unfolding children_of children_bytes child_bytes
  order_types e f = rw e (rw e at f)

  module _ (c : kind ≡ Counted ⊎ kind ≡ CountedWithIds) {n m : ℕ} (e : n ≡ two_at s a) (e' : m ≡ two_at t b) where
    pub order_counts : (n ≡ m → ⊥) → InOrder how s a t b (children_of kind) levels false
    unfolding children_bytes
    order_counts d =
        counted_case (λ c. InOrder how s a t b c levels false)
        (λ l js ks u v v' w w' st st'. counts_differ _ js ks λ z. d (e ∙ count_stands _ js st ∙ z ∙ sym (e' ∙ count_stands _ ks st')))
        (λ l js ks u v v' w w' st st'. counts_differ _ js ks λ z. d (e ∙ count_stands _ js st ∙ z ∙ sym (e' ∙ count_stands _ ks st'))) c

    pub order_rows : {p q : ℕ} {r : Bool} → n ≡ m → Ahead s a 2 p → Ahead t b 2 q → Rows how s p t q (children_of kind) n levels r → InOrder how s a t b (children_of kind) levels r
    unfolding children_bytes child_bytes
    order_rows {p} {q} {r} d x y f =
        counted_case (λ c. Rows how s p t q c n levels r → InOrder how s a t b c levels r)
        (λ f l js ks u v v' w w' st st'. f l js ks u (sym (e ∙ count_stands _ js st)) (sym (d ∙ e' ∙ count_stands _ ks st')) w w' (elements_stand _ js x st) (elements_stand _ ks y st'))
        (λ f l js ks u v v' w w' st st'. f l js ks u (sym (e ∙ count_stands _ js st)) (sym (d ∙ e' ∙ count_stands _ ks st')) w w' (elements_stand _ js x st) (elements_stand _ ks y st')) c f

-- Children by id

-- what `every_member` ensures
abbrev pub EveryOne : Comparison → Bytes → ℕ → ℕ → Bytes → ℕ → ℕ → ℕ → Bool → Type 0
EveryOne how s a n t b m levels r = (l : ℕ) (js ks : List (Field l)) → l ≤ levels → length js ≡ n → length ks ≡ m → Every (Child l counted_with_ids) js → Every (Child l counted_with_ids) ks
    → Stands s a (each (child_bytes l counted_with_ids) js) → Stands t b (each (child_bytes l counted_with_ids) ks) → r ≡ all (λ j. any (compare_child how l j) ks) js

module _ (how : Comparison) {s t : Bytes} {a b : ℕ} (levels : ℕ) {n m : ℕ} (e : n ≡ two_at s a) (f : m ≡ two_at t b) {agree : Bool} (g : agree ≡ counts_agree how n m) where
  agreed : (l : ℕ) (js ks : List (Field l)) → Stands s a (children_bytes (type_bytes l) counted_with_ids js) → Stands t b (children_bytes (type_bytes l) counted_with_ids ks)
      → agree ≡ counts_agree how (length js) (length ks)
  unfolding children_bytes
  agreed l js ks st st' = g ∙ ap (λ n. counts_agree how n m) (e ∙ count_stands _ js st) ∙ ap (counts_agree how (length js)) (f ∙ count_stands _ ks st')

  pub members_counts : agree ≡ false → Members how s a t b levels false
  unfolding compare_members
  members_counts i l js ks h w w' st st' = ap (λ x. x && all (λ j. any (compare_child how l j) ks) js) (sym i ∙ agreed l js ks st st')

  pub members_every : {p q : ℕ} {r : Bool} → agree ≡ true → Ahead s a 2 p → Ahead t b 2 q → EveryOne how s p n t q m levels r → Members how s a t b levels r
  unfolding compare_members children_bytes child_bytes
  members_every i u v c l js ks h w w' st st' =
      c l js ks h (sym (e ∙ count_stands _ js st)) (sym (f ∙ count_stands _ ks st')) w w' (elements_stand _ js u st) (elements_stand _ ks v st')
      ∙ ap (λ x. x && all (λ j. any (compare_child how l j) ks) js) (sym i ∙ agreed l js ks st st')

-- The children of a type

by_id_union : (how : Comparison) (code : ℕ) → by_id how code ≡ true → code ≡ Union
unfolding by_id
by_id_union Equal code e = absurd (false≢true e)
by_id_union EqualsDatatype code e = eqb-true _ _ e
by_id_union Contains code e = eqb-true _ _ e

module _ (how : Comparison) {s t : Bytes} {a b : ℕ} (code levels : ℕ) {ids : Bool} (g : ids ≡ by_id how code) where
  pub kids_members : {r : Bool} → ids ≡ true → Members how s a t b levels r → Kids how s a t b code levels r
  unfolding compare_children choose
  kids_members i c l js ks h n n' w w' st st' =
      let d = union_children code (by_id_union how code (sym g ∙ i)) in
      c l js ks h (subst (λ c. Every (Child l c) js) d w) (subst (λ c. Every (Child l c) ks) d w') (subst (λ c. Stands s a (children_bytes (type_bytes l) c js)) d st)
      (subst (λ c. Stands t b (children_bytes (type_bytes l) c ks)) d st')
      ∙ ap (λ x. choose x (λ u. compare_members how l js ks) λ u. same (compare_child (below how code) l) js ks) (sym i ∙ g)

  pub kids_order : (kind : ChildrenKind) {r : Bool} {inner : Comparison} → ids ≡ false → children_of kind ≡ (layout code).children → inner ≡ below how code
      → InOrder inner s a t b (children_of kind) levels r → Kids how s a t b code levels r
  unfolding compare_children choose
  kids_order kind {r = r} {inner = inner} i d f c l js ks h n n' w w' st st' =
      subst (λ k. InOrder inner s a t b k levels r) d c l js ks h n n' w w' st st'
      ∙ ap (λ k. same (compare_child k l) js ks) f
      ∙ ap (λ x. choose x (λ u. compare_members how l js ks) λ u. same (compare_child (below how code) l) js ks) (sym i ∙ g)
