-- Two types, the columns of two sheets, and two sheets.
use Prim.Native.Nat.{ℕ, zero, suc, ◌+◌, ◌-◌}
use native.Mathlib.Omega.{arith}
use mathlib.Core.Path.{◌≡◌, refl, sym, ap, ap₂, subst, ◌∙◌}
use mathlib.Core.List.{[], ◌∷◌}
use mathlib.Core.Bool.{Bool, true, false, ◌&&◌}
use mathlib.Core.Logic.{◌⊎◌, inl, inr}
use lib.ListN.{length, get_or}
use lib.Dec.{eqb}
use Rattle.model.specs.Bytes.{Bytes, Metadata, Every, choose, same, all, same_bytes}
use Rattle.model.specs.Tree.{DataType, Schema, Struct, Union, table, layout, leaf}
use Rattle.model.specs.Tree.Children.{counted}
use Rattle.model.specs.Sheet.{children_bytes, type_bytes, sheet_bytes}
use Rattle.model.specs.WellFormed.{WellFormedParams, CountFits, Whole, Child}
use Rattle.model.specs.Equal.{same_columns}
use Rattle.model.specs.Datatype.{equals_columns, contains_metadata, contains_schema}
use Rattle.model.proofs.Whole.{leaf_empty}
use Rattle.layout.specs.Kinds.{children_of}
use Rattle.layout.specs.declared.ChildrenKind.TheVariants.{Counted}
use Rattle.walk.specs.Stands.{Stands, Skips, ColumnsAt}
use Rattle.walk.proofs.Standing.{first_stands, byte_stands, stands_behind, skip_ahead}
use Rattle.walk.proofs.Parts.{Ahead}
use Rattle.datatype.specs.declared.compare.Comparison.{Comparison}
use Rattle.datatype.specs.declared.compare.Comparison.TheVariants.{Equal, EqualsDatatype, Contains}
use Rattle.datatype.specs.Children.{child_bytes}
use Rattle.datatype.specs.Comparisons.{PairsAt, compare_type, compare_field, compare_child, compare_schema, compare_children, compare_members, counts_agree, by_id}
use Rattle.datatype.proofs.Texts.{Stretches, Contained}
use Rattle.datatype.proofs.Comparisons.{plain_row, other_codes, other_params, children_decide}
use Rattle.datatype.proofs.Children.{Types, Kids, Rows}
use Rattle.datatype.proofs.Rows.{alone, counts_differ}

-- what `skip_params` ensures
abbrev Params : Bytes → ℕ → ℕ → ℕ → Type 0
Params s place code r = (b : Bytes) → WellFormedParams (layout code).params b → Skips s place b r

code_is : {s : Bytes} {place code : ℕ} → code ≡ get_or s place 0 → (l : ℕ) (x : DataType (suc l)) → Stands s place (type_bytes (suc l) x) → code ≡ x.code
unfolding type_bytes
code_is e l x st = e ∙ byte_stands st

-- where the parameters and the children of a type stand
record Parts (s : Bytes) (from first : ℕ) (l : ℕ) (x : DataType (suc l)) : Type 0 where
  params : Stands s from x.params
  behind : first ≡ from + length x.params
  children : Stands s first (children_bytes (type_bytes l) (layout x.code).children x.children)

parts_of : {s : Bytes} {place code from first : ℕ} → code ≡ get_or s place 0 → Ahead s place 1 from → Params s from code first
    → (l : ℕ) (x : DataType (suc l)) → Whole (suc l) x → Stands s place (type_bytes (suc l) x) → Parts s from first l x
unfolding type_bytes
parts_of {s} {place} {code} {from} {first} e a f l x w st =
    let st' = stands_behind (skip_ahead (_ ∷ []) refl a.1) st in
    let k = f x.params (subst (λ c. WellFormedParams (layout c).params x.params) (sym (e ∙ byte_stands st)) w.0) in
    let p = first_stands x.params _ st' in
    record { params = p; behind = k.behind p; children = stands_behind k st' }

always : (b : Bool) → true ≡ choose b (λ u. true) λ u. true
unfolding choose
always true = refl
always false = refl

-- no children on either side agree
no_children : (how : Comparison) (l code : ℕ) → true ≡ compare_children how l code [] []
unfolding compare_children compare_members counts_agree by_id choose same all
no_children Equal l code = refl
no_children EqualsDatatype l code = always (eqb code Union)
no_children Contains l code = always (eqb code Union)

plain_types : (how : Comparison) (l : ℕ) (x y : DataType (suc l)) → x.code ≡ y.code → layout x.code ≡ leaf → Whole (suc l) x → Whole (suc l) y → true ≡ compare_type how (suc l) x y
unfolding same
plain_types how l x y c i w w' =
    let p = leaf_empty l x i w in
    let q = leaf_empty l y (ap layout (sym c) ∙ i) w' in
    no_children how l x.code ∙ sym (ap₂ (compare_children how l x.code) p.1 q.1)
    ∙ children_decide l x y how c (ap₂ same_bytes p.0 q.0) w.2 (subst (λ c. Every (Child l (layout c).children) y.children) (sym c) w'.2)

module _ (how : Comparison) {s t : Bytes} {a b : ℕ} (levels : ℕ) where
  -- no type is of no level
  pub no_types : (r : Bool) → levels ≡ 0 → Types how s a t b levels r
  no_types r h zero x y k w w' st st' = absurd w
  no_types r h (suc l) x y k w w' st st' = absurd (omega (arith, h, k))

  module _ {code other : ℕ} (e : code ≡ get_or s a 0) (e' : other ≡ get_or t b 0) where
    pub types_codes : (code ≡ other → ⊥) → Types how s a t b levels false
    types_codes d zero x y k w w' st st' = absurd w
    types_codes d (suc l) x y k w w' st st' = other_codes l x y how λ i. d (code_is e l x st ∙ i ∙ sym (code_is e' l y st'))

    -- of a plain type a sheet has the code alone
    pub types_plain : code ≡ other → layout code ≡ leaf → Types how s a t b levels true
    types_plain d i zero x y k w w' st st' = absurd w
    types_plain d i (suc l) x y k w w' st st' =
        let c = code_is e l x st in
        let c' = d ∙ code_is e' l y st' in
        plain_types how l x y (sym c ∙ c') (ap layout (sym c) ∙ i) w w'

    module _ {from since first next : ℕ} (d : code ≡ other) (u : Ahead s a 1 from) (v : Ahead t b 1 since) (f : Params s from code first) (g : Params t since code next) where
      one_code : (l : ℕ) (x y : DataType (suc l)) → Stands s a (type_bytes (suc l) x) → Stands t b (type_bytes (suc l) y) → x.code ≡ y.code
      one_code l x y st st' = sym (code_is e l x st) ∙ d ∙ code_is e' l y st'

      pub types_params : {r : Bool} → r ≡ false → Stretches s from first t since next r → Types how s a t b levels false
      types_params i h zero x y k w w' st st' = absurd w
      types_params i h (suc l) x y k w w' st st' =
          let p = parts_of e u f l x w st in
          let q = parts_of (d ∙ e') v g l y w' st' in
          other_params l x y how (one_code l x y st st') (sym (h _ _ p.params q.params p.behind q.behind) ∙ i)

      pub types_kids : {r z : Bool} → r ≡ true → Stretches s from first t since next r → Kids how s first t next code (levels - 1) z → Types how s a t b levels z
      types_kids i h o zero x y lv w w' st st' = absurd w
      types_kids {z = z} i h o (suc l) x y lv w w' st st' =
          let p = parts_of e u f l x w st in
          let q = parts_of (d ∙ e') v g l y w' st' in
          let c = one_code l x y st st' in
          let k = subst (λ c. Every (Child l (layout c).children) y.children) (sym c) w'.2 in
          subst (λ c. Kids how s first t next c (levels - 1) z) (code_is e l x st) o l x.children y.children (omega (arith, lv)) w.1
          (subst (λ c. CountFits (layout c).children y.children) (sym c) w'.1) w.2 k p.children
          (subst (λ c. Stands t next (children_bytes (type_bytes l) (layout c).children y.children)) (sym c) q.children)
          ∙ children_decide l x y how c (sym (h _ _ p.params q.params p.behind q.behind) ∙ i) w.2 k

-- Columns

-- what `compare_columns` ensures
abbrev pub Columns : Comparison → Bytes → ℕ → Bytes → ℕ → Bool → Type 0
Columns how s a t b r = (x y : Schema) → Every (Child 32 counted) x.columns → Every (Child 32 counted) y.columns → Stands s a (sheet_bytes x) → Stands t b (sheet_bytes y)
    → r ≡ same (compare_child how 32) x.columns y.columns

module _ (how : Comparison) {s t : Bytes} {a b n m p q : ℕ} (f : (x : Schema) → Stands s a (sheet_bytes x) → ColumnsAt s a x n p)
    (g : (y : Schema) → Stands t b (sheet_bytes y) → ColumnsAt t b y m q) where
  pub columns_counts : (n ≡ m → ⊥) → Columns how s a t b false
  columns_counts d x y w w' st st' = counts_differ _ x.columns y.columns λ e. d ((f x st).count ∙ e ∙ sym (g y st').count)

  pub columns_rows : {r : Bool} → n ≡ m → Rows how s p t q (children_of Counted) n 32 r → Columns how s a t b r
  unfolding children_of child_bytes
  columns_rows d h x y w w' st st' =
      h 32 x.columns y.columns (omega arith) (sym (f x st).count) (sym (d ∙ (g y st').count)) w w' (f x st).stands (g y st').stands

-- Sheets

-- what a comparison asks beside the columns
abbrev besides : Comparison → Metadata → Metadata → Bool
besides Equal m n = true
besides EqualsDatatype m n = true
besides Contains m n = contains_metadata m n

schema_parts : (how : Comparison) (x y : Schema) → Every (Child 32 counted) x.columns → Every (Child 32 counted) y.columns
    → (same (compare_child how 32) x.columns y.columns && besides how x.metadata y.metadata) ≡ compare_schema how x y
unfolding compare_schema compare_child compare_field same_columns equals_columns contains_schema layout table
schema_parts Equal x y w w' = alone _
schema_parts EqualsDatatype x y w w' = alone _ ∙ plain_row EqualsDatatype 32 Struct refl x.columns y.columns w w'
schema_parts Contains x y w w' = ap (λ b. b && contains_metadata x.metadata y.metadata) (plain_row Contains 32 Struct refl x.columns y.columns w w')

-- what `compare_sheets` ensures
abbrev pub Sheets : Comparison → Bytes → Bytes → Bool → Type 0
Sheets how s t r = (x y : Schema) → Every (Child 32 counted) x.columns → Every (Child 32 counted) y.columns → Stands s 0 (sheet_bytes x) → Stands t 0 (sheet_bytes y)
    → r ≡ compare_schema how x y

module _ (how : Comparison) {s t : Bytes} {r : Bool} (c : Columns how s 0 t 0 r) where
  pub sheets_columns : r ≡ false → Sheets how s t false
  sheets_columns e x y w w' st st' = ap (λ b. b && besides how x.metadata y.metadata) (sym e ∙ c x y w w' st st') ∙ schema_parts how x y w w'

  sheets_besides : {z : Bool} → r ≡ true → ((x y : Schema) → Stands s 0 (sheet_bytes x) → Stands t 0 (sheet_bytes y) → z ≡ besides how x.metadata y.metadata) → Sheets how s t z
  sheets_besides e d x y w w' st st' =
      d x y st st' ∙ ap (λ b. b && besides how x.metadata y.metadata) (sym e ∙ c x y w w' st st') ∙ schema_parts how x y w w'

  pub sheets_equal : r ≡ true → how ≡ Equal ⊎ how ≡ EqualsDatatype → Sheets how s t true
  sheets_equal e (inl h) = sheets_besides e λ x y st st'. sym (ap (λ how. besides how x.metadata y.metadata) h)
  sheets_equal e (inr h) = sheets_besides e λ x y st st'. sym (ap (λ how. besides how x.metadata y.metadata) h)

  pub sheets_metadata : {n p m q : ℕ} {z : Bool} → r ≡ true → how ≡ Contains → ((x : Schema) → Stands s 0 (sheet_bytes x) → PairsAt s x.metadata n p)
      → ((y : Schema) → Stands t 0 (sheet_bytes y) → PairsAt t y.metadata m q) → Contained s n p t m q z → Sheets how s t z
  sheets_metadata e h u v d =
      sheets_besides e λ x y st st'. d x.metadata y.metadata (u x st) (v y st') ∙ sym (ap (λ how. besides how x.metadata y.metadata) h)
