-- Two heads under each of the three comparisons, and the place behind a child.
use Prim.Native.Nat.{ℕ, ◌/◌, ◌%◌, ◌≤◌}
use mathlib.Core.Path.{◌≡◌, refl, sym, ap, ap₂, subst, ◌∙◌}
use mathlib.Core.List.{[], ◌∷◌}
use mathlib.Core.Bool.{Bool, true, false, not, ◌&&◌, ◌||◌, beq, false≢true}
use mathlib.Core.Logic.{◌⊎◌, inl, inr}
use lib.ListN.{get_or}
use Rattle.model.specs.Bytes.{Bytes, bit}
use Rattle.model.specs.Tree.{Head, Field, Children}
use Rattle.model.specs.Tree.Children.{fields, counted, counted_with_ids}
use Rattle.model.specs.Sheet.{head_map, front_bytes, head_bytes}
use Rattle.model.specs.WellFormed.{LaidOut}
use Rattle.model.specs.Datatype.{contains_metadata}
use Rattle.model.proofs.Lists.{and_true, beq_eq}
use Rattle.model.proofs.MapBits.{map_bits}
use Rattle.model.proofs.SameBytes.{not_true}
use Rattle.layout.specs.Kinds.{children_of}
use Rattle.layout.specs.declared.ChildrenKind.{ChildrenKind}
use Rattle.layout.specs.declared.ChildrenKind.TheVariants.{Fields, KeyAndValue, Counted, CountedWithIds}
use Rattle.walk.specs.Stands.{Stands, Skips, SkipsType, SkipsField}
use Rattle.walk.proofs.Standing.{stands_behind, skip_ahead, skip_join}
use Rattle.walk.proofs.Parts.{Ahead, front_stands, map_stands}
use Rattle.datatype.specs.declared.compare.Comparison.{Comparison}
use Rattle.datatype.specs.Children.{child_bytes}
use Rattle.datatype.specs.Comparisons.{PairsAt, same_head, contains_head, compare_head}
use Rattle.datatype.proofs.Encodings.{rest_of, beq_of, heads_low, heads_high, heads_rest}
use Rattle.datatype.proofs.Texts.{Stretches, behind_first, Heads, same_name, Contained}

-- Plain equality

module _ {s t : Bytes} {a b map other : ℕ} (e : map ≡ get_or s a 0) (f : other ≡ get_or t b 0) where
  nullables : {n m : Bool} → n ≡ bit 0 map → m ≡ bit 0 other → (h g : Head) → Stands s a (head_bytes h) → Stands t b (head_bytes g) → (n ≡ h.nullable) × (m ≡ g.nullable)
  nullables i j h g st st' = (i ∙ ap (bit 0) (map_stands e h st) ∙ (map_bits h).nullable, j ∙ ap (bit 0) (map_stands f g st') ∙ (map_bits g).nullable)

  orders : {n m : Bool} → n ≡ bit 1 map → m ≡ bit 1 other → (h g : Head) → Stands s a (head_bytes h) → Stands t b (head_bytes g) → (n ≡ h.dict_is_ordered) × (m ≡ g.dict_is_ordered)
  orders i j h g st st' = (i ∙ ap (bit 1) (map_stands e h st) ∙ (map_bits h).dict_is_ordered, j ∙ ap (bit 1) (map_stands f g st') ∙ (map_bits g).dict_is_ordered)

  module _ {n m : Bool} (i : n ≡ bit 0 map) (j : m ≡ bit 0 other) where
    pub heads_by_low : (n ≡ m → ⊥) → Heads same_head s a t b false
    heads_by_low d h g st st' = let (x, y) = nullables i j h g st st' in heads_low h g λ z. d (x ∙ z ∙ sym y)

    pub heads_by_high : (map / 4 % 4 ≡ other / 4 % 4 → ⊥) → Heads same_head s a t b false
    heads_by_high d h g st st' = heads_high h g λ z. d (ap (λ m. m / 4 % 4) (map_stands e h st) ∙ z ∙ ap (λ m. m / 4 % 4) (sym (map_stands f g st')))

    pub heads_by_rest : {from since e' f' : ℕ} {r : Bool} → n ≡ m → map / 4 % 4 ≡ other / 4 % 4 → Ahead s a 1 from → Ahead t b 1 since
        → ((h : Head) → Skips s a (front_bytes h) e') → ((h : Head) → Skips t b (front_bytes h) f') → Stretches s from e' t since f' r → Heads same_head s a t b r
    unfolding front_bytes
    heads_by_rest k l ah ah' sk sk' c h g st st' =
        let p = skip_ahead (head_map h ∷ []) refl ah.1 in
        let q = skip_ahead (head_map g ∷ []) refl ah'.1 in
        let u = front_stands h st in
        let v = front_stands g st' in
        let (x, y) = nullables i j h g st st' in
        c (rest_of h) (rest_of g) (stands_behind p u) (stands_behind q v) (behind_first _ (rest_of h) p (sk h) u) (behind_first _ (rest_of g) q (sk' g) v)
        ∙ heads_rest h g (sym x ∙ k ∙ y) (ap (λ m. m / 4 % 4) (sym (map_stands e h st)) ∙ l ∙ ap (λ m. m / 4 % 4) (map_stands f g st'))

  -- `equals_datatype`: the nullabilities
  pub heads_alike : {n m : Bool} → n ≡ bit 0 map → m ≡ bit 0 other → Heads (λ h g. beq h.nullable g.nullable) s a t b (beq n m)
  heads_alike i j h g st st' = let (x, y) = nullables i j h g st st' in ap₂ beq x y

-- Containment

-- what a head that contains another has
record Contains' (h g : Head) : Type 0 where
  name : same_name h g ≡ true
  order : h.dict_is_ordered ≡ g.dict_is_ordered
  nullable : (h.nullable || not g.nullable) ≡ true

contains_facts : (h g : Head) → contains_head h g ≡ true → Contains' h g
unfolding contains_head
contains_facts h g e =
    let (p, m) = and_true _ _ e in
    let (q, n) = and_true _ _ p in
    let (r, o) = and_true _ _ q in
    record { name = r; order = beq_eq _ _ o; nullable = n }

nullable_most : (a b : Bool) → (b ≡ true → a ≡ true) → (a || not b) ≡ true
nullable_most true b h = refl
nullable_most false true h = h refl
nullable_most false false h = refl

module _ {s t : Bytes} {a b map other : ℕ} (e : map ≡ get_or s a 0) (f : other ≡ get_or t b 0) {n m : Bool} (i : n ≡ bit 1 map) (j : m ≡ bit 1 other) where
  pub heads_by_order : (n ≡ m → ⊥) → Heads contains_head s a t b false
  heads_by_order d h g st st' = let (x, y) = orders e f i j h g st st' in not_true _ λ k. d (x ∙ (contains_facts h g k).order ∙ sym y)

  pub heads_by_nullable : bit 0 map ≡ false → bit 0 other ≡ true → Heads contains_head s a t b false
  heads_by_nullable u v h g st st' =
      let (x, y) = nullables e f refl refl h g st st' in
      not_true _ λ w. false≢true (ap₂ (λ a b. a || not b) (sym u ∙ x) (sym v ∙ y) ∙ (contains_facts h g w).nullable)

  pub heads_by_metadata : {r z : Bool} {c at d since : ℕ} → n ≡ m → (bit 0 other ≡ true → bit 0 map ≡ true) → r ≡ true → Heads same_name s a t b r
      → ((h : Head) → Stands s a (head_bytes h) → PairsAt s h.metadata c at) → ((h : Head) → Stands t b (head_bytes h) → PairsAt t h.metadata d since)
      → Contained s c at t d since z → Heads contains_head s a t b z
  unfolding contains_head
  heads_by_metadata o w u names v v' contained h g st st' =
      let (x, y) = orders e f i j h g st st' in
      let (x', y') = nullables e f refl refl h g st st' in
      let order = beq h.dict_is_ordered g.dict_is_ordered in
      let nullable = h.nullable || not g.nullable in
      let metadata = contains_metadata h.metadata g.metadata in
      contained h.metadata g.metadata (v h st) (v' g st')
      ∙ sym
      (ap (λ n. n && order && nullable && metadata) (sym (names h g st st') ∙ u) ∙ ap (λ o. o && nullable && metadata) (beq_of h.dict_is_ordered g.dict_is_ordered (sym x ∙ o ∙ y))
      ∙ ap (λ n. n && metadata) (nullable_most h.nullable g.nullable λ z. sym x' ∙ w (y' ∙ z)))

pub heads_names : {s t : Bytes} {a b : ℕ} {r : Bool} → r ≡ false → Heads same_name s a t b r → Heads contains_head s a t b false
heads_names e c h g st st' = not_true _ λ i. false≢true (sym e ∙ c h g st st' ∙ (contains_facts h g i).name)

-- The comparison meant

pub heads_as : {s t : Bytes} {a b : ℕ} {r : Bool} {how : Comparison} (k : Comparison) → how ≡ k → Heads (compare_head k) s a t b r → Heads (compare_head how) s a t b r
heads_as {s} {t} {a} {b} {r} k e c = subst (λ k. Heads (compare_head k) s a t b r) (sym e) c

-- Children by their kind

-- children that are fields and no more
pub field_case : (P : Children → Type 0) → ((n : ℕ) → P (fields n)) → P counted → {kind : ChildrenKind} → ((n : ℕ) × kind ≡ Fields n) ⊎ kind ≡ Counted → P (children_of kind)
unfolding children_of
field_case P f g (inl (n, e)) = rw e (f n)
field_case P f g (inr e) = rw e g

-- children behind a count
pub counted_case : (P : Children → Type 0) → P counted → P counted_with_ids → {kind : ChildrenKind} → kind ≡ Counted ⊎ kind ≡ CountedWithIds → P (children_of kind)
unfolding children_of
counted_case P f g (inl e) = rw e f
counted_case P f g (inr e) = rw e g

-- what `skip_child` ensures
abbrev pub Behind : Bytes → ℕ → Children → ℕ → ℕ → Type 0
Behind s place c levels r = (l : ℕ) (k : Field l) → l ≤ levels → LaidOut l k.data_type → Skips s place (child_bytes l c k) r

module _ {s : Bytes} {place levels r : ℕ} {kind : ChildrenKind} where
  pub type_behind : kind ≡ KeyAndValue → SkipsType s place levels r → Behind s place (children_of kind) levels r
  unfolding children_of child_bytes
  type_behind e f = rw e λ l k h w. f l k.data_type h w

  pub field_behind : ((n : ℕ) × kind ≡ Fields n) ⊎ kind ≡ Counted → SkipsField s place levels r → Behind s place (children_of kind) levels r
  unfolding child_bytes
  field_behind e f = field_case (λ c. Behind s place c levels r) (λ n. f) f e

  pub member_behind : {field : ℕ} → kind ≡ CountedWithIds → Ahead s place 1 field → SkipsField s field levels r → Behind s place (children_of kind) levels r
  unfolding children_of child_bytes
  member_behind e a f = rw e λ l k h w. skip_join (skip_ahead (_ ∷ []) refl a.1) (f l k h w)
