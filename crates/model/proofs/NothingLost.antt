-- In an accepted merge nothing is lost: each schema given is held in the answer.
use Prim.Native.Nat.{ℕ, zero, suc, ◌+◌, ◌≤◌}
use native.Mathlib.Omega.{arith}
use mathlib.Core.Path.{◌≡◌, refl, sym, ap, subst, ◌∙◌}
use mathlib.Core.Logic.{◌⊎◌, inl, inr, ⊎_elim}
use mathlib.Core.List.Memᴰ
use mathlib.Core.List.{List, [], ◌∷◌, ◌++◌, Memᴰ}
use mathlib.Core.Bool.{Bool, true, false, ◌&&◌, ◌||◌, and-eq-true_iff}
use lib.ListN.{length}
use lib.Dec.{eqb}
use borrow.Author.Tests.{eqb-true, eqb-false, eq-eqb, not-false}
use Rattle.model.specs.Numbers.{max_levels, schema_metadata_clash, ordered_clash, field_metadata_clash, type_clash, equal_child_clash, type_id_clash}
use Rattle.model.specs.Bytes.{Bytes, Metadata, same, Every, same_bytes}
use Rattle.model.specs.Tree.{DataTypeOver, FieldOver, DataType, Field, Schema, with_children, Null, List', LargeList, Struct, Union}
use Rattle.model.specs.Tree.{fields, layout}
use Rattle.model.specs.Read.{got, next}
use Rattle.model.specs.Equal.{same_field, same_child, same_type}
use Rattle.model.specs.Merge.{Merged, done, clash, ◌>>=◌, pour, merge_pair, merge_metadata, merge_by_name, merge_child, orders_agree, merge_field, merge_each}
use Rattle.model.specs.Merge.{is_null, merge_same_code, merge_type, merge_schema, empty, placed, merge_from, try_merge}
use Rattle.model.specs.Growth.{Kept, Stayed, Pairwise, none, pair}
use Rattle.model.specs.WellFormed.{WellFormedChildren, WellFormedType, WellFormedSchema, SomeOrder}
use Rattle.model.proofs.Gives.{Gives, value, refusal, of_done, any_gives, bind_gives, need_gives, choose_gives, gives_map}
use Rattle.model.proofs.Modes.{stayed_trans, first_stayed, second_stayed}
use Rattle.model.proofs.Lists.{or_false, or_left, or_right, every_unit, every_append, every_map}
use Rattle.model.proofs.ByteStrings.{same_bytes_eq}
use Rattle.model.proofs.Layouts.{list_children}
use Rattle.model.proofs.WellFormed.{children_types, column_types}
use Rattle.model.proofs.Grows.{kept_refl, kept_trans, pairwise_refl, pairwise_trans}
use Rattle.model.proofs.Equivalences.{below_neither, Equivalence, symmetric, transitive, field_equivalence, type_equivalence}

-- What "held" means

-- each element of the first list is related to some element of the second
abbrev pub EachIn : {A : Type 0} → (A → A → Type 0) → List A → List A → Type 0
EachIn {A} R xs ys = (x : A) → Memᴰ x xs → (y : A) × Memᴰ y ys × R x y

-- A field f that was given, in a field h of the answer. Names are compared where the fields stand: a list's child may get another.
-- A field of type Null alone stays as it is; once merged with another it is nullable. Parked log first, the order flag of a Null gives way
-- to that of the type which it takes. Not asked is the dictionary number, since a later field's gives way to the first one's. Standing.antt says
-- which flag and which dictionary number stand.
pub record HeldField {T : Type 0} (parked : Bool) (H : T → T → Type 0) (is_null : T → Bool) (f h : FieldOver T) : Type 0 where
  pub metadata : Kept f.head.metadata h.head.metadata
  pub dict_is_ordered : Stayed parked (is_null f.data_type) f.head.dict_is_ordered h.head.dict_is_ordered
  pub nullable : f.head.nullable ≡ true → h.head.nullable ≡ true
  pub null : is_null f.data_type ≡ true → (h.head.nullable ≡ true) ⊎ (is_null h.data_type ≡ true)
  pub data_type : H f.data_type h.data_type

-- a column or a struct's child: in one of its name
abbrev pub HeldByName : {T : Type 0} → Bool → (T → T → Type 0) → (T → Bool) → FieldOver T → FieldOver T → Type 0
HeldByName parked H is_null f h = (f.head.name ≡ h.head.name) × HeldField parked H is_null f h

-- a union's child: in an equal one of its id
abbrev pub HeldById : {T : Type 0} → (T → T → Bool) → FieldOver T → FieldOver T → Type 0
HeldById eq f h = (f.head.type_id ≡ h.head.type_id) × (same_field eq f h ≡ true)

abbrev pub IsList : ℕ → Type 0
IsList c = (c ≡ List') ⊎ (c ≡ LargeList)

-- the code of a type that is merged only with an equal one
abbrev pub IsOther : ℕ → Type 0
IsOther c = Every (λ d. c ≡ d → ⊥) (Null ∷ List' ∷ LargeList ∷ Struct ∷ Union ∷ [])

-- A type b that was given, in a type t of the answer. Of a Null nothing is asked. `H`, `is_null` and `eq` speak of the children's types,
-- `eqOver` is equality of types such as b and t. Not asked, since the Rust's merge drops them: the mode of a later union, the name of a
-- later list's child, and the order flags and dictionary numbers inside types and union children that are equal, since equality ignores them.
pub record HeldOver {T : Type 0} (parked : Bool) (H : T → T → Type 0) (is_null : T → Bool) (eq : T → T → Bool)
    (eqOver : DataTypeOver (FieldOver T) → DataTypeOver (FieldOver T) → Bool) (b t : DataTypeOver (FieldOver T)) : Type 0 where
  pub struct : b.code ≡ Struct → (t.code ≡ Struct) × EachIn (HeldByName parked H is_null) b.children t.children
  pub union : b.code ≡ Union → (t.code ≡ Union) × EachIn (HeldById eq) b.children t.children
  pub list : IsList b.code → (t.code ≡ b.code) × Pairwise (HeldField parked H is_null) b.children t.children
  pub other : IsOther b.code → eqOver b t ≡ true

-- by levels
abbrev pub Held : Bool → (l : ℕ) → DataType l → DataType l → Type 0
Held parked zero b t = ⊥
Held parked (suc l) b t = HeldOver parked (Held parked l) (is_null l) (same_type l) (same_type (suc l)) b t

-- a schema x that was given, in the schema z of the answer
pub record HeldSchema (parked : Bool) (x z : Schema) : Type 0 where
  pub metadata : Kept x.metadata z.metadata
  pub columns : EachIn (HeldByName parked (Held parked max_levels) (is_null max_levels)) x.columns z.columns

-- how many columns the schemas have together
abbrev pub columns_given : List Schema → ℕ
columns_given [] = 0
columns_given (x ∷ xs) = length x.columns + columns_given xs

-- Each List and LargeList has one child, as in every sheet that reads. It is needed: of a List with no child and a List with one,
-- `merge_each` gives the former.
abbrev pub OneChild : (l : ℕ) → DataType l → Type 0
OneChild zero t = ⊥
OneChild (suc l) t = (IsList t.code → length t.children ≡ 1) × Every (λ f. OneChild l f.data_type) t.children

-- in each column
abbrev pub OneChildEach : Schema → Type 0
OneChildEach x = Every (λ f. OneChild max_levels f.data_type) x.columns

-- To be held is reflexive and transitive

module _ {A : Type 0} (R : A → A → Type 0) where
  each_in_refl : ((a : A) → R a a) → (xs : List A) → EachIn R xs xs
  each_in_refl r xs x i = (x, i, r x)

  each_in_trans : ((a b c : A) → R a b → R b c → R a c) → (xs ys zs : List A) → EachIn R xs ys → EachIn R ys zs → EachIn R xs zs
  each_in_trans t xs ys zs h k x i =
      let (y, j, p) = h x i in
      let (z, m, q) = k y j in
      (z, m, t x y z p q)

module _ {T : Type 0} {parked : Bool} {H : T → T → Type 0} {is_null : T → Bool} where
  -- a field is held in itself
  pub held_field_refl : ((t : T) → H t t) → (f : FieldOver T) → HeldField parked H is_null f f
  held_field_refl r f = record { metadata = kept_refl _; dict_is_ordered = inl refl; nullable = λ e. e; null = λ e. inr e; data_type = r _ }

  -- a field held in one that is held in a third is held in the third
  pub held_field_trans : ((a b : T) → H a b → is_null b ≡ true → is_null a ≡ true) → ((a b c : T) → H a b → H b c → H a c)
      → (f g h : FieldOver T) → HeldField parked H is_null f g → HeldField parked H is_null g h → HeldField parked H is_null f h
  held_field_trans was t f g h p q =
      record {
        metadata = kept_trans _ _ _ p.metadata q.metadata;
        dict_is_ordered = stayed_trans parked (is_null f.data_type) (is_null g.data_type) _ _ _ (was _ _ p.data_type) p.dict_is_ordered q.dict_is_ordered;
        nullable = λ e. q.nullable (p.nullable e);
        null = λ e. ⊎_elim (λ n. inl (q.nullable n)) q.null (p.null e);
        data_type = t _ _ _ p.data_type q.data_type;
      }

  by_name_refl : ((t : T) → H t t) → (f : FieldOver T) → HeldByName parked H is_null f f
  by_name_refl r f = (refl, held_field_refl r f)

  by_name_trans : ((a b : T) → H a b → is_null b ≡ true → is_null a ≡ true) → ((a b c : T) → H a b → H b c → H a c)
      → (f g h : FieldOver T) → HeldByName parked H is_null f g → HeldByName parked H is_null g h → HeldByName parked H is_null f h
  by_name_trans was t f g h p q = (p.0 ∙ q.0, held_field_trans was t f g h p.1 q.1)

module _ {T : Type 0} {eq : T → T → Bool} (E : Equivalence eq) where
  by_id_refl : (f : FieldOver T) → HeldById eq f f
  by_id_refl f = (refl, (field_equivalence E).self f)

  by_id_trans : (f g h : FieldOver T) → HeldById eq f g → HeldById eq g h → HeldById eq f h
  by_id_trans f g h p q = (p.0 ∙ q.0, transitive (field_equivalence E) f g h p.1 q.1)

-- a type is held in itself
pub held_refl : (parked : Bool) (l : ℕ) (t : DataType l) → Held parked l t t
held_refl parked zero t = absurd t
held_refl parked (suc l) t =
    record {
      struct = λ e. (e, each_in_refl _ (by_name_refl (held_refl parked l)) t.children);
      union = λ e. (e, each_in_refl _ (by_id_refl (type_equivalence l)) t.children);
      list = λ e. (refl, pairwise_refl (held_field_refl (held_refl parked l)) t.children);
      other = λ n. (type_equivalence (suc l)).self t;
    }

same_code : (l : ℕ) (a b : DataType (suc l)) → same_type (suc l) a b ≡ true → a.code ≡ b.code
unfolding same_type
same_code l a b h = eqb-true _ _ ((and-eq-true_iff _ _).0 ((and-eq-true_iff _ _).0 h).0).0

list_codes : (c : ℕ) → (eqb c List' || eqb c LargeList) ≡ true → IsList c
list_codes c h = go (eqb c List') refl h
  where
    go : (b : Bool) → eqb c List' ≡ b → (b || eqb c LargeList) ≡ true → IsList c
    go true e h = inl (eqb-true _ _ e)
    go false e h = inr (eqb-true _ _ h)

other_code : (c : ℕ) → eqb c Null ≡ false → eqb c Struct ≡ false → eqb c Union ≡ false → (eqb c List' || eqb c LargeList) ≡ false → IsOther c
other_code c p q r h =
    let (s, t) = or_false _ _ h in
    (eqb-false _ _ p, (eqb-false _ _ s, (eqb-false _ _ t, (eqb-false _ _ q, (eqb-false _ _ r, tt)))))

list_bounds : (c : ℕ) → IsList c → (List' ≤ c) × (c ≤ LargeList)
list_bounds c (inl e) = omega (arith, e)
list_bounds c (inr e) = omega (arith, e)

-- what a type is held in is not Null, unless the type was
held_null : (parked : Bool) (l : ℕ) (a b : DataType l) → Held parked l a b → is_null l b ≡ true → is_null l a ≡ true
unfolding is_null
held_null parked zero a b h n = absurd a
held_null parked (suc l) a b h n = go (eqb a.code Null) (eqb a.code Struct) (eqb a.code Union) (eqb a.code List' || eqb a.code LargeList) refl refl refl refl
  where
    null : b.code ≡ Null
    null = eqb-true _ _ n

    go : (p q r s : Bool) → eqb a.code Null ≡ p → eqb a.code Struct ≡ q → eqb a.code Union ≡ r → (eqb a.code List' || eqb a.code LargeList) ≡ s → p ≡ true
    go true q r s e f g k = refl
    go false true r s e f g k = absurd (omega (arith, null, (h.struct (eqb-true _ _ f)).0))
    go false false true s e f g k = absurd (omega (arith, null, (h.union (eqb-true _ _ g)).0))
    go false false false true e f g k = let i = list_codes _ k in absurd (omega (arith, null, (h.list i).0, list_bounds _ i))
    go false false false false e f g k = absurd (eqb-false _ _ e (same_code l a b (h.other (other_code _ e f g k)) ∙ null))

-- a type held in one that is held in a third is held in the third
pub held_trans : (parked : Bool) (l : ℕ) (a b c : DataType l) → Held parked l a b → Held parked l b c → Held parked l a c
held_trans parked zero a b c p q = absurd a
held_trans parked (suc l) a b c p q =
    record {
      struct = λ e.
          let (f, x) = p.struct e in
          let (g, y) = q.struct f in
          (g, each_in_trans _ (by_name_trans (held_null parked l) (held_trans parked l)) a.children b.children c.children x y);
      union = λ e.
          let (f, x) = p.union e in
          let (g, y) = q.union f in
          (g, each_in_trans _ (by_id_trans (type_equivalence l)) a.children b.children c.children x y);
      list = λ e.
          let (f, x) = p.list e in
          let (g, y) = q.list (subst IsList (sym f) e) in
          (g ∙ f, pairwise_trans (held_field_trans (held_null parked l) (held_trans parked l)) x y);
      other = λ n.
          let h = p.other n in
          transitive (type_equivalence (suc l)) a b c h (q.other (subst IsOther (same_code l a b h) n));
    }

-- a schema is held in itself
pub held_schema_refl : (parked : Bool) (x : Schema) → HeldSchema parked x x
held_schema_refl parked x = record { metadata = kept_refl _; columns = each_in_refl _ (by_name_refl (held_refl parked max_levels)) x.columns }

-- a schema held in one that is held in a third is held in the third
pub held_schema_trans : (parked : Bool) (x y z : Schema) → HeldSchema parked x y → HeldSchema parked y z → HeldSchema parked x z
held_schema_trans parked x y z p q =
    record {
      metadata = kept_trans _ _ _ p.metadata q.metadata;
      columns = each_in_trans _ (by_name_trans (held_null parked max_levels) (held_trans parked max_levels)) x.columns y.columns z.columns p.columns q.columns;
    }

-- Lists into which elements are merged: metadata, columns, a struct's children, a union's children

-- What became of the elements xs that stood and ys that came: each is related to some element of r, N holds of each element of r, and r
-- is no longer than both together.
pub record Gathered {A : Type 0} (N : A → Type 0) (R : A → A → Type 0) (xs ys r : List A) : Type 0 where
  pub each : Every N r
  pub old : EachIn R xs r
  pub new : EachIn R ys r
  pub size : length r ≤ length xs + length ys

module _ {A : Type 0} (R : A → A → Type 0) where
  one_in : (x y : A) (r : List A) → Memᴰ y r → R x y → EachIn R (x ∷ []) r
  one_in x y r j h z i = (y, j, subst (λ z. R z y) (sym (Memᴰ.eq_of_singleton i)) h)

  more_in : (x : A) (xs r : List A) → EachIn R (x ∷ []) r → EachIn R xs r → EachIn R (x ∷ xs) r
  more_in x xs r h k z (Memᴰ.head i) = h z (Memᴰ.head i)
  more_in x xs r h k z (Memᴰ.tail i) = k z i

  in_longer : (g : A) (xs r : List A) → EachIn R xs r → EachIn R xs (g ∷ r)
  in_longer g xs r h z i = let (y, j, k) = h z i in (y, Memᴰ.tail j, k)

module _ {A : Type 0} (N : A → Type 0) (R : A → A → Type 0) (R-refl : (a : A) → R a a) where
  -- the newcomer stands before all
  before_all : (x : A) (gs : List A) → N x → Every N gs → Gathered N R gs (x ∷ []) (x ∷ gs)
  before_all x gs n e =
      record {
        each = (n, e);
        old = in_longer R x gs gs (each_in_refl R R-refl gs);
        new = one_in R x x (x ∷ gs) (Memᴰ.head refl) (R-refl x);
        size = omega arith;
      }

  -- the newcomer and the first become one
  with_first : (g h x : A) (gs : List A) → N h → Every N gs → R g h → R x h → Gathered N R (g ∷ gs) (x ∷ []) (h ∷ gs)
  with_first g h x gs n e p q =
      record {
        each = (n, e);
        old = more_in R g gs (h ∷ gs) (one_in R g h (h ∷ gs) (Memᴰ.head refl) p) (in_longer R h gs gs (each_in_refl R R-refl gs));
        new = one_in R x h (h ∷ gs) (Memᴰ.head refl) q;
        size = omega arith;
      }

  -- the newcomer goes somewhere behind the first
  behind_first : (g : A) (gs xs r : List A) → N g → Gathered N R gs xs r → Gathered N R (g ∷ gs) xs (g ∷ r)
  behind_first g gs xs r n k =
      record {
        each = (n, k.each);
        old = more_in R g gs (g ∷ r) (one_in R g g (g ∷ r) (Memᴰ.head refl) (R-refl g)) (in_longer R g gs r k.old);
        new = in_longer R g xs r k.new;
        size = omega (arith, k.size);
      }

  -- one newcomer after the other
  pour_gathers : ((a b c : A) → R a b → R b c → R a c) → (put : List A → A → Merged (List A))
      → ((gs : List A) (x : A) → Every N gs → N x → Gives (Gathered N R gs (x ∷ [])) (put gs x))
      → (gs xs : List A) → Every N gs → Every N xs → Gives (Gathered N R gs xs) (pour put gs xs)
  unfolding pour
  pour_gathers R-trans put puts gs [] e n =
      value (record { each = e; old = each_in_refl R R-refl gs; new = λ z i. absurd (Memᴰ.not-nil i); size = omega arith })
  pour_gathers R-trans put puts gs (x ∷ xs) e n =
      bind_gives _ (puts gs x e n.0) λ r k.
      gives_map (pour_gathers R-trans put puts r xs k.each n.1) λ s q.
      record {
        each = q.each;
        old = each_in_trans R R-trans gs r s k.old q.old;
        new = more_in R x xs s (each_in_trans R R-trans (x ∷ []) r s k.new q.old) q.new;
        size = omega (arith, k.size, q.size);
      }

-- Metadata

pair_gathers : (n : ℕ) (m : Metadata) (p : Bytes × Bytes) → Gives (Gathered (λ q. Unit {0}) ◌≡◌ m (p ∷ [])) (merge_pair n m p)
unfolding merge_pair
pair_gathers n [] p = value (before_all _ ◌≡◌ (λ q. refl) p [] tt tt)
pair_gathers n (q ∷ qs) p =
    choose_gives _ _ _ (λ b. bind_gives _ (pair_gathers n qs p) λ r k. value (behind_first _ ◌≡◌ (λ q. refl) q qs (p ∷ []) r tt k)) λ b.
    choose_gives _ _ _ (λ c. value (before_all _ ◌≡◌ (λ q. refl) p (q ∷ qs) tt (every_unit (q ∷ qs)))) λ c.
    need_gives _ n _ λ e.
    let key : p.0 ≡ q.0 = below_neither _ _ c b in
    let val : p.1 ≡ q.1 = sym (same_bytes_eq _ _ e) in
    with_first _ ◌≡◌ (λ q. refl) q q p qs tt (every_unit qs) refl (λ i. (key i, val i))

-- each pair of both is kept in what the merge of two metadata gives
pub metadata_held : (n : ℕ) (old new : Metadata) → Gives (λ m. Kept old m × Kept new m) (merge_metadata n old new)
unfolding merge_metadata
metadata_held n old new =
    gives_map
    (pour_gathers _ ◌≡◌ (λ q. refl) (λ a b c p q. p ∙ q) (merge_pair n) (λ m p e u. pair_gathers n m p) old new (every_unit old) (every_unit new)) λ m k.
    (kept old m k.old, kept new m k.new)
  where
    kept : (a b : Metadata) → EachIn ◌≡◌ a b → Kept a b
    kept a b h p i = let (q, j, e) = h p i in Memᴰ.cast e j

-- Fields

-- fields over types of which N holds
abbrev pub Over : {T : Type 0} → (T → Type 0) → FieldOver T → Type 0
Over N f = N f.data_type

module _ {T : Type 0} (N : T → Type 0) (parked : Bool) (H : T → T → Type 0) (merge : T → T → Merged T) (is_null : T → Bool)
    (merge-holds : (a b : T) → N a → N b → Gives (λ t. N t × H a t × H b t) (merge a b)) where
  -- both fields are held in what their merge gives, which has the first's name
  pub field_held : (f g : FieldOver T) → Over N f → Over N g
      → Gives (λ h. Over N h × (f.head.name ≡ h.head.name) × HeldField parked H is_null f h × HeldField parked H is_null g h) (merge_field parked merge is_null f g)
  unfolding merge_field
  field_held f g n m =
      bind_gives {P = λ u. orders_agree parked is_null f g ≡ true} _ (need_gives _ ordered_clash tt λ e. e) λ u o.
      bind_gives _ (metadata_held field_metadata_clash f.head.metadata g.head.metadata) λ ps k.
      bind_gives _ (merge-holds f.data_type g.data_type n m) λ t q.
      let a = f.head.nullable in
      let b = g.head.nullable in
      let c = is_null f.data_type in
      let d = is_null g.data_type in
      value (
        q.0,
        refl,
        record {
          metadata = k.0;
          dict_is_ordered = first_stayed is_null f g parked;
          nullable = λ e. or_left (a || b || c) d (or_left (a || b) c (or_left a b e));
          null = λ e. inl (or_left (a || b || c) d (or_right (a || b) c e));
          data_type = q.1;
        },
        record {
          metadata = k.1;
          dict_is_ordered = second_stayed is_null f g parked o;
          nullable = λ e. or_left (a || b || c) d (or_left (a || b) c (or_right a b e));
          null = λ e. inl (or_right (a || b || c) d e);
          data_type = q.2;
        },
      )

  -- the children of two lists, as many of the one as of the other, are held one by one
  pub each_held : (fs gs : List (FieldOver T)) → length fs ≡ length gs → Every (Over N) fs → Every (Over N) gs
      → Gives (λ hs. Every (Over N) hs × (length hs ≡ length fs) × Pairwise (HeldField parked H is_null) fs hs × Pairwise (HeldField parked H is_null) gs hs)
      (merge_each parked merge is_null fs gs)
  unfolding merge_each
  each_held [] [] z e k = value {a = []} (tt, refl, none, none)
  each_held [] (g ∷ gs) z e k = absurd (omega (arith, z))
  each_held (f ∷ fs) [] z e k = absurd (omega (arith, z))
  each_held (f ∷ fs) (g ∷ gs) z e k =
      bind_gives _ (field_held f g e.0 k.0) λ h p.
      bind_gives _ (each_held fs gs (omega (arith, z)) e.1 k.1) λ hs q.
      value {a = h ∷ hs} ((p.0, q.0), ap suc q.1, pair p.2 q.2, pair p.3 q.3)

  module _ (H-refl : (t : T) → H t t) (was : (a b : T) → H a b → is_null b ≡ true → is_null a ≡ true) (H-trans : (a b c : T) → H a b → H b c → H a c) where
    by_name_gathers : (gs : List (FieldOver T)) (f : FieldOver T) → Every (Over N) gs → Over N f
        → Gives (Gathered (Over N) (HeldByName parked H is_null) gs (f ∷ [])) (merge_by_name (merge_field parked merge is_null) gs f)
    unfolding merge_by_name
    by_name_gathers [] f e n = value (before_all _ _ (by_name_refl H-refl) f [] n tt)
    by_name_gathers (g ∷ gs) f e n =
        choose_gives _ _ _
        (λ b. bind_gives _ (field_held g f e.0 n) λ h k.
        value (with_first _ _ (by_name_refl H-refl) g h f gs k.0 e.1 (k.1, k.2) (sym (same_bytes_eq _ _ b) ∙ k.1, k.3))) λ b.
        bind_gives _ (by_name_gathers gs f e.1 n) λ r k. value (behind_first _ _ (by_name_refl H-refl) g gs (f ∷ []) r e.0 k)

    -- each field that stood or came is held in one of its name, and there are no more fields than stood and came
    pub by_name_held : (gs fs : List (FieldOver T)) → Every (Over N) gs → Every (Over N) fs
        → Gives (Gathered (Over N) (HeldByName parked H is_null) gs fs) (pour (merge_by_name (merge_field parked merge is_null)) gs fs)
    by_name_held = pour_gathers _ _ (by_name_refl H-refl) (by_name_trans was H-trans) _ by_name_gathers

module _ {T : Type 0} (N : T → Type 0) (eq : T → T → Bool) (E : Equivalence eq) where
  child_gathers : (gs : List (FieldOver T)) (f : FieldOver T) → Every (Over N) gs → Over N f
      → Gives (Gathered (Over N) (HeldById eq) gs (f ∷ [])) (merge_child eq gs f)
  unfolding merge_child
  child_gathers [] f e n = value (before_all _ _ (by_id_refl E) f [] n tt)
  child_gathers (g ∷ gs) f e n =
      choose_gives _ _ _
      (λ b. need_gives _ equal_child_clash _ λ i.
      with_first _ _ (by_id_refl E) g g f gs e.0 e.1 (by_id_refl E g) (sym (eqb-true _ _ i), b)) λ b.
      bind_gives _ (child_gathers gs f e.1 n) λ r k. value (behind_first _ _ (by_id_refl E) g gs (f ∷ []) r e.0 k)

  -- each union child that stood or came is held in an equal one of its id, and there are no more children than stood and came
  pub by_id_held : (gs fs : List (FieldOver T)) → Every (Over N) gs → Every (Over N) fs
      → Gives (Gathered (Over N) (HeldById eq) gs fs) (pour (merge_child eq) gs fs)
  by_id_held = pour_gathers _ _ (by_id_refl E) (by_id_trans E) _ child_gathers

-- Types

-- by the code of the type that was given
module _ {T : Type 0} {parked : Bool} {H : T → T → Type 0} {is_null : T → Bool} {eq : T → T → Bool}
    {eqOver : DataTypeOver (FieldOver T) → DataTypeOver (FieldOver T) → Bool} (b t : DataTypeOver (FieldOver T)) where
  null_held : b.code ≡ Null → HeldOver parked H is_null eq eqOver b t
  null_held e =
      record {
        struct = λ f. absurd (omega (arith, e, f));
        union = λ f. absurd (omega (arith, e, f));
        list = λ f. absurd (omega (arith, e, list_bounds _ f));
        other = λ n. absurd (n.0 e);
      }

  struct_held : b.code ≡ Struct → t.code ≡ Struct → EachIn (HeldByName parked H is_null) b.children t.children → HeldOver parked H is_null eq eqOver b t
  struct_held e e' h =
      record {
        struct = λ f. (e', h);
        union = λ f. absurd (omega (arith, e, f));
        list = λ f. absurd (omega (arith, e, list_bounds _ f));
        other = λ n. absurd (n.1.1.1.0 e);
      }

  union_held : b.code ≡ Union → t.code ≡ Union → EachIn (HeldById eq) b.children t.children → HeldOver parked H is_null eq eqOver b t
  union_held e e' h =
      record {
        struct = λ f. absurd (omega (arith, e, f));
        union = λ f. (e', h);
        list = λ f. absurd (omega (arith, e, list_bounds _ f));
        other = λ n. absurd (n.1.1.1.1.0 e);
      }

  list_held : IsList b.code → t.code ≡ b.code → Pairwise (HeldField parked H is_null) b.children t.children → HeldOver parked H is_null eq eqOver b t
  list_held e e' h =
      record {
        struct = λ f. absurd (omega (arith, f, list_bounds _ e));
        union = λ f. absurd (omega (arith, f, list_bounds _ e));
        list = λ f. (e', h);
        other = λ n. absurd (⊎_elim n.1.0 n.1.1.0 e);
      }

  other_held : IsOther b.code → eqOver b t ≡ true → HeldOver parked H is_null eq eqOver b t
  other_held n h =
      record {
        struct = λ f. absurd (n.1.1.1.0 f);
        union = λ f. absurd (n.1.1.1.1.0 f);
        list = λ f. absurd (⊎_elim n.1.0 n.1.1.0 f);
        other = λ n. h;
      }

-- what a merge of a and b gives: both are held in t
abbrev pub BothHeld : Bool → (l : ℕ) → DataType l → DataType l → DataType l → Type 0
BothHeld parked l a b t = OneChild l t × Held parked l a t × Held parked l b t

-- each field that stood or came is held in one of its name, if the types of one level below are held in what their merge gives
fields_held : (parked : Bool) (l : ℕ) → ((a b : DataType l) → OneChild l a → OneChild l b → Gives (BothHeld parked l a b) (merge_type parked l a b))
    → (gs fs : List (Field l)) → Every (Over (OneChild l)) gs → Every (Over (OneChild l)) fs
    → Gives (Gathered (Over (OneChild l)) (HeldByName parked (Held parked l) (is_null l)) gs fs) (pour (merge_by_name (merge_field parked (merge_type parked l) (is_null l))) gs fs)
fields_held parked l h = by_name_held (OneChild l) parked (Held parked l) (merge_type parked l) (is_null l) h (held_refl parked l) (held_null parked l) (held_trans parked l)

module _ (parked : Bool) (l : ℕ) (a b : DataType (suc l)) (code : a.code ≡ b.code) where
  structs_held : a.code ≡ Struct → (ks : List (Field l)) → Gathered (Over (OneChild l)) (HeldByName parked (Held parked l) (is_null l)) [] (a.children ++ b.children) ks
      → BothHeld parked (suc l) a b (with_children a ks)
  structs_held e ks k = (
    (λ q. absurd (omega (arith, e, list_bounds _ q)), k.each),
    struct_held a (with_children a ks) e e (λ c i. k.new c (Memᴰ.append_left b.children i)),
    struct_held b (with_children a ks) (sym code ∙ e) e (λ c i. k.new c (Memᴰ.append_right a.children i)),
  )

  unions_held : a.code ≡ Union → (ks : List (Field l)) → Gathered (Over (OneChild l)) (HeldById (same_type l)) a.children b.children ks
      → BothHeld parked (suc l) a b (with_children a ks)
  unions_held e ks k = (
    (λ q. absurd (omega (arith, e, list_bounds _ q)), k.each),
    union_held a (with_children a ks) e e k.old,
    union_held b (with_children a ks) (sym code ∙ e) e k.new,
  )

  lists_held : IsList a.code → (ks : List (Field l)) → Every (Over (OneChild l)) ks → length ks ≡ 1
      → Pairwise (HeldField parked (Held parked l) (is_null l)) a.children ks → Pairwise (HeldField parked (Held parked l) (is_null l)) b.children ks
      → BothHeld parked (suc l) a b (with_children a ks)
  lists_held e ks n one p q =
      ((λ i. one, n), list_held a (with_children a ks) e refl p, list_held b (with_children a ks) (subst IsList code e) code q)

  others_held : IsOther a.code → OneChild (suc l) a → (same_bytes a.params b.params && same (same_child (same_type l)) a.children b.children) ≡ true
      → BothHeld parked (suc l) a b a
  unfolding same_type
  others_held o n h =
      let (p, q) = (and-eq-true_iff _ _).0 h in
      let e : same_type (suc l) a b ≡ true = (and-eq-true_iff _ _).1 ((and-eq-true_iff _ _).1 (eq-eqb _ _ code, p), q) in
      (n, held_refl parked (suc l) a, other_held b a (subst IsOther code o) (symmetric (type_equivalence (suc l)) a b e))

-- both types are held in what their merge gives
pub type_held : (parked : Bool) (l : ℕ) (a b : DataType l) → OneChild l a → OneChild l b → Gives (BothHeld parked l a b) (merge_type parked l a b)
unfolding merge_type merge_same_code
type_held parked zero a b n m = absurd a
type_held parked (suc l) a b n m =
    choose_gives _ _ _ (λ p. value (m, null_held a b (eqb-true _ _ p), held_refl parked (suc l) b)) λ notNull.
    choose_gives _ _ _ (λ p. value (n, held_refl parked (suc l) a, null_held b a (eqb-true _ _ p))) λ p.
    choose_gives _ _ _ (λ p. refusal) λ p.
    let code = eqb-true a.code b.code (not-false _ p) in
    let children = every_append _ a.children b.children n.1 m.1 in
    choose_gives _ _ _
    (λ p. bind_gives _ (fields_held parked l (type_held parked l) [] (a.children ++ b.children) tt children) λ ks k.
    value (structs_held parked l a b code (eqb-true _ _ p) ks k)) λ notStruct.
    choose_gives _ _ _
    (λ p. bind_gives _ (by_id_held (OneChild l) (same_type l) (type_equivalence l) a.children b.children n.1 m.1) λ ks k.
    need_gives _ type_id_clash (with_children a ks) λ i. unions_held parked l a b code (eqb-true _ _ p) ks k) λ notUnion.
    choose_gives _ _ _
    (λ p. let x = list_codes a.code p in
    let lengths = n.0 x ∙ sym (m.0 (subst IsList code x)) in
    bind_gives _ (each_held (OneChild l) parked (Held parked l) (merge_type parked l) (is_null l) (type_held parked l) a.children b.children lengths n.1 m.1) λ ks k.
    value (lists_held parked l a b code x ks k.0 (k.1 ∙ n.0 x) k.2 k.3)) λ notList.
    need_gives _ type_clash a λ e.
    others_held parked l a b code (other_code _ notNull notStruct notUnion notList) n e

-- Schemas

-- both schemas are held in what their merge gives, which has no more columns than they have together
pub schema_held : (parked : Bool) (x y : Schema) → OneChildEach x → OneChildEach y
    → Gives (λ z. OneChildEach z × HeldSchema parked x z × HeldSchema parked y z × (length z.columns ≤ length x.columns + length y.columns)) (merge_schema parked x y)
unfolding merge_schema
schema_held parked x y n m =
    bind_gives _ (metadata_held schema_metadata_clash x.metadata y.metadata) λ d k.
    bind_gives _ (fields_held parked max_levels (type_held parked max_levels) x.columns y.columns n m) λ cs q.
    value (q.each, record { metadata = k.0; columns = q.old }, record { metadata = k.1; columns = q.new }, q.size)

schemas_held : (parked : Bool) (x : Schema) (ys : List Schema) → OneChildEach x → Every OneChildEach ys
    → Gives (λ z. HeldSchema parked x z × Every (λ y. HeldSchema parked y z) ys × (length z.columns ≤ length x.columns + columns_given ys)) (pour (merge_schema parked) x ys)
unfolding pour
schemas_held parked x [] n m = value (held_schema_refl parked x, tt, omega arith)
schemas_held parked x (y ∷ ys) n m =
    bind_gives _ (schema_held parked x y n m.0) λ w k.
    gives_map (schemas_held parked w ys k.0 m.1) λ z q.
    (held_schema_trans parked x w z k.1 q.0, (held_schema_trans parked y w z k.2 q.0, q.1), omega (arith, k.3, q.2))

-- an accepted merge of sheets gives what pouring one schema after the other gives: places matter to refusals alone
pub merge_from_pour : (parked : Bool) (i : ℕ) (x : Schema) (ys : List Schema) (z : Schema) (e : ℕ) → merge_from parked i x ys ≡ got z e → pour (merge_schema parked) x ys ≡ done z
unfolding merge_from pour next placed ◌>>=◌
merge_from_pour parked i x [] z e h = cc
merge_from_pour parked i x (y ∷ ys) z e h = go (merge_schema parked x y) h λ w. merge_from_pour parked (suc i) w ys z e
  where
    go : (r : Merged Schema) → next (placed i r) (λ w j. merge_from parked j w ys) ≡ got z e
        → ((w : Schema) → merge_from parked (suc i) w ys ≡ got z e → pour (merge_schema parked) w ys ≡ done z) → (r >>= λ w. pour (merge_schema parked) w ys) ≡ done z
    go (done w) h rest = rest w h
    go (clash n) h rest = let q : ◌≡◌ {A = ℕ} 0 1 = cc in absurd (omega arith)

-- Where two fields are merged, a Null of either makes the column nullable; only a Null that nothing was merged with stays as it is (P2).
pub null_makes_nullable : {T : Type 0} (parked : Bool) (merge : T → T → Merged T) (is_null : T → Bool) (f g : FieldOver T) → (is_null f.data_type || is_null g.data_type) ≡ true
    → Gives (λ h. h.head.nullable ≡ true) (merge_field parked merge is_null f g)
unfolding merge_field
null_makes_nullable parked merge is_null f g n =
    bind_gives _ (any_gives _) λ u h.
    bind_gives _ (any_gives _) λ m k.
    bind_gives _ (any_gives _) λ t q.
    value (either f.head.nullable g.head.nullable (is_null f.data_type) (is_null g.data_type) n)
  where
    either : (a b c d : Bool) → (c || d) ≡ true → (a || b || c || d) ≡ true
    either true b c d h = refl
    either false true c d h = refl
    either false false c d h = h

-- In an accepted merge nothing is lost: each schema given is held in the answer, which has no more columns than were given.
pub nothing_lost : (parked : Bool) (xs : List Schema) (z : Schema) (e : ℕ) → Every OneChildEach xs → try_merge parked xs ≡ got z e
    → Every (λ x. HeldSchema parked x z) xs × (length z.columns ≤ columns_given xs)
unfolding try_merge
nothing_lost parked xs z e n h =
    let k = of_done (subst (Gives _) (merge_from_pour parked 0 empty xs z e h) (schemas_held parked empty xs tt n)) in
    (k.1, omega (arith, k.2))

-- What reads is so: in a well-formed tree each List and LargeList has one child

list_layout : (c : ℕ) → IsList c → (layout c).children ≡ fields 1
list_layout c (inl e) = list_children c (or_left _ (eqb c LargeList) (eq-eqb _ _ e))
list_layout c (inr e) = list_children c (or_right (eqb c List') _ (eq-eqb _ _ e))

type_one_child : (l : ℕ) (o : Bool) (t : DataType l) → WellFormedType l o t → OneChild l t
type_one_child zero o t w = absurd t
type_one_child (suc l) o t w = (
  λ e. (subst (λ c. WellFormedChildren (WellFormedType l) c t.children) (list_layout _ e) w.2).0,
  every_map (SomeOrder (WellFormedType l)) (Over (OneChild l)) (λ f k. type_one_child l k.0 f.data_type k.1) t.children
      (children_types (WellFormedType l) (layout t.code).children t.children w.2),
)

-- the premise of `nothing_lost` holds of every schema that reads
pub well_formed_one_child : (x : Schema) → WellFormedSchema x → OneChildEach x
well_formed_one_child x w = every_map (SomeOrder (WellFormedType max_levels)) (Over (OneChild max_levels)) (λ f k. type_one_child max_levels k.0 f.data_type k.1) x.columns (column_types x w)
