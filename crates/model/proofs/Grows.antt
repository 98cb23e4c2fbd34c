-- A merge lets what there is only grow, and gives no fewer written bytes. Sameness is that of trees here; it gives that of bytes.
use Prim.Native.Nat.{ℕ, zero, suc, ◌+◌, ◌≤◌}
use native.Mathlib.Omega.{arith}
use mathlib.Core.Path.{◌≡◌, refl, sym, ap, subst, ◌∙◌}
use mathlib.Core.Logic.{◌⊎◌, inl, inr}
use mathlib.Core.List.Memᴰ
use mathlib.Core.List.{List, [], ◌∷◌, ◌++◌, append_assoc, append-nil}
use mathlib.Core.Bool.{Bool, true, false, ◌||◌, false≢true}
use lib.ListN.{length, length-append}
use lib.Dec.{eqb}
use borrow.Author.Tests.{eqb-true, eqb-false, eq-eqb}
use Rattle.model.specs.Bytes.{Bytes, Metadata, choose, u16, Every, same_bytes}
use Rattle.model.specs.Tree.{DataTypeOver, FieldOver, DataType, Field, Schema, with_children, Null, List', LargeList, Struct, Children, fields, counted, counted_with_ids, layout}
use Rattle.model.specs.Sheet.{front_bytes, each, part, stands, with_count, text_bytes, pair_bytes, head_bytes, field_bytes, children_bytes, type_bytes, column_bytes, sheet_bytes, dict_id_bytes}
use Rattle.model.specs.Equal.{same_type}
use Rattle.model.specs.Merge.{Merged, done, ◌>>=◌, pour, merge_pair, merge_metadata, merge_by_name, merge_child, merged_order, merge_field, merge_each, is_null, merge_same_code, merge_type, merge_schema}
use Rattle.model.specs.Growth.{Begins, here, onto, Pairwise, none, pair, Kept, GrownField, GrownOver, identical, was_null, struct, list, large_list, union, child_bytes, Grown, GrownSchema, Distinct, names}
use Rattle.model.proofs.Lists.{or_left, or_right, every_map, every_unit}
use Rattle.model.proofs.ByteStrings.{differ_same_bytes}
use Rattle.model.proofs.Modes.{stayed_trans, first_stayed}
use Rattle.model.proofs.Layouts.{struct_children, union_children, list_children}
use Rattle.model.proofs.Gives.{Gives, value, refusal, bind_gives, need_gives, choose_gives, gives_map, pour_gives, pour_next, pour_append, choose_true, choose_false}

-- Lists that begin with others

pub begins_refl : {A : Type 0} {R : A → A → Type 0} → ((a : A) → R a a) → (xs : List A) → Begins R xs xs
begins_refl r [] = here
begins_refl r (x ∷ xs) = onto (r x) (begins_refl r xs)

pub begins_trans : {A : Type 0} {R : A → A → Type 0} → ((a b c : A) → R a b → R b c → R a c) → {xs ys zs : List A} → Begins R xs ys → Begins R ys zs → Begins R xs zs
begins_trans t here q = here
begins_trans t (onto p ps) (onto q qs) = onto (t _ _ _ p q) (begins_trans t ps qs)

pub begins_map : {A : Type 0} {R S : A → A → Type 0} → ((a b : A) → R a b → S a b) → {xs ys : List A} → Begins R xs ys → Begins S xs ys
begins_map f here = here
begins_map f (onto p ps) = onto (f _ _ p) (begins_map f ps)

pub pairwise_refl : {A : Type 0} {R : A → A → Type 0} → ((a : A) → R a a) → (xs : List A) → Pairwise R xs xs
pairwise_refl r [] = none
pairwise_refl r (x ∷ xs) = pair (r x) (pairwise_refl r xs)

pub pairwise_trans : {A : Type 0} {R : A → A → Type 0} → ((a b c : A) → R a b → R b c → R a c) → {xs ys zs : List A} → Pairwise R xs ys → Pairwise R ys zs → Pairwise R xs zs
pairwise_trans t none q = q
pairwise_trans t (pair p ps) (pair q qs) = pair (t _ _ _ p q) (pairwise_trans t ps qs)

pub pairwise_map : {A : Type 0} {R S : A → A → Type 0} → ((a b : A) → R a b → S a b) → {xs ys : List A} → Pairwise R xs ys → Pairwise S xs ys
pairwise_map f none = none
pairwise_map f (pair p ps) = pair (f _ _ p) (pairwise_map f ps)

-- written one after the other, what is no shorter element by element is no shorter
each_longer : {A : Type 0} (f : A → Bytes) {R : A → A → Type 0} → ((a b : A) → R a b → length (f a) ≤ length (f b)) → {xs ys : List A} → Begins R xs ys → length (each f xs) ≤ length (each f ys)
each_longer f r here = omega arith
each_longer f r (onto {x} {y} {xs} {ys} p ps) = omega (arith, r x y p, each_longer f r ps, length-append (f x) (each f xs), length-append (f y) (each f ys))

pairwise_begins : {A : Type 0} {R : A → A → Type 0} {xs ys : List A} → Pairwise R xs ys → Begins R xs ys
pairwise_begins none = here
pairwise_begins (pair p ps) = onto p (pairwise_begins ps)

-- Metadata

pub kept_refl : (m : Metadata) → Kept m m
kept_refl m p h = h

pub kept_trans : (a b c : Metadata) → Kept a b → Kept b c → Kept a c
kept_trans a b c h k p i = k p (h p i)

pub kept_cons : (q : Bytes × Bytes) (a b : Metadata) → Kept a b → Kept (q ∷ a) (q ∷ b)
kept_cons q a b h p (Memᴰ.head e) = Memᴰ.head e
kept_cons q a b h p (Memᴰ.tail i) = Memᴰ.tail (h p i)

metadata_part : Metadata → Bytes
metadata_part m = part (with_count pair_bytes) m

-- kept, and no shorter
record Lasts (a b : Metadata) : Type 0 where
  kept : Kept a b
  longer : length (metadata_part a) ≤ length (metadata_part b)

pair_lasts : (n : ℕ) (m : Metadata) (p : Bytes × Bytes) → Gives (λ r. Kept m r × (length (each pair_bytes m) ≤ length (each pair_bytes r)) × (stands r ≡ true)) (merge_pair n m p)
unfolding merge_pair
pair_lasts n [] p = value {a = p ∷ []} (λ q i. Memᴰ.tail i, omega arith, refl)
pair_lasts n (q ∷ qs) p =
    choose_gives _ _ _ (λ b. bind_gives _ (pair_lasts n qs p) λ r k.
    value {a = q ∷ r} (kept_cons q qs r k.0, omega (arith, k.1, length-append (pair_bytes q) (each pair_bytes qs), length-append (pair_bytes q) (each pair_bytes r)), refl)) λ b.
    choose_gives _ _ _ (λ b. value {a = p ∷ q ∷ qs} (λ x i. Memᴰ.tail i, omega (arith, length-append (pair_bytes p) (each pair_bytes (q ∷ qs))), refl)) λ b.
    need_gives _ n (q ∷ qs) λ e. (kept_refl (q ∷ qs), omega arith, refl)

part_longer : (a b : Metadata) → length (each pair_bytes a) ≤ length (each pair_bytes b) → stands b ≡ true → length (metadata_part a) ≤ length (metadata_part b)
unfolding metadata_part with_count u16
part_longer [] b h k = omega arith
part_longer (x ∷ a) [] h k = absurd (false≢true k)
part_longer (x ∷ a) (y ∷ b) h k = omega (arith, h)

metadata_lasts : (n : ℕ) (a b : Metadata) → Gives (λ r. Lasts a r) (merge_metadata n a b)
unfolding merge_metadata
metadata_lasts n a b =
    gives_map
    (pour_gives (merge_pair n) (λ a. Unit {0}) (λ x. Unit {0}) Lasts (λ a. record { kept = kept_refl a; longer = omega arith })
    (λ a b c p q. record { kept = kept_trans a b c p.kept q.kept; longer = omega (arith, p.longer, q.longer) })
    (λ a x i j. gives_map (pair_lasts n a x) λ b k. (tt, record { kept = k.0; longer = part_longer a b k.1 k.2 })) a b tt (every_unit b)) λ r k.
    k.1

-- To have grown is reflexive and transitive

module _ {T : Type 0} (parked : Bool) (is_null : T → Bool) (G : Bool → T → T → Type 0) where
  pub field_refl : ((n : Bool) (t : T) → G n t t) → (f : FieldOver T) → GrownField parked is_null G f f
  field_refl r f = record { name = refl; dict_is_ordered = inl refl; metadata = kept_refl _; dict_id = refl; nullable = λ e. e; data_type = r _ _ }

  pub field_trans : ((n : Bool) (a b : T) → G n a b → is_null b ≡ true → is_null a ≡ true)
      → ((m n : Bool) (a b c : T) → (m ≡ true → n ≡ true) → G m a b → G n b c → G n a c)
      → (f g h : FieldOver T) → GrownField parked is_null G f g → GrownField parked is_null G g h → GrownField parked is_null G f h
  field_trans was t f g h p q =
      record {
        name = p.name ∙ q.name;
        dict_is_ordered = stayed_trans parked (is_null f.data_type) (is_null g.data_type) _ _ _ (was _ _ _ p.data_type) p.dict_is_ordered q.dict_is_ordered;
        metadata = kept_trans _ _ _ p.metadata q.metadata;
        dict_id = p.dict_id ∙ q.dict_id;
        nullable = λ e. q.nullable (p.nullable e);
        data_type = t _ _ _ _ _ q.nullable p.data_type q.data_type;
      }

-- `Grown` with sameness of trees
abbrev pub Grows : Bool → (l : ℕ) → Bool → DataType l → DataType l → Type 0
Grows parked zero now a b = ⊥
Grows parked (suc l) now a b = GrownOver (λ t. t) (λ f. f) (GrownField parked (is_null l) (Grows parked l)) now a b

pub grows_refl : (parked : Bool) (l : ℕ) (n : Bool) (t : DataType l) → Grows parked l n t t
grows_refl parked zero n t = absurd t
grows_refl parked (suc l) n t = identical refl

-- what stands under a field that may now be nullable where it was not
weaken : {T : Type 0} {F : FieldOver T → FieldOver T → Type 0} {m n : Bool} {a b : DataTypeOver (FieldOver T)} → (m ≡ true → n ≡ true)
    → GrownOver (λ t. t) (λ f. f) F m a b → GrownOver (λ t. t) (λ f. f) F n a b
weaken up (identical e) = identical e
weaken up (was_null e k) = was_null e (up k)
weaken up (struct p q k) = struct p q k
weaken up (list p q k) = list p q k
weaken up (large_list p q k) = large_list p q k
weaken up (union p q r k) = union p q r k

-- where two codes of one type differ, nothing is to be shown
clashing : {A : Type 0} {c m n : ℕ} → c ≡ m → c ≡ n → (m ≡ n → ⊥) → A
clashing p q d = absurd (d (sym p ∙ q))

over_trans : {T : Type 0} (F : FieldOver T → FieldOver T → Type 0) → ((f g h : FieldOver T) → F f g → F g h → F f h)
    → (m n : Bool) (a b c : DataTypeOver (FieldOver T)) → (m ≡ true → n ≡ true)
    → GrownOver (λ t. t) (λ f. f) F m a b → GrownOver (λ t. t) (λ f. f) F n b c → GrownOver (λ t. t) (λ f. f) F n a c
over_trans F t m n a b c up (identical e) y = subst (λ x. GrownOver (λ t. t) (λ f. f) F n x c) (sym e) y
over_trans F t m n a b c up (was_null e k) y = was_null e (up k)
over_trans F t m n a b c up (struct p q k) (identical e) = subst (λ x. GrownOver (λ t. t) (λ f. f) F n a x) e (weaken up (struct p q k))
over_trans F t m n a b c up (struct p q k) (was_null e w) = clashing q e λ d. omega (arith, d)
over_trans F t m n a b c up (struct p q k) (struct p' q' k') = struct p q' (begins_trans t k k')
over_trans F t m n a b c up (struct p q k) (list p' q' k') = clashing q p' λ d. omega (arith, d)
over_trans F t m n a b c up (struct p q k) (large_list p' q' k') = clashing q p' λ d. omega (arith, d)
over_trans F t m n a b c up (struct p q k) (union p' q' r' k') = clashing q p' λ d. omega (arith, d)
over_trans F t m n a b c up (list p q k) (identical e) = subst (λ x. GrownOver (λ t. t) (λ f. f) F n a x) e (weaken up (list p q k))
over_trans F t m n a b c up (list p q k) (was_null e w) = clashing q e λ d. omega (arith, d)
over_trans F t m n a b c up (list p q k) (struct p' q' k') = clashing q p' λ d. omega (arith, d)
over_trans F t m n a b c up (list p q k) (list p' q' k') = list p q' (pairwise_trans t k k')
over_trans F t m n a b c up (list p q k) (large_list p' q' k') = clashing q p' λ d. omega (arith, d)
over_trans F t m n a b c up (list p q k) (union p' q' r' k') = clashing q p' λ d. omega (arith, d)
over_trans F t m n a b c up (large_list p q k) (identical e) = subst (λ x. GrownOver (λ t. t) (λ f. f) F n a x) e (weaken up (large_list p q k))
over_trans F t m n a b c up (large_list p q k) (was_null e w) = clashing q e λ d. omega (arith, d)
over_trans F t m n a b c up (large_list p q k) (struct p' q' k') = clashing q p' λ d. omega (arith, d)
over_trans F t m n a b c up (large_list p q k) (list p' q' k') = clashing q p' λ d. omega (arith, d)
over_trans F t m n a b c up (large_list p q k) (large_list p' q' k') = large_list p q' (pairwise_trans t k k')
over_trans F t m n a b c up (large_list p q k) (union p' q' r' k') = clashing q p' λ d. omega (arith, d)
over_trans F t m n a b c up (union p q r k) (identical e) = subst (λ x. GrownOver (λ t. t) (λ f. f) F n a x) e (weaken up (union p q r k))
over_trans F t m n a b c up (union p q r k) (was_null e w) = clashing q e λ d. omega (arith, d)
over_trans F t m n a b c up (union p q r k) (struct p' q' k') = clashing q p' λ d. omega (arith, d)
over_trans F t m n a b c up (union p q r k) (list p' q' k') = clashing q p' λ d. omega (arith, d)
over_trans F t m n a b c up (union p q r k) (large_list p' q' k') = clashing q p' λ d. omega (arith, d)
over_trans F t m n a b c up (union p q r k) (union p' q' r' k') = union p q' (r ∙ r') (begins_trans (λ x y z e w. e ∙ w) k k')

-- what is Null was Null
over_null : {T : Type 0} {F : FieldOver T → FieldOver T → Type 0} {n : Bool} {a b : DataTypeOver (FieldOver T)} → GrownOver (λ t. t) (λ f. f) F n a b → b.code ≡ Null → a.code ≡ Null
over_null (identical e) h = ap (λ t. t.code) e ∙ h
over_null (was_null e k) h = e
over_null (struct p q k) h = clashing q h λ d. omega (arith, d)
over_null (list p q k) h = clashing q h λ d. omega (arith, d)
over_null (large_list p q k) h = clashing q h λ d. omega (arith, d)
over_null (union p q r k) h = clashing q h λ d. omega (arith, d)

pub grows_null : (parked : Bool) (l : ℕ) (n : Bool) (a b : DataType l) → Grows parked l n a b → is_null l b ≡ true → is_null l a ≡ true
unfolding is_null
grows_null parked zero n a b g h = absurd a
grows_null parked (suc l) n a b g h = eq-eqb _ _ (over_null g (eqb-true _ _ h))

pub grows_trans : (parked : Bool) (l : ℕ) (m n : Bool) (a b c : DataType l) → (m ≡ true → n ≡ true) → Grows parked l m a b → Grows parked l n b c → Grows parked l n a c
grows_trans parked zero m n a b c up x y = absurd a
grows_trans parked (suc l) m n a b c up x y =
    over_trans (GrownField parked (is_null l) (Grows parked l)) (field_trans parked (is_null l) (Grows parked l) (grows_null parked l) (grows_trans parked l)) m n a b c up x y

pub field_map : {T : Type 0} {parked : Bool} {is_null : T → Bool} {G H : Bool → T → T → Type 0} (f g : FieldOver T)
    → (G g.head.nullable f.data_type g.data_type → H g.head.nullable f.data_type g.data_type) → GrownField parked is_null G f g → GrownField parked is_null H f g
field_map f g k h = record { name = h.name; dict_is_ordered = h.dict_is_ordered; metadata = h.metadata; dict_id = h.dict_id; nullable = h.nullable; data_type = k h.data_type }

-- what is the same as a tree is the same by whatever is compared
over_map : {T A C : Type 0} (type : DataTypeOver (FieldOver T) → A) (child : FieldOver T → C) {E F : FieldOver T → FieldOver T → Type 0}
    → ((f g : FieldOver T) → E f g → F f g) → (n : Bool) (a b : DataTypeOver (FieldOver T))
    → GrownOver (λ t. t) (λ f. f) E n a b → GrownOver type child F n a b
over_map type child g n a b (identical e) = identical (ap type e)
over_map type child g n a b (was_null e k) = was_null e k
over_map type child g n a b (struct p q k) = struct p q (begins_map g k)
over_map type child g n a b (list p q k) = list p q (pairwise_map g k)
over_map type child g n a b (large_list p q k) = large_list p q (pairwise_map g k)
over_map type child g n a b (union p q r k) = union p q r (begins_map (λ x y e. ap child e) k)

pub grows_grown : (parked : Bool) (l : ℕ) (n : Bool) (a b : DataType l) → Grows parked l n a b → Grown parked l n a b
grows_grown parked zero n a b h = absurd h
grows_grown parked (suc l) n a b h = over_map _ _ (λ f g. field_map f g (grows_grown parked l _ f.data_type g.data_type)) n a b h

-- Types of which no struct has a name twice, and of which a Null is its code alone

abbrev pub Apart : List Bytes → Type 0
Apart [] = Unit {0}
Apart (n ∷ ns) = Every (λ m. same_bytes n m ≡ false) ns × Apart ns

pub distinct_apart : (ns : List Bytes) → Distinct ns → Apart ns
distinct_apart [] d = tt
distinct_apart (n ∷ ns) d = (every_map (λ m. n ≡ m → ⊥) (λ m. same_bytes n m ≡ false) (differ_same_bytes n) ns d.0, distinct_apart ns d.1)

abbrev pub Tidy : (l : ℕ) → DataType l → Type 0
Tidy zero t = ⊥
Tidy (suc l) t =
    (t.code ≡ Struct → Apart (names t.children)) × (t.code ≡ Null → length (type_bytes (suc l) t) ≡ 1) × Every (λ f. Tidy l f.data_type) t.children

-- Names: where a field is merged in by its name, at most one name is added behind the others

unfoldable pub put_name : List Bytes → Bytes → List Bytes
put_name [] n = n ∷ []
put_name (m ∷ ms) n = choose (same_bytes m n) (λ u. m ∷ ms) λ u. m ∷ put_name ms n

apart_put : (m n : Bytes) (ns : List Bytes) → same_bytes m n ≡ false → Every (λ k. same_bytes m k ≡ false) ns → Every (λ k. same_bytes m k ≡ false) (put_name ns n)
unfolding put_name choose
apart_put m n [] h a = (h, tt)
apart_put m n (k ∷ ns) h a = go (same_bytes k n) (apart_put m n ns h a.1)
  where
    go : (b : Bool) → Every (λ k. same_bytes m k ≡ false) (put_name ns n) → Every (λ k. same_bytes m k ≡ false) (choose b (λ u. k ∷ ns) λ u. k ∷ put_name ns n)
    go true r = a
    go false r = (a.0, r)

pub distinct_put : (ns : List Bytes) (n : Bytes) → Apart ns → Apart (put_name ns n)
unfolding put_name choose
distinct_put [] n d = (tt, tt)
distinct_put (m ∷ ns) n d = go (same_bytes m n) refl (distinct_put ns n d.1)
  where
    go : (b : Bool) → same_bytes m n ≡ b → Apart (put_name ns n) → Apart (choose b (λ u. m ∷ ns) λ u. m ∷ put_name ns n)
    go true e r = d
    go false e r = (apart_put m n ns e d.0, r)

mid : (m : Bytes) {T : Type 0} (gs : List (FieldOver T)) (x : FieldOver T) (xs : List (FieldOver T)) → Every (λ k. same_bytes m k ≡ false) (names (gs ++ x ∷ xs)) → same_bytes m x.head.name ≡ false
mid m [] x xs a = a.0
mid m (g ∷ gs) x xs a = mid m gs x xs a.1

module _ {T : Type 0} (merge : FieldOver T → FieldOver T → Merged (FieldOver T)) where
  put_absent : (acc : List (FieldOver T)) (x : FieldOver T) (xs : List (FieldOver T)) → Apart (names (acc ++ x ∷ xs)) → merge_by_name merge acc x ≡ done (acc ++ (x ∷ []))
  unfolding merge_by_name choose ◌>>=◌
  put_absent [] x xs d = refl
  put_absent (g ∷ gs) x xs d = rw (mid g.head.name gs x xs d.0, choose) (rw (put_absent gs x xs d.1, ◌>>=◌))

  -- fields of which no two have one name, poured into others so, stand behind them
  pub pour_distinct : (acc xs : List (FieldOver T)) → Apart (names (acc ++ xs)) → pour (merge_by_name merge) acc xs ≡ done (acc ++ xs)
  unfolding pour
  pour_distinct acc [] d = ap done (sym (append-nil acc))
  pour_distinct acc (x ∷ xs) d =
      pour_next (merge_by_name merge) acc x xs _ (put_absent acc x xs d)
      ∙ pour_distinct (acc ++ (x ∷ [])) xs (subst (λ l. Apart (names l)) (sym (append_assoc acc (x ∷ []) xs)) d)
      ∙ ap done (append_assoc acc (x ∷ []) xs)

-- Each step of a merge lets grow

-- a field grew, and is no shorter
pub record Grew {T : Type 0} (parked : Bool) (is_null : T → Bool) (write : T → Bytes) (G : Bool → T → T → Type 0) (f g : FieldOver T) : Type 0 where
  pub grown : GrownField parked is_null G f g
  pub longer : length (field_bytes write f) ≤ length (field_bytes write g)

module _ {T : Type 0} (parked : Bool) (is_null : T → Bool) (write : T → Bytes) (G : Bool → T → T → Type 0) (grown-refl : (n : Bool) (t : T) → G n t t)
    (grown-null : (n : Bool) (a b : T) → G n a b → is_null b ≡ true → is_null a ≡ true)
    (grown-trans : (m n : Bool) (a b c : T) → (m ≡ true → n ≡ true) → G m a b → G n b c → G n a c) where
  pub grew_refl : (f : FieldOver T) → Grew parked is_null write G f f
  grew_refl f = record { grown = field_refl parked is_null G grown-refl f; longer = omega arith }

  pub grew_trans : (f g h : FieldOver T) → Grew parked is_null write G f g → Grew parked is_null write G g h → Grew parked is_null write G f h
  grew_trans f g h p q = record { grown = field_trans parked is_null G grown-null grown-trans f g h p.grown q.grown; longer = omega (arith, p.longer, q.longer) }

  module _ (N : T → Type 0) (merge : FieldOver T → FieldOver T → Merged (FieldOver T))
      (merge_grows : (f g : FieldOver T) → N f.data_type → N g.data_type → Gives (λ h. N h.data_type × Grew parked is_null write G f h) (merge f g)) where
    -- what a list of fields has become
    pub record Became (old new : List (FieldOver T)) : Type 0 where
      pub tidy : Every (λ f. N f.data_type) new
      pub grown : Begins (Grew parked is_null write G) old new

    by_name_grows : (gs : List (FieldOver T)) (f : FieldOver T) → Every (λ f. N f.data_type) gs → N f.data_type
        → Gives (λ r. Became gs r × (names r ≡ put_name (names gs) f.head.name)) (merge_by_name merge gs f)
    unfolding merge_by_name put_name
    by_name_grows [] f e n = value {a = f ∷ []} (record { tidy = (n, tt); grown = here }, refl)
    by_name_grows (g ∷ gs) f e n =
        choose_gives _ _ _
        (λ b. bind_gives _ (merge_grows g f e.0 n) λ h k.
        value {a = h ∷ gs} (record { tidy = (k.0, e.1); grown = onto k.1 (begins_refl grew_refl gs) }, ap (λ x. x ∷ names gs) (sym k.1.grown.name) ∙ sym (choose_true _ _ _ b)))
        λ b. bind_gives _ (by_name_grows gs f e.1 n) λ r k.
        value {a = g ∷ r} (record { tidy = (e.0, k.0.tidy); grown = onto (grew_refl g) k.0.grown }, ap (λ x. g.head.name ∷ x) k.1 ∙ sym (choose_false _ _ _ b))

    -- pouring into fields of which no two have one name
    pub pour_grows : (gs fs : List (FieldOver T)) → Apart (names gs) → Every (λ f. N f.data_type) gs → Every (λ f. N f.data_type) fs
        → Gives (λ r. Became gs r × Apart (names r)) (pour (merge_by_name merge) gs fs)
    unfolding pour
    pour_grows gs [] d e k = value (record { tidy = e; grown = begins_refl grew_refl gs }, d)
    pour_grows gs (f ∷ fs) d e k =
        bind_gives _ (by_name_grows gs f e k.0) λ r h.
        gives_map (pour_grows r fs (subst Apart (sym h.1) (distinct_put _ _ d)) h.0.tidy k.1) λ s q.
        (record { tidy = q.0.tidy; grown = begins_trans grew_trans h.0.grown q.0.grown }, q.1)

    -- and one list after the other into nothing
    pour_both : (gs fs : List (FieldOver T)) → Apart (names gs) → Every (λ f. N f.data_type) gs → Every (λ f. N f.data_type) fs
        → Gives (λ r. Became gs r × Apart (names r)) (pour (merge_by_name merge) [] (gs ++ fs))
    unfolding pour ◌>>=◌
    pour_both gs fs d e k =
        rw (pour_append (merge_by_name merge) [] gs fs, pour_distinct merge [] gs d, ◌>>=◌) (pour_grows gs fs d e k)

-- union children: those that there are stay, and none is shorter
child_grows : {T : Type 0} (eq : T → T → Bool) (N : T → Type 0) (gs : List (FieldOver T)) (f : FieldOver T) → Every (λ f. N f.data_type) gs → N f.data_type
    → Gives (λ r. Every (λ f. N f.data_type) r × Begins (λ x y. x ≡ y) gs r) (merge_child eq gs f)
unfolding merge_child
child_grows eq N [] f e n = value {a = f ∷ []} ((n, tt), here)
child_grows eq N (g ∷ gs) f e n =
    choose_gives _ _ _ (λ b. need_gives _ 23 _ λ q. (e, begins_refl (λ x. refl) (g ∷ gs))) λ b.
    bind_gives _ (child_grows eq N gs f e.1 n) λ r k. value {a = g ∷ r} ((e.0, k.0), onto refl k.1)

or_1 : (a b c d : Bool) → a ≡ true → (a || b || c || d) ≡ true
or_1 a b c d h = or_left (a || b || c) d (or_left (a || b) c (or_left a b h))

or_3 : (a b c d : Bool) → c ≡ true → (a || b || c || d) ≡ true
or_3 a b c d h = or_left (a || b || c) d (or_right (a || b) c h)

-- a field's length is its map's, its name's, its metadata's, its dictionary number's and its type's
field_length : {T : Type 0} (write : T → Bytes) (f : FieldOver T)
    → length (field_bytes write f) ≡ 1 + (length (part text_bytes f.head.name) + (length (metadata_part f.head.metadata) + length (dict_id_bytes f.head.dict_id))) + length (write f.data_type)
unfolding field_bytes head_bytes front_bytes metadata_part
field_length write f =
    omega (
      arith,
      length-append (head_bytes f.head) (write f.data_type),
      length-append (front_bytes f.head) (dict_id_bytes f.head.dict_id),
      length-append (part text_bytes f.head.name) (part (with_count pair_bytes) f.head.metadata),
    )

-- what merging two types gives: tidy, grown from the first under a field that is nullable where the first was Null, and no shorter
pub record TypeGrew {T : Type 0} (write : T → Bytes) (G : Bool → T → T → Type 0) (N : T → Type 0) (is_null : T → Bool) (a t : T) : Type 0 where
  pub tidy : N t
  pub grown : (now : Bool) → (is_null a ≡ true → now ≡ true) → G now a t
  pub longer : length (write a) ≤ length (write t)

module _ {T : Type 0} (parked : Bool) (is_null : T → Bool) (write : T → Bytes) (G : Bool → T → T → Type 0) (N : T → Type 0) (merge : T → T → Merged T)
    (merge_grows : (a b : T) → N a → N b → Gives (λ t. TypeGrew write G N is_null a t) (merge a b)) where
  field_grows : (f g : FieldOver T) → N f.data_type → N g.data_type → Gives (λ h. N h.data_type × Grew parked is_null write G f h) (merge_field parked merge is_null f g)
  unfolding merge_field
  field_grows f g n m =
      bind_gives {P = λ u. Unit {0}} _ (need_gives _ 20 tt λ e. tt) λ u z.
      bind_gives _ (metadata_lasts 21 f.head.metadata g.head.metadata) λ d k.
      bind_gives _ (merge_grows f.data_type g.data_type n m) λ t q.
      value (
        q.tidy,
        record {
          grown = record {
            name = refl;
            dict_is_ordered = first_stayed is_null f g parked;
            metadata = k.kept;
            dict_id = refl;
            nullable = or_1 f.head.nullable g.head.nullable (is_null f.data_type) (is_null g.data_type);
            data_type = q.grown _ (or_3 f.head.nullable g.head.nullable (is_null f.data_type) (is_null g.data_type));
          };
          longer = omega (arith, field_length write f, field_length write (record { head = record { type_id = f.head.type_id; nullable = f.head.nullable || g.head.nullable || is_null f.data_type || is_null g.data_type; dict_is_ordered = merged_order parked is_null f g; name = f.head.name; metadata = d; dict_id = f.head.dict_id }; data_type = t }), k.longer, q.longer);
        },
      )

  each_grows : ((n : Bool) (t : T) → G n t t) → (fs gs : List (FieldOver T)) → Every (λ f. N f.data_type) fs → Every (λ f. N f.data_type) gs
      → Gives (λ r. Every (λ f. N f.data_type) r × Pairwise (Grew parked is_null write G) fs r) (merge_each parked merge is_null fs gs)
  unfolding merge_each
  each_grows r [] gs e k = value {a = []} (tt, none)
  each_grows r (f ∷ fs) [] e k = value (e, pairwise_refl (λ f. record { grown = field_refl parked is_null G r f; longer = omega arith }) (f ∷ fs))
  each_grows r (f ∷ fs) (g ∷ gs) e k =
      bind_gives _ (field_grows f g e.0 k.0) λ h p.
      bind_gives _ (each_grows r fs gs e.1 k.1) λ hs q.
      value {a = h ∷ hs} ((p.0, q.0), pair p.1 q.1)

-- A type of the same code and parameters is no shorter where its children are none

longer_by : {T : Type 0} (write : T → Bytes) (k : Children) {xs ys : List (FieldOver T)} → Begins (λ f g. length (field_bytes write f) ≤ length (field_bytes write g)) xs ys
    → (k ≡ counted) ⊎ (k ≡ fields 1) → length (children_bytes write k xs) ≤ length (children_bytes write k ys)
unfolding children_bytes with_count u16
longer_by write k {xs} {ys} h (inl e) =
    let w = each_longer (field_bytes write) (λ f g p. p) h in
    subst (λ k. length (children_bytes write k xs) ≤ length (children_bytes write k ys)) (sym e) (omega (arith, w))
longer_by write k {xs} {ys} h (inr e) =
    subst (λ k. length (children_bytes write k xs) ≤ length (children_bytes write k ys)) (sym e) (each_longer (field_bytes write) (λ f g p. p) h)

union_longer : {T : Type 0} (write : T → Bytes) (k : Children) {xs ys : List (FieldOver T)} → Begins (λ f g. f ≡ g) xs ys → k ≡ counted_with_ids
    → length (children_bytes write k xs) ≤ length (children_bytes write k ys)
unfolding children_bytes with_count u16
union_longer write k {xs} {ys} h e =
    let w = each_longer (child_bytes write) (λ f g p. omega (arith, ap (λ x. length (child_bytes write x)) p)) h in
    subst (λ k. length (children_bytes write k xs) ≤ length (children_bytes write k ys)) (sym e) (omega (arith, w))

with_longer : (l : ℕ) (a : DataType (suc l)) (ks : List (Field l))
    → length (children_bytes (type_bytes l) (layout a.code).children a.children) ≤ length (children_bytes (type_bytes l) (layout a.code).children ks)
    → length (type_bytes (suc l) a) ≤ length (type_bytes (suc l) (with_children a ks))
unfolding type_bytes
with_longer l a ks h =
    omega (
      arith,
      h,
      length-append a.params (children_bytes (type_bytes l) (layout a.code).children a.children),
      length-append a.params (children_bytes (type_bytes l) (layout a.code).children ks),
    )

some_bytes : (l : ℕ) (t : DataType (suc l)) → 1 ≤ length (type_bytes (suc l) t)
unfolding type_bytes
some_bytes l t = omega arith

grown_list : {T : Type 0} {F : FieldOver T → FieldOver T → Type 0} (now : Bool) (a b : DataTypeOver (FieldOver T)) → (eqb a.code List' || eqb a.code LargeList) ≡ true → a.code ≡ b.code
    → Pairwise F a.children b.children → GrownOver (λ t. t) (λ f. f) F now a b
grown_list {F = F} now a b h same k = go (eqb a.code List') (eqb a.code LargeList) refl refl h
  where
    go : (x y : Bool) → eqb a.code List' ≡ x → eqb a.code LargeList ≡ y → (x || y) ≡ true → GrownOver (λ t. t) (λ f. f) F now a b
    go true y p q h = list (eqb-true _ 27 p) (sym same ∙ eqb-true _ 27 p) k
    go false true p q h = large_list (eqb-true _ 30 q) (sym same ∙ eqb-true _ 30 q) k
    go false false p q h = absurd (false≢true h)

not_null : (c : ℕ) {A : Type 0} → eqb c Null ≡ false → c ≡ Null → A
not_null c h e = absurd (eqb-false c Null h e)

pub type_grows : (parked : Bool) (l : ℕ) (a b : DataType l) → Tidy l a → Tidy l b → Gives (λ t. TypeGrew (type_bytes l) (Grows parked l) (Tidy l) (is_null l) a t) (merge_type parked l a b)
unfolding merge_type merge_same_code is_null
type_grows parked zero a b n m = absurd a
type_grows parked (suc l) a b n m =
    choose_gives _ _ _ (λ p. value (record { tidy = m; grown = λ now k. was_null (eqb-true _ 0 p) (k p); longer = omega (arith, n.1 (eqb-true _ 0 p), some_bytes l b) })) λ z.
    choose_gives _ _ _ (λ p. value (record { tidy = n; grown = λ now k. identical refl; longer = omega arith })) λ p.
    choose_gives _ _ _ (λ p. refusal) λ p.
    choose_gives _ _ _ (λ p.
    let c : a.code ≡ 32 = eqb-true _ 32 p in
    bind_gives _ (pour_both parked (is_null l) (type_bytes l) (Grows parked l) (grows_refl parked l) (grows_null parked l) (grows_trans parked l) (Tidy l) _
    (field_grows parked (is_null l) (type_bytes l) (Grows parked l) (Tidy l) (merge_type parked l) (type_grows parked l))
    a.children b.children (n.0 c) n.2 m.2) λ ks k.
    value {a = with_children a ks} (record {
      tidy = (λ e. k.1, λ e. not_null _ z e, k.0.tidy);
      grown = λ now u. struct c c (begins_map (λ f g w. w.grown) k.0.grown);
      longer = with_longer l a ks (longer_by (type_bytes l) _ (begins_map (λ f g w. w.longer) k.0.grown) (inl (struct_children _ c)));
    })) λ s.
    choose_gives _ _ _ (λ p.
    let c : a.code ≡ 33 = eqb-true _ 33 p in
    bind_gives _ (pour_gives (merge_child (same_type l)) (Every (λ f. Tidy l f.data_type)) (λ f. Tidy l f.data_type) (Begins (λ x y. x ≡ y))
    (begins_refl (λ x. refl)) (λ x y z. begins_trans (λ a b c p q. p ∙ q)) (child_grows (same_type l) (Tidy l)) a.children b.children n.2 m.2) λ ks k.
    need_gives _ 24 (with_children a ks) λ i.
    record {
      tidy = (λ e. absurd (eqb-false _ 32 s e), λ e. not_null _ z e, k.0);
      grown = λ now u. union c c refl k.1;
      longer = with_longer l a ks (union_longer (type_bytes l) _ k.1 (union_children _ c));
    }) λ q.
    choose_gives _ _ _ (λ p.
    bind_gives _ (each_grows parked (is_null l) (type_bytes l) (Grows parked l) (Tidy l) (merge_type parked l) (type_grows parked l) (grows_refl parked l) a.children b.children n.2 m.2) λ ks k.
    value {a = with_children a ks} (record {
      tidy = (λ e. absurd (eqb-false _ 32 s e), λ e. not_null _ z e, k.0);
      grown = λ now u. grown_list now a (with_children a ks) p refl (pairwise_map (λ f g w. w.grown) k.1);
      longer = with_longer l a ks (longer_by (type_bytes l) _ (begins_map (λ f g w. w.longer) (pairwise_begins k.1)) (inr (list_children _ p)));
    })) λ r.
    need_gives _ 22 a λ e. record { tidy = n; grown = λ now k. identical refl; longer = omega arith }

-- Schemas

-- a schema as it stands between two sheets of a merge
pub record Standing (x : Schema) : Type 0 where
  pub apart : Apart (names x.columns)
  pub tidy : Every (λ f. Tidy 32 f.data_type) x.columns

-- a schema grew, and its sheet is no shorter
pub record SchemaGrew (parked : Bool) (x y : Schema) : Type 0 where
  pub metadata : Kept x.metadata y.metadata
  pub columns : Begins (GrownField parked (is_null 32) (Grows parked 32)) x.columns y.columns
  pub longer : length (sheet_bytes x) ≤ length (sheet_bytes y)

columns_longer : (xs ys : List (Field 32)) → Begins (λ f g. length (column_bytes f) ≤ length (column_bytes g)) xs ys → length (part (with_count column_bytes) xs) ≤ length (part (with_count column_bytes) ys)
unfolding with_count u16
columns_longer [] ys h = omega arith
columns_longer (x ∷ xs) [] h = elim h [ ]
columns_longer (x ∷ xs) (y ∷ ys) h = omega (arith, each_longer column_bytes (λ f g p. p) h)

pub schema_grows : (parked : Bool) (x y : Schema) → Standing x → Every (λ f. Tidy 32 f.data_type) y.columns → Gives (λ z. Standing z × SchemaGrew parked x z) (merge_schema parked x y)
unfolding merge_schema sheet_bytes metadata_part
schema_grows parked x y i j =
    bind_gives _ (metadata_lasts 25 x.metadata y.metadata) λ d k.
    bind_gives _ (pour_grows parked (is_null 32) (type_bytes 32) (Grows parked 32) (grows_refl parked 32) (grows_null parked 32) (grows_trans parked 32) (Tidy 32) _
    (field_grows parked (is_null 32) (type_bytes 32) (Grows parked 32) (Tidy 32) (merge_type parked 32) (type_grows parked 32))
    x.columns y.columns i.apart i.tidy j) λ cs q.
    value (
      record { apart = q.1; tidy = q.0.tidy },
      record {
        metadata = k.kept;
        columns = begins_map (λ f g w. w.grown) q.0.grown;
        longer = omega (
          arith,
          k.longer,
          columns_longer x.columns cs (begins_map (λ f g w. w.longer) q.0.grown),
          length-append (part (with_count pair_bytes) x.metadata) (part (with_count column_bytes) x.columns),
          length-append (part (with_count pair_bytes) d) (part (with_count column_bytes) cs),
        );
      },
    )

pub schema_refl : (parked : Bool) (x : Schema) → SchemaGrew parked x x
schema_refl parked x = record { metadata = kept_refl _; columns = begins_refl (field_refl parked (is_null 32) (Grows parked 32) (grows_refl parked 32)) _; longer = omega arith }

pub schema_trans : (parked : Bool) (x y z : Schema) → SchemaGrew parked x y → SchemaGrew parked y z → SchemaGrew parked x z
schema_trans parked x y z p q =
    record {
      metadata = kept_trans _ _ _ p.metadata q.metadata;
      columns = begins_trans (field_trans parked (is_null 32) (Grows parked 32) (grows_null parked 32) (grows_trans parked 32)) p.columns q.columns;
      longer = omega (arith, p.longer, q.longer);
    }

-- what grew as trees grew by its bytes
pub schema_grown : {parked : Bool} {x y : Schema} → SchemaGrew parked x y → GrownSchema parked x y
schema_grown {parked} h = record { metadata = h.metadata; columns = begins_map (λ f g. field_map f g (grows_grown parked 32 _ _ _)) h.columns }
