-- What stands in a merged field, in both modes: the order flag of the first field of its name whose type is not Null, and the dictionary number
-- of the first field of its name. One law, of any part of a field that merging takes from the first field that counts. And no name stands twice.
use Prim.Native.Nat.{ℕ, zero, suc}
use mathlib.Core.Path.{◌≡◌, refl, sym, ap, subst, ◌∙◌}
use mathlib.Core.List.{List, [], ◌∷◌, ◌++◌, append_assoc, append-nil, Memᴰ}
use mathlib.Core.Bool.{Bool, true, false, not, ◌&&◌, ◌||◌, cond}
use lib.Dec.{eqb}
use Rattle.model.specs.Numbers.{max_levels, ordered_clash}
use Rattle.model.specs.Bytes.{Bytes, Every, same_bytes}
use Rattle.model.specs.Tree.{FieldOver, DataType, Field, Schema, with_children, Null}
use Rattle.model.specs.Read.{got}
use Rattle.model.specs.Merge.{Merged, pour, merge_by_name, orders_agree, merge_field, is_null, merge_same_code, merge_type, merge_column, merge_schema, empty, try_merge}
use Rattle.model.specs.Growth.{names}
use Rattle.model.proofs.ByteStrings.{same_bytes_eq, same_bytes_refl, same_bytes_differ, differ_same_bytes}
use Rattle.model.proofs.Gives.{Gives, value, refusal, of_done, any_gives, bind_gives, need_gives, choose_gives, gives_map, choose_true, choose_false}
use Rattle.model.proofs.Modes.{merged_order_lem}
use Rattle.model.proofs.Grows.{Apart, put_name, distinct_put}
use Rattle.model.proofs.NothingLost.{merge_from_pour}

-- the name of one among several from which another is apart
apart_from : {T : Type 0} (n : Bytes) (gs : List (FieldOver T)) (h : FieldOver T) → Memᴰ h gs → Every (λ m. same_bytes n m ≡ false) (names gs) → same_bytes h.head.name n ≡ false
apart_from n [] h m d = elim m [ ]
apart_from n (g ∷ gs) h (Memᴰ.head e) d = differ_same_bytes _ _ λ k. same_bytes_differ n g.head.name d.0 (sym k ∙ ap (λ h. h.head.name) e)
apart_from n (g ∷ gs) h (Memᴰ.tail i) d = apart_from n gs h i d.1

-- a part of a field, and which fields count
module _ {T A : Type 0} (counts : FieldOver T → Bool) (part : FieldOver T → A) where
  -- the part of the first field of a name that counts, or else this one
  unfoldable pub standing : Bytes → List (FieldOver T) → A → A
  standing n [] o = o
  standing n (f ∷ fs) o = cond (same_bytes n f.head.name && counts f) (part f) (standing n fs o)

  standing_append : (n : Bytes) (gs fs : List (FieldOver T)) (o : A) → standing n (gs ++ fs) o ≡ standing n gs (standing n fs o)
  unfolding standing
  standing_append n [] fs o = refl
  standing_append n (g ∷ gs) fs o = ap (λ r. cond (same_bytes n g.head.name && counts g) (part g) r) (standing_append n gs fs o)

  -- fields of other names do not matter
  standing_none : (n : Bytes) (gs : List (FieldOver T)) (o : A) → Every (λ m. same_bytes n m ≡ false) (names gs) → standing n gs o ≡ o
  unfolding standing
  standing_none n [] o d = refl
  standing_none n (g ∷ gs) o d = rw d.0 (standing_none n gs o d.1)

  -- a field that counts stands for itself, where no other has its name
  standing_own : (gs : List (FieldOver T)) (h : FieldOver T) (o : A) → Apart (names gs) → Memᴰ h gs → counts h ≡ true → standing h.head.name gs o ≡ part h
  unfolding standing
  standing_own [] h o d m n = elim m [ ]
  standing_own (g ∷ gs) h o d (Memᴰ.head e) n =
      subst (λ g. cond (same_bytes h.head.name g.head.name && counts g) (part g) (standing h.head.name gs o) ≡ part h) e (rw (same_bytes_refl h.head.name, n))
  standing_own (g ∷ gs) h o d (Memᴰ.tail i) n = rw (apart_from g.head.name gs h i d.0) (standing_own gs h o d.1 i n)

  -- Two fields of one name become one

  -- what the merge of f into g gives
  pub record Settles (g f h : FieldOver T) : Type 0 where
    pub name : h.head.name ≡ g.head.name
    pub first : part h ≡ cond (counts g) (part g) (part f)
    pub either : counts h ≡ (counts g || counts f)

  -- it stands for both
  both_stand : (g f h : FieldOver T) (gs : List (FieldOver T)) → same_bytes g.head.name f.head.name ≡ true → Every (λ m. same_bytes g.head.name m ≡ false) (names gs) → Settles g f h
      → (n : Bytes) (o : A) → standing n (h ∷ gs) o ≡ standing n (g ∷ gs ++ (f ∷ [])) o
  unfolding standing
  both_stand g f h gs e d s n o = go (same_bytes n g.head.name) refl
    where
      one : (a b : Bool) (x y : A) → cond (a || b) (cond a x y) o ≡ cond a x (cond b y o)
      one true b x y = refl
      one false true x y = refl
      one false false x y = refl

      go : (t : Bool) → same_bytes n g.head.name ≡ t → standing n (h ∷ gs) o ≡ standing n (g ∷ gs ++ (f ∷ [])) o
      go true same =
          let n-is : n ≡ g.head.name = same_bytes_eq n g.head.name same in
          let apart : Every (λ m. same_bytes n m ≡ false) (names gs) = subst (λ n. Every (λ m. same_bytes n m ≡ false) (names gs)) (sym n-is) d in
          let theirs : same_bytes n f.head.name ≡ true = subst (λ n. same_bytes n f.head.name ≡ true) (sym n-is) e in
          rw (s.first, s.either, s.name, same, standing_append n gs (f ∷ []) o, theirs, standing_none n gs o apart, standing_none n gs (cond (counts f) (part f) o) apart)
          (one (counts g) (counts f) (part g) (part f))
      go false other =
          let theirs : same_bytes n f.head.name ≡ false = subst (λ m. same_bytes n m ≡ false) (same_bytes_eq g.head.name f.head.name e) other in
          rw (s.name, other, standing_append n gs (f ∷ []) o, theirs)

  module _ (merge : FieldOver T → FieldOver T → Merged (FieldOver T)) (settles : (g f : FieldOver T) → Gives (Settles g f) (merge g f)) where
    by_name_stands : (gs : List (FieldOver T)) (f : FieldOver T) → Apart (names gs)
        → Gives (λ r. (names r ≡ put_name (names gs) f.head.name) × ((n : Bytes) (o : A) → standing n r o ≡ standing n (gs ++ (f ∷ [])) o)) (merge_by_name merge gs f)
    unfolding merge_by_name put_name standing
    by_name_stands [] f d = value {a = f ∷ []} (refl, λ n o. refl)
    by_name_stands (g ∷ gs) f d =
        choose_gives _ _ _
        (λ b. bind_gives _ (settles g f) λ h k.
        value {a = h ∷ gs} (ap (λ m. m ∷ names gs) k.name ∙ sym (choose_true _ _ _ b), both_stand g f h gs b d.0 k)) λ b.
        bind_gives _ (by_name_stands gs f d.1) λ r k.
        value {a = g ∷ r} (
          ap (λ m. g.head.name ∷ m) k.0 ∙ sym (choose_false _ _ _ b),
          λ n o. ap (λ r. cond (same_bytes n g.head.name && counts g) (part g) r) (k.1 n o),
        )

    -- of fields poured into a row by name
    pub row_stands : (gs fs : List (FieldOver T)) → Apart (names gs)
        → Gives (λ r. Apart (names r) × ((n : Bytes) (o : A) → standing n r o ≡ standing n (gs ++ fs) o)) (pour (merge_by_name merge) gs fs)
    unfolding pour
    row_stands gs [] d = value (d, λ n o. ap (λ gs. standing n gs o) (sym (append-nil gs)))
    row_stands gs (f ∷ fs) d =
        bind_gives _ (by_name_stands gs f d) λ r k.
        gives_map (row_stands r fs (subst Apart (sym k.0) (distinct_put _ _ d))) λ q h.
        (h.0, λ n o. h.1 n o ∙ standing_append n r fs o ∙ k.1 n (standing n fs o) ∙ sym (standing_append n (gs ++ (f ∷ [])) fs o) ∙ ap (λ gs. standing n gs o) (append_assoc gs (f ∷ []) fs))

-- Schemas

-- the columns of schemas, one after the other
abbrev pub columns_of : List Schema → List (Field max_levels)
columns_of [] = []
columns_of (x ∷ xs) = x.columns ++ columns_of xs

module _ {A : Type 0} (parked : Bool) (counts : Field max_levels → Bool) (part : Field max_levels → A)
    (settles : (g f : Field max_levels) → Gives (Settles counts part g f) (merge_column parked g f)) where
  schemas_stand : (x : Schema) (ys : List Schema) → Apart (names x.columns)
      → Gives (λ z. Apart (names z.columns) × ((n : Bytes) (o : A) → standing counts part n z.columns o ≡ standing counts part n (x.columns ++ columns_of ys) o)) (pour (merge_schema parked) x ys)
  unfolding pour merge_schema
  schemas_stand x [] d = value (d, λ n o. ap (λ gs. standing counts part n gs o) (sym (append-nil x.columns)))
  schemas_stand x (y ∷ ys) d =
      bind_gives {P = λ w. Apart (names w.columns) × ((n : Bytes) (o : A) → standing counts part n w.columns o ≡ standing counts part n (x.columns ++ y.columns) o)} _
      (bind_gives _ (any_gives _) λ m u.
      bind_gives _ (row_stands counts part (merge_column parked) settles x.columns y.columns d) λ cs k.
      value k) λ w k.
      gives_map (schemas_stand w ys k.0) λ z h. (
        h.0,
        λ n o. h.1 n o ∙ standing_append counts part n w.columns (columns_of ys) o ∙ k.1 n (standing counts part n (columns_of ys) o)
            ∙ sym (standing_append counts part n (x.columns ++ y.columns) (columns_of ys) o) ∙ ap (λ gs. standing counts part n gs o) (append_assoc x.columns y.columns (columns_of ys)),
      )

  -- in an accepted merge, a column that counts has the part of the first column of its name that counts
  column_stands : (xs : List Schema) (z : Schema) (e : ℕ) → try_merge parked xs ≡ got z e
      → (h : Field max_levels) → Memᴰ h z.columns → counts h ≡ true → (o : A) → part h ≡ standing counts part h.head.name (columns_of xs) o
  unfolding try_merge
  column_stands xs z e merges h i n o =
      let k = of_done (subst (Gives _) (merge_from_pour parked 0 empty xs z e merges) (schemas_stand empty xs tt)) in
      sym (standing_own counts part z.columns h o k.0 i n) ∙ k.1 h.head.name o

-- Order flags: of fields whose type is not Null

abbrev pub has_type : {T : Type 0} → (T → Bool) → FieldOver T → Bool
has_type is_null f = not (is_null f.data_type)

abbrev pub order_flag : {T : Type 0} → FieldOver T → Bool
order_flag f = f.head.dict_is_ordered

pub flag_settles : {T : Type 0} (is_null : T → Bool) (parked : Bool) (merge : T → T → Merged T) → ((a b : T) → Gives (λ t. is_null t ≡ (is_null a && is_null b)) (merge a b))
    → (g f : FieldOver T) → Gives (Settles (has_type is_null) order_flag g f) (merge_field parked merge is_null g f)
unfolding merge_field
flag_settles is_null parked merge merge-null g f =
    bind_gives {P = λ u. orders_agree parked is_null g f ≡ true} _ (need_gives _ ordered_clash tt λ e. e) λ u o.
    bind_gives _ (any_gives _) λ m k.
    bind_gives _ (merge-null g.data_type f.data_type) λ t n.
    value (record {
      name = refl;
      first = merged_order_lem is_null g f parked o ∙ turned (is_null g.data_type) g.head.dict_is_ordered f.head.dict_is_ordered;
      either = ap not n ∙ either_typed (is_null g.data_type) (is_null f.data_type);
    })
  where
    turned : (a x y : Bool) → cond a y x ≡ cond (not a) x y
    turned true x y = refl
    turned false x y = refl

    either_typed : (a b : Bool) → not (a && b) ≡ (not a || not b)
    either_typed true b = refl
    either_typed false b = refl

-- what is merged is Null where both are
pub type_null : (parked : Bool) (l : ℕ) (a b : DataType l) → Gives (λ t. is_null l t ≡ (is_null l a && is_null l b)) (merge_type parked l a b)
unfolding merge_type merge_same_code is_null
type_null parked zero a b = absurd a
type_null parked (suc l) a b =
    choose_gives _ _ _ (λ p. value (rw p)) λ p.
    let kept : eqb a.code Null ≡ (eqb a.code Null && eqb b.code Null) = rw p in
    choose_gives _ _ _ (λ q. value kept) λ q.
    choose_gives _ _ _ (λ r. refusal) λ r.
    choose_gives _ _ _ (λ s. bind_gives _ (any_gives _) λ ks k. value {a = with_children a ks} kept) λ s.
    choose_gives _ _ _ (λ s. bind_gives _ (any_gives _) λ ks k. need_gives _ _ (with_children a ks) λ e. kept) λ s.
    choose_gives _ _ _ (λ s. bind_gives _ (any_gives _) λ ks k. value {a = with_children a ks} kept) λ s.
    need_gives _ _ a λ e. kept

-- the flag of the first column of a name that is not Null
abbrev pub standing_flag : Bytes → List (Field max_levels) → Bool → Bool
standing_flag = standing (has_type (is_null max_levels)) order_flag

-- In an accepted merge, in either mode, a column that is not Null has the order flag of the first column of its name that is not Null.
pub flag_stands : (parked : Bool) (xs : List Schema) (z : Schema) (e : ℕ) → try_merge parked xs ≡ got z e
    → (h : Field max_levels) → Memᴰ h z.columns → is_null max_levels h.data_type ≡ false → (o : Bool) → h.head.dict_is_ordered ≡ standing_flag h.head.name (columns_of xs) o
flag_stands parked xs z e merges h i n o =
    column_stands parked (has_type (is_null max_levels)) order_flag (flag_settles (is_null max_levels) parked (merge_type parked max_levels) (type_null parked max_levels)) xs z e merges h i (ap not n) o

-- Dictionary numbers: of every field

abbrev pub always : {A : Type 0} → A → Bool
always a = true

abbrev pub dict_number : {T : Type 0} → FieldOver T → ℕ
dict_number f = f.head.dict_id

-- "merging keeps the first column's, even for a Null that takes a type"
pub dict_id_settles : {T : Type 0} (is_null : T → Bool) (parked : Bool) (merge : T → T → Merged T) (g f : FieldOver T) → Gives (Settles always dict_number g f) (merge_field parked merge is_null g f)
unfolding merge_field
dict_id_settles is_null parked merge g f =
    bind_gives _ (any_gives _) λ u o.
    bind_gives _ (any_gives _) λ m k.
    bind_gives _ (any_gives _) λ t n.
    value (record { name = refl; first = refl; either = refl })

-- the dictionary number of the first column of a name
abbrev pub standing_dict_id : Bytes → List (Field max_levels) → ℕ → ℕ
standing_dict_id = standing always dict_number

-- In an accepted merge, in either mode, a column has the dictionary number of the first column of its name.
pub dict_id_stands_lem : (parked : Bool) (xs : List Schema) (z : Schema) (e : ℕ) → try_merge parked xs ≡ got z e
    → (h : Field max_levels) → Memᴰ h z.columns → (d : ℕ) → h.head.dict_id ≡ standing_dict_id h.head.name (columns_of xs) d
dict_id_stands_lem parked xs z e merges h i d =
    column_stands parked always dict_number (dict_id_settles (is_null max_levels) parked (merge_type parked max_levels)) xs z e merges h i refl d

-- In an accepted merge, in either mode, no two columns have one name.
pub names_apart : (parked : Bool) (xs : List Schema) (z : Schema) (e : ℕ) → try_merge parked xs ≡ got z e → Apart (names z.columns)
unfolding try_merge
names_apart parked xs z e merges =
    (of_done (subst (Gives _) (merge_from_pour parked 0 empty xs z e merges)
    (schemas_stand parked always dict_number (dict_id_settles (is_null max_levels) parked (merge_type parked max_levels)) empty xs tt))).0
