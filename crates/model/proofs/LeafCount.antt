-- The leaves that the filter meets: their number, the mask bytes that they take, and that a filter's answer is no longer than its sheet.
use Prim.Native.Nat.{ℕ, zero, suc, ◌+◌, ◌≤◌}
use native.Mathlib.Nat.{zero-add, suc-add}
use native.Mathlib.Omega.{arith}
use mathlib.Core.Path.{◌≡◌, refl, sym, ap, ◌∙◌}
use mathlib.Core.List.{List, [], ◌∷◌, ◌++◌}
use mathlib.Core.Bool.{Bool, true, false, ◌&&◌}
use lib.ListN.{length, take, drop, length-append}
use lib.Seq.{drop-drop, take-take, take-nil}
use lib.Dec.{eqb}
use borrow.Table.Steps.{cases}
use Rattle.model.specs.Numbers.{max_levels}
use Rattle.model.specs.Bytes.{Bytes, choose, u16, Every}
use Rattle.model.specs.Tree.{Head, DataTypeOver, FieldOver, DataType, Field, Schema, Children, fields, key_and_value, counted, counted_with_ids, layout, with_children, with_data_type}
use Rattle.model.specs.Sheet.{each, with_count, part, pair_bytes, head_bytes, field_bytes, children_bytes, type_bytes, column_bytes, sheet_bytes}
use Rattle.model.specs.Read.{got, judged}
use Rattle.model.specs.Datatype.{holds_fields, encodes}
use Rattle.model.specs.Filter.{Filtered, leaf, nested, filter_each, filter_leaf, filter_to, filter_field, with_left, around, look_through, filter_type, Leaves, itself, inside, leaves_of_second, field_leaves, leaves_of_each, type_leaves, leaves, field_leaf_count, leaf_count_of_each, type_leaf_count, leaf_count, filter_columns, filter_leaves}

-- The leaf count is the length of the list of leaves

abbrev pub map_leaves : {A B : Type 0} → (A → B) → Leaves A → Leaves B
map_leaves f itself = itself
map_leaves f (inside a) = inside (f a)

module _ {T : Type 0} (count : T → Leaves ℕ) (list : T → Leaves (List Head)) (agree : (t : T) → count t ≡ map_leaves length (list t)) where
  count_of_each : (fs : List (FieldOver T)) → leaf_count_of_each count fs ≡ length (leaves_of_each list fs)
  unfolding leaf_count_of_each leaves_of_each field_leaf_count field_leaves
  count_of_each [] = refl
  count_of_each (f ∷ fs) =
      let x = list f.data_type in
      omega (arith, ap field_leaf_count (agree f.data_type), field x, count_of_each fs, length-append (field_leaves f.head x) (leaves_of_each list fs))
    where
      field : (x : Leaves (List Head)) → field_leaf_count (map_leaves length x) ≡ length (field_leaves f.head x)
      field itself = refl
      field (inside hs) = refl

  count_of_second : (fs : List (FieldOver T)) → leaves_of_second count fs ≡ map_leaves length (leaves_of_second list fs)
  unfolding leaves_of_second
  count_of_second [] = refl
  count_of_second (f ∷ []) = refl
  count_of_second (f ∷ g ∷ fs) = agree g.data_type

-- the count of a type is the length of the list of the leaves inside it
pub type_count : (l : ℕ) (through : Bool) (t : DataType l) → type_leaf_count l through t ≡ map_leaves length (type_leaves l through t)
unfolding type_leaf_count type_leaves choose
type_count zero through t = refl
type_count (suc l) through t =
    cases (holds_fields t.code) (λ e. rw e (ap inside (count_of_each _ _ (type_count l true) t.children))) λ e.
    rw e (cases (through && encodes t.code) (λ e. rw e (count_of_second _ _ (type_count l false) t.children)) λ e.
    rw e)

-- the leaf count, which the mask's length is held against, is the number of the leaves
pub leaf_count_lem : (x : Schema) → leaf_count x ≡ length (leaves x)
unfolding leaf_count leaves
leaf_count_lem x = count_of_each _ _ (type_count max_levels true) x.columns

-- The mask bytes that the leaves take

-- What the filter makes of a type under two masks, by the count of its leaves: a leaf of it under both, or what is left of the masks behind
-- so many bytes; and the same type is left if those bytes are the same.
pub data Takes {T : Type 0} (mask other : Bytes) : Leaves ℕ → Filtered T → Filtered T → Type 0 where
  alone : Takes mask other itself leaf leaf
  below : {n : ℕ} {ts us : List T} {rest left : Bytes} → rest ≡ drop n mask → left ≡ drop n other → (take n mask ≡ take n other → ts ≡ us)
      → Takes mask other (inside n) (nested ts rest) (nested us left)

drop_take : {A : Type 0} (n m : ℕ) (xs : List A) → drop n (take (n + m) xs) ≡ take m (drop n xs)
drop_take zero m xs = rw zero-add
drop_take (suc n) m [] = rw suc-add (sym (take-nil m))
drop_take (suc n) m (x ∷ xs) = rw suc-add (drop_take n m xs)

module _ {T : Type 0} (count : T → Leaves ℕ) (filter : T → Bytes → Filtered T)
    (takes : (t : T) (mask other : Bytes) → Takes mask other (count t) (filter t mask) (filter t other)) where
  pub field_mask : (f : FieldOver T) (mask : Bytes) → (filter_field filter f mask).mask ≡ drop (field_leaf_count (count f.data_type)) mask
  unfolding filter_field filter_to filter_leaf field_leaf_count
  field_mask f mask = go mask (takes f.data_type mask mask)
    where
      go : (mask : Bytes) {c : Leaves ℕ} {a b : Filtered T} → Takes mask mask c a b → (filter_to f mask a).mask ≡ drop (field_leaf_count c) mask
      go [] alone = refl
      go (b ∷ mask) alone = refl
      go mask (below {ts = []} h k e) = h
      go mask (below {ts = t ∷ ts} h k e) = h

  field_kept : (f : FieldOver T) (mask other : Bytes) → let n = field_leaf_count (count f.data_type) in take n mask ≡ take n other
      → (filter_field filter f mask).kept ≡ (filter_field filter f other).kept
  unfolding filter_field filter_to filter_leaf field_leaf_count
  field_kept f mask other = go (takes f.data_type mask other)
    where
      leaf_kept : (mask : Bytes) → (filter_leaf f mask).kept ≡ (filter_leaf f (take 1 mask)).kept
      leaf_kept [] = refl
      leaf_kept (b ∷ mask) = refl

      type_kept : (mask rest : Bytes) (ts : List T) → (filter_to f mask (nested ts rest)).kept ≡ (filter_to f [] (nested ts [])).kept
      type_kept mask rest [] = refl
      type_kept mask rest (t ∷ ts) = refl

      go : {c : Leaves ℕ} {a b : Filtered T} → Takes mask other c a b → take (field_leaf_count c) mask ≡ take (field_leaf_count c) other
          → (filter_to f mask a).kept ≡ (filter_to f other b).kept
      go alone e = leaf_kept mask ∙ ap (λ m. (filter_leaf f m).kept) e ∙ sym (leaf_kept other)
      go (below {ts} {us} {rest} {left} h k same) e =
          type_kept mask rest ts ∙ ap (λ ts. (filter_to f [] (nested ts [])).kept) (same e) ∙ sym (type_kept other left us)

  each_mask : (fs : List (FieldOver T)) (mask : Bytes) → (filter_each (filter_field filter) fs mask).mask ≡ drop (leaf_count_of_each count fs) mask
  unfolding filter_each leaf_count_of_each
  each_mask [] mask = refl
  each_mask (f ∷ fs) mask = each_mask fs _ ∙ ap (drop (leaf_count_of_each count fs)) (field_mask f mask) ∙ drop-drop (leaf_count_of_each count fs) _ mask

  each_kept : (fs : List (FieldOver T)) (mask other : Bytes) → take (leaf_count_of_each count fs) mask ≡ take (leaf_count_of_each count fs) other
      → (filter_each (filter_field filter) fs mask).kept ≡ (filter_each (filter_field filter) fs other).kept
  unfolding filter_each leaf_count_of_each
  each_kept [] mask other e = refl
  each_kept (f ∷ fs) mask other e =
      let n = field_leaf_count (count f.data_type) in
      let m = leaf_count_of_each count fs in
      let first = field_kept f mask other (sym (take-take n (n + m) mask (omega arith)) ∙ ap (take n) e ∙ take-take n (n + m) other (omega arith)) in
      let seam : take m (drop n mask) ≡ take m (drop n other) = sym (drop_take n m mask) ∙ ap (drop n) e ∙ drop_take n m other in
      let rest = each_kept fs _ _ (ap (take m) (field_mask f mask) ∙ seam ∙ sym (ap (take m) (field_mask f other))) in
      ap (λ ks. ks ++ (filter_each (filter_field filter) fs (filter_field filter f mask).mask).kept) first
      ∙ ap (λ ks. (filter_field filter f other).kept ++ ks) rest

  second_takes : (t : DataTypeOver (FieldOver T)) (fs : List (FieldOver T)) (mask other : Bytes)
      → Takes mask other (leaves_of_second count fs) (look_through filter t fs mask) (look_through filter t fs other)
  unfolding leaves_of_second look_through around
  second_takes t [] mask other = alone
  second_takes t (f ∷ []) mask other = alone
  second_takes t (f ∷ g ∷ fs) mask other = go (takes g.data_type mask other)
    where
      wrap : List T → List (DataTypeOver (FieldOver T))
      wrap [] = []
      wrap (d ∷ ds) = with_children t (f ∷ with_data_type g d ∷ []) ∷ []

      go : {c : Leaves ℕ} {a b : Filtered T} → Takes mask other c a b → Takes mask other c (around t f g a) (around t f g b)
      go alone = alone
      go (below {ts = []} {us = []} h k same) = below h k λ e. ap wrap (same e)
      go (below {ts = []} {us = b ∷ bs} h k same) = below h k λ e. ap wrap (same e)
      go (below {ts = a ∷ rs} {us = []} h k same) = below h k λ e. ap wrap (same e)
      go (below {ts = a ∷ rs} {us = b ∷ bs} h k same) = below h k λ e. ap wrap (same e)

  left_takes : (t : DataTypeOver (FieldOver T)) (mask other : Bytes) → Takes mask other (inside (leaf_count_of_each count t.children))
      (with_left t (filter_each (filter_field filter) t.children mask)) (with_left t (filter_each (filter_field filter) t.children other))
  unfolding with_left
  left_takes t mask other =
      below (each_mask t.children mask) (each_mask t.children other) λ e.
      ap (λ ks. choose (eqb (length ks) 0) (λ u. []) λ u. with_children t ks ∷ []) (each_kept t.children mask other e)

-- a type is a leaf to the filter exactly where its count says so, else it takes as many mask bytes as there are leaves inside it, and heeds no other
pub type_takes : (l : ℕ) (through : Bool) (t : DataType l) (mask other : Bytes)
    → Takes mask other (type_leaf_count l through t) (filter_type l through t mask) (filter_type l through t other)
unfolding type_leaf_count filter_type choose
type_takes zero through t mask other = alone
type_takes (suc l) through t mask other =
    cases (holds_fields t.code) (λ e. rw e (left_takes _ _ (type_takes l true) t mask other)) λ e.
    rw e (cases (through && encodes t.code) (λ e. rw e (second_takes _ _ (type_takes l false) t t.children mask other)) λ e.
    rw e alone)

-- the filter takes exactly as many mask bytes as there are leaves
pub filter_mask : (cs : List (Field max_levels)) (mask : Bytes)
    → (filter_columns cs mask).mask ≡ drop (leaf_count_of_each (type_leaf_count max_levels true) cs) mask
unfolding filter_columns
filter_mask cs mask = each_mask _ _ (type_takes max_levels true) cs mask

-- what is left depends on no mask byte behind those
pub filter_kept : (cs : List (Field max_levels)) (mask other : Bytes)
    → let n = leaf_count_of_each (type_leaf_count max_levels true) cs in take n mask ≡ take n other → (filter_columns cs mask).kept ≡ (filter_columns cs other).kept
unfolding filter_columns
filter_kept cs mask other e = each_kept _ _ (type_takes max_levels true) cs mask other e

-- What is left is no longer than what there was

-- each type that is left has at most so many bytes
data AtMost {T : Type 0} (write : T → Bytes) (n : ℕ) : Filtered T → Type 0 where
  alone : AtMost write n leaf
  below : {ts : List T} {rest : Bytes} → Every (λ t. length (write t) ≤ n) ts → AtMost write n (nested ts rest)

length_each_append : {A : Type 0} (w : A → Bytes) (xs ys : List A) → length (each w (xs ++ ys)) ≡ length (each w xs) + length (each w ys)
length_each_append w [] ys = omega arith
length_each_append w (x ∷ xs) ys =
    omega (arith, length_each_append w xs ys, length-append (w x) (each w (xs ++ ys)), length-append (w x) (each w xs))

module _ {T : Type 0} (write : T → Bytes) where
  -- a way of writing a field that a shorter type makes no longer
  abbrev Follows : (FieldOver T → Bytes) → Type 0
  Follows w = (f : FieldOver T) (t : T) → length (write t) ≤ length (write f.data_type) → length (w (with_data_type f t)) ≤ length (w f)

  -- written in any such way
  abbrev NoLonger : List (FieldOver T) → List (FieldOver T) → Type 0
  NoLonger ks fs = (w : FieldOver T → Bytes) → Follows w → length (each w ks) ≤ length (each w fs)

  field_follows : Follows (field_bytes write)
  unfolding field_bytes
  field_follows f t h = omega (arith, h, length-append (head_bytes f.head) (write t), length-append (head_bytes f.head) (write f.data_type))

  children_no_longer : (k : Children) (ks fs : List (FieldOver T)) → NoLonger ks fs → length (children_bytes write k ks) ≤ length (children_bytes write k fs)
  unfolding children_bytes with_count u16
  children_no_longer (fields n) ks fs h = h (field_bytes write) field_follows
  children_no_longer key_and_value ks fs h = h (λ k. write k.data_type) λ f t e. e
  children_no_longer counted ks fs h = omega (arith, h (field_bytes write) field_follows)
  children_no_longer counted_with_ids ks fs h =
      omega (arith, h (λ k. k.head.type_id ∷ field_bytes write k) λ f t e. omega (arith, field_follows f t e))

  module _ (filter : T → Bytes → Filtered T) (shrinks : (t : T) (mask : Bytes) → AtMost write (length (write t)) (filter t mask)) where
    field_no_longer : (f : FieldOver T) (mask : Bytes) → NoLonger (filter_field filter f mask).kept (f ∷ [])
    unfolding filter_field filter_to filter_leaf choose
    field_no_longer f mask w h = go mask (shrinks f.data_type mask)
      where
        go : (mask : Bytes) {r : Filtered T} → AtMost write (length (write f.data_type)) r
            → length (each w (filter_to f mask r).kept) ≤ length (each w (f ∷ []))
        go [] alone = omega arith
        go (b ∷ mask) alone = cases (eqb b 0) (λ e. rw e (omega arith)) λ e. rw e (omega arith)
        go mask (below {ts = []} k) = omega arith
        go mask (below {ts = t ∷ ts} k) =
            omega (arith, h f t k.0, length-append (w f) [], length-append (w (with_data_type f t)) [])

    each_no_longer : (fs : List (FieldOver T)) (mask : Bytes) → NoLonger (filter_each (filter_field filter) fs mask).kept fs
    unfolding filter_each
    each_no_longer [] mask w h = omega arith
    each_no_longer (f ∷ fs) mask w h =
        let rest = (filter_field filter f mask).mask in
        omega (
          arith,
          field_no_longer f mask w h,
          each_no_longer fs rest w h,
          length_each_append w (filter_field filter f mask).kept (filter_each (filter_field filter) fs rest).kept,
          length-append (w f) [],
          length-append (w f) (each w fs),
        )

module _ (l : ℕ) where
  -- the same type around other children
  with_children_lem : (t : DataType (suc l)) (ks : List (Field l)) (rest : Bytes) → NoLonger (type_bytes l) ks t.children
      → AtMost (type_bytes (suc l)) (length (type_bytes (suc l) t)) (nested (with_children t ks ∷ []) rest)
  unfolding type_bytes
  with_children_lem t ks rest h =
      let k = (layout t.code).children in
      below {ts = with_children t ks ∷ []} (omega (
        arith,
        children_no_longer (type_bytes l) k ks t.children h,
        length-append t.params (children_bytes (type_bytes l) k ks),
        length-append t.params (children_bytes (type_bytes l) k t.children),
      ))

  module _ (filter : DataType l → Bytes → Filtered (DataType l))
      (shrinks : (t : DataType l) (mask : Bytes) → AtMost (type_bytes l) (length (type_bytes l t)) (filter t mask)) where
    left_shrinks : (t : DataType (suc l)) (mask : Bytes)
        → AtMost (type_bytes (suc l)) (length (type_bytes (suc l) t)) (with_left t (filter_each (filter_field filter) t.children mask))
    unfolding with_left choose
    left_shrinks t mask =
        let left = filter_each (filter_field filter) t.children mask in
        cases (eqb (length left.kept) 0) (λ e. rw e (below tt)) λ e.
        rw e (with_children_lem t left.kept left.mask (each_no_longer (type_bytes l) filter shrinks t.children mask))

    second_shrinks : (t : DataType (suc l)) (mask : Bytes)
        → AtMost (type_bytes (suc l)) (length (type_bytes (suc l) t)) (look_through filter t t.children mask)
    unfolding look_through around
    second_shrinks t mask = go t.children refl
      where
        look : (f g : Field l) (fs : List (Field l)) {r : Filtered (DataType l)} → t.children ≡ f ∷ g ∷ fs
            → AtMost (type_bytes l) (length (type_bytes l g.data_type)) r → AtMost (type_bytes (suc l)) (length (type_bytes (suc l) t)) (around t f g r)
        look f g fs e alone = alone
        look f g fs e (below {ts = []} h) = below tt
        look f g fs e (below {ts = d ∷ ds} {rest} h) =
            with_children_lem t (f ∷ with_data_type g d ∷ []) rest (rw e λ w k.
            omega (
              arith,
              k g d h.0,
              length-append (w f) (w (with_data_type g d) ++ []),
              length-append (w (with_data_type g d)) [],
              length-append (w f) (w g ++ each w fs),
              length-append (w g) (each w fs),
            ))

        go : (fs : List (Field l)) → t.children ≡ fs → AtMost (type_bytes (suc l)) (length (type_bytes (suc l) t)) (look_through filter t fs mask)
        go [] e = alone
        go (f ∷ []) e = alone
        go (f ∷ g ∷ fs) e = look f g fs e (shrinks g.data_type mask)

type_shrinks : (l : ℕ) (through : Bool) (t : DataType l) (mask : Bytes) → AtMost (type_bytes l) (length (type_bytes l t)) (filter_type l through t mask)
unfolding filter_type choose
type_shrinks zero through t mask = alone
type_shrinks (suc l) through t mask =
    cases (holds_fields t.code) (λ e. rw e (left_shrinks l _ (type_shrinks l true) t mask)) λ e.
    rw e (cases (through && encodes t.code) (λ e. rw e (second_shrinks l _ (type_shrinks l false) t mask)) λ e.
    rw e alone)

columns_no_longer : (cs : List (Field max_levels)) (mask : Bytes) → NoLonger (type_bytes max_levels) (filter_columns cs mask).kept cs
unfolding filter_columns
columns_no_longer cs mask = each_no_longer (type_bytes max_levels) _ (type_shrinks max_levels true) cs mask

-- a filter leaves at most as many columns as there were
pub filter_count : (cs : List (Field max_levels)) (mask : Bytes) → length (filter_columns cs mask).kept ≤ length cs
filter_count cs mask =
    omega (arith, columns_no_longer cs mask (λ f. 0 ∷ []) λ f t h. omega arith, one_each cs, one_each (filter_columns cs mask).kept)
  where
    one_each : (fs : List (Field max_levels)) → length (each (λ f. 0 ∷ []) fs) ≡ length fs
    one_each [] = refl
    one_each (f ∷ fs) = ap suc (one_each fs)

-- the bytes of the columns that a filter leaves are at most as many as those of the columns that there were
pub filter_bytes : (cs : List (Field max_levels)) (mask : Bytes) → length (each column_bytes (filter_columns cs mask).kept) ≤ length (each column_bytes cs)
filter_bytes cs mask = columns_no_longer cs mask column_bytes (field_follows (type_bytes max_levels))

part_no_longer : {A : Type 0} (w : A → Bytes) (xs ys : List A) → length xs ≤ length ys → length (each w xs) ≤ length (each w ys)
    → length (part (with_count w) xs) ≤ length (part (with_count w) ys)
unfolding with_count u16
part_no_longer w [] ys c h = omega arith
part_no_longer w (x ∷ xs) [] c h = omega (arith, c)
part_no_longer w (x ∷ xs) (y ∷ ys) c h = omega (arith, h)

pub judged_value : {A : Type 0} (n place e : ℕ) {m : ℕ} {a b : A} → judged n place a e ≡ got b m → a ≡ b
unfolding judged
judged_value zero place e h = cc
judged_value (suc n) place e h = cc

-- a filter's answer is no longer than its sheet, so it is never above 65,535 bytes
pub filter_no_longer : (x y : Schema) (mask : Bytes) (e : ℕ) → filter_leaves x mask ≡ got y e → length (sheet_bytes y) ≤ length (sheet_bytes x)
unfolding filter_leaves sheet_bytes
filter_no_longer x y mask e h =
    rw (← (judged_value _ 0 0 h)) (omega (
      arith,
      part_no_longer column_bytes (filter_columns x.columns mask).kept x.columns (filter_count x.columns mask) (filter_bytes x.columns mask),
      length-append (part (with_count pair_bytes) x.metadata) (part (with_count column_bytes) (filter_columns x.columns mask).kept),
      length-append (part (with_count pair_bytes) x.metadata) (part (with_count column_bytes) x.columns),
    ))
