-- Going over bytes of a sheet and putting what the filter keeps of them. A walk stands at a place of the sheet and at a leaf, counted from 0
-- in the order of the mask's bytes; what it kept so far stands in an output.
use Rattle.std.specs.Prelude.{ℕ, suc, ◌+◌, ◌%◌, ◌≤◌, ◌≡◌, List, [], ◌∷◌, ◌++◌, Bool, true, false, length, drop, get_or, eqb}
use Rattle.model.specs.Numbers.{max_levels, max_sheet_bytes}
use Rattle.model.specs.Bytes.{Bytes, choose}
use Rattle.model.specs.Tree.{Head, DataType, Field, Schema, Children, layout, with_children}
use Rattle.model.specs.Sheet.{each, part, stands, with_count, column_bytes, field_bytes, children_bytes, type_bytes, sheet_bytes}
use Rattle.model.specs.WellFormed.{CountFits, LaidOut, WellFormedSchema}
use Rattle.model.specs.Datatype.{holds_fields}
use Rattle.model.specs.Filter.{Filtered, Leaves, filter_each, filter_field, filter_type, field_leaf_count, leaf_count_of_each, type_leaf_count, leaf_count, filter_columns}
use Rattle.buffer.specs.declared.Output.{Output}
use Rattle.buffer.specs.Puts.{Puts}
use Rattle.walk.specs.Stands.{Stands, Skips, AllLaidOut}
use Rattle.filter.specs.declared.Sieve.{Sieve}

-- the bytes x are what was put
pub record Begins (o : Output) (x : Bytes) : Type 0 where
  pub end : o.written ≡ length x
  pub rest : Bytes
  pub bytes : o.buffer.now ≡ x ++ rest

-- a sheet and a mask, how far a walk came, and what it kept
pub record Walk : Type 0 where
  pub sheet : Bytes
  pub mask : Bytes
  pub at : ℕ
  pub leaf : ℕ
  pub out : Output

abbrev pub reached : Sieve → Output → Walk
reached s o = record { sheet = s.sheet.now; mask = s.mask.now; at = s.at; leaf = s.leaf; out = o }

-- the same walk at another place, with an output
abbrev pub walk_to : ℕ → Walk → Output → Walk
walk_to p v o = record { sheet = v.sheet; mask = v.mask; at = p; leaf = v.leaf; out = o }

-- The buffer is as long as the sheet, and the sheet no longer than one may be. What was kept is no longer than what was passed, and the
-- leaves are no more than its bytes: so a walk never lacks room, nor numbers for its leaves.
pub record Fair (v : Walk) : Type 0 where
  pub small : length v.sheet ≤ max_sheet_bytes
  pub room : length v.sheet ≤ length v.out.buffer.now
  pub leaves : v.leaf ≤ v.at
  pub written : v.out.written ≤ v.at

-- From v on, a walk passed the bytes b, with n leaves in them, and put the bytes k behind x.
pub record Passed (b : Bytes) (n : ℕ) (k : Bytes) (v : Walk) (x : Bytes) (v' : Walk) : Type 0 where
  pub sheet : v'.sheet ≡ v.sheet
  pub mask : v'.mask ≡ v.mask
  pub behind : v'.at ≡ v.at + length b
  pub leaves : v'.leaf ≡ v.leaf + n
  pub same_buffer : v'.out.buffer.ghost_name ≡ v.out.buffer.ghost_name
  pub fair : Fair v'
  pub begins : Begins v'.out (x ++ k)

-- so a walk does where the bytes b stand in the sheet; what stands in the buffer behind what was put does not matter
pub record Filters (b : Bytes) (n : ℕ) (k : Bytes) (v v' : Walk) : Type 0 where
  pub does : (x : Bytes) → Stands v.sheet v.at b → Fair v → Begins v.out x → Passed b n k v x v'

-- what stands up to a place is put as it is, and no leaf is counted in it
pub record CopiesTo (to : ℕ) (v v' : Walk) : Type 0 where
  pub behind : v' ≡ walk_to to v v'.out
  pub puts : (b : Bytes) → Stands v.sheet v.at b → to ≡ v.at + length b → Puts b v.out v'.out

-- what was put from a position on is taken back
abbrev pub back_to : ℕ → Output → Output
back_to p o = record { buffer = o.buffer; written = p }

-- what was put from one position to another is taken back where nothing was put behind it
abbrev pub taken_back : (put front : ℕ) → Output → Output
taken_back put front o = back_to (choose (eqb o.written front) (λ u. put) λ u. o.written) o

-- the walk is to begin again at v
abbrev pub undone : Walk → Output → Walk
undone v o = walk_to v.at v (back_to v.out.written o)

-- Types: no leaf below it, or what is left of it

-- the bytes of what is left of a type: of one type, or of none
abbrev pub first_bytes : {T : Type 0} → (T → Bytes) → List T → Bytes
first_bytes f [] = []
first_bytes f (t ∷ ts) = f t

-- What the answer says of what the definition makes of a type, and of its leaf count; b are the type's bytes, and f gives those of what is left.
pub data Sifts (b : Bytes) {T : Type 0} (f : T → Bytes) (model : Filtered T) (count : Leaves ℕ) (v v' : Walk) (r : Bool) : Type 0 where
  alone : model ≡ Filtered.leaf → count ≡ Leaves.itself → r ≡ false → Filters [] 0 [] v (undone v v'.out) → Sifts b f model count v v' r
  below : (ts : List T) (rest : Bytes) (n : ℕ) → model ≡ Filtered.nested ts rest → count ≡ Leaves.inside n → r ≡ true → Filters b n (first_bytes f ts) v v'
      → Sifts b f model count v v' r

abbrev pub TypeSifted : (l : ℕ) (through : Bool) (t : DataType l) (v v' : Walk) (r : Bool) → Type 0
TypeSifted l through t v v' r = Sifts (type_bytes l t) (type_bytes l) (filter_type l through t (drop v.leaf v.mask)) (type_leaf_count l through t) v v' r

-- bytes before a type are kept where something of it is left
abbrev pub InnerSifted : (l : ℕ) (a : Bytes) (t : DataType l) (v v' : Walk) (r : Bool) → Type 0
InnerSifted l a t v v' r =
    Sifts (a ++ type_bytes l t) (λ t. a ++ type_bytes l t) (filter_type l false t (drop v.leaf v.mask)) (type_leaf_count l false t) v v' r

-- Fields and children: how many leaves they have, and what is left of them

abbrev pub leaves_of : (l : ℕ) → Field l → ℕ
leaves_of l f = field_leaf_count (type_leaf_count l true f.data_type)

abbrev pub leaves_of_all : (l : ℕ) → List (Field l) → ℕ
leaves_of_all l fs = leaf_count_of_each (type_leaf_count l true) fs

abbrev pub kept_of : (l : ℕ) → Field l → Bytes → List (Field l)
kept_of l f mask = (filter_field (filter_type l true) f mask).kept

abbrev pub kept_of_all : (l : ℕ) → List (Field l) → Bytes → List (Field l)
kept_of_all l fs mask = (filter_each (filter_field (filter_type l true)) fs mask).kept

abbrev pub FieldFiltered : (l : ℕ) (f : Field l) (v v' : Walk) → Type 0
FieldFiltered l f v v' =
    Filters (field_bytes (type_bytes l) f) (leaves_of l f) (each (field_bytes (type_bytes l)) (kept_of l f (drop v.leaf v.mask))) v v'

-- a child: bytes that its head gives, as a union child's id, then the field
abbrev pub child_bytes : (l : ℕ) → (Head → Bytes) → Field l → Bytes
child_bytes l front k = front k.head ++ field_bytes (type_bytes l) k

abbrev pub ChildFiltered : (l : ℕ) (front : Head → Bytes) (f : Field l) (v v' : Walk) → Type 0
ChildFiltered l front f v v' =
    Filters (child_bytes l front f) (leaves_of l f) (each (child_bytes l front) (kept_of l f (drop v.leaf v.mask))) v v'

-- so many children: what is left of them is counted on from c
pub record FiltersEach (b : Bytes) (n : ℕ) {A : Type 0} (f : A → Bytes) (ks : List A) (v : Walk) (c : ℕ) (v' : Walk) (c' : ℕ) : Type 0 where
  pub does : (x : Bytes) → Stands v.sheet v.at b → Fair v → Begins v.out x → Passed b n (each f ks) v x v' × (c' ≡ c + length ks)

abbrev pub ChildrenFiltered : (l : ℕ) (front : Head → Bytes) (ks : List (Field l)) (v : Walk) (c : ℕ) (v' : Walk) (c' : ℕ) → Type 0
ChildrenFiltered l front ks v c v' c' =
    FiltersEach (each (child_bytes l front) ks) (leaves_of_all l ks) (child_bytes l front) (kept_of_all l ks (drop v.leaf v.mask)) v c v' c'

-- a count and as many children: where none is left, not even a count is
abbrev pub CountedFiltered : (l : ℕ) (front : Head → Bytes) (ks : List (Field l)) (v v' : Walk) → Type 0
CountedFiltered l front ks v v' =
    Filters (with_count (child_bytes l front) ks) (leaves_of_all l ks) (part (with_count (child_bytes l front)) (kept_of_all l ks (drop v.leaf v.mask))) v v'

-- the children of a type, by their kind, and the type around those that are left
abbrev pub KindFiltered : (l : ℕ) (c : Children) (ks : List (Field l)) (v v' : Walk) → Type 0
KindFiltered l c ks v v' =
    Filters (children_bytes (type_bytes l) c ks) (leaves_of_all l ks) (part (children_bytes (type_bytes l) c) (kept_of_all l ks (drop v.leaf v.mask))) v v'

abbrev pub HolderFiltered : (l : ℕ) (t : DataType (suc l)) (v v' : Walk) → Type 0
HolderFiltered l t v v' =
    Filters (type_bytes (suc l) t) (leaves_of_all l t.children) (part (λ ks. type_bytes (suc l) (with_children t ks)) (kept_of_all l t.children (drop v.leaf v.mask)))
    v v'

-- What the functions ensure, of trees of at most so many levels

abbrev pub FiltersField : (levels : ℕ) (v v' : Walk) → Type 0
FiltersField levels v v' = (l : ℕ) (f : Field l) → l ≤ levels → LaidOut l f.data_type → FieldFiltered l f v v'

abbrev pub FiltersType : (levels : ℕ) (through : Bool) (v v' : Walk) (r : Bool) → Type 0
FiltersType levels through v v' r =
    (l : ℕ) (t : DataType l) → l ≤ levels → LaidOut l t → Stands v.sheet v.at (type_bytes l t) → TypeSifted l through t v v' r

-- a type that holds no fields, whose children are of so many levels, where none was looked through yet
abbrev pub FiltersEncoded : (code levels : ℕ) (v v' : Walk) (r : Bool) → Type 0
FiltersEncoded code levels v v' r =
    (l : ℕ) (t : DataType (suc l)) → l ≤ levels → code ≡ t.code → holds_fields code ≡ false → LaidOut (suc l) t → Stands v.sheet v.at (type_bytes (suc l) t)
    → TypeSifted (suc l) true t v v' r

-- a type at a place, and what stands before it from another on
abbrev pub FiltersInner : (inner levels : ℕ) (v v' : Walk) (r : Bool) → Type 0
FiltersInner inner levels v v' r =
    (l : ℕ) (t : DataType l) (a : Bytes) → l ≤ levels → LaidOut l t → inner ≡ v.at + length a → Stands v.sheet v.at (a ++ type_bytes l t)
    → InnerSifted l a t v v' r

-- a type that holds fields, whose children are of so many levels
abbrev pub FiltersNested : (code levels : ℕ) (v v' : Walk) → Type 0
FiltersNested code levels v v' =
    (l : ℕ) (t : DataType (suc l)) → l ≤ levels → code ≡ t.code → holds_fields code ≡ true → LaidOut (suc l) t → HolderFiltered l t v v'

-- its children
abbrev pub FiltersChildren : (code levels : ℕ) (v v' : Walk) → Type 0
FiltersChildren code levels v v' =
    (l : ℕ) (ks : List (Field l)) → l ≤ levels → holds_fields code ≡ true → CountFits (layout code).children ks → AllLaidOut l ks
    → KindFiltered l (layout code).children ks v v'

-- a count and as many children, with so many bytes before each
abbrev pub FiltersCounted : (before levels : ℕ) (v v' : Walk) → Type 0
FiltersCounted before levels v v' =
    (l : ℕ) (front : Head → Bytes) (ks : List (Field l)) → ((h : Head) → length (front h) ≡ before) → l ≤ levels → AllLaidOut l ks
    → CountedFiltered l front ks v v'

abbrev pub FiltersRow : (count before levels : ℕ) (v v' : Walk) (r : ℕ) → Type 0
FiltersRow count before levels v v' r =
    (l : ℕ) (front : Head → Bytes) (ks : List (Field l)) → ((h : Head) → length (front h) ≡ before) → l ≤ levels → length ks ≡ count → AllLaidOut l ks
    → ChildrenFiltered l front ks v 0 v' r

abbrev pub FiltersChild : (before levels : ℕ) (v v' : Walk) → Type 0
FiltersChild before levels v v' =
    (l : ℕ) (front : Head → Bytes) (f : Field l) → ((h : Head) → length (front h) ≡ before) → l ≤ levels → LaidOut l f.data_type
    → ChildFiltered l front f v v'

-- "Mask byte i keeps leaf i unless 0": bytes that are a leaf, up to a place
abbrev pub FiltersLeaf : (end : ℕ) (v v' : Walk) → Type 0
FiltersLeaf end v v' =
    (b : Bytes) → 1 ≤ length b → Skips v.sheet v.at b end → Filters b 1 (choose (eqb (get_or v.mask v.leaf 0) 0) (λ u. []) λ u. b) v v'

-- The sheet

-- in the same buffer, the bytes x are what was put in all, and n leaves were counted in all
pub record Kept (n : ℕ) (x : Bytes) (v v' : Walk) : Type 0 where
  pub leaves : v'.leaf ≡ n
  pub same_buffer : v'.out.buffer.ghost_name ≡ v.out.buffer.ghost_name
  pub begins : Begins v'.out x

-- of the columns cs these are left: their part stands behind the map, whose second bit says whether there is one, and the bytes m
abbrev pub ColumnsKept : (cs kept : List (Field max_levels)) (m : Bytes) (v v' : Walk) → Type 0
ColumnsKept cs kept m v v' =
    Kept (v.leaf + leaves_of_all max_levels cs)
    (choose (stands kept) (λ u. get_or v.sheet 0 0) (λ u. get_or v.sheet 0 0 % 2) ∷ (m ++ part (with_count column_bytes) kept)) v v'

-- so the walk does where the columns stand with their count, and the map with that bit and m are put
pub record FiltersColumns (v v' : Walk) : Type 0 where
  pub does : (cs : List (Field max_levels)) (m : Bytes) → AllLaidOut max_levels cs → Stands v.sheet v.at (with_count column_bytes cs) → Fair v
      → Begins v.out (get_or v.sheet 0 0 ∷ m) → ColumnsKept cs (filter_columns cs (drop v.leaf v.mask)).kept m v v'

-- the schema with the columns that are left
abbrev pub filtered : Schema → Bytes → Schema
filtered x mask = record { metadata = x.metadata; columns = (filter_columns x.columns mask).kept }

-- where a walk begins
abbrev pub start : (s mask : Bytes) → Output → Walk
start s mask o = record { sheet = s; mask = mask; at = 0; leaf = 0; out = o }

-- where the walk begins at the sheet of a schema, and there is room: the filtered sheet is put as the first, and the leaves are counted
pub record FiltersSheet (v v' : Walk) : Type 0 where
  pub does : (x : Schema) → WellFormedSchema x → v.sheet ≡ sheet_bytes x → length v.sheet ≤ max_sheet_bytes → length v.sheet ≤ length v.out.buffer.now → v ≡ start v.sheet v.mask v.out
      → v.out.written ≡ 0
      → Kept (leaf_count x) (sheet_bytes (filtered x v.mask)) v v'
