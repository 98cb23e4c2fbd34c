-- What the functions that merge unions promise: of each row of children and each part of the train that stand where they are told, of at most so
-- many levels. w is the work buffer before, w' after; `used` bytes of it are in use, and `used'` then.
use Rattle.std.specs.Prelude.{ℕ, suc, ◌+◌, ◌*◌, ◌≤◌, ◌<◌, ◌≡◌, List, [], ◌∷◌, ◌++◌, map, Bool, length, get_or}
use Rattle.model.specs.Bytes.{Bytes, Every, among}
use Rattle.model.specs.Numbers.{type_id_clash}
use Rattle.model.specs.Tree.{DataType, Field, Union, with_children}
use Rattle.model.specs.Sheet.{each, type_bytes}
use Rattle.model.specs.WellFormed.{WellFormedType}
use Rattle.model.specs.Equal.{same_field, same_type}
use Rattle.model.specs.Merge as model
use Rattle.model.specs.Merge.{◌>>=◌, need, pour, merge_child, ids_differ}
use Rattle.walk.specs.Stands.{Stands, member_bytes}
use Rattle.table.specs.Held.{Held}
use Rattle.table.specs.Table.{no_place, raw, open_union, u24, Refer, Places, RawAt, SpellType}
use Rattle.table.specs.Pours.{MergesOne, MergesMany}
use Rattle.table.specs.Becomes.{IncomingType, Becomes, Coded}
use Rattle.table.specs.Says.{Merged}
use Rattle.members.specs.declared.Match.{Match}
use Rattle.members.specs.Rows.{WholeChild, Members, ChildrenAt, first_equal}

-- Children of the train

-- the fields of two children
abbrev pub SameMembers : (s : Bytes) (a b levels : ℕ) → Bool → Type 0
SameMembers s a b levels r =
    (l : ℕ) (f g : Field l) → l ≤ levels → WholeChild l f → WholeChild l g → Stands s a (member_bytes l f) → Stands s b (member_bytes l g) → r ≡ same_field (same_type l) f g

-- those of a well-formed union that stands at a place
abbrev pub FindsChildren : (s : Bytes) (t count first : ℕ) → Type 0
FindsChildren s t count first =
    (l : ℕ) (o : Bool) (u : DataType (suc l)) → u.code ≡ Union → WellFormedType (suc l) o u → Stands s t (type_bytes (suc l) u) → ChildrenAt l s u count first

-- Searches in a row of children

abbrev pub FindsMember : (levels : ℕ) (s w : Bytes) (row q : ℕ) → Match → Type 0
FindsMember levels s w row q r =
    (l : ℕ) (f : Field l) → l ≤ levels → Stands s q (member_bytes l f) → WholeChild l f
    → (k : ℕ) (y : Bytes) (ks : List (Field l)) → Places s (member_bytes l) k y ks → Every (WholeChild l) ks → Stands w row y → r ≡ first_equal (same_type l) f row ks

abbrev pub FindsId : (s w : Bytes) (row id : ℕ) → Bool → Type 0
FindsId s w row id r = (l k : ℕ) (y : Bytes) (ks : List (Field l)) → Places s (member_bytes l) k y ks → Stands w row y → r ≡ among id (map (λ g. g.head.type_id) ks)

abbrev pub TellsIds : (s w : Bytes) (row : ℕ) → Bool → Type 0
TellsIds s w row r = (l k : ℕ) (y : Bytes) (ks : List (Field l)) → Places s (member_bytes l) k y ks → Stands w row y → r ≡ ids_differ ks

-- Merges into a row of children

-- the child that stands at q of the train
abbrev pub MergesMember : (levels row q : ℕ) (s w : Bytes) (used : ℕ) (w' : Bytes) → Merged → Type 0
MergesMember levels row q s w used w' r = (l : ℕ) → l ≤ levels → MergesOne (Members l s) (merge_child (same_type l)) (member_bytes l) (WholeChild l) s w used row q w' r

-- so many
abbrev pub MergesMembers : (levels row q count : ℕ) (s w : Bytes) (used : ℕ) (w' : Bytes) → Merged → Type 0
MergesMembers levels row q count s w used w' r = (l : ℕ) → l ≤ levels → MergesMany (Members l s) (merge_child (same_type l)) (member_bytes l) (WholeChild l) s w used row q count w' r

-- Unions that are opened

-- the places of children, between x and z
pub record Inserted (l : ℕ) (s : Bytes) (ks : List (Field l)) (w' : Bytes) (used : ℕ) (x z : Bytes) : Type 0 where
  pub places : List ℕ
  pub refer : Refer s (member_bytes l) places ks
  pub held : Held w' used x (each u24 places) z

abbrev pub InsertsMembers : (levels row q count : ℕ) (s w : Bytes) (used : ℕ) (w' : Bytes) (used' : ℕ) → Type 0
InsertsMembers levels row q count s w used w' used' =
    (l : ℕ) (ks : List (Field l)) (x z : Bytes) → l ≤ levels → length ks ≡ count → Every (WholeChild l) ks → Stands s q (each (member_bytes l) ks) → length s < no_place
    → Held w used x [] z → row ≡ length x → used + 3 * count ≤ length w → Inserted l s ks w' used' x z

-- between x and z stands an open union with the children of a, in at most k bytes
pub record OpenedUnion (l : ℕ) (s : Bytes) (k : ℕ) (a : DataType (suc l)) (w' : Bytes) (used : ℕ) (x z : Bytes) : Type 0 where
  pub place : ℕ
  pub row_bytes : Bytes
  pub row_room : ℕ
  pub small : place < no_place
  pub code : get_or s place 0 ≡ Union
  pub params : a.params ≡ get_or s (place + 1) 0 ∷ []
  pub row : Members l s row_room row_bytes a.children
  pub room : 4 + row_room ≤ k
  pub held : Held w' used x (open_union ∷ (u24 place ++ row_bytes)) z

-- a raw one
abbrev pub OpensRaw : (levels place own : ℕ) (s w : Bytes) (used : ℕ) (w' : Bytes) (used' : ℕ) → Type 0
OpensRaw levels place own s w used w' used' =
    (l : ℕ) (k : ℕ) (a : DataType (suc l)) (x z : Bytes) → l ≤ levels → length s < no_place → a.code ≡ Union → RawAt (suc l) s k own a
    → Held w used x (raw ∷ u24 own) z → place ≡ length x → length x + k + length z ≤ length w → OpenedUnion l s k a w' used' x z

-- raw or open
abbrev pub OpensUnion : (levels place : ℕ) (s w : Bytes) (used : ℕ) (w' : Bytes) (used' : ℕ) → Type 0
OpensUnion levels place s w used w' used' =
    (l : ℕ) (first : DataType (suc l)) → l ≤ levels → length s < no_place
    → (x y z : Bytes) (k : ℕ) (a : DataType (suc l)) → Held w used x y z → place ≡ length x → Coded l s first Union k y a → length x + k + length z ≤ length w
    → OpenedUnion l s k a w' used' x z

-- The merge of two unions

-- the Union arm of `merge_same_code`
abbrev pub merge_union : (l : ℕ) → DataType (suc l) → DataType (suc l) → model.Merged (DataType (suc l))
merge_union l a u = pour (merge_child (same_type l)) a.children u.children >>= λ ks. need (ids_differ ks) type_id_clash (with_children a ks)

abbrev pub MergesUnion : (levels place t : ℕ) (s w : Bytes) (used : ℕ) (w' : Bytes) → Merged → Type 0
MergesUnion levels place t s w used w' r =
    (l : ℕ) (first u : DataType (suc l)) → l ≤ levels → u.code ≡ Union → IncomingType (suc l) s t u
    → Becomes (Coded l s first Union) (SpellType (suc l) s first) w used place (4 * length (type_bytes (suc l) u)) w' r (λ a. merge_union l a u)
