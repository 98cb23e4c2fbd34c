-- New entries, and types that are opened to be merged into.
use Rattle.std.specs.Prelude.{ℕ, suc, ◌+◌, ◌*◌, ◌≤◌, ◌<◌, ◌≡◌, [], ◌∷◌, ◌++◌, ◌⊎◌, length, get_or}
use Rattle.model.specs.Bytes.{Bytes}
use Rattle.model.specs.Tree.{DataType, Field, List', LargeList}
use Rattle.model.specs.Sheet.{field_bytes, type_bytes}
use Rattle.table.specs.Held.{Held}
use Rattle.table.specs.Table.{no_place, no_entry, raw, u24, open_struct, open_list, SpellField}
use Rattle.table.specs.Becomes.{Incoming, Coded}

-- the entry of a field that came in, between x and z
pub record NewEntry (l : ℕ) (s : Bytes) (g : Field l) (w' : Bytes) (used : ℕ) (x z : Bytes) : Type 0 where
  pub bytes : Bytes
  pub spelt : SpellField l s (4 * length (field_bytes (type_bytes l) g)) bytes g
  pub held : Held w' used x bytes z

abbrev pub InsertsEntry : (place q : ℕ) (s w : Bytes) (used : ℕ) (w' : Bytes) (used' : ℕ) → Type 0
InsertsEntry place q s w used w' used' =
    (l : ℕ) (g : Field l) (x z : Bytes) → Incoming l s q g → Held w used x [] z → place ≡ length x → used + 8 ≤ length w → NewEntry l s g w' used' x z

-- a raw struct becomes an open one without children
abbrev pub OpensRow : (place : ℕ) (w : Bytes) (used : ℕ) (w' : Bytes) (used' : ℕ) → Type 0
OpensRow place w used w' used' =
    (x z : Bytes) (p : ℕ) → Held w used x (raw ∷ u24 p) z → place ≡ length x → used + 1 ≤ length w → Held w' used' x (open_struct ∷ (u24 p ++ (no_entry ∷ []))) z

-- a list or large list is opened
pub record OpenList (l : ℕ) (s : Bytes) (code k : ℕ) (y : Bytes) (c : Field l) : Type 0 where
  pub place : ℕ
  pub entry_bytes : Bytes
  pub entry_room : ℕ
  pub bytes : y ≡ open_list ∷ (u24 place ++ entry_bytes)
  pub small : place < no_place
  pub code_there : get_or s place 0 ≡ code
  pub entry : SpellField l s entry_room entry_bytes c
  pub room : 4 + entry_room ≤ k

pub record OpenedList (l : ℕ) (s : Bytes) (code k : ℕ) (a : DataType (suc l)) (w' : Bytes) (used : ℕ) (x z : Bytes) : Type 0 where
  pub child : Field l
  pub children : a.children ≡ child ∷ []
  pub params : a.params ≡ []
  pub spelt : Bytes
  pub opened : OpenList l s code k spelt child
  pub held : Held w' used x spelt z

abbrev pub OpensList : (place : ℕ) (s w : Bytes) (used : ℕ) (w' : Bytes) (used' : ℕ) → Type 0
OpensList place s w used w' used' =
    (l : ℕ) (first : DataType (suc l)) (code : ℕ) → (code ≡ List') ⊎ (code ≡ LargeList) → length s < no_place
    → (x y z : Bytes) (k : ℕ) (a : DataType (suc l)) → Held w used x y z → place ≡ length x → Coded l s first code k y a → length x + k + length z ≤ length w
    → OpenedList l s code k a w' used' x z
