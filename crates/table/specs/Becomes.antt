-- What comes in from the train, and what becomes of a part of the table when it is merged in.
use Rattle.std.specs.Prelude.{ℕ, suc, ◌+◌, ◌≤◌, ◌<◌, ◌≡◌, List, Bool, length}
use Rattle.model.specs.Bytes.{Bytes, Every}
use Rattle.model.specs.Tree.{DataType, Field}
use Rattle.model.specs.Sheet.{each, field_bytes, type_bytes}
use Rattle.model.specs.WellFormed.{WellFormedField, WellFormedType}
use Rattle.model.specs.Merge as model
use Rattle.walk.specs.Stands.{Stands}
use Rattle.table.specs.Held.{Held}
use Rattle.table.specs.Table.{no_place, SpellType}
use Rattle.table.specs.Says.{Merged, Says}

-- Incoming parts

pub record IncomingType (l : ℕ) (s : Bytes) (t : ℕ) (u : DataType l) : Type 0 where
  pub small : length s < no_place
  pub stands : Stands s t (type_bytes l u)
  pub ordered : Bool
  pub well_formed : WellFormedType l ordered u

pub record Incoming (l : ℕ) (s : Bytes) (q : ℕ) (g : Field l) : Type 0 where
  pub small : length s < no_place
  pub stands : Stands s q (field_bytes (type_bytes l) g)
  pub well_formed : WellFormedField (WellFormedType l) g
  pub type_id : g.head.type_id ≡ 0

-- so many fields, one behind the other
pub record IncomingFields (l : ℕ) (s : Bytes) (q count : ℕ) (gs : List (Field l)) : Type 0 where
  pub small : length s < no_place
  pub stands : Stands s q (each (field_bytes (type_bytes l)) gs)
  pub counted : length gs ≡ count
  pub well_formed : Every (λ g. WellFormedField (WellFormedType l) g × (g.head.type_id ≡ 0)) gs

-- what P spells at `place` becomes what Q spells, in at most so many bytes more
abbrev pub Becomes : {A B : Type 0} → (P : ℕ → Bytes → A → Type 0) (Q : ℕ → Bytes → B → Type 0) (w : Bytes) (used place more : ℕ) (w' : Bytes) → Merged → (A → model.Merged B) → Type 0
Becomes {A} P Q w used place more w' r m =
    (x y z : Bytes) (k : ℕ) (a : A) → Held w used x y z → place ≡ length x → P k y a → length x + (k + more) + length z ≤ length w → Says Q (k + more) x z w' r (m a)

-- a type of a code
abbrev pub Coded : (l : ℕ) (s : Bytes) (first : DataType (suc l)) (code k : ℕ) (y : Bytes) (a : DataType (suc l)) → Type 0
Coded l s first code k y a = SpellType (suc l) s first k y a × (a.code ≡ code)
