-- The children of a union in the table, and the search for one among them.
use Rattle.std.specs.Prelude.{ℕ, suc, ◌+◌, ◌≡◌, List, [], ◌∷◌, Bool, true, false, length, eqb}
use Rattle.model.specs.Bytes.{Bytes, Every, choose}
use Rattle.model.specs.Tree.{FieldOver, DataType, Field}
use Rattle.model.specs.Sheet.{each}
use Rattle.model.specs.WellFormed.{Whole}
use Rattle.model.specs.Equal.{same_field}
use Rattle.walk.specs.Stands.{Stands, member_bytes}
use Rattle.table.specs.Table.{Places}
use Rattle.members.specs.declared.Match.{Match}
use Rattle.members.specs.declared.Match.TheVariants.{SameId, OtherId, Missing}

-- a child whose bytes say everything of it
abbrev pub WholeChild : (l : ℕ) → Field l → Type 0
WholeChild l f = Whole l f.data_type

-- a row of the places of children
pub record Members (l : ℕ) (s : Bytes) (k : ℕ) (y : Bytes) (ks : List (Field l)) : Type 0 where
  pub places : Places s (member_bytes l) k y ks
  pub whole : Every (WholeChild l) ks

-- the children of a union of the train: how many, and where the first stands
pub record ChildrenAt (l : ℕ) (s : Bytes) (u : DataType (suc l)) (count first : ℕ) : Type 0 where
  pub counts : length u.children ≡ count
  pub stands : Stands s first (each (member_bytes l) u.children)

-- whether the equal child has the id
unfoldable pub by_id : Bool → Match
by_id true = SameId
by_id false = OtherId

-- the first child whose field is equal to f, in a row whose places stand from `place` on, three bytes each; or where the row ends
unfoldable pub first_equal : {T : Type 0} → (T → T → Bool) → FieldOver T → ℕ → List (FieldOver T) → Match
first_equal eq f place [] = Missing place
first_equal eq f place (g ∷ gs) =
    choose (same_field eq f g) (λ u. by_id (eqb g.head.type_id f.head.type_id)) λ u.
    first_equal eq f (place + 3) gs
