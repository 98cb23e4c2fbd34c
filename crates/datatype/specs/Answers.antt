-- What a look-up asks of the test that it is given.
use Rattle.std.specs.Prelude.{ℕ, ◌≡◌, Bool}
use Rattle.model.specs.Bytes.{Bytes}
use Rattle.model.specs.Tree.{Field}
use Rattle.walk.specs.Stands.{Stands, member_bytes}

-- a call at the place of a union child answers as the test of the child does
abbrev pub TestedBy : (answers : ℕ → Bool → Type 0) → Bytes → (l : ℕ) → (Field l → Bool) → Field l → Type 0
TestedBy answers s l test k = (place : ℕ) (r : Bool) → Stands s place (member_bytes l k) → answers place r → r ≡ test k
