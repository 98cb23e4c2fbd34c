-- A place in a row of pairs.
use Rattle.std.specs.Prelude.{ℕ, ◌+◌, ◌≡◌, List, [], ◌∷◌, ◌++◌, true, false, length}
use Rattle.model.specs.Bytes.{Bytes, Metadata, Every, below}
use Rattle.model.specs.Sheet.{each, pair_bytes}
use Rattle.table.specs.Table.{u24, places_bytes, Refer}

-- the first pair, if there is one, is not below a key
abbrev pub NotBelow : Metadata → Bytes → Type 0
NotBelow [] key = Unit {0}
NotBelow (q ∷ qs) key = below q.0 key ≡ false

-- a place in a row of pairs that stands from `row` on: some pairs stand before it, the others from it on
pub record Cut (s : Bytes) (row : ℕ) (y : Bytes) (m : Metadata) (place : ℕ) : Type 0 where
  pub before_places : List ℕ
  pub after_places : List ℕ
  pub before : Metadata
  pub after : Metadata
  pub pairs : m ≡ before ++ after
  pub bytes : y ≡ each u24 before_places ++ places_bytes after_places
  pub refer_before : Refer s pair_bytes before_places before
  pub refer_after : Refer s pair_bytes after_places after
  pub stands : place ≡ row + length (each u24 before_places)

-- the place where a key belongs: the pairs before it are below the key, the first from it on is not
pub record Spot (s : Bytes) (row : ℕ) (y : Bytes) (m : Metadata) (key : Bytes) (place : ℕ) : Type 0 where
  pub cut : Cut s row y m place
  pub lower : Every (λ q. below q.0 key ≡ true) cut.before
  pub rest : NotBelow cut.after key
