-- The places of a sheet's columns in the work buffer.
use Rattle.std.specs.Prelude.{ℕ, ◌+◌, ◌*◌, ◌<◌, ◌≡◌, List, length, get_or}
use Rattle.model.specs.Numbers.{max_levels}
use Rattle.model.specs.Bytes.{Bytes}
use Rattle.model.specs.Tree.{Field}
use Rattle.model.specs.Sheet.{each, column_bytes}
use Rattle.model.specs.Schema.{select}
use Rattle.walk.specs.Stands.{Stands}

-- entry i: two bytes, the lower one first
abbrev pub place_at : Bytes → ℕ → ℕ
place_at w i = get_or w (2 * i) 0 + 256 * get_or w (2 * i + 1) 0

-- the bytes of column i stand in the sheet from entry i on, up to entry i + 1
pub record Table (s w : Bytes) (fs : List (Field max_levels)) : Type 0 where
  pub stands : (i : ℕ) → i < length fs → Stands s (place_at w i) (each column_bytes (select fs i))
  pub ends : (i : ℕ) → i < length fs → place_at w (i + 1) ≡ place_at w i + length (each column_bytes (select fs i))
