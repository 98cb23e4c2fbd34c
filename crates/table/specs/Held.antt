-- The part of the work buffer that is in use, and a stretch of it between what stands before and behind.
use Rattle.std.specs.Prelude.{ℕ, ◌≤◌, ◌≡◌, ◌++◌, length, take}
use Rattle.model.specs.Bytes.{Bytes}

-- of the work buffer w the first `used` bytes are in use: y, between x and z
pub record Held (w : Bytes) (used : ℕ) (x y z : Bytes) : Type 0 where
  pub fits : used ≤ length w
  pub is : take used w ≡ x ++ (y ++ z)
