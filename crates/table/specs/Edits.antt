-- The edits of the table: w is the work buffer before, w' after; `used` bytes of it are in use, and `used'` then.
use Rattle.std.specs.Prelude.{ℕ, ◌+◌, ◌≤◌, ◌<◌, ◌≡◌, [], ◌∷◌, length}
use Rattle.model.specs.Bytes.{Bytes}
use Rattle.table.specs.Held.{Held}
use Rattle.table.specs.Table.{raw, u24}

-- bytes over as many
abbrev pub Overwrites : (place : ℕ) (v w : Bytes) (used : ℕ) (w' : Bytes) → Type 0
Overwrites place v w used w' = (x y z : Bytes) → Held w used x y z → place ≡ length x → length y ≡ length v → Held w' used x v z

-- one byte over another
abbrev pub SetsByte : (place n : ℕ) (w : Bytes) (used : ℕ) (w' : Bytes) → Type 0
SetsByte place n w used w' = (x z : Bytes) (b : ℕ) → Held w used x (b ∷ []) z → place ≡ length x → n < 256 → Held w' used x (n ∷ []) z

-- a raw type over what stands for a type
abbrev pub TakesType : (place t : ℕ) (w : Bytes) (used : ℕ) (w' : Bytes) → Type 0
TakesType place t w used w' = (x y z : Bytes) → Held w used x y z → place ≡ length x → length y ≡ 4 → Held w' used x (raw ∷ u24 t) z

-- bytes are put in
abbrev pub Inserts : (place : ℕ) (v w : Bytes) (used : ℕ) (w' : Bytes) (used' : ℕ) → Type 0
Inserts place v w used w' used' = (x z : Bytes) → Held w used x [] z → place ≡ length x → used + length v ≤ length w → (used' ≡ used + length v) × Held w' used' x v z

-- a place of the train is put in
abbrev pub InsertsPlace : (place p : ℕ) (w : Bytes) (used : ℕ) (w' : Bytes) (used' : ℕ) → Type 0
InsertsPlace place p w used w' used' = (x z : Bytes) → Held w used x [] z → place ≡ length x → used + 3 ≤ length w → (used' ≡ used + 3) × Held w' used' x (u24 p) z
