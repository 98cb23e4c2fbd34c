-- What is read of the list. The bytes that it gives come in their order; a byte that cannot be read is 0.
use Rattle.std.specs.Prelude.{ℕ, ◌^◌, ◌<◌, ◌≡◌, min, Option, List, [], ◌∷◌, ◌++◌, length, take, replicate}
use Rattle.std.specs.List.{flat_map}
use Rattle.std.specs.Int.{to_le_bytes, w16, w32}
use Rattle.std.specs.Io.KnownBytes.{Consumes}

-- the bytes that came, and a 0 for each that did not
pub data WithZeros : List ℕ → List ℕ → Type 0 where
  nothing : WithZeros [] []
  came : (x : ℕ) {xs ys : List ℕ} → WithZeros xs ys → WithZeros (x ∷ xs) (x ∷ ys)
  missing : {xs ys : List ℕ} → WithZeros xs ys → WithZeros xs (0 ∷ ys)

-- these bytes were read: the list lost those that came
abbrev pub Reads : Option (List ℕ) → Option (List ℕ) → List ℕ → Type 0
Reads old new bytes = (given : List ℕ) × Consumes old new given × WithZeros given bytes

-- a length of four bytes was read, and cut to the room
abbrev pub ReadsLength : Option (List ℕ) → Option (List ℕ) → (room cut : ℕ) → Type 0
ReadsLength old new room cut = (n : ℕ) × (n < 2 ^ 32) × Reads old new (to_le_bytes w32 n) × (cut ≡ min n room)

-- bytes as they stand in the list, and the byte that then comes so often; each of the two lengths has two bytes
pub record Piece : Type 0 where
  pub literal : List ℕ
  pub often : ℕ
  pub byte : ℕ
  pub literal_fits : length literal < 2 ^ 16
  pub often_fits : often < 2 ^ 16

abbrev pub stored : Piece → List ℕ
stored p = to_le_bytes w16 (length p.literal) ++ (p.literal ++ (to_le_bytes w16 p.often ++ (p.byte ∷ [])))

abbrev pub unfolded : Piece → List ℕ
unfolded p = p.literal ++ replicate p.often p.byte

-- a piece was read whole, and what it stands for cut to the room
abbrev pub ReadsPiece : Option (List ℕ) → Option (List ℕ) → (room : ℕ) → List ℕ → Type 0
ReadsPiece old new room bytes = (p : Piece) × Reads old new (stored p) × (bytes ≡ take room (unfolded p))

-- the same of pieces, behind their count of two bytes
abbrev pub ReadsPieces : Option (List ℕ) → Option (List ℕ) → (room : ℕ) → List ℕ → Type 0
ReadsPieces old new room bytes = (ps : List Piece) × (length ps < 2 ^ 16) × Reads old new (to_le_bytes w16 (length ps) ++ flat_map stored ps) × (bytes ≡ take room (flat_map unfolded ps))
