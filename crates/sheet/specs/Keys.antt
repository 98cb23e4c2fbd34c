-- The reading of keys and values, in which the key before is all that is kept of what was read.
use Rattle.std.specs.Prelude.{ℕ, zero, suc, List, [], Bool, true, Option, Some, None, take, drop}
use Rattle.model.specs.Numbers.{key_not_above}
use Rattle.model.specs.Bytes.{Bytes, below}
use Rattle.model.specs.Read.{Step, got, next, judged, unless, read_text}

-- so many bytes from a place on
abbrev pub part : Bytes → ℕ → ℕ → Bytes
part s place n = take n (drop place s)

-- a key is above the one before it, if there is one
unfoldable pub is_above : Option Bytes → Bytes → Bool
is_above None k = true
is_above (Some before) k = below before k

-- a key, after a key before it or none
unfoldable pub read_key : Bytes → ℕ → Option Bytes → ℕ → Step Bytes
read_key s lim before place =
    next (read_text s lim 0 place) λ k m.
    judged (unless (is_above before k) key_not_above) place k m

-- so many pairs; what they hold is forgotten
unfoldable pub read_pairs : Bytes → ℕ → Option Bytes → ℕ → ℕ → Step (List Bytes)
read_pairs s lim before zero place = got [] place
read_pairs s lim before (suc n) place =
    next (read_key s lim before place) λ k m.
    next (read_text s lim 0 m) λ v e.
    read_pairs s lim (Some k) n e
