-- How many bytes the parameters of a type take.
use Rattle.std.specs.Prelude.{ℕ, ◌+◌, List, [], ◌∷◌}
use Rattle.model.specs.Tree.{Params}
use Rattle.model.specs.Tree.Params.{items, timestamp}

-- the bytes that parameters take, a time stamp's without its zone
unfoldable pub widths : List (ℕ × ℕ) → ℕ
widths [] = 0
widths (p ∷ ps) = p.0 + widths ps

unfoldable pub width : Params → ℕ
width (items ps) = widths ps
width timestamp = 2
