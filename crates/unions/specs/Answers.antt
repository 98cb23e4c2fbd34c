-- What the answers of `unions` stand for: for each case document 01's number and values.
use Rattle.std.specs.Prelude.{ℕ, Option, Result, Ok, Err}
use Rattle.std.specs.Option.{option_map}
use Rattle.model.specs.Read.{Step, got, bad}
use Rattle.unions.specs.declared.Position.{Position}

-- a step without what was read: valid, or the number of its refusal and its place
abbrev pub checked_of : {A : Type 0} → Step A → Result Unit (ℕ × ℕ)
checked_of (got a e) = Ok tt
checked_of (bad n p) = Err (n, p)

-- a position in a list, or none: the code has a type of its own for positions
abbrev pub found_of : Option ℕ → Option Position
found_of r = option_map (λ i. record { 0 = i }) r
