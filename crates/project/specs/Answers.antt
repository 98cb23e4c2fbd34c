-- What a check answers, by document 01's number and place.
use Rattle.std.specs.Prelude.{ℕ, zero, suc, Result, Ok, Err}
use Rattle.model.specs.Read.{Step, got, bad}

-- a step: 0, or the number of its refusal at its place
abbrev pub checked_of : {A : Type 0} → Step A → Result Unit (ℕ × ℕ)
checked_of (got a e) = Ok tt
checked_of (bad n p) = Err (n, p)

-- a verdict on an entry: 0, or the number of its refusal at the entry's place
abbrev pub verdict_of : ℕ → ℕ → Result Unit (ℕ × ℕ)
verdict_of zero place = Ok tt
verdict_of (suc n) place = Err (suc n, place)
