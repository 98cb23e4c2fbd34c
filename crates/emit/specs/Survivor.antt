-- Which of two types survives where no nested merging is needed, and the part of some bytes that it is.
use Rattle.std.specs.Prelude.{ℕ, zero, suc, ◌≤◌, ◌≡◌, eqb}
use Rattle.model.specs.Bytes.{Bytes, choose}
use Rattle.model.specs.Tree.{DataType, Null}
use Rattle.model.specs.Sheet.{type_bytes}
use Rattle.model.specs.WellFormed.{LaidOut}
use Rattle.walk.specs.Stands.{Stands}

-- the accumulated type, unless it is Null: "The first Null takes the other's type"
unfoldable pub survivor : (l : ℕ) → DataType l → DataType l → DataType l
survivor zero a b = a
survivor (suc l) a b = choose (eqb a.code Null) (λ u. b) λ u. a

-- where s begins with a type of at most so many levels, the part is that type
abbrev pub IsFrontType : (s : Bytes) (levels : ℕ) (part : Bytes) → Type 0
IsFrontType s levels part = (l : ℕ) (t : DataType l) → l ≤ levels → LaidOut l t → Stands s 0 (type_bytes l t) → part ≡ type_bytes l t

-- where both begin with a type of at most so many levels, the part is the one that survives
abbrev pub IsSurvivor : (accumulated incoming : Bytes) (levels : ℕ) (part : Bytes) → Type 0
IsSurvivor accumulated incoming levels part =
    (l : ℕ) (a b : DataType l) → l ≤ levels → LaidOut l a → LaidOut l b → Stands accumulated 0 (type_bytes l a) → Stands incoming 0 (type_bytes l b)
    → part ≡ type_bytes l (survivor l a b)
