-- That containment is a preorder speaks of something.
use mathlib.Core.Path.{◌≡◌, refl}
use mathlib.Core.List.{[], ◌∷◌, ◌++◌}
use lib.Dec.{leb→le}
use Rattle.model.specs.Bytes.{Bytes}
use Rattle.model.specs.Call.{bytes, contains_answer, contains_call, zeros}
use Rattle.model.specs.Containment.{SaysYes}
use Rattle.model.specs.Examples as sheets
use Rattle.model.proofs.Trials.{opened}
use Rattle.model.proofs.Demand3Instances.{whole}
use Rattle.model.proofs.Containment.{containment_is_reflexive}

-- Three sheets of a column v, a nullable empty Union, Union{0 x:Int8} and Union{0 x:Int8, 1 y:Int8}, each of which contains the next (compare
-- P12). It is no equality: the last does not contain the first.

abbrev none : Bytes
none = sheets.one (sheets.nullable 0x76 (sheets.union 0 0 []))

abbrev one : Bytes
one = sheets.v (sheets.union 0 1 (0 ∷ sheets.field sheets.x sheets.int8))

abbrev two : Bytes
two = sheets.v (sheets.union 0 2 ((0 ∷ sheets.field sheets.x sheets.int8) ++ (1 ∷ sheets.field sheets.y sheets.int8)))

pub chain_answers :
    (contains_answer none one ≡ bytes (1 ∷ [])) × (contains_answer one two ≡ bytes (1 ∷ [])) × (contains_answer none two ≡ bytes (1 ∷ [])) × (contains_answer two none ≡ bytes (0 ∷ []))
unfolding opened
chain_answers = (refl, refl, refl, refl)

-- the call on the last of them and itself, with just enough room
pub itself_answered : SaysYes (contains_call two two (zeros 184) (zeros 1))
unfolding opened
itself_answered = containment_is_reflexive two (whole two refl refl) (zeros 184) (zeros 1) (leb→le 184 184 tt, leb→le 1 1 tt)
