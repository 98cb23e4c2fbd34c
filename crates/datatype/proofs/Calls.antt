-- What a comparison of two sheets answers.
use Prim.Native.Nat.{ℕ}
use mathlib.Core.Path.{◌≡◌, refl, ap, ◌∙◌}
use mathlib.Core.List.{[], ◌∷◌}
use mathlib.Core.Bool.{Bool, true, false}
use mir.Val.{bool_byte}
use Rattle.model.specs.Bytes.{Bytes, flag}
use Rattle.model.specs.Call.{Exit, acceptance, yes_no, settled}

-- the byte of a yes or a no
pub bool_flag : (b : Bool) → bool_byte b ≡ flag 1 b
bool_flag true = refl
bool_flag false = refl

pub flag_settled : {b r : Bool} {v : ℕ} {exit : Exit} (work answer : Bytes) → r ≡ b → v ≡ bool_byte r → exit ≡ acceptance (v ∷ []) work answer → exit ≡ settled (yes_no b) work answer
unfolding yes_no settled
flag_settled {r = r} work answer e w h = h ∙ ap (λ n. acceptance (n ∷ []) work answer) (w ∙ bool_flag r ∙ ap (flag 1) e)
