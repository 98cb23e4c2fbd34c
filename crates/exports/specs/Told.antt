-- What an export gives: the number as its result, place and length where the caller said, and both buffers.
use Rattle.std.specs.Prelude.{ℕ}
use Rattle.model.specs.Bytes.{Bytes}
use Rattle.model.specs.Call.{Exit}

unfoldable pub told : (number place length : ℕ) → (answer work : Bytes) → Exit
told number place length answer work = record { number = number; place = place; length = length; answer = answer; work = work }
