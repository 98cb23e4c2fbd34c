-- What a call gives and leaves, as the model's record of it.
use Rattle.std.specs.Prelude.{ℕ, Result, Ok, Err}
use Rattle.model.specs.Numbers.{accepted}
use Rattle.model.specs.Bytes.{Bytes}
use Rattle.model.specs.Call.{Exit}
use Rattle.buffer.specs.declared.refusal.Refusal.{Refusal}
use Rattle.buffer.specs.declared.Outcome.{Outcome}
use Rattle.buffer.specs.Refusals.{number_of}

-- the three numbers that an answer is: an acceptance has no place, and a refusal has no answer
abbrev pub outcome_of : Result ℕ Refusal → Outcome
outcome_of (Ok n) = record { number = accepted; place = 0; length = n }
outcome_of (Err r) = record { number = number_of r.0; place = r.1; length = 0 }

-- the outcome, the answer buffer's bytes and the work buffer's as the call returns
unfoldable pub leaves : Result ℕ Refusal → Bytes → Bytes → Exit
leaves r answer work = let o = outcome_of r in record { number = o.number; place = o.place; length = o.length; answer = answer; work = work }
