-- What a call gave over C and left, as the model's record of it.
use Rattle.model.specs.Bytes.{Bytes}
use Rattle.model.specs.Call.{Exit}
use Rattle.buffer.specs.declared.Outcome.{Outcome}

-- the outcome, whatever its numbers are, the answer buffer's bytes and the work buffer's as the call returns
unfoldable pub exit_of : Outcome → Bytes → Bytes → Exit
exit_of o answer work = record { number = o.number; place = o.place; length = o.length; answer = answer; work = work }
