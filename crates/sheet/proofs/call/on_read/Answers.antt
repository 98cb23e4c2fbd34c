-- `on_read`: 32, the refusal of reading, or what is answered.
use mathlib.Core.Path.{refl}
use Rattle.buffer.proofs.Room.{room_enough}
use Rattle.buffer.proofs.Ends.{handed_up, call_short, call_refused, call_settled}
use Rattle.sheet.proofs.call.on_read.Goals as goal

pub answered-requires : goal.answered-requires
answered-requires g c = c.requires.answering _ c.in-Ok.ensures c.in_ok-fits.was _ _ refl

pub returns-in_err-fits : goal.returns-in_err-fits
returns-in_err-fits g c = λ given outcome e h k. call_short _ _ _ _ e c.in_err-fits.was (handed_up _ c.from_residual.ensures.1)

pub returns-in-Err : goal.returns-in-Err
returns-in-Err g c = λ given outcome e h k. call_refused _ _ _ _ e c.in_ok-fits.was (h _ c.in-Err.ensures) c.refuse.ensures.0 c.refuse.ensures.1

pub returns-in-Ok : goal.returns-in-Ok
returns-in-Ok g c = λ given outcome e h k. call_settled _ _ _ _ e c.in_ok-fits.was (k _ c.in-Ok.ensures _ _ _ _ _ (room_enough _ _ e c.in_ok-fits.was) c.answered.ensures)
