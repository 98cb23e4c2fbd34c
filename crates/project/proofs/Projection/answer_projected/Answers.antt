-- `answer_projected`: 30 or 31 by the answer's length, or the answer.
use mathlib.Core.Path.{refl}
use Rattle.project.proofs.Ends.{end_refused, end_accepted}
use Rattle.project.proofs.Projection.answer_projected.Goals as goal

pub returns-in-Err : goal.returns-in-Err
returns-in-Err c = end_refused _ c.put_projected-written.ensures _ c.length_fits.ensures c.in-Err.is c.refuse.ensures.0 c.refuse.ensures.1

pub returns-in-Ok : goal.returns-in-Ok
returns-in-Ok c = end_accepted _ c.put_projected-written.ensures _ c.length_fits.ensures c.in-Ok.is c.put_projected.ensures refl c.clear.ensures
