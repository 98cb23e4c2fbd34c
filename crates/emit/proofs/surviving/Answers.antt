-- `surviving`: by the code of the accumulated type.
use Rattle.emit.proofs.Survivors.{survives_incoming, survives_accumulated}
use Rattle.emit.proofs.surviving.Goals as goal

pub returns-then-byte-eq-NULL : goal.returns-then-byte-eq-NULL
returns-then-byte-eq-NULL c = survives_incoming c.byte.ensures.0 c.if-byte-eq-NULL.true c.front_type.ensures

pub returns : goal.returns
returns c = survives_accumulated c.byte.ensures.0 c.if-byte-eq-NULL.false c.front_type-2.ensures
