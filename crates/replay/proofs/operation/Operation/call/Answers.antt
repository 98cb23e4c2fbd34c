-- `Operation::call`: the two calls on unions, which have no work buffer.
use Rattle.replay.proofs.Kept.{kept}
use Rattle.replay.proofs.operation.Operation.call.Goals as goal

pub returns-in-TryNew : goal.returns-in-TryNew
returns-in-TryNew c = rw c.in-TryNew.is (kept _ c.args.work.now _ c.try_new.ensures)

pub returns-in-TryFromFields : goal.returns-in-TryFromFields
returns-in-TryFromFields c = rw c.in-TryFromFields.is (kept _ c.args.work.now _ c.try_from_fields.ensures)
