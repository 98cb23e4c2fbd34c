-- `skip_dict_id`: it has eight bytes.
use Rattle.model.specs.Bytes.{u64}
use Rattle.walk.proofs.Standing.{skip_ahead}
use Rattle.walk.proofs.Parts.{length_u64}
use Rattle.walk.proofs.skip_dict_id.Goals as goal

pub returns : goal.returns
returns c = λ n. skip_ahead (u64 n) (length_u64 n) c.ahead.ensures.1
