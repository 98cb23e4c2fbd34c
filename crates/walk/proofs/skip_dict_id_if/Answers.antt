-- `skip_dict_id_if`: nothing stands for 0.
use Rattle.walk.proofs.Parts.{dict_id_if}
use Rattle.walk.proofs.skip_dict_id_if.Goals as goal

pub returns : goal.returns
returns c = dict_id_if _ c.skip_if.ensures.set c.skip_if.ensures.unset
