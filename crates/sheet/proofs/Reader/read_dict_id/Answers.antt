-- `read_dict_id`: eight bytes as they stand, of which not all are 0.
use Rattle.sheet.proofs.Ways.{dict_id_refused, dict_id_inside, dict_id_zero, dict_id_there}
use Rattle.sheet.proofs.Reader.read_dict_id.Goals as goal

pub returns-in_default : goal.returns-in_default
returns-in_default c = dict_id_refused _ _ _ c.read_raw-raw.ensures c.in_default.is

pub word-requires : goal.word-requires
word-requires c = dict_id_inside _ _ _ c.read_raw-raw.ensures c.in-Ok.is

pub returns-then-word-eq0 : goal.returns-then-word-eq0
returns-then-word-eq0 c = dict_id_zero _ _ _ c.read_raw-raw.ensures c.in-Ok.is c.word.ensures c.if-word-eq0.true

pub returns : goal.returns
returns c = dict_id_there _ _ _ c.read_raw-raw.ensures c.in-Ok.is c.word.ensures c.if-word-eq0.false
