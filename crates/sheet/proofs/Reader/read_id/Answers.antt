use Rattle.sheet.proofs.Members.{id_stop, id_large, id_again, id_new}
use Rattle.sheet.proofs.Reader.read_id.Goals as goal

pub returns-in_err-id : goal.returns-in_err-id
returns-in_err-id c = id_stop _ _ _ _ _ c.read_byte.ensures _ _ c.in_err-id.was c.from_residual.ensures.1

pub returns-then-id-gt127 : goal.returns-then-id-gt127
returns-then-id-gt127 c = id_large _ _ _ _ _ c.read_byte.ensures _ _ c.in_ok-id.was c.if-id-gt127.true

pub returns-then-used-id : goal.returns-then-used-id
returns-then-used-id c = id_again _ _ _ _ _ c.read_byte.ensures _ _ c.in_ok-id.was c.if-id-gt127.false c.if-used-id.true

pub returns : goal.returns
returns c = id_new _ _ _ _ _ c.read_byte.ensures _ _ c.in_ok-id.was c.if-id-gt127.false c.if-used-id.false
