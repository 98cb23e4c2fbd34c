-- `same_or_clash`: a plain type is equal to the other of its code; of others plain equality decides.
use Rattle.table.proofs.Edited.{same_buffers}
use Rattle.field.proofs.Equal.{types_plain, types_equal, types_differ}
use Rattle.field.proofs.same_or_clash.Goals as goal

pub returns-then-is_plain : goal.returns-then-is_plain
returns-then-is_plain c = record { same = same_buffers; is = types_plain c.byte.ensures.0 (c.is_plain.ensures.0 c.if-is_plain.true) }

pub returns-then-same_type : goal.returns-then-same_type
returns-then-same_type c = record { same = same_buffers; is = types_equal c.place_at.ensures c.same_type.ensures c.if-same_type.true }

pub returns : goal.returns
returns c = record { same = same_buffers; is = types_differ c.place_at.ensures c.same_type.ensures c.if-same_type.false }
