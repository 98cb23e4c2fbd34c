-- `open_union`: it is open, or it is raw.
use Rattle.std.proofs.Common.{rules}
use Rattle.table.proofs.Edited.{same_buffers}
use Rattle.table.proofs.OfKinds.{is_union, not_union}
use Rattle.members.proofs.Opening.{union_open, union_opened}
use Rattle.members.proofs.open_union.Goals as goal

pub returns-then-eq : goal.returns-then-eq
returns-then-eq c = record { same = same_buffers; is = union_open (is_union c.kind_at.ensures (search rules)).0 }

pub returns : goal.returns
returns c = let o = c.open_raw.ensures in record { same = o.same; is = union_opened (not_union c.kind_at.ensures (search rules)) c.place_at-own.ensures o.is }
