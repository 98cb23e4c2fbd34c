-- `merge_member`: by the first equal child.
use Rattle.table.proofs.Edited.{same_buffers}
use Rattle.members.proofs.Merging.{merge_there, merge_clash, merge_new}
use Rattle.members.proofs.merge_member.Goals as goal

pub returns-in-SameId : goal.returns-in-SameId
returns-in-SameId c = record { same = same_buffers; is = merge_there c.find_member.ensures c.in-SameId.is }

pub returns-in-OtherId : goal.returns-in-OtherId
returns-in-OtherId c = record { same = same_buffers; is = merge_clash c.find_member.ensures c.in-OtherId.is }

pub returns-in-Missing : goal.returns-in-Missing
returns-in-Missing c = let i = c.insert_place.ensures in record { same = i.same; is = merge_new c.find_member.ensures c.in-Missing.is i.is }
