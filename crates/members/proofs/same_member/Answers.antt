-- `same_member`: the fields behind the ids.
use Rattle.members.proofs.Members.{members_same}
use Rattle.members.proofs.same_member.Goals as goal

pub returns : goal.returns
returns c = members_same c.ahead-field.ensures c.ahead-other.ensures c.same_field.ensures
