-- `find_children`: behind code, mode and count.
use Rattle.members.proofs.Members.{children_found}
use Rattle.members.proofs.find_children.Goals as goal

pub returns : goal.returns
returns c = let e = c.counted.ensures in children_found c.ahead.ensures e.count e.at
