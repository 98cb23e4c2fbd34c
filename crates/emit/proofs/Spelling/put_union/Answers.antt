-- `put_union`: the mode, the count, then the children.
use Rattle.emit.proofs.Members.{union_puts}
use borrow.Author.Rules.{rules}
use Rattle.emit.proofs.Spelling.put_union.Goals as goal

pub returns : goal.returns
returns c = union_puts _ _ _ c.put_copy.ensures (λ place end small i l f h v. search rules) c.put_places.ensures
