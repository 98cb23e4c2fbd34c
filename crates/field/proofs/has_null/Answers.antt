-- `has_null`: the code of the entry's type, or that of the field's.
use borrow.Author.Tests.{eq-eqb}
use Rattle.field.proofs.Orders.{null_mine, null_theirs}
use Rattle.field.proofs.has_null.Goals as goal

pub returns-then-code_at-eq-NULL : goal.returns-then-code_at-eq-NULL
returns-then-code_at-eq-NULL c = let n = c.if-code_at-eq-NULL.true in rw (eq-eqb c.code_at.result 0 n) (null_mine c.skip_head.ensures c.code_at.ensures n)

pub returns-else-code_at-eq-NULL : goal.returns-else-code_at-eq-NULL
returns-else-code_at-eq-NULL c = null_theirs c.skip_head.ensures c.code_at.ensures c.if-code_at-eq-NULL.false c.skip_head-else-code_at-eq-NULL.ensures c.byte.ensures.0
