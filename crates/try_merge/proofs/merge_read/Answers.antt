-- `merge_read`: an empty train apart.
use mathlib.Core.Path.{sym, ◌∙◌}
use Rattle.std.proofs.lemmas.Bool.{eqb-true, eqb-false}
use native.Mathlib.Omega.{arith}
use Rattle.try_merge.proofs.Calls.{none_merged}
use Rattle.try_merge.proofs.merge_read.Goals as goal

pub returns-then-is_empty : goal.returns-then-is_empty
returns-then-is_empty c = λ xs e f k room. none_merged _ _ _ _ _ (eqb-true _ _ (sym c.is_empty.ensures ∙ c.if-is_empty.true)) c.accept_byte.ensures xs e

pub returns : goal.returns
returns c = λ xs e f k room. c.answer_merged.ensures xs e f k (omega (arith, eqb-false _ _ (sym c.is_empty.ensures ∙ c.if-is_empty.false))) room
