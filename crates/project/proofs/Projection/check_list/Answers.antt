-- `check_list`: what is left of the entries is answered as the whole.
use Rattle.std.proofs.Common.{ap, ◌∙◌, arith}
use Rattle.std.specs.Prelude.{Err}
use Rattle.std.specs.Iterator.Adapters.{enumerate_source, enumerate_count}
use Rattle.std.specs.Slice.Iter.{chunks_exact_size, chunks_exact_rest}
use Rattle.buffer.specs.declared.refusal.Refusal.{Refusal}
use Rattle.buffer.specs.Refusals.{numbered}
use Rattle.project.proofs.Walk.{project_odd, cleared, walk_begin, walk_stop, walk_next, walk_end}
use Rattle.project.proofs.Projection.check_list.Goals as goal

pub returns-then-self-eq1 : goal.returns-then-self-eq1
returns-then-self-eq1 c = λ x n. ap (λ (r : Refusal). numbered {A = Unit} (Err r)) c.from.ensures ∙ project_odd _ _ _ c.if-self-eq1.true

pub loop-e-init : goal.loop-e-init
loop-e-init c =
    let e = c.into_iter-e-iterator.ensures.into_iter_gives in
    let items = c.enumerate-e-items.ensures in
    let source = ap enumerate_source e ∙ items.source in (
      ap chunks_exact_size source ∙ c.chunks_exact.ensures.size,
      walk_begin _ _ _ c.if-self-eq1.false (ap chunks_exact_rest source ∙ c.chunks_exact.ensures.rest) (ap enumerate_count e ∙ items.count) c.clear.ensures,
    )

pub loop-e-preserved : goal.loop-e-preserved
loop-e-preserved c =
    let ((size, (part, two), remainder), e, next, small) = c.in-Some.ensures.steps in
    let (is_two, walk) = c.loop-e.invariant in (
      size ∙ is_two,
      walk_next _ _ walk _ _ part (two ∙ is_two) c.two.ensures.0 e c.check_entry-checked.ensures.0 c.in-Ok.is c.check_entry-checked.ensures.1 next,
    )

pub returns-in_default : goal.returns-in_default
returns-in_default c =
    let ((size, (part, two), remainder), e, next, small) = c.in-Some.ensures.steps in
    let (is_two, walk) = c.loop-e.invariant in
    λ x n. walk_stop _ _ walk _ _ part (two ∙ is_two) c.two.ensures.0 e c.check_entry-checked.ensures.0 c.in_default.is x (n ∙ cleared _ c.clear.ensures)

pub returns : goal.returns
returns c = λ x n.
    let (is_two, walk) = c.loop-e.invariant in
    walk_end _ _ walk (omega (arith, c.in-None.ensures.steps)) x (n ∙ cleared _ c.clear.ensures)
