-- `put_columns`: the columns of the entries passed are put.
use Rattle.std.proofs.Common.{ap, ◌∙◌, arith}
use Rattle.std.specs.Slice.Iter.{chunks_exact_size, chunks_exact_rest}
use Rattle.project.proofs.Putting.{putting_begin, putting_again, putting_beyond, putting_done}
use Rattle.project.proofs.Projection.put_columns.Goals as goal

pub loop-entry-preserved : goal.loop-entry-preserved
loop-entry-preserved c =
    let (size, (part, two), remainder) = c.in-Some.ensures.steps in
    let (is_two, put) = c.loop-entry.invariant in
    (size ∙ is_two, putting_again put _ part (two ∙ is_two) c.two-i.ensures.0 c.two-from.ensures.0 c.two-to.ensures.0 c.put_part.ensures)

pub loop-entry-init : goal.loop-entry-init
loop-entry-init c =
    let e = c.into_iter-entry-iterator.ensures.into_iter_gives in
    let items = c.chunks_exact-entry-items.ensures in
    (ap chunks_exact_size e ∙ items.size, putting_begin _ _ (ap chunks_exact_rest e ∙ items.rest))

pub returns-then-out-gt-MAX_ANSWER_BYTES : goal.returns-then-out-gt-MAX_ANSWER_BYTES
returns-then-out-gt-MAX_ANSWER_BYTES c = putting_beyond c.loop-entry.invariant.1 c.if-out-gt-MAX_ANSWER_BYTES.true

pub returns : goal.returns
returns c = putting_done c.loop-entry.invariant.1 (omega (arith, c.in-None.ensures.steps))
