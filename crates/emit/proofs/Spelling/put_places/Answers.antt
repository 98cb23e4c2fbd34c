-- `put_places`: one part after the other, up to the end of the row.
use Rattle.emit.proofs.Copies.{copying_begin, copying_again, copying_beyond, copying_done, places_put}
use Rattle.emit.proofs.Spelling.put_places.Goals as goal

pub loop-place-init : goal.loop-place-init
loop-place-init g c = (tt, tt, copying_begin _ _ _ _ _ (rw c.into_iter-place-iterator.ensures.into_iter_gives c.new-row.ensures))

pub loop-place-preserved : goal.loop-place-preserved
loop-place-preserved g c =
    (tt, tt, copying_again _ _ _ _ _ c.loop-place.invariant.2 c.next.new.self c.in-Some.ensures.steps c.skip.ensures c.put_part.ensures)

pub returns-then-out-gt-MAX_ANSWER_BYTES : goal.returns-then-out-gt-MAX_ANSWER_BYTES
returns-then-out-gt-MAX_ANSWER_BYTES g c =
    places_put _ _ _ _ c.new-row.ensures c.count.ensures.ran c.put_two.ensures (copying_beyond _ _ _ _ _ c.loop-place.invariant.2 c.if-out-gt-MAX_ANSWER_BYTES.true)

pub returns : goal.returns
returns g c =
    places_put _ _ _ _ c.new-row.ensures c.count.ensures.ran c.put_two.ensures (copying_done _ _ _ _ _ c.loop-place.invariant.2 c.next.new.self c.in-None.ensures.steps)
