-- Entries, types and rows. The levels left fall from a type to what it holds, and each function calls on one that stands before it at equal levels.
use Rattle.emit.proofs.Types.{type_raw, type_struct, type_list, type_union}
use mathlib.Core.Path.{refl}
use Rattle.table.proofs.OfKinds.{is_raw, is_struct, is_list, is_union}
use Rattle.emit.proofs.Rows.{entry_puts, emitting_begin, emitting_beyond, emitting_done, emitting_again, row_puts}
use Rattle.emit.proofs.Spelling.+putting.Goals as goal

pub put_entry-returns : goal.put_entry-returns
put_entry-returns t c = entry_puts _ c.put_head.ensures c.place_at-first.ensures.0 c.skip_head.ensures c.skip_head-own.ensures c.put_type.ensures

pub put_row-loop-place-init : goal.put_row-loop-place-init
put_row-loop-place-init t c = (tt, tt, emitting_begin _ _ _ _ _ (rw c.into_iter-place-iterator.ensures.into_iter_gives c.new-row.ensures))

pub put_row-loop-place-preserved : goal.put_row-loop-place-preserved
put_row-loop-place-preserved t c = (tt, tt, emitting_again _ _ _ _ _ c.loop-place.invariant.2 c.next.new.self c.in-Some.ensures.steps c.put_entry.ensures)

pub put_row-returns-then-out-gt-MAX_ANSWER_BYTES : goal.put_row-returns-then-out-gt-MAX_ANSWER_BYTES
put_row-returns-then-out-gt-MAX_ANSWER_BYTES t c =
    row_puts _ _ _ _ c.new-row.ensures c.count.ensures.ran c.put_two.ensures (emitting_beyond _ _ _ _ _ c.loop-place.invariant.2 c.if-out-gt-MAX_ANSWER_BYTES.true)

pub put_row-returns : goal.put_row-returns
put_row-returns t c = row_puts _ _ _ _ c.new-row.ensures c.count.ensures.ran c.put_two.ensures (emitting_done _ _ _ _ _ c.loop-place.invariant.2 c.next.new.self c.in-None.ensures.steps)

pub put_type-returns-in-Raw : goal.put_type-returns-in-Raw
put_type-returns-in-Raw t c = type_raw _ refl c.place_at-x.ensures.0 (is_raw c.kind_at.ensures c.in-Raw.is) c.put_raw.ensures

pub put_type-returns-in-OpenStruct : goal.put_type-returns-in-OpenStruct
put_type-returns-in-OpenStruct t c = type_struct _ refl c.place_at-x.ensures.0 c.ahead-inner.ensures c.put_copy.ensures (is_struct c.kind_at.ensures c.in-OpenStruct.is) c.put_row.ensures

pub put_type-returns-in-OpenList : goal.put_type-returns-in-OpenList
put_type-returns-in-OpenList t c = type_list _ refl c.place_at-x.ensures.0 c.ahead-inner.ensures c.put_copy-in-OpenList.ensures (is_list c.kind_at.ensures c.in-OpenList.is) c.put_entry.ensures

pub put_type-returns-in-OpenUnion : goal.put_type-returns-in-OpenUnion
put_type-returns-in-OpenUnion t c =
    let other = is_union c.kind_at.ensures c.in-OpenUnion.is in
    type_union _ refl c.place_at-x.ensures.0 c.ahead-inner.ensures c.put_copy-in-OpenUnion.ensures other.0 other.1 other.2 c.put_union.ensures
