-- Entries, types and rows. The levels left fall from a type to what it holds, and each function calls on one that stands before it at equal levels.
use native.Mathlib.Omega.{arith}
use mathlib.Core.Path.{sym, ◌∙◌}
use Rattle.table.proofs.Entries.{entry_skips, no_level, types_raw, types_struct, types_list, types_union, none_at_end, none_past, none_passed}
use Rattle.table.proofs.Look.{skipping_begin, skipping_again, skipping_done}
use Rattle.table.proofs.OfKinds.{is_raw, is_struct, is_list, is_union}
use Rattle.table.proofs.+skipping.Goals as goal

pub skip_entry-returns : goal.skip_entry-returns
skip_entry-returns t c = λ l s k y f h e. entry_skips (c.skip_head.ensures l s k y f) (λ o j v t p. c.skip_type.ensures l s o j v t h p) e

pub skip_row-loop-place-init : goal.skip_row-loop-place-init
skip_row-loop-place-init t c = skipping_begin _ _

pub skip_row-returns-then-byte-eq-NO_ENTRY : goal.skip_row-returns-then-byte-eq-NO_ENTRY
skip_row-returns-then-byte-eq-NO_ENTRY t c = skipping_done _ c.loop-place.invariant (none_at_end _ (sym c.byte.ensures.0 ∙ c.if-byte-eq-NO_ENTRY.true)) λ e i. omega (arith, i, c.ahead.ensures.1)

pub skip_row-returns-then-next-place : goal.skip_row-returns-then-next-place
skip_row-returns-then-next-place t c = skipping_done _ c.loop-place.invariant (none_passed _ c.skip_entry-next.ensures c.if-next-place.true) λ e i. absurd (c.if-byte-eq-NO_ENTRY.false (c.byte.ensures.0 ∙ e))

pub skip_row-loop-place-smaller : goal.skip_row-loop-place-smaller
skip_row-loop-place-smaller t c = omega (arith, c.loop-place-test.true, c.if-next-place.false)

pub skip_row-loop-place-preserved : goal.skip_row-loop-place-preserved
skip_row-loop-place-preserved t c = skipping_again _ c.loop-place.invariant c.byte.ensures.0 c.if-byte-eq-NO_ENTRY.false c.skip_entry-next.ensures

pub skip_row-returns : goal.skip_row-returns
skip_row-returns t c = skipping_done _ c.loop-place.invariant (none_past _ c.loop-place-test.false) λ e i. omega (arith, i, c.loop-place-test.false)

pub skip_type-returns-then-levels-le0 : goal.skip_type-returns-then-levels-le0
skip_type-returns-then-levels-le0 t c = no_level _ _ c.if-levels-le0.true

pub skip_type-returns-in-Raw : goal.skip_type-returns-in-Raw
skip_type-returns-in-Raw t c = types_raw _ c.ahead-inner.ensures (is_raw c.kind_at.ensures c.in-Raw.is)

pub skip_type-returns-in-OpenStruct : goal.skip_type-returns-in-OpenStruct
skip_type-returns-in-OpenStruct t c = types_struct _ c.ahead-inner.ensures (is_struct c.kind_at.ensures c.in-OpenStruct.is) c.skip_row.ensures

pub skip_type-returns-in-OpenList : goal.skip_type-returns-in-OpenList
skip_type-returns-in-OpenList t c = types_list _ c.ahead-inner.ensures (is_list c.kind_at.ensures c.in-OpenList.is) c.skip_entry.ensures

pub skip_type-returns-in-OpenUnion : goal.skip_type-returns-in-OpenUnion
skip_type-returns-in-OpenUnion t c = types_union _ c.ahead-inner.ensures (is_union c.kind_at.ensures c.in-OpenUnion.is) c.skip_places.ensures
