-- A field, its type, and what the type holds. The levels left fall from a type to what it holds, and each function calls on one that stands before it at equal levels.
use native.Mathlib.Omega.{arith}
use Rattle.field.proofs.Fields.{rest_merged, field_ordered, field_stopped, field_merged}
use Rattle.field.proofs.Types.{type_taken, type_kept, type_clash_lem, type_same, no_level, same_struct, same_union, same_list, same_other}
use Rattle.field.proofs.Lists.{list_merged}
use Rattle.field.proofs.Structs.{struct_open, struct_poured, struct_stopped, struct_merged}
use Rattle.field.proofs.Rows.{put_there, put_clash, put_absent}
use Rattle.field.proofs.Pouring.{pouring_begin, pouring_again, pouring_stop, pouring_done}
use Rattle.std.proofs.Common.{rules}
use Rattle.table.proofs.Edited.{same_buffers, edits_on, merges_on, merges_there, rewritten, went, stopped, handed_up, clashed}
use Rattle.table.proofs.OfKinds.{is_struct, not_struct}
use Rattle.field.proofs.+merging.Goals as goal

pub merge_field-returns-then-not-orders_agree : goal.merge_field-returns-then-not-orders_agree
merge_field-returns-then-not-orders_agree t c = record { same = same_buffers; is = field_ordered _ c.orders_agree.ensures c.if-not-orders_agree.true }

pub merge_field-returns-in_err-merge_metadata : goal.merge_field-returns-in_err-merge_metadata
merge_field-returns-in_err-merge_metadata t c =
    let m = c.merge_metadata.ensures in
    let e = c.in_err-merge_metadata.was in
    handed_up e c.from_residual.ensures.1 (record { same = m.same; is = field_stopped _ c.orders_agree.ensures c.if-not-orders_agree.false m.same.size m.is (stopped m e) })

pub merge_field-returns : goal.merge_field-returns
merge_field-returns t c =
    let m = c.merge_metadata.ensures in
    let (same, rest) = merges_on m.same c.merge_rest.ensures in
    record { same = same; is = field_merged _ c.orders_agree.ensures c.if-not-orders_agree.false m.same.size m.is (went m c.in_ok-merge_metadata.was) rest }

pub merge_list-returns : goal.merge_list-returns
merge_list-returns t c =
    let o = c.open_list.ensures in
    let (same, m) = merges_on o.same c.merge_field.ensures in
    record { same = same; is = list_merged _ c.ahead-inner.ensures o.same.size o.is c.ahead-child.ensures m }

pub merge_rest-returns : goal.merge_rest-returns
merge_rest-returns t c =
    let f = c.set_flags.ensures in
    let (same, m) = merges_there f c.merge_type.ensures in
    record { same = same; is = rest_merged _ c.skip_head-b.ensures c.skip_head-t.ensures f.same.size f.is m }

pub merge_same_code-returns-then-levels-le0 : goal.merge_same_code-returns-then-levels-le0
merge_same_code-returns-then-levels-le0 t c = record { same = same_buffers; is = no_level _ c.if-levels-le0.true }

pub merge_same_code-returns-in-32 : goal.merge_same_code-returns-in-32
merge_same_code-returns-in-32 t c = let m = c.merge_struct.ensures in record { same = m.same; is = same_struct _ c.in-32.is m.is }

pub merge_same_code-returns-in-33 : goal.merge_same_code-returns-in-33
merge_same_code-returns-in-33 t c = let m = c.merge_union.ensures in record { same = m.same; is = same_union _ _ _ c.in-33.is m.is }

pub merge_same_code-returns-in-27 : goal.merge_same_code-returns-in-27
merge_same_code-returns-in-27 t c = let m = c.merge_list.ensures in record { same = m.same; is = same_list _ c.in-27.is m.is }

pub merge_same_code-returns-in_default : goal.merge_same_code-returns-in_default
merge_same_code-returns-in_default t c =
    let m = c.same_or_clash.ensures in
    record { same = m.same; is = same_other _ (λ e. omega (arith, e)) (λ e. omega (arith, e)) (λ h. grind (arith, h)) m.is }

pub merge_struct-returns-in_err-pour_own : goal.merge_struct-returns-in_err-pour_own
merge_struct-returns-in_err-pour_own t c =
    let o = c.pour_own.ensures in
    let e = c.in_err-pour_own.was in
    handed_up e c.from_residual.ensures.1 (record { same = o.same; is = struct_stopped _ c.ahead-inner.ensures o.same.size o.is (stopped o e) })

pub merge_struct-returns : goal.merge_struct-returns
merge_struct-returns t c =
    let o = c.pour_own.ensures in
    let (same, p) = merges_on o.same c.pour.ensures in
    let children = c.counted-children.ensures in
    record { same = same; is = struct_merged _ c.ahead-inner.ensures o.same.size o.is (went o c.in_ok-pour_own.was) c.ahead.ensures children.count children.at p }

pub merge_type-returns-then-mine-eq-NULL : goal.merge_type-returns-then-mine-eq-NULL
merge_type-returns-then-mine-eq-NULL t c = let b = c.take_type.ensures in rewritten b (type_taken _ c.code_at-mine.ensures c.byte-theirs.ensures.0 c.if-mine-eq-NULL.true b.is)

pub merge_type-returns-then-theirs-eq-NULL : goal.merge_type-returns-then-theirs-eq-NULL
merge_type-returns-then-theirs-eq-NULL t c = record { same = same_buffers; is = type_kept _ c.code_at-mine.ensures c.byte-theirs.ensures.0 c.if-mine-eq-NULL.false c.if-theirs-eq-NULL.true }

pub merge_type-returns-then-mine-theirs : goal.merge_type-returns-then-mine-theirs
merge_type-returns-then-mine-theirs t c =
    record { same = same_buffers; is = type_clash_lem _ c.code_at-mine.ensures c.byte-theirs.ensures.0 c.if-mine-eq-NULL.false c.if-theirs-eq-NULL.false c.if-mine-theirs.true }

pub merge_type-returns : goal.merge_type-returns
merge_type-returns t c =
    let m = c.merge_same_code.ensures in
    record { same = m.same; is = type_same _ c.code_at-mine.ensures c.byte-theirs.ensures.0 c.if-mine-eq-NULL.false c.if-theirs-eq-NULL.false c.if-mine-theirs.false m.is }

pub pour-loop-init : goal.pour-loop-init
pour-loop-init t c = (same_buffers, pouring_begin _ _ _ _ _ _ _ _ (omega arith))

pub pour-loop-preserved : goal.pour-loop-preserved
pour-loop-preserved t c =
    let (same, k) = c.loop.invariant in
    let p = c.put.ensures in
    let (on, puts) = edits_on same p in
    (on, pouring_again k c.put.new.table.w.now c.put.new.table.used (omega arith) puts p.same.size c.in_ok-hint.was c.skip_field-place.ensures (omega arith))

pub pour-returns-in_err-hint : goal.pour-returns-in_err-hint
pour-returns-in_err-hint t c =
    let (same, k) = c.loop.invariant in
    let p = c.put.ensures in
    let (on, puts) = edits_on same p in
    clashed _ c.from_residual.ensures.1 on (pouring_stop k c.put.new.table.w.now c.put.new.table.used (omega arith) puts c.in_err-hint.was)

pub pour-returns : goal.pour-returns
pour-returns t c = let (same, k) = c.loop.invariant in record { same = same; is = pouring_done k (omega arith) }

pub pour_own-returns-then-eq : goal.pour_own-returns-then-eq
pour_own-returns-then-eq t c = record { same = same_buffers; is = struct_open _ (is_struct c.kind_at.ensures (search rules)) }

pub pour_own-returns : goal.pour_own-returns
pour_own-returns t c =
    let o = c.open_struct.ensures in
    let (same, p) = merges_on o.same c.pour.ensures in
    let children = c.counted-children.ensures in
    record {
      same = same;
      is = struct_poured _ (not_struct c.kind_at.ensures (search rules)) c.place_at.ensures c.ahead-inner.ensures c.ahead.ensures children.count o.same.size o.is children.at p;
    }

pub put-returns-in_ok-merge_field-in-Ok : goal.put-returns-in_ok-merge_field-in-Ok
put-returns-in_ok-merge_field-in-Ok t c =
    let m = c.merge_field.ensures in
    record { same = m.same; is = put_there _ c.find.ensures c.in-Ok.is m.same.size m.is (went m c.in_ok-merge_field-in-Ok.was) c.next_entry.ensures }

pub put-returns-in_err-merge_field-in-Ok : goal.put-returns-in_err-merge_field-in-Ok
put-returns-in_err-merge_field-in-Ok t c =
    let m = c.merge_field.ensures in
    record { same = m.same; is = put_clash _ c.find.ensures c.merge_field.new.table.used c.from_residual.result c.in-Ok.is m.same.size m.is (stopped m c.in_err-merge_field-in-Ok.was) c.from_residual.ensures.1 }

pub put-returns-in-Err : goal.put-returns-in-Err
put-returns-in-Err t c = let i = c.insert_entry.ensures in record { same = i.same; is = put_absent _ c.find.ensures c.in-Err.is i.same.size i.is }
