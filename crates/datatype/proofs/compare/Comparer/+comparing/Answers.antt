-- Types, fields, children, rows of them and union children. The levels left fall from a type to its children, and each function calls on one
-- that stands before it at equal levels.
use native.Mathlib.Omega.{arith}
use Rattle.layout.specs.Kinds.{children_of}
use Rattle.model.proofs.Whole.{whole_laid_out}
use Rattle.datatype.proofs.Rows.{rounds_begin, rounds_again, rounds_stop, rounds_last, rounds_none}
use Rattle.datatype.proofs.Children.{fields_heads, fields_types, pairs_types, pairs_fields, pairs_ids, pairs_members, order_fields, order_types, order_counts, order_rows, members_counts, members_every, kids_members, kids_order}
use Rattle.datatype.proofs.Members.{one_begin, one_again, one_found, one_none, each_begin, each_again, each_stop, each_done}
use Rattle.datatype.proofs.Types.{no_types, types_codes, types_plain, types_params, types_kids}
use Rattle.datatype.proofs.compare.Comparer.+comparing.Goals as goal

pub compare_child-returns-in-KeyAndValue : goal.compare_child-returns-in-KeyAndValue
compare_child-returns-in-KeyAndValue t c = pairs_types _ _ c.in-KeyAndValue.is c.compare_type.ensures

pub compare_child-returns-in-Fields : goal.compare_child-returns-in-Fields
compare_child-returns-in-Fields t c = pairs_fields _ _ c.in-Fields.is c.compare_field.ensures

pub compare_child-returns-then-byte : goal.compare_child-returns-then-byte
compare_child-returns-then-byte t c = pairs_ids _ _ c.in-CountedWithIds.is c.byte.ensures.0 c.byte-in-CountedWithIds.ensures.0 c.if-byte.true

pub compare_child-returns-else-byte : goal.compare_child-returns-else-byte
compare_child-returns-else-byte t c = pairs_members _ _ c.in-CountedWithIds.is c.byte.ensures.0 c.byte-in-CountedWithIds.ensures.0 c.if-byte.false c.ahead-own.ensures c.ahead-other.ensures c.compare_field-in-CountedWithIds.ensures

pub compare_children-returns-then-by_id : goal.compare_children-returns-then-by_id
compare_children-returns-then-by_id t c = kids_members _ _ _ c.by_id.ensures c.if-by_id.true c.compare_members.ensures

pub compare_children-returns : goal.compare_children-returns
compare_children-returns t c = kids_order _ _ _ c.by_id.ensures _ c.if-by_id.false c.children.ensures c.below-how.ensures c.compare_in_order.ensures

pub compare_field-returns-then-not-compare_head : goal.compare_field-returns-then-not-compare_head
compare_field-returns-then-not-compare_head t c = fields_heads _ c.if-not-compare_head.true c.compare_head.ensures

pub compare_field-returns : goal.compare_field-returns
compare_field-returns t c = fields_types _ c.if-not-compare_head.false c.compare_head.ensures c.skip_head-from.ensures c.skip_head-since.ensures c.compare_type.ensures

pub compare_in_order-returns-in-Fields : goal.compare_in_order-returns-in-Fields
compare_in_order-returns-in-Fields t c = order_fields _ _ c.in-Fields.is c.compare_row.ensures

pub compare_in_order-returns-in-KeyAndValue : goal.compare_in_order-returns-in-KeyAndValue
compare_in_order-returns-in-KeyAndValue t c = order_types _ _ c.in-KeyAndValue.is c.compare_row-in-KeyAndValue.ensures

pub compare_in_order-returns-then-own-others : goal.compare_in_order-returns-then-own-others
compare_in_order-returns-then-own-others t c = order_counts _ _ c.in-Counted.is c.counted-own.ensures.count c.counted-others.ensures.count c.if-own-others.true

pub compare_in_order-returns-else-own-others : goal.compare_in_order-returns-else-own-others
compare_in_order-returns-else-own-others t c = order_rows _ _ c.in-Counted.is c.counted-own.ensures.count c.counted-others.ensures.count c.if-own-others.false c.counted-own.ensures.at c.counted-others.ensures.at c.compare_row-in-Counted.ensures

pub compare_members-returns-then-not-counts_agree : goal.compare_members-returns-then-not-counts_agree
compare_members-returns-then-not-counts_agree t c = members_counts _ _ c.counted-own.ensures.count c.counted-others.ensures.count c.counts_agree.ensures c.if-not-counts_agree.true

pub compare_members-returns : goal.compare_members-returns
compare_members-returns t c = members_every _ _ c.counted-own.ensures.count c.counted-others.ensures.count c.counts_agree.ensures c.if-not-counts_agree.false c.counted-own.ensures.at c.counted-others.ensures.at c.every_member.ensures

pub compare_row-loop-init : goal.compare_row-loop-init
compare_row-loop-init t c = λ l h. rounds_begin _ _ _ _ _ _ _ _

pub compare_row-returns-then-not-compare_child : goal.compare_row-returns-then-not-compare_child
compare_row-returns-then-not-compare_child t c = λ l js ks h. rounds_stop _ _ _ _ _ (c.loop.invariant l h) c.loop-test.true (λ x y. c.compare_child.ensures l x y h) c.if-not-compare_child.true js ks

pub compare_row-loop-preserved : goal.compare_row-loop-preserved
compare_row-loop-preserved t c = λ l h. rounds_again _ _ _ _ _ (c.loop.invariant l h) c.loop-test.true (λ x y. c.compare_child.ensures l x y h) c.if-not-compare_child.false (λ x w. c.skip_child-place.ensures l x h (whole_laid_out l x.data_type w.1)) (λ y w. c.skip_child-other.ensures l y h (whole_laid_out l y.data_type w.1))

pub compare_row-returns-then-count-eq0 : goal.compare_row-returns-then-count-eq0
compare_row-returns-then-count-eq0 t c = λ l js ks h. rounds_none _ _ _ _ _ _ _ c.if-count-eq0.true js ks

pub compare_row-returns : goal.compare_row-returns
compare_row-returns t c = λ l js ks h. rounds_last _ _ _ _ _ (c.loop.invariant l h) (omega (arith, c.loop-test.false, c.if-count-eq0.false)) (λ x y. c.compare_child-2.ensures l x y h) js ks

pub compare_type-returns-then-levels-eq0 : goal.compare_type-returns-then-levels-eq0
compare_type-returns-then-levels-eq0 t c = no_types _ _ _ c.if-levels-eq0.true

pub compare_type-returns-then-code-byte : goal.compare_type-returns-then-code-byte
compare_type-returns-then-code-byte t c = types_codes _ _ c.byte-code.ensures.0 c.byte.ensures.0 c.if-code-byte.true

pub compare_type-returns-then-is_plain : goal.compare_type-returns-then-is_plain
compare_type-returns-then-is_plain t c = types_plain _ _ c.byte-code.ensures.0 c.byte.ensures.0 c.if-code-byte.false (c.is_plain.ensures.0 c.if-is_plain.true)

pub compare_type-returns-then-not-same_stretch : goal.compare_type-returns-then-not-same_stretch
compare_type-returns-then-not-same_stretch t c = types_params _ _ c.byte-code.ensures.0 c.byte.ensures.0 c.if-code-byte.false c.ahead-from.ensures c.ahead-since.ensures c.skip_params-first.ensures c.skip_params-other.ensures c.if-not-same_stretch.true c.same_stretch.ensures

pub compare_type-returns : goal.compare_type-returns
compare_type-returns t c = types_kids _ _ c.byte-code.ensures.0 c.byte.ensures.0 c.if-code-byte.false c.ahead-from.ensures c.ahead-since.ensures c.skip_params-first.ensures c.skip_params-other.ensures c.if-not-same_stretch.false c.same_stretch.ensures c.compare_children.ensures

pub every_member-loop-init : goal.every_member-loop-init
every_member-loop-init t c = each_begin _ _ _ _ _ _ _ _

pub every_member-returns-then-not-has_member : goal.every_member-returns-then-not-has_member
every_member-returns-then-not-has_member t c = each_stop _ _ _ _ c.loop.invariant c.loop-test.true c.has_member.ensures c.if-not-has_member.true

pub every_member-loop-preserved : goal.every_member-loop-preserved
unfolding children_of
every_member-loop-preserved t c = each_again _ _ _ _ c.loop.invariant c.loop-test.true c.has_member.ensures c.if-not-has_member.false c.skip_child-place.ensures

pub every_member-returns : goal.every_member-returns
every_member-returns t c = each_done _ _ _ _ c.loop.invariant c.loop-test.false

pub has_member-loop-init : goal.has_member-loop-init
has_member-loop-init t c = one_begin _ _ _ _ _ _ _

pub has_member-returns-then-compare_child : goal.has_member-returns-then-compare_child
unfolding children_of
has_member-returns-then-compare_child t c = one_found _ _ _ _ c.loop.invariant c.loop-test.true c.compare_child.ensures c.if-compare_child.true

pub has_member-loop-preserved : goal.has_member-loop-preserved
unfolding children_of
has_member-loop-preserved t c = one_again _ _ _ _ c.loop.invariant c.loop-test.true c.compare_child.ensures c.if-compare_child.false c.skip_child-place.ensures

pub has_member-returns : goal.has_member-returns
has_member-returns t c = one_none _ _ _ _ c.loop.invariant c.loop-test.false
