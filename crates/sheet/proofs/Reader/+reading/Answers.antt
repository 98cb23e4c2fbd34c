use Rattle.std.proofs.Math.Nat.{sub-add-eq}
use mathlib.Core.Path.{sym, ◌∙◌}
use native.Mathlib.Nat.{sub-zero}
use Rattle.sheet.proofs.Ways.{ways, told_ok, told_err, item_stop, number_stop}
use Rattle.sheet.proofs.TreeWays.{field_way, type_way, children_way, fields_way, no_field_way, one_field_way, dictionary_way, many_done, many_stop, many_again}
use Rattle.sheet.proofs.Members.{members_begin, members_done, members_id_stop, members_field_stop, members_again, id_small}
use native.Mathlib.Omega.{arith}
use Rattle.model.specs.Bytes.{bit}
use Rattle.model.specs.Read.{read_children, read_list}
use Rattle.layout.specs.Kinds.{children_of}
use Rattle.sheet.specs.Shapes.{read_shape, no_ids}
use Rattle.sheet.proofs.Reader.+reading.Goals as goal

pub read_children-returns-in-Fields-eq0 : goal.read_children-returns-in-Fields-eq0
unfolding children_of
read_children-returns-in-Fields-eq0 t c = children_way _ _ _ _ _ _ _ c.in-Fields-eq0.ensures (no_field_way _ _ _ _ _ c.in-Fields-eq0.field-0-test)

pub read_children-returns-in-Fields-eq1 : goal.read_children-returns-in-Fields-eq1
unfolding children_of
read_children-returns-in-Fields-eq1 t c = children_way _ _ _ _ _ _ _ c.in-Fields-eq1.ensures (one_field_way _ _ _ _ _ _ c.in-Fields-eq1.field-0-test c.read_field.ensures)

pub read_children-returns-in-Fields : goal.read_children-returns-in-Fields
unfolding children_of
read_children-returns-in-Fields t c = children_way _ _ _ _ _ _ _ c.in-Fields.ensures (fields_way _ _ _ _ _ _ c.read_fields.ensures)

pub read_children-returns-in-KeyAndValue : goal.read_children-returns-in-KeyAndValue
unfolding children_of
read_children-returns-in-KeyAndValue t c = children_way _ _ _ _ _ _ _ c.in-KeyAndValue.ensures c.read_dictionary.ensures

pub read_children-returns-in-Counted : goal.read_children-returns-in-Counted
unfolding children_of
read_children-returns-in-Counted t c = children_way _ _ _ _ _ _ _ c.in-Counted.ensures c.read_struct.ensures

pub read_children-returns-in-CountedWithIds : goal.read_children-returns-in-CountedWithIds
unfolding children_of
read_children-returns-in-CountedWithIds t c = children_way _ _ _ _ _ _ _ c.in-CountedWithIds.ensures c.read_union.ensures

pub read_dictionary-returns-in_default : goal.read_dictionary-returns-in_default
read_dictionary-returns-in_default t c = search (dictionary_way, ways) depth 8

pub read_dictionary-returns : goal.read_dictionary-returns
read_dictionary-returns t c = search (dictionary_way, ways) depth 8

pub read_field-returns-in_err-map : goal.read_field-returns-in_err-map
unfolding bit
read_field-returns-in_err-map t c = field_way _ _ _ _ _ (number_stop _ _ _ _ _ _ _ _ c.read_byte.ensures c.in_err-map.was c.from_residual.ensures.1)

pub read_field-returns-then-levels-eq0 : goal.read_field-returns-then-levels-eq0
unfolding bit
read_field-returns-then-levels-eq0 t c = search (field_way, ways, c.in_ok-map.was) depth 12

pub read_field-returns-then-map-gt31 : goal.read_field-returns-then-map-gt31
unfolding bit
read_field-returns-then-map-gt31 t c = search (field_way, ways, c.in_ok-map.was, c.if-levels-eq0.false) depth 12

pub read_field-returns-in_default : goal.read_field-returns-in_default
unfolding bit
read_field-returns-in_default t c = search (field_way, ways, c.in_ok-map.was, c.if-levels-eq0.false) depth 12

pub read_field-returns-in_default-read : goal.read_field-returns-in_default-read
unfolding bit
read_field-returns-in_default-read t c = search (field_way, ways, c.in_ok-map.was, c.if-levels-eq0.false) depth 12

pub read_field-returns : goal.read_field-returns
unfolding bit
read_field-returns t c = sym (told_ok c.in-Ok-read.is) ∙ search (field_way, ways, c.in_ok-map.was, c.if-levels-eq0.false) depth 12

pub read_fields-returns-in_default : goal.read_fields-returns-in_default
read_fields-returns-in_default t c = many_stop _ _ _ _ c.loop.invariant (omega (arith, c.loop-test.true)) _ c.read_field-got.ensures _ _ (told_err c.in_default.is)

pub read_fields-loop-preserved : goal.read_fields-loop-preserved
read_fields-loop-preserved t c =
    rw (sub-add-eq c.args.count c.loop.counter 1) (many_again _ _ _ _ c.loop.invariant (omega (arith, c.loop-test.true)) _ c.read_field-got.ensures _ (told_ok c.in-Ok.is))

pub read_fields-returns : goal.read_fields-returns
read_fields-returns t c = many_done _ _ _ _ c.loop.invariant (omega (arith, c.loop-test.false))

pub read_members-loop-init : goal.read_members-loop-init
unfolding no_ids
read_members-loop-init t c = rw sub-zero (members_begin _ _ _ _ _)

pub read_members-returns-in_err-id : goal.read_members-returns-in_err-id
read_members-returns-in_err-id t c = members_id_stop _ _ _ _ _ _ _ c.loop.invariant (omega (arith, c.loop-test.true)) _ c.read_id.ensures _ _ c.in_err-id.was c.from_residual.ensures.1

pub read_members-returns-in_default : goal.read_members-returns-in_default
read_members-returns-in_default t c = members_field_stop _ _ _ _ _ _ _ c.loop.invariant (omega (arith, c.loop-test.true)) _ c.read_id.ensures _ _ c.in_ok-id.was _ c.read_field-got.ensures _ _ (told_err c.in_default.is)

pub read_members-bounds-used-id : goal.read_members-bounds-used-id
read_members-bounds-used-id t c = id_small _ _ _ _ _ _ _ c.read_id.ensures c.in_ok-id.was

pub read_members-loop-preserved : goal.read_members-loop-preserved
read_members-loop-preserved t c =
    rw (sub-add-eq c.args.count c.loop.counter 1) (members_again _ _ _ _ _ _ _ c.loop.invariant (omega (arith, c.loop-test.true)) _ c.read_id.ensures _ _ c.in_ok-id.was _ c.read_field-got.ensures _ (told_ok c.in-Ok.is))

pub read_members-returns : goal.read_members-returns
read_members-returns t c = members_done _ _ _ _ _ _ _ c.loop.invariant (omega (arith, c.loop-test.false))

pub read_shape-returns-in_default : goal.read_shape-returns-in_default
unfolding read_shape
read_shape-returns-in_default t c = search ways depth 8

pub read_shape-returns-in_default-children : goal.read_shape-returns-in_default-children
unfolding read_shape
read_shape-returns-in_default-children t c = search ways depth 8

pub read_shape-returns : goal.read_shape-returns
unfolding read_shape
read_shape-returns t c = sym (told_ok c.in-Ok-children.is) ∙ search ways depth 8

pub read_struct-returns-in_err-count : goal.read_struct-returns-in_err-count
unfolding read_children read_list
read_struct-returns-in_err-count t c = number_stop _ _ _ _ _ _ _ _ c.read_u16.ensures c.in_err-count.was c.from_residual.ensures.1

pub read_struct-returns : goal.read_struct-returns
unfolding read_children read_list
read_struct-returns t c = search (ways, c.in_ok-count.was) depth 8

pub read_type-returns-then-may_order : goal.read_type-returns-then-may_order
read_type-returns-then-may_order t c = search (type_way, ways, c.in_ok-code.was, c.if-levels-eq0.false) depth 12

pub read_type-returns : goal.read_type-returns
read_type-returns t c = search (type_way, ways, c.in_ok-code.was, c.if-levels-eq0.false) depth 12

pub read_type-returns-in_err-code : goal.read_type-returns-in_err-code
read_type-returns-in_err-code t c = type_way _ _ _ _ _ _ (item_stop _ _ _ _ c.read_byte.ensures c.in_err-code.was c.from_residual.ensures.1)

pub read_type-returns-then-levels-eq0 : goal.read_type-returns-then-levels-eq0
read_type-returns-then-levels-eq0 t c = search (type_way, ways, c.in_ok-code.was) depth 12

pub read_type-returns-then-code-gt-LAST_CODE : goal.read_type-returns-then-code-gt-LAST_CODE
read_type-returns-then-code-gt-LAST_CODE t c = search (type_way, ways, c.in_ok-code.was, c.if-levels-eq0.false) depth 12

pub read_union-returns-in_err-count : goal.read_union-returns-in_err-count
unfolding read_children read_list
read_union-returns-in_err-count t c = number_stop _ _ _ _ _ _ _ _ c.read_u16.ensures c.in_err-count.was c.from_residual.ensures.1

pub read_union-returns : goal.read_union-returns
unfolding read_children read_list
read_union-returns t c = search (ways, c.in_ok-count.was) depth 8
