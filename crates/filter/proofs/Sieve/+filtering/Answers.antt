-- Fields, types and their children. The levels left fall from a type to its children, and each function calls on one that stands before it at equal levels.
use native.Mathlib.Omega.{arith}
use native.Mathlib.Nat.{sub-zero}
use Rattle.filter.proofs.Fields.{field_nested, field_leaf, child_filtered}
use Rattle.filter.proofs.Rows.{kept_more, turns_begin, turns_again, turns_done, counted_none, counted_some}
use Rattle.filter.proofs.Types.{struct_filtered, union_filtered, others_filtered, nested_filtered, inner_filtered, dictionary_filtered, runs_filtered, others_encoded, type_held, type_leaf, type_encoded}
use Rattle.filter.proofs.Sieve.+filtering.Goals as goal

pub filter_child-returns : goal.filter_child-returns
filter_child-returns t c = child_filtered _ _ c.ahead-field.ensures c.copy_to.ensures c.filter_field.ensures c.take_back.ensures

pub filter_children-returns-in-32 : goal.filter_children-returns-in-32
filter_children-returns-in-32 t c = struct_filtered _ _ c.in-32.is c.filter_counted.ensures

pub filter_children-returns-in-33 : goal.filter_children-returns-in-33
filter_children-returns-in-33 t c = union_filtered _ _ c.in-33.is c.filter_counted-in-33.ensures

pub filter_children-returns-in_default : goal.filter_children-returns-in_default
filter_children-returns-in_default t c = others_filtered _ _ (λ e. omega (arith, e)) (λ e. omega (arith, e)) c.filter_field.ensures

pub filter_counted-returns-then-kept-ne0 : goal.filter_counted-returns-then-kept-ne0
filter_counted-returns-then-kept-ne0 t c = counted_some _ _ c.counted-children.ensures.at c.counted-children.ensures.count c.put_two.ensures c.filter_row-kept.ensures c.if-kept-ne0.true c.put_two-then-kept-ne0.ensures

pub filter_counted-returns-else-kept-ne0 : goal.filter_counted-returns-else-kept-ne0
filter_counted-returns-else-kept-ne0 t c = counted_none _ _ c.counted-children.ensures.at c.counted-children.ensures.count c.put_two.ensures c.filter_row-kept.ensures c.if-kept-ne0.false

pub filter_encoded-returns-then-code-eq-DICTIONARY : goal.filter_encoded-returns-then-code-eq-DICTIONARY
filter_encoded-returns-then-code-eq-DICTIONARY t c = dictionary_filtered _ _ c.if-code-eq-DICTIONARY.true c.ahead-first.ensures c.skip_type-value.ensures c.filter_inner.ensures

pub filter_encoded-returns-then-code-eq-RUN_END_ENCODED : goal.filter_encoded-returns-then-code-eq-RUN_END_ENCODED
filter_encoded-returns-then-code-eq-RUN_END_ENCODED t c = runs_filtered _ _ c.if-code-eq-RUN_END_ENCODED.true c.ahead-first.ensures c.skip_field-values.ensures c.skip_head-body.ensures c.filter_inner-then-code-eq-RUN_END_ENCODED.ensures

pub filter_encoded-returns : goal.filter_encoded-returns
filter_encoded-returns t c = others_encoded _ _ c.if-code-eq-DICTIONARY.false c.if-code-eq-RUN_END_ENCODED.false

pub filter_field-returns-then-filter_type : goal.filter_field-returns-then-filter_type
filter_field-returns-then-filter_type t c = field_nested _ c.skip_head-body.ensures c.copy_to.ensures c.filter_type.ensures c.if-filter_type.true c.take_back.ensures

pub filter_field-returns-else-filter_type : goal.filter_field-returns-else-filter_type
filter_field-returns-else-filter_type t c = field_leaf _ c.skip_head-body.ensures c.copy_to.ensures c.filter_type.ensures c.if-filter_type.false c.skip_type.ensures c.filter_leaf.ensures

pub filter_inner-returns : goal.filter_inner-returns
filter_inner-returns t c = inner_filtered _ c.copy_to.ensures c.filter_type-nested.ensures c.take_back.ensures

pub filter_nested-returns : goal.filter_nested-returns
filter_nested-returns t c = nested_filtered _ _ c.ahead-params.ensures c.skip_params-children.ensures c.copy_to.ensures c.filter_children.ensures c.take_back.ensures

pub filter_row-loop-init : goal.filter_row-loop-init
filter_row-loop-init t c = (omega arith, λ l front e h. rw sub-zero (turns_begin _ _))

pub filter_row-loop-preserved : goal.filter_row-loop-preserved
filter_row-loop-preserved t c =
    let more = kept_more _ c.from-kept.ensures in
    (omega (arith, c.loop.invariant.0, more.1), λ l front e h. turns_again _ _ (c.loop.invariant.1 l front e h) (omega (arith, c.loop-test.true)) (λ f z. c.filter_child.ensures l front f e h z) more.0)

pub filter_row-returns : goal.filter_row-returns
filter_row-returns t c = λ l front ks e h n z. turns_done _ _ (c.loop.invariant.1 l front e h) (omega (arith, c.loop-test.false)) ks n z

pub filter_type-returns-then-holds_fields : goal.filter_type-returns-then-holds_fields
filter_type-returns-then-holds_fields t c = type_held _ _ c.byte-code.ensures.0 c.holds_fields.ensures c.if-holds_fields.true c.filter_nested.ensures

pub filter_type-returns-then-not-through : goal.filter_type-returns-then-not-through
filter_type-returns-then-not-through t c = type_leaf _ _ c.byte-code.ensures.0 c.holds_fields.ensures c.if-holds_fields.false c.if-not-through.true

pub filter_type-returns : goal.filter_type-returns
filter_type-returns t c = type_encoded _ _ c.byte-code.ensures.0 c.holds_fields.ensures c.if-holds_fields.false c.if-not-through.false c.filter_encoded.ensures
