-- Fields, types and their children. The levels left fall from a type to its children, and each function calls on one that stands before it at equal levels.
use Rattle.schema.proofs.Writing.{turns_begin, turns_again, turns_done}
use Rattle.schema.proofs.Walked.{field_walked, type_walked, field_behind, dictionary_walked, runs_walked, struct_walked, union_walked, others_walked}
use Rattle.schema.proofs.+flattening.Goals as goal

pub flatten_children-returns-then-code-eq-RUN_END_ENCODED : goal.flatten_children-returns-then-code-eq-RUN_END_ENCODED
flatten_children-returns-then-code-eq-RUN_END_ENCODED t c = runs_walked _ _ c.if-code-eq-RUN_END_ENCODED.true c.skip_field-values.ensures c.flatten_field.ensures

pub flatten_children-returns-in-KeyAndValue : goal.flatten_children-returns-in-KeyAndValue
flatten_children-returns-in-KeyAndValue t c = dictionary_walked _ _ c.in-KeyAndValue.ensures c.skip_type-value.ensures c.flatten_type.ensures

pub flatten_children-returns-in-Counted : goal.flatten_children-returns-in-Counted
flatten_children-returns-in-Counted t c = struct_walked _ _ c.in-Counted.ensures c.counted.ensures.at c.counted.ensures.count c.flatten_fields-in-Counted.ensures

pub flatten_children-returns-in-CountedWithIds : goal.flatten_children-returns-in-CountedWithIds
flatten_children-returns-in-CountedWithIds t c = union_walked _ _ c.in-CountedWithIds.ensures c.counted-in-CountedWithIds.ensures.at c.counted-in-CountedWithIds.ensures.count c.flatten_fields-in-CountedWithIds.ensures

pub flatten_children-returns-in-Fields : goal.flatten_children-returns-in-Fields
flatten_children-returns-in-Fields t c = others_walked _ _ c.if-code-eq-RUN_END_ENCODED.false c.in-Fields.ensures c.flatten_fields.ensures

pub flatten_field-returns : goal.flatten_field-returns
flatten_field-returns t c = field_walked _ c.put_two.ensures (λ l f. c.skip_head.ensures f.head) c.flatten_type.ensures

pub flatten_fields-loop-init : goal.flatten_fields-loop-init
flatten_fields-loop-init t c = λ l front one n o h. turns_begin _ _ _ _

pub flatten_fields-loop-preserved : goal.flatten_fields-loop-preserved
flatten_fields-loop-preserved t c =
    λ l front one n o h. turns_again _ _ _ _ (c.loop.invariant l front one n o h) c.loop-test.true (field_behind c.ahead-field.ensures c.flatten_field-place.ensures l front one n o h)

pub flatten_fields-returns : goal.flatten_fields-returns
flatten_fields-returns t c = λ l front one ks n o h e w. turns_done _ _ _ _ (c.loop.invariant l front one n o h) c.loop-test.false ks e w

pub flatten_type-returns : goal.flatten_type-returns
flatten_type-returns t c = type_walked _ c.byte-code.ensures.0 c.ahead-params.ensures c.skip_params-children.ensures c.flatten_children.ensures
