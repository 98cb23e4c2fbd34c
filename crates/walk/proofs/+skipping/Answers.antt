-- Fields, types and their children. The levels left fall from a type to its children, and each function calls on one that stands before it at equal levels.
use Rattle.model.specs.Sheet.{field_bytes}
use Rattle.walk.proofs.Standing.{skip_ahead, skip_join}
use Rattle.walk.proofs.Turns.{turns_again, turns_done}
use Rattle.walk.proofs.Trees.{type_skips, plain_skips, kids_fields, kids_types, kids_counted, kids_members}
use Rattle.walk.proofs.+skipping.Goals as goal

pub skip_children-returns-in-Fields : goal.skip_children-returns-in-Fields
skip_children-returns-in-Fields t c = kids_fields _ _ c.in-Fields.ensures c.skip_fields.ensures

pub skip_children-returns-in-KeyAndValue : goal.skip_children-returns-in-KeyAndValue
skip_children-returns-in-KeyAndValue t c = kids_types _ _ c.in-KeyAndValue.ensures c.skip_type.ensures c.skip_type-in-KeyAndValue.ensures

pub skip_children-returns-in-Counted : goal.skip_children-returns-in-Counted
skip_children-returns-in-Counted t c = kids_counted _ _ c.in-Counted.ensures c.counted.ensures.at c.counted.ensures.count c.skip_fields-in-Counted.ensures

pub skip_children-returns-in-CountedWithIds : goal.skip_children-returns-in-CountedWithIds
skip_children-returns-in-CountedWithIds t c = kids_members _ _ c.in-CountedWithIds.ensures c.counted-in-CountedWithIds.ensures.at c.counted-in-CountedWithIds.ensures.count c.skip_fields-in-CountedWithIds.ensures

pub skip_field-returns-then-is_plain : goal.skip_field-returns-then-is_plain
unfolding field_bytes
skip_field-returns-then-is_plain t c = λ l f h w. skip_join (c.skip_head-data_type.ensures f.head) (plain_skips _ c.byte.ensures.0 (c.is_plain.ensures.0 c.if-is_plain.true) c.ahead.ensures l f.data_type h w)

pub skip_field-returns : goal.skip_field-returns
unfolding field_bytes
skip_field-returns t c = λ l f h w. skip_join (c.skip_head-data_type.ensures f.head) (c.skip_type.ensures l f.data_type h w)

pub skip_fields-loop-preserved : goal.skip_fields-loop-preserved
skip_fields-loop-preserved t c = λ l front n h. turns_again _ _ _ (c.loop.invariant l front n h) c.loop-test.true (λ f w. skip_join (skip_ahead (front f.head) (n f.head) c.ahead-field.ensures.1) (c.skip_field-place.ensures l f h w))

pub skip_fields-returns : goal.skip_fields-returns
skip_fields-returns t c = λ l front ks n h e w. turns_done _ _ _ (c.loop.invariant l front n h) c.loop-test.false ks e w

pub skip_type-returns-then-is_plain : goal.skip_type-returns-then-is_plain
skip_type-returns-then-is_plain t c = plain_skips _ c.byte-code.ensures.0 (c.is_plain.ensures.0 c.if-is_plain.true) c.ahead-params.ensures

pub skip_type-returns : goal.skip_type-returns
skip_type-returns t c = type_skips _ c.byte-code.ensures.0 c.ahead-params.ensures c.skip_params-children.ensures c.skip_children.ensures
