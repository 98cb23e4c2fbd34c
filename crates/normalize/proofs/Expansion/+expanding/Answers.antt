-- Fields and the fields below them. The depth rises from a field to its children, up to the levels that there are.
use native.Mathlib.Omega.{arith}
use native.Mathlib.Nat.{sub-zero}
use mathlib.Core.Path.{refl, ap, ◌∙◌}
use lib.ListN.{length}
use Rattle.normalize.proofs.Columns.{turns_begin, turns_again, turns_stop, turns_done}
use Rattle.normalize.proofs.Fields.{field_itself, field_expanded, expands_at}
use Rattle.normalize.proofs.Expansion.+expanding.Goals as goal

pub expand_field-returns-then-not-expands : goal.expand_field-returns-then-not-expands
expand_field-returns-then-not-expands t c =
    (refl, field_itself _ _ _ _ c.skip_head-data_type.ensures c.byte.ensures.0 (ap length c.places.ensures) c.expands.ensures c.if-not-expands.true c.put_column.ensures)

pub expand_field-returns : goal.expand_field-returns
expand_field-returns t c =
    let longer = c.push.ensures in
    let fields = c.expand_fields-reach.ensures in (
      c.pop.ensures _ _ (fields.0 ∙ longer),
      field_expanded _ _ _ _ c.skip_head-data_type.ensures c.byte.ensures.0 (ap length c.places.ensures) c.expands.ensures c.if-not-expands.false
          longer c.ahead.ensures c.counted-fields.ensures.at c.counted-fields.ensures.count fields.1,
    )

pub expand_fields-loop-init : goal.expand_fields-loop-init
expand_fields-loop-init t c = (refl, λ l up hs h e a. rw sub-zero (turns_begin _ _ _ _))

pub expand_fields-returns-then-out-gt-MAX_ANSWER_BYTES : goal.expand_fields-returns-then-out-gt-MAX_ANSWER_BYTES
expand_fields-returns-then-out-gt-MAX_ANSWER_BYTES t c =
    let i = c.loop.invariant in
    let r = c.expand_field-reach.ensures in (
      r.0 ∙ i.0,
      λ l up hs ks h e a n z.
          turns_stop _ _ _ _ (i.1 l up hs h e a) (λ f w. expands_at _ _ i.0 r.1 l up hs f h e a w) (omega (arith, c.loop-test.true)) c.if-out-gt-MAX_ANSWER_BYTES.true ks n z,
    )

pub expand_fields-loop-preserved : goal.expand_fields-loop-preserved
expand_fields-loop-preserved t c =
    let i = c.loop.invariant in
    let r = c.expand_field-reach.ensures in (
      r.0 ∙ i.0,
      λ l up hs h e a. turns_again _ _ _ _ (i.1 l up hs h e a) (λ f w. expands_at _ _ i.0 r.1 l up hs f h e a w) (omega (arith, c.loop-test.true)) c.if-out-gt-MAX_ANSWER_BYTES.false,
    )

pub expand_fields-returns : goal.expand_fields-returns
expand_fields-returns t c =
    let i = c.loop.invariant in
    (i.0, λ l up hs ks h e a n z. turns_done _ _ _ _ (i.1 l up hs h e a) (omega (arith, c.loop-test.false)) ks n z)
