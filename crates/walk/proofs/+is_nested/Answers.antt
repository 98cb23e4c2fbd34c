-- `is_nested`: the levels left are the measure.
use Rattle.walk.proofs.Nested.{plain_nested, dictionary_nested, runs_nested}
use Rattle.walk.proofs.+is_nested.Goals as goal

pub returns-then-code-eq-DICTIONARY : goal.returns-then-code-eq-DICTIONARY
returns-then-code-eq-DICTIONARY t c = dictionary_nested _ c.byte-code.ensures.0 c.ahead-first.ensures c.if-code-eq-DICTIONARY.true c.skip_type.ensures c.is_nested.ensures

pub returns-then-code-eq-RUN_END_ENCODED : goal.returns-then-code-eq-RUN_END_ENCODED
returns-then-code-eq-RUN_END_ENCODED t c = runs_nested _ c.byte-code.ensures.0 c.ahead-first.ensures c.if-code-eq-RUN_END_ENCODED.true c.skip_field-values.ensures c.skip_head.ensures c.is_nested-then-code-eq-RUN_END_ENCODED.ensures

pub returns : goal.returns
returns t c = plain_nested _ c.byte-code.ensures.0 c.if-code-eq-DICTIONARY.false c.if-code-eq-RUN_END_ENCODED.false c.holds_fields.ensures
