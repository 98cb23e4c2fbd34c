-- `try_from_fields`: 16, or the first of all ids.
use mathlib.Core.Path.{sym, ap}
use Rattle.std.specs.Prelude.{Err}
use borrow.Author.Rules.{rules}
use lib.Seq.{length-take-le}
use Rattle.unions.proofs.Ends.{from_fields_refused, from_fields_accepted}
use Rattle.unions.proofs.try_from_fields.Goals as goal

pub returns : goal.returns
returns c =
    rw (← c.from-fields.ensures) (from_fields_accepted _ _ c.if-fields-gt-COUNT.false c.all_ids-ids.ensures (c.write_answer.ensures _))

pub returns-then-fields-gt-COUNT : goal.returns-then-fields-gt-COUNT
returns-then-fields-gt-COUNT c = rw (← c.from-fields.ensures) (from_fields_refused _ _ c.if-fields-gt-COUNT.true (ap Err c.from.ensures))

pub slice_bounds-write_answer-end : goal.slice_bounds-write_answer-end
slice_bounds-write_answer-end c = sym (length-take-le _ _ (search rules))
