-- `answer_filtered`: 12, or the filtered sheet.
use mathlib.Core.Path.{ap, ◌∙◌}
use Rattle.std.specs.Prelude.{Err}
use borrow.Author.Rules.{rules}
use Rattle.filter.proofs.Answered.{end_inside, mask_refused, filtered_accepted}
use Rattle.filter.proofs.answer_filtered.Goals as goal

pub accept_written-requires : goal.accept_written-requires
accept_written-requires c = let (x, fits, same, room) = c.requires in end_inside x _ fits same room c.new-out.ensures.1 c.new-out.ensures.2 c.filter_sheet.ensures (λ e. search rules)

pub returns-then-sieve-mask : goal.returns-then-sieve-mask
returns-then-sieve-mask c = λ x fits same room.
    mask_refused x _ fits same room c.new-out.ensures.1 c.new-out.ensures.2 c.filter_sheet.ensures (λ e. search rules) _ (search rules) c.if-sieve-mask.true
    (c.refuse.ensures.0 ∙ ap Err c.from.ensures) c.refuse.ensures.1

pub returns : goal.returns
returns c = λ x fits same room.
    filtered_accepted x _ fits same room c.new-out.ensures.1 c.new-out.ensures.2 c.filter_sheet.ensures (λ e. search rules) _ (search rules) c.if-sieve-mask.false c.accept_written.ensures
