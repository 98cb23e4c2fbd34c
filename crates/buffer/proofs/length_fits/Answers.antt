-- `buffer::length_fits` meets its contract.
use mathlib.Core.Path.{sym, ap, ◌∙◌}
use borrow.Author.Tests.{lt-ltb, le-ltb}
use Rattle.model.proofs.Gives.{choose_true, choose_false}
use Rattle.buffer.specs.Puts.{length_number, unless_refused}
use Rattle.buffer.proofs.length_fits.Goals as goal

pub returns-then-written-gt-MAX_ANSWER_BYTES : goal.returns-then-written-gt-MAX_ANSWER_BYTES
unfolding length_number
returns-then-written-gt-MAX_ANSWER_BYTES c = rw c.from.ensures (ap unless_refused (sym (choose_true _ _ _ (lt-ltb _ _ c.if-written-gt-MAX_ANSWER_BYTES.true))))

pub returns-then-room-written : goal.returns-then-room-written
unfolding length_number
returns-then-room-written c =
    rw c.from-then-room-written.ensures
    (ap unless_refused (sym (choose_false _ _ _ (le-ltb _ _ c.if-written-gt-MAX_ANSWER_BYTES.false) ∙ choose_true _ _ _ (lt-ltb _ _ c.if-room-written.true))))

pub returns : goal.returns
unfolding length_number
returns c =
    ap unless_refused (sym (choose_false _ _ _ (le-ltb _ _ c.if-written-gt-MAX_ANSWER_BYTES.false) ∙ choose_false _ _ _ (le-ltb _ _ c.if-room-written.false)))
