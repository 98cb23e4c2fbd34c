-- `check_entry`: 10, 11, or a valid entry.
use mathlib.Core.Path.{refl}
use borrow.Author.Tests.{eq-eqb, ne_eqb}
use Rattle.project.proofs.Walk.{entry_outside, entry_any, entry_repeated, entry_new}
use Rattle.project.proofs.check_entry.Goals as goal

pub returns-then-not-strict : goal.returns-then-not-strict
returns-then-not-strict c = entry_any _ _ _ _ c.if-seen-i.false c.if-not-strict.true

pub returns-then-seen-i-eq1 : goal.returns-then-seen-i-eq1
returns-then-seen-i-eq1 c = (entry_repeated _ _ _ _ c.if-seen-i.false c.if-not-strict.false (eq-eqb _ _ c.if-seen-i-eq1.true), refl)

pub returns : goal.returns
returns c = entry_new _ _ _ _ c.if-seen-i.false c.if-not-strict.false (ne_eqb _ _ c.if-seen-i-eq1.false)

pub returns-then-seen-i : goal.returns-then-seen-i
returns-then-seen-i c = (entry_outside _ _ _ _ c.if-seen-i.true, refl)
