use mathlib.Core.Path.{refl}
use Rattle.model.specs.Read.{read_sheet}
use Rattle.sheet.proofs.Ways.{told_ok, told_err, step_stop, step_then, end_le, end_nle}
use Rattle.sheet.proofs.TreeWays.{from_cursor}
use Rattle.sheet.proofs.read_sheet.Goals as goal

pub returns-in_default : goal.returns-in_default
unfolding read_sheet
returns-in_default c = step_stop _ _ _ _ _ (from_cursor _ 0 _ _ c.first.ensures c.read_schema-read.ensures) (told_err c.in_default.is)

pub returns-then-end-s : goal.returns-then-end-s
unfolding read_sheet
returns-then-end-s c = step_then _ _ _ _ _ (from_cursor _ 0 _ _ c.first.ensures c.read_schema-read.ensures) (told_ok c.in-Ok.is) λ x. end_nle _ _ _ _ _ _ _ refl c.if-end-s.true refl

pub returns : goal.returns
unfolding read_sheet
returns c = step_then _ _ _ _ _ (from_cursor _ 0 _ _ c.first.ensures c.read_schema-read.ensures) (told_ok c.in-Ok.is) λ x. end_le _ _ _ _ _ _ _ c.if-end-s.false refl
