-- `check`: ASCII is text.
use mathlib.Core.Path.{sym, ap, ◌∙◌}
use Rattle.text.specs.Text.{text_of}
use Rattle.text.proofs.Utf8.{ascii_text}
use Rattle.text.proofs.check.Goals as goal

pub returns-then-is_ascii : goal.returns-then-is_ascii
returns-then-is_ascii c = ap text_of (sym (ascii_text _ (sym c.is_ascii.ensures ∙ c.if-is_ascii.true)))
