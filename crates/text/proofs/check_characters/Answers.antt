-- `check_characters`: the rows say of the bytes what std says of them.
use mathlib.Core.Path.{sym, ap}
use Rattle.text.specs.Text.{text_of}
use Rattle.text.proofs.Rows.{text_utf8, other_utf8}
use Rattle.text.proofs.check_characters.Goals as goal

pub returns-in-Ok : goal.returns-in-Ok
returns-in-Ok c = ap text_of (sym (text_utf8 _ c.in-Ok.ensures.cases.1))

pub returns-in-Err : goal.returns-in-Err
returns-in-Err c = ap text_of (sym (other_utf8 _ c.in-Err.ensures.cases.0))
