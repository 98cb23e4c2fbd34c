-- `check_id`: 6, 7, or a new id.
use mathlib.Core.Path.{refl, sym, ◌∙◌}
use Rattle.unions.proofs.Walk.{id_large, id_repeated_lem, id_new}
use Rattle.unions.proofs.check_id.Goals as goal

pub returns-then-is_seen : goal.returns-then-is_seen
returns-then-is_seen c =
    let seen = c.is_seen in
    (id_repeated_lem _ _ _ c.if-id-gt-LAST.false (sym seen.ensures ∙ c.if-is_seen.true), refl)

pub returns : goal.returns
returns c =
    (id_new _ _ _ c.if-id-gt-LAST.false (sym c.is_seen.ensures ∙ c.if-is_seen.false), c.mark.ensures)

pub returns-then-id-gt-LAST : goal.returns-then-id-gt-LAST
returns-then-id-gt-LAST c = (id_large _ _ _ c.if-id-gt-LAST.true, refl)
