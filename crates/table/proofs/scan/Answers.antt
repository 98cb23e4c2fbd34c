-- `scan`: the first entry that has the name, or where the row ends.
use native.Mathlib.Omega.{arith}
use mathlib.Core.Path.{ap, ◌∙◌}
use mathlib.Core.Bool.{not}
use Rattle.table.proofs.Look.{scanning_begin, scanning_ends, scanning_found, scanning_stuck, scanning_on}
use Rattle.table.proofs.scan.Goals as goal

pub loop-place-init : goal.loop-place-init
loop-place-init c = scanning_begin _ _ _ c.new-entries.result c.new-entries.ensures

pub loop-place-preserved : goal.loop-place-preserved
loop-place-preserved c =
    (scanning_on _ _ _ c.loop-place.entries c.loop-place.invariant c.in-Some.ensures c.has_entry_name.ensures c.next.result c.next.new.self c.next.ensures.steps c.if-has_entry_name.false
    (c.is_none.ensures ∙ ap not c.if-is_none.false)).0

pub loop-place-smaller : goal.loop-place-smaller
loop-place-smaller c =
    let on = scanning_on _ _ _ c.loop-place.entries c.loop-place.invariant c.in-Some.ensures c.has_entry_name.ensures c.next.result c.next.new.self c.next.ensures.steps c.if-has_entry_name.false
    (c.is_none.ensures ∙ ap not c.if-is_none.false) in
    omega (arith, on.1, on.2)

pub returns-then-has_entry_name : goal.returns-then-has_entry_name
returns-then-has_entry_name c = scanning_found _ _ _ c.loop-place.entries c.loop-place.invariant c.in-Some.ensures c.has_entry_name.ensures c.if-has_entry_name.true

pub returns-then-is_none : goal.returns-then-is_none
returns-then-is_none c =
    scanning_stuck _ _ _ c.loop-place.entries c.loop-place.invariant c.in-Some.ensures c.has_entry_name.ensures c.next.result c.next.new.self c.next.ensures.steps
    (c.is_none.ensures ∙ ap not c.if-is_none.true)

pub returns : goal.returns
returns c = scanning_ends _ _ _ c.loop-place.entries c.loop-place.invariant c.in_default.ensures
