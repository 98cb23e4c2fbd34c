-- `merge_sheets`: one sheet after the other, up to a clash or the last one. The table's buffer is the work buffer still.
use mathlib.Core.Path.{sym, ap, ◌∙◌, subst}
use Rattle.std.proofs.Common.{rules, Err}
use Rattle.std.proofs.lemmas.Result.{err_from_is_err_and}
use native.Mathlib.Omega.{arith}
use Rattle.buffer.specs.declared.refusal.Refusal.{Refusal}
use Rattle.table.proofs.Edited.{same_buffers, merges_on, went, stopped}
use Rattle.try_merge.specs.Claims.{MergesSheets}
use Rattle.try_merge.proofs.Trains.{merging_begin, merging_ended, merging_full, merging_stop, merging_again, merges_since, mapped_ok, mapped_err}
use Rattle.try_merge.proofs.merge_sheets.Goals as goal

pub loop-sheet-init : goal.loop-sheet-init
loop-sheet-init c = (same_buffers, merging_begin _ c.begin_table-table.ensures.begins.1)

pub loop-sheet-preserved : goal.loop-sheet-preserved
loop-sheet-preserved c =
    let (same, k) = c.loop-sheet.invariant in
    let m = c.merge_sheet.ensures in
    let (on, one) = merges_on same m in
    let sheet = rw c.begin_table-table.ensures.begins.0 at one in
    (on, merging_again _ k c.if-s-place.false m.same.size sheet (went m (mapped_ok Refusal _ _ c.in_ok-map_err.ensures.cases (λ e h. h))) c.skip_sheet-place.ensures)

pub returns-then-s-place : goal.returns-then-s-place
returns-then-s-place c =
    let (same, k) = c.loop-sheet.invariant in
    let begun = c.begin_table-table.ensures in
    let buffer = sym (same.buffer ∙ begun.same_reference) in
    let merges = merges_since _ begun.begins.1.same_length (merging_ended _ k c.if-s-place.true) in
    search (rules, buffer, merges)

pub returns-in_err-map_err : goal.returns-in_err-map_err
returns-in_err-map_err c =
    let (same, k) = c.loop-sheet.invariant in
    let begun = c.begin_table-table.ensures in
    let m = c.merge_sheet.ensures in
    let (on, one) = merges_on same m in
    let sheet = rw begun.begins.0 at one in
    let buffer = sym (on.buffer ∙ begun.same_reference) in
    let (n, clash, at) = mapped_err (λ n. record { 0 = n; 1 = c.loop-sheet.sheet-counter }) c.merge_sheet.result _ c.in_err-map_err.ensures.cases (λ e h. search rules) in
    let (x, up, there) = err_from_is_err_and c.from_residual.result c.from_residual.ensures.1 in
    let merges =
    subst (MergesSheets c.args.parked c.args.s.now c.args.w.now c.merge_sheet.new.table.w.now) (sym (up ∙ ap Err (there ∙ at)))
    (merges_since _ begun.begins.1.same_length (merging_stop _ k c.if-s-place.false m.same.size sheet (stopped m clash))) in
    search (rules, buffer, merges)

pub returns : goal.returns
returns c =
    let (same, k) = c.loop-sheet.invariant in
    let begun = c.begin_table-table.ensures in
    let buffer = sym (same.buffer ∙ begun.same_reference) in
    let merges = merges_since _ begun.begins.1.same_length (merging_full _ k {end = 256} c.loop-sheet-test.false (omega arith)) in
    search (rules, buffer, merges)
