-- `merge_sheet`: the metadata of a sheet, then its columns.
use Rattle.table.proofs.Edited.{merges_on, went, stopped, handed_up}
use Rattle.try_merge.proofs.Sheets.{sheet_stopped, sheet_merged}
use Rattle.try_merge.proofs.merge_sheet.Goals as goal

pub returns-in_err-merge_pairs : goal.returns-in_err-merge_pairs
returns-in_err-merge_pairs c =
    let m = c.merge_pairs.ensures in
    let e = c.in_err-merge_pairs.was in
    handed_up e c.from_residual.ensures.1 (record { same = m.same; is = sheet_stopped _ c.of_sheet-pairs.ensures m.same.size m.is (stopped m e) })

pub returns : goal.returns
returns c =
    let m = c.merge_pairs.ensures in
    let (same, p) = merges_on m.same c.pour.ensures in
    record { same = same; is = sheet_merged _ c.of_sheet-pairs.ensures m.same.size m.is (went m c.in_ok-merge_pairs.was) c.skip_places-row.ensures c.find_columns-columns.ensures p }
