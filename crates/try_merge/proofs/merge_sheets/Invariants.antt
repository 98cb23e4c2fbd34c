-- `merge_sheets`: one sheet after the other, up to a clash or the last one.
use Rattle.table.specs.Edited.{SameBuffers}
use Rattle.try_merge.proofs.Trains.{Merging}
use Rattle.try_merge.proofs.merge_sheets.Given as goal

abbrev pub invariant-loop-sheet : goal.invariant-loop-sheet
invariant-loop-sheet l =
    let t = l.initial.table in
    let u = l.table in
    SameBuffers t u × Merging l.parked l.s t.w.now u.w.now u.used l.place l.sheet-counter
