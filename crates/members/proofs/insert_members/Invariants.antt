-- `insert_members`: one place after the other.
use Rattle.table.specs.Edited.{SameBuffers}
use Rattle.members.proofs.Opening.{Inserting}
use Rattle.members.proofs.insert_members.Given as goal

abbrev pub invariant-loop : goal.invariant-loop
invariant-loop l =
    let t = l.initial.table in
    let u = l.table in
    SameBuffers t u × Inserting l.levels t.train.now t.w.now u.w.now t.used l.at l.fn.children.at l.fn.children.count u.used l.row l.place l.counter
