-- `merge_members`: one child after the other, up to a clash.
use Prim.Native.Nat.{◌-◌}
use Rattle.table.specs.Edited.{SameBuffers}
use Rattle.members.proofs.Merging.{Merging}
use Rattle.members.proofs.merge_members.Given as goal

abbrev pub invariant-loop : goal.invariant-loop
invariant-loop l =
    let t = l.initial.table in
    let u = l.table in
    SameBuffers t u × Merging l.levels t.train.now t.w.now u.w.now t.used l.at l.fn.new.at l.fn.new.count u.used l.place (l.end - l.counter)
