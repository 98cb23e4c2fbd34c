-- `merge_pairs`: one pair after the other, up to a clash.
use Prim.Native.Nat.{◌-◌}
use Rattle.buffer.specs.Refusals.{number_of}
use Rattle.table.specs.Edited.{SameBuffers}
use Rattle.metadata.proofs.Pouring.{Pouring}
use Rattle.metadata.proofs.merge_pairs.Given as goal

abbrev pub invariant-loop : goal.invariant-loop
invariant-loop l =
    let t = l.initial.table in
    let u = l.table in
    SameBuffers t u × Pouring t.train.now t.w.now u.w.now t.used l.at l.fn.pairs.at l.fn.pairs.count (number_of l.clash) l.from u.used l.place (l.end - l.counter)
