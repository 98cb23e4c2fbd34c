-- `put_places`: one part after the other, up to the end of the row.
use Rattle.emit.proofs.Copies.{Copying}
use Rattle.emit.proofs.Spelling.put_places.Given as goal

abbrev pub invariant-loop-place : goal.invariant-loop-place
invariant-loop-place g l =
    (goal.iterator-loop-place g).can_next l.place-iterator
    × (goal.iterator-loop-place g).is_finite l.place-iterator
    × Copying (goal.F-post g l.skip) l.self.train.now l.self.table.now l.at l.initial.out l.place-iterator l.out
