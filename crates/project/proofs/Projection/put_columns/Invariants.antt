-- `put_columns`: the columns of the entries passed are put.
use Rattle.std.proofs.Common.{◌≡◌}
use Rattle.std.specs.Slice.Iter.{chunks_exact_size, chunks_exact_rest}
use Rattle.project.proofs.Putting.{Putting}
use Rattle.project.proofs.Projection.put_columns.Given as goal

abbrev pub invariant-loop-entry : goal.invariant-loop-entry
invariant-loop-entry l = (chunks_exact_size l.entry-iterator ≡ 2) × Putting l.self.sheet.now l.table l.self.list.now (chunks_exact_rest l.entry-iterator) l.initial.out l.out
