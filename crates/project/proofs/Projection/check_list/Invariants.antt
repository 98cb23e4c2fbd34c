-- `check_list`: what is left of the entries is answered as the whole.
use Rattle.std.proofs.Common.{◌≡◌, length}
use Rattle.std.specs.Iterator.Adapters.{enumerate_source, enumerate_count}
use Rattle.std.specs.Slice.Iter.{chunks_exact_size, chunks_exact_rest}
use Rattle.project.proofs.Walk.{Walk}
use Rattle.project.proofs.Projection.check_list.Given as goal

abbrev pub invariant-loop-e : goal.invariant-loop-e
invariant-loop-e l =
    let chunks = enumerate_source l.e-iterator in
    (chunks_exact_size chunks ≡ 2) × Walk l.self.strict l.self.list.now (chunks_exact_rest chunks) (length l.initial.seen) l.seen (enumerate_count l.e-iterator)
