-- `next_bytes`: the pieces so far lie at the buffer's start, as far as they fit.
use Rattle.std.proofs.Common.{◌≡◌, ◌≤◌, List, length, take}
use Rattle.std.specs.List.{flat_map}
use Rattle.replay.specs.Reads.{Reads, Piece, stored, unfolded}
use Rattle.replay.proofs.list.next_bytes.Given as goal

abbrev pub invariant-loop : goal.invariant-loop
invariant-loop g l =
    (ps : List Piece) × (length ps ≡ l.counter) × (l.filled ≤ length l.space) × Reads (g.R.Read.remaining l.initial.input) (g.R.Read.remaining l.input) (flat_map stored ps)
    × (take l.filled l.space ≡ take (length l.space) (flat_map unfolded ps))
