-- `read_input`: what was read stands behind what was there.
use Rattle.std.proofs.Common.{◌≡◌, ℕ, ◌+◌, ◌≤◌, List, ◌++◌, rules, length, take, subst, le_refl, drop_at, length-take-le}
use Rattle.std.proofs.lemmas.Slice.{take-put_mid_below}
use Rattle.std.specs.Io.KnownBytes.{Consumes}
use Rattle.std.proofs.KnownBytes.{Consumes-trans}
use borrow.Rule.Slice.PartMut.{put_mid, post_of}
use lib.Seq.{take-add, take-append-le}
use Rattle.program.proofs.read_input.Goals as goal

-- of a list with a part written over from `at` on: the first bytes, n of the part among them
take_read : (at k n : ℕ) (xs ys : List ℕ) → at ≤ length xs → n ≤ length ys → take at xs ++ take n ys ≡ take (at + n) (put_mid at k xs ys)
take_read at k n xs ys h m =
    rw (take-add at n (put_mid at k xs ys), take-put_mid_below at k xs ys at (le_refl at) h, drop_at (take at xs) (ys ++ post_of at k xs) at (length-take-le at xs h), take-append-le n ys (post_of at k xs) m)

pub loop-end-preserved : goal.loop-end-preserved
loop-end-preserved g c =
    let fits = c.loop-end.invariant.1 in
    let joined = take_read c.loop-end.end _ c.in_ok-more.more c.loop-end.buf c.read.new.buf fits c.in_ok-more.ensures.bound.0 in
    (search rules, search rules, subst (Consumes _ _) joined (Consumes-trans _ _ _ _ _ c.loop-end.invariant.2 c.in_ok-more.ensures.bytes.0))
