-- `next_bytes`: one piece more.
use Rattle.std.proofs.Common.{◌≡◌, ℕ, ◌+◌, ◌-◌, [], ◌∷◌, ◌++◌, refl, sym, ap, ◌∙◌, subst, rules, arith, length, take, drop, length-take-le, length-drop}
use Rattle.std.specs.List.{flat_map}
use Rattle.std.proofs.lemmas.List.{length_push, flat_map_more}
use borrow.Rule.Slice.PartMut.{put_mid}
use lib.Seq.{take-nil}
use Rattle.replay.specs.Reads.{Reads, stored, unfolded}
use Rattle.replay.proofs.Reading.{Reads-nil, Reads-append, Reads-counted, take_read, take_join}
use Rattle.replay.proofs.list.next_bytes.Goals as goal

pub loop-init : goal.loop-init
loop-init g c = ([], refl, search rules, Reads-nil _, sym (take-nil _))

pub loop-preserved : goal.loop-preserved
loop-preserved g c =
    let before = c.loop.invariant in
    let more = c.next_piece-filled.ensures.read in
    let room = length c.loop.space in
    let read = subst (Reads _ _) (flat_map_more stored [] before.0 more.0) (Reads-append _ _ _ _ _ before.3 more.1) in
    let left = length-take-le (room - c.loop.filled) (drop c.loop.filled c.loop.space) (omega (arith, length-drop c.loop.filled c.loop.space)) in
    let same : room ≡ length (put_mid c.loop.filled (room - c.loop.filled) c.loop.space c.next_piece-filled.new.dst) = search rules in
    let joined = take_join room c.loop.filled (flat_map unfolded before.0) (unfolded more.0) (take c.loop.filled c.loop.space) (take c.next_piece-filled.result c.next_piece-filled.new.dst) before.4 (length-take-le _ _ before.2) (more.2 ∙ ap (λ n. take n (unfolded more.0)) left) in
    let placed = take_read c.loop.filled (room - c.loop.filled) c.next_piece-filled.result c.loop.space c.next_piece-filled.new.dst before.2 c.next_piece-filled.ensures.in_bounds in
    (before.0 ++ more.0 ∷ [], length_push before.0 _ ∙ ap (λ (n : ℕ). n + 1) before.1, search rules, read, sym placed ∙ joined ∙ ap (take room) (flat_map_more unfolded [] before.0 more.0) ∙ ap (λ n. take n (flat_map unfolded (before.0 ++ more.0 ∷ []))) same)

pub returns-clause-read : goal.returns-clause-read
returns-clause-read g c =
    let all = c.loop.invariant in
    let count : c.next_u16-end.result ≡ length all.0 = omega (arith, all.1, c.loop-test.false, c.loop.auto.counter-end) in
    (all.0, omega (arith, count, c.next_u16-end.type_inv), Reads-counted _ _ _ _ _ _ count c.next_u16-end.ensures all.3, all.4 ∙ ap (λ n. take n (flat_map unfolded all.0)) c.loop.auto.space)
