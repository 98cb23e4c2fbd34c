-- `skip`: one byte more.
use Rattle.std.proofs.Common.{ℕ, ◌+◌, [], ◌∷◌, ◌++◌, refl, ap, ◌∙◌}
use Rattle.std.proofs.lemmas.List.{length_push}
use Rattle.replay.proofs.Reading.{Reads-nil, Reads-append}
use Rattle.replay.proofs.list.skip.Goals as goal

pub loop-init : goal.loop-init
loop-init g c = ([], refl, Reads-nil _)

pub loop-preserved : goal.loop-preserved
loop-preserved g c =
    let dropped = c.loop.invariant in
    (dropped.0 ++ c.next_u8.result ∷ [], length_push dropped.0 _ ∙ ap (λ (n : ℕ). n + 1) dropped.1, Reads-append _ _ _ _ _ dropped.2 c.next_u8.ensures)
