-- `is_below`: the order of slices is that of `below`.
use mathlib.Core.Path.{refl, ◌∙◌}
use native.Mathlib.Omega.{arith}
use Rattle.std.specs.Ordering.{nat_cmp, is_lt}
use Rattle.std.proofs.lemmas.Bool.Decides.{nat_tests}
use Rattle.std.proofs.lemmas.Cmp.{same_from_slice_cmp}
use Rattle.model.specs.Bytes.{below}
use Rattle.text.proofs.is_below.Goals as goal

pub returns : goal.returns
unfolding below
returns c =
    let by = same_from_slice_cmp nat_cmp is_lt below refl (λ _ _. refl) (λ _ _. refl) (λ x y xs ys o h. grind (arith, nat_tests)) in
    c.is_lt.ensures ∙ by c.args.a.now c.args.b.now _ c.cmp.ensures
