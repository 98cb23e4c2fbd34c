-- `skip_params`: a time stamp, or as many bytes as the kind is wide.
use mathlib.Core.Path.{◌≡◌}
use borrow.Author.Rules.{rules}
use Rattle.layout.specs.declared.ParamsKind.TheVariants.{Timestamp}
use Rattle.walk.proofs.Parts.{params_skips, params_timestamp}
use Rattle.walk.proofs.skip_params.Goals as goal

pub returns-then-eq : goal.returns-then-eq
returns-then-eq c = let e : c.params-kind.result ≡ Timestamp = search rules in params_timestamp _ c.params-kind.ensures e c.skip_timestamp.ensures

pub returns : goal.returns
returns c = let e : c.params-kind.result ≡ Timestamp → ⊥ = search rules in params_skips _ c.params-kind.ensures e c.params_width.ensures c.ahead.ensures
