-- `is_ascii`: the largest byte says it of all.
use mathlib.Core.Path.{◌≡◌, ap, ◌∙◌}
use Prim.Native.Nat.{max}
use Rattle.std.proofs.Common.{rules}
use Rattle.std.specs.List.{fold}
use Rattle.text.specs.Text.{ascii}
use Rattle.text.proofs.Utf8.{ascii_largest}
use Rattle.text.proofs.is_ascii.Goals as goal

pub returns : goal.returns
returns c =
    let e : c.fold.result ≡ fold (λ m b. max m b) 0 c.args.p.now = search rules in
    ap ascii e ∙ ascii_largest c.args.p.now 0
