-- `is_plain`: the code has no parameters, and its children are no fields.
use mathlib.Core.Path.{◌≡◌}
use borrow.Author.Rules.{rules}
use Rattle.model.specs.Tree.{layout, leaf}
use Rattle.layout.specs.declared.ParamsKind.TheVariants.{None}
use Rattle.layout.specs.declared.ChildrenKind.TheVariants.{Fields}
use Rattle.layout.proofs.Plain.{leaf_params, leaf_children, is_leaf}
use Rattle.layout.proofs.is_plain.Goals as goal

pub returns-then-ne : goal.returns-then-ne
returns-then-ne c = let none : layout c.args.code ≡ leaf → c.params.result ≡ None = leaf_params _ _ c.params.ensures in search rules

pub returns : goal.returns
returns c =
    let none : layout c.args.code ≡ leaf → c.children.result ≡ Fields 0 = leaf_children _ _ c.params.ensures _ c.children.ensures in
    let both : c.params.result ≡ None → c.children.result ≡ Fields 0 → layout c.args.code ≡ leaf = is_leaf _ _ c.params.ensures _ c.children.ensures in
    search rules
