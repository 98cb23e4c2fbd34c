-- A type has neither parameters nor children just where its kinds say so.
use Prim.Native.Nat.{ℕ}
use mathlib.Core.Path.{◌≡◌, refl, sym, ap, ap₂, ◌∙◌}
use mathlib.Core.List.{[]}
use Rattle.model.specs.Tree.{Layout, Params, Children, layout, leaf}
use Rattle.model.specs.Tree.Params.{items}
use Rattle.model.specs.Tree.Children.{fields}
use Rattle.layout.specs.declared.ParamsKind.{ParamsKind}
use Rattle.layout.specs.declared.ParamsKind.TheVariants.{None, Timestamp, Unit, IntervalUnit, Int32, Flag, Decimal}
use Rattle.layout.specs.declared.ChildrenKind.{ChildrenKind}
use Rattle.layout.specs.declared.ChildrenKind.TheVariants.{Fields, KeyAndValue, Counted, CountedWithIds}
use Rattle.layout.specs.Kinds.{params_of, children_of}

params_none : (k : ParamsKind) → params_of k ≡ items [] → k ≡ None
unfolding params_of
params_none None e = refl
params_none Timestamp e = cc
params_none Unit e = cc
params_none IntervalUnit e = cc
params_none Int32 e = cc
params_none Flag e = cc
params_none Decimal e = cc

children_none : (k : ChildrenKind) → children_of k ≡ fields 0 → k ≡ Fields 0
unfolding children_of
children_none (Fields n) e = cc
children_none KeyAndValue e = cc
children_none Counted e = cc
children_none CountedWithIds e = cc

module _ (code : ℕ) (p : ParamsKind) (params : params_of p ≡ (layout code).params) where
  pub leaf_params : layout code ≡ leaf → p ≡ None
  leaf_params e = params_none p (params ∙ ap (λ (l : Layout). l.params) e)

  module _ (k : ChildrenKind) (children : children_of k ≡ (layout code).children) where
    pub leaf_children : layout code ≡ leaf → k ≡ Fields 0
    leaf_children e = children_none k (children ∙ ap (λ (l : Layout). l.children) e)

    pub is_leaf : p ≡ None → k ≡ Fields 0 → layout code ≡ leaf
    unfolding params_of children_of
    is_leaf i j =
        let make : Params → Children → Layout = λ ps ks. record { params = ps; children = ks } in
        ap₂ make (sym params ∙ ap params_of i) (sym children ∙ ap children_of j)
