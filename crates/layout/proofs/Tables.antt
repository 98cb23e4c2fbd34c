-- Stretches of the table of the types that have the same parameters, or the same children.
use Prim.Native.Nat.{ℕ, ◌+◌, ◌-◌, ◌≤◌, ◌<◌}
use native.Mathlib.Omega.{arith}
use native.Mathlib.Decide.{dec_lt}
use Prim.{yes, no}
use mathlib.Core.Path.{◌≡◌, refl, sym, ap, ◌∙◌}
use mathlib.Core.List.{map}
use lib.ListN.{get_or, get_or-map, get_or-eq_default, take, drop, replicate}
use Rattle.std.proofs.lemmas.List.{get_or-replicate, get_or-take, get_or-drop}
use Rattle.model.specs.Tree.{Layout, table, layout, leaf}
use Rattle.layout.specs.declared.ParamsKind.{ParamsKind}
use Rattle.layout.specs.declared.ParamsKind.TheVariants.{None}
use Rattle.layout.specs.declared.ChildrenKind.{ChildrenKind}
use Rattle.layout.specs.declared.ChildrenKind.TheVariants.{Fields}
use Rattle.layout.specs.Kinds.{params_of, children_of}

-- a whole stretch, by computing it once
within : {A : Type 0} (f : Layout → A) (a : A) (low n : ℕ) → replicate n a ≡ take n (drop low (map f table)) → (code : ℕ) → low ≤ code → code < low + n → a ≡ f (layout code)
unfolding layout
within f a low n same code h k =
    let i = code - low in
    let at : low + i ≡ code = omega arith in
    let below : i < n = omega arith in
    sym (get_or-replicate n i a (f leaf) below) ∙ ap (λ s. get_or s i (f leaf)) same ∙ get_or-take n (drop low (map f table)) i (f leaf) below
    ∙ get_or-drop low (map f table) i (f leaf) ∙ ap (λ c. get_or (map f table) c (f leaf)) at ∙ get_or-map f table code leaf

pub params_within : (k : ParamsKind) (low n : ℕ) → replicate n (params_of k) ≡ take n (drop low (map (λ (l : Layout). l.params) table))
    → (code : ℕ) → low ≤ code → code < low + n → params_of k ≡ (layout code).params
params_within k = within (λ l. l.params) (params_of k)

pub children_within : (k : ChildrenKind) (low n : ℕ) → replicate n (children_of k) ≡ take n (drop low (map (λ (l : Layout). l.children) table))
    → (code : ℕ) → low ≤ code → code < low + n → children_of k ≡ (layout code).children
children_within k = within (λ l. l.children) (children_of k)

past : (code : ℕ) → 41 ≤ code → leaf ≡ layout code
unfolding table layout
past code h = sym (get_or-eq_default table leaf h)

-- past the last that has any, a code has no parameters
pub params_past : (code : ℕ) → 39 ≤ code → (code ≡ 39 → ⊥) → params_of None ≡ (layout code).params
unfolding table params_of
params_past code h n = elim (dec_lt code 41) [
  | yes p ↦ params_within None 40 1 refl code (omega (arith, h, n)) (omega (arith, p))
  | no p ↦ ap (λ (l : Layout). l.params) (past code (omega (arith, p)))
]

pub children_past : (code : ℕ) → 41 ≤ code → children_of (Fields 0) ≡ (layout code).children
unfolding children_of
children_past code h = ap (λ (l : Layout). l.children) (past code h)
