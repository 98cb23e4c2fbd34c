-- The kind of a byte: which byte a kind is of.
use Prim.Native.Nat.{ℕ}
use mathlib.Core.Path.{◌≡◌}
use Rattle.std.proofs.Common.{arith}
use Rattle.std.proofs.lemmas.Grind.{common_steps}
use Rattle.table.specs.Table.{raw, open_struct, open_list, open_union, kind_of}
use Rattle.table.specs.declared.Kind.{Kind}
use Rattle.table.specs.declared.Kind.TheVariants.{Raw, OpenStruct, OpenList, OpenUnion}

module _ {b : ℕ} {k : Kind} (e : k ≡ kind_of b) where
  pub is_raw : k ≡ Raw → b ≡ raw
  unfolding kind_of
  is_raw h = grind (arith, common_steps, e, h)

  pub is_struct : k ≡ OpenStruct → b ≡ open_struct
  unfolding kind_of
  is_struct h = grind (arith, common_steps, e, h)

  pub is_list : k ≡ OpenList → b ≡ open_list
  unfolding kind_of
  is_list h = grind (arith, common_steps, e, h)

  pub is_union : k ≡ OpenUnion → (b ≡ raw → ⊥) × (b ≡ open_struct → ⊥) × (b ≡ open_list → ⊥)
  unfolding kind_of
  is_union h = (grind (arith, common_steps, e, h), grind (arith, common_steps, e, h), grind (arith, common_steps, e, h))

  pub not_struct : (k ≡ OpenStruct → ⊥) → b ≡ open_struct → ⊥
  unfolding kind_of
  not_struct n h = n (grind (arith, common_steps, e, h))

  pub not_list : (k ≡ OpenList → ⊥) → b ≡ open_list → ⊥
  unfolding kind_of
  not_list n h = n (grind (arith, common_steps, e, h))

  pub not_union : (k ≡ OpenUnion → ⊥) → b ≡ open_union → ⊥
  unfolding kind_of
  not_union n h = n (grind (arith, common_steps, e, h))
