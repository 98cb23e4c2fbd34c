-- The front of an entry, and of a type's entry: a byte and a place of the train.
use Prim.Native.Nat.{ℕ, ◌<◌}
use native.Mathlib.Omega.{arith}
use mathlib.Core.Path.{◌≡◌, subst, ◌∙◌}
use mathlib.Core.List.{◌∷◌, ◌++◌}
use lib.ListN.{get_or}
use Rattle.model.specs.Bytes.{Bytes}
use Rattle.walk.specs.Stands.{Stands}
use Rattle.walk.proofs.Standing.{byte_stands, stands_behind, skip_ahead}
use Rattle.walk.proofs.Parts.{Ahead}
use Rattle.table.specs.Table.{u24, no_place}
use Rattle.table.specs.Look.{NamesPlace}
use Rattle.table.proofs.Numbers.{length_u24}

module _ {w : Bytes} {place : ℕ} where
  pub byte_is : {n c : ℕ} {z y : Bytes} → n ≡ get_or w place 0 → y ≡ c ∷ z → Stands w place y → n ≡ c
  byte_is e i st = e ∙ byte_stands (subst (Stands w place) i st)

  pub place_is : (c v : ℕ) (z : Bytes) {y : Bytes} {x : ℕ} → NamesPlace w place x → v < no_place → y ≡ c ∷ (u24 v ++ z) → Stands w place y → x ≡ v
  place_is c v z j h i st = j c v z h (subst (Stands w place) i st)

  -- what stands behind them
  pub behind_stands : (c v : ℕ) (z : Bytes) {y : Bytes} {m : ℕ} → Ahead w place 4 m → y ≡ c ∷ (u24 v ++ z) → Stands w place y → Stands w m z
  behind_stands c v z a i st = stands_behind (skip_ahead (c ∷ u24 v) (omega (arith, length_u24 v)) a.1) (subst (Stands w place) i st)
