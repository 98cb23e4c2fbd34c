-- The type that survives of two, and a type in which nothing was merged.
use Prim.Native.Nat.{ℕ, zero, suc}
use mathlib.Core.Path.{◌≡◌, refl, sym, ap, ◌∙◌}
use mathlib.Core.Bool.{Bool, true, false}
use lib.ListN.{get_or}
use lib.Dec.{eqb}
use borrow.Author.Tests.{eq-eqb, ne_eqb}
use Rattle.model.specs.Bytes.{Bytes, choose}
use Rattle.model.specs.Tree.{DataType, Null}
use Rattle.model.specs.Sheet.{type_bytes}
use Rattle.walk.proofs.Descents.{code_stands}
use Rattle.emit.specs.Survivor.{survivor, IsFrontType, IsSurvivor}

-- The one that survives

module _ {accumulated incoming : Bytes} {levels code : ℕ} (e : code ≡ get_or accumulated 0 0) {b : Bytes} where
  pub survives_incoming : code ≡ Null → IsFrontType incoming levels b → IsSurvivor accumulated incoming levels b
  unfolding survivor choose
  survives_incoming h f zero x y i v w st u = absurd v
  survives_incoming h f (suc l) x y i v w st u =
      f (suc l) y i w u ∙ ap (λ t. type_bytes (suc l) (choose t (λ u. y) λ u. x)) (sym (eq-eqb x.code Null (sym (code_stands l x st) ∙ sym e ∙ h)))

  pub survives_accumulated : (code ≡ Null → ⊥) → IsFrontType accumulated levels b → IsSurvivor accumulated incoming levels b
  unfolding survivor choose
  survives_accumulated h f zero x y i v w st u = absurd v
  survives_accumulated h f (suc l) x y i v w st u =
      f (suc l) x i v st ∙ ap (λ t. type_bytes (suc l) (choose t (λ u. y) λ u. x)) (sym (ne_eqb x.code Null λ j. h (e ∙ code_stands l x st ∙ j)))

-- a type that stands in the train, the first occurrence's unless that one is Null
pub raw_survives : (l : ℕ) (first t : DataType (suc l)) → (eqb first.code Null ≡ false → first ≡ t) → survivor (suc l) first t ≡ t
unfolding survivor choose
raw_survives l first t h = go (eqb first.code Null) refl
  where
    go : (b : Bool) → eqb first.code Null ≡ b → choose b (λ u. t) (λ u. first) ≡ t
    go true e = refl
    go false e = h e
