-- What "grown" means for a column: it stands at the same index. And for a field: which order flags are equal, and that the dictionary numbers are.
use Prim.Native.Nat.{ℕ, zero, suc, ◌<◌}
use native.Mathlib.Omega.{arith}
use mathlib.Core.Path.{◌≡◌, sym, ◌∙◌}
use mathlib.Core.Logic.{inl, inr}
use mathlib.Core.List.{List}
use mathlib.Core.Bool.{Bool, false, ◌&&◌, false≢true}
use lib.ListN.{length, get_or}
use Rattle.model.specs.Numbers.{max_levels}
use Rattle.model.specs.Tree.{FieldOver, Field, Schema}
use Rattle.model.specs.Merge.{is_null}
use Rattle.model.specs.Growth.{Begins, here, onto, Stayed, GrownField, Grown, GrownSchema}

begins_at : {A : Type 0} {R : A → A → Type 0} {xs ys : List A} → Begins R xs ys → (i : ℕ) (d : A) → i < length xs → R (get_or xs i d) (get_or ys i d)
begins_at here zero d h = absurd (omega (arith, h))
begins_at here (suc i) d h = absurd (omega (arith, h))
begins_at (onto p ps) zero d h = p
begins_at (onto p ps) (suc i) d h = begins_at ps i d (omega (arith, h))

-- "each column of the first's answer stands at the same index in the second's answer"
pub grown_at : (parked : Bool) (x y : Schema) → GrownSchema parked x y → (i : ℕ) (d : Field max_levels) → i < length x.columns
    → GrownField parked (is_null max_levels) (Grown parked max_levels) (get_or x.columns i d) (get_or y.columns i d)
grown_at parked x y g i d h = begins_at g.columns i d h

-- The order flag of a field that grew is equal, but for a field that was Null, parked log first.
pub grown_flag : {T : Type 0} (parked : Bool) (is_null : T → Bool) (G : Bool → T → T → Type 0) (f g : FieldOver T) → GrownField parked is_null G f g
    → (parked && is_null f.data_type) ≡ false → f.head.dict_is_ordered ≡ g.head.dict_is_ordered
grown_flag parked is_null G f g h n = go h.dict_is_ordered
  where
    go : Stayed parked (is_null f.data_type) f.head.dict_is_ordered g.head.dict_is_ordered → f.head.dict_is_ordered ≡ g.head.dict_is_ordered
    go (inl e) = e
    go (inr e) = absurd (false≢true (sym n ∙ e))

-- "Growth and the third promise keep it equal": the dictionary number of a field that grew, in both modes.
pub grown_dict_id : {T : Type 0} (parked : Bool) (is_null : T → Bool) (G : Bool → T → T → Type 0) (f g : FieldOver T) → GrownField parked is_null G f g → f.head.dict_id ≡ g.head.dict_id
grown_dict_id parked is_null G f g h = h.dict_id
