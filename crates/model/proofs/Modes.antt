-- The two modes of a merge: what becomes of the order flags. Here, and where the modes are compared (ModesAgree), laws go by cases on the mode.
use Prim.Native.Nat.{ℕ, suc}
use native.Mathlib.Omega.{arith}
use mathlib.Core.Path.{◌≡◌, refl, sym, ap, ◌∙◌}
use mathlib.Core.Logic.{inl, inr}
use mathlib.Core.Bool.{Bool, true, false, not, ◌&&◌, ◌||◌, cond, beq, false≢true}
use Rattle.model.specs.Tree.{FieldOver}
use borrow.Author.Tests.{ne_eqb}
use Rattle.model.specs.Merge.{as_the_rust, parked_first, orders_agree, merged_order}
use Rattle.model.specs.Call.{mode_of}
use Rattle.model.specs.Growth.{Stayed}
use Rattle.model.proofs.Lists.{beq_eq, or_false, or_false_right}

-- the numbers by which the desk asks for a mode
pub mode_numbers : (mode_of 0 ≡ as_the_rust) × ((n : ℕ) → mode_of (suc n) ≡ parked_first)
unfolding mode_of
mode_numbers = (refl, λ n. ap not (ne_eqb (suc n) 0 λ e. omega (arith, e)))

-- what is Null was Null
pub stayed_trans : (parked m n x y z : Bool) → (n ≡ true → m ≡ true) → Stayed parked m x y → Stayed parked n y z → Stayed parked m x z
stayed_trans parked m n x y z was (inr h) q = inr h
stayed_trans parked m n x y z was (inl e) (inl f) = inl (e ∙ f)
stayed_trans true m n x y z was (inl e) (inr h) = inr (was h)
stayed_trans false m n x y z was (inl e) (inr h) = absurd (false≢true h)

module _ {T : Type 0} (is_null : T → Bool) (f g : FieldOver T) where
  module _ (parked : Bool) where
    -- the first's flag stays
    pub first_stayed : Stayed parked (is_null f.data_type) f.head.dict_is_ordered (merged_order parked is_null f g)
    unfolding merged_order
    first_stayed = go parked (is_null f.data_type) f.head.dict_is_ordered g.head.dict_is_ordered
      where
        go : (parked a x y : Bool) → Stayed parked a x (cond (parked && a) y x)
        go false a x y = inl refl
        go true false x y = inl refl
        go true true x y = inr refl

    module _ (h : orders_agree parked is_null f g ≡ true) where
      -- so does the second's
      pub second_stayed : Stayed parked (is_null g.data_type) g.head.dict_is_ordered (merged_order parked is_null f g)
      unfolding orders_agree merged_order
      second_stayed = go parked (is_null f.data_type) (is_null g.data_type) f.head.dict_is_ordered g.head.dict_is_ordered h
        where
          go : (parked a b x y : Bool) → (beq x y || (parked && (a || b))) ≡ true → Stayed parked b y (cond (parked && a) y x)
          go true true b x y h = inl refl
          go true false true x y h = inr refl
          go true false false x y h = inl (sym (beq_eq x y (or_false_right _ h)))
          go false a b x y h = inl (sym (beq_eq x y (or_false_right _ h)))

      -- Where the flags agree, one rule serves both modes: it is the second's flag where the first type is Null, and else the first's.
      pub merged_order_lem : merged_order parked is_null f g ≡ cond (is_null f.data_type) g.head.dict_is_ordered f.head.dict_is_ordered
      unfolding orders_agree merged_order
      merged_order_lem = go parked (is_null f.data_type) (is_null g.data_type) f.head.dict_is_ordered g.head.dict_is_ordered h
        where
          go : (parked a b x y : Bool) → (beq x y || (parked && (a || b))) ≡ true → cond (parked && a) y x ≡ cond a y x
          go true a b x y h = refl
          go false false b x y h = refl
          go false true b x y h = beq_eq x y (or_false_right _ h)

  -- "20 only between two types that are not Null"
  pub parked_refuses : orders_agree parked_first is_null f g ≡ false → (is_null f.data_type ≡ false) × (is_null g.data_type ≡ false)
  unfolding orders_agree
  parked_refuses h = or_false _ _ (or_false (beq f.head.dict_is_ordered g.head.dict_is_ordered) _ h).1
