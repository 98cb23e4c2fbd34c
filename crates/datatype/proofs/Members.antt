-- The loops over union children: whether one of them agrees with a given one, and whether each has one that agrees with it.
use Prim.Native.Nat.{ℕ, ◌+◌, ◌≤◌, ◌<◌}
use mathlib.Core.Path.{◌≡◌, refl, sym, ap, ◌∙◌}
use mathlib.Core.List.{List}
use mathlib.Core.Bool.{Bool, true, false, ◌&&◌, ◌||◌}
use lib.ListN.{length}
use Rattle.model.specs.Bytes.{Bytes, Every, all, any}
use Rattle.model.specs.Tree.{Field}
use Rattle.model.specs.Sheet.{each}
use Rattle.model.specs.WellFormed.{Child}
use Rattle.model.proofs.Whole.{whole_laid_out}
use Rattle.model.specs.Tree.Children.{counted_with_ids}
use Rattle.walk.specs.Stands.{Stands}
use Rattle.datatype.specs.declared.compare.Comparison.{Comparison}
use Rattle.datatype.specs.Children.{child_bytes}
use Rattle.datatype.specs.Comparisons.{compare_child}
use Rattle.datatype.proofs.Seeks.{Seeks, seeks_begin, seeks_again, seeks_stop, seeks_done}
use Rattle.datatype.proofs.Heads.{Behind}
use Rattle.datatype.proofs.Children.{Pairs, EveryOne}

-- a union's child that can be gone over, and its bytes
abbrev UnionChild : (l : ℕ) → Field l → Type 0
UnionChild l k = Child l counted_with_ids k

abbrev union_child_bytes : (l : ℕ) → Field l → Bytes
union_child_bytes l k = child_bytes l counted_with_ids k

-- One that agrees: those behind the i passed decide

abbrev pub One : Comparison → (s : Bytes) (a : ℕ) (t : Bytes) (b count levels place i : ℕ) → Type 0
One how s a t b count levels place i = (l : ℕ) (j : Field l) → l ≤ levels → UnionChild l j → Stands s a (union_child_bytes l j)
    → Seeks (UnionChild l) (union_child_bytes l) t (any (compare_child how l j)) (any (compare_child how l j)) b count place i

-- what `has_member` ensures
abbrev pub HasOne : Comparison → (s : Bytes) (a : ℕ) (t : Bytes) (b count levels : ℕ) → Bool → Type 0
HasOne how s a t b count levels r = (l : ℕ) (j : Field l) (ks : List (Field l)) → l ≤ levels → length ks ≡ count → UnionChild l j → Every (UnionChild l) ks
    → Stands s a (union_child_bytes l j) → Stands t b (each (union_child_bytes l) ks) → r ≡ any (compare_child how l j) ks

module _ (how : Comparison) (s t : Bytes) (levels : ℕ) where
  pub one_begin : (a b count : ℕ) → One how s a t b count levels b 0
  one_begin a b count l j h w st = seeks_begin (UnionChild l) (union_child_bytes l) t _ b count

  module _ {a b count place i : ℕ} (k : One how s a t b count levels place i) where
    module _ (h : i < count) {r : Bool} (c : Pairs how s a t place counted_with_ids levels r) where
      pub one_again : {p : ℕ} → r ≡ false → Behind t place counted_with_ids levels p → One how s a t b count levels p (i + 1)
      unfolding any
      one_again e f l j m w st =
          seeks_again (UnionChild l) (union_child_bytes l) t (k l j m w st) h (λ x v. f l x m (whole_laid_out l x.data_type v.1)) λ x xs v u.
          ap (λ b. b || any (compare_child how l j) xs) (sym (c l j x m w v st u) ∙ e)

      pub one_found : r ≡ true → HasOne how s a t b count levels true
      unfolding any
      one_found e l j ks m n w w' st st' =
          seeks_stop (UnionChild l) (union_child_bytes l) t (k l j m w st) h (λ x xs v u. sym (ap (λ b. b || any (compare_child how l j) xs) (sym (c l j x m w v st u) ∙ e))) ks n w' st'

    pub one_none : count ≤ i → HasOne how s a t b count levels false
    unfolding any
    one_none h l j ks m n w w' st st' = seeks_done (UnionChild l) (union_child_bytes l) t (k l j m w st) h refl ks n w' st'

-- Each has one: those behind the i passed decide

abbrev pub EachOne : Comparison → (s : Bytes) (a n : ℕ) (t : Bytes) (b m levels place i : ℕ) → Type 0
EachOne how s a n t b m levels place i = (l : ℕ) (ks : List (Field l)) → l ≤ levels → length ks ≡ m → Every (UnionChild l) ks → Stands t b (each (union_child_bytes l) ks)
    → Seeks (UnionChild l) (union_child_bytes l) s (all (λ j. any (compare_child how l j) ks)) (all (λ j. any (compare_child how l j) ks)) a n place i

module _ (how : Comparison) (s t : Bytes) (levels : ℕ) where
  pub each_begin : (a n b m : ℕ) → EachOne how s a n t b m levels a 0
  each_begin a n b m l ks h e w st = seeks_begin (UnionChild l) (union_child_bytes l) s _ a n

  module _ {a n b m place i : ℕ} (k : EachOne how s a n t b m levels place i) where
    module _ (h : i < n) {r : Bool} (c : HasOne how s place t b m levels r) where
      pub each_again : {p : ℕ} → r ≡ true → Behind s place counted_with_ids levels p → EachOne how s a n t b m levels p (i + 1)
      unfolding all
      each_again e f l ks z q w st =
          seeks_again (UnionChild l) (union_child_bytes l) s (k l ks z q w st) h (λ x v. f l x z (whole_laid_out l x.data_type v.1)) λ x xs v u.
          ap (λ b. b && all (λ j. any (compare_child how l j) ks) xs) (sym (c l x ks z q v w u st) ∙ e)

      pub each_stop : r ≡ false → EveryOne how s a n t b m levels false
      unfolding all
      each_stop e l js ks z q q' w w' st st' =
          seeks_stop (UnionChild l) (union_child_bytes l) s (k l ks z q' w' st') h (λ x xs v u. ap (λ b. b && all (λ j. any (compare_child how l j) ks) xs) (sym e ∙ c l x ks z q' v w' u st')) js q w st

    pub each_done : n ≤ i → EveryOne how s a n t b m levels true
    unfolding all
    each_done h l js ks z q q' w w' st st' = seeks_done (UnionChild l) (union_child_bytes l) s (k l ks z q' w' st') h refl js q w st
