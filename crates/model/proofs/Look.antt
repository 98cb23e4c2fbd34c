-- Look-up gives the first match: what `position` finds, and `index_of` as a look-up in the list of names.
use Rattle.std.specs.Prelude.{Option, Some, None}
use Prim.Native.Nat.{ℕ, ◌<◌}
use native.Mathlib.Omega.{arith}
use mathlib.Core.Path.{◌≡◌, refl, sym, ap, subst}
use mathlib.Core.List.{List, [], ◌∷◌, map}
use mathlib.Core.Bool.{Bool, true, false}
use lib.ListN.{length, take, get_or}
use Rattle.model.specs.Bytes.{Bytes, choose, Every, onward, position, same_bytes}
use Rattle.model.specs.Tree.{Schema}
use Rattle.model.specs.Growth.{names}
use Rattle.model.specs.Schema.{if_found, index_of}

-- position i of the list is its first element that passes
pub record FirstMatch {A : Type 0} (p : A → Bool) (xs : List A) (i : ℕ) : Type 0 where
  pub inside : i < length xs
  -- whatever would stand there if the list were shorter
  pub passes : (d : A) → p (get_or xs i d) ≡ true
  pub none_before : Every (λ x. p x ≡ false) (take i xs)

module _ {A : Type 0} (p : A → Bool) where
  -- what a look-up's answer says of the list
  abbrev Tells : List A → Option ℕ → Type 0
  Tells xs (Some i) = FirstMatch p xs i
  Tells xs None = Every (λ x. p x ≡ false) xs

  one_more : (x : A) (xs : List A) → p x ≡ false → (r : Option ℕ) → Tells xs r → Tells (x ∷ xs) (onward r)
  unfolding onward
  one_more x xs h (Some i) t = record { inside = omega (arith, t.inside); passes = t.passes; none_before = (h, t.none_before) }
  one_more x xs h None t = (h, t)

  position_tells : (xs : List A) → Tells xs (position p xs)
  unfolding position choose
  position_tells [] = tt
  position_tells (x ∷ xs) = go (p x) refl (position_tells xs)
    where
      go : (b : Bool) → p x ≡ b → Tells xs (position p xs) → Tells (x ∷ xs) (choose b (λ u. Some 0) λ u. onward (position p xs))
      go true h t = record { inside = omega arith; passes = λ d. h; none_before = tt }
      go false h t = one_more x xs h (position p xs) t

  -- what is found is in the list, passes, and is the first that does
  pub position_found : (xs : List A) (i : ℕ) → position p xs ≡ Some i → FirstMatch p xs i
  position_found xs i h = subst (Tells xs) h (position_tells xs)

  -- where nothing is found, nothing passes
  pub position_missing : (xs : List A) → position p xs ≡ None → Every (λ x. p x ≡ false) xs
  position_missing xs h = subst (Tells xs) h (position_tells xs)

-- a look-up in a list of images is a look-up in the list itself
pub position_map : {A B : Type 0} (p : B → Bool) (f : A → B) (xs : List A) → position p (map f xs) ≡ position (λ x. p (f x)) xs
unfolding position
position_map p f [] = refl
position_map p f (x ∷ xs) = ap (λ r. choose (p (f x)) (λ u. Some 0) λ u. onward r) (position_map p f xs)

-- `index_of` sees of the columns only their names, and takes the first that is equal
pub index_of_names : (x : Schema) (name : Bytes) → index_of x name ≡ if_found (position (λ n. same_bytes n name) (names x.columns))
unfolding index_of
index_of_names x name = ap if_found (sym (position_map (λ n. same_bytes n name) (λ f. f.head.name) x.columns))
