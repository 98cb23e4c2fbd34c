-- A loop that goes over parts that stand one behind the other and keeps a fact about those it has passed.
use Prim.Native.Nat.{ℕ, ◌+◌, ◌≤◌, ◌<◌}
use native.Mathlib.Omega.{arith}
use mathlib.Core.Path.{◌≡◌, refl, sym, ap, subst, ◌∙◌}
use mathlib.Core.List.{List, [], ◌∷◌, ◌++◌, append_assoc, append-nil}
use lib.ListN.{length, length-append}
use Rattle.model.specs.Bytes.{Bytes, Every}
use Rattle.model.specs.Sheet.{each}
use Rattle.walk.specs.Stands.{Stands, Skips}
use Rattle.walk.proofs.Standing.{first_stands, stands_behind}

module _ {A : Type 0} (W : A → Type 0) (f : A → Bytes) (s : Bytes) where
  -- i of the parts have been passed, of which P holds; the rest stands at the place
  pub record Split (P : List A → Type 0) (place i : ℕ) (xs : List A) : Type 0 where
    pub done : List A
    pub rest : List A
    pub parts : xs ≡ done ++ rest
    pub passed : length done ≡ i
    pub good : Every W rest
    pub stands : Stands s place (each f rest)
    pub fact : P done

  -- of so many that stand from `first` on
  pub record Passed (P : List A → Type 0) (first count place i : ℕ) : Type 0 where
    pub split : (xs : List A) → length xs ≡ count → Every W xs → Stands s first (each f xs) → Split P place i xs

  pub passed_begin : {P : List A → Type 0} (first count : ℕ) → P [] → Passed P first count first 0
  passed_begin first count p = record { split = λ xs e w st. record { done = []; rest = xs; parts = refl; passed = refl; good = w; stands = st; fact = p } }

  -- the part at the place, which is good and follows those passed
  pub record Here (P : List A → Type 0) (place i : ℕ) (xs : List A) : Type 0 where
    pub done : List A
    pub this : A
    pub rest : List A
    pub parts : xs ≡ done ++ (this ∷ rest)
    pub passed : length done ≡ i
    pub good : W this
    pub good_rest : Every W rest
    pub stands : Stands s place (f this ++ each f rest)
    pub fact : P done

  pub passed_here : {P : List A → Type 0} {first count place i : ℕ} → Passed P first count place i → i < count
      → (xs : List A) → length xs ≡ count → Every W xs → Stands s first (each f xs) → Here P place i xs
  passed_here {P} {first} {count} {place} {i} k h xs e w st = go (k.split xs e w st)
    where
      go : Split P place i xs → Here P place i xs
      go q = of q.rest q.parts q.good q.stands
        where
          of : (ys : List A) → xs ≡ q.done ++ ys → Every W ys → Stands s place (each f ys) → Here P place i xs
          of [] p v u = absurd (omega (arith, ap length p, length-append q.done [], q.passed, e, h))
          of (y ∷ ys) p v u = record { done = q.done; this = y; rest = ys; parts = p; passed = q.passed; good = v.0; good_rest = v.1; stands = u; fact = q.fact }

  pub passed_again : {P Q : List A → Type 0} {first count place i r : ℕ} → Passed P first count place i → i < count
      → ((x : A) → W x → Skips s place (f x) r)
      → ((done : List A) (x : A) → length done ≡ i → P done → W x → Stands s place (f x) → Q (done ++ (x ∷ [])))
      → Passed Q first count r (i + 1)
  passed_again {P} {Q} {first} {count} {place} {i} {r} k h skip more = record { split = λ xs e w st. go (passed_here k h xs e w st) }
    where
      go : {xs : List A} → Here P place i xs → Split Q r (i + 1) xs
      go {xs} q = record {
        done = q.done ++ (q.this ∷ []);
        rest = q.rest;
        parts = q.parts ∙ sym (append_assoc q.done (q.this ∷ []) q.rest);
        passed = omega (arith, length-append q.done (q.this ∷ []), q.passed);
        good = q.good_rest;
        stands = stands_behind (skip q.this q.good) q.stands;
        fact = more q.done q.this q.passed q.fact q.good (first_stands (f q.this) (each f q.rest) q.stands);
      }

  pub passed_done : {P : List A → Type 0} {first count place i : ℕ} → Passed P first count place i → count ≤ i
      → (xs : List A) → length xs ≡ count → Every W xs → Stands s first (each f xs) → P xs
  passed_done {P} {first} {count} {place} {i} k h xs e w st = go (k.split xs e w st)
    where
      go : Split P place i xs → P xs
      go q = of q.rest q.parts
        where
          of : (ys : List A) → xs ≡ q.done ++ ys → P xs
          of [] p = subst P (sym (p ∙ append-nil q.done)) q.fact
          of (y ∷ ys) p = absurd (omega (arith, ap length p, length-append q.done (y ∷ ys), q.passed, e, h))
