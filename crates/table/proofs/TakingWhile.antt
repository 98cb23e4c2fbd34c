-- How many items `take_while` gives, where a relation is known of an item and the closure's verdict on it.
use Prim.Native.Nat.{ℕ, zero, suc}
use mathlib.Core.Path.{◌≡◌, refl, sym, ap, subst, ◌∙◌}
use mathlib.Core.Bool.{Bool, true, false, true≢false}
use mathlib.Core.List.{List, [], ◌∷◌}
use lib.ListN.{length}
use denote.Ref.{Bor}
use denote.Param.Members.{Mut}
use Rattle.std.proofs.Common.{Option, Some, None}
use Rattle.std.specs.Fn.{CalledAt}
use Rattle.std.specs.Bool.{MatchBool}
use Rattle.std.specs.Option.{MatchOption, is_some}
use Rattle.std.specs.Iterator.{AlwaysYields, Drains}
use Rattle.std.specs.Iterator.Adapters.{take_while_source, take_while_done, take_while_callee, take_while_steps}
use Rattle.std.specs.declared.iter.TakeWhile.{TakeWhile}
use Rattle.std.proofs.lemmas.Iterator.{YieldsList}

-- R holds of each of so many at the front and true, and of the next one, if there is one, and false
abbrev pub Front : {A : Type 0} (R : A → Bool → Type 0) → ℕ → List A → Type 0
Front R zero [] = Unit {0}
Front R zero (x ∷ xs) = R x false
Front R (suc n) [] = ⊥
Front R (suc n) (x ∷ xs) = R x true × Front R n xs

-- R holds of each item and the closure's verdict
module _ {S A F : Type 0} (steps : S → Option A → S → Type 0) (g : Mut F (Bor A × Unit {0}) Bool) {f : F} (R : A → Bool → Type 0) (k : (x : A) (b : Bool) (h : F) → CalledAt g f x b h → (h ≡ f) × R x b) where
  abbrev Turn : TakeWhile S F → Option A → TakeWhile S F → Option A → Type 0
  Turn s r t o = MatchOption o ((r ≡ None) × (take_while_done t ≡ false))
      (λ x. (b : Bool) × CalledAt g (take_while_callee s) x b (take_while_callee t) × MatchBool b ((r ≡ Some x) × (take_while_done t ≡ false)) ((r ≡ None) × (take_while_done t ≡ true)))

  open_turn : (s t : TakeWhile S F) (r : Option A) → take_while_done s ≡ false → take_while_steps steps g s r t → (o : Option A) × steps (take_while_source s) o (take_while_source t) × Turn s r t o
  open_turn s t r d p = subst (λ b. MatchBool b ((r ≡ None) × (t ≡ s)) ((o : Option A) × steps (take_while_source s) o (take_while_source t) × Turn s r t o)) d p

  told : (s t : TakeWhile S F) (x : A) (b : Bool) → take_while_callee s ≡ f → CalledAt g (take_while_callee s) x b (take_while_callee t) → (take_while_callee t ≡ f) × R x b
  told s t x b a c = k x b _ (subst (λ w. CalledAt g w x b (take_while_callee t)) a c)

  -- nothing came
  ended : (all : List A) (s t : TakeWhile S F) (r o : Option A) → r ≡ None → take_while_callee s ≡ f → AlwaysYields steps (λ x. x) (take_while_source s) all
      → steps (take_while_source s) o (take_while_source t) → Turn s r t o → Front R 0 all
  ended [] s t r o n a e p c = tt
  ended (y ∷ ys) s t r None n a e p c = absurd (e.0 _ p)
  ended (y ∷ ys) s t r (Some x) n a e p (true, c, w) = absurd (true≢false (ap is_some (sym w.0 ∙ n)))
  ended (y ∷ ys) s t r (Some x) n a e p (false, c, w) = subst (λ v. R v false) (e.1 x _ p).0 (told s t x false a c).1

  -- an item came: the source gave it, and it passed
  came : (all : List A) (s t : TakeWhile S F) (x : A) (o : Option A) → take_while_callee s ≡ f → AlwaysYields steps (λ x. x) (take_while_source s) all
      → steps (take_while_source s) o (take_while_source t) → Turn s (Some x) t o
      → (ys : List A) × (all ≡ x ∷ ys) × R x true × AlwaysYields steps (λ x. x) (take_while_source t) ys × (take_while_callee t ≡ f) × (take_while_done t ≡ false)
  came all s t x None a e p c = absurd (true≢false (ap is_some c.0))
  came all s t x (Some y) a e p (false, c, w) = absurd (true≢false (ap is_some w.0))
  came [] s t x (Some y) a e p (true, c, w) = absurd (e y _ p)
  came (z ∷ zs) s t x (Some y) a e p (true, c, w) =
      let i : x ≡ y = ap (λ (o : Option A). elim o [ None ↦ x | Some v ↦ v ]) w.0 in
      let q = told s t y true a c in
      (zs, ap (λ v. v ∷ zs) (sym (e.1 y _ p).0 ∙ sym i), subst (λ v. R v true) (sym i) q.1, (e.1 y _ p).1, q.0, w.1)

  counted : (xs all : List A) (s : TakeWhile S F) → take_while_callee s ≡ f → take_while_done s ≡ false → AlwaysYields steps (λ x. x) (take_while_source s) all
      → Drains (take_while_steps steps g) s xs → Front R (length xs) all
  counted [] all s a d e (u, (t, i, n)) =
      let (o, p, c) = open_turn s u None d (subst (λ s. take_while_steps steps g s None u) (sym i) n) in
      ended all s u None o refl a e p c
  counted (x ∷ xs) all s a d e (u, (t, (j, p, ys), n)) =
      let (o, q, c) = open_turn s j (Some x) d p in
      let (zs, i, y, more, a2, d2) = came all s j x o a e q c in
      subst (λ l. Front R (length (x ∷ xs)) l) (sym i) (y, counted xs zs j a2 d2 more (u, (t, ys, n)))

  pub front_counted : {s : TakeWhile S F} {all : List A} {n : ℕ} → (xs : List A) × Drains (take_while_steps steps g) s xs × (n ≡ length xs) → take_while_callee s ≡ f → take_while_done s ≡ false
      → YieldsList steps (λ x. x) (take_while_source s) all → Front R n all
  front_counted {s} {all} {n} (xs, r, e) a d y = subst (λ n. Front R n all) (sym e) (counted xs all s a d y.runs r)
