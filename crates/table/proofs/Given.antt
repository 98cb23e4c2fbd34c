-- What a row of places gives, where it stands in the table: those places.
use Prim.Native.Nat.{ℕ, ◌+◌, ◌*◌, ◌≤◌, ◌<◌}
use native.Mathlib.Omega.{arith}
use mathlib.Core.Logic.{◌⊎◌, inl, inr}
use mathlib.Core.Path.{◌≡◌, refl, sym, ap, subst, ◌∙◌}
use mathlib.Core.List.{List, [], ◌∷◌}
use lib.ListN.{length}
use Rattle.std.proofs.Common.{None}
use Rattle.std.specs.Iterator.{AlwaysYields, Yields, YieldsThen}
use Rattle.std.proofs.lemmas.Iterator.Consumers.{YieldsList-end}
use Rattle.std.proofs.lemmas.Iterator.{YieldsList}
use Rattle.model.specs.Bytes.{Bytes, Every}
use Rattle.walk.specs.Stands.{Stands}
use Rattle.walk.proofs.Standing.{stands_behind, skip_ahead}
use Rattle.table.specs.Table.{u24, three, no_place, places_bytes}
use Rattle.table.specs.Row.{GivesPlace}
use Rattle.table.specs.declared.PlaceRow.{PlaceRow}
use Rattle.table.proofs.Numbers.{length_u24}
use Rattle.table.proofs.Places.{length_places, front_none, front_split, front_place}

gives : (ps : List ℕ) (s : PlaceRow) → Every (λ p. p < no_place) ps → Stands s.w.now s.at (places_bytes ps) → AlwaysYields GivesPlace (λ x. x) s ps
gives [] s g st = λ x j h. h.1.1 (h.1.0 ∙ front_none st)
gives (p ∷ ps) s g st =
    let first : three s.w.now s.at ≡ p = front_place p ps g.0 st in (
      λ j h. none h.1.1,
      λ x j h.
          let step : j.at ≡ s.at + 3 = h.1.3 in
          let behind : Stands s.w.now (s.at + 3) (places_bytes ps) = stands_behind (skip_ahead (u24 p) (length_u24 p) λ z. refl) (front_split p ps st) in
          (h.1.0 ∙ first, gives ps j g.1 (subst (λ (w : Bytes). Stands w j.at (places_bytes ps)) (sym h.0) (subst (λ (n : ℕ). Stands s.w.now n (places_bytes ps)) (sym step) behind))),
    )
  where
    none : (three s.w.now s.at ≡ no_place) ⊎ (length s.w.now ≤ s.at) → ⊥
    none (inl e) = omega (arith, e, g.0, front_place p ps g.0 st)
    none (inr h) = omega (arith, h, st.inside, length_places (p ∷ ps))

pub row_gives : (ps : List ℕ) {w : Bytes} {place : ℕ} {s : PlaceRow} → (s.w.now ≡ w) × (s.at ≡ place) → Every (λ p. p < no_place) ps → Stands w place (places_bytes ps)
    → YieldsList GivesPlace (λ x. x) s ps
row_gives ps {w} {place} {s} e g st = record {
  runs = gives ps s g (subst (λ (v : Bytes). Stands v s.at (places_bytes ps)) (sym e.0) (subst (λ (n : ℕ). Stands w n (places_bytes ps)) (sym e.1) st));
}

-- each place is three bytes further
passes : (xs : List ℕ) (s t : PlaceRow) → Yields GivesPlace s xs t → t.at ≡ s.at + 3 * length xs
passes [] s t e = omega (arith, ap (λ (r : PlaceRow). r.at) e)
passes (x ∷ xs) s t (j, h, r) = omega (arith, passes xs j t r, h.1.3)

-- where a row that gave all its places ends
pub row_ends : (ps : List ℕ) {w : Bytes} {place : ℕ} (s u : PlaceRow) → (s.w.now ≡ w) × (s.at ≡ place) → Every (λ p. p < no_place) ps → Stands w place (places_bytes ps)
    → (xs : List ℕ) → YieldsThen GivesPlace s xs None u → u.at ≡ place + 3 * length ps
row_ends ps s u e g st xs (t, y, n) =
    omega (arith, e.1, n.1.0, passes xs s t y, (YieldsList-end (row_gives ps e g st) xs t y None u refl n).1)
