-- Rows of places of the train: how long they are, what stands at their front, one more in front, and some before others.
use Prim.Native.Nat.{ℕ, ◌+◌, ◌*◌, ◌≤◌, ◌<◌}
use native.Mathlib.Omega.{arith}
use mathlib.Core.Path.{◌≡◌, refl, sym, ap, subst, ◌∙◌}
use mathlib.Core.List.{List, [], ◌∷◌, ◌++◌, append_assoc, append-nil}
use lib.ListN.{length, length-append}
use Rattle.model.specs.Bytes.{Bytes}
use Rattle.model.specs.Sheet.{each}
use Rattle.model.proofs.Lists.{each_append}
use Rattle.walk.specs.Stands.{Stands}
use Rattle.table.specs.Table.{u24, three, no_place, places_bytes, Refer, none_left, one_place, Places}
use Rattle.table.proofs.Numbers.{length_u24, three_stands}

pub length_each_place : (ps : List ℕ) → length (each u24 ps) ≡ 3 * length ps
length_each_place [] = refl
length_each_place (p ∷ ps) = omega (arith, length-append (u24 p) (each u24 ps), length_u24 p, length_each_place ps)

pub length_places : (ps : List ℕ) → length (places_bytes ps) ≡ 3 * length ps + 3
length_places ps = omega (arith, length-append (each u24 ps) (u24 no_place), length_u24 no_place, length_each_place ps)

-- What stands at the front

module _ {w : Bytes} {place : ℕ} where
  -- the mark
  pub front_none : Stands w place (places_bytes []) → three w place ≡ no_place
  front_none st = three_stands no_place [] (omega arith) (subst (Stands w place) (sym (append-nil (u24 no_place))) st)

  -- a place, and the others behind it
  pub front_split : (p : ℕ) (ps : List ℕ) → Stands w place (places_bytes (p ∷ ps)) → Stands w place (u24 p ++ places_bytes ps)
  front_split p ps st = subst (Stands w place) (append_assoc (u24 p) (each u24 ps) (u24 no_place)) st

  pub front_place : (p : ℕ) (ps : List ℕ) → p < no_place → Stands w place (places_bytes (p ∷ ps)) → three w place ≡ p
  front_place p ps h st = three_stands p (places_bytes ps) (omega (arith, h)) (front_split p ps st)

module _ {A : Type 0} {s : Bytes} {write : A → Bytes} where
  pub refer_length : {ps : List ℕ} {xs : List A} → Refer s write ps xs → length xs ≡ length ps
  refer_length none_left = refl
  refer_length (one_place h st r) = omega (arith, refer_length r)

  pub refer_append : {ps qs : List ℕ} {xs ys : List A} → Refer s write ps xs → Refer s write qs ys → Refer s write (ps ++ qs) (xs ++ ys)
  refer_append none_left r = r
  refer_append (one_place h st q) r = one_place h st (refer_append q r)

  -- the bytes of a row fit its room
  pub places_fit : {k : ℕ} {y : Bytes} {xs : List A} → Places s write k y xs → length y ≤ k
  places_fit p = omega (arith, p.room, ap length p.bytes, length_places p.places)

  -- a row of none
  pub places_none : Places s write 3 (u24 no_place) []
  places_none = record { places = []; bytes = refl; refer = none_left; room = omega arith }

  -- one more in front
  pub places_front : {k : ℕ} {y : Bytes} {q : ℕ} {x : A} {xs : List A} → q < no_place → Stands s q (write x) → Places s write k y xs → Places s write (k + 3) (u24 q ++ y) (x ∷ xs)
  places_front {y = y} {q = q} h st p = record {
    places = q ∷ p.places;
    bytes = ap (λ z. u24 q ++ z) p.bytes ∙ sym (append_assoc (u24 q) (each u24 p.places) (u24 no_place));
    refer = one_place h st p.refer;
    room = omega (arith, p.room);
  }

  -- some before others
  pub places_join : {ps : List ℕ} {xs ys : List A} {k : ℕ} {y : Bytes} → Refer s write ps xs → Places s write k y ys → Places s write (3 * length ps + k) (each u24 ps ++ y) (xs ++ ys)
  places_join {ps} r p = record {
    places = ps ++ p.places;
    bytes = ap (λ z. each u24 ps ++ z) p.bytes ∙ sym (append_assoc (each u24 ps) (each u24 p.places) (u24 no_place)) ∙ ap (λ z. z ++ u24 no_place) (sym (each_append u24 ps p.places));
    refer = refer_append r p.refer;
    room = omega (arith, p.room, length-append ps p.places);
  }
