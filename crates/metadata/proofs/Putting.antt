-- One pair into a row of pairs.
use Prim.Native.Nat.{ℕ, ◌+◌}
use native.Mathlib.Omega.{arith}
use mathlib.Core.Path.{◌≡◌, refl, sym, ap, subst, ◌∙◌}
use mathlib.Core.List.{List, ◌∷◌, ◌++◌, append_assoc}
use mathlib.Core.Bool.{Bool, true, false}
use Rattle.model.specs.Bytes.{Bytes, Metadata}
use Rattle.model.specs.Sheet.{pair_bytes}
use Rattle.buffer.specs.Refusals.{number_of}
use Rattle.buffer.specs.declared.refusal.Number.{Number}
use Rattle.model.specs.Merge.{Merged, done, need, merge_pair}
use Rattle.model.proofs.SortedMetadata.{merge_pair_before, merge_pair_there}
use Rattle.walk.specs.Stands.{Stands}
use Rattle.table.specs.Table.{u24, three, no_place, places_bytes, Refer, none_left, one_place}
use Rattle.std.proofs.Common.{Ok, Err}
use Rattle.table.proofs.Held.{held_as, held_length, held_stands}
use Rattle.metadata.specs.Pairs.{NotBelow}
use Rattle.metadata.specs.Merges.{PutsPair}
use Rattle.table.specs.Edits.{InsertsPlace}
use Rattle.metadata.proofs.Texts.{KeyBelow, SameValue, pair_long}
use Rattle.table.proofs.Places.{front_none, front_place, places_fit, places_front}

-- what the merge of a pair gives, into a row of pairs that begins where its key belongs
abbrev Front : Bytes → Bytes → ℕ → ℕ → ℕ → (Metadata → Bytes × Bytes → Merged Metadata) → Type 0
Front s w row q number g =
    (ps : List ℕ) (m : Metadata) (p : Bytes × Bytes) → Stands w row (places_bytes ps) → Refer s pair_bytes ps m → NotBelow m p.0 → Stands s q (pair_bytes p) → merge_pair number m p ≡ g m p

module _ {s w : Bytes} {row q there : ℕ} (used : ℕ) (number : Number) (e : there ≡ three w row) where
  -- where the pair goes before the first
  module _ {w' : Bytes} {u : ℕ} (ins : InsertsPlace row q w used w' u) where
    inserted : Front s w row q (number_of number) (λ m p. done (p ∷ m)) → PutsPair row q (number_of number) s w used w' (Ok u)
    inserted goes = record {
      says = λ x y z k m p h hx pl nb st small room.
          let (i, j) = ins x (y ++ z) (held_as h refl) hx (omega (arith, room, held_length h, places_fit pl, pair_long p)) in
          record {
            value = p ∷ m;
            spelt = u24 q ++ y;
            room = k + 3;
            is = goes pl.places m p (subst (Stands w row) pl.bytes (held_stands h hx)) pl.refer nb st;
            spells = places_front small st pl;
            fits = omega (arith, pair_long p);
            held = held_as j (ap (λ t. x ++ t) (sym (append_assoc (u24 q) y z)));
          };
    }

    -- there is none
    pub put_last : there ≡ no_place → PutsPair row q (number_of number) s w used w' (Ok u)
    unfolding merge_pair
    put_last h = inserted go
      where
        go : Front s w row q (number_of number) (λ m p. done (p ∷ m))
        go ps m p st none_left nb u = refl
        go ps m p st (one_place {p = a} {ps = bs} i v r) nb u = absurd (omega (arith, i, h, e, front_place a bs i st))

    -- the first is above it
    pub put_before : {b : Bool} → KeyBelow s q there b → b ≡ true → PutsPair row q (number_of number) s w used w' (Ok u)
    unfolding merge_pair
    put_before {b} v h = inserted go
      where
        go : Front s w row q (number_of number) (λ m p. done (p ∷ m))
        go ps m p st none_left nb u = refl
        go ps m p st (one_place {p = a} {ps = bs} {x = x} {xs = xs} i t r) nb u =
            merge_pair_before (number_of number) x xs p nb (sym (v p x u (subst (λ n. Stands s n (pair_bytes x)) (sym (e ∙ front_place a bs i st)) t)) ∙ h)

  -- where its key is the first's
  module _ (never : there ≡ no_place → ⊥) {b c : Bool} (v : KeyBelow s q there b) (h : b ≡ false) (g : SameValue s there q c) where
    by_value : Front s w row q (number_of number) (λ m p. need c (number_of number) m)
    by_value ps m p st none_left nb u = absurd (never (e ∙ front_none st))
    by_value ps m p st (one_place {p = a} {ps = bs} {x = x} {xs = xs} i t r) nb u =
        let t2 = subst (λ n. Stands s n (pair_bytes x)) (sym (e ∙ front_place a bs i st)) t in
        merge_pair_there (number_of number) x xs p nb (sym (v p x u t2) ∙ h) ∙ ap (λ d. need d (number_of number) (x ∷ xs)) (sym (g x p t2 u))

    -- it has the value
    pub put_there : c ≡ true → PutsPair row q (number_of number) s w used w (Ok used)
    unfolding need
    put_there i = record {
      says = λ x y z k m p h hx pl nb st small room. record {
        value = m;
        spelt = y;
        room = k;
        is = by_value pl.places m p (subst (Stands w row) pl.bytes (held_stands h hx)) pl.refer nb st ∙ ap (λ d. need d (number_of number) m) i;
        spells = pl;
        fits = omega arith;
        held = h;
      };
    }

    -- it has another
    pub put_clash : c ≡ false → PutsPair row q (number_of number) s w used w (Err number)
    unfolding need
    put_clash i = record {
      says = λ x y z k m p h hx pl nb st small room. by_value pl.places m p (subst (Stands w row) pl.bytes (held_stands h hx)) pl.refer nb st ∙ ap (λ d. need d (number_of number) m) i;
    }
