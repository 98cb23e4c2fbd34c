-- Where a key belongs in a row of pairs: behind those that are below it.
use Prim.Native.Nat.{ℕ, zero, suc, ◌+◌, ◌*◌, ◌<◌}
use native.Mathlib.Omega.{arith}
use mathlib.Core.Path.{◌≡◌, refl, sym, ap, subst, ◌∙◌}
use mathlib.Core.List.{List, [], ◌∷◌, ◌++◌, append_assoc}
use lib.ListN.{length}
use Rattle.model.specs.Bytes.{Bytes, Metadata, Every}
use Rattle.model.specs.Sheet.{each, pair_bytes}
use Rattle.model.proofs.Lists.{each_append}
use Rattle.model.proofs.SortedMetadata.{Lower}
use Rattle.walk.specs.Stands.{Stands}
use Rattle.table.specs.Table.{u24, no_place, places_bytes, Refer, none_left, one_place, Places}
use Rattle.table.proofs.Entries.{refer_small}
use Rattle.table.proofs.TakingWhile.{Front}
use Rattle.table.proofs.Places.{length_each_place}
use Rattle.metadata.specs.Pairs.{NotBelow, Spot}
use Rattle.metadata.proofs.Texts.{KeyBelow}

-- what `find_key` ensures
abbrev pub FindsKey : Bytes → Bytes → ℕ → ℕ → ℕ → Type 0
FindsKey s w row q r = (k : ℕ) (y : Bytes) (m : Metadata) (p : Bytes × Bytes) → Places s pair_bytes k y m → Stands w row y → Stands s q (pair_bytes p) → Spot s row y m p.0 r

-- so many pairs of a row are below that at q, and the next is not
abbrev pub LowerFront : Bytes → ℕ → ℕ → List ℕ → Type 0
LowerFront s q n ps = Front (λ p b. KeyBelow s p q b) n ps

-- they and the others
record Parted (s : Bytes) (ps : List ℕ) (m : Metadata) (key : Bytes) (n : ℕ) : Type 0 where
  before_places : List ℕ
  after_places : List ℕ
  before : Metadata
  after : Metadata
  places : ps ≡ before_places ++ after_places
  pairs : m ≡ before ++ after
  refer_before : Refer s pair_bytes before_places before
  refer_after : Refer s pair_bytes after_places after
  lower : Lower before key
  rest : NotBelow after key
  counts : length before_places ≡ n

parted : {s : Bytes} {q : ℕ} {ps : List ℕ} {m : Metadata} (p : Bytes × Bytes) (n : ℕ) → Stands s q (pair_bytes p) → Refer s pair_bytes ps m → LowerFront s q n ps → Parted s ps m p.0 n
parted p zero u none_left f = record { before_places = []; after_places = []; before = []; after = []; places = refl; pairs = refl; refer_before = none_left; refer_after = none_left; lower = tt; rest = tt; counts = refl }
parted p zero u (one_place {p = a} {ps = bs} {x = x} {xs = xs} h st r) f = record {
  before_places = [];
  after_places = a ∷ bs;
  before = [];
  after = x ∷ xs;
  places = refl;
  pairs = refl;
  refer_before = none_left;
  refer_after = one_place h st r;
  lower = tt;
  rest = sym (f x p st u);
  counts = refl;
}
parted p (suc n) u none_left f = absurd f
parted p (suc n) u (one_place {p = a} {ps = bs} {x = x} {xs = xs} h st r) f =
    let t = parted p n u r f.1 in
    record {
      before_places = a ∷ t.before_places;
      after_places = t.after_places;
      before = x ∷ t.before;
      after = t.after;
      places = ap (λ l. a ∷ l) t.places;
      pairs = ap (λ l. x ∷ l) t.pairs;
      refer_before = one_place h st t.refer_before;
      refer_after = t.refer_after;
      lower = (sym (f.0 x p st u), t.lower);
      rest = t.rest;
      counts = omega (arith, t.counts);
    }

pub find_counted : {s w : Bytes} {row q : ℕ} (n : ℕ) → ((ps : List ℕ) → Every (λ p. p < no_place) ps → Stands w row (places_bytes ps) → LowerFront s q n ps) → FindsKey s w row q (row + 3 * n)
find_counted {s} {w} {row} n f k y m p pl st u =
    let t = parted p n u pl.refer (f pl.places (refer_small pl.refer) (subst (Stands w row) pl.bytes st)) in
    record {
      cut = record {
        before_places = t.before_places;
        after_places = t.after_places;
        before = t.before;
        after = t.after;
        pairs = t.pairs;
        bytes = pl.bytes ∙ ap places_bytes t.places ∙ ap (λ z. z ++ u24 no_place) (each_append u24 t.before_places t.after_places)
            ∙ append_assoc (each u24 t.before_places) (each u24 t.after_places) (u24 no_place);
        refer_before = t.refer_before;
        refer_after = t.refer_after;
        stands = omega (arith, t.counts, length_each_place t.before_places);
      };
      lower = t.lower;
      rest = t.rest;
    }
