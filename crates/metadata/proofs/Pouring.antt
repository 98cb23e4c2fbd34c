-- Pair after pair into a row of pairs: the turns of `merge_pairs`.
use Prim.Native.Nat.{ℕ, ◌+◌, ◌*◌, ◌≤◌, ◌<◌}
use native.Mathlib.Omega.{arith}
use mathlib.Core.Path.{◌≡◌, refl, sym, ap, subst, ◌∙◌}
use mathlib.Core.List.{List, [], ◌∷◌, ◌++◌, append_assoc, append-nil}
use mathlib.Core.Bool.{true}
use lib.ListN.{length, length-append}
use Rattle.model.specs.Bytes.{Bytes, Metadata, below}
use Rattle.model.specs.Sheet.{each, pair_bytes}
use Rattle.model.specs.Merge as model
use Rattle.model.specs.Merge.{done, clash, ◌>>=◌, merge_pair, merge_metadata}
use Rattle.model.specs.WellFormed.{Each, WellFormedPair}
use Rattle.model.proofs.Lists.{each_append, every_append, every_map}
use Rattle.model.proofs.Gives as gives
use Rattle.model.proofs.SortedMetadata.{Lower, below_transitive, keys_lower, merge_pair_past}
use Rattle.buffer.specs.Refusals.{number_of}
use Rattle.buffer.specs.declared.refusal.Number.{Number}
use Rattle.walk.specs.Stands.{Stands}
use Rattle.walk.proofs.Standing.{first_stands, stands_behind}
use Rattle.table.specs.Held.{Held}
use Rattle.table.specs.Table.{u24, no_place, places_bytes, Refer, none_left, Places}
use Rattle.table.specs.Says.{Merged}
use Rattle.std.proofs.Common.{Ok, Err}
use Rattle.table.proofs.Held.{held_as, held_stands}
use Rattle.metadata.specs.Pairs.{Cut}
use Rattle.metadata.specs.Merges.{SaysRow, PutsPair, MergesPairs}
use Rattle.metadata.proofs.Texts.{SkipsPair, pair_long}
use Rattle.table.proofs.Places.{length_each_place, length_places, refer_append, places_fit, places_join}
use Rattle.metadata.proofs.Finding.{FindsKey}

-- Between x and z stands what was merged so far: pairs that are below all that are left, then from `from` on the others. What is left, merged
-- into it, gives what the whole gives, in at most b bytes.
pub record Left (s w : Bytes) (number from end place left : ℕ) (x z : Bytes) (b : ℕ) (whole : model.Merged Metadata) : Type 0 where
  pub passed_places : List ℕ
  pub passed : Metadata
  pub refer : Refer s pair_bytes passed_places passed
  pub others : Metadata
  pub spelt : Bytes
  pub room : ℕ
  pub places : Places s pair_bytes room spelt others
  pub held : Held w end (x ++ each u24 passed_places) spelt z
  pub here : from ≡ length (x ++ each u24 passed_places)
  pub seen : Metadata
  pub rest : Metadata
  pub sorted : Each WellFormedPair seen rest
  pub lower : (p : Bytes × Bytes) (ps : Metadata) → rest ≡ p ∷ ps → Lower passed p.0
  pub counts : length rest ≡ left
  pub stands : Stands s place (each pair_bytes rest)
  pub fits : 3 * length passed_places + room + 4 * length (each pair_bytes rest) ≤ b
  pub all : length x + b + length z ≤ length w
  pub is : whole ≡ merge_metadata number (passed ++ others) rest

pub record Pouring (s w₀ w : Bytes) (used row q count number from end place left : ℕ) : Type 0 where
  pub rest : (x y z : Bytes) (k : ℕ) (m new : Metadata) → Held w₀ used x y z → row ≡ length x → Places s pair_bytes k y m → length new ≡ count → Stands s q (each pair_bytes new)
      → Each WellFormedPair [] new → length s < no_place → length x + (k + 4 * length (each pair_bytes new)) + length z ≤ length w₀
      → Left s w number from end place left x z (k + 4 * length (each pair_bytes new)) (merge_metadata number m new)

pub pour_begin : {s w : Bytes} (used row q count number : ℕ) {left : ℕ} → left ≡ count → Pouring s w w used row q count number row used q left
pour_begin used row q count number e = record {
  rest = λ x y z k m new h hx pl n st sorted small room. record {
    passed_places = [];
    passed = [];
    refer = none_left;
    others = m;
    spelt = y;
    room = k;
    places = pl;
    held = held_as h (sym (append_assoc x [] (y ++ z)));
    here = hx ∙ ap length (sym (append-nil x));
    seen = [];
    rest = new;
    sorted = sorted;
    lower = λ p ps e. tt;
    counts = n ∙ sym e;
    stands = st;
    fits = omega arith;
    all = room;
    is = refl;
  };
}

-- The first of those that come, past the pairs below it
module _ (n : ℕ) (before after : Metadata) (p : Bytes × Bytes) (low : Lower before p.0) where
  past_done : (r : Metadata) → merge_pair n after p ≡ done r → merge_pair n (before ++ after) p ≡ done (before ++ r)
  unfolding ◌>>=◌
  past_done r e = merge_pair_past n before after p low ∙ ap (λ t. t >>= λ r. done (before ++ r)) e

  past_clash : (c : ℕ) → merge_pair n after p ≡ clash c → merge_pair n (before ++ after) p ≡ clash c
  unfolding ◌>>=◌
  past_clash c e = merge_pair_past n before after p low ∙ ap (λ t. t >>= λ r. done (before ++ r)) e

-- One turn

module _ {s w w' : Bytes} {number from spot end place left : ℕ} {r : Merged} (find : FindsKey s w from place spot) (puts : PutsPair spot place number s w end w' r)
    (more : 0 < left) (small : length s < no_place) {x z : Bytes} {b : ℕ} {whole : model.Merged Metadata} (k : Left s w number from end place left x z b whole) where
  -- what the turn starts with
  record Turn : Type 0 where
    p : Bytes × Bytes
    ps : Metadata
    rests : k.rest ≡ p ∷ ps
    cut : Cut s from k.spelt k.others spot
    low : Lower (k.passed ++ cut.before) p.0
    before_places : List ℕ
    joins : before_places ≡ k.passed_places ++ cut.before_places
    front : spot ≡ length (x ++ each u24 before_places)
    long : 3 * length before_places + (3 * length cut.after_places + 3) ≤ 3 * length k.passed_places + k.room
    says : {res : Merged} → r ≡ res → SaysRow s (3 * length cut.after_places + 3 + 4 * length (pair_bytes p)) (x ++ each u24 before_places) z w' res (merge_pair number cut.after p)
    total : length (each pair_bytes k.rest) ≡ length (pair_bytes p) + length (each pair_bytes ps)
    starts : whole ≡ merge_metadata number ((k.passed ++ cut.before) ++ cut.after) (p ∷ ps)

  turn : Turn
  turn = go k.rest refl
    where
      go : (ps : Metadata) → k.rest ≡ ps → Turn
      go [] e = absurd (omega (arith, more, k.counts, ap length e))
      go (p ∷ ps) e =
          let st = subst (λ n. Stands s place (each pair_bytes n)) e k.stands in
          let pair = first_stands (pair_bytes p) (each pair_bytes ps) st in
          let n = length-append (pair_bytes p) (each pair_bytes ps) in
          let d = find k.room k.spelt k.others p k.places (held_stands k.held k.here) pair in
          let c = d.cut in
          let passed = each u24 k.passed_places in
          let before = each u24 c.before_places in
          let after = places_bytes c.after_places in
          let both = each_append u24 k.passed_places c.before_places in
          let h : Held w end (x ++ each u24 (k.passed_places ++ c.before_places)) after z =
          held_as k.held (subst (λ t. (x ++ passed) ++ (k.spelt ++ z) ≡ (x ++ t) ++ (after ++ z)) (sym both) (ap (λ t. (x ++ passed) ++ (t ++ z)) c.bytes ∙ simp append_assoc)) in
          let fronts = length-append x (each u24 (k.passed_places ++ c.before_places)) in
          let size₂ = ap length both ∙ length-append passed before in
          let spots : spot ≡ length (x ++ each u24 (k.passed_places ++ c.before_places)) = omega (arith, c.stands, k.here, length-append x passed, fronts, size₂) in
          let long : 3 * length (k.passed_places ++ c.before_places) + (3 * length c.after_places + 3) ≤ 3 * length k.passed_places + k.room =
          omega (arith, places_fit k.places, ap length c.bytes, length-append before after, length_each_place c.before_places, length_places c.after_places, length-append k.passed_places c.before_places) in
          record {
            p = p;
            ps = ps;
            rests = e;
            cut = c;
            low = every_append (λ q. below q.0 p.0 ≡ true) k.passed c.before (k.lower p ps e) d.lower;
            before_places = k.passed_places ++ c.before_places;
            joins = refl;
            front = spots;
            long = long;
            says = λ i. subst (λ t. SaysRow s (3 * length c.after_places + 3 + 4 * length (pair_bytes p)) (x ++ each u24 (k.passed_places ++ c.before_places)) z w' t (merge_pair number c.after p)) i
                (puts.says (x ++ each u24 (k.passed_places ++ c.before_places)) after z (3 * length c.after_places + 3) c.after p h spots
                (record { places = c.after_places; bytes = refl; refer = c.refer_after; room = omega arith }) d.rest pair (omega (arith, st.inside, n, pair_long p, small))
                (omega (arith, k.all, k.fits, long, n, ap (λ t. length (each pair_bytes t)) e, fronts, length_each_place (k.passed_places ++ c.before_places))));
            total = ap (λ t. length (each pair_bytes t)) e ∙ n;
            starts = k.is ∙ ap (merge_metadata number (k.passed ++ k.others)) e
                ∙ ap (λ t. merge_metadata number t (p ∷ ps)) (ap (λ t. k.passed ++ t) c.pairs ∙ sym (append_assoc k.passed c.before c.after));
          }

  left_again : {next place' left' : ℕ} → length w' ≡ length w → r ≡ Ok next → SkipsPair s place place' → left ≡ left' + 1 → Left s w' number spot next place' left' x z b whole
  unfolding merge_metadata
  left_again size i pair one =
      let t = turn in
      let c = t.cut in
      let u = t.says i in
      let sorted = subst (Each WellFormedPair k.seen) t.rests k.sorted in
      record {
        passed_places = t.before_places;
        passed = k.passed ++ c.before;
        refer = subst (λ ps. Refer s pair_bytes ps (k.passed ++ c.before)) (sym t.joins) (refer_append k.refer c.refer_before);
        others = u.value;
        spelt = u.spelt;
        room = u.room;
        places = u.spells;
        held = u.held;
        here = t.front;
        seen = t.p ∷ k.seen;
        rest = t.ps;
        sorted = sorted.1;
        lower = λ q qs e.
            let after = (keys_lower k.seen (t.p ∷ []) q qs (subst (λ n. Each WellFormedPair k.seen (t.p ∷ n)) e sorted)).0 in
            every_map (λ o. below o.0 t.p.0 ≡ true) (λ o. below o.0 q.0 ≡ true) (λ o h. below_transitive o.0 t.p.0 q.0 h after) (k.passed ++ c.before) t.low;
        counts = omega (arith, k.counts, ap length t.rests, one);
        stands = stands_behind (pair t.p) (subst (λ n. Stands s place (each pair_bytes n)) t.rests k.stands);
        fits = omega (arith, k.fits, u.fits, t.long, t.total);
        all = omega (arith, k.all, size);
        is = t.starts ∙ gives.pour_next (merge_pair number) ((k.passed ++ c.before) ++ c.after) t.p t.ps ((k.passed ++ c.before) ++ u.value) (past_done number (k.passed ++ c.before) c.after t.p t.low u.value u.is);
      }

  left_stop : {c : Number} → r ≡ Err c → whole ≡ clash (number_of c)
  unfolding merge_metadata
  left_stop {c} i =
      let t = turn in
      let u = t.says i in
      t.starts ∙ gives.pour_stop (merge_pair number) ((k.passed ++ t.cut.before) ++ t.cut.after) t.p t.ps (number_of c) (past_clash number (k.passed ++ t.cut.before) t.cut.after t.p t.low (number_of c) u)

module _ {s w₀ w w' : Bytes} {used row q count number from spot end place left : ℕ} (k : Pouring s w₀ w used row q count number from end place left) where
  module _ {r : Merged} (more : 0 < left) (find : FindsKey s w from place spot) (puts : PutsPair spot place number s w end w' r) where
    pub pour_again : {next place' left' : ℕ} → length w' ≡ length w → r ≡ Ok next → SkipsPair s place place' → left ≡ left' + 1 → Pouring s w₀ w' used row q count number spot next place' left'
    pour_again size i pair one = record {
      rest = λ x y z j m new h hx pl n st sorted small room. left_again find puts more small (k.rest x y z j m new h hx pl n st sorted small room) size i pair one;
    }

    -- a clash of one pair is that of all
    pub pour_stop : {c : Number} → r ≡ Err c → MergesPairs row q count number s w₀ used w' r
    pour_stop e = record {
      says = λ new n st sorted small x y z j m h hx pl room.
          subst (λ t. SaysRow s (j + 4 * length (each pair_bytes new)) x z w' t (merge_metadata number m new)) (sym e)
          (left_stop find puts more small (k.rest x y z j m new h hx pl n st sorted small room) e);
    }

pub pour_done : {s w₀ w : Bytes} {used row q count number from end place left : ℕ} → Pouring s w₀ w used row q count number from end place left → left ≤ 0
    → MergesPairs row q count number s w₀ used w (Ok end)
unfolding merge_metadata
pour_done {s} {w₀} {w} {number = number} {from = from} {end = end} {place = place} {left = left} k none = record {
  says = λ new n st sorted small x y z j m h hx pl room. go (k.rest x y z j m new h hx pl n st sorted small room);
}
  where
    go : {x z : Bytes} {b : ℕ} {whole : model.Merged Metadata} → Left s w number from end place left x z b whole → SaysRow s b x z w (Ok end) whole
    go {x} {z} {b} {whole} l = of l.rest refl
      where
        of : (ps : Metadata) → l.rest ≡ ps → SaysRow s b x z w (Ok end) whole
        of [] e = record {
          value = l.passed ++ l.others;
          spelt = each u24 l.passed_places ++ l.spelt;
          room = 3 * length l.passed_places + l.room;
          is = l.is ∙ ap (merge_metadata number (l.passed ++ l.others)) e ∙ gives.pour_none (merge_pair number) (l.passed ++ l.others);
          spells = places_join l.refer l.places;
          fits = omega (arith, l.fits);
          held = held_as l.held (simp append_assoc);
        }
        of (p ∷ ps) e = absurd (omega (arith, none, l.counts, ap length e))
