-- A union that is opened: the places of its own children are put in, one after the other, before the mark.
use Prim.Native.Nat.{ℕ, suc, ◌+◌, ◌*◌, ◌≤◌, ◌<◌}
use native.Mathlib.Omega.{arith}
use mathlib.Core.Path.{◌≡◌, refl, sym, ap, subst, ◌∙◌}
use mathlib.Core.List.{List, [], ◌∷◌, ◌++◌, append_assoc, append-nil}
use mathlib.Core.Logic.{◌⊎◌, inl, inr}
use lib.ListN.{length, get_or, length-append}
use Rattle.model.specs.Bytes.{Bytes}
use Rattle.model.specs.Tree.{Field, List', LargeList, Union}
use Rattle.model.specs.Sheet.{each}
use Rattle.model.proofs.Lists.{each_append}
use Rattle.walk.specs.Stands.{Stands, SkipsMember, member_bytes}
use Rattle.walk.proofs.Standing.{byte_stands}
use Rattle.walk.proofs.Parts.{Ahead}
use Rattle.walk.proofs.Passed.{Passed, passed_begin, passed_again, passed_done}
use Rattle.walk.proofs.Descents.{code_stands}
use Rattle.table.specs.Held.{Held}
use Rattle.table.specs.Table.{no_place, raw, open_union, u24, places_bytes, Refer, none_left, one_place, RawAt, spell_raw, spell_struct, spell_list, spell_union}
use Rattle.table.specs.Look.{NamesPlace}
use Rattle.table.specs.Edits.{SetsByte, InsertsPlace}
use Rattle.table.proofs.Held.{held_length, held_stands, held_as}
use Rattle.table.proofs.Numbers.{length_u24}
use Rattle.table.proofs.Places.{refer_length, refer_append}
use Rattle.table.proofs.Types.{raw_there}
use Rattle.table.proofs.Opening.{kind_set, inner_is}
use Rattle.members.specs.Rows.{WholeChild}
use Rattle.members.specs.Claims.{FindsChildren, Inserted, InsertsMembers, OpensRaw, OpensUnion}
use Rattle.members.proofs.Members.{child_skips, union_parts, mode_stands, members_long, union_long}

-- Place after place

-- the places of the children that were passed stand between x and z
pub record Put (l : ℕ) (s w : Bytes) (used end row : ℕ) (x z : Bytes) (passed : List (Field l)) : Type 0 where
  places : List ℕ
  refer : Refer s (member_bytes l) places passed
  held : Held w end x (each u24 places) z
  behind : row ≡ length x + length (each u24 places)
  grown : end ≡ used + 3 * length passed

pub record Inserting (levels : ℕ) (s w₀ w : Bytes) (used first q count end row place i : ℕ) : Type 0 where
  pub same : length w ≡ length w₀
  pub passed : (l : ℕ) (x z : Bytes) → l ≤ levels → length s < no_place → Held w₀ used x [] z → first ≡ length x → used + 3 * count ≤ length w₀
      → Passed (WholeChild l) (member_bytes l) s (Put l s w used end row x z) q count place i

pub inserting_begin : {levels : ℕ} {s w : Bytes} (used first q count : ℕ) → Inserting levels s w w used first q count used first q 0
inserting_begin {levels} {s} {w} used first q count = record {
  same = refl;
  passed = λ l x z h small held hx room.
      passed_begin (WholeChild l) (member_bytes l) s q count (record { places = []; refer = none_left; held = held; behind = omega (arith, hx); grown = omega arith });
}

-- one place more
one : (ps : List ℕ) (a : ℕ) → each u24 (ps ++ (a ∷ [])) ≡ each u24 ps ++ u24 a
one ps a = each_append u24 ps (a ∷ []) ∙ ap (λ z. each u24 ps ++ z) (append-nil (u24 a))

module _ {l : ℕ} {s w w' : Bytes} {used end row place end' row' : ℕ} (ins : InsertsPlace row place w end w' end') (a : Ahead w' row 3 row') {x z : Bytes} where
  put_more : (passed : List (Field l)) (f : Field l) → end + 3 ≤ length w → place < no_place → Put l s w used end row x z passed → Stands s place (member_bytes l f)
      → Put l s w' used end' row' x z (passed ++ (f ∷ []))
  put_more passed f room small p st =
      let b = each u24 p.places in
      let h2 : Held w end (x ++ b) [] z = held_as p.held (sym (append_assoc x b z)) in
      let (j, h3) = ins (x ++ b) z h2 (omega (arith, p.behind, length-append x b)) room in
      let n = ap length (one p.places place) ∙ length-append b (u24 place) in
      let inside : row + 3 ≤ length w' = omega (arith, p.behind, held_length h3, length-append x b, length_u24 place, h3.fits) in
      record {
        places = p.places ++ (place ∷ []);
        refer = refer_append p.refer (one_place small st none_left);
        held = subst (λ v. Held w' end' x v z) (sym (one p.places place)) (held_as h3 (simp append_assoc));
        behind = omega (arith, a.1 inside, p.behind, n, length_u24 place);
        grown = omega (arith, j, p.grown, length-append passed (f ∷ []));
      }

module _ {levels : ℕ} {s w₀ w : Bytes} {used first q count end row place i : ℕ} (k : Inserting levels s w₀ w used first q count end row place i) where
  pub inserting_again : {w' : Bytes} {end' row' place' : ℕ} → i < count → length w' ≡ length w → InsertsPlace row place w end w' end' → Ahead w' row 3 row' → SkipsMember s place levels place'
      → Inserting levels s w₀ w' used first q count end' row' place' (i + 1)
  inserting_again less size ins a skips = record {
    same = size ∙ k.same;
    passed = λ l x z h small held hx room.
        passed_again (WholeChild l) (member_bytes l) s (k.passed l x z h small held hx room) less (λ f v. child_skips skips l f h v) λ passed f n p v st.
        put_more ins a passed f (omega (arith, grown p, n, less, room, k.same)) (omega (arith, st.inside, small)) p st;
  }
    where
      grown : {l : ℕ} {x z : Bytes} {passed : List (Field l)} → Put l s w used end row x z passed → end ≡ used + 3 * length passed
      grown p = p.grown

  pub inserting_done : count ≤ i → InsertsMembers levels first q count s w₀ used w end
  inserting_done all = λ l ks x z h n v st small held hx room. out (passed_done (WholeChild l) (member_bytes l) s (k.passed l x z h small held hx room) all ks n v st)
    where
      out : {l : ℕ} {x z : Bytes} {ks : List (Field l)} → Put l s w used end row x z ks → Inserted l s ks w end x z
      out p = record { places = p.places; refer = p.refer; held = p.held }

-- A raw union

pub raw_opened : {levels : ℕ} {s w w₁ w₂ w₃ : Bytes} {used place own n first row end r : ℕ} → FindsChildren s own n first → length w₁ ≡ length w → SetsByte place open_union w used w₁ → Ahead w₁ place 4 row
    → length w₂ ≡ length w₁ → InsertsPlace row no_place w₁ used w₂ end → InsertsMembers levels row first n s w₂ end w₃ r → OpensRaw levels place own s w used w₃ r
raw_opened {levels} {s} {w} {w₁} {w₂} {w₃} {used} {place} {own} {n} {first} {row} {end} {r} finds size sets a grown ins put = go
  where
    go : OpensRaw levels place own s w used w₃ r
    go l k t x z h small c ra held hx room =
        let p = union_parts l ra.ordered t c ra.well_formed in
        let ch = finds l ra.ordered t c ra.well_formed ra.stands in
        let b = x ++ (open_union ∷ u24 own) in
        let long = union_long l t p in
        let many = members_long l t.children in
        let hl = held_length held in
        let h1 : Held w₁ used b [] z = kind_set w₁ size open_union own sets (omega arith) hx held in
        let at_row = inner_is w₁ size open_union own hx held (omega (arith, length_u24 own)) a in
        let (e, h2) = ins b z h1 at_row (omega (arith, room, hl, length_u24 own, ra.room, long, size)) in
        let q = put l t.children b (u24 no_place ++ z) h ch.counts p.whole ch.stands small (held_as h2 refl) at_row
        (omega (arith, e, room, hl, length_u24 own, ra.room, long, many, ch.counts, grown, size)) in
        record {
          place = own;
          row_bytes = places_bytes q.places;
          row_room = 3 * length q.places + 3;
          small = ra.small;
          code = code_stands l t ra.stands ∙ c;
          params = p.params ∙ ap (λ m. m ∷ []) (sym (mode_stands l t p ra.stands));
          row = record { places = record { places = q.places; bytes = refl; refer = q.refer; room = omega arith }; whole = p.whole };
          room = omega (arith, ra.room, long, many, refer_length q.refer);
          held = held_as q.held (simp append_assoc);
        }

-- A union of the table

not_union : (c : ℕ) → (c ≡ List') ⊎ (c ≡ LargeList) → c ≡ Union → ⊥
not_union c (inl i) e = omega (arith, i, e)
not_union c (inr i) e = omega (arith, i, e)

module _ {levels : ℕ} {s w : Bytes} {used place : ℕ} where
  -- it is open
  pub union_open : (get_or w place 0 ≡ raw → ⊥) → OpensUnion levels place s w used w used
  union_open o = go
    where
      go : OpensUnion levels place s w used w used
      go l first h small x y z k t held hx (spell_raw i b r v, d) room = absurd (o (byte_stands (subst (Stands w place) b (held_stands held hx))))
      go l first h small x y z k t held hx (spell_struct i m ys b q g c p r v, d) room = absurd (omega (arith, c, d))
      go l first h small x y z k t held hx (spell_list i m ys f b q g c p r v u, d) room = absurd (not_union t.code c d)
      go l first h small x y z k t held hx (spell_union i m ys b q g c p r v u, d) room = record {
        place = i;
        row_bytes = ys;
        row_room = m;
        small = q;
        code = g;
        params = p;
        row = record { places = r; whole = v };
        room = u;
        held = subst (λ y. Held w used x y z) b held;
      }

  -- it is raw
  pub union_opened : {w' : Bytes} {own r : ℕ} → (get_or w place 0 ≡ open_union → ⊥) → NamesPlace w place own → OpensRaw levels place own s w used w' r → OpensUnion levels place s w used w' r
  union_opened {w'} {own} {r} never n opens = go
    where
      go : OpensUnion levels place s w used w' r
      go l first h small x y z k t held hx (spell_raw j b ra v, d) room =
          let held2 : Held w used x (raw ∷ u24 j) z = subst (λ y. Held w used x y z) b held in
          let there : own ≡ j = raw_there n j ra.small (held_stands held2 hx) in
          opens l k t x z h small d (subst (λ n. RawAt (suc l) s k n t) (sym there) ra) (subst (λ n. Held w used x (raw ∷ u24 n) z) (sym there) held2) hx room
      go l first h small x y z k t held hx (spell_struct j m ys b q g c p r v, d) room = absurd (omega (arith, c, d))
      go l first h small x y z k t held hx (spell_list j m ys f b q g c p r v u, d) room = absurd (not_union t.code c d)
      go l first h small x y z k t held hx (spell_union j m ys b q g c p r v u, d) room = absurd (never (byte_stands (subst (Stands w place) b (held_stands held hx))))
