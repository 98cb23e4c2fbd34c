-- The searches in a row of children: the first equal one, an id, an id twice.
use Prim.Native.Nat.{ℕ, zero, suc, ◌+◌, ◌*◌, ◌≤◌, ◌<◌}
use native.Mathlib.Omega.{arith}
use mathlib.Core.Path.{◌≡◌, refl, sym, ap, subst, ◌∙◌}
use mathlib.Core.List.{List, map}
use mathlib.Core.Bool.{Bool, true, false, not, ◌&&◌, ◌||◌}
use mathlib.Core.Logic.{◌⊎◌, inl, inr}
use lib.ListN.{length, get_or}
use lib.Dec.{eqb}
use Rattle.std.proofs.Common.{Option, Some, None}
use Rattle.std.specs.Option.{MatchOption}
use Rattle.std.specs.List.{AllWithin, HoldsAt, list_any}
use Rattle.model.specs.Bytes.{Bytes, Every, among}
use Rattle.model.specs.Tree.{Field}
use Rattle.model.specs.Equal.{same_type}
use Rattle.model.specs.Merge.{ids_differ}
use Rattle.model.proofs.Gives.{choose_true, choose_false}
use Rattle.walk.specs.Stands.{Stands, member_bytes}
use Rattle.walk.proofs.Standing.{byte_stands, stands_behind, skip_ahead}
use Rattle.table.specs.Table.{u24, three, no_place, places_bytes, Refer, none_left, one_place, Places}
use Rattle.table.specs.Row.{GivesPlace}
use Rattle.table.specs.declared.PlaceRow.{PlaceRow}
use Rattle.table.proofs.Entries.{refer_small}
use Rattle.table.proofs.Numbers.{length_u24}
use Rattle.table.proofs.Places.{length_places, front_none, front_split, front_place}
use Rattle.members.specs.declared.Match.{Match}
use Rattle.members.specs.declared.Match.TheVariants.{Missing}
use Rattle.members.specs.Rows.{WholeChild, by_id, first_equal}
use Rattle.members.specs.Claims.{SameMembers, FindsMember, FindsId, TellsIds}

-- The first equal child

module _ {levels : ℕ} {s : Bytes} {q l : ℕ} (f : Field l) (i : l ≤ levels) (st : Stands s q (member_bytes l f)) (v : WholeChild l f) where
  -- none is equal
  missing : {ps : List ℕ} {ks : List (Field l)} → Refer s (member_bytes l) ps ks → Every (WholeChild l) ks → AllWithin (λ p. SameMembers s q p levels false) ps 0 (length ps)
      → (row : ℕ) → Missing (row + 3 * length ps) ≡ first_equal (same_type l) f row ks
  unfolding first_equal
  missing none_left g a row = ap Missing (omega arith)
  missing (one_place {p = p} {ps = ps} {x = x} h u r) g a row =
      ap Missing (omega arith) ∙ missing r g.1 (λ k d lo hi. a (suc k) d (omega arith) (omega (arith, hi))) (row + 3)
      ∙ sym (choose_false _ _ _ (sym (a 0 p (omega arith) (omega arith) l f x i v g.0 st u)))

  -- one is, and none before it
  found : {there : ℕ} {m : Match} → SameMembers s q there levels true → m ≡ by_id (eqb (get_or s there 0) (get_or s q 0))
      → {ps : List ℕ} {ks : List (Field l)} → Refer s (member_bytes l) ps ks → Every (WholeChild l) ks → (n : ℕ) → n < length ps → HoldsAt (λ p. p ≡ there) ps n
      → AllWithin (λ p. SameMembers s q p levels false) ps 0 n → (row : ℕ) → m ≡ first_equal (same_type l) f row ks
  unfolding first_equal
  found c j none_left g n less here a row = absurd (omega (arith, less))
  found {there} c j (one_place {p = p} {ps = ps} {x = x} h u r) g zero less here a row =
      let w : Stands s there (member_bytes l x) = subst (λ n. Stands s n (member_bytes l x)) (here 0) u in
      j ∙ ap (λ n. by_id (eqb n (get_or s q 0))) (byte_stands w) ∙ ap (λ n. by_id (eqb x.head.type_id n)) (byte_stands st) ∙ sym (choose_true _ _ _ (sym (c l f x i v g.0 st w)))
  found {there} c j (one_place {p = p} {ps = ps} {x = x} h u r) g (suc n) less here a row =
      found c j r g.1 n (omega (arith, less)) here (λ k d lo hi. a (suc k) d (omega arith) (omega (arith, hi))) (row + 3)
      ∙ sym (choose_false _ _ _ (sym (a 0 p (omega arith) (omega arith) l f x i v g.0 st u)))

-- what a search for an equal child finds in a row of places
abbrev pub Finding : (levels : ℕ) (s : Bytes) (q : ℕ) (ps : List ℕ) → Option ℕ → Type 0
Finding levels s q ps r = MatchOption r (AllWithin (λ p. SameMembers s q p levels false) ps 0 (length ps))
    (λ there. SameMembers s q there levels true × (n : ℕ) × (n < length ps) × HoldsAt (λ p. p ≡ there) ps n × AllWithin (λ p. SameMembers s q p levels false) ps 0 n)

module _ {levels : ℕ} {s w : Bytes} {row q : ℕ} where
  pub find_here : {there : ℕ} {m : Match} → ((ps : List ℕ) → Every (λ p. p < no_place) ps → Stands w row (places_bytes ps) → Finding levels s q ps (Some there))
      → m ≡ by_id (eqb (get_or s there 0) (get_or s q 0)) → FindsMember levels s w row q m
  find_here h j l f i st v k y ks p g u =
      let (c, n, less, here, a) = h p.places (refer_small p.refer) (subst (Stands w row) p.bytes u) in
      found f i st v c j p.refer g n less here a row

  pub find_none : {end : ℕ} → ((ps : List ℕ) → Every (λ p. p < no_place) ps → Stands w row (places_bytes ps) → Finding levels s q ps None × (end ≡ row + 3 * length ps)) → FindsMember levels s w row q (Missing end)
  find_none h l f i st v k y ks p g u =
      let (a, e) = h p.places (refer_small p.refer) (subst (Stands w row) p.bytes u) in
      ap Missing e ∙ missing f i st v p.refer g a row

-- An id

-- an id among those of children
abbrev id_among : (l id : ℕ) → List (Field l) → Bool
id_among l id ks = among id (map (λ g. g.head.type_id) ks)

-- whether one of the places has the id
abbrev pub has_at : Bytes → ℕ → ℕ → Bool
has_at s id p = eqb id (get_or s p 0)

any_id : {s : Bytes} (id l : ℕ) {ps : List ℕ} {ks : List (Field l)} → Refer s (member_bytes l) ps ks → list_any (has_at s id) ps ≡ id_among l id ks
unfolding among
any_id id l none_left = refl
any_id {s} id l (one_place {p = p} {ps = ps} {x = x} {xs = xs} h st r) =
    ap (λ n. eqb id n || list_any (has_at s id) ps) (byte_stands st) ∙ ap (λ t. eqb id x.head.type_id || t) (any_id id l r)

pub id_found : {s w : Bytes} {row : ℕ} (id : ℕ) {r : Bool} → ((ps : List ℕ) → Every (λ p. p < no_place) ps → Stands w row (places_bytes ps) → r ≡ list_any (has_at s id) ps) → FindsId s w row id r
id_found {w = w} {row} id f l k y ks p st = f p.places (refer_small p.refer) (subst (Stands w row) p.bytes st) ∙ any_id id l p.refer

-- An id twice

-- the children whose places stand from the place on; ids repeat among all where they do among them
record Left (l : ℕ) (s w : Bytes) (place : ℕ) (ks : List (Field l)) : Type 0 where
  places : List ℕ
  rest : List (Field l)
  refer : Refer s (member_bytes l) places rest
  stands : Stands w place (places_bytes places)
  same : ids_differ rest ≡ ids_differ ks

-- of each row that stands at `row`
pub record Differing (s w : Bytes) (row place : ℕ) : Type 0 where
  left : (l k : ℕ) (y : Bytes) (ks : List (Field l)) → Places s (member_bytes l) k y ks → Stands w row y → Left l s w place ks

pub differ_begin : {s w : Bytes} {row place : ℕ} → place ≡ row → Differing s w row place
differ_begin {w = w} e = record {
  left = λ l k y ks p st. record { places = p.places; rest = ks; refer = p.refer; stands = subst (λ n. Stands w n (places_bytes p.places)) (sym e) (subst (Stands w _) p.bytes st); same = refl };
}

module _ {s w : Bytes} {row place : ℕ} (d : Differing s w row place) where
  -- at the mark, or past the end of the table
  differ_out : (three w place ≡ no_place) ⊎ (length w ≤ place) → TellsIds s w row true
  unfolding ids_differ
  differ_out h l k y ks p st = go (d.left l k y ks p st) h
    where
      go : Left l s w place ks → (three w place ≡ no_place) ⊎ (length w ≤ place) → true ≡ ids_differ ks
      go t (inr i) = absurd (omega (arith, i, t.stands.inside, length_places t.places))
      go t (inl e) = of t.refer t.stands t.same
        where
          of : {ps : List ℕ} {qs : List (Field l)} → Refer s (member_bytes l) ps qs → Stands w place (places_bytes ps) → ids_differ qs ≡ ids_differ ks → true ≡ ids_differ ks
          of none_left u i = i
          of (one_place {p = a} {ps = bs} g v r) u i = absurd (omega (arith, g, e, front_place a bs g u))

  module _ {there : ℕ} (e : there ≡ three w place) (never : there ≡ no_place → ⊥) {n : ℕ} (b : n ≡ get_or s there 0) {t : Bool} (f : FindsId s w (place + 3) n t) where
    -- the children behind the one that stands here
    turn : {l : ℕ} {ks : List (Field l)} → Left l s w place ks
        → (ps : List ℕ) × (xs : List (Field l)) × Refer s (member_bytes l) ps xs × Stands w (place + 3) (places_bytes ps) × ((not t && ids_differ xs) ≡ ids_differ ks)
    unfolding ids_differ
    turn {l} {ks} left = of left.refer left.stands left.same
      where
        of : {ps : List ℕ} {qs : List (Field l)} → Refer s (member_bytes l) ps qs → Stands w place (places_bytes ps) → ids_differ qs ≡ ids_differ ks
            → (ps : List ℕ) × (xs : List (Field l)) × Refer s (member_bytes l) ps xs × Stands w (place + 3) (places_bytes ps) × ((not t && ids_differ xs) ≡ ids_differ ks)
        of none_left u i = absurd (never (e ∙ front_none u))
        of (one_place {p = a} {ps = bs} {x = x} {xs = xs} g v r) u i =
            let here = byte_stands (subst (λ m. Stands s m (member_bytes l x)) (sym (e ∙ front_place a bs g u)) v) in
            let behind : Stands w (place + 3) (places_bytes bs) = stands_behind (skip_ahead (u24 a) (length_u24 a) λ z. refl) (front_split a bs u) in
            let twice = f l (3 * length bs + 3) (places_bytes bs) xs (record { places = bs; bytes = refl; refer = r; room = omega arith }) behind in
            (bs, xs, r, behind, ap (λ t. not t && ids_differ xs) (twice ∙ ap (λ m. id_among l m xs) (b ∙ here)) ∙ i)

    differ_not : t ≡ true → TellsIds s w row false
    differ_not i l k y ks p st = let (ps, xs, r, u, j) = turn (d.left l k y ks p st) in ap (λ t. not t && ids_differ xs) (sym i) ∙ j

    differ_again : {place' : ℕ} → t ≡ false → place' ≡ place + 3 → Differing s w row place'
    differ_again i m = record {
      left = λ l k y ks p st.
          let (ps, xs, r, u, j) = turn (d.left l k y ks p st) in
          record { places = ps; rest = xs; refer = r; stands = subst (λ n. Stands w n (places_bytes ps)) (sym m) u; same = ap (λ t. not t && ids_differ xs) (sym i) ∙ j };
    }

-- The turns of the loop over the row

module _ {s w : Bytes} {row : ℕ} (r u : PlaceRow) (k : (r.w.now ≡ w) × Differing s w row r.at) where
  pub differ_end : GivesPlace r None u → TellsIds s w row true
  differ_end g = differ_out k.1 (subst (λ (v : Bytes). (three v r.at ≡ no_place) ⊎ (length v ≤ r.at)) k.0 g.1.1)

  module _ {there n : ℕ} (g : GivesPlace r (Some there) u) (b : n ≡ get_or s there 0) {t : Bool} (f : FindsId s u.w.now u.at n t) where
    is_there : there ≡ three w r.at
    is_there = g.1.0 ∙ ap (λ (v : Bytes). three v r.at) k.0

    finds : FindsId s w (r.at + 3) n t
    finds = subst (λ (p : ℕ). FindsId s w p n t) g.1.3 (subst (λ (v : Bytes). FindsId s v u.at n t) (g.0 ∙ k.0) f)

    pub differ_stop : t ≡ true → TellsIds s w row false
    differ_stop = differ_not k.1 is_there g.1.1 b finds

    pub differ_on : t ≡ false → (u.w.now ≡ w) × Differing s w row u.at
    differ_on i = (g.0 ∙ k.0, differ_again k.1 is_there g.1.1 b finds i g.1.3)
