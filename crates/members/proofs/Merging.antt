-- One child into a row of children, and one after the other.
use Prim.Native.Nat.{ℕ, ◌+◌, ◌*◌, ◌≤◌, ◌<◌}
use native.Mathlib.Omega.{arith}
use mathlib.Core.Path.{◌≡◌, refl, sym, ap, subst, ◌∙◌}
use mathlib.Core.List.{List, [], ◌∷◌, ◌++◌, append_assoc}
use mathlib.Core.Bool.{Bool, true, false}
use lib.ListN.{length, length-append}
use lib.Dec.{eqb}
use Rattle.model.specs.Bytes.{Bytes, choose}
use Rattle.model.specs.Numbers.{equal_child_clash}
use Rattle.buffer.specs.declared.refusal.Number.{Number}
use Rattle.model.specs.Tree.{FieldOver, Field}
use Rattle.model.specs.Sheet.{each}
use Rattle.model.specs.Equal.{same_field, same_type}
use Rattle.model.specs.Merge.{done, clash, need, ◌>>=◌, merge_child}
use Rattle.model.proofs.Lists.{every_append}
use Rattle.model.proofs.Gives.{choose_true, choose_false}
use Rattle.walk.specs.Stands.{Stands, SkipsMember, member_bytes}
use Rattle.table.specs.Held.{Held}
use Rattle.table.specs.Table.{u24, no_place}
use Rattle.table.specs.Edits.{InsertsPlace}
use Rattle.table.specs.Says.{Merged}
use Rattle.std.proofs.Common.{Ok, Err}
use Rattle.table.proofs.Held.{held_length, held_stands, held_as}
use Rattle.table.proofs.Numbers.{length_u24}
use Rattle.table.proofs.Places.{length_each_place, refer_length, places_none, places_front, places_join}
use Rattle.table.proofs.Pouring.{One, Pouring, pouring_again, pouring_stop, pouring_done}
use Rattle.members.specs.declared.Match.{Match}
use Rattle.members.specs.declared.Match.TheVariants.{SameId, OtherId, Missing}
use Rattle.members.specs.Rows.{WholeChild, Members, by_id, first_equal}
use Rattle.members.proofs.Members.{child_skips}
use Rattle.members.specs.Claims.{FindsMember, MergesMember, MergesMembers}

-- What the first equal child says of the merge

module _ {T : Type 0} (eq : T → T → Bool) (f : FieldOver T) where
  abbrev Outcome : List (FieldOver T) → ℕ → Match → Type 0
  Outcome ks place SameId = merge_child eq ks f ≡ done ks
  Outcome ks place OtherId = merge_child eq ks f ≡ clash equal_child_clash
  Outcome ks place (Missing end) = (end ≡ place + 3 * length ks) × (merge_child eq ks f ≡ done (ks ++ (f ∷ [])))

  -- the first is equal
  outcome_here : (g : FieldOver T) (gs : List (FieldOver T)) (place : ℕ) → same_field eq f g ≡ true → (b : Bool) → eqb g.head.type_id f.head.type_id ≡ b → Outcome (g ∷ gs) place (by_id b)
  unfolding by_id merge_child need
  outcome_here g gs place e true i = choose_true _ _ _ e ∙ ap (λ b. need b equal_child_clash (g ∷ gs)) i
  outcome_here g gs place e false i = choose_true _ _ _ e ∙ ap (λ b. need b equal_child_clash (g ∷ gs)) i

  -- the first is another
  outcome_on : (g : FieldOver T) (gs : List (FieldOver T)) (place : ℕ) → same_field eq f g ≡ false → (m : Match) → Outcome gs (place + 3) m → Outcome (g ∷ gs) place m
  unfolding merge_child ◌>>=◌
  outcome_on g gs place e SameId h = choose_false _ _ _ e ∙ ap (λ r. r >>= λ r. done (g ∷ r)) h
  outcome_on g gs place e OtherId h = choose_false _ _ _ e ∙ ap (λ r. r >>= λ r. done (g ∷ r)) h
  outcome_on g gs place e (Missing end) h = (omega (arith, h.0), choose_false _ _ _ e ∙ ap (λ r. r >>= λ r. done (g ∷ r)) h.1)

  pub outcome : (ks : List (FieldOver T)) (place : ℕ) → Outcome ks place (first_equal eq f place ks)
  unfolding first_equal merge_child choose
  outcome [] place = (omega arith, refl)
  outcome (g ∷ gs) place = go (outcome gs (place + 3)) (same_field eq f g) refl
    where
      go : Outcome gs (place + 3) (first_equal eq f (place + 3) gs) → (b : Bool) → same_field eq f g ≡ b → Outcome (g ∷ gs) place (choose b (λ u. by_id (eqb g.head.type_id f.head.type_id)) λ u. first_equal eq f (place + 3) gs)
      go h true e = outcome_here g gs place e (eqb g.head.type_id f.head.type_id) refl
      go h false e = outcome_on g gs place e (first_equal eq f (place + 3) gs) h

module _ {levels : ℕ} {s w : Bytes} {used row q : ℕ} {m : Match} (find : FindsMember levels s w row q m) where
  -- the outcome of a row
  told : {x y z : Bytes} {k : ℕ} (l : ℕ) (ks : List (Field l)) (f : Field l) → l ≤ levels → Held w used x y z → row ≡ length x → Members l s k y ks → Stands s q (member_bytes l f) → WholeChild l f
      → (n : Match) → m ≡ n → Outcome (same_type l) f ks row n
  told {x} {y} {z} {k} l ks f i h hx p st v n e =
      subst (Outcome (same_type l) f ks row) (sym (find l f i st v k y ks p.places p.whole (held_stands h hx)) ∙ e) (outcome (same_type l) f ks row)

  -- the equal child has the id
  pub merge_there : m ≡ SameId → MergesMember levels row q s w used w (Ok used)
  merge_there e l i = record {
    says = λ x y z k ks f h hx p st v small room. record {
      value = ks;
      spelt = y;
      room = k;
      is = told l ks f i h hx p st v SameId e;
      spells = p;
      fits = omega arith;
      held = h;
    };
  }

  -- it has another
  pub merge_clash : m ≡ OtherId → MergesMember levels row q s w used w (Err Number.EqualChildClash)
  merge_clash e l i = record { says = λ x y z k ks f h hx p st v small room. told l ks f i h hx p st v OtherId e }

  -- no child is equal: the place goes before the mark
  pub merge_new : {end u : ℕ} {w' : Bytes} → m ≡ Missing end → InsertsPlace end q w used w' u → MergesMember levels row q s w used w' (Ok u)
  merge_new {end} {u} {w'} e ins l i = record {
    says = λ x y z k ks f h hx p st v small room.
        let t = told l ks f i h hx p st v (Missing end) e in
        let ps = p.places.places in
        let b = each u24 ps in
        let n = length_each_place ps in
        let size : length y ≡ 3 * length ps + 3 = omega (arith, ap length p.places.bytes, length-append b (u24 no_place), length_u24 no_place, n) in
        let h2 : Held w used (x ++ b) [] (u24 no_place ++ z) = held_as h (ap (λ y. x ++ (y ++ z)) p.places.bytes ∙ simp append_assoc) in
        let (j, h3) = ins (x ++ b) (u24 no_place ++ z) h2 (omega (arith, t.0, hx, refer_length p.places.refer, length-append x b, n))
        (omega (arith, room, held_length h, size, p.places.room)) in
        record {
          value = ks ++ (f ∷ []);
          spelt = b ++ (u24 q ++ u24 no_place);
          room = 3 * length ps + 6;
          is = t.1;
          spells = record { places = places_join p.places.refer (places_front small st places_none); whole = every_append (WholeChild l) ks (f ∷ []) p.whole (v, tt) };
          fits = omega (arith, p.places.room);
          held = held_as h3 (simp append_assoc);
        };
  }

-- One after the other

abbrev pub Merging : (levels : ℕ) (s w₀ w : Bytes) (used row q count end place left : ℕ) → Type 0
Merging levels s w₀ w used row q count end place left =
    Pouring (λ l. merge_child (same_type l)) member_bytes WholeChild levels s row (λ l. Members l s) (MergesMembers levels row q count s w₀ used) (λ l. Members l s) w end place left

pub merging_begin : {levels : ℕ} {s w : Bytes} (used row q count : ℕ) {left : ℕ} → left ≡ count → Merging levels s w w used row q count used q left
merging_begin used row q count e = record {
  rest = λ w' r m l low. record { says = λ x y z k a bs h hx p st v n small. m l bs low small v (n ∙ sym e) st x y z k a h hx p };
}

module _ {levels : ℕ} {s w₀ w : Bytes} {used row q count end place left : ℕ} (t : Merging levels s w₀ w used row q count end place left) where
  module _ {w' : Bytes} {r : Merged} (more : 0 < left) (merges : MergesMember levels row place s w end w' r) where
    one : One (λ l. merge_child (same_type l)) member_bytes WholeChild levels s row (λ l. Members l s) (λ l. Members l s) w end place w' r
    one l f low small v st x y z k a h hx p = (merges l low).says x y z k a f h hx p st v (omega (arith, st.inside, small))

    pub merging_again : {next place' left' : ℕ} → length w' ≡ length w → r ≡ Ok next → SkipsMember s place levels place' → left ≡ left' + 1 → Merging levels s w₀ w' used row q count next place' left'
    merging_again size e skips less = pouring_again _ _ _ _ _ _ _ t (λ l. Members l s) more one size e (child_skips skips) less

    pub merging_stop : {c : Number} → r ≡ Err c → MergesMembers levels row q count s w₀ used w' r
    merging_stop e = pouring_stop _ _ _ _ _ _ _ t (λ l. Members l s) more one e

  pub merging_done : left ≤ 0 → MergesMembers levels row q count s w₀ used w (Ok end)
  merging_done none = pouring_done _ _ _ _ _ _ _ t (λ l k y a p. p) none
