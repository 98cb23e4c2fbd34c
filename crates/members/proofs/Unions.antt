-- The merge of two unions: opened, the children poured in, no id twice.
use Prim.Native.Nat.{ℕ, suc, ◌+◌, ◌*◌, ◌≤◌}
use native.Mathlib.Omega.{arith}
use mathlib.Core.Path.{◌≡◌, refl, sym, ap, subst, ◌∙◌}
use mathlib.Core.List.{List, ◌∷◌, ◌++◌, append_assoc}
use mathlib.Core.Bool.{Bool, true, false}
use lib.ListN.{length, length-append}
use Rattle.model.specs.Bytes.{Bytes, choose}
use Rattle.model.specs.Numbers.{type_id_clash}
use Rattle.model.specs.Tree.{DataType, Field, Union, with_children}
use Rattle.model.specs.Sheet.{each, type_bytes}
use Rattle.model.specs.Equal.{same_type}
use Rattle.model.specs.Merge as model
use Rattle.model.specs.Merge.{need, ◌>>=◌, pour, merge_child, ids_differ, is_null, merge_type, merge_same_code}
use Rattle.buffer.specs.declared.refusal.Number.{Number}
use Rattle.walk.specs.Stands.{member_bytes}
use Rattle.walk.proofs.Parts.{Ahead}
use Rattle.table.specs.Held.{Held}
use Rattle.table.specs.Table.{open_union, u24, spell_union, SpellType}
use Rattle.table.specs.Says.{Merged, Says, Took}
use Rattle.table.specs.Becomes.{IncomingType, Coded}
use Rattle.std.proofs.Common.{Ok, Err}
use Rattle.table.proofs.Held.{held_stands, held_as}
use Rattle.table.proofs.Numbers.{length_u24}
use Rattle.table.proofs.Opening.{inner_is}
use Rattle.members.specs.Rows.{Members}
use Rattle.members.specs.Claims.{FindsChildren, TellsIds, MergesMembers, OpenedUnion, OpensUnion, merge_union, MergesUnion}
use Rattle.members.proofs.Members.{union_parts, union_long}

module _ {levels : ℕ} {s w w₁ w₂ : Bytes} {used place t end row n first : ℕ} {r : Merged}
    (size : length w₁ ≡ length w) (opens : OpensUnion levels place s w used w₁ end) (a : Ahead w₁ place 4 row) (finds : FindsChildren s t n first)
    (merges : MergesMembers levels row first n s w₁ end w₂ r) where
  -- what an answer says of the children of both, merged between x, kind and place, and z
  abbrev Answers : (l : ℕ) {k : ℕ} {b : DataType (suc l)} {x z : Bytes} → OpenedUnion l s k b w₁ end x z → DataType (suc l) → Merged → Type 0
  Answers l {k} {b} {x} {z} o u v =
      Says (Members l s) (o.row_room + 4 * length (each (member_bytes l) u.children)) (x ++ (open_union ∷ u24 o.place)) z w₂ v (pour (merge_child (same_type l)) b.children u.children)

  record Poured (l : ℕ) (k : ℕ) (b u : DataType (suc l)) (x z : Bytes) : Type 0 where
    opened : OpenedUnion l s k b w₁ end x z
    inner : row ≡ length (x ++ (open_union ∷ u24 opened.place))
    says : Answers l opened u r
    long : length (type_bytes (suc l) u) ≡ 4 + length (each (member_bytes l) u.children)
    code : b.code ≡ Union

  answered : (l : ℕ) {k : ℕ} {b u : DataType (suc l)} {x z : Bytes} (p : Poured l k b u x z) {v : Merged} → r ≡ v → Answers l p.opened u v
  answered l {k} {b} {u} {x} {z} p e = subst (Answers l p.opened u) e p.says

  poured : (l : ℕ) (f u : DataType (suc l)) → l ≤ levels → u.code ≡ Union → IncomingType (suc l) s t u → (x y z : Bytes) (k : ℕ) (b : DataType (suc l)) → Held w used x y z → place ≡ length x
      → Coded l s f Union k y b → length x + (k + 4 * length (type_bytes (suc l) u)) + length z ≤ length w → Poured l k b u x z
  poured l f u h c inc x y z k b held hx coded room =
      let o = opens l f h inc.small x y z k b held hx coded (omega (arith, room)) in
      let p = union_parts l inc.ordered u c inc.well_formed in
      let ch = finds l inc.ordered u c inc.well_formed inc.stands in
      let long = union_long l u p in
      let inner = inner_is w₁ refl open_union o.place hx o.held (omega (arith, length-append (u24 o.place) o.row_bytes, length_u24 o.place)) a in
      record {
        opened = o;
        inner = inner;
        says = (merges l h).says (x ++ (open_union ∷ u24 o.place)) o.row_bytes z o.row_room b.children u.children (held_as o.held (simp append_assoc)) inner o.row
            ch.stands p.whole ch.counts inc.small (omega (arith, room, long, o.room, size, length-append x (open_union ∷ u24 o.place), length_u24 o.place));
        long = long;
        code = coded.1;
      }

  -- what the merge of the children gives decides that of the unions
  from_children : (l : ℕ) (b u : DataType (suc l)) {m : model.Merged (List (Field l))} → pour (merge_child (same_type l)) b.children u.children ≡ m
      → merge_union l b u ≡ (m >>= λ ks. need (ids_differ ks) type_id_clash (with_children b ks))
  from_children l b u e = ap (λ m. m >>= λ ks. need (ids_differ ks) type_id_clash (with_children b ks)) e

  -- a clash of a child
  pub union_stop : {c : Number} → r ≡ Err c → MergesUnion levels place t s w used w₂ r
  unfolding ◌>>=◌
  union_stop {c} e =
      λ l f u h i inc x y z k b held hx coded room.
      let p = poured l f u h i inc x y z k b held hx coded room in
      subst (λ t. Says (SpellType (suc l) s f) (k + 4 * length (type_bytes (suc l) u)) x z w₂ t (merge_union l b u)) (sym e)
      (from_children l b u (answered l p e))

  module _ {next : ℕ} (e : r ≡ Ok next) {d : Bool} (tells : TellsIds s w₂ row d) where
    -- the verdict on their ids is the union's
    by_ids : (l : ℕ) {j : ℕ} {x z : Bytes} (b u : DataType (suc l)) → row ≡ length x → (o : Took (Members l s) j x z w₂ next (pour (merge_child (same_type l)) b.children u.children))
        → merge_union l b u ≡ need d type_id_clash (with_children b o.value)
    unfolding ◌>>=◌
    by_ids l b u i o =
        from_children l b u o.is
        ∙ ap (λ d. need d type_id_clash (with_children b o.value)) (sym (tells l o.room o.spelt o.value o.spells.places (held_stands o.held i)))

    -- they differ
    pub union_done : d ≡ true → MergesUnion levels place t s w used w₂ (Ok next)
    unfolding need
    union_done g =
        λ l f u h i inc x y z k b held hx coded room.
        let p = poured l f u h i inc x y z k b held hx coded room in
        let o = answered l p e in
        record {
          value = with_children b o.value;
          spelt = open_union ∷ (u24 p.opened.place ++ o.spelt);
          room = 4 + o.room;
          is = by_ids l b u p.inner o ∙ ap (λ d. need d type_id_clash (with_children b o.value)) g;
          spells = spell_union p.opened.place o.room o.spelt refl p.opened.small p.opened.code p.code p.opened.params o.spells.places o.spells.whole (omega arith);
          fits = omega (arith, o.fits, p.opened.room, p.long);
          held = held_as o.held (simp append_assoc);
        }

    -- an id is there twice
    pub union_clash : d ≡ false → MergesUnion levels place t s w used w₂ (Err Number.TypeIdClash)
    unfolding need
    union_clash g =
        λ l f u h i inc x y z k b held hx coded room.
        let p = poured l f u h i inc x y z k b held hx coded room in
        let o = answered l p e in
        by_ids l b u p.inner o ∙ ap (λ d. need d type_id_clash (with_children b o.value)) g

-- where both are unions, this is the merge of two types of one code
pub union_arm : (parked : Bool) (l : ℕ) (b u : DataType (suc l)) → b.code ≡ Union → merge_same_code parked (merge_type parked l) (is_null l) (same_type l) b u ≡ merge_union l b u
unfolding merge_same_code choose
union_arm parked l b u e = rw e
