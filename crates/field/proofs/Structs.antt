-- Structs: the first's own children, then the other's, by name.
use Prim.Native.Nat.{ℕ, suc, ◌+◌, ◌*◌, ◌≤◌, ◌<◌}
use native.Mathlib.Omega.{arith}
use mathlib.Core.Path.{◌≡◌, refl, sym, ap, subst, ◌∙◌}
use mathlib.Core.List.{List, [], ◌∷◌, ◌++◌, append_assoc, append-nil}
use mathlib.Core.Bool.{Bool}
use mathlib.Core.Logic.{◌⊎◌, inl, inr}
use lib.ListN.{length, get_or, length-append}
use Rattle.model.specs.Bytes.{Bytes, Every, u16}
use Rattle.model.specs.Tree.{DataType, Field, with_children, List', LargeList, Struct, layout, table}
use Rattle.model.specs.Sheet.{each, with_count, field_bytes, children_bytes, type_bytes}
use Rattle.model.specs.WellFormed.{WellFormedParams, WellFormedField, WellFormedChildren, WellFormedType}
use Rattle.model.specs.Merge as model
use Rattle.model.specs.Merge.{◌>>=◌, done, clash, merge_field, merge_type, is_null, pour}
use Rattle.model.proofs.Gives.{pour_append}
use Rattle.model.proofs.Grows.{distinct_apart, pour_distinct}
use Rattle.model.specs.Growth.{names}
use Rattle.model.proofs.WellFormed.{each_every}
use Rattle.buffer.specs.declared.refusal.Number.{Number}
use Rattle.walk.specs.Stands.{Stands}
use Rattle.walk.proofs.Standing.{byte_stands, stands_behind, skip_ahead}
use Rattle.walk.proofs.Parts.{Ahead, two_at}
use Rattle.walk.proofs.Descents.{code_stands, count_stands, elements_stand}
use Rattle.table.specs.Held.{Held}
use Rattle.table.specs.Table.{raw, open_struct, no_entry, u24, none, SpellRow, SpellType, spell_raw, spell_struct, spell_list, spell_union}
use Rattle.table.specs.Says.{Merged, Says}
use Rattle.table.specs.Becomes.{IncomingFields, Coded}
use Rattle.std.proofs.Common.{Ok, Err}
use Rattle.table.proofs.Numbers.{length_u24}
use Rattle.table.proofs.Held.{held_length, held_stands, held_as}
use Rattle.table.proofs.Says.{says_in}
use Rattle.table.proofs.Types.{raw_there}
use Rattle.table.specs.Look.{NamesPlace}
use Rattle.table.specs.Opened.{OpensRow}
use Rattle.field.specs.Claims.{OpenStruct, OpensStruct, MergesStruct, Pours, by_name}

-- The children of a well-formed struct, as they stand in the train

record Children (l : ℕ) (a : DataType (suc l)) : Type 0 where
  params : a.params ≡ []
  bytes : type_bytes (suc l) a ≡ a.code ∷ with_count (field_bytes (type_bytes l)) a.children
  well_formed : Every (λ g. WellFormedField (WellFormedType l) g × (g.head.type_id ≡ 0)) a.children

struct_children : (l : ℕ) (o : Bool) (a : DataType (suc l)) → a.code ≡ Struct → WellFormedType (suc l) o a → Children l a
unfolding type_bytes children_bytes layout table
struct_children l o a e (c, p, k) =
    let none : a.params ≡ [] = subst (λ n. WellFormedParams (layout n).params a.params) e p in
    record {
      params = none;
      bytes = ap (λ b. a.code ∷ (b ++ children_bytes (type_bytes l) (layout a.code).children a.children)) none ∙ ap (λ n. a.code ∷ children_bytes (type_bytes l) (layout n).children a.children) e;
      well_formed = each_every (λ s g. WellFormedField (WellFormedType l) g × (g.head.type_id ≡ 0)) (λ g. WellFormedField (WellFormedType l) g × (g.head.type_id ≡ 0)) (λ s g w. w) [] a.children
          (subst (λ n. WellFormedChildren (WellFormedType l) (layout n).children a.children) e k);
    }

module _ (l : ℕ) {s : Bytes} {t m n q : ℕ} (a : DataType (suc l)) (c : Children l a) (b : Ahead s t 1 m) (d : n ≡ two_at s m) (f : Ahead s m 2 q) (st : Stands s t (type_bytes (suc l) a)) where
  behind_code : Stands s m (with_count (field_bytes (type_bytes l)) a.children)
  behind_code = stands_behind (skip_ahead (a.code ∷ []) refl b.1) (subst (Stands s t) c.bytes st)

  incoming : length s < 16777215 → IncomingFields l s q n a.children
  unfolding with_count u16
  incoming small = record {
    small = small;
    stands = elements_stand (field_bytes (type_bytes l)) a.children f behind_code;
    counted = sym (d ∙ count_stands (field_bytes (type_bytes l)) a.children behind_code);
    well_formed = c.well_formed;
  }

  struct_long : length (type_bytes (suc l) a) ≡ 3 + length (each (field_bytes (type_bytes l)) a.children)
  unfolding with_count u16
  struct_long = omega (arith, ap length c.bytes)

-- a merge of nothing more
done_same : {A : Type 0} (m : model.Merged A) → (m >>= λ a. done a) ≡ m
unfolding ◌>>=◌
done_same (done a) = refl
done_same (clash n) = refl

-- an open struct around a row
around : (l : ℕ) {s : Bytes} (place j : ℕ) (v : Bytes) (ks : List (Field l)) {k : ℕ} → place < 16777215 → get_or s place 0 ≡ Struct → SpellRow l s j v ks → 4 + j ≤ k → OpenStruct l s k ((open_struct ∷ u24 place) ++ (v ++ [])) ks
around l place j v ks h c r room = record { place = place; row_bytes = v; row_room = j; bytes = ap (λ z. open_struct ∷ (u24 place ++ z)) (append-nil v); small = h; code = c; row = r; room = room }

struct_params : (l : ℕ) {s : Bytes} {first : DataType (suc l)} {k : ℕ} {y : Bytes} {a : DataType (suc l)} → Coded l s first Struct k y a → a.params ≡ []
struct_params l (spell_raw x b r v, d) = (struct_children l r.ordered _ d r.well_formed).params
struct_params l (spell_struct x m ys b q g c p r v, d) = p
struct_params l (spell_list x m ys f b q g c p r v u, d) = p
struct_params l (spell_union x m ys b q g c p r v u, d) = absurd (omega (arith, c, d))

-- in either mode
module _ (parked : Bool) where
  module _ {s w : Bytes} {used place : ℕ} where
    -- it is open: its own children are poured already
    pub struct_open : {levels : ℕ} → get_or w place 0 ≡ open_struct → OpensStruct parked levels place s w used w (Ok used)
    struct_open h = record {
      says = λ l first low small x y z k a held hx p room. go l first x y z k a held hx p;
    }
      where
        go : (l : ℕ) (first : DataType (suc l)) (x y z : Bytes) (k : ℕ) (a : DataType (suc l)) → Held w used x y z → place ≡ length x → Coded l s first Struct k y a
            → Says (OpenStruct l s) (k + 0) x z w (Ok used) (pour (by_name parked l) [] a.children)
        go l first x y z k a held hx (spell_raw i b r v, d) = absurd (omega (arith, h, byte_stands (subst (Stands w place) b (held_stands held hx))))
        go l first x y z k a held hx (spell_struct i m ys b q g c p r v, d) = record {
          value = a.children;
          spelt = y;
          room = k;
          is = pour_distinct (merge_field parked (merge_type parked l) (is_null l)) [] a.children (distinct_apart (names a.children) r.distinct);
          spells = record { place = i; row_bytes = ys; row_room = m; bytes = b; small = q; code = g; row = r; room = v };
          fits = omega arith;
          held = held;
        }
        go l first x y z k a held hx (spell_list i m ys f b q g c p r v u, d) = absurd (list c d)
          where
            list : (a.code ≡ List') ⊎ (a.code ≡ LargeList) → a.code ≡ Struct → ⊥
            list (inl i) j = omega (arith, i, j)
            list (inr i) j = omega (arith, i, j)
        go l first x y z k a held hx (spell_union i m ys b q g c p r v u, d) = absurd (omega (arith, c, d))

  module _ {s w : Bytes} {used place : ℕ} where
    pub struct_poured : {w₁ w₂ : Bytes} {own inner c count opened start levels : ℕ} {r : Merged} → (get_or w place 0 ≡ open_struct → ⊥) → NamesPlace w place own → Ahead w place 4 inner → Ahead s own 1 c
        → count ≡ two_at s c → length w₁ ≡ length w → OpensRow place w used w₁ opened → Ahead s c 2 start → Pours parked levels inner start count s w₁ opened w₂ r → OpensStruct parked levels place s w used w₂ r
    struct_poured {w₁} {w₂} {own} {inner} {c} {count} {opened} {start} {levels} {r} never o f b d same opens g pours = record {
      says = λ l first low small x y z k t held hx p room. go l first low small x y z k t held hx p room;
    }
      where
        go : (l : ℕ) (first : DataType (suc l)) → l ≤ levels → length s < 16777215 → (x y z : Bytes) (k : ℕ) (t : DataType (suc l)) → Held w used x y z → place ≡ length x → Coded l s first Struct k y t
            → length x + (k + 0) + length z ≤ length w → Says (OpenStruct l s) (k + 0) x z w₂ r (pour (by_name parked l) [] t.children)
        go l first low small x y z k t held hx (spell_raw j bs ra v, q) room =
            let cs = struct_children l ra.ordered t q ra.well_formed in
            let held₀ : Held w used x (raw ∷ u24 j) z = subst (λ y. Held w used x y z) bs held in
            let there : own ≡ j = raw_there o j ra.small (held_stands held₀ hx) in
            let st : Stands s own (type_bytes (suc l) t) = subst (λ p. Stands s p (type_bytes (suc l) t)) (sym there) ra.stands in
            let long = struct_long l t cs b d g st in
            let hl = held_length held₀ in
            let head : Bytes = open_struct ∷ u24 j in
            let n₁ = length-append x head in
            let held₁ = opens x z j held₀ hx (omega (arith, room, hl, length_u24 j, ra.room, long)) in
            let held₂ : Held w₁ opened (x ++ head) (no_entry ∷ []) z =
            held_as held₁ (ap (λ v. x ++ v) (append_assoc head (no_entry ∷ []) z) ∙ sym (append_assoc x head (no_entry ∷ z))) in
            let at_row : inner ≡ length (x ++ head) = omega (arith, f.1 (omega (arith, hx, hl, length_u24 j, held₀.fits)), hx, n₁, length_u24 j) in
            let more = 4 * length (each (field_bytes (type_bytes l)) t.children) in
            let says = pours.says l t.children low (incoming l t cs b d g st small) (x ++ head) (no_entry ∷ []) z 1 [] held₂ at_row
            (record { row_bytes = []; row_room = 0; bytes = refl; row = none; distinct = tt; room = omega arith }) (omega (arith, room, same, n₁, length_u24 j, ra.room, long)) in
            subst (λ v. Says (OpenStruct l s) (k + 0) x z w₂ r v) (done_same (pour (by_name parked l) [] t.children))
            (says_in (SpellRow l s) (OpenStruct l s) (1 + more) (k + 0) x head [] z w₂ (λ ks. ks) (pour (by_name parked l) [] t.children)
            (λ i v ks p h. (k + 0, around l j i v ks ra.small (code_stands l t ra.stands ∙ q) p (omega (arith, h, ra.room, long)), omega arith)) r says)
        go l first low small x y z k t held hx (spell_struct i j ys bs q h u p v ro, d) room = absurd (never (byte_stands (subst (Stands w place) bs (held_stands held hx))))
        go l first low small x y z k t held hx (spell_list i j ys y' bs q h u p v ro k', d) room = absurd (list u d)
          where
            list : (t.code ≡ List') ⊎ (t.code ≡ LargeList) → t.code ≡ Struct → ⊥
            list (inl i) j = omega (arith, i, j)
            list (inr i) j = omega (arith, i, j)
        go l first low small x y z k t held hx (spell_union i j ys bs q h u p v ro k', d) room = absurd (omega (arith, u, d))

  -- The two together

  module _ {s w : Bytes} {used place t inner levels : ℕ} (a : Ahead w place 4 inner) {w₁ : Bytes} {got : Merged} (same : length w₁ ≡ length w) (own : OpensStruct parked levels place s w used w₁ got) where
    pub struct_stopped : {n : Number} → got ≡ Err n → MergesStruct parked levels place t s w used w₁ got
    unfolding ◌>>=◌
    struct_stopped {n} c = record {
      says = λ l first u low e i x y z k d held hx p room.
          let m = subst (λ r. Says (OpenStruct l s) (k + 0) x z w₁ r (pour (by_name parked l) [] d.children)) c (own.says l first low i.small x y z k d held hx p (omega (arith, room))) in
          subst (λ r. Says (SpellType (suc l) s first) (k + 4 * length (type_bytes (suc l) u)) x z w₁ r (pour (by_name parked l) [] (d.children ++ u.children) >>= λ ks. done (with_children d ks))) (sym c)
          (ap (λ m. m >>= λ ks. done (with_children d ks)) (pour_append (by_name parked l) [] d.children u.children ∙ ap (λ m. m >>= λ b. pour (by_name parked l) b u.children) m));
    }

    pub struct_merged : {mid c count start : ℕ} {w₂ : Bytes} {r : Merged} → got ≡ Ok mid → Ahead s t 1 c → count ≡ two_at s c → Ahead s c 2 start → Pours parked levels inner start count s w₁ mid w₂ r
        → MergesStruct parked levels place t s w used w₂ r
    unfolding ◌>>=◌
    struct_merged {mid} {c} {count} {start} {w₂} {r} g b d f pours = record {
      says = λ l first u low e i x y z k v held hx p room.
          let m = subst (λ r. Says (OpenStruct l s) (k + 0) x z w₁ r (pour (by_name parked l) [] v.children)) g (own.says l first low i.small x y z k v held hx p (omega (arith, room))) in
          let o = m.spells in
          let head : Bytes = open_struct ∷ u24 o.place in
          let cs = struct_children l i.ordered u e i.well_formed in
          let long = struct_long l u cs b d f i.stands in
          let n₁ = length-append x head in
          let held₁ : Held w₁ mid (x ++ head) o.row_bytes z =
          held_as m.held (ap (λ v. x ++ (v ++ z)) o.bytes ∙ ap (λ v. x ++ v) (append_assoc head o.row_bytes z) ∙ sym (append_assoc x head (o.row_bytes ++ z))) in
          let hl = held_length held₁ in
          let there : inner ≡ length (x ++ head) = omega (arith, a.1 (omega (arith, hx, hl, held₁.fits, same, n₁, length_u24 o.place)), hx, n₁, length_u24 o.place) in
          let more = 4 * length (each (field_bytes (type_bytes l)) u.children) in
          let says = pours.says l u.children low (incoming l u cs b d f i.stands i.small) (x ++ head) o.row_bytes z o.row_room m.value held₁ there o.row
          (omega (arith, room, same, n₁, length_u24 o.place, o.room, m.fits, long)) in
          subst (λ q. Says (SpellType (suc l) s first) (k + 4 * length (type_bytes (suc l) u)) x z w₂ r q)
          (sym (ap (λ m. m >>= λ ks. done (with_children v ks)) (pour_append (by_name parked l) [] v.children u.children ∙ ap (λ m. m >>= λ b. pour (by_name parked l) b u.children) m.is)))
          (says_in (SpellRow l s) (SpellType (suc l) s first) (o.row_room + more) (k + 4 * length (type_bytes (suc l) u)) x head [] z w₂ (λ ks. with_children v ks) (pour (by_name parked l) m.value u.children)
          (λ j q ks sp h. (
            k + 4 * length (type_bytes (suc l) u),
            spell_struct o.place j q (ap (λ z. head ++ z) (append-nil q)) o.small o.code p.1 (struct_params l p) sp (omega (arith, h, o.room, m.fits, long)),
            omega arith,
          )) r says);
    }
