-- The entry of a field that nothing was merged into yet.
use Prim.Native.Nat.{ℕ, zero, suc, ◌*◌, ◌/◌, ◌%◌, ◌<◌}
use native.Mathlib.Omega.{arith}
use mathlib.Core.Path.{◌≡◌, refl, ap, subst, ◌∙◌}
use mathlib.Core.List.{[], ◌∷◌, ◌++◌}
use mathlib.Core.Bool.{false}
use lib.ListN.{length, get_or, length-append}
use lib.Dec.{eqb}
use borrow.Author.Tests.{ne_eqb}
use Rattle.model.specs.Bytes.{Bytes, flag}
use Rattle.model.specs.Tree.{Head, Field}
use Rattle.model.specs.Sheet.{front_bytes, dict_id_bytes, part, with_count, pair_bytes, text_bytes, head_bytes, field_bytes, type_bytes}
use Rattle.walk.specs.Stands.{Stands, Skips}
use Rattle.model.proofs.MapBits as map
use Rattle.model.proofs.MapBits.{is_one}
use Rattle.walk.proofs.Parts.{map_stands}
use Rattle.walk.proofs.Descents.{head_stands, type_stands}
use Rattle.table.specs.Held.{Held}
use Rattle.table.specs.Table.{raw, u24, SpellField, SpellType, spell_raw, raw_pairs}
use Rattle.table.specs.Becomes.{Incoming}
use Rattle.table.specs.Opened.{NewEntry}

-- the nullable bit of a field that stands in the train
pub nullable_bit : {s : Bytes} {q map : ℕ} (l : ℕ) (g : Field l) → map ≡ get_or s q 0 → Stands s q (field_bytes (type_bytes l) g) → map % 2 ≡ flag 1 g.head.nullable
nullable_bit l g e st = ap (λ n. n % 2) (map_stands e g.head (head_stands l g st)) ∙ map.nullable_bit g.head

-- and its order bit
pub order_bit : {s : Bytes} {q map : ℕ} (l : ℕ) (g : Field l) → map ≡ get_or s q 0 → Stands s q (field_bytes (type_bytes l) g) → map / 2 % 2 ≡ flag 1 g.head.dict_is_ordered
order_bit l g e st = ap (λ n. n / 2 % 2) (map_stands e g.head (head_stands l g st)) ∙ map.order_bit g.head

module _ {s : Bytes} {q t map : ℕ} (e : map ≡ get_or s q 0) (f : (h : Head) → Skips s q (head_bytes h) t) where
  abbrev entry : Bytes
  entry = map % 4 ∷ (u24 q ++ (raw ∷ u24 t))

  pub new_entry : (l : ℕ) (g : Field l) → Incoming l s q g → SpellField l s (4 * length (field_bytes (type_bytes l) g)) entry g
  unfolding field_bytes front_bytes head_bytes
  new_entry l g i =
      let st = i.stands in
      let n = length-append (head_bytes g.head) (type_bytes l g.data_type) in
      let m = length-append (part text_bytes g.head.name) (part (with_count pair_bytes) g.head.metadata) in
      record {
        flags = map % 4;
        first = q;
        own = g;
        metadata_bytes = [];
        type_spelt = raw ∷ u24 t;
        metadata_room = 4 * length (part (with_count pair_bytes) g.head.metadata);
        type_room = 4 * length (type_bytes l g.data_type);
        bytes = refl;
        small_flags = omega arith;
        small = omega (arith, i.small, st.inside);
        stands = st;
        well_formed = i.well_formed;
        name = refl;
        dict_is_ordered = is_one (map % 4 / 2 % 2) g.head.dict_is_ordered (omega (arith, order_bit l g e st));
        dict_id = refl;
        type_id = i.type_id;
        nullable = is_one (map % 4 % 2) g.head.nullable (omega (arith, nullable_bit l g e st));
        metadata = raw_pairs (closed (map % 4) (omega arith)) refl refl (omega arith);
        data_type = raw_type l g i;
        room = omega (arith, n, m, length-append (front_bytes g.head) (dict_id_bytes g.head.dict_id));
      }
    where
      closed : (n : ℕ) → n < 4 → eqb (n / 4) 1 ≡ false
      closed n h = ne_eqb (n / 4) 1 λ z. omega (arith, h, z)

      raw_type : (l : ℕ) (g : Field l) → Incoming l s q g → SpellType l s g.data_type (4 * length (type_bytes l g.data_type)) (raw ∷ u24 t) g.data_type
      raw_type zero g i = absurd g.data_type
      raw_type (suc l) g i =
          spell_raw t refl
          (record {
            small = omega (arith, i.small, (type_stands (suc l) g f i.stands).inside);
            stands = type_stands (suc l) g f i.stands;
            ordered = g.head.dict_is_ordered;
            well_formed = i.well_formed.data_type;
            room = omega arith;
          }) λ z. refl

-- its eight bytes, of which its places are three each
eight : (f q t : ℕ) {v u : Bytes} → v ≡ u24 q → u ≡ u24 t
    → ◌≡◌ {A = Bytes} (f ∷ get_or v 0 0 ∷ get_or v 1 0 ∷ get_or v 2 0 ∷ raw ∷ get_or u 0 0 ∷ get_or u 1 0 ∷ get_or u 2 0 ∷ []) (f ∷ (u24 q ++ (raw ∷ u24 t)))
unfolding u24
eight f q t e i = rw (e, i)

-- between x and z
pub entry_inserted : {s : Bytes} {q t map : ℕ} → map ≡ get_or s q 0 → ((h : Head) → Skips s q (head_bytes h) t) → {v u : Bytes} → v ≡ u24 q → u ≡ u24 t
    → (l : ℕ) (f : Field l) {w' x z : Bytes} {used : ℕ} → Incoming l s q f
    → Held w' used x (map % 4 ∷ get_or v 0 0 ∷ get_or v 1 0 ∷ get_or v 2 0 ∷ raw ∷ get_or u 0 0 ∷ get_or u 1 0 ∷ get_or u 2 0 ∷ []) z → NewEntry l s f w' used x z
entry_inserted {s} {q} {t} {map} e k i j l f {w'} {x} {z} {used} n h =
    record { bytes = map % 4 ∷ (u24 q ++ (raw ∷ u24 t)); spelt = new_entry e k l f n; held = subst (λ y. Held w' used x y z) (eight (map % 4) q t i j) h }
