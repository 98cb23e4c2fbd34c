-- What is spelt in the table has no more bytes than its room.
use Prim.Native.Nat.{ℕ, zero, suc, ◌+◌, ◌≤◌}
use native.Mathlib.Omega.{arith}
use mathlib.Core.Path.{◌≡◌, ap}
use mathlib.Core.List.{List, [], ◌∷◌, ◌++◌}
use mathlib.Core.Bool.{Bool}
use lib.ListN.{length, length-append}
use Rattle.model.specs.Bytes.{Bytes, Metadata}
use Rattle.model.specs.Tree.{FieldOver, DataType, Field}
use Rattle.model.specs.Sheet.{type_bytes}
use Rattle.table.specs.Table.{u24, no_entry, Rows, none, more, SpellMetadata, raw_pairs, pair_places, SpellFieldOver, SpellRowOver, spell_raw, spell_struct, spell_list, spell_union, SpellType, SpellField}
use Rattle.table.proofs.Numbers.{length_u24}
use Rattle.table.proofs.Places.{places_fit}

pub rows_fit : {A : Type 0} {P : ℕ → Bytes → A → Type 0} → ((k : ℕ) (y : Bytes) (x : A) → P k y x → length y ≤ k) → {k : ℕ} {y : Bytes} {xs : List A} → Rows P k y xs → length y ≤ k
rows_fit f none = omega arith
rows_fit f (more {k = k} {y = y} {ys = ys} {x = x} p r) = omega (arith, length-append y ys, f k y x p, rows_fit f r)

pub row_fits : {T : Type 0} {P : ℕ → Bytes → FieldOver T → Type 0} → ((k : ℕ) (y : Bytes) (f : FieldOver T) → P k y f → length y ≤ k) → {k : ℕ} {y : Bytes} {fs : List (FieldOver T)} → SpellRowOver P k y fs → length y ≤ k
row_fits f r = omega (arith, r.room, rows_fit f r.row, ap length r.bytes, length-append r.row_bytes (no_entry ∷ []))

pub metadata_fits : {s : Bytes} {k : ℕ} {b : Bool} {y : Bytes} {own m : Metadata} → SpellMetadata s k b y own m → length y ≤ k
metadata_fits (raw_pairs o e i h) = omega (arith, ap length e)
metadata_fits (pair_places o p) = places_fit p

entry_fits : {T : Type 0} {write : T → Bytes} {G : Bool → T → Type 0} {P : T → ℕ → Bytes → T → Type 0} → ((o : T) (j : ℕ) (v : Bytes) (t : T) → P o j v t → length v ≤ j)
    → {s : Bytes} {k : ℕ} {y : Bytes} {f : FieldOver T} → SpellFieldOver write G P s k y f → length y ≤ k
entry_fits h {f = f} e =
    omega (
      arith,
      e.room,
      ap length e.bytes,
      length-append (u24 e.first) (e.metadata_bytes ++ e.type_spelt),
      length_u24 e.first,
      length-append e.metadata_bytes e.type_spelt,
      metadata_fits e.metadata,
      h e.own.data_type e.type_room e.type_spelt f.data_type e.data_type,
    )

-- the kind and the place of a type's entry, then the rest
opened_fits : (c x : ℕ) (ys : Bytes) {y : Bytes} {k m : ℕ} → y ≡ c ∷ (u24 x ++ ys) → length ys ≤ m → 4 + m ≤ k → length y ≤ k
opened_fits c x ys e h i = omega (arith, ap length e, length-append (u24 x) ys, length_u24 x, h, i)

pub type_fits : (l : ℕ) (s : Bytes) (first : DataType l) (k : ℕ) (y : Bytes) (t : DataType l) → SpellType l s first k y t → length y ≤ k
unfolding type_bytes
type_fits zero s first k y t p = absurd p
type_fits (suc l) s first k y t (spell_raw x e r o) = omega (arith, ap length e, length_u24 x, r.room)
type_fits (suc l) s first k y t (spell_struct x m ys e h g c p r i) = opened_fits _ x ys e (row_fits (λ k y f q. entry_fits (λ o j v u z. type_fits l s o j v u z) q) r) i
type_fits (suc l) s first k y t (spell_list x m ys f e h g c p q n i) = opened_fits _ x ys e (entry_fits (λ o j v u z. type_fits l s o j v u z) q) i
type_fits (suc l) s first k y t (spell_union x m ys e h g c p q n i) = opened_fits _ x ys e (places_fit q) i

pub field_fits : (l : ℕ) {s : Bytes} {k : ℕ} {y : Bytes} {f : Field l} → SpellField l s k y f → length y ≤ k
field_fits l {s} e = entry_fits (λ o j v u z. type_fits l s o j v u z) e
