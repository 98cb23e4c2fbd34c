-- Entries of the table: what the code reads of one, one with more room, and one with places of its pairs.
use Prim.Native.Nat.{ℕ, ◌+◌, ◌*◌, ◌/◌, ◌%◌, ◌≤◌, ◌<◌}
use native.Mathlib.Omega.{arith}
use mathlib.Core.Path.{◌≡◌, refl, sym, ap, subst, ◌∙◌}
use mathlib.Core.List.{[], ◌∷◌, ◌++◌}
use mathlib.Core.Bool.{Bool, true, false≢true}
use lib.ListN.{length, get_or}
use lib.Dec.{eqb}
use borrow.Author.Tests.{eq-eqb, eqb-true}
use Rattle.model.specs.Bytes.{Bytes, Metadata}
use Rattle.model.specs.Tree.{Head, Field}
use Rattle.model.specs.Sheet.{part, with_count, pair_bytes, head_bytes}
use Rattle.model.proofs.SameBytes.{metadata_same_eq}
use Rattle.walk.specs.Stands.{Stands}
use Rattle.walk.proofs.Standing.{byte_stands}
use Rattle.walk.proofs.Descents.{head_stands}
use Rattle.table.specs.Table.{u24, Places, SpellMetadata, raw_pairs, pair_places, SpellField}
use Rattle.table.specs.Look.{NamesPlace}
use Rattle.metadata.specs.Fields.{with_metadata}
use Rattle.metadata.proofs.Heads.{SameMetadata}

module _ (l : ℕ) {s w : Bytes} {place k : ℕ} {y : Bytes} {f : Field l} (e : SpellField l s k y f) (st : Stands w place y) where
  -- an entry begins with its flags
  pub flags_is : {n : ℕ} → n ≡ get_or w place 0 → n ≡ e.flags
  flags_is i = i ∙ byte_stands (subst (Stands w place) e.bytes st)

  -- behind them stands the place of the first occurrence
  pub first_head : {t : ℕ} → NamesPlace w place t → Stands s t (head_bytes e.own.head)
  first_head n = subst (λ p. Stands s p (head_bytes e.own.head)) (sym (n e.flags e.first _ e.small (subst (Stands w place) e.bytes st))) (head_stands l e.own e.stands)

-- the metadata of an entry by its flags

pub record Raw (k : ℕ) (y : Bytes) (own m : Metadata) : Type 0 where
  pub none : y ≡ []
  pub same : own ≡ m
  pub room : 4 * length (part (with_count pair_bytes) own) ≤ k

pub is_raw : {s : Bytes} {k : ℕ} (flags : ℕ) {y : Bytes} {own m : Metadata} → (flags / 4 ≡ 1 → ⊥) → SpellMetadata s k (eqb (flags / 4) 1) y own m → Raw k y own m
is_raw flags n (raw_pairs o e i h) = record { none = e; same = i; room = h }
is_raw flags n (pair_places o p) = absurd (n (eqb-true (flags / 4) 1 o))

pub is_opened : {s : Bytes} {k : ℕ} (flags : ℕ) {y : Bytes} {own m : Metadata} → flags / 4 ≡ 1 → SpellMetadata s k (eqb (flags / 4) 1) y own m → Places s pair_bytes k y m
is_opened flags i (raw_pairs o e j h) = absurd (false≢true (sym o ∙ eq-eqb (flags / 4) 1 i))
is_opened flags i (pair_places o p) = p

module _ (l : ℕ) {s : Bytes} {k : ℕ} {y : Bytes} {f : Field l} (e : SpellField l s k y f) where
  -- an entry with other metadata
  abbrev pub respelt : (flags : ℕ) (v : Bytes) (j c : ℕ) {m : Metadata} → flags < 8 → flags % 4 ≡ e.flags % 4 → SpellMetadata s j (eqb (flags / 4) 1) v e.own.head.metadata m
      → 4 + j + e.type_room ≤ c → SpellField l s c (flags ∷ (u24 e.first ++ (v ++ e.type_spelt))) (with_metadata f m)
  respelt flags v j c low bit metadata room = record {
    flags = flags;
    first = e.first;
    own = e.own;
    metadata_bytes = v;
    type_spelt = e.type_spelt;
    metadata_room = j;
    type_room = e.type_room;
    bytes = refl;
    small_flags = low;
    small = e.small;
    stands = e.stands;
    well_formed = e.well_formed;
    name = e.name;
    dict_is_ordered = let h : flags / 2 % 2 ≡ e.flags / 2 % 2 = omega (arith, bit) in ap (λ n. eqb n 1) h ∙ e.dict_is_ordered;
    dict_id = e.dict_id;
    type_id = e.type_id;
    nullable = let h : flags % 2 ≡ e.flags % 2 = omega (arith, bit) in ap (λ n. eqb n 1) h ∙ e.nullable;
    metadata = metadata;
    data_type = e.data_type;
    room = room;
  }

  -- with its own, in more room
  abbrev pub wider : (c : ℕ) → k ≤ c → SpellField l s c (e.flags ∷ (u24 e.first ++ (e.metadata_bytes ++ e.type_spelt))) (with_metadata f f.head.metadata)
  wider c h = respelt e.flags e.metadata_bytes e.metadata_room c e.small_flags refl e.metadata (omega (arith, h, e.room))

-- what `has_metadata` ensures
abbrev pub HasMetadata : Bytes → Bytes → ℕ → ℕ → Bool → Type 0
HasMetadata s w place q r =
    (l k : ℕ) (y : Bytes) (f : Field l) (h : Head) → SpellField l s k y f → Stands w place y → Stands s q (head_bytes h) → r ≡ true → f.head.metadata ≡ h.metadata

pub has_same : {s w : Bytes} {place q n t : ℕ} {r : Bool} → n ≡ get_or w place 0 → (n / 4 ≡ 1 → ⊥) → NamesPlace w place t → SameMetadata s t q r → HasMetadata s w place q r
has_same i never j v l k y f h e st u true' =
    sym (is_raw e.flags (λ z. never (ap (λ n. n / 4) (flags_is l e st i) ∙ z)) e.metadata).same
    ∙ metadata_same_eq e.own.head.metadata h.metadata (sym (v e.own.head h (first_head l e st j) u) ∙ true')
