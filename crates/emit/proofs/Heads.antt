-- The head of an entry: what is copied from the first occurrence, and what is its own.
use Prim.Native.Nat.{ℕ, zero, suc, ◌+◌, ◌*◌, ◌/◌, ◌%◌, ◌<◌}
use native.Mathlib.Omega.{arith}
use mathlib.Core.Path.{◌≡◌, refl, sym, ap, subst, ◌∙◌}
use mathlib.Core.List.{[], ◌∷◌, ◌++◌}
use mathlib.Core.Bool.{Bool, false≢true}
use lib.ListN.{get_or, length-append}
use lib.Dec.{eqb}
use borrow.Author.Tests.{eq-eqb, eqb-true}
use Rattle.model.specs.Bytes.{Bytes, bit, flag}
use Rattle.model.specs.Tree.{Head, Field}
use Rattle.model.specs.Sheet.{head_map, front_bytes, dict_id_bytes, dict_id_stands, stands, part, with_count, text_bytes, pair_bytes, head_bytes}
use Rattle.buffer.specs.declared.Output.{Output}
use Rattle.buffer.specs.Puts.{Puts}
use Rattle.buffer.proofs.Puts.{puts_same, puts_join}
use Rattle.walk.specs.Stands.{Stands, Skips, SkipsName}
use Rattle.walk.proofs.Standing.{first_stands, stands_behind, skip_ahead}
use Rattle.model.proofs.MapBits.{flag_one, quarters, name_bit, dict_id_bit}
use Rattle.walk.proofs.Parts.{Ahead, front_stands, map_stands}
use Rattle.walk.proofs.Descents.{head_stands}
use Rattle.table.specs.Look.{NamesPlace}
use Rattle.table.specs.Table.{SpellMetadata, raw_pairs, pair_places, SpellField}
use Rattle.emit.specs.Emission.{flagged_by, PutsHead, PutsRawHead, PutsDictId, PutsName, HasPlaces, PutsMetadata}
use Rattle.emit.proofs.Fronts.{byte_is, place_is, behind_stands}
use Rattle.emit.proofs.Putting.{PutsPart}
use Rattle.emit.proofs.Copies.{places_stand}

-- The bits of a map

low_bits : (n : ℕ) → n % 4 ≡ flag 1 (eqb (n % 2) 1) + flag 2 (eqb (n / 2 % 2) 1)
low_bits n = omega (arith, go (n % 2) (omega arith), go (n / 2 % 2) (omega arith), flag_one 2 (eqb (n / 2 % 2) 1))
  where
    go : (m : ℕ) → m < 2 → m ≡ flag 1 (eqb m 1)
    go zero h = refl
    go (suc zero) h = refl
    go (suc (suc m)) h = absurd (omega (arith, h))

module _ (h : Head) where
  -- the three highest
  upper_bits : head_map h / 4 % 8 * 4 ≡ flag 4 (stands h.name) + flag 8 (stands h.metadata) + flag 16 (dict_id_stands h.dict_id)
  upper_bits = let q = quarters h in omega (arith, q, flag_one 4 (stands h.name), flag_one 8 (stands h.metadata), flag_one 16 (dict_id_stands h.dict_id))

  -- the name's, and the dictionary number's
  middle_bit : head_map h / 4 % 2 * 4 ≡ flag 4 (stands h.name)
  middle_bit = let q = name_bit h in omega (arith, q, flag_one 4 (stands h.name))

  high_bit : head_map h / 16 % 2 * 16 ≡ flag 16 (dict_id_stands h.dict_id)
  high_bit = let q = dict_id_bit h in omega (arith, q, flag_one 16 (dict_id_stands h.dict_id))

-- The head that stands at a place of the train

module _ {s : Bytes} {first map name : ℕ} (e : map ≡ get_or s first 0) (a : Ahead s first 1 name) where
  name_stands : (h : Head) → Stands s first (head_bytes h) → Stands s name ((part text_bytes h.name ++ part (with_count pair_bytes) h.metadata) ++ dict_id_bytes h.dict_id)
  unfolding front_bytes head_bytes
  name_stands h st = stands_behind (skip_ahead (_ ∷ []) refl a.1) st

  name_at : (h : Head) → Stands s first (head_bytes h) → name ≡ first + 1
  unfolding front_bytes head_bytes
  name_at h st = (skip_ahead (_ ∷ []) refl a.1).behind (first_stands (_ ∷ []) _ st)

  module _ (flags : ℕ) {o o₁ o₂ : Output} {end : ℕ} (f : PutsPart s name end o₁ o₂) where
    pub raw_head_puts : Puts ((flags % 4 + map / 4 % 8 * 4) ∷ []) o o₁ → ((h : Head) → Skips s first (head_bytes h) end) → PutsRawHead s first flags o o₂
    unfolding front_bytes head_bytes
    raw_head_puts one g h st =
        let rest = (part text_bytes h.name ++ part (with_count pair_bytes) h.metadata) ++ dict_id_bytes h.dict_id in
        let i : flags % 4 + map / 4 % 8 * 4 ≡ head_map (flagged_by h flags) =
        omega (arith, low_bits flags, ap (λ m. m / 4 % 8 * 4) (map_stands e h st) ∙ upper_bits h) in
        puts_join (_ ∷ []) rest (puts_same (ap (λ n. n ∷ []) i) one) (f rest (name_stands h st) (omega (arith, (g h).behind st, name_at h st)))

    pub name_puts : {m : ℕ} (metadata : Bool) → m ≡ flag 8 metadata → Puts ((flags % 4 + map / 4 % 2 * 4 + m + map / 16 % 2 * 16) ∷ []) o o₁
        → SkipsName s first end → PutsName s first flags metadata o o₂
    unfolding front_bytes bit
    name_puts {m} metadata k one g h st =
        let w = map_stands e h st in
        let i : flags % 4 + map / 4 % 2 * 4 + m + map / 16 % 2 * 16 ≡ flag 1 (eqb (flags % 2) 1) + flag 2 (eqb (flags / 2 % 2) 1) + flag 4 (stands h.name) + flag 8 metadata + flag 16 (dict_id_stands h.dict_id) =
        omega (arith, k, low_bits flags, ap (λ m. m / 4 % 2 * 4) w ∙ middle_bit h, ap (λ m. m / 16 % 2 * 16) w ∙ high_bit h) in
        let front = front_stands h st in
        let behind = (g h front).behind (first_stands (head_map h ∷ part text_bytes h.name) (part (with_count pair_bytes) h.metadata) front) in
        let there = first_stands (part text_bytes h.name) _ (first_stands (part text_bytes h.name ++ part (with_count pair_bytes) h.metadata) _ (name_stands h st)) in
        puts_join (_ ∷ []) (part text_bytes h.name) (puts_same (ap (λ n. n ∷ []) i) one) (f (part text_bytes h.name) there (omega (arith, behind, name_at h st)))

-- the dictionary number stands between the front of the head and its end
pub dict_id_puts : {s : Bytes} {first front end : ℕ} {o o₁ : Output} → ((h : Head) → Skips s first (front_bytes h) front) → ((h : Head) → Skips s first (head_bytes h) end)
    → PutsPart s front end o o₁ → PutsDictId s first o o₁
unfolding head_bytes
dict_id_puts f g put h st =
    let u = stands_behind (f h) st in
    put (dict_id_bytes h.dict_id) u (omega (arith, (g h).behind st, (f h).behind (front_stands h st), length-append (front_bytes h) (dict_id_bytes h.dict_id)))

-- Entries

same_head_lem : (h g : Head) → h.nullable ≡ g.nullable → h.dict_is_ordered ≡ g.dict_is_ordered → h.name ≡ g.name → h.metadata ≡ g.metadata → h.dict_id ≡ g.dict_id → head_bytes h ≡ head_bytes g
unfolding front_bytes head_bytes
same_head_lem h g e₁ e₂ e₃ e₄ e₅ = rw (e₁, e₂, e₃, e₄, e₅) refl

module _ {s w : Bytes} {place flags first : ℕ} (e : flags ≡ get_or w place 0) (i : NamesPlace w place first) where
  module _ (l : ℕ) {k : ℕ} {y : Bytes} {f : Field l} (p : SpellField l s k y f) (st : Stands w place y) where
    flags_are : flags ≡ p.flags
    flags_are = byte_is e p.bytes st

    first_is : first ≡ p.first
    first_is = place_is p.flags p.first (p.metadata_bytes ++ p.type_spelt) i p.small p.bytes st

    own_stands : Stands s first (head_bytes p.own.head)
    own_stands = subst (λ n. Stands s n (head_bytes p.own.head)) (sym first_is) (head_stands l p.own p.stands)

    nullable_is : eqb (flags % 2) 1 ≡ f.head.nullable
    nullable_is = ap (λ n. eqb (n % 2) 1) flags_are ∙ p.nullable

    ordered_is : eqb (flags / 2 % 2) 1 ≡ f.head.dict_is_ordered
    ordered_is = ap (λ n. eqb (n / 2 % 2) 1) flags_are ∙ p.dict_is_ordered

  module _ {o o' : Output} where
    pub head_raw : (flags / 4 ≡ 1 → ⊥) → PutsRawHead s first flags o o' → PutsHead s w place o o'
    head_raw never g l k y f p st = go p.metadata
      where
        go : SpellMetadata s p.metadata_room (eqb (p.flags / 4) 1) p.metadata_bytes p.own.head.metadata f.head.metadata → Puts (head_bytes f.head) o o'
        go (raw_pairs o b j n) =
            puts_same (same_head_lem (flagged_by p.own.head flags) f.head (nullable_is l p st) (ordered_is l p st) p.name j p.dict_id) (g p.own.head (own_stands l p st))
        go (pair_places o n) = absurd (never (ap (λ n. n / 4) (flags_are l p st) ∙ eqb-true (p.flags / 4) 1 o))

  pub head_open : {pairs : ℕ} {b : Bool} {o o₁ o₂ o₃ : Output} → flags / 4 ≡ 1 → Ahead w place 4 pairs → HasPlaces w pairs b → PutsName s first flags b o o₁
      → PutsMetadata s w pairs o₁ o₂ → PutsDictId s first o₂ o₃ → PutsHead s w place o o₃
  unfolding front_bytes head_bytes
  head_open {pairs} {b} {o} {o₁} {o₂} {o₃} set c has g h n' l k y f p st = go p.metadata
    where
      there : Stands w pairs p.metadata_bytes
      there = first_stands p.metadata_bytes p.type_spelt (behind_stands p.flags p.first (p.metadata_bytes ++ p.type_spelt) c p.bytes st)

      go : SpellMetadata s p.metadata_room (eqb (p.flags / 4) 1) p.metadata_bytes p.own.head.metadata f.head.metadata → Puts (head_bytes f.head) o o₃
      go (raw_pairs o x j n) = absurd (false≢true (sym o ∙ ap (λ n. eqb (n / 4) 1) (sym (flags_are l p st)) ∙ eq-eqb (flags / 4) 1 set))
      go (pair_places o n) =
          puts_same
          (same_head_lem (record { type_id = 0; nullable = eqb (flags % 2) 1; dict_is_ordered = eqb (flags / 2 % 2) 1; name = p.own.head.name; metadata = f.head.metadata; dict_id = p.own.head.dict_id }) f.head (nullable_is l p st) (ordered_is l p st) p.name refl p.dict_id)
          (puts_join (_ ∷ (part text_bytes p.own.head.name ++ part (with_count pair_bytes) f.head.metadata)) (dict_id_bytes p.own.head.dict_id)
          (puts_join (_ ∷ part text_bytes p.own.head.name) (part (with_count pair_bytes) f.head.metadata)
          (puts_same
          (ap (λ z. (flag 1 (eqb (flags % 2) 1) + flag 2 (eqb (flags / 2 % 2) 1) + flag 4 (stands p.own.head.name) + flag 8 z + flag 16 (dict_id_stands p.own.head.dict_id)) ∷ part text_bytes p.own.head.name) (places_stand n there has))
          (g p.own.head (own_stands l p st)))
          (h p.metadata_room p.metadata_bytes f.head.metadata n there))
          (n' p.own.head (own_stands l p st)))
