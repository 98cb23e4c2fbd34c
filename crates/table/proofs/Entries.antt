-- Entries and their parts: the places behind them.
use Prim.Native.Nat.{ℕ, zero, suc, ◌+◌, ◌-◌, ◌/◌, ◌≤◌, ◌<◌}
use native.Mathlib.Omega.{arith}
use mathlib.Core.Path.{◌≡◌, refl, sym, ap, subst, ◌∙◌}
use mathlib.Core.List.{List, ◌∷◌, ◌++◌, append_assoc}
use mathlib.Core.Bool.{Bool, false≢true}
use lib.ListN.{length, get_or}
use lib.Dec.{eqb}
use borrow.Author.Tests.{eq-eqb, eqb-true}
use Rattle.model.specs.Bytes.{Bytes, Metadata, Every}
use Rattle.model.specs.Tree.{FieldOver, DataType, Field}
use Rattle.walk.specs.Stands.{Stands, Skips}
use Rattle.walk.proofs.Standing.{byte_stands, skip_ahead, skip_join, skip_when}
use Rattle.walk.proofs.Parts.{Ahead}
use Rattle.table.specs.Table.{u24, no_place, no_entry, raw, open_struct, open_list, open_union, Refer, none_left, one_place, SpellMetadata, raw_pairs, pair_places, SpellFieldOver, spell_raw, spell_struct, spell_list, spell_union, SpellType, SpellRow}
use Rattle.std.proofs.Common.{Option}
use Rattle.table.specs.Entries.{SkipsEntries, NoEntry, StepsOver, GivesEntry}
use Rattle.table.specs.Look.{SkipsPlaces}
use Rattle.table.specs.declared.EntryRow.{EntryRow}
use Rattle.table.proofs.Numbers.{length_u24}

-- Rows of places

pub refer_small : {A : Type 0} {s : Bytes} {write : A → Bytes} {ps : List ℕ} {xs : List A} → Refer s write ps xs → Every (λ p. p < no_place) ps
refer_small none_left = tt
refer_small (one_place h st r) = (h, refer_small r)

-- The head of an entry

-- what `skip_metadata` ensures
abbrev SkipsMetadata : Bytes → ℕ → ℕ → ℕ → Type 0
SkipsMetadata w place flags r = ((flags / 4 ≡ 1 → ⊥) → r ≡ place) × (flags / 4 ≡ 1 → SkipsPlaces w place r)

metadata_skips : {w s : Bytes} {place r k : ℕ} (flags : ℕ) {y : Bytes} {own m : Metadata} → SkipsMetadata w place flags r → SpellMetadata s k (eqb (flags / 4) 1) y own m → Skips w place y r
metadata_skips {w} {s} {place} {r} flags f (raw_pairs o e i j) =
    subst (λ y. Skips w place y r) (sym e) (record { behind = λ st. omega (arith, f.0 (λ h. false≢true (sym o ∙ eq-eqb (flags / 4) 1 h))) })
metadata_skips {w} {s} {place} {r} flags f (pair_places o p) =
    subst (λ y. Skips w place y r) (sym p.bytes) (f.1 (eqb-true (flags / 4) 1 o) p.places (refer_small p.refer))

module _ {T : Type 0} {write : T → Bytes} {G : Bool → T → Type 0} {P : T → ℕ → Bytes → T → Type 0} {w s : Bytes} {place k : ℕ} {y : Bytes} {f : FieldOver T} where
  pub head_skips : {flags m r : ℕ} → flags ≡ get_or w place 0 → Ahead w place 4 m → SkipsMetadata w m flags r → (e : SpellFieldOver write G P s k y f)
      → Skips w place (e.flags ∷ (u24 e.first ++ e.metadata_bytes)) r
  head_skips {flags} {m} {r} b a g e =
      skip_when λ st.
      let i : flags ≡ e.flags = b ∙ byte_stands st in
      skip_join (skip_ahead (e.flags ∷ u24 e.first) (omega (arith, length_u24 e.first)) a.1)
      (metadata_skips e.flags (subst (λ n. SkipsMetadata w m n r) i g) e.metadata)

  -- an entry: its head, then its type
  pub entry_skips : {m r : ℕ} → ((e : SpellFieldOver write G P s k y f) → Skips w place (e.flags ∷ (u24 e.first ++ e.metadata_bytes)) m)
      → ((o : T) (j : ℕ) (v : Bytes) (t : T) → P o j v t → Skips w m v r) → SpellFieldOver write G P s k y f → Skips w place y r
  entry_skips {m} {r} g h e =
      subst (λ y. Skips w place y r) (sym (e.bytes ∙ ap (λ z. e.flags ∷ z) (sym (append_assoc (u24 e.first) e.metadata_bytes e.type_spelt))))
      (skip_join (g e) (h e.own.data_type e.type_room e.type_spelt f.data_type e.data_type))

-- Types

-- what `skip_type` and `skip_row` ensure

abbrev pub SkipsTypes : Bytes → ℕ → ℕ → ℕ → Type 0
SkipsTypes w place levels r = (l : ℕ) (s : Bytes) (first : DataType l) (k : ℕ) (y : Bytes) (t : DataType l) → l ≤ levels → SpellType l s first k y t → Skips w place y r

abbrev pub SkipsRows : Bytes → ℕ → ℕ → ℕ → Type 0
SkipsRows w place levels r = (l : ℕ) (s : Bytes) (k : ℕ) (y : Bytes) (fs : List (Field l)) → l ≤ levels → SpellRow l s k y fs → Skips w place y r

module _ {w : Bytes} {place : ℕ} (levels : ℕ) where
  pub no_level : (r : ℕ) → levels ≤ 0 → SkipsTypes w place levels r
  no_level r h zero s first k y t i p = absurd p
  no_level r h (suc l) s first k y t i p = absurd (omega (arith, h, i))

  module _ {inner : ℕ} (a : Ahead w place 4 inner) where
    front : (c x : ℕ) → Skips w place (c ∷ u24 x) inner
    front c x = skip_ahead (c ∷ u24 x) (omega (arith, length_u24 x)) a.1

    -- a type of another kind does not stand there
    other_kind : {c : ℕ} {y z : Bytes} {r : ℕ} → y ≡ c ∷ z → (get_or w place 0 ≡ c → ⊥) → Skips w place y r
    other_kind i n = skip_when λ st. absurd (n (byte_stands (subst (Stands w place) i st)))

    -- behind the kind and the place
    this_kind : (c x : ℕ) (ys : Bytes) {y : Bytes} {r : ℕ} → y ≡ c ∷ (u24 x ++ ys) → Skips w inner ys r → Skips w place y r
    this_kind c x ys {r = r} i h = subst (λ y. Skips w place y r) (sym i) (skip_join (front c x) h)

    pub types_raw : get_or w place 0 ≡ raw → SkipsTypes w place levels inner
    types_raw h zero s first k y t i p = absurd p
    types_raw h (suc l) s first k y t i (spell_raw x b q v) = subst (λ y. Skips w place y inner) (sym b) (front raw x)
    types_raw h (suc l) s first k y t i (spell_struct x m ys b q g c p rw v) = other_kind b λ d. omega (arith, h, d)
    types_raw h (suc l) s first k y t i (spell_list x m ys f b q g c p n v u) = other_kind b λ d. omega (arith, h, d)
    types_raw h (suc l) s first k y t i (spell_union x m ys b q g c p n v u) = other_kind b λ d. omega (arith, h, d)

    pub types_struct : {r : ℕ} → get_or w place 0 ≡ open_struct → SkipsRows w inner (levels - 1) r → SkipsTypes w place levels r
    types_struct h z zero s first k y t i p = absurd p
    types_struct h z (suc l) s first k y t i (spell_raw x b q v) = other_kind b λ d. omega (arith, h, d)
    types_struct h z (suc l) s first k y t i (spell_struct x m ys b q g c p n v) = this_kind open_struct x ys b (z l s m ys t.children (omega (arith, i)) n)
    types_struct h z (suc l) s first k y t i (spell_list x m ys f b q g c p n v u) = other_kind b λ d. omega (arith, h, d)
    types_struct h z (suc l) s first k y t i (spell_union x m ys b q g c p n v u) = other_kind b λ d. omega (arith, h, d)

    pub types_list : {r : ℕ} → get_or w place 0 ≡ open_list → SkipsEntries w inner (levels - 1) r → SkipsTypes w place levels r
    types_list h z zero s first k y t i p = absurd p
    types_list h z (suc l) s first k y t i (spell_raw x b q v) = other_kind b λ d. omega (arith, h, d)
    types_list h z (suc l) s first k y t i (spell_struct x m ys b q g c p n v) = other_kind b λ d. omega (arith, h, d)
    types_list h z (suc l) s first k y t i (spell_list x m ys f b q g c p n v u) = this_kind open_list x ys b (z l s m ys f (omega (arith, i)) n)
    types_list h z (suc l) s first k y t i (spell_union x m ys b q g c p n v u) = other_kind b λ d. omega (arith, h, d)

    pub types_union : {r : ℕ} → (get_or w place 0 ≡ raw → ⊥) × (get_or w place 0 ≡ open_struct → ⊥) × (get_or w place 0 ≡ open_list → ⊥) → SkipsPlaces w inner r → SkipsTypes w place levels r
    types_union (h₀, h₁, h₂) z zero s first k y t i p = absurd p
    types_union (h₀, h₁, h₂) z (suc l) s first k y t i (spell_raw x b q v) = other_kind b h₀
    types_union (h₀, h₁, h₂) z (suc l) s first k y t i (spell_struct x m ys b q g c p n v) = other_kind b h₁
    types_union (h₀, h₁, h₂) z (suc l) s first k y t i (spell_list x m ys f b q g c p n v u) = other_kind b h₂
    types_union {r} (h₀, h₁, h₂) z (suc l) s first k y t i (spell_union x m ys b q g c p n v u) =
        this_kind open_union x ys b (subst (λ y. Skips w inner y r) (sym n.bytes) (z n.places (refer_small n.refer)))

-- an entry without metadata of its own, whose type is raw
pub plain_entry : {w : Bytes} {place : ℕ} (levels : ℕ) → get_or w place 0 < 4 → get_or w (place + 4) 0 ≡ raw → place + 8 ≤ length w → SkipsEntries w place levels (place + 8)
plain_entry {w} {place} levels h z i l s k y f j p =
    let m : SkipsMetadata w (place + 4) (get_or w place 0) (place + 4) = (λ n. refl, λ n. absurd (omega (arith, h, n))) in
    let next : place + 4 + 4 ≡ place + 8 = omega arith in
    entry_skips (head_skips refl (omega arith, λ n. refl) m) (λ o r v t q. types_raw levels (omega arith, λ n. sym next) z l s o r v t j q) p

-- Where no entry stands: at a row's end, past the end of the table, and where none is passed, since an entry is not empty
module _ {w : Bytes} {place : ℕ} (levels : ℕ) where
  pub none_at_end : get_or w place 0 ≡ no_entry → NoEntry w place levels
  none_at_end h l s k y f i p st = omega (arith, h, p.small_flags, byte_stands (subst (Stands w place) p.bytes st))

  pub none_past : length w ≤ place → NoEntry w place levels
  none_past h l s k y f i p st = omega (arith, h, st.inside, ap length p.bytes)

  pub none_passed : {r : ℕ} → SkipsEntries w place levels r → r ≤ place → NoEntry w place levels
  none_passed g h l s k y f i p st = omega (arith, h, (g l s k y f i p).behind st, ap length p.bytes)

-- what a row that is gone over gives, where its table and its levels are known
pub steps_over : {w : Bytes} {levels : ℕ} (r t : EntryRow) (o : Option ℕ) → r.w.now ≡ w → r.levels ≡ levels → GivesEntry r o t
    → (t.w.now ≡ w) × (t.levels ≡ levels) × StepsOver w r.at levels o t.at
steps_over {levels = levels} r t o e i g =
    (g.0 ∙ e, g.1 ∙ i, subst (λ v. StepsOver v r.at levels o t.at) e (subst (λ m. StepsOver r.w.now r.at m o t.at) i g.2))
