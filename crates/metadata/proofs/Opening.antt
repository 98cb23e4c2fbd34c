-- The edits of an entry's metadata: places of its pairs, and what is merged into them.
use Prim.Native.Nat.{ℕ, ◌+◌, ◌*◌, ◌/◌, ◌%◌, ◌≤◌, ◌<◌}
use native.Mathlib.Omega.{arith}
use mathlib.Core.Path.{◌≡◌, refl, sym, ap, subst, ◌∙◌}
use mathlib.Core.List.{[], ◌∷◌, ◌++◌, append_assoc}
use mathlib.Core.Bool.{Bool, true, false}
use lib.ListN.{length, get_or, length-append}
use lib.Dec.{ltb}
use borrow.Author.Tests.{eq-eqb, ltb-true, ltb-false}
use Rattle.model.specs.Numbers.{field_metadata_clash}
use Rattle.model.specs.Bytes.{Bytes, Metadata}
use Rattle.model.specs.Tree.{Head, Field}
use Rattle.model.specs.Sheet.{each, part, with_count, pair_bytes, head_bytes}
use Rattle.model.specs.Merge.{Merged, done, clash, ◌>>=◌, merge_pair, merge_metadata}
use Rattle.model.specs.WellFormed.{Each, WellFormedPair}
use Rattle.model.proofs.Gives.{Gives, value, of_done, pour_none}
use Rattle.model.proofs.SortedMetadata.{merge_into_none, merge_into_self}
use Rattle.buffer.specs.declared.refusal.Number.{Number}
use Rattle.walk.specs.Stands.{Stands}
use Rattle.walk.proofs.Parts.{Ahead}
use Rattle.table.specs.Held.{Held}
use Rattle.table.specs.Table.{u24, no_place, Places, pair_places, SpellField}
use Rattle.table.specs.Says as table
use Rattle.std.proofs.Common.{Ok, Err}
use Rattle.table.proofs.Numbers.{length_u24}
use Rattle.table.proofs.Held.{held_as, held_length, held_stands}
use Rattle.table.proofs.Says.{says_in}
use Rattle.metadata.specs.Fields.{with_metadata, merge_field_metadata, Opened}
use Rattle.metadata.specs.Merges.{SaysRow, SaysEntry, MergesPairs, Marks, OpensMetadata, MergesMetadata}
use Rattle.table.specs.Look.{NamesPlace}
use Rattle.table.specs.Edits.{SetsByte, InsertsPlace}
use Rattle.table.proofs.Places.{places_none}
use Rattle.table.proofs.Fits.{type_fits, field_fits}
use Rattle.metadata.proofs.Heads.{FindsPairs, part_long, part_counted}
use Rattle.metadata.proofs.Entries.{flags_is, first_head, is_raw, is_opened, respelt, wider, HasMetadata}

pub marked : {w w₁ w' : Bytes} {used place flags row r : ℕ} → length w₁ ≡ length w → SetsByte place (flags % 4 + 4) w used w₁ → Ahead w₁ place 4 row → InsertsPlace row no_place w₁ used w' r → Marks place flags w used w' r
marked {w} {w₁} {w'} {used} {place} {flags} {row} {r} size set a ins = record { marks = go }
  where
    go : (x z b : Bytes) (first : ℕ) → Held w used x (flags ∷ (u24 first ++ b)) z → place ≡ length x → flags < 4 → used + 3 ≤ length w
        → (r ≡ used + 3) × Held w' r (x ++ ((flags + 4) ∷ u24 first)) (u24 no_place) (b ++ z)
    go x z b first h hx low room =
        let f : flags % 4 + 4 ≡ flags + 4 = omega (arith, low) in
        let h₁ : Held w used x (flags ∷ []) ((u24 first ++ b) ++ z) = held_as h refl in
        let h₂ = subst (λ n. Held w₁ used x (n ∷ []) ((u24 first ++ b) ++ z)) f (set x ((u24 first ++ b) ++ z) flags h₁ hx (omega arith)) in
        let h₃ : Held w₁ used (x ++ ((flags + 4) ∷ u24 first)) [] (b ++ z) = held_as h₂ (simp append_assoc) in
        let n : length (x ++ ((flags + 4) ∷ u24 first)) ≡ length x + 4 = omega (arith, length-append x ((flags + 4) ∷ u24 first), length_u24 first) in
        let inside : place + 4 ≤ length w₁ = omega (arith, hx, n, held_length h₃, h₃.fits) in
        ins (x ++ ((flags + 4) ∷ u24 first)) (b ++ z) h₃ (omega (arith, a.1 inside, hx, n)) (omega (arith, room, size))

-- Places of the pairs of an entry's first occurrence

-- flags of an entry without
low_flags : (n : ℕ) → n < 8 → (n / 4 ≡ 1 → ⊥) → n < 4
low_flags n h never = go (ltb n 4) refl
  where
    go : (b : Bool) → ltb n 4 ≡ b → n < 4
    go true e = ltb-true n 4 e
    go false e = absurd (never (omega (arith, h, ltb-false n 4 e)))

done_same : {A : Type 0} {a b : A} → done a ≡ done b → a ≡ b
done_same {A} {a} e = of_done (subst (Gives (λ c. a ≡ c)) e (value refl))

done_clash : {A : Type 0} {a : A} {n : ℕ} → done a ≡ clash n → ⊥
done_clash {A} {a} {n} e = is_done (subst (λ r. IsDone r) e tt)
  where
    IsDone : Merged A → Type 0
    IsDone (done a) = Unit {0}
    IsDone (clash n) = ⊥

    is_done : IsDone (clash n) → ⊥
    is_done h = h

module _ {s w : Bytes} {used place n : ℕ} (i : n ≡ get_or w place 0) where
  -- it has them
  pub opens_none : n / 4 ≡ 1 → OpensMetadata place s w used w used
  opens_none o = record {
    opens = λ l x y z k f h hx e small room. record {
      spelt = e.flags ∷ (u24 e.first ++ (e.metadata_bytes ++ e.type_spelt));
      entry = wider l e (k + 3) (omega arith);
      opened = ap (λ n. n / 4) (sym (flags_is l e (held_stands h hx) i)) ∙ o;
      held = subst (λ v. Held w used x v z) e.bytes h;
    };
  }

  -- it gets them: pairs in the order of their keys, merged into none, stay as they are
  module _ (never : n / 4 ≡ 1 → ⊥) {t count first : ℕ} (j : NamesPlace w place t) (p : FindsPairs s t count first)
      {w₁ w₂ : Bytes} {end row number : ℕ} {r : table.Merged} (grown : length w₁ ≡ length w) (marks : Marks place n w used w₁ end) (b : Ahead w₁ place 4 row) (merges : MergesPairs row first count number s w₁ end w₂ r) where
    opening : (l : ℕ) (x y z : Bytes) (k : ℕ) (f : Field l) → Held w used x y z → place ≡ length x → (e : SpellField l s k y f) → length s < no_place → length x + (k + 3) + length z ≤ length w
        → {res : table.Merged} → r ≡ res → SaysRow s (3 + 4 * length (each pair_bytes e.own.head.metadata)) (x ++ ((n + 4) ∷ u24 e.first)) (e.type_spelt ++ z) w₂ res (done f.head.metadata)
    opening l x y z k f h hx e small room {res} ok =
        let st = held_stands h hx in
        let g = flags_is l e st i in
        let raw = is_raw e.flags (λ q. never (ap (λ n. n / 4) g ∙ q)) e.metadata in
        let own = e.own.head.metadata in
        let pairs = p e.own.head (first_head l e st j) in
        let v = e.bytes ∙ ap (λ v. e.flags ∷ (u24 e.first ++ (v ++ e.type_spelt))) raw.none ∙ ap (λ n. n ∷ (u24 e.first ++ e.type_spelt)) (sym g) in
        let (q, h₁) = marks.marks x z e.type_spelt e.first (subst (λ v. Held w used x v z) v h) hx (low_flags n (omega (arith, g, e.small_flags)) never)
        (omega (arith, room, held_length h, field_fits l e)) in
        let c : length (x ++ ((n + 4) ∷ u24 e.first)) ≡ length x + 4 = omega (arith, length-append x ((n + 4) ∷ u24 e.first), length_u24 e.first) in
        let inside : place + 4 ≤ length w₁ = omega (arith, hx, c, held_length h₁, h₁.fits) in
        let fits = type_fits l s e.own.data_type e.type_room e.type_spelt f.data_type e.data_type in
        let X = x ++ ((n + 4) ∷ u24 e.first) in
        let Z = e.type_spelt ++ z in
        subst (λ t. SaysRow s (3 + 4 * length (each pair_bytes own)) X Z w₂ t (done f.head.metadata)) ok
        (subst (λ t. SaysRow s (3 + 4 * length (each pair_bytes own)) X Z w₂ r t) (merge_into_none number own e.well_formed.metadata ∙ ap done raw.same)
        (merges.says own pairs.count pairs.stands e.well_formed.metadata small (x ++ ((n + 4) ∷ u24 e.first)) (u24 no_place) (e.type_spelt ++ z) 3 [] h₁ (omega (arith, b.1 inside, hx, c)) places_none
        (omega (arith, room, c, length-append e.type_spelt z, fits, e.room, raw.room, part_long own, grown))))

    opens_clash : {c : Number} {u : ℕ} → r ≡ Err c → OpensMetadata place s w used w₂ u
    opens_clash {c} e = record { opens = λ l x y z k f h hx q small room. absurd (done_clash (opening l x y z k f h hx q small room e)) }

    opens_row : {next : ℕ} → r ≡ Ok next → OpensMetadata place s w used w₂ next
    opens_row {next} ok = record { opens = go }
      where
        go : (l : ℕ) (x y z : Bytes) (k : ℕ) (f : Field l) → Held w used x y z → place ≡ length x → SpellField l s k y f → length s < no_place → length x + (k + 3) + length z ≤ length w
            → Opened l s (k + 3) x z w₂ next f
        go l x y z k f h hx e small room =
            let t = opening l x y z k f h hx e small room ok in
            let g = flags_is l e (held_stands h hx) i in
            let low = low_flags n (omega (arith, g, e.small_flags)) never in
            let raw = is_raw e.flags (λ q. never (ap (λ n. n / 4) g ∙ q)) e.metadata in
            let quarter : (n + 4) / 4 ≡ 1 = omega (arith, low) in
            let pl = subst (Places s pair_bytes t.room t.spelt) (sym (done_same t.is)) t.spells in
            record {
              spelt = (n + 4) ∷ (u24 e.first ++ (t.spelt ++ e.type_spelt));
              entry = respelt l e (n + 4) t.spelt t.room (k + 3) (omega (arith, low)) (omega (arith, g)) (pair_places (eq-eqb ((n + 4) / 4) 1 quarter) pl)
                  (omega (arith, t.fits, e.room, raw.room, part_long e.own.head.metadata));
              opened = quarter;
              held = held_as t.held (simp append_assoc);
            }

    -- they do not clash: as many are in use as their merge gave
    pub opens_some : {next : ℕ} → ((u : ℕ) → r ≡ Ok u → next ≡ u) → OpensMetadata place s w used w₂ next
    opens_some {next} gave = go r refl
      where
        go : (q : table.Merged) → r ≡ q → OpensMetadata place s w used w₂ next
        go (Ok u) i = opens_row (i ∙ ap (λ (n : ℕ). Ok n) (sym (gave u i)))
        go (Err c) i = opens_clash i

-- What is merged into an entry's metadata

-- what gives the metadata that the entry has changes nothing
kept : {s w : Bytes} {used : ℕ} (l : ℕ) (x y z : Bytes) (k b : ℕ) (f : Field l) (m : Metadata) → Held w used x y z → SpellField l s k y f → k ≤ b → merge_metadata field_metadata_clash f.head.metadata m ≡ done f.head.metadata
    → SaysEntry l s b x z w (Ok used) (merge_field_metadata f m)
unfolding ◌>>=◌
kept {w = w} {used = used} l x y z k b f m h e fits i = record {
  value = with_metadata f f.head.metadata;
  spelt = e.flags ∷ (u24 e.first ++ (e.metadata_bytes ++ e.type_spelt));
  room = k;
  is = ap (λ r. r >>= λ n. done (with_metadata f n)) i;
  spells = wider l e k (omega arith);
  fits = fits;
  held = subst (λ v. Held w used x v z) e.bytes h;
}

module _ {s w : Bytes} {used place q : ℕ} where
  -- none
  pub merges_none : {count first : ℕ} → FindsPairs s q count first → count ≡ 0 → MergesMetadata place q s w used w (Ok used)
  unfolding merge_metadata
  merges_none p c = record {
    says = λ l h st sorted small x y z k f held hx e room. kept l x y z k _ f h.metadata held e (omega arith) (go f.head.metadata h.metadata ((p h st).count ∙ c));
  }
    where
      go : (m n : Metadata) → length n ≡ 0 → merge_metadata field_metadata_clash m n ≡ done m
      go m [] e = pour_none (merge_pair field_metadata_clash) m
      go m (p ∷ n) e = absurd (omega (arith, e))

  -- the same
  pub merges_same : {b : Bool} → HasMetadata s w place q b → b ≡ true → MergesMetadata place q s w used w (Ok used)
  merges_same has i = record {
    says = λ l h st sorted small x y z k f held hx e room.
        let g = has l k y f h e (held_stands held hx) st i in
        kept l x y z k _ f h.metadata held e (omega arith)
        (ap (λ m. merge_metadata field_metadata_clash m h.metadata) g ∙ merge_into_self field_metadata_clash h.metadata sorted ∙ ap done (sym g));
  }

  -- pair by pair
  pub merges_row : {count first end row : ℕ} {w₁ w₂ : Bytes} {r : table.Merged} → FindsPairs s q count first → (count ≡ 0 → ⊥) → length w₁ ≡ length w → OpensMetadata place s w used w₁ end → Ahead w₁ place 4 row
      → MergesPairs row first count field_metadata_clash s w₁ end w₂ r → MergesMetadata place q s w used w₂ r
  merges_row {count} {first} {end} {row} {w₁} {w₂} {r} p never grown opens a merges = record { says = go }
    where
      go : (l : ℕ) (h : Head) → Stands s q (head_bytes h) → Each WellFormedPair [] h.metadata → length s < no_place → (x y z : Bytes) (k : ℕ) (f : Field l) → Held w used x y z → place ≡ length x
          → SpellField l s k y f → length x + (k + 4 * length (part (with_count pair_bytes) h.metadata)) + length z ≤ length w
          → SaysEntry l s (k + 4 * length (part (with_count pair_bytes) h.metadata)) x z w₂ r (merge_field_metadata f h.metadata)
      go l h st sorted small x y z k f held hx e₀ room =
          let pairs = p h st in
          let new = h.metadata in
          let size = part_counted new (λ c. never (sym pairs.count ∙ c)) in
          let o = opens.opens l x y z k f held hx e₀ small (omega (arith, room, size)) in
          let e = o.entry in
          let pl = is_opened e.flags o.opened e.metadata in
          let front = e.flags ∷ u24 e.first in
          let h₁ : Held w₁ end (x ++ front) e.metadata_bytes (e.type_spelt ++ z) = held_as o.held (ap (λ v. x ++ (v ++ z)) e.bytes ∙ simp append_assoc) in
          let c : length (x ++ front) ≡ length x + 4 = omega (arith, length-append x front, length_u24 e.first) in
          let inside : place + 4 ≤ length w₁ = omega (arith, hx, c, held_length h₁, h₁.fits) in
          let fits = type_fits l s e.own.data_type e.type_room e.type_spelt f.data_type e.data_type in
          let b = e.metadata_room + 4 * length (each pair_bytes new) in
          says_in (λ i v n. Places s pair_bytes i v n) (λ i v g. SpellField l s i v g) b (k + 4 * length (part (with_count pair_bytes) new)) x front e.type_spelt z w₂ (with_metadata f)
          (merge_metadata field_metadata_clash f.head.metadata new)
          (λ j v n pl₂ hj. (4 + j + e.type_room, respelt l e e.flags v j (4 + j + e.type_room) e.small_flags refl (pair_places (eq-eqb (e.flags / 4) 1 o.opened) pl₂) (omega arith), omega (arith, hj, e.room, size)))
          r
          (merges.says new pairs.count pairs.stands sorted small (x ++ front) e.metadata_bytes (e.type_spelt ++ z) e.metadata_room f.head.metadata h₁ (omega (arith, a.1 inside, hx, c)) pl
          (omega (arith, room, c, length-append e.type_spelt z, fits, e.room, size, grown)))
