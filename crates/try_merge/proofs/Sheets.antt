-- One sheet into the table: its metadata, then its columns.
use Prim.Native.Nat.{ℕ, ◌+◌, ◌*◌, ◌≤◌, ◌<◌}
use native.Mathlib.Omega.{arith}
use mathlib.Core.Path.{◌≡◌, sym, ap, subst, ◌∙◌}
use mathlib.Core.List.{List, [], ◌∷◌, ◌++◌, append_assoc, append-nil}
use lib.ListN.{length, length-append}
use Rattle.model.specs.Numbers.{max_levels, schema_metadata_clash}
use Rattle.model.specs.Bytes.{Bytes, Every, u16}
use Rattle.model.specs.Tree.{Schema}
use Rattle.model.specs.Sheet.{each, part, with_count, pair_bytes, column_bytes, sheet_bytes}
use Rattle.model.specs.WellFormed.{WellFormedColumn, WellFormedSchema}
use Rattle.model.specs.Merge.{◌>>=◌, done, merge_metadata, merge_schema, merge_by_name, merge_column, pour}
use Rattle.model.proofs.WellFormed.{each_every}
use Rattle.buffer.specs.declared.refusal.Number.{Number}
use Rattle.walk.specs.Stands.{Stands, Skips, ColumnsAt}
use Rattle.datatype.specs.Comparisons.{PairsAt}
use Rattle.table.specs.Held.{Held}
use Rattle.table.specs.Table.{no_place, places_bytes, Places, SpellRow, SpellSchema}
use Rattle.table.specs.Says.{Merged, Says}
use Rattle.std.proofs.Common.{Ok, Err}
use Rattle.table.proofs.Held.{held_stands, held_as}
use Rattle.table.proofs.Says.{says_in}
use Rattle.table.proofs.Places.{places_fit}
use Rattle.table.proofs.Fits.{row_fits, field_fits}
use Rattle.table.proofs.Entries.{refer_small}
use Rattle.metadata.specs.Merges.{MergesPairs}
use Rattle.field.specs.Claims.{Pours}
use Rattle.try_merge.specs.Claims.{added, MergesSheet}
use mathlib.Core.Bool.{Bool}

-- the pairs and the columns of a sheet, and one byte more, are no more bytes than the sheet
part_holds : {A : Type 0} (f : A → Bytes) (xs : List A) → length (each f xs) ≤ length (part (with_count f) xs)
unfolding with_count u16
part_holds f [] = omega arith
part_holds f (x ∷ xs) = omega arith

pub added_fits : (y : Schema) → 4 + added y ≤ 4 * length (sheet_bytes y)
unfolding sheet_bytes
added_fits y =
    omega (
      arith,
      part_holds pair_bytes y.metadata,
      part_holds column_bytes y.columns,
      length-append (part (with_count pair_bytes) y.metadata) (part (with_count column_bytes) y.columns),
    )

-- a row of columns has no more bytes than its room
columns_fit : {s : Bytes} {k : ℕ} {y : Bytes} (x : Schema) → SpellRow max_levels s k y x.columns → length y ≤ k
columns_fit {s} x r = row_fits (λ k y f e. field_fits max_levels e) r

-- in either mode
module _ (parked : Bool) where
  -- `first` and `count`: the pairs of the sheet at q; they were merged into the row of places at the table's start
  module _ {s w : Bytes} {used q first count : ℕ} (p : (x : Schema) → Stands s q (sheet_bytes x) → PairsAt s x.metadata count first)
      {w₁ : Bytes} {got : Merged} (size : length w₁ ≡ length w) (m : MergesPairs 0 first count schema_metadata_clash s w used w₁ got) where
    abbrev SaysPairs : Schema → Schema → ℕ → Bytes → Bytes → Merged → Type 0
    SaysPairs y a k x z r = Says (λ i v n. Places s pair_bytes i v n) (k + 4 * length (each pair_bytes y.metadata)) x z w₁ r (merge_metadata schema_metadata_clash a.metadata y.metadata)

    pairs_said : (y : Schema) → Stands s q (sheet_bytes y) → WellFormedSchema y → length s < no_place → (x b z : Bytes) (k : ℕ) (a : Schema) → Held w used x b z → 0 ≡ length x
        → (e : SpellSchema s k b a) → length x + (k + added y) + length z ≤ length w → SaysPairs y a e.metadata_room x (e.columns_bytes ++ z) got
    pairs_said y st wf small x b z k a held hx e room =
        let at₀ = p y st in
        let held₁ : Held w used x e.metadata_bytes (e.columns_bytes ++ z) = held_as held (ap (λ v. x ++ (v ++ z)) e.bytes ∙ ap (λ v. x ++ v) (append_assoc e.metadata_bytes e.columns_bytes z)) in
        m.says y.metadata at₀.count at₀.stands wf.metadata small x e.metadata_bytes (e.columns_bytes ++ z) e.metadata_room a.metadata held₁ hx e.metadata
        (omega (arith, room, e.room, columns_fit a e.columns, length-append e.columns_bytes z))

    -- 25
    pub sheet_stopped : {n : Number} → got ≡ Err n → MergesSheet parked q s w used w₁ got
    unfolding merge_schema ◌>>=◌
    sheet_stopped {n} c = record {
      says = λ y st wf small x b z k a held hx e room.
          let t = subst (SaysPairs y a e.metadata_room x (e.columns_bytes ++ z)) c (pairs_said y st wf small x b z k a held hx e room) in
          subst (λ r. Says (SpellSchema s) (k + added y) x z w₁ r (merge_schema parked a y)) (sym c)
          (ap (λ m. m >>= λ v. pour (merge_by_name (merge_column parked)) a.columns y.columns >>= λ cs. done (record { metadata = v; columns = cs })) t);
    }

    -- and then the columns, of which `n` stand at c, into the row behind the places
    pub sheet_merged : {kept row n c : ℕ} {w₂ : Bytes} {r : Merged} → got ≡ Ok kept → ((ps : List ℕ) → Every (λ p. p < no_place) ps → Skips w₁ 0 (places_bytes ps) row)
        → ((x : Schema) → Stands s q (sheet_bytes x) → ColumnsAt s q x n c) → Pours parked max_levels row c n s w₁ kept w₂ r → MergesSheet parked q s w used w₂ r
    unfolding merge_schema ◌>>=◌
    sheet_merged {kept} {row} {n} {c} {w₂} {r} g sk find pours = record {
      says = λ y st wf small x b z k a held hx e room.
          let t = subst (SaysPairs y a e.metadata_room x (e.columns_bytes ++ z)) g (pairs_said y st wf small x b z k a held hx e room) in
          let v = t.spelt in
          let places = t.spells in
          let there = (sk places.places (refer_small places.refer)).behind (subst (Stands w₁ 0) places.bytes (held_stands t.held hx)) in
          let held₁ : Held w₁ kept (x ++ v) e.columns_bytes z = held_as t.held (sym (append_assoc x v (e.columns_bytes ++ z))) in
          let columns = find y st in
          let more = 4 * length (each column_bytes y.columns) in
          let says = pours.says max_levels y.columns (omega arith)
          (record {
            small = small;
            stands = columns.stands;
            counted = sym columns.count;
            well_formed = each_every (λ s g. WellFormedColumn g) WellFormedColumn (λ s g w. w) [] y.columns wf.columns;
          })
          (x ++ v) e.columns_bytes z e.columns_room a.columns held₁ (omega (arith, there, hx, length-append x v, ap length places.bytes)) e.columns
          (omega (arith, room, size, length-append x v, e.room, t.fits, places_fit places)) in
          subst (λ q. Says (SpellSchema s) (k + added y) x z w₂ r q)
          (sym (ap (λ m. m >>= λ v. pour (merge_by_name (merge_column parked)) a.columns y.columns >>= λ cs. done (record { metadata = v; columns = cs })) t.is))
          (says_in (SpellRow max_levels s) (SpellSchema s) (e.columns_room + more) (k + added y) x v [] z w₂ (λ cs. record { metadata = t.value; columns = cs })
          (pour (merge_by_name (merge_column parked)) a.columns y.columns)
          (λ j u cs sp h. (
            k + added y,
            record {
              metadata_bytes = v;
              columns_bytes = u;
              metadata_room = t.room;
              columns_room = j;
              bytes = ap (λ z. v ++ z) (append-nil u);
              metadata = places;
              columns = sp;
              room = omega (arith, h, t.fits, e.room);
            },
            omega arith,
          )) r says);
    }
