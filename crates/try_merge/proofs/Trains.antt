-- The loop over the sheets of a train: those before `sheet` are merged in the table, the others stand from `place` on.
use Prim.Native.Nat.{ℕ, suc, ◌+◌, ◌*◌, ◌≤◌, ◌<◌}
use native.Mathlib.Omega.{arith}
use mathlib.Core.Path.{◌≡◌, refl, sym, ap, subst, ◌∙◌}
use mathlib.Core.List.{List, [], ◌∷◌, ◌++◌}
use lib.ListN.{length, take, length-append}
use Rattle.model.specs.Numbers.{max_sheet_bytes, max_sheets, work_bytes_per_sheet_byte}
use Rattle.model.specs.Bytes.{Bytes, Every}
use Rattle.model.specs.Tree.{Schema}
use Rattle.model.specs.Sheet.{each, sheet_bytes}
use Rattle.model.specs.WellFormed.{Fits}
use Rattle.model.specs.Read as read
use Rattle.model.specs.Read.{got, bad, next}
use Rattle.model.specs.Merge.{done, clash, empty, merge_schema, placed, merge_from, try_merge}
use Rattle.model.proofs.Lists.{empty_list}
use Rattle.model.proofs.WellFormed.{columns_laid_out}
use Rattle.walk.specs.Stands.{Stands, SkipsSheet}
use Rattle.walk.proofs.Standing.{whole_stands, first_stands, second_stands}
use Rattle.sheet.specs.Answers.{step_of}
use Rattle.std.specs.Prelude.{Result, Ok, Err, MatchResult}
use Rattle.buffer.specs.declared.refusal.Number.{Number}
use Rattle.buffer.specs.declared.refusal.Refusal.{Refusal}
use Rattle.buffer.specs.Refusals.{number_of}
use Rattle.table.specs.Held.{Held}
use Rattle.table.specs.Edits.{Inserts}
use Rattle.table.specs.Table.{no_place, no_entry, u24, none, SpellSchema}
use Rattle.table.specs.Says.{Says}
use Rattle.table.specs.Says as table
use Rattle.table.proofs.Held.{held_stands}
use Rattle.table.proofs.Places.{places_none}
use Rattle.try_merge.specs.Claims.{empty_table, added, BeginsTable, MergesSheet, Spelt, MergesSheets}
use Rattle.try_merge.proofs.Sheets.{added_fits}
use mathlib.Core.Bool.{Bool}

-- a place in a train has three bytes
train_long : (xs : List Schema) → Every Fits xs → length (each sheet_bytes xs) ≤ max_sheet_bytes * length xs
train_long [] f = omega arith
train_long (x ∷ xs) f = omega (arith, length-append (sheet_bytes x) (each sheet_bytes xs), f.0.size, train_long xs f.1)

sheet_size : (x : Schema) → 1 ≤ length (sheet_bytes x)
unfolding sheet_bytes
sheet_size x = omega arith

-- the table of the empty schema
empty_spelt : (s : Bytes) → SpellSchema s 4 empty_table empty
empty_spelt s = record {
  metadata_bytes = u24 no_place;
  columns_bytes = no_entry ∷ [];
  metadata_room = 3;
  columns_room = 1;
  bytes = refl;
  metadata = places_none;
  columns = record { row_bytes = []; row_room = 0; bytes = refl; row = none; distinct = tt; room = omega arith };
  room = omega arith;
}

-- its four bytes put in where none are in use
pub table_begun : {w w₀ w' : Bytes} {u used : ℕ} → w₀ ≡ w → u ≡ 0 → length w' ≡ length w₀ → Inserts 0 (255 ∷ 255 ∷ 255 ∷ 255 ∷ []) w₀ u w' used → BeginsTable w w' used
unfolding u24
table_begun {w} {w₀} e z same ins = record {
  same_length = same ∙ ap length e;
  begins = λ room. (ins [] [] (record { fits = omega (arith, z); is = ap (λ n. take n w₀) z }) refl (omega (arith, z, room, ap length e))).1;
}

-- in either mode
module _ (parked : Bool) where
  -- what is left of a train of these schemas
  pub record Left (s w : Bytes) (used place sheet : ℕ) (xs : List Schema) : Type 0 where
    pub left : List Schema
    pub merged : Schema
    pub table_room : ℕ
    pub spelt : Bytes
    pub small : length s < no_place
    pub stands : Stands s place (each sheet_bytes left)
    pub ends : place + length (each sheet_bytes left) ≡ length s
    pub fits : Every Fits left
    pub counted : sheet + length left ≡ length xs
    pub is : try_merge parked xs ≡ merge_from parked sheet merged left
    pub spells : SpellSchema s table_room spelt merged
    pub held : Held w used [] spelt []
    -- the table of the empty schema has four bytes, and each sheet adds at most four times its own, less four
    pub enough : table_room + 4 * sheet ≤ 4 + 4 * place

  pub record Merging (s w₀ w : Bytes) (used place sheet : ℕ) : Type 0 where
    pub same : length w ≡ length w₀
    pub so : (xs : List Schema) → s ≡ each sheet_bytes xs → Every Fits xs → length xs ≤ max_sheets → 1 ≤ length s → work_bytes_per_sheet_byte * length s ≤ length w₀ → Left s w used place sheet xs

  pub merging_begin : {s w₀ w : Bytes} {used : ℕ} → BeginsTable w₀ w used → Merging s w w used 0 0
  unfolding try_merge
  merging_begin {s} {w₀} {w} b = record {
    same = refl;
    so = λ xs e f n one room. record {
      left = xs;
      merged = empty;
      table_room = 4;
      spelt = empty_table;
      small = omega (arith, ap length e, train_long xs f, n);
      stands = whole_stands s (each sheet_bytes xs) e;
      ends = omega (arith, ap length e);
      fits = f;
      counted = omega arith;
      is = refl;
      spells = empty_spelt s;
      held = b.begins (omega (arith, one, room, b.same_length));
      enough = omega arith;
    };
  }

  -- what a merge of a sheet gives the loop
  module _ (i : ℕ) (x y : Schema) (ys : List Schema) where
    from_done : {z : Schema} → merge_schema parked x y ≡ done z → merge_from parked i x (y ∷ ys) ≡ merge_from parked (i + 1) z ys
    unfolding merge_from placed next
    from_done {z} e = let next-sheet : suc i ≡ i + 1 = omega arith in ap (λ m. next (placed i m) λ z j. merge_from parked j z ys) e ∙ ap (λ j. merge_from parked j z ys) next-sheet

    from_clash : {n : ℕ} → merge_schema parked x y ≡ clash n → merge_from parked i x (y ∷ ys) ≡ bad n i
    unfolding merge_from placed next
    from_clash e = ap (λ m. next (placed i m) λ z j. merge_from parked j z ys) e

  module _ {s w₀ w : Bytes} {used place sheet : ℕ} (m : Merging s w₀ w used place sheet) where
    -- nothing is left
    ended : (xs : List Schema) (o : Left s w used place sheet xs) → o.left ≡ [] → (Ok sheet ≡ step_of (try_merge parked xs)) × ((x : Schema) (n : ℕ) → try_merge parked xs ≡ got x n → Spelt s w x)
    unfolding merge_from
    ended xs o e =
        let all : try_merge parked xs ≡ got o.merged sheet = o.is ∙ ap (merge_from parked sheet o.merged) e in (
          sym (ap step_of all),
          λ x n t. record { room = o.table_room; spelt = o.spelt; spells = subst (SpellSchema s o.table_room o.spelt) (schema_is (sym all ∙ t)) o.spells; stands = held_stands o.held refl },
        )
      where
        schema_is : {x y : Schema} {i j : ℕ} → ◌≡◌ {A = read.Step Schema} (got x i) (got y j) → x ≡ y
        schema_is e = cc

    none_left_lem : (ys : List Schema) → length (each sheet_bytes ys) ≡ 0 → ys ≡ []
    none_left_lem [] e = refl
    none_left_lem (y ∷ ys) e = absurd (omega (arith, e, sheet_size y, length-append (sheet_bytes y) (each sheet_bytes ys)))

    pub merging_ended : length s ≤ place → MergesSheets parked s w₀ w (Ok sheet)
    merging_ended h = record {
      same_length = m.same;
      merges = λ xs e f n one room. let o = m.so xs e f n one room in ended xs o (none_left_lem o.left (omega (arith, h, o.ends)));
    }

    pub merging_full : {end : ℕ} → max_sheets ≤ sheet → sheet ≡ end → MergesSheets parked s w₀ w (Ok end)
    merging_full h same = subst (λ n. MergesSheets parked s w₀ w (Ok n)) same (record {
      same_length = m.same;
      merges = λ xs e f n one room. let o = m.so xs e f n one room in ended xs o (empty_list o.left (omega (arith, h, n, o.counted)));
    })

    -- one sheet more
    module _ (before : place < length s) {w₁ : Bytes} {r : table.Merged} (size : length w₁ ≡ length w) (g : MergesSheet parked place s w used w₁ r) where
      said : (xs : List Schema) (o : Left s w used place sheet xs) (y : Schema) (ys : List Schema) → o.left ≡ y ∷ ys → work_bytes_per_sheet_byte * length s ≤ length w₀
          → Stands s place (sheet_bytes y ++ each sheet_bytes ys) × Fits y × Every Fits ys × (place + length (sheet_bytes y) + length (each sheet_bytes ys) ≡ length s)
          × Says (SpellSchema s) (o.table_room + added y) [] [] w₁ r (merge_schema parked o.merged y)
      said xs o y ys e room =
          let st : Stands s place (sheet_bytes y ++ each sheet_bytes ys) = subst (λ l. Stands s place (each sheet_bytes l)) e o.stands in
          let fs : Every Fits (y ∷ ys) = subst (Every Fits) e o.fits in
          let long : place + length (sheet_bytes y) + length (each sheet_bytes ys) ≡ length s =
          omega (arith, o.ends, ap (λ l. length (each sheet_bytes l)) e, length-append (sheet_bytes y) (each sheet_bytes ys)) in (
            st,
            fs.0,
            fs.1,
            long,
            g.says y (first_stands (sheet_bytes y) (each sheet_bytes ys) st) fs.0.well_formed o.small [] o.spelt [] o.table_room o.merged o.held refl o.spells
                (omega (arith, room, long, m.same, o.enough, added_fits y)),
          )

      split : (xs : List Schema) (o : Left s w used place sheet xs) → (y : Schema) × (ys : List Schema) × (o.left ≡ y ∷ ys)
      split xs o = go o.left o.ends
        where
          go : (l : List Schema) → place + length (each sheet_bytes l) ≡ length s → (y : Schema) × (ys : List Schema) × (l ≡ y ∷ ys)
          go [] h = absurd (omega (arith, h, before))
          go (y ∷ ys) h = (y, ys, refl)

      pub merging_stop : {n : Number} → r ≡ Err n → MergesSheets parked s w₀ w₁ (Err (record { 0 = n; 1 = sheet }))
      merging_stop {n} c = record {
        same_length = size ∙ m.same;
        merges = λ xs e f k one room.
            let o = m.so xs e f k one room in
            let (y, ys, l) = split xs o in
            let (st, fy, fs, long, t) = said xs o y ys l room in
            let t₁ = subst (λ r. Says (SpellSchema s) (o.table_room + added y) [] [] w₁ r (merge_schema parked o.merged y)) c t in
            let all : try_merge parked xs ≡ bad (number_of n) sheet = o.is ∙ ap (merge_from parked sheet o.merged) l ∙ from_clash sheet o.merged y ys t₁ in
            (sym (ap step_of all), λ x j t. absurd (never (sym all ∙ t)));
      }
        where
          never : {x : Schema} {i j k : ℕ} → ◌≡◌ {A = read.Step Schema} (bad i j) (got x k) → ⊥
          never e = let z : ◌≡◌ {A = ℕ} 0 1 = cc in omega arith

      pub merging_again : {end behind : ℕ} → r ≡ Ok end → SkipsSheet s place behind → Merging s w₀ w₁ end behind (sheet + 1)
      merging_again {end} {behind} c sk = record {
        same = size ∙ m.same;
        so = λ xs e f k one room.
            let o = m.so xs e f k one room in
            let (y, ys, l) = split xs o in
            let (st, fy, fs, long, t) = said xs o y ys l room in
            let t₁ = subst (λ r. Says (SpellSchema s) (o.table_room + added y) [] [] w₁ r (merge_schema parked o.merged y)) c t in
            let to : behind ≡ place + length (sheet_bytes y) = (sk y (columns_laid_out y fy.well_formed)).behind (first_stands (sheet_bytes y) (each sheet_bytes ys) st) in
            record {
              left = ys;
              merged = t₁.value;
              table_room = t₁.room;
              spelt = t₁.spelt;
              small = o.small;
              stands = subst (λ p. Stands s p (each sheet_bytes ys)) (sym to) (second_stands (sheet_bytes y) (each sheet_bytes ys) st);
              ends = omega (arith, to, long);
              fits = fs;
              counted = omega (arith, o.counted, ap length l);
              is = o.is ∙ ap (merge_from parked sheet o.merged) l ∙ from_done sheet o.merged y ys t₁.is;
              spells = t₁.spells;
              held = t₁.held;
              enough = omega (arith, o.enough, t₁.fits, added_fits y, to);
            };
      }

  -- of a work buffer, nothing but its length is told before
  pub merges_since : {s w₀ w₁ w : Bytes} {r : Result ℕ Refusal} → length w₁ ≡ length w₀ → MergesSheets parked s w₁ w r → MergesSheets parked s w₀ w r
  merges_since e m = record { same_length = m.same_length ∙ e; merges = λ xs i f k one room. m.merges xs i f k one (omega (arith, e, room)) }

-- a value that `map_err` passed on, and an error that it gave
module _ {A E : Type 0} where
  pub mapped_ok : (F : Type 0) (m : Result A E) (x : A) {P : E → Type 0} → MatchResult m (λ v. ◌≡◌ {A = Result A F} (Ok x) (Ok v)) P → ((e : E) → P e → ⊥) → m ≡ Ok x
  mapped_ok F (Ok v) x m never = cc
  mapped_ok F (Err e) x m never = absurd (never e m)

  pub mapped_err : {F : Type 0} (f : E → F) (m : Result A E) (y : F) {P : E → Type 0} → MatchResult m (λ v. ◌≡◌ {A = Result A F} (Err y) (Ok v)) P → ((e : E) → P e → y ≡ f e)
      → (e : E) × (m ≡ Err e) × (y ≡ f e)
  mapped_err f (Ok v) y m by = cc
  mapped_err f (Err e) y m by = (e, refl, by e m)
