-- What is copied from the train by a row of places.
use Prim.Native.Nat.{ℕ, ◌/◌, ◌%◌, ◌≤◌, ◌<◌}
use native.Mathlib.Omega.{arith}
use mathlib.Core.Path.{◌≡◌, refl, sym, ap, ap₂, subst, ◌∙◌}
use mathlib.Core.List.{List, [], ◌∷◌, ◌++◌}
use mathlib.Core.Bool.{Bool, true, false}
use lib.ListN.{length, length-append, length-map}
use Rattle.std.specs.Prelude.{Option, None, Some, is_some, map}
use Rattle.std.specs.Iterator.{AlwaysYields, Drains}
use Rattle.std.proofs.lemmas.Iterator.{YieldsList}
use Rattle.std.proofs.lemmas.Iterator.Consumers.{count_from_yields_List}
use Rattle.model.specs.Numbers.{max_sheet_bytes}
use Rattle.model.specs.Bytes.{Bytes, Every, u16}
use Rattle.model.specs.Sheet.{each, with_count, stands, text_bytes, pair_bytes}
use Rattle.model.proofs.Lists.{every_unit}
use Rattle.buffer.specs.declared.Output.{Output}
use Rattle.buffer.specs.Puts.{Puts}
use Rattle.buffer.proofs.Puts.{puts_same}
use Rattle.walk.specs.Stands.{Stands, Skips}
use Rattle.table.specs.Table.{no_place, Refer, none_left, one_place, places_bytes, Places}
use Rattle.table.specs.Row.{GivesPlace}
use Rattle.table.specs.declared.PlaceRow.{PlaceRow}
use Rattle.table.proofs.Entries.{refer_small}
use Rattle.table.proofs.Given.{row_gives}
use Rattle.table.proofs.Places.{refer_length}
use Rattle.emit.specs.Emission.{HasPlaces, EndsAt, PutsPlaces, PutsMetadata}
use Rattle.emit.proofs.Putting.{PutsPart, Onward, onward_begin, onward_one, onward_done, onward_beyond, puts_counted_list, puts_part, puts_no_part}

-- a row that begins at a place of the table
abbrev Begins : (w : Bytes) (place : ℕ) → PlaceRow → Type 0
Begins w place row = (row.w.now ≡ w) × (row.at ≡ place)

-- Whether a row has places

module _ {w : Bytes} {place : ℕ} (row behind : PlaceRow) (i : Begins w place row) where
  pub has_places : (r : Option ℕ) → GivesPlace row r behind → HasPlaces w place (is_some r)
  has_places None h [] g st = refl
  has_places None h (p ∷ ps) g st = let y : YieldsList GivesPlace (λ x. x) row (p ∷ ps) = row_gives (p ∷ ps) i g st in absurd (y.runs.0 behind h)
  has_places (Some x) h [] g st = let y : YieldsList GivesPlace (λ x. x) row [] = row_gives [] i g st in absurd (y.runs x behind h)
  has_places (Some x) h (p ∷ ps) g st = refl

refer_stands : {A : Type 0} {s : Bytes} {write : A → Bytes} {ps : List ℕ} {xs : List A} → Refer s write ps xs → stands ps ≡ stands xs
refer_stands none_left = refl
refer_stands (one_place h st r) = refl

module _ {A : Type 0} {s : Bytes} {write : A → Bytes} {w : Bytes} {place : ℕ} {k : ℕ} {y : Bytes} {xs : List A} (p : Places s write k y xs) (st : Stands w place y) where
  row_stands : Stands w place (places_bytes p.places)
  row_stands = subst (Stands w place) p.bytes st

  -- the row's verdict is that of the elements
  pub places_stand : {b : Bool} → HasPlaces w place b → b ≡ stands xs
  places_stand f = f p.places (refer_small p.refer) row_stands ∙ refer_stands p.refer

-- The loop that copies parts of the train

module _ (ends : ℕ → ℕ → Type 0) (s w : Bytes) (first : ℕ) (o₀ : Output) where
  -- of the parts bs these are left, and the row gives their places
  record Left (bs : List Bytes) (row : PlaceRow) (o : Output) : Type 0 where
    places : List ℕ
    left : List Bytes
    refer : Refer s (λ b. b) places left
    good : Every (EndsAt ends s) left
    gives : AlwaysYields GivesPlace (λ x. x) row places
    goal : Onward (λ b. b) bs o₀ o left

  -- so it is of each row that stands at `first`
  pub record Copying (row : PlaceRow) (o : Output) : Type 0 where
    going : {k : ℕ} {y : Bytes} {bs : List Bytes} → Places s (λ b. b) k y bs → Every (EndsAt ends s) bs → Stands w first y → Left bs row o

  -- all are put
  abbrev pub PutsParts : (o : Output) → Type 0
  PutsParts o = (k : ℕ) (y : Bytes) (bs : List Bytes) → Places s (λ b. b) k y bs → Every (EndsAt ends s) bs → Stands w first y → Puts (each (λ b. b) bs) o₀ o

  pub copying_begin : {row : PlaceRow} → Begins w first row → Copying row o₀
  copying_begin i = record {
    going = λ {k} {y} {bs} r g st. record {
      places = r.places;
      left = bs;
      refer = r.refer;
      good = g;
      gives = (row_gives r.places i (refer_small r.refer) (row_stands r st)).runs;
      goal = onward_begin (λ b. b);
    };
  }

  module _ {row : PlaceRow} {o : Output} (c : Copying row o) where
    pub copying_beyond : max_sheet_bytes < o.written → PutsParts o
    copying_beyond h k y bs r g st = onward_beyond (λ b. b) h (c.going r g st).goal

    module _ (behind : PlaceRow) where
      pub copying_done : GivesPlace row None behind → PutsParts o
      copying_done h k y bs r g st = go (c.going r g st)
        where
          done : (ps : List ℕ) (left : List Bytes) → Refer s (λ b. b) ps left → AlwaysYields GivesPlace (λ x. x) row ps → Onward (λ b. b) bs o₀ o left
              → Puts (each (λ b. b) bs) o₀ o
          done [] [] none_left u o = onward_done (λ b. b) o
          done (x ∷ ps) (b ∷ left) (one_place i v r') u o = absurd (u.0 behind h)
          done [] (b ∷ left) r' u o = elim r' [ ]
          done (x ∷ ps) [] r' u o = elim r' [ ]

          go : Left bs row o → Puts (each (λ b. b) bs) o₀ o
          go l = done l.places l.left l.refer l.gives l.goal

      pub copying_again : {place end : ℕ} {o₁ : Output} → GivesPlace row (Some place) behind → ends place end → PutsPart s place end o o₁ → Copying behind o₁
      copying_again {place} {end} {o₁} h e f = record { going = λ {k} {y} {bs} r g st. go bs (c.going r g st) }
        where
          again : (bs : List Bytes) (ps : List ℕ) (left : List Bytes) → Refer s (λ b. b) ps left → Every (EndsAt ends s) left → AlwaysYields GivesPlace (λ x. x) row ps
              → Onward (λ b. b) bs o₀ o left → Left bs behind o₁
          again bs [] [] none_left g u o = absurd (u place behind h)
          again bs (x ∷ ps) (b ∷ left) (one_place i v r) g u o =
              let next = u.1 place behind h in
              let here : Stands s place b = subst (λ n. Stands s n b) (sym next.0) v in
              let small : place < no_place = omega (arith, i, next.0) in
              record {
                places = ps;
                left = left;
                refer = r;
                good = g.1;
                gives = next.1;
                goal = onward_one (λ b. b) (f b here ((g.0.1 place end small e).behind here)) o;
              }
          again bs [] (b ∷ left) r g u o = elim r [ ]
          again bs (x ∷ ps) [] r g u o = elim r [ ]

          go : (bs : List Bytes) → Left bs row o → Left bs behind o₁
          go bs l = again bs l.places l.left l.refer l.good l.gives l.goal

parts_long : (ends : ℕ → ℕ → Type 0) (s : Bytes) (bs : List Bytes) → Every (EndsAt ends s) bs → length bs ≤ length (each (λ b. b) bs)
parts_long ends s [] g = omega arith
parts_long ends s (b ∷ bs) g = omega (arith, parts_long ends s bs g.1, g.0.0, length-append b (each (λ b. b) bs))

-- the count, and the parts
pub places_put : (ends : ℕ → ℕ → Type 0) (s w : Bytes) (place : ℕ) {row : PlaceRow} {n : ℕ} {o o₁ o₂ : Output} → Begins w place row
    → ((xs : List ℕ) × Drains GivesPlace row xs × (n ≡ length xs)) → Puts (n % 256 ∷ n / 256 % 256 ∷ []) o o₁ → PutsParts ends s w place o₁ o₂
    → PutsPlaces ends s w place o o₂
places_put ends s w place {row} {n} i count two parts k y bs ps g st =
    puts_counted_list (λ b. b) bs
    (count_from_yields_List _ n count (row_gives ps.places i (refer_small ps.refer) (row_stands ps st)) ∙ sym (refer_length ps.refer))
    (parts_long ends s bs g) two (parts k y bs ps g st)

-- The same for elements that are written so

module _ {A : Type 0} (write : A → Bytes) where
  parts_each : (xs : List A) → each (λ b. b) (map write xs) ≡ each write xs
  parts_each [] = refl
  parts_each (x ∷ xs) = ap (λ b. write x ++ b) (parts_each xs)

  parts_counted : (xs : List A) → with_count (λ b. b) (map write xs) ≡ with_count write xs
  unfolding with_count
  parts_counted xs = ap₂ (λ n b. u16 n ++ b) (length-map xs write) (parts_each xs)

  parts_refer : {s : Bytes} {ps : List ℕ} {xs : List A} → Refer s write ps xs → Refer s (λ b. b) ps (map write xs)
  parts_refer none_left = none_left
  parts_refer (one_place h st r) = one_place h st (parts_refer r)

  parts_good : {s : Bytes} (W : A → Type 0) (ends : ℕ → ℕ → Type 0) → ((x : A) → W x → EndsAt ends s (write x)) → (xs : List A) → Every W xs → Every (EndsAt ends s) (map write xs)
  parts_good W ends f [] g = tt
  parts_good W ends f (x ∷ xs) g = (f x g.0, parts_good W ends f xs g.1)

  pub elements_put : (W : A → Type 0) (ends : ℕ → ℕ → Type 0) {s w : Bytes} {place : ℕ} {o o' : Output} → ((x : A) → W x → EndsAt ends s (write x))
      → PutsPlaces ends s w place o o'
      → (k : ℕ) (y : Bytes) (xs : List A) → Places s write k y xs → Every W xs → Stands w place y → Puts (with_count write xs) o o'
  elements_put W ends f puts k y xs ps g st =
      puts_same (parts_counted xs)
      (puts k y (map write xs) (record { places = ps.places; bytes = ps.bytes; refer = parts_refer ps.refer; room = ps.room }) (parts_good W ends f xs g) st)

-- Metadata

pair_long : (x : Bytes × Bytes) → 0 < length (pair_bytes x)
unfolding pair_bytes text_bytes u16
pair_long x = omega arith

module _ {s w : Bytes} {place : ℕ} {o : Output} {b : Bool} (f : HasPlaces w place b) where
  pub metadata_puts : (ends : ℕ → ℕ → Type 0) {o' : Output} → b ≡ true → ((place end : ℕ) → place < no_place → ends place end → (x : Bytes × Bytes) → Skips s place (pair_bytes x) end)
      → PutsPlaces ends s w place o o' → PutsMetadata s w place o o'
  metadata_puts ends e skips puts k y m h st =
      puts_part (with_count pair_bytes) m (sym e ∙ places_stand h st f)
      (elements_put pair_bytes (λ x. Unit {0}) ends (λ x g. (pair_long x, λ place end small i. skips place end small i x)) puts k y m h (every_unit m) st)

  pub no_metadata : b ≡ false → PutsMetadata s w place o o
  no_metadata e k y m h st = puts_no_part (with_count pair_bytes) m (sym e ∙ places_stand h st f)
