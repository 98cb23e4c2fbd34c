-- Entries and rows of entries: their fields, and how many they are.
use Prim.Native.Nat.{ℕ, ◌+◌, ◌%◌, ◌/◌, ◌≤◌, ◌<◌}
use native.Mathlib.Omega.{arith}
use mathlib.Core.Path.{◌≡◌, sym, ap, subst, ◌∙◌}
use mathlib.Core.List.{List, [], ◌∷◌, ◌++◌, append_assoc}
use mathlib.Core.Bool.{not}
use lib.ListN.{length, get_or, length-append}
use lib.Dec.{eqb}
use borrow.Author.Tests.{eq-eqb, ne_eqb}
use Rattle.std.specs.Prelude.{None, Some}
use Rattle.std.specs.Iterator.{Yields, Drains}
use Rattle.model.specs.Numbers.{max_sheet_bytes}
use Rattle.model.specs.Bytes.{Bytes}
use Rattle.model.specs.Tree.{Head, Field}
use Rattle.model.specs.Sheet.{front_bytes, each, stands, head_bytes, field_bytes, type_bytes}
use Rattle.model.proofs.WellFormed.{type_laid_out}
use Rattle.buffer.specs.declared.Output.{Output}
use Rattle.buffer.specs.Puts.{Puts}
use Rattle.buffer.proofs.Puts.{puts_join}
use Rattle.walk.specs.Stands.{Stands, Skips}
use Rattle.walk.proofs.Standing.{first_stands, byte_stands, stands_behind}
use Rattle.walk.proofs.Descents.{type_stands}
use Rattle.table.specs.Look.{NamesPlace}
use Rattle.table.specs.Table.{u24, no_entry, Rows, none, more, SpellField, SpellRow}
use Rattle.table.specs.Look.{Cut}
use Rattle.table.specs.Entries.{GivesEntry}
use Rattle.table.specs.declared.EntryRow.{EntryRow}
use Rattle.table.proofs.Entries.{steps_over}
use Rattle.table.proofs.Look.{next_entry, cut_behind, cut_ends, row_begin}
use Rattle.emit.specs.Emission.{PutsHead, PutsType, PutsEntry, PutsRow, HasEntries}
use Rattle.emit.proofs.Fronts.{place_is}
use Rattle.emit.proofs.Putting.{Onward, onward_begin, onward_one, onward_done, onward_beyond, puts_counted_list}

-- an entry: the head, then the type behind it
pub entry_puts : {s w : Bytes} (levels : ℕ) {place first inner own : ℕ} {o o₁ o₂ : Output} → PutsHead s w place o o₁ → NamesPlace w place first
    → ((l : ℕ) (s : Bytes) (k : ℕ) (y : Bytes) (f : Field l) (e : SpellField l s k y f) → Skips w place (e.flags ∷ (u24 e.first ++ e.metadata_bytes)) inner)
    → ((h : Head) → Skips s first (head_bytes h) own) → PutsType s w inner own levels o₁ o₂ → PutsEntry s w place levels o o₂
unfolding field_bytes
entry_puts {s} {w} levels {place} head i skip own type l k y f h e st =
    let is = place_is e.flags e.first (e.metadata_bytes ++ e.type_spelt) i e.small e.bytes st in
    let bytes = e.bytes ∙ ap (λ z. e.flags ∷ z) (sym (append_assoc (u24 e.first) e.metadata_bytes e.type_spelt)) in
    puts_join (head_bytes f.head) (type_bytes l f.data_type) (head l k y f e st)
    (type l e.type_room e.type_spelt e.own.data_type f.data_type h e.data_type (stands_behind (skip l s k y f e) (subst (Stands w place) bytes st))
    (type_stands l e.own own (subst (λ n. Stands s n (field_bytes (type_bytes l) e.own)) (sym is) e.stands))
    (type_laid_out l e.own.head.dict_is_ordered e.own.data_type e.well_formed.data_type))

field_long : (l : ℕ) (f : Field l) → 0 < length (field_bytes (type_bytes l) f)
unfolding field_bytes front_bytes head_bytes
field_long l f = omega arith

fields_long : (l : ℕ) (fs : List (Field l)) → length fs ≤ length (each (field_bytes (type_bytes l)) fs)
fields_long l [] = omega arith
fields_long l (f ∷ fs) = omega (arith, fields_long l fs, field_long l f, length-append (field_bytes (type_bytes l) f) (each (field_bytes (type_bytes l)) fs))

-- whether a row of entries has any
pub has_entries : {w : Bytes} {place n : ℕ} → n ≡ get_or w place 0 → HasEntries w place (not (eqb n no_entry))
has_entries {w} {place} {n} e l s k y fs p st = go p.row (subst (Stands w place) p.bytes st)
  where
    go : {i : ℕ} {b : Bytes} {fs : List (Field l)} → Rows (λ i z f. SpellField l s i z f) i b fs → Stands w place (b ++ (no_entry ∷ [])) → not (eqb n no_entry) ≡ stands fs
    go none st = ap not (eq-eqb n no_entry (e ∙ byte_stands st))
    go (more {y = y} {ys = ys} p r) st =
        let st2 = first_stands y (ys ++ (no_entry ∷ [])) (subst (Stands w place) (append_assoc y ys (no_entry ∷ [])) st) in
        ap not (ne_eqb n no_entry λ h. omega (arith, h, e, p.small_flags, byte_stands (subst (Stands w place) p.bytes st2)))

-- A row that is gone over

-- a row that begins at a place of the table
abbrev pub Begins : (w : Bytes) (place levels : ℕ) → EntryRow → Type 0
Begins w place levels row = (row.w.now ≡ w) × (row.at ≡ place) × (row.levels ≡ levels)

-- it goes on between two entries; G holds of those that are left
record Left (l : ℕ) (s w : Bytes) (first k : ℕ) (y : Bytes) (fs : List (Field l)) (levels : ℕ) (G : List (Field l) → Type 0) (row : EntryRow) : Type 0 where
  of_table : row.w.now ≡ w
  of_levels : row.levels ≡ levels
  cut : Cut l s first k y fs row.at
  goal : G cut.after

module _ {l : ℕ} {s w : Bytes} {first k : ℕ} {y : Bytes} {fs : List (Field l)} (levels : ℕ) (low : l ≤ levels) (st : Stands w first y) where
  left_begin : (G : List (Field l) → Type 0) (row : EntryRow) → Begins w first levels row → SpellRow l s k y fs → G fs → Left l s w first k y fs levels G row
  left_begin G row i p g =
      let c : (d : Cut l s first k y fs row.at) × G d.after = subst (λ n. (d : Cut l s first k y fs n) × G d.after) (sym i.1) (row_begin p, g) in
      record { of_table = i.0; of_levels = i.2; cut = c.0; goal = c.1 }

  module _ (G : List (Field l) → Type 0) (row next : EntryRow) (left : Left l s w first k y fs levels G row) where
    -- none comes: none is left
    left_done : GivesEntry row None next → G []
    left_done h = subst G (cut_ends left.cut st low (steps_over row next None left.of_table left.of_levels h).2.1).0 left.goal

    -- one comes: it stands there, and the others are left
    left_again : {there : ℕ} (H : List (Field l) → Type 0) → GivesEntry row (Some there) next
        → ((i : ℕ) (b : Bytes) (x : Field l) (xs : List (Field l)) → SpellField l s i b x → Stands w there b → G (x ∷ xs) → H xs) → Left l s w first k y fs levels H next
    left_again {there} H h onward =
        let (e, i, o) = steps_over row next (Some there) left.of_table left.of_levels h in
        let a = next_entry left.cut st o.1 in
        record {
          of_table = e;
          of_levels = i;
          cut = cut_behind left.cut st a (o.4 l s a.this_room a.this_bytes a.this low a.spelt);
          goal = onward a.this_room a.this_bytes a.this a.rest a.spelt (subst (λ n. Stands w n a.this_bytes) (sym o.0) (first_stands a.this_bytes _ a.stands)) (subst G a.fields left.goal);
        }

  -- all that come are all there are
  left_counted : (n m : ℕ) (xs : List ℕ) (row t u : EntryRow) → Left l s w first k y fs levels (λ left. n + length left ≡ m) row → Yields GivesEntry row xs t → GivesEntry t None u → n + length xs ≡ m
  left_counted n m [] row t u left e h = left_done (λ left. n + length left ≡ m) t u (subst (Left l s w first k y fs levels (λ left. n + length left ≡ m)) e left) h
  left_counted n m (x ∷ xs) row t u left (j, g, e) h =
      let on = left_again (λ left. n + length left ≡ m) row j left (λ left. n + 1 + length left ≡ m) g λ i b x xs v st d. omega (arith, d) in
      omega (arith, left_counted (n + 1) m xs j t u on e h)

-- Their fields

-- what is left of each row that stands from `first` on
pub record Emitting (s w : Bytes) (first levels : ℕ) (o₀ : Output) (row : EntryRow) (o : Output) : Type 0 where
  left : (l k : ℕ) (y : Bytes) (fs : List (Field l)) → l ≤ levels → SpellRow l s k y fs → Stands w first y → Left l s w first k y fs levels (Onward (field_bytes (type_bytes l)) fs o₀ o) row

-- all are put
abbrev PutsEntries : (s w : Bytes) (first levels : ℕ) (o o' : Output) → Type 0
PutsEntries s w first levels o o' =
    (l k : ℕ) (y : Bytes) (fs : List (Field l)) → l ≤ levels → SpellRow l s k y fs → Stands w first y → Puts (each (field_bytes (type_bytes l)) fs) o o'

module _ (s w : Bytes) (first levels : ℕ) (o₀ : Output) where
  pub emitting_begin : {row : EntryRow} → Begins w first levels row → Emitting s w first levels o₀ row o₀
  emitting_begin {row} i = record {
    left = λ l k y fs h p st. left_begin levels h st (Onward (field_bytes (type_bytes l)) fs o₀ o₀) row i p (onward_begin (field_bytes (type_bytes l)));
  }

  module _ {row : EntryRow} {o : Output} (c : Emitting s w first levels o₀ row o) where
    pub emitting_beyond : max_sheet_bytes < o.written → PutsEntries s w first levels o₀ o
    emitting_beyond h l k y fs i r st = onward_beyond (field_bytes (type_bytes l)) h (c.left l k y fs i r st).goal

    module _ (behind : EntryRow) where
      pub emitting_done : GivesEntry row None behind → PutsEntries s w first levels o₀ o
      emitting_done h l k y fs i r st =
          onward_done (field_bytes (type_bytes l)) (left_done levels i st (Onward (field_bytes (type_bytes l)) fs o₀ o) row behind (c.left l k y fs i r st) h)

      pub emitting_again : {place : ℕ} {o₁ : Output} → GivesEntry row (Some place) behind → PutsEntry s w place levels o o₁ → Emitting s w first levels o₀ behind o₁
      emitting_again {o₁ = o₁} h f = record {
        left = λ l k y fs i r st.
            left_again levels i st (Onward (field_bytes (type_bytes l)) fs o₀ o) row behind (c.left l k y fs i r st) (Onward (field_bytes (type_bytes l)) fs o₀ o₁) h
            λ j b x xs v u o. onward_one (field_bytes (type_bytes l)) (f l j b x i v u) o;
      }

-- the count, then the fields
pub row_puts : (s w : Bytes) (place levels : ℕ) {row : EntryRow} {n : ℕ} {o o₁ o₂ : Output} → Begins w place levels row → ((xs : List ℕ) × Drains GivesEntry row xs × (n ≡ length xs))
    → Puts (n % 256 ∷ n / 256 % 256 ∷ []) o o₁ → PutsEntries s w place levels o₁ o₂ → PutsRow s w place levels o o₂
row_puts s w place levels {row} i (xs, (u, (t, e, h)), c) two f l k y fs j p st =
    let all = left_counted levels j st 0 (length fs) xs row t u (left_begin levels j st (λ left. 0 + length left ≡ length fs) row i p (omega arith)) e h in
    puts_counted_list (field_bytes (type_bytes l)) fs (omega (arith, c, all)) (fields_long l fs) two (f l k y fs j p st)
