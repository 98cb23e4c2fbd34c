-- What the functions of `emit` give of the parts of the table, where they stand there. `s` is the train, `w` the table. What is put is the
-- sheet's bytes of what the part spells, to an output that is o before and o' behind.
use Rattle.std.specs.Prelude.{ℕ, ◌+◌, ◌/◌, ◌%◌, ◌≤◌, ◌<◌, ◌≡◌, List, ◌∷◌, Bool, length, get_or, eqb}
use Rattle.model.specs.Numbers.{max_levels}
use Rattle.model.specs.Bytes.{Bytes, Metadata, Every, flag}
use Rattle.model.specs.Tree.{Head, DataType, Field}
use Rattle.model.specs.Sheet.{dict_id_bytes, dict_id_stands, with_count, part, stands, text_bytes, pair_bytes, head_bytes, field_bytes, type_bytes, column_bytes}
use Rattle.model.specs.WellFormed.{LaidOut, Whole}
use Rattle.buffer.specs.declared.Output.{Output}
use Rattle.buffer.specs.Puts.{Puts}
use Rattle.walk.specs.Stands.{Stands, Skips, member_bytes}
use Rattle.table.specs.Table.{no_place, places_bytes, Places, SpellType, SpellField, SpellRow}
use Rattle.emit.specs.Survivor.{survivor}

-- Rows of places

-- whether there are any
abbrev pub HasPlaces : (w : Bytes) (place : ℕ) (r : Bool) → Type 0
HasPlaces w place r = (ps : List ℕ) → Every (λ p. p < no_place) ps → Stands w place (places_bytes ps) → r ≡ stands ps

-- the part of the train that stands at a place ends where `ends` says of it; it is not empty
abbrev pub EndsAt : (ends : ℕ → ℕ → Type 0) (s : Bytes) → Bytes → Type 0
EndsAt ends s b = (0 < length b) × ((place end : ℕ) → place < no_place → ends place end → Skips s place b end)

-- the count of a row, and the parts of the train at its places
abbrev pub PutsPlaces : (ends : ℕ → ℕ → Type 0) (s w : Bytes) (place : ℕ) (o o' : Output) → Type 0
PutsPlaces ends s w place o o' =
    (k : ℕ) (y : Bytes) (bs : List Bytes) → Places s (λ b. b) k y bs → Every (EndsAt ends s) bs → Stands w place y → Puts (with_count (λ b. b) bs) o o'

-- metadata, which is nothing where there are no pairs
abbrev pub PutsMetadata : (s w : Bytes) (place : ℕ) (o o' : Output) → Type 0
PutsMetadata s w place o o' = (k : ℕ) (y : Bytes) (m : Metadata) → Places s pair_bytes k y m → Stands w place y → Puts (part (with_count pair_bytes) m) o o'

-- all that follows the code of a union of at most so many levels, its mode standing in the train
abbrev pub PutsUnion : (s w : Bytes) (mode place levels : ℕ) (o o' : Output) → Type 0
PutsUnion s w mode place levels o o' =
    (l k : ℕ) (y : Bytes) (fs : List (Field l)) → l ≤ levels → Places s (member_bytes l) k y fs → Every (λ f. Whole l f.data_type) fs → Stands w place y
    → Puts (get_or s mode 0 ∷ with_count (member_bytes l) fs) o o'

-- Heads, whatever the levels of the entry

-- a head that is nullable and ordered as an entry's flags say
abbrev pub flagged_by : Head → ℕ → Head
flagged_by h flags = record { type_id = h.type_id; nullable = eqb (flags % 2) 1; dict_is_ordered = eqb (flags / 2 % 2) 1; name = h.name; metadata = h.metadata; dict_id = h.dict_id }

-- of the head that stands at `first` of the train: all but whether it is nullable and ordered, which the flags say; the map and the name
-- alone, the map saying that there is metadata or not; and the dictionary number alone

abbrev pub PutsRawHead : (s : Bytes) (first flags : ℕ) (o o' : Output) → Type 0
PutsRawHead s first flags o o' = (h : Head) → Stands s first (head_bytes h) → Puts (head_bytes (flagged_by h flags)) o o'

abbrev pub PutsName : (s : Bytes) (first flags : ℕ) (metadata : Bool) (o o' : Output) → Type 0
PutsName s first flags metadata o o' =
    (h : Head) → Stands s first (head_bytes h)
    → Puts ((flag 1 (eqb (flags % 2) 1) + flag 2 (eqb (flags / 2 % 2) 1) + flag 4 (stands h.name) + flag 8 metadata + flag 16 (dict_id_stands h.dict_id)) ∷ part text_bytes h.name) o o'

abbrev pub PutsDictId : (s : Bytes) (first : ℕ) (o o' : Output) → Type 0
PutsDictId s first o o' = (h : Head) → Stands s first (head_bytes h) → Puts (dict_id_bytes h.dict_id) o o'

abbrev pub PutsHead : (s w : Bytes) (place : ℕ) (o o' : Output) → Type 0
PutsHead s w place o o' = (l k : ℕ) (y : Bytes) (f : Field l) → SpellField l s k y f → Stands w place y → Puts (head_bytes f.head) o o'

-- Types and entries of at most so many levels

-- of two types that stand in the train, the one that survives
abbrev pub PutsSurvivor : (s : Bytes) (own x levels : ℕ) (o o' : Output) → Type 0
PutsSurvivor s own x levels o o' =
    (l : ℕ) (a b : DataType l) → l ≤ levels → LaidOut l a → LaidOut l b → Stands s own (type_bytes l a) → Stands s x (type_bytes l b) → Puts (type_bytes l (survivor l a b)) o o'

-- a type; that of the first occurrence stands at `own` of the train
abbrev pub PutsType : (s w : Bytes) (place own levels : ℕ) (o o' : Output) → Type 0
PutsType s w place own levels o o' =
    (l k : ℕ) (y : Bytes) (first t : DataType l) → l ≤ levels → SpellType l s first k y t → Stands w place y → Stands s own (type_bytes l first) → LaidOut l first
    → Puts (type_bytes l t) o o'

abbrev pub PutsEntry : (s w : Bytes) (place levels : ℕ) (o o' : Output) → Type 0
PutsEntry s w place levels o o' =
    (l k : ℕ) (y : Bytes) (f : Field l) → l ≤ levels → SpellField l s k y f → Stands w place y → Puts (field_bytes (type_bytes l) f) o o'

-- Rows of entries

-- whether there are any
abbrev pub HasEntries : (w : Bytes) (place : ℕ) (r : Bool) → Type 0
HasEntries w place r = (l : ℕ) (s : Bytes) (k : ℕ) (y : Bytes) (fs : List (Field l)) → SpellRow l s k y fs → Stands w place y → r ≡ stands fs

-- their count and their fields
abbrev pub PutsRow : (s w : Bytes) (place levels : ℕ) (o o' : Output) → Type 0
PutsRow s w place levels o o' =
    (l k : ℕ) (y : Bytes) (fs : List (Field l)) → l ≤ levels → SpellRow l s k y fs → Stands w place y → Puts (with_count (field_bytes (type_bytes l)) fs) o o'

-- the columns of a sheet, which are nothing where there are none
abbrev pub PutsColumns : (s w : Bytes) (place : ℕ) (o o' : Output) → Type 0
PutsColumns s w place o o' = (k : ℕ) (y : Bytes) (fs : List (Field max_levels)) → SpellRow max_levels s k y fs → Stands w place y → Puts (part (with_count column_bytes) fs) o o'
