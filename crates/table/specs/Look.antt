-- Reading the table: the place in an entry, and looking up a name among the entries of a row.
use Rattle.std.specs.Prelude.{ℕ, ◌+◌, ◌≤◌, ◌<◌, ◌≡◌, List, [], ◌∷◌, ◌++◌, Bool, true, false, length, Result, Ok, Err}
use Rattle.model.specs.Bytes.{Bytes, Every, same_bytes}
use Rattle.model.specs.Tree.{Field}
use Rattle.model.specs.Sheet.{part, text_bytes}
use Rattle.walk.specs.Stands.{Stands, Skips}
use Rattle.table.specs.Table.{no_place, no_entry, u24, places_bytes, Rows, SpellField}

-- the place of the train that stands behind one byte, the flags of an entry or the kind of a type
abbrev pub NamesPlace : (w : Bytes) (place r : ℕ) → Type 0
NamesPlace w place r = (c x : ℕ) (ys : Bytes) → x < no_place → Stands w place (c ∷ (u24 x ++ ys)) → r ≡ x

-- behind a row of places and its end
abbrev pub SkipsPlaces : (w : Bytes) (place r : ℕ) → Type 0
SkipsPlaces w place r = (ps : List ℕ) → Every (λ p. p < no_place) ps → Skips w place (places_bytes ps) r

-- behind the flags, the place and the metadata of an entry
abbrev pub SkipsHead : (w : Bytes) (place r : ℕ) → Type 0
SkipsHead w place r = (l : ℕ) (s : Bytes) (k : ℕ) (y : Bytes) (f : Field l) (e : SpellField l s k y f) → Skips w place (e.flags ∷ (u24 e.first ++ e.metadata_bytes)) r

-- whether the entry that stands at a place has a name
abbrev pub NamesEntry : (s w : Bytes) (place : ℕ) (name : Bytes) (r : Bool) → Type 0
NamesEntry s w place name r =
    (l k : ℕ) (y : Bytes) (f : Field l) (n : Bytes) → SpellField l s k y f → Stands w place y → name ≡ part text_bytes n → r ≡ same_bytes f.head.name n

-- a place between the entries of a row that stands from `row` on: some stand before it, the others from it on
pub record Cut (l : ℕ) (s : Bytes) (row k : ℕ) (y : Bytes) (fs : List (Field l)) (place : ℕ) : Type 0 where
  pub before : List (Field l)
  pub after : List (Field l)
  pub before_bytes : Bytes
  pub after_bytes : Bytes
  pub before_room : ℕ
  pub after_room : ℕ
  pub fields : fs ≡ before ++ after
  pub bytes : y ≡ before_bytes ++ (after_bytes ++ (no_entry ∷ []))
  pub row_before : Rows (λ i z f. SpellField l s i z f) before_room before_bytes before
  pub row_after : Rows (λ i z f. SpellField l s i z f) after_room after_bytes after
  pub stands : place ≡ row + length before_bytes
  pub room : before_room + after_room + 1 ≤ k

-- the entry of a name
pub record FoundAt (l : ℕ) (s : Bytes) (row k : ℕ) (y : Bytes) (fs : List (Field l)) (name : Bytes) (place : ℕ) : Type 0 where
  pub before : List (Field l)
  pub this : Field l
  pub after : List (Field l)
  pub before_bytes : Bytes
  pub this_bytes : Bytes
  pub after_bytes : Bytes
  pub before_room : ℕ
  pub this_room : ℕ
  pub after_room : ℕ
  pub fields : fs ≡ before ++ (this ∷ after)
  pub bytes : y ≡ before_bytes ++ (this_bytes ++ (after_bytes ++ (no_entry ∷ [])))
  pub row_before : Rows (λ i z f. SpellField l s i z f) before_room before_bytes before
  pub spelt : SpellField l s this_room this_bytes this
  pub row_after : Rows (λ i z f. SpellField l s i z f) after_room after_bytes after
  pub stands : place ≡ row + length before_bytes
  pub named : same_bytes this.head.name name ≡ true
  pub room : before_room + (this_room + after_room) + 1 ≤ k

-- no entry has the name; the place is that of the row's end
pub record NotFound (l : ℕ) (row : ℕ) (y : Bytes) (fs : List (Field l)) (name : Bytes) (place : ℕ) : Type 0 where
  pub others : Every (λ f. same_bytes f.head.name name ≡ false) fs
  pub end : place + 1 ≡ row + length y

abbrev pub Finds : (l : ℕ) (s : Bytes) (row k : ℕ) (y : Bytes) (fs : List (Field l)) (name : Bytes) → Result ℕ ℕ → Type 0
Finds l s row k y fs name (Ok place) = FoundAt l s row k y fs name place
Finds l s row k y fs name (Err place) = NotFound l row y fs name place
