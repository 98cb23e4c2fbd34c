-- A row of entries, gone over.
use Rattle.std.specs.Prelude.{ℕ, ◌≤◌, ◌<◌, ◌≡◌, ◌≢◌, length, get_or, MatchOption, Option}
use Rattle.model.specs.Bytes.{Bytes}
use Rattle.model.specs.Tree.{Field}
use Rattle.walk.specs.Stands.{Stands, Skips}
use Rattle.table.specs.Table.{no_entry, SpellField}
use Rattle.table.specs.declared.EntryRow.{EntryRow}

-- entries of at most so many levels: that one which stands at a place ends at r, and that none stands there

abbrev pub SkipsEntries : (w : Bytes) (place levels r : ℕ) → Type 0
SkipsEntries w place levels r = (l : ℕ) (s : Bytes) (k : ℕ) (y : Bytes) (f : Field l) → l ≤ levels → SpellField l s k y f → Skips w place y r

abbrev pub NoEntry : (w : Bytes) (place levels : ℕ) → Type 0
NoEntry w place levels = (l : ℕ) (s : Bytes) (k : ℕ) (y : Bytes) (f : Field l) → l ≤ levels → SpellField l s k y f → Stands w place y → ⊥

-- from a place the row gives the place of the entry that stands there, and goes on to where that one ends; or nothing, where none stands
abbrev pub StepsOver : (w : Bytes) (place levels : ℕ) (r : Option ℕ) (next : ℕ) → Type 0
StepsOver w place levels r next =
    MatchOption r ((next ≡ place) × NoEntry w place levels)
    (λ x. (x ≡ place) × (get_or w place 0 ≢ no_entry) × (place < length w) × (place < next) × SkipsEntries w place levels next)

-- what a look at the next entry gives: where it stands, or nothing, where none does
abbrev pub PeeksEntry : EntryRow → Option ℕ → Type 0
PeeksEntry s r = MatchOption r (NoEntry s.w.now s.at s.levels) (λ x. (x ≡ s.at) × (get_or s.w.now s.at 0 ≢ no_entry) × (s.at < length s.w.now))

-- what a call of `next` gives
abbrev pub GivesEntry : EntryRow → Option ℕ → EntryRow → Type 0
GivesEntry s r t = (t.w.now ≡ s.w.now) × (t.levels ≡ s.levels) × StepsOver s.w.now s.at s.levels r t.at
