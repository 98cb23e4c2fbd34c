-- A row of places, gone over.
use Rattle.std.specs.Prelude.{ℕ, ◌+◌, ◌≤◌, ◌<◌, ◌≡◌, ◌≢◌, ◌⊎◌, length, MatchOption, Option}
use Rattle.table.specs.Table.{three, no_place}
use Rattle.table.specs.declared.PlaceRow.{PlaceRow}

-- what a call of `next` gives: the place of the train that stands where the row begins, which begins behind it then; or nothing, at the mark or
-- past the end of the table
abbrev pub GivesPlace : PlaceRow → Option ℕ → PlaceRow → Type 0
GivesPlace s r t =
    (t.w.now ≡ s.w.now) × MatchOption r ((t.at ≡ s.at) × ((three s.w.now s.at ≡ no_place) ⊎ (length s.w.now ≤ s.at)))
    (λ x. (x ≡ three s.w.now s.at) × (x ≢ no_place) × (s.at < length s.w.now) × (t.at ≡ s.at + 3))
