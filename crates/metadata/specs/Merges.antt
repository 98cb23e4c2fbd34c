-- What the functions that edit the table ensure: w is the work buffer before, w' after; `used` bytes of it are in use, and `used'` then. Where the
-- parts stand that a function is for, with room for what they may grow to, the answer says what the model's merge gives.
use Rattle.std.specs.Prelude.{ℕ, ◌+◌, ◌*◌, ◌≤◌, ◌<◌, ◌≡◌, [], ◌∷◌, ◌++◌, length}
use Rattle.model.specs.Bytes.{Bytes, Metadata}
use Rattle.model.specs.Tree.{Head, Field}
use Rattle.model.specs.Sheet.{each, part, with_count, pair_bytes, head_bytes}
use Rattle.model.specs.WellFormed.{Each, WellFormedPair}
use Rattle.model.specs.Merge as model
use Rattle.model.specs.Merge.{merge_pair, merge_metadata}
use Rattle.walk.specs.Stands.{Stands}
use Rattle.table.specs.Held.{Held}
use Rattle.table.specs.Table.{u24, no_place, Places, SpellField}
use Rattle.table.specs.Says.{Merged, Says}
use Rattle.table.specs.Becomes.{Becomes}
use Rattle.metadata.specs.Pairs.{NotBelow}
use Rattle.metadata.specs.Fields.{merge_field_metadata, Opened}

-- what an answer says of pairs merged into a row of pairs, and of metadata merged into an entry

abbrev pub SaysRow : Bytes → ℕ → Bytes → Bytes → Bytes → Merged → model.Merged Metadata → Type 0
SaysRow s b x z w' r m = Says (λ i v n. Places s pair_bytes i v n) b x z w' r m

abbrev pub SaysEntry : (l : ℕ) → Bytes → ℕ → Bytes → Bytes → Bytes → Merged → model.Merged (Field l) → Type 0
SaysEntry l s b x z w' r m = Says (λ i v g. SpellField l s i v g) b x z w' r m

-- a pair goes into a row of pairs that begins where its key belongs
pub record PutsPair (row q number : ℕ) (s w : Bytes) (used : ℕ) (w' : Bytes) (r : Merged) : Type 0 where
  pub says : (x y z : Bytes) (k : ℕ) (m : Metadata) (p : Bytes × Bytes) → Held w used x y z → row ≡ length x → Places s pair_bytes k y m → NotBelow m p.0
      → Stands s q (pair_bytes p) → q < no_place → length x + (k + 4 * length (pair_bytes p)) + length z ≤ length w
      → SaysRow s (k + 4 * length (pair_bytes p)) x z w' r (merge_pair number m p)

-- so many pairs, in the order of their keys, are merged into a row of pairs
pub record MergesPairs (row q count number : ℕ) (s w : Bytes) (used : ℕ) (w' : Bytes) (r : Merged) : Type 0 where
  pub says : (new : Metadata) → length new ≡ count → Stands s q (each pair_bytes new) → Each WellFormedPair [] new → length s < no_place
      → Becomes (λ i v n. Places s pair_bytes i v n) (λ i v n. Places s pair_bytes i v n) w used row (4 * length (each pair_bytes new)) w' r λ m. merge_metadata number m new

-- an entry gets the flag of one with places of its pairs, and a row of none
pub record Marks (row flags : ℕ) (w : Bytes) (used : ℕ) (w' : Bytes) (used' : ℕ) : Type 0 where
  pub marks : (x z b : Bytes) (first : ℕ) → Held w used x (flags ∷ (u24 first ++ b)) z → row ≡ length x → flags < 4 → used + 3 ≤ length w
      → (used' ≡ used + 3) × Held w' used' (x ++ ((flags + 4) ∷ u24 first)) (u24 no_place) (b ++ z)

-- an entry gets places of its pairs
pub record OpensMetadata (row : ℕ) (s w : Bytes) (used : ℕ) (w' : Bytes) (used' : ℕ) : Type 0 where
  pub opens : (l : ℕ) (x y z : Bytes) (k : ℕ) (f : Field l) → Held w used x y z → row ≡ length x → SpellField l s k y f → length s < no_place
      → length x + (k + 3) + length z ≤ length w → Opened l s (k + 3) x z w' used' f

-- the metadata of a field is merged into that of an entry
pub record MergesMetadata (row q : ℕ) (s w : Bytes) (used : ℕ) (w' : Bytes) (r : Merged) : Type 0 where
  pub says : (l : ℕ) (h : Head) → Stands s q (head_bytes h) → Each WellFormedPair [] h.metadata → length s < no_place
      → Becomes (λ i v f. SpellField l s i v f) (λ i v f. SpellField l s i v f) w used row (4 * length (part (with_count pair_bytes) h.metadata)) w' r
      λ f. merge_field_metadata f h.metadata
