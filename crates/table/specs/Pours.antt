-- Parts of the train merged into a part of the table: one, and so many that stand one behind the other.
use Rattle.std.specs.Prelude.{ℕ, ◌+◌, ◌*◌, ◌≤◌, ◌<◌, ◌≡◌, List, length}
use Rattle.model.specs.Bytes.{Bytes, Every}
use Rattle.model.specs.Sheet.{each}
use Rattle.model.specs.Merge as model
use Rattle.model.specs.Merge.{pour}
use Rattle.walk.specs.Stands.{Stands}
use Rattle.table.specs.Held.{Held}
use Rattle.table.specs.Table.{no_place}
use Rattle.table.specs.Says.{Merged, Says}

-- P spells in the table what is merged into, `put` merges into it, `write` writes what comes in, of which W holds
module _ {A B : Type 0} (P : ℕ → Bytes → A → Type 0) (put : A → B → model.Merged A) (write : B → Bytes) (W : B → Type 0) (s : Bytes) where
  -- what stands at q of the train is merged into what stands at `row`
  pub record MergesOne (w : Bytes) (used row q : ℕ) (w' : Bytes) (r : Merged) : Type 0 where
    pub says : (x y z : Bytes) (k : ℕ) (a : A) (b : B) → Held w used x y z → row ≡ length x → P k y a → Stands s q (write b) → W b → q < no_place
        → length x + (k + 4 * length (write b)) + length z ≤ length w → Says P (k + 4 * length (write b)) x z w' r (put a b)

  -- so many
  pub record MergesMany (w : Bytes) (used row q count : ℕ) (w' : Bytes) (r : Merged) : Type 0 where
    pub says : (x y z : Bytes) (k : ℕ) (a : A) (bs : List B) → Held w used x y z → row ≡ length x → P k y a → Stands s q (each write bs) → Every W bs → length bs ≡ count → length s < no_place
        → length x + (k + 4 * length (each write bs)) + length z ≤ length w → Says P (k + 4 * length (each write bs)) x z w' r (pour put a bs)
