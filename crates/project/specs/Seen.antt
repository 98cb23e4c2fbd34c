-- The indexes seen, as a flag for each column.
use Rattle.std.specs.Prelude.{ℕ, Bool, true, false, not, ◌||◌, length, get_or, set, eqb, ltb, Result, Ok, Err}
use Rattle.model.specs.Numbers.{index_out_of_bounds, index_repeated}
use Rattle.model.specs.Bytes.{Bytes}
use Rattle.model.specs.Read.{unless, ◌then◌}
use Rattle.buffer.specs.declared.refusal.Refusal.{Refusal}

-- the verdict on an index, after those whose flag stands
unfoldable pub index_fits_by : Bool → Bytes → ℕ → ℕ
index_fits_by strict seen i = unless (ltb i (length seen)) index_out_of_bounds then unless (not strict || not (eqb (get_or seen i 0) 1)) index_repeated

-- the flags after what was said of an index: only the strict projection sets them
abbrev pub marked : Bool → Result Unit Refusal → Bytes → ℕ → Bytes
marked true (Ok u) seen i = set seen i 1
marked false (Ok u) seen i = seen
marked strict (Err r) seen i = seen
