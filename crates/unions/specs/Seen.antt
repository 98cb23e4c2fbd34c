-- The ids seen, as an array with a flag for each id.
use Rattle.std.specs.Prelude.{ℕ, List, not, get_or, set, eqb, leb, Result, Ok, Err}
use Rattle.model.specs.Numbers.{max_type_id, id_too_large, id_repeated}
use Rattle.model.specs.Read.{unless, ◌then◌}
use Rattle.buffer.specs.declared.refusal.Refusal.{Refusal}

-- the verdict on an id, after those whose flag stands
unfoldable pub id_fits_by : List ℕ → ℕ → ℕ
id_fits_by seen i = unless (leb i max_type_id) id_too_large then unless (not (eqb (get_or seen i 0) 1)) id_repeated

-- the flags after what was said of an id
abbrev pub marked : Result Unit Refusal → List ℕ → ℕ → List ℕ
marked (Ok u) seen i = set seen i 1
marked (Err r) seen i = seen
