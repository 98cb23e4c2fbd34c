-- What follows a code, and union children by the flags of the ids before them: the definition's readings without the tree.
use Rattle.std.specs.Prelude.{ℕ, zero, suc, List, [], Bool, true, false, not, get_or, set, replicate, leb}
use Rattle.model.specs.Numbers.{max_type_id, id_too_large, id_repeated}
use Rattle.model.specs.Bytes.{Bytes, bit}
use Rattle.model.specs.Tree.{Field, layout}
use Rattle.model.specs.Read.{Step, got, next, judged, unless, ◌then◌, anything, if_set, read_number, read_text, read_metadata, read_dict_id, read_params, read_field, read_type, read_children}

-- what follows a field's map, up to its type
unfoldable pub read_head : Bytes → ℕ → ℕ → ℕ → Step ℕ
read_head s lim map place =
    next (if_set (bit 2 map) (read_text s lim 1) [] place) λ n e.
    next (if_set (bit 3 map) (read_metadata s lim) [] e) λ d e.
    if_set (bit 4 map) (read_dict_id s lim) 0 e

unfoldable pub read_shape : Bytes → ℕ → (l : ℕ) → ℕ → ℕ → Step (List (Field l))
read_shape s lim l code place =
    next (read_params s lim (layout code).params place) λ ps m.
    read_children s lim l (read_type s lim l) (layout code).children m

-- no id's flag stands
unfoldable pub no_ids : List Bool
no_ids = replicate 128 false

-- an id, after those whose flag stands
unfoldable pub read_id : Bytes → ℕ → List Bool → ℕ → Step ℕ
read_id s lim used place =
    next (read_number s lim 1 anything place) λ i e.
    judged (unless (leb i max_type_id) id_too_large then unless (not (get_or used i false)) id_repeated) place i e

-- so many union children
unfoldable pub read_members : Bytes → ℕ → (l : ℕ) → List Bool → ℕ → ℕ → Step (List ℕ)
read_members s lim l used zero place = got [] place
read_members s lim l used (suc n) place =
    next (read_id s lim used place) λ i m.
    next (read_field s lim l (read_type s lim l) i m) λ f e.
    read_members s lim l (set used i true) n e
