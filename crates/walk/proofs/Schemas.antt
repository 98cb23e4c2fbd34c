-- Where the columns of a sheet stand.
use Prim.Native.Nat.{ℕ, ◌+◌, ◌≤◌, ◌<◌}
use native.Mathlib.Omega.{arith}
use mathlib.Core.Path.{◌≡◌, refl, sym, ap, subst, ◌∙◌}
use mathlib.Core.List.{List, [], ◌∷◌}
use mathlib.Core.Bool.{Bool, true, false}
use lib.ListN.{length, get_or, length-append}
use Rattle.model.specs.Numbers.{max_levels}
use Rattle.model.specs.Bytes.{Bytes, Metadata, u16, bit}
use Rattle.model.specs.Tree.{Field, Schema}
use Rattle.model.specs.Sheet.{front_bytes, dict_id_bytes, each, part, stands, with_count, pair_bytes, head_bytes, field_bytes, type_bytes, column_bytes, sheet_bytes}
use Rattle.walk.specs.Stands.{Stands, Skips, SkipsRow, SkipsSheetHead, ColumnsAt, SkipsSheet}
use Rattle.walk.proofs.Standing.{byte_stands, stands_behind, skip_ahead, skip_join, skip_self}
use Rattle.walk.proofs.Descents.{count_stands, elements_stand}
use Rattle.walk.proofs.Parts.{Ahead, two_at, part_if, sheet_metadata_set, sheet_columns_set}

-- the map and the metadata, where a sheet stands
pub head_skips : {s : Bytes} {place map metadata first : ℕ} {set : Bool} → map ≡ get_or s place 0 → Ahead s place 1 metadata → set ≡ bit 0 map
    → (set ≡ true → (m : Metadata) → Skips s metadata (with_count pair_bytes m) first) → (set ≡ false → first ≡ metadata) → SkipsSheetHead s place first
unfolding sheet_bytes
head_skips {set = set} e a i f g x st =
    skip_join (skip_ahead (_ ∷ []) refl a.1)
    (part_if (with_count pair_bytes) set f g x.metadata (sym (i ∙ ap (bit 0) (e ∙ byte_stands st) ∙ sheet_metadata_set (stands x.metadata) (stands x.columns))))

-- the columns behind them
module _ {s : Bytes} {place map first : ℕ} {k : Bool} (e : map ≡ get_or s place 0) (head : SkipsSheetHead s place first) (j : k ≡ bit 1 map) where
  -- whether there are any
  pub columns_bit : (x : Schema) → Stands s place (sheet_bytes x) → k ≡ stands x.columns
  unfolding sheet_bytes
  columns_bit x st = j ∙ ap (bit 1) (e ∙ byte_stands st) ∙ sheet_columns_set (stands x.metadata) (stands x.columns)

  pub columns_found : {n at : ℕ} → (k ≡ true → (n ≡ two_at s first) × Ahead s first 2 at) → (k ≡ false → (n ≡ 0) × (at ≡ first)) → (x : Schema) → Stands s place (sheet_bytes x) → ColumnsAt s place x n at
  unfolding sheet_bytes with_count u16
  columns_found {n} {at} some none x st = go x.metadata x.columns st
    where
      go : (m : Metadata) (cs : List (Field max_levels)) → Stands s place (sheet_bytes (record { metadata = m; columns = cs })) → ColumnsAt s place (record { metadata = m; columns = cs }) n at
      go m [] st =
          let q = head (record { metadata = m; columns = [] }) st in
          let (c, f) = none (columns_bit (record { metadata = m; columns = [] }) st) in
          record { count = c; stands = subst (λ p. Stands s p []) (sym f) (stands_behind q st); ends = ap (λ p. p + 0) f ∙ (skip_join q skip_self).behind st }
      go m (x ∷ cs) st =
          let q = head (record { metadata = m; columns = x ∷ cs }) st in
          let (c, b) = some (columns_bit (record { metadata = m; columns = x ∷ cs }) st) in
          let st' = stands_behind q st in
          let u = skip_ahead (u16 (length (x ∷ cs))) refl b.1 in
          record {
            count = c ∙ count_stands column_bytes (x ∷ cs) st';
            stands = elements_stand column_bytes (x ∷ cs) b st';
            ends = (skip_join q (skip_join u skip_self)).behind st;
          }

-- the columns reach to the end of the sheet
pub sheet_skips : {s : Bytes} {place n first r : ℕ} → ((x : Schema) → Stands s place (sheet_bytes x) → ColumnsAt s place x n first) → SkipsRow s first n 0 max_levels r → SkipsSheet s place r
sheet_skips g f x w = record {
  behind = λ st.
      let c = g x st in
      (f max_levels (λ h. []) x.columns (λ h. refl) (omega arith) (sym c.count) w).behind c.stands ∙ c.ends;
}

-- a column takes a byte at least, so there are no more columns than bytes
pub each_column : (fs : List (Field max_levels)) → length fs ≤ length (each column_bytes fs)
unfolding front_bytes head_bytes field_bytes
each_column [] = omega arith
each_column (f ∷ fs) = omega (arith, each_column fs, length-append (column_bytes f) (each column_bytes fs), length-append (head_bytes f.head) (type_bytes max_levels f.data_type), length-append (front_bytes f.head) (dict_id_bytes f.head.dict_id))

pub columns_few : {s : Bytes} {place n first : ℕ} {x : Schema} → ColumnsAt s place x n first → n ≤ length s
columns_few {s} {place} {n} {first} {x} c = omega (arith, c.count, each_column x.columns, c.stands.inside)

-- and fewer than the sheet has, which has a map too
pub sheet_columns : (x : Schema) → length x.columns < length (sheet_bytes x)
unfolding sheet_bytes with_count u16
sheet_columns x = go x.columns
  where
    go : (cs : List (Field max_levels)) → length cs < length (sheet_bytes (record { metadata = x.metadata; columns = cs }))
    go [] = omega arith
    go (c ∷ cs) = omega (arith, each_column (c ∷ cs), length-append (part (with_count pair_bytes) x.metadata) (with_count column_bytes (c ∷ cs)))
