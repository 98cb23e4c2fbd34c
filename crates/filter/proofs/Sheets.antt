-- The columns behind their count, and the sheet: what is kept of it, from what the code's steps keep.
use Prim.Native.Nat.{ℕ, ◌+◌, ◌%◌, ◌≤◌}
use native.Mathlib.Omega.{arith}
use mathlib.Core.Path.{◌≡◌, refl, sym, ap, subst, ◌∙◌}
use mathlib.Core.List.{List, [], ◌∷◌, ◌++◌, append-nil}
use mathlib.Core.Bool.{Bool, true, false, false≢true}
use lib.ListN.{length, drop, get_or, length-append}
use Rattle.model.specs.Numbers.{max_levels, max_sheet_bytes}
use Rattle.model.specs.Bytes.{Bytes, Metadata, choose, bit, flag}
use Rattle.model.specs.Tree.{Field, Schema}
use Rattle.model.specs.Sheet.{part, stands, with_count, pair_bytes, column_bytes, sheet_bytes}
use Rattle.model.specs.Filter.{filter_each, leaf_count_of_each, leaf_count, filter_columns}
use Rattle.model.proofs.Size.{length_with_count}
use Rattle.model.proofs.WellFormed.{columns_laid_out}
use Rattle.walk.specs.Stands.{Stands, AllLaidOut, SkipsSheetHead, sheet_head}
use Rattle.walk.proofs.Standing.{whole_stands, first_stands, byte_stands, stands_behind}
use Rattle.walk.proofs.Schemas.{columns_bit}
use Rattle.buffer.specs.declared.Output.{Output}
use Rattle.buffer.specs.Puts.{Puts}
use Rattle.filter.specs.Filters.{Walk, walk_to, Begins, Fair, Passed, CopiesTo, back_to, FiltersCounted, Kept, ColumnsKept, FiltersColumns, FiltersSheet, leaves_of_all, filtered, start}
use Rattle.filter.proofs.Walking.{begins_over, filters_copied}

-- The columns

-- the walk behind the map and the bytes m, of which these columns are left
abbrev Behind : (cs kept : List (Field max_levels)) (m : Bytes) (v v' : Walk) → Type 0
Behind cs kept m v v' = Passed (with_count column_bytes cs) (leaves_of_all max_levels cs) (part (with_count column_bytes) kept) v (get_or v.sheet 0 0 ∷ m) v'

module _ {v v₁ : Walk} (f : FiltersCounted 0 max_levels v v₁) where
  columns_passed : (cs : List (Field max_levels)) (m : Bytes) → AllLaidOut max_levels cs → Stands v.sheet v.at (with_count column_bytes cs) → Fair v
      → Begins v.out (get_or v.sheet 0 0 ∷ m) → Behind cs (filter_columns cs (drop v.leaf v.mask)).kept m v v₁
  unfolding filter_columns
  columns_passed cs m z st h g = (f max_levels (λ h. []) cs (λ h. refl) (omega arith) z).does (get_or v.sheet 0 0 ∷ m) st h g

  -- as much was put as before: none is left, and the map loses its bit
  pub columns_gone : {byte : ℕ} {o : Output} → v₁.out.written ≡ v.out.written → byte ≡ get_or v₁.sheet 0 0 → Puts (byte % 2 ∷ []) (back_to 0 v₁.out) o
      → FiltersColumns v (walk_to v₁.at v₁ (back_to v.out.written o))
  unfolding choose
  columns_gone {byte} {o} e i put = record { does = λ cs m z st h g. go cs m (filter_columns cs (drop v.leaf v.mask)).kept g (columns_passed cs m z st h g) }
    where
      go : (cs : List (Field max_levels)) (m : Bytes) (kept : List (Field max_levels)) → Begins v.out (get_or v.sheet 0 0 ∷ m) → Behind cs kept m v v₁
          → ColumnsKept cs kept m v (walk_to v₁.at v₁ (back_to v.out.written o))
      go cs m [] g d = record {
        leaves = d.leaves;
        same_buffer = put.same_buffer ∙ d.same_buffer;
        begins = subst (λ p. Begins (back_to p o) (get_or v.sheet 0 0 % 2 ∷ (m ++ []))) e
            (begins_over [] (get_or v.sheet 0 0 ∷ []) (get_or v.sheet 0 0 % 2 ∷ []) (m ++ []) d.begins refl refl (subst (λ b. Puts (b % 2 ∷ []) (back_to 0 v₁.out) o) (i ∙ ap (λ s. get_or s 0 0) d.sheet) put) (omega arith));
      }
      go cs m (k ∷ ks) g d =
          absurd (omega (arith, e, g.end, d.begins.end, length-append (get_or v.sheet 0 0 ∷ m) (with_count column_bytes (k ∷ ks)), length_with_count column_bytes (k ∷ ks)))

  pub columns_left : (v₁.out.written ≡ v.out.written → ⊥) → FiltersColumns v v₁
  unfolding choose
  columns_left e = record { does = λ cs m z st h g. go cs m (filter_columns cs (drop v.leaf v.mask)).kept g (columns_passed cs m z st h g) }
    where
      go : (cs : List (Field max_levels)) (m : Bytes) (kept : List (Field max_levels)) → Begins v.out (get_or v.sheet 0 0 ∷ m) → Behind cs kept m v v₁ → ColumnsKept cs kept m v v₁
      go cs m [] g d = absurd (e (omega (arith, g.end, d.begins.end, length-append (get_or v.sheet 0 0 ∷ m) [])))
      go cs m (k ∷ ks) g d = record { leaves = d.leaves; same_buffer = d.same_buffer; begins = d.begins }

-- The sheet

-- the map, with the second bit where a column is left
map_left : (a b : Bool) → choose b (λ u. flag 1 a + flag 2 true) (λ u. (flag 1 a + flag 2 true) % 2) ≡ flag 1 a + flag 2 b
unfolding choose
map_left true true = refl
map_left true false = refl
map_left false true = refl
map_left false false = refl

-- the walk behind the map and the metadata, which are copied
abbrev Headed : (s mask : Bytes) (place : ℕ) (o o' : Output) → Schema → Type 0
Headed s mask place o o' x = Passed (sheet_head x) 0 (sheet_head x) (start s mask o) [] (walk_to place (start s mask o) o')

module _ {v v₁ : Walk} {place map : ℕ} {t : Bool} (head : SkipsSheetHead v.sheet 0 place) (copy : CopiesTo place v v₁) (e : map ≡ get_or v₁.sheet 0 0) (b : t ≡ bit 1 map) where
  head_copied : (x : Schema) → v.sheet ≡ sheet_bytes x → length v.sheet ≤ max_sheet_bytes → length v.sheet ≤ length v.out.buffer.now → v ≡ start v.sheet v.mask v.out → v.out.written ≡ 0
      → Headed v.sheet v.mask place v.out v₁.out x
  unfolding sheet_bytes
  head_copied x i small room is z =
      let st = whole_stands v.sheet (sheet_bytes x) i in
      (filters_copied (sheet_head x) (head x st) (subst (λ y. CopiesTo place y v₁) is copy)).does [] (first_stands (sheet_head x) (part (with_count column_bytes) x.columns) st)
      (record { small = small; room = room; leaves = omega arith; written = omega (arith, z) }) (record { end = z; rest = v.out.buffer.now; bytes = refl })

  -- whether there are columns
  columns_stand : (x : Schema) → v.sheet ≡ sheet_bytes x → t ≡ stands x.columns
  columns_stand x i = columns_bit (e ∙ ap (λ y. get_or y.sheet 0 0) copy.behind) head b x (whole_stands v.sheet (sheet_bytes x) i)

  pub sheet_columns : {v₂ : Walk} → t ≡ true → FiltersColumns v₁ v₂ → FiltersSheet v v₂
  unfolding sheet_bytes leaf_count
  sheet_columns {v₂} h g = record { does = λ x good i small room is z. go x.metadata x.columns (columns_laid_out x good) i is (head_copied x i small room is z) }
    where
      go : (m : Metadata) (cs : List (Field max_levels)) → let x : Schema = record { metadata = m; columns = cs } in
          AllLaidOut max_levels cs → v.sheet ≡ sheet_bytes x → v ≡ start v.sheet v.mask v.out → Headed v.sheet v.mask place v.out v₁.out x
          → Kept (leaf_count x) (sheet_bytes (filtered x v.mask)) v v₂
      go m [] z i is d = absurd (false≢true (sym (columns_stand (record { metadata = m; columns = [] }) i) ∙ h))
      go m (c ∷ cs) z i is d =
          let x : Schema = record { metadata = m; columns = c ∷ cs } in
          let st = whole_stands v.sheet (sheet_bytes x) i in
          let front = part (with_count pair_bytes) m in
          let byte : flag 1 (stands m) + flag 2 true ≡ get_or v.sheet 0 0 = sym (byte_stands st) in
          let kept = (filter_columns (c ∷ cs) v.mask).kept in
          let columns : FiltersColumns (walk_to place (start v.sheet v.mask v.out) v₁.out) v₂ =
          subst (λ y. FiltersColumns y v₂) ((subst (λ y. CopiesTo place y v₁) is copy).behind) g in
          let k = columns.does (c ∷ cs) front z (stands_behind (head x st) st) d.fair (subst (λ n. Begins v₁.out (n ∷ front)) byte d.begins) in
          let same : choose (stands kept) (λ u. get_or v.sheet 0 0) (λ u. get_or v.sheet 0 0 % 2) ≡ flag 1 (stands m) + flag 2 (stands kept) =
          sym (ap (λ n. choose (stands kept) (λ u. n) (λ u. n % 2)) byte) ∙ map_left (stands m) (stands kept) in
          record {
            leaves = omega (arith, k.leaves);
            same_buffer = k.same_buffer ∙ d.same_buffer;
            begins = subst (λ n. Begins v₂.out (n ∷ (front ++ part (with_count column_bytes) kept))) same k.begins;
          }

  pub sheet_bare : t ≡ false → FiltersSheet v v₁
  unfolding sheet_bytes leaf_count leaf_count_of_each filter_columns filter_each
  sheet_bare h = record { does = λ x good i small room is z. go x.metadata x.columns i is (head_copied x i small room is z) }
    where
      go : (m : Metadata) (cs : List (Field max_levels)) → let x : Schema = record { metadata = m; columns = cs } in
          v.sheet ≡ sheet_bytes x → v ≡ start v.sheet v.mask v.out → Headed v.sheet v.mask place v.out v₁.out x → Kept (leaf_count x) (sheet_bytes (filtered x v.mask)) v v₁
      go m [] i is d = record {
        leaves = ap (λ y. y.leaf) copy.behind ∙ ap (λ y. y.leaf) is;
        same_buffer = d.same_buffer;
        begins = subst (λ b. Begins v₁.out ((flag 1 (stands m) + flag 2 false) ∷ b)) (sym (append-nil (part (with_count pair_bytes) m))) d.begins;
      }
      go m (c ∷ cs) i is d = absurd (false≢true (sym h ∙ columns_stand (record { metadata = m; columns = c ∷ cs }) i))
