-- The sheet of an accepted projection, put piece by piece: the map and the metadata, the count, the column of each entry.
use Prim.Native.Nat.{ℕ, ◌+◌, ◌*◌, ◌/◌, ◌%◌, ◌<◌}
use native.Mathlib.Omega.{arith}
use mathlib.Core.Path.{◌≡◌, refl, sym, ap, subst, ◌∙◌}
use mathlib.Core.List.{List, [], ◌∷◌, ◌++◌, append_assoc, append-nil}
use mathlib.Core.Bool.{Bool, true, false, not}
use lib.ListN.{length, get_or}
use lib.Dec.{eqb}
use borrow.Author.Tests.{eqb-true, eqb-false}
use mir.Val.{bool_byte}
use Rattle.model.specs.Numbers.{max_levels, max_sheet_bytes}
use Rattle.model.specs.Bytes.{Bytes, Metadata, Every, bit, flag, u16}
use Rattle.model.specs.Tree.{Field, Schema}
use Rattle.model.specs.Sheet.{each, part, stands, with_count, pair_bytes, column_bytes, sheet_bytes}
use Rattle.model.specs.Read.{got}
use Rattle.model.specs.Schema.{select, join, project}
use Rattle.model.proofs.Lists.{each_append}
use Rattle.model.proofs.Projection.{project_accepted}
use Rattle.model.proofs.Entries.{entries, entries_end, projected_entries}
use Rattle.buffer.specs.declared.Output.{Output}
use Rattle.buffer.specs.Puts.{Puts}
use Rattle.buffer.proofs.Puts.{puts_none, puts_beyond, puts_same, puts_join, puts_two}
use Rattle.walk.specs.Stands.{Stands, sheet_head, SkipsSheetHead}
use Rattle.walk.proofs.Standing.{whole_stands, first_stands, second_stands, byte_stands}
use Rattle.walk.proofs.Parts.{sheet_metadata_set}
use Rattle.walk.proofs.Schemas.{each_column}
use Rattle.project.specs.Table.{Table, place_at}
use Rattle.project.proofs.Walk.{entries_first}

-- What the functions ensure that put a part: `put_part`, `put_front`, `put_columns`, and of the whole `put_projected`

abbrev PutsPart : (s : Bytes) (from to : ℕ) (o o' : Output) → Type 0
PutsPart s from to o o' = (b : Bytes) → Stands s from b → to ≡ from + length b → Puts b o o'

abbrev PutsFront : (s : Bytes) (columns : Bool) (o o' : Output) → Type 0
PutsFront s columns o o' = (x : Schema) → s ≡ sheet_bytes x → Puts ((flag 1 (stands x.metadata) + flag 2 columns) ∷ part (with_count pair_bytes) x.metadata) o o'

abbrev PutsColumns : (s table list : Bytes) (o o' : Output) → Type 0
PutsColumns s table list o o' =
    (x y : Schema) (strict : Bool) (n : ℕ) → Table s table x.columns → project strict x list ≡ got y n → Puts (each column_bytes y.columns) o o'

abbrev PutsSheet : (s table list : Bytes) (o o' : Output) → Type 0
PutsSheet s table list o o' =
    (x y : Schema) (strict : Bool) (n : ℕ) → s ≡ sheet_bytes x → Table s table x.columns → project strict x list ≡ got y n → Puts (sheet_bytes y) o o'

-- The map and the metadata

pub bits_added : (a b : Bool) → bool_byte a + 2 * bool_byte b ≡ flag 1 a + flag 2 b
bits_added true true = refl
bits_added true false = refl
bits_added false true = refl
bits_added false false = refl

pub front_put : (columns : Bool) {s : Bytes} {map n end : ℕ} {metadata : Bool} {o o₁ o₂ : Output} → map ≡ get_or s 0 0 → metadata ≡ bit 0 map
    → n ≡ flag 1 metadata + flag 2 columns → Puts (n ∷ []) o o₁ → SkipsSheetHead s 0 end → PutsPart s 1 end o₁ o₂ → PutsFront s columns o o₂
unfolding sheet_bytes
front_put columns {o = o} {o₂ = o₂} a b c one head more x e =
    let whole = whole_stands _ (sheet_bytes x) e in
    let front = first_stands (sheet_head x) (part (with_count column_bytes) x.columns) whole in
    let was = b ∙ ap (bit 0) (a ∙ byte_stands whole) ∙ sheet_metadata_set (stands x.metadata) (stands x.columns) in
    subst (λ n. Puts (n ∷ part (with_count pair_bytes) x.metadata) o o₂) (c ∙ ap (λ m. flag 1 m + flag 2 columns) was)
    (puts_join (_ ∷ []) (part (with_count pair_bytes) x.metadata) one
    (more (part (with_count pair_bytes) x.metadata) (second_stands (_ ∷ []) (part (with_count pair_bytes) x.metadata) front) (omega (arith, (head x whole).behind front))))

-- The columns

-- the bytes of the columns of entries
abbrev chosen : List (Field max_levels) → List ℕ → Bytes
chosen fs is = each column_bytes (join (select fs) is)

-- entries that are indexes of columns
abbrev Inside : List (Field max_levels) → List ℕ → Type 0
Inside fs is = Every (λ i. i < length fs) is

-- so much is put, and what is left
pub record Part (fs : List (Field max_levels)) (list left : Bytes) (o o' : Output) : Type 0 where
  done : Bytes
  puts : Puts done o o'
  all : chosen fs (entries list) ≡ done ++ chosen fs (entries left)
  inside : Inside fs (entries left)

-- the columns of the entries before those left are put, where there are a table and a list of indexes
abbrev pub Putting : (s table list left : Bytes) (o o' : Output) → Type 0
Putting s table list left o o' = (fs : List (Field max_levels)) → Table s table fs → Inside fs (entries list) → Part fs list left o o'

pub putting_begin : (s table : Bytes) {list left : Bytes} {o : Output} → left ≡ list → Putting s table list left o o
putting_begin s table e fs t i = record { done = []; puts = puts_none; all = ap (λ l. chosen fs (entries l)) (sym e); inside = subst (λ l. Inside fs (entries l)) (sym e) i }

module _ {s table list left : Bytes} {o o₁ : Output} (k : Putting s table list left o o₁) where
  pub putting_again : (entry : Bytes) {behind : Bytes} {i from to : ℕ} {o₂ : Output} → left ≡ entry ++ behind → length entry ≡ 2 → i ≡ get_or entry 0 0 + 256 * get_or entry 1 0
      → from ≡ place_at table i → to ≡ place_at table (i + 1) → PutsPart s from to o₁ o₂ → Putting s table list behind o o₂
  unfolding join
  putting_again entry {behind} {i} {from} {to} {o₂} h two is f t put fs tab every =
      let p = k fs tab every in
      let next = ap entries h ∙ entries_first entry behind two is in
      let ins : Inside fs (i ∷ entries behind) = subst (Inside fs) next p.inside in
      let st = subst (λ m. Stands s m (each column_bytes (select fs i))) (sym f) (tab.stands i ins.0) in
      let ends : to ≡ from + length (each column_bytes (select fs i)) = omega (arith, t, f, tab.ends i ins.0) in
      record {
        done = p.done ++ each column_bytes (select fs i);
        puts = puts_join p.done (each column_bytes (select fs i)) p.puts (put _ st ends);
        all = p.all
            ∙ ap (λ is. p.done ++ chosen fs is) next
            ∙ ap (λ b. p.done ++ b) (each_append column_bytes (select fs i) (join (select fs) (entries behind)))
            ∙ sym (append_assoc p.done (each column_bytes (select fs i)) (chosen fs (entries behind)));
        inside = ins.1;
      }

  -- what is left is put with nothing written: none is left, or it lies beyond the longest answer
  rest_put : ((fs : List (Field max_levels)) → Puts (chosen fs (entries left)) o₁ o₁) → PutsColumns s table list o o₁
  rest_put rest x y strict n tab h =
      let a = project_accepted strict x list y n h in
      let es = projected_entries a in
      let p = k x.columns tab (subst (Inside x.columns) es a.inside) in
      puts_same (sym (ap (each column_bytes) (a.columns ∙ ap (join (select x.columns)) es) ∙ p.all))
      (puts_join p.done (chosen x.columns (entries left)) p.puts (rest x.columns))

  pub putting_beyond : max_sheet_bytes < o₁.written → PutsColumns s table list o o₁
  putting_beyond h = rest_put λ fs. puts_beyond _ h

  pub putting_done : length left < 2 → PutsColumns s table list o o₁
  unfolding join
  putting_done h = rest_put λ fs. puts_same (sym (ap (chosen fs) (entries_end left 0 (omega (arith, h))))) puts_none

-- The sheet

module _ {s table : Bytes} (list : Bytes) {none : Bool} {o o₁ : Output} (e : none ≡ eqb (length list) 0) (put : PutsFront s (not none) o o₁) where
  -- a list of no entries
  pub sheet_none : none ≡ true → PutsSheet s table list o o₁
  unfolding sheet_bytes
  sheet_none t x y strict n i tab h =
      let front = subst (λ b. PutsFront s b o o₁) (ap not t) put in
      let none = eqb-true (length list) 0 (sym e ∙ t) in
      let a = project_accepted strict x list y n h in
      puts_same (go y.metadata y.columns a.metadata (omega (arith, a.column_count, a.two_bytes_each, none))) (front x i)
    where
      go : (m : Metadata) (cs : List (Field max_levels)) → m ≡ x.metadata → length cs ≡ 0
          → ((flag 1 (stands x.metadata) + 0) ∷ part (with_count pair_bytes) x.metadata) ≡ sheet_bytes (record { metadata = m; columns = cs })
      go m [] f k =
          ap (λ b. (flag 1 (stands x.metadata) + 0) ∷ b) (sym (append-nil (part (with_count pair_bytes) x.metadata)))
          ∙ ap (λ m. (flag 1 (stands m) + 0) ∷ (part (with_count pair_bytes) m ++ [])) (sym f)
      go m (c ∷ cs) f k = absurd (omega (arith, k))

  -- any other list
  pub sheet_some : {o₂ o₃ : Output} → none ≡ false → Puts (length list / 2 % 256 ∷ length list / 2 / 256 % 256 ∷ []) o₁ o₂ → PutsColumns s table list o₂ o₃ → PutsSheet s table list o o₃
  unfolding sheet_bytes with_count
  sheet_some {o₂} {o₃} t two columns x y strict n i tab h =
      let front = subst (λ b. PutsFront s b o o₁) (ap not t) put in
      let a = project_accepted strict x list y n h in
      go y.metadata y.columns a.metadata (omega (arith, a.column_count, a.two_bytes_each)) (front x i) (columns x y strict n tab h)
    where
      -- the count's bytes are two either way, and the right ones where the answer is not too long, since a column has a byte at least
      go : (m : Metadata) (cs : List (Field max_levels)) → m ≡ x.metadata → length list ≡ 2 * length cs
          → Puts ((flag 1 (stands x.metadata) + 2) ∷ part (with_count pair_bytes) x.metadata) o o₁ → Puts (each column_bytes cs) o₂ o₃
          → Puts (sheet_bytes (record { metadata = m; columns = cs })) o o₃
      go m [] g k f q = absurd (eqb-false (length list) 0 (sym e ∙ t) (omega (arith, k)))
      go m (c ∷ cs) g k f q =
          puts_same (ap (λ m. ((flag 1 (stands m) + 2) ∷ part (with_count pair_bytes) m) ++ (u16 (length (c ∷ cs)) ++ each column_bytes (c ∷ cs))) (sym g))
          (puts_join ((flag 1 (stands x.metadata) + 2) ∷ part (with_count pair_bytes) x.metadata) (u16 (length (c ∷ cs)) ++ each column_bytes (c ∷ cs)) f
          (puts_two (length (c ∷ cs)) (each column_bytes (c ∷ cs)) (λ h. (omega (arith, k), omega (arith, h, each_column (c ∷ cs)))) two q))
