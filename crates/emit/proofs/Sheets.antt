-- The sheet: its map, its metadata and its columns.
use Prim.Native.Nat.{ℕ, ◌+◌, ◌*◌}
use native.Mathlib.Omega.{arith}
use mathlib.Core.Path.{◌≡◌, sym, ap, subst, ◌∙◌}
use mathlib.Core.List.{List, [], ◌∷◌, ◌++◌}
use mathlib.Core.Bool.{Bool, true, false}
use Rattle.std.specs.Int.{from_bool}
use Rattle.model.specs.Numbers.{max_levels}
use Rattle.model.specs.Bytes.{Bytes, flag}
use Rattle.model.specs.Tree.{Schema}
use Rattle.model.specs.Sheet.{stands, part, with_count, pair_bytes, column_bytes, sheet_bytes}
use Rattle.buffer.specs.declared.Output.{Output}
use Rattle.buffer.specs.Puts.{Puts}
use Rattle.buffer.proofs.Puts.{puts_same, puts_join}
use Rattle.walk.specs.Stands.{Stands, Skips}
use Rattle.walk.proofs.Standing.{first_stands, stands_behind}
use Rattle.table.specs.Table.{Places, SpellSchema}
use Rattle.table.specs.Look.{SkipsPlaces}
use Rattle.table.proofs.Entries.{refer_small}
use Rattle.emit.specs.Emission.{PutsRow, HasPlaces, HasEntries, PutsMetadata, PutsColumns}
use Rattle.emit.proofs.Putting.{flag_of, puts_part, puts_no_part}
use Rattle.emit.proofs.Copies.{places_stand}

module _ {s w : Bytes} {place : ℕ} {o : Output} {b : Bool} (has : HasEntries w place b) where
  pub columns_put : {o' : Output} → b ≡ true → PutsRow s w place max_levels o o' → PutsColumns s w place o o'
  columns_put e f k y fs h st = puts_part (with_count column_bytes) fs (sym e ∙ has max_levels s k y fs h st) (f max_levels k y fs (omega arith) h st)

  pub no_columns : b ≡ false → PutsColumns s w place o o
  no_columns e k y fs h st = puts_no_part (with_count column_bytes) fs (sym e ∙ has max_levels s k y fs h st)

places_skip : {A : Type 0} {s w : Bytes} {write : A → Bytes} {place k : ℕ} {y : Bytes} {xs : List A} {r : ℕ} → Places s write k y xs → SkipsPlaces w place r → Skips w place y r
places_skip {w = w} {place = place} {r = r} p f = subst (λ y. Skips w place y r) (sym p.bytes) (f p.places (refer_small p.refer))

pub sheet_puts : {s w : Bytes} {columns m n : ℕ} {a b : Bool} {o o₁ o₂ o₃ : Output} → SkipsPlaces w 0 columns → HasPlaces w 0 a → m ≡ from_bool a → HasEntries w columns b → n ≡ from_bool b
    → Puts ((m + n * 2) ∷ []) o o₁
    → PutsMetadata s w 0 o₁ o₂
    → PutsColumns s w columns o₂ o₃
    → (x : Schema) (k : ℕ) (y : Bytes) → SpellSchema s k y x → Stands w 0 y → Puts (sheet_bytes x) o o₃
unfolding sheet_bytes
sheet_puts {s} {w} skip hasPairs i hasColumns j one metadata columns x k y t st =
    let st2 = subst (Stands w 0) t.bytes st in
    let front = first_stands t.metadata_bytes t.columns_bytes st2 in
    let back = stands_behind (places_skip t.metadata skip) st2 in
    let metadata_bit = flag_of 1 _ (i ∙ ap from_bool (places_stand t.metadata front hasPairs)) in
    let columns_bit = flag_of 2 _ (j ∙ ap from_bool (hasColumns max_levels s t.columns_room t.columns_bytes x.columns t.columns back)) in
    puts_join ((flag 1 (stands x.metadata) + flag 2 (stands x.columns)) ∷ []) (part (with_count pair_bytes) x.metadata ++ part (with_count column_bytes) x.columns)
    (puts_same (ap (λ n. n ∷ []) (omega (arith, metadata_bit, columns_bit))) one)
    (puts_join (part (with_count pair_bytes) x.metadata) (part (with_count column_bytes) x.columns) (metadata t.metadata_room t.metadata_bytes x.metadata t.metadata front)
    (columns t.columns_room t.columns_bytes x.columns t.columns back))
