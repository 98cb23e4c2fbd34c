-- `flattened_fields` as a call: from the columns of an accepted sheet to what stands in the buffers at the end.
use Prim.Native.Nat.{ℕ, ◌+◌, ◌*◌, ◌-◌, ◌/◌, ◌%◌, ◌≤◌, ◌<◌}
use native.Mathlib.Omega.{arith}
use mathlib.Core.Path.{◌≡◌, refl, sym, ap, subst, ◌∙◌}
use mathlib.Core.List.{List, [], ◌∷◌, ◌++◌}
use lib.ListN.{length, take, drop, length-append}
use Rattle.model.specs.Numbers.{max_levels, max_sheet_bytes, work_bytes_per_sheet_byte}
use Rattle.model.specs.Bytes.{Bytes, Metadata, u16}
use Rattle.model.specs.Tree.{Field, Schema}
use Rattle.model.specs.Sheet.{each, part, with_count, pair_bytes, column_bytes, sheet_bytes}
use Rattle.model.specs.Schema.{each_at, flattened_fields}
use Rattle.model.specs.Call.{Exit, bytes, settled, zeros, acceptance}
use Rattle.model.specs.WellFormed.{Fits}
use Rattle.model.proofs.WellFormed.{columns_laid_out}
use Rattle.model.proofs.Flattened.{length_numbers, flattened_no_longer, flattened_half}
use Rattle.walk.specs.Stands.{Stands, ColumnsAt}
use Rattle.walk.proofs.Standing.{whole_stands}
use Rattle.buffer.specs.declared.Output.{Output}
use Rattle.buffer.specs.Puts.{Puts, Fills}
use Rattle.buffer.specs.Buffer.{pasted}
use Rattle.buffer.proofs.Pasted.{length_pasted, pasted_zero, take_pasted}
use Rattle.buffer.proofs.Puts.{puts_join, two_bytes_lem}
use Rattle.schema.specs.Flattens.{Flattens, own, FlattensRow, Listed}
use Rattle.std.proofs.Common.{add-zero}

-- the columns stand where `flattened_fields` counts from
columns_places : {s : Bytes} (x : Schema) {n first : ℕ} → ColumnsAt s 0 x n first → each_at column_bytes (own max_levels) first x.columns ≡ flattened_fields x
unfolding flattened_fields each_at sheet_bytes with_count u16
columns_places {s} x {n} {first} a = go x.metadata x.columns a.ends
  where
    go : (m : Metadata) (cs : List (Field max_levels)) → first + length (each column_bytes cs) ≡ 0 + length (sheet_bytes (record { metadata = m; columns = cs }))
        → each_at column_bytes (own max_levels) first cs ≡ flattened_fields (record { metadata = m; columns = cs })
    go m [] e = refl
    go m (c ∷ cs) e =
        let place : first ≡ 1 + length (part (with_count pair_bytes) m) + 2 =
        omega (arith, e, length-append (part (with_count pair_bytes) m) (part (with_count column_bytes) (c ∷ cs))) in
        ap (λ p. each_at column_bytes (own max_levels) p (c ∷ cs)) place

-- the offsets behind two bytes, and then their count over these
counted_written : (ns : List ℕ) {w w₁ w₂ : Bytes} {t k q : ℕ} → length ns < 65536 → length (with_count u16 ns) ≤ max_sheet_bytes → length (with_count u16 ns) ≤ length w
    → Fills (0 ∷ 0 ∷ each u16 ns) w w₁ t → k ≡ (t - 2) / 2 → Fills (k % 256 ∷ k / 256 % 256 ∷ []) w₁ w₂ q
    → (t ≡ length (with_count u16 ns)) × (w₂ ≡ pasted w 0 (with_count u16 ns))
unfolding with_count u16
counted_written ns {w} {w₁} {k = k} few small room f e g =
    let y = f.inside (omega (arith, small)) in
    let n : k ≡ length ns = omega (arith, e, y, length_numbers ns) in
    let count : ◌≡◌ {A = Bytes} (k % 256 ∷ k / 256 % 256 ∷ []) (u16 (length ns)) = ap (λ k. k % 256 ∷ k / 256 % 256 ∷ []) n ∙ two_bytes_lem (length ns) few in (
      y,
      g.written (omega arith) (omega (arith, f.size, room))
          ∙ ap (pasted w₁ 0) count
          ∙ pasted_zero w₁ (u16 (length ns))
          ∙ ap (λ w. u16 (length ns) ++ drop 2 w) (f.written (omega (arith, small)) (omega (arith, room)) ∙ pasted_zero w (0 ∷ 0 ∷ each u16 ns))
          ∙ sym (pasted_zero w (u16 (length ns) ++ each u16 ns)),
    )

pub fields_listed : {s w w₁ w₂ : Bytes} {o o₁ o₂ : Output} {n first r k q : ℕ} → ((x : Schema) → Stands s 0 (sheet_bytes x) → ColumnsAt s 0 x n first)
    → Puts (0 ∷ 0 ∷ []) o o₁ → FlattensRow s first n 0 32 o₁ o₂ r → ((b : Bytes) → Puts b o o₂ → Fills b w w₁ o₂.written)
    → k ≡ (o₂.written - 2) / 2 → Fills (k % 256 ∷ k / 256 % 256 ∷ []) w₁ w₂ q → Listed s w w₂ o₂.written
fields_listed {s} {o₁ = o₁} {o₂} {first = first} {r} f two g all e h = record {
  listed = λ x good i j room.
      let a = f x (whole_stands s (sheet_bytes x) i) in
      let p = subst (λ ns. Flattens s first (each column_bytes x.columns) ns o₁ o₂ r) (columns_places x a)
      (g max_levels (λ h. []) (own max_levels) x.columns (λ h. refl) (λ n k. ap (λ m. own max_levels m k) (sym (add-zero n))) (omega arith) (sym a.count) (columns_laid_out x good)) in
      let ns = flattened_fields x in
      counted_written ns (omega (arith, flattened_half x, ap length i, j)) (omega (arith, flattened_no_longer x, ap length i, j)) room
      (all _ (puts_join (0 ∷ 0 ∷ []) (each u16 ns) two (p.does j a.stands).1)) e h;
}

-- What is answered of a sheet that was read: the offsets

module _ (x : Schema) {s w w' : Bytes} {r : ℕ} (fits : Fits x) (e : s ≡ sheet_bytes x) (enough : work_bytes_per_sheet_byte * length s ≤ length w) (g : Listed s w w' r) where
  abbrev listing : Bytes
  listing = with_count u16 (flattened_fields x)

  sheet_size : 1 ≤ length s
  unfolding sheet_bytes
  sheet_size = omega (arith, ap length e)

  room : length listing ≤ length w
  room = omega (arith, enough, sheet_size, flattened_no_longer x, ap length e)

  written : (r ≡ length listing) × (w' ≡ pasted w 0 listing)
  written = g.listed x fits.well_formed e (omega (arith, fits.size, ap length e)) room

  same_length : length w' ≡ length w
  same_length = ap length written.1 ∙ length_pasted w 0 listing (omega (arith, room))

  pub listed_inside : r ≤ length w'
  listed_inside = omega (arith, written.0, room, same_length)

  pub listed_answered : {exit : Exit} (answer : Bytes) → exit ≡ acceptance (take r w') (zeros (length w')) answer → exit ≡ settled (bytes listing) (zeros (length w)) answer
  unfolding settled
  listed_answered answer h =
      h ∙ ap (λ b. acceptance b (zeros (length w')) answer) (ap (take r) written.1 ∙ take_pasted w listing r written.0) ∙ ap (λ n. acceptance listing (zeros n) answer) same_length
