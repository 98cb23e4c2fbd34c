-- `filter` as a call: from an accepted sheet to what stands in the buffers at the end.
use Prim.Native.Nat.{ℕ, ◌*◌, ◌≤◌}
use native.Mathlib.Omega.{arith}
use mathlib.Core.Path.{◌≡◌, refl, sym, ap, ◌∙◌}
use mathlib.Core.List.{◌++◌}
use lib.ListN.{length, take, length-append}
use lib.Seq.{take_at}
use borrow.Author.Tests.{eq-eqb, ne_eqb}
use Rattle.model.specs.Numbers.{work_bytes_per_sheet_byte, mask_length}
use Rattle.model.specs.Bytes.{Bytes}
use Rattle.model.specs.Tree.{Schema}
use Rattle.model.specs.Sheet.{sheet_bytes}
use Rattle.model.specs.WellFormed.{Fits}
use Rattle.model.specs.Read.{judged, unless}
use Rattle.model.specs.Filter.{leaf_count, filter_leaves}
use Rattle.model.specs.Call.{Answer, bytes, refused, and_then, sheet_answer, Exit, settled, zeros, acceptance}
use Rattle.std.specs.Prelude.{Result, Err}
use Rattle.buffer.specs.declared.refusal.Number.{Number}
use Rattle.buffer.specs.declared.refusal.Refusal.{Refusal}
use Rattle.buffer.specs.Leaves.{leaves}
use Rattle.buffer.specs.Refusals.{without_place}
use Rattle.buffer.proofs.Ends.{leaves_refusal}
use Rattle.buffer.specs.declared.Output.{Output}
use Rattle.filter.specs.Filters.{Walk, Kept, FiltersSheet, filtered, start}

abbrev pub answered : Bytes → Schema → Answer
answered mask x = sheet_answer (filter_leaves x mask)

-- 12, or the filtered sheet

mask_differs : (x : Schema) (mask : Bytes) → (leaf_count x ≡ length mask → ⊥) → answered mask x ≡ refused mask_length 0
unfolding filter_leaves sheet_answer and_then judged unless
mask_differs x mask h = rw (ne_eqb (length mask) (leaf_count x) λ e. h (sym e))

mask_fits : (x : Schema) (mask : Bytes) → leaf_count x ≡ length mask → answered mask x ≡ bytes (sheet_bytes (filtered x mask))
unfolding filter_leaves sheet_answer and_then judged unless
mask_fits x mask h = rw (eq-eqb (length mask) (leaf_count x) (sym h))

module _ (x : Schema) {s : Bytes} (mask : Bytes) {w : Bytes} {o : Output} {v : Walk} {w' : Bytes} (fits : Fits x) (same : s ≡ sheet_bytes x)
    (room : work_bytes_per_sheet_byte * length s ≤ length w) (e : o.buffer.now ≡ w) (z : o.written ≡ 0) (g : FiltersSheet (start s mask o) v)
    (back : v.out.buffer.ghost_name ≡ o.buffer.ghost_name → w' ≡ v.out.buffer.now) where
  kept : Kept (leaf_count x) (sheet_bytes (filtered x mask)) (start s mask o) v
  kept = g.does x fits.well_formed same (omega (arith, fits.size, ap length same)) (omega (arith, room, ap length e)) refl z

  -- the work buffer afterwards
  work_begins : w' ≡ sheet_bytes (filtered x mask) ++ kept.begins.rest
  work_begins = back kept.same_buffer ∙ kept.begins.bytes

  pub end_inside : v.out.written ≤ length w'
  end_inside = omega (arith, kept.begins.end, ap length work_begins, length-append (sheet_bytes (filtered x mask)) kept.begins.rest)

  module _ (answer : Bytes) (len : length w' ≡ length w) where
    pub mask_refused : {q : Result ℕ Refusal} {work : Bytes} → (v.leaf ≡ length mask → ⊥) → q ≡ Err (without_place Number.MaskLength) → work ≡ zeros (length w')
        → leaves q answer work ≡ settled (answered mask x) (zeros (length w)) answer
    unfolding settled
    mask_refused {q} {work} d k h = rw (mask_differs x mask λ i. d (kept.leaves ∙ i), h ∙ ap zeros len) (leaves_refusal (without_place Number.MaskLength) (zeros (length w)) answer k)

    pub filtered_accepted : {exit : Exit} → v.leaf ≡ length mask → exit ≡ acceptance (take v.out.written w') (zeros (length w')) answer
        → exit ≡ settled (answered mask x) (zeros (length w)) answer
    unfolding settled
    filtered_accepted {exit} d h =
        let front : take v.out.written w' ≡ sheet_bytes (filtered x mask) =
        ap (take v.out.written) work_begins ∙ take_at (sheet_bytes (filtered x mask)) kept.begins.rest v.out.written (sym kept.begins.end) in
        rw (mask_fits x mask (sym kept.leaves ∙ d)) (h ∙ ap (λ b. acceptance b (zeros (length w')) answer) front ∙ ap (λ n. acceptance (sheet_bytes (filtered x mask)) (zeros n) answer) len)
