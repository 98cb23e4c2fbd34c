-- The children of a union: one, and all that follows the code.
use Prim.Native.Nat.{ℕ, ◌<◌}
use native.Mathlib.Omega.{arith}
use mathlib.Core.List.{[], ◌∷◌}
use lib.ListN.{get_or}
use Rattle.model.specs.Bytes.{Bytes}
use Rattle.model.specs.Sheet.{with_count}
use Rattle.model.specs.WellFormed.{Whole}
use Rattle.model.proofs.Whole.{whole_laid_out}
use Rattle.buffer.specs.declared.Output.{Output}
use Rattle.buffer.specs.Puts.{Puts}
use Rattle.buffer.proofs.Puts.{puts_join}
use Rattle.walk.specs.Stands.{SkipsMember, member_bytes}
use Rattle.table.specs.Table.{no_place}
use Rattle.emit.specs.Emission.{PutsPlaces, PutsUnion}
use Rattle.emit.proofs.Copies.{elements_put}

pub union_puts : {s w : Bytes} (mode levels : ℕ) (ends : ℕ → ℕ → Type 0) {place : ℕ} {o o₁ o₂ : Output} → Puts (get_or s mode 0 ∷ []) o o₁
    → ((place end : ℕ) → place < no_place → ends place end → SkipsMember s place levels end) → PutsPlaces ends s w place o₁ o₂ → PutsUnion s w mode place levels o o₂
union_puts {s} mode levels ends one skips puts l k y fs h ps g st =
    puts_join (get_or s mode 0 ∷ []) (with_count (member_bytes l) fs) one
    (elements_put (member_bytes l) (λ f. Whole l f.data_type) ends (λ f v. (omega arith, λ place end small i. skips place end small i l f h (whole_laid_out l f.data_type v))) puts k y fs ps g st)
