-- The loop that pours fields of the train into a row, one after the other.
use mathlib.Core.Bool.{Bool}
use Prim.Native.Nat.{ℕ, ◌+◌, ◌≤◌, ◌<◌}
use mathlib.Core.Path.{◌≡◌, refl, sym, subst, ◌∙◌}
use lib.ListN.{length}
use Rattle.model.specs.Bytes.{Bytes}
use Rattle.model.specs.Sheet.{field_bytes, type_bytes}
use Rattle.model.specs.WellFormed.{WellFormedField, WellFormedType}
use Rattle.model.proofs.WellFormed.{type_laid_out}
use Rattle.walk.specs.Stands.{SkipsField}
use Rattle.table.specs.Table.{SpellRow}
use Rattle.table.specs.Says.{Merged}
use Rattle.std.proofs.Common.{Result, Ok, Err}
use Rattle.buffer.specs.declared.refusal.Number.{Number}
use Rattle.table.proofs.Look.{row_begin}
use Rattle.table.proofs.Pouring as table
use Rattle.field.specs.Claims.{Pours, Puts, PutsField, Hinted, by_name}

-- what was poured so far is spelt with the place to look at first; at the end that place is left out
abbrev pub Pouring : (parked : Bool) (levels : ℕ) (s w₀ w : Bytes) (used row q count end hint place left : ℕ) → Type 0
Pouring parked levels s w₀ w used row q count end hint place left =
    table.Pouring (by_name parked) (λ l. field_bytes (type_bytes l)) (λ l g. WellFormedField (WellFormedType l) g × (g.head.type_id ≡ 0)) levels s row (λ l. SpellRow l s)
    (Pours parked levels row q count s w₀ used) (λ l. Hinted l s row hint) w end place left

pub pouring_begin : (parked : Bool) (levels : ℕ) (s w : Bytes) (used row q count : ℕ) {left : ℕ} → left ≡ count → Pouring parked levels s w w used row q count used row q left
pouring_begin parked levels s w used row q count e = record {
  rest = λ w' r m. record { says = λ l gs low i x y z k fs h hx p. m l gs low i.small i.well_formed (i.counted ∙ sym e) i.stands x y z k fs h hx (p, row_begin p) };
}

module _ {parked : Bool} {levels : ℕ} {s w₀ w : Bytes} {used row q count end hint place left : ℕ} (t : Pouring parked levels s w₀ w used row q count end hint place left) where
  module _ (w' : Bytes) where
    one : {m : Merged} {next : ℕ} → Puts parked levels row hint place s w end w' m next
        → table.One (by_name parked) (λ l. field_bytes (type_bytes l)) (λ l g. WellFormedField (WellFormedType l) g × (g.head.type_id ≡ 0)) levels s row (λ l. Hinted l s row hint) (λ l. Hinted l s row next) w end place w' m
    one p l g low small v st = p.says l g low (record { small = small; stands = st; well_formed = v.0; type_id = v.1 })

  module _ (w' : Bytes) {r : Result ℕ Number} (end' : ℕ) (more : 0 < left) (puts : PutsField parked levels row hint place r s w end w' end') where
    puts_as : {q : Result ℕ Number} → r ≡ q → PutsField parked levels row hint place q s w end w' end'
    puts_as e = subst (λ q. PutsField parked levels row hint place q s w end w' end') e puts

    pub pouring_again : {next place' left' : ℕ} → length w' ≡ length w → r ≡ Ok next → SkipsField s place levels place' → left ≡ left' + 1
        → Pouring parked levels s w₀ w' used row q count end' next place' left'
    pouring_again {next} size e skips less =
        table.pouring_again _ _ _ _ _ _ _ t (λ l. Hinted l s row next) more (one w' (puts_as e)) size refl (λ l g low v. skips l g low (type_laid_out l g.head.dict_is_ordered g.data_type v.0.data_type)) less

    pub pouring_stop : {c : Number} → r ≡ Err c → Pours parked levels row q count s w₀ used w' (Err c)
    pouring_stop e = table.pouring_stop _ _ _ _ _ _ _ t (λ l. Hinted l s row row) more (one w' (puts_as e)) refl

  pub pouring_done : left ≤ 0 → Pours parked levels row q count s w₀ used w (Ok end)
  pouring_done none = table.pouring_done _ _ _ _ _ _ _ t (λ l k y fs p. p.0) none
