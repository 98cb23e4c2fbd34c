-- Whether two order flags let their fields be merged.
use Prim.Native.Nat.{ℕ, zero, suc, ◌/◌, ◌%◌}
use mathlib.Core.Path.{◌≡◌, sym, ap, ◌∙◌}
use mathlib.Core.Bool.{Bool, true, false, ◌||◌, beq}
use lib.ListN.{get_or}
use lib.Dec.{eqb}
use borrow.Author.Tests.{eq-eqb, ne_eqb}
use Rattle.model.specs.Bytes.{Bytes, bit}
use Rattle.model.specs.Tree.{Head, DataType, Field}
use Rattle.model.specs.Sheet.{head_bytes, field_bytes, type_bytes}
use Rattle.model.specs.Merge.{orders_agree, is_null}
use Rattle.model.proofs.MapBits.{is_one}
use Rattle.walk.specs.Stands.{Stands, Skips}
use Rattle.walk.proofs.Descents.{type_stands, code_stands}
use Rattle.table.specs.Table.{SpellField, SpellType}
use Rattle.table.proofs.NewEntries.{order_bit}
use Rattle.metadata.proofs.Entries.{flags_is}
use Rattle.field.specs.Claims.{HasNull, OrdersAgree}
use Rattle.table.specs.Look.{SkipsHead}
use Rattle.field.proofs.Flags.{behind_head, type_there}

-- what the code's test of the two bits says of the two fields
module _ {s w : Bytes} {place q flags map : ℕ} {x y : Bool} (i : flags ≡ get_or w place 0) (j : map ≡ get_or s q 0) (m : x ≡ bit 1 flags) (n : y ≡ bit 1 map) where
  same_bits : (l k : ℕ) (v : Bytes) (f g : Field l) → SpellField l s k v f → Stands w place v → Stands s q (field_bytes (type_bytes l) g)
      → beq x y ≡ beq f.head.dict_is_ordered g.head.dict_is_ordered
  unfolding bit
  same_bits l k v f g e st sq =
      rw (m ∙ ap (λ n. eqb (n / 2 % 2) 1) (flags_is l e st i) ∙ e.dict_is_ordered, n ∙ is_one (map / 2 % 2) g.head.dict_is_ordered (order_bit l g j sq))

  pub agree_same : {parked : Bool} → beq x y ≡ true → OrdersAgree parked s w place q (beq x y)
  unfolding orders_agree
  agree_same h = record { says = λ l k v f g e st sq. rw (sym (same_bits l k v f g e st sq) ∙ h, h) }

  module _ (h : beq x y ≡ false) where
    pub agree_null : {parked r : Bool} → parked ≡ true → HasNull s w place q r → OrdersAgree parked s w place q r
    unfolding orders_agree
    agree_null p n = record { says = λ l k v f g e st sq. rw (sym (same_bits l k v f g e st sq) ∙ h, p) (n.says l k v f g e st sq) }

    pub agree_not : {parked : Bool} → parked ≡ false → OrdersAgree parked s w place q parked
    unfolding orders_agree
    agree_not p = record { says = λ l k v f g e st sq. rw (p, sym (same_bits l k v f g e st sq) ∙ h) }

-- Nulls

-- what `skip_head` and `code_at` of the table ensure
module _ {s w : Bytes} {place b mine : ℕ}
    (sk : SkipsHead w place b)
    (c : (l : ℕ) (first : DataType (suc l)) (k : ℕ) (y : Bytes) (a : DataType (suc l)) → SpellType (suc l) s first k y a → Stands w b y → mine ≡ a.code) where
  mine_is : (l k : ℕ) (y : Bytes) (f : Field (suc l)) → SpellField (suc l) s k y f → Stands w place y → mine ≡ f.data_type.code
  mine_is l k y f e st = c l e.own.data_type e.type_room e.type_spelt f.data_type e.data_type (type_there (suc l) e (behind_head (suc l) e sk st) st)

  pub null_mine : {q : ℕ} → mine ≡ 0 → HasNull s w place q true
  unfolding is_null
  null_mine {q} h = record { says = go }
    where
      go : (l k : ℕ) (y : Bytes) (f g : Field l) → SpellField l s k y f → Stands w place y → Stands s q (field_bytes (type_bytes l) g) → true ≡ (is_null l f.data_type || is_null l g.data_type)
      go zero k y f g e st sq = absurd f.data_type
      go (suc l) k y f g e st sq = rw (eq-eqb f.data_type.code 0 (sym (mine_is l k y f e st) ∙ h))

  module _ {q t theirs : ℕ} (n : mine ≡ 0 → ⊥) (ht : (h : Head) → Skips s q (head_bytes h) t) (v : theirs ≡ get_or s t 0) where
    pub null_theirs : HasNull s w place q (eqb theirs 0)
    unfolding is_null
    null_theirs = record { says = go }
      where
        go : (l k : ℕ) (y : Bytes) (f g : Field l) → SpellField l s k y f → Stands w place y → Stands s q (field_bytes (type_bytes l) g) → eqb theirs 0 ≡ (is_null l f.data_type || is_null l g.data_type)
        go zero k y f g e st sq = absurd f.data_type
        go (suc l) k y f g e st sq =
            rw (ne_eqb f.data_type.code 0 (λ z. n (mine_is l k y f e st ∙ z))) (ap (λ n. eqb n 0) (v ∙ code_stands l g.data_type (type_stands (suc l) g ht sq)))
