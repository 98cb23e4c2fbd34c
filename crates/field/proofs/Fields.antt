-- One field into the entry of another: the order flag, the metadata, then nullability and the type.
use Prim.Native.Nat.{ℕ, ◌+◌, ◌*◌, ◌≤◌}
use native.Mathlib.Omega.{arith}
use mathlib.Core.Path.{◌≡◌, refl, sym, ap, subst, ◌∙◌}
use mathlib.Core.List.{[], ◌∷◌, ◌++◌, append_assoc, append-nil}
use mathlib.Core.Bool.{Bool, true, false}
use lib.ListN.{length, length-append}
use Rattle.model.specs.Numbers.{ordered_clash, field_metadata_clash}
use Rattle.model.specs.Bytes.{Bytes, Metadata}
use Rattle.model.specs.Tree.{Head, DataType, Field, with_data_type}
use Rattle.model.specs.Sheet.{front_bytes, dict_id_bytes, part, with_count, pair_bytes, text_bytes, head_bytes, field_bytes, type_bytes}
use Rattle.model.specs.Merge as model
use Rattle.model.specs.Merge.{◌>>=◌, done, clash, need, merge_metadata, orders_agree, merge_field, merge_type, is_null}
use Rattle.model.proofs.Modes.{merged_order_lem}
use Rattle.buffer.specs.declared.refusal.Number.{Number}
use Rattle.walk.specs.Stands.{Stands, Skips}
use Rattle.walk.proofs.Descents.{head_stands, type_stands}
use Rattle.table.specs.Held.{Held}
use Rattle.table.specs.Table.{u24, SpellField, SpellType}
use Rattle.table.specs.Says.{Merged, Says}
use Rattle.table.specs.Becomes.{Incoming}
use Rattle.std.proofs.Common.{Ok, Err}
use Rattle.table.proofs.Held.{held_stands, held_as}
use Rattle.table.proofs.Says.{says_in, says_as}
use Rattle.table.proofs.Fits.{metadata_fits}
use Rattle.metadata.specs.Fields.{with_metadata, merge_field_metadata}
use Rattle.metadata.specs.Merges.{MergesMetadata}
use Rattle.field.specs.Claims.{MergesField, MergesRest, MergesType, SetsFlags, OrdersAgree, merge_rest, both_flags}
use Rattle.table.specs.Look.{SkipsHead}
use Rattle.field.proofs.Flags.{head_spelt, head_long, head_first, behind_head}

-- Nullability and the type

-- an entry with another type
retyped : (l : ℕ) {s : Bytes} {k : ℕ} {y : Bytes} {f : Field l} (e : SpellField l s k y f) (j : ℕ) (v : Bytes) (t : DataType l) (more : ℕ) → SpellType l s e.own.data_type j v t → j ≤ e.type_room + more
    → SpellField l s (k + more) (e.flags ∷ (u24 e.first ++ (e.metadata_bytes ++ v))) (with_data_type f t)
retyped l e j v t more p h = record {
  flags = e.flags;
  first = e.first;
  own = e.own;
  metadata_bytes = e.metadata_bytes;
  type_spelt = v;
  metadata_room = e.metadata_room;
  type_room = j;
  bytes = refl;
  small_flags = e.small_flags;
  small = e.small;
  stands = e.stands;
  well_formed = e.well_formed;
  name = e.name;
  dict_is_ordered = e.dict_is_ordered;
  dict_id = e.dict_id;
  type_id = e.type_id;
  nullable = e.nullable;
  metadata = e.metadata;
  data_type = p;
  room = omega (arith, e.room, h);
}

-- the bytes of a field: its metadata and its type are parts of them
sizes : (l : ℕ) (g : Field l) → length (part (with_count pair_bytes) g.head.metadata) + length (type_bytes l g.data_type) ≤ length (field_bytes (type_bytes l) g)
unfolding field_bytes front_bytes head_bytes
sizes l g =
    omega (arith, length-append (front_bytes g.head) (dict_id_bytes g.head.dict_id), length-append (head_bytes g.head) (type_bytes l g.data_type), length-append (part text_bytes g.head.name) (part (with_count pair_bytes) g.head.metadata))

-- in either mode
module _ (parked : Bool) where
  pub rest_merged : {s w w₁ w₂ : Bytes} {used place q b t levels : ℕ} {r : Merged} → SkipsHead w place b → ((h : Head) → Skips s q (head_bytes h) t) → length w₁ ≡ length w
      → SetsFlags place b q t s w used w₁ → MergesType parked levels b t s w₁ used w₂ r → MergesRest parked levels place q s w used w₂ r
  unfolding ◌>>=◌
  rest_merged {s} {w} {w₁} {w₂} {used} {place} {q} {b} {t} {levels} {r} sk ht same set merge = record {
    says = λ l g low i x y z k f held hx e room.
        let hb : b ≡ length x + (4 + length e.metadata_bytes) = omega (arith, behind_head l e sk (held_stands held hx), hx) in
        let tt₀ = type_stands l g ht i.stands in
        let (v, e₁, held₁, long) = set.says l f g x y z k e held hx hb i.stands tt₀ in
        let head₁ : Bytes = head_spelt l e₁ in
        let n₁ : length (x ++ head₁) ≡ length x + (4 + length e₁.metadata_bytes) = omega (arith, length-append x head₁, head_long l e₁) in
        let held₂ : Held w₁ used (x ++ head₁) e₁.type_spelt z =
        held_as held₁ (ap (λ v. x ++ (v ++ z)) (head_first l e₁) ∙ ap (λ v. x ++ v) (append_assoc head₁ e₁.type_spelt z) ∙ sym (append_assoc x head₁ (e₁.type_spelt ++ z))) in
        let more = 4 * length (type_bytes l g.data_type) in
        let says = merge.says l e₁.own.data_type g.data_type low (record { small = i.small; stands = tt₀; ordered = g.head.dict_is_ordered; well_formed = i.well_formed.data_type })
        (x ++ head₁) e₁.type_spelt z e₁.type_room f.data_type held₂ (omega (arith, hb, n₁, long)) e₁.data_type
        (omega (arith, room, same, n₁, e₁.room, metadata_fits e₁.metadata)) in
        says_in (SpellType l s e₁.own.data_type) (SpellField l s) (e₁.type_room + more) (k + more) x head₁ [] z w₂ (λ t. with_data_type (both_flags l f g) t) (merge_type parked l f.data_type g.data_type)
        (λ j u a p h. (
          k + more,
          subst (λ w. SpellField l s (k + more) w (with_data_type (both_flags l f g) a)) (ap (λ z. e₁.flags ∷ z) (sym (append_assoc (u24 e₁.first) e₁.metadata_bytes u)) ∙ ap (λ z. head₁ ++ z) (sym (append-nil u))) (retyped l e₁ j u a more p h),
          omega arith,
        )) r says;
  }

  -- The model's merge of two fields, in its parts

  field_clash : (l : ℕ) (f g : Field l) → orders_agree parked (is_null l) f g ≡ false → merge_field parked (merge_type parked l) (is_null l) f g ≡ clash ordered_clash
  unfolding merge_field need ◌>>=◌
  field_clash l f g e = rw e

  field_parts : (l : ℕ) (f g : Field l) → orders_agree parked (is_null l) f g ≡ true
      → merge_field parked (merge_type parked l) (is_null l) f g ≡ (merge_field_metadata f g.head.metadata >>= λ h. merge_rest parked l h g)
  unfolding merge_field need ◌>>=◌
  field_parts l f g e = rw (e, merged_order_lem (is_null l) f g parked e) (go (merge_metadata field_metadata_clash f.head.metadata g.head.metadata))
    where
      go : (m : model.Merged Metadata) → (m >>= λ n. merge_rest parked l (with_metadata f n) g) ≡ ((m >>= λ n. done (with_metadata f n)) >>= λ h. merge_rest parked l h g)
      go (done n) = refl
      go (clash n) = refl

  module _ {s w : Bytes} {used place q : ℕ} {b : Bool} (o : OrdersAgree parked s w place q b) where
    agree : (l : ℕ) (g : Field l) → Stands s q (field_bytes (type_bytes l) g) → {k : ℕ} {x y z : Bytes} {f : Field l} → Held w used x y z → place ≡ length x → SpellField l s k y f
        → b ≡ orders_agree parked (is_null l) f g
    agree l g sq {k} {y = y} {f = f} held hx e = o.says l k y f g e (held_stands held hx) sq

    pub field_ordered : {levels : ℕ} → b ≡ false → MergesField parked levels place q s w used w (Err Number.OrderedClash)
    field_ordered n = record { says = λ l g low v x y z k f held hx e room. field_clash l f g (sym (agree l g v.stands held hx e) ∙ n) }

    module _ (same : b ≡ true) {w₁ : Bytes} {got : Merged} (size : length w₁ ≡ length w) (mm : MergesMetadata place q s w used w₁ got) where
      metadata_said : (l : ℕ) (g : Field l) → Incoming l s q g → (x y z : Bytes) (k : ℕ) (f : Field l) → Held w used x y z → place ≡ length x → SpellField l s k y f
          → length x + (k + 4 * length (field_bytes (type_bytes l) g)) + length z ≤ length w
          → Says (λ i v f. SpellField l s i v f) (k + 4 * length (part (with_count pair_bytes) g.head.metadata)) x z w₁ got (merge_field_metadata f g.head.metadata)
      metadata_said l g v x y z k f held hx e room =
          mm.says l g.head (head_stands l g v.stands) v.well_formed.metadata v.small x y z k f held hx e (omega (arith, room, sizes l g))

      ordered_parts : (l : ℕ) (g : Field l) → Incoming l s q g → {k : ℕ} {x y z : Bytes} {f : Field l} → Held w used x y z → place ≡ length x → SpellField l s k y f
          → merge_field parked (merge_type parked l) (is_null l) f g ≡ (merge_field_metadata f g.head.metadata >>= λ h. merge_rest parked l h g)
      ordered_parts l g v {f = f} held hx e =
          field_parts l f g (sym (agree l g v.stands held hx e) ∙ same)

      pub field_stopped : {levels : ℕ} {n : Number} → got ≡ Err n → MergesField parked levels place q s w used w₁ got
      unfolding ◌>>=◌
      field_stopped {n = n} c = record {
        says = λ l g low v x y z k f held hx e room.
            let t = subst (λ r. Says (λ i v f. SpellField l s i v f) (k + 4 * length (part (with_count pair_bytes) g.head.metadata)) x z w₁ r (merge_field_metadata f g.head.metadata)) c (metadata_said l g v x y z k f held hx e room) in
            subst (λ r. Says (SpellField l s) (k + 4 * length (field_bytes (type_bytes l) g)) x z w₁ r (merge_field parked (merge_type parked l) (is_null l) f g)) (sym c)
            (ordered_parts l g v held hx e ∙ ap (λ m. m >>= λ h. merge_rest parked l h g) t);
      }

      pub field_merged : {levels kept : ℕ} {w₂ : Bytes} {r : Merged} → got ≡ Ok kept → MergesRest parked levels place q s w₁ kept w₂ r → MergesField parked levels place q s w used w₂ r
      unfolding ◌>>=◌
      field_merged {kept = kept} {w₂} {r} c rest = record {
        says = λ l g low v x y z k f held hx e room.
            let t = subst (λ r. Says (λ i v f. SpellField l s i v f) (k + 4 * length (part (with_count pair_bytes) g.head.metadata)) x z w₁ r (merge_field_metadata f g.head.metadata)) c (metadata_said l g v x y z k f held hx e room) in
            let u = rest.says l g low v x t.spelt z t.room t.value t.held hx t.spells (omega (arith, room, sizes l g, t.fits, size)) in
            says_as (SpellField l s) (t.room + 4 * length (type_bytes l g.data_type)) (k + 4 * length (field_bytes (type_bytes l) g)) x z w₂ r (omega (arith, sizes l g, t.fits))
            (ordered_parts l g v held hx e ∙ ap (λ m. m >>= λ h. merge_rest parked l h g) t.is) u;
      }
