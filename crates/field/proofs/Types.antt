-- One type into another: Null on either side, other codes, one code.
use Prim.Native.Nat.{ℕ, zero, suc, ◌+◌, ◌*◌, ◌-◌, ◌≤◌}
use native.Mathlib.Omega.{arith}
use mathlib.Core.Path.{◌≡◌, refl, sym, ap, subst, ◌∙◌}
use mathlib.Core.List.{[], ◌∷◌, ◌++◌}
use mathlib.Core.Bool.{Bool, true, false, not, ◌||◌, ◌&&◌}
use mathlib.Core.Logic.{◌⊎◌, inl, inr}
use lib.ListN.{length, get_or}
use lib.Dec.{eqb}
use borrow.Author.Tests.{eq-eqb, ne_eqb, eqb-false}
use Rattle.model.specs.Numbers.{type_clash}
use Rattle.model.specs.Bytes.{Bytes, same, same_bytes}
use Rattle.model.specs.Tree.{DataType, with_children, Null, List', LargeList, Struct, Union}
use Rattle.model.specs.Sheet.{type_bytes}
use Rattle.model.specs.Merge.{◌>>=◌, done, clash, need, merge_each, merge_same_code, merge_type, is_null, pour}
use Rattle.model.specs.Equal.{same_child, same_type}
use Rattle.model.proofs.Gives.{choose_true, choose_false}
use Rattle.buffer.specs.declared.refusal.Number.{Number}
use Rattle.walk.specs.Stands.{Stands}
use Rattle.walk.proofs.Descents.{code_stands}
use Rattle.table.specs.Held.{Held}
use Rattle.table.specs.Table.{raw, u24, SpellType, spell_raw, spell_struct, spell_list, spell_union}
use Rattle.table.specs.Says.{Merged, Says}
use Rattle.table.specs.Becomes.{IncomingType}
use Rattle.std.proofs.Common.{Ok, Err}
use Rattle.table.proofs.Numbers.{length_u24}
use Rattle.table.proofs.Held.{held_stands}
use Rattle.members.specs.Claims.{MergesUnion}
use Rattle.members.proofs.Unions.{union_arm}
use Rattle.table.specs.Edits.{TakesType}
use Rattle.field.specs.Claims.{MergesType, MergesSameCode, MergesStruct, MergesList, MergesEqual, by_name}

-- what `code_at` ensures
abbrev CodeAt : Bytes → Bytes → ℕ → ℕ → Type 0
CodeAt s w place r = (l : ℕ) (first : DataType (suc l)) (k : ℕ) (y : Bytes) (a : DataType (suc l)) → SpellType (suc l) s first k y a → Stands w place y → r ≡ a.code

-- a Null is raw, in four bytes, and its first occurrence is Null too
null_raw : (l : ℕ) {s : Bytes} {first : DataType (suc l)} {k : ℕ} {y : Bytes} {a : DataType (suc l)} → SpellType (suc l) s first k y a → a.code ≡ Null
    → (length y ≡ 4) × (eqb first.code Null ≡ false → ⊥)
null_raw l {first = first} (spell_raw x b r v) e = (omega (arith, ap length b, length_u24 x), λ z. absurd (go first.code z (ap (λ t. t.code) (v z) ∙ e)))
  where
    go : (n : ℕ) → eqb n Null ≡ false → n ≡ Null → ⊥
    go n z e = eqb-false n Null z e
null_raw l (spell_struct x m ys b q g d p r v) e = absurd (omega (arith, d, e))
null_raw l (spell_list x m ys f b q g (inl d) p r v u) e = absurd (omega (arith, d, e))
null_raw l (spell_list x m ys f b q g (inr d) p r v u) e = absurd (omega (arith, d, e))
null_raw l (spell_union x m ys b q g d p r v u) e = absurd (omega (arith, d, e))

neither : (c : ℕ) → ((c ≡ List') ⊎ (c ≡ LargeList) → ⊥) → (eqb c List' || eqb c LargeList) ≡ false
neither c n = rw (ne_eqb c List' (λ e. n (inl e)), ne_eqb c LargeList (λ e. n (inr e)))

-- in either mode
module _ (parked : Bool) where
  -- The model's arms

  module _ (l : ℕ) (a u : DataType (suc l)) where
    null_first : a.code ≡ Null → merge_type parked (suc l) a u ≡ done u
    unfolding merge_type
    null_first e = choose_true _ _ _ (eq-eqb a.code Null e)

    null_later : (a.code ≡ Null → ⊥) → u.code ≡ Null → merge_type parked (suc l) a u ≡ done a
    unfolding merge_type
    null_later n e = choose_false _ _ _ (ne_eqb a.code Null n) ∙ choose_true _ _ _ (eq-eqb u.code Null e)

    codes_differ : (a.code ≡ Null → ⊥) → (u.code ≡ Null → ⊥) → (a.code ≡ u.code → ⊥) → merge_type parked (suc l) a u ≡ clash type_clash
    unfolding merge_type
    codes_differ n m d =
        choose_false _ _ _ (ne_eqb a.code Null n) ∙ choose_false _ _ _ (ne_eqb u.code Null m) ∙ choose_true _ _ _ (ap not (ne_eqb a.code u.code d))

    codes_same : (a.code ≡ Null → ⊥) → (u.code ≡ Null → ⊥) → a.code ≡ u.code → merge_type parked (suc l) a u ≡ merge_same_code parked (λ x y. merge_type parked l x y) (is_null l) (same_type l) a u
    unfolding merge_type
    codes_same n m d =
        choose_false _ _ _ (ne_eqb a.code Null n) ∙ choose_false _ _ _ (ne_eqb u.code Null m) ∙ choose_false _ _ _ (ap not (eq-eqb a.code u.code d))

  module _ {s w : Bytes} {used place t mine theirs : ℕ} (c : CodeAt s w place mine) (j : theirs ≡ get_or s t 0) where
    module _ (l : ℕ) (first u a : DataType (suc l)) {x y z : Bytes} {k : ℕ} (i : IncomingType (suc l) s t u) (held : Held w used x y z) (hx : place ≡ length x) (p : SpellType (suc l) s first k y a) where
      mine_is : mine ≡ a.code
      mine_is = c l first k y a p (held_stands held hx)

      theirs_is : theirs ≡ u.code
      theirs_is = j ∙ code_stands l u i.stands

    pub type_taken : {levels : ℕ} {w₁ : Bytes} → mine ≡ 0 → TakesType place t w used w₁ → MergesType parked levels place t s w used w₁ (Ok used)
    type_taken {levels} {w₁} e f = record { says = go }
      where
        go : (l : ℕ) (first u : DataType l) → l ≤ levels → IncomingType l s t u → (x y z : Bytes) (k : ℕ) (a : DataType l) → Held w used x y z → place ≡ length x → SpellType l s first k y a
            → length x + (k + 4 * length (type_bytes l u)) + length z ≤ length w → Says (SpellType l s first) (k + 4 * length (type_bytes l u)) x z w₁ (Ok used) (merge_type parked l a u)
        go zero first u low i x y z k a held hx p room = absurd a
        go (suc l) first u low i x y z k a held hx p room =
            let n : a.code ≡ Null = sym (mine_is l first u a i held hx p) ∙ e in
            let (four, null) = null_raw l p n in
            record {
              value = u;
              spelt = raw ∷ u24 t;
              room = k + 4 * length (type_bytes (suc l) u);
              is = null_first l a u n;
              spells = spell_raw t refl (record { small = omega (arith, i.small, i.stands.inside); stands = i.stands; ordered = i.ordered; well_formed = i.well_formed; room = omega arith }) λ z. absurd (null z);
              fits = omega arith;
              held = f x y z held hx four;
            }

    module _ (m : mine ≡ 0 → ⊥) where
      pub type_kept : {levels : ℕ} → theirs ≡ 0 → MergesType parked levels place t s w used w (Ok used)
      type_kept {levels} e = record { says = go }
        where
          go : (l : ℕ) (first u : DataType l) → l ≤ levels → IncomingType l s t u → (x y z : Bytes) (k : ℕ) (a : DataType l) → Held w used x y z → place ≡ length x → SpellType l s first k y a
              → length x + (k + 4 * length (type_bytes l u)) + length z ≤ length w → Says (SpellType l s first) (k + 4 * length (type_bytes l u)) x z w (Ok used) (merge_type parked l a u)
          go zero first u low i x y z k a held hx p room = absurd a
          go (suc l) first u low i x y z k a held hx p room = record {
            value = a;
            spelt = y;
            room = k;
            is = null_later l a u (λ n. m (mine_is l first u a i held hx p ∙ n)) (sym (theirs_is l first u a i held hx p) ∙ e);
            spells = p;
            fits = omega arith;
            held = held;
          }

      module _ (n : theirs ≡ 0 → ⊥) where
        pub type_clash_lem : {levels : ℕ} → (mine ≡ theirs → ⊥) → MergesType parked levels place t s w used w (Err Number.TypeClash)
        type_clash_lem {levels} d = record { says = go }
          where
            go : (l : ℕ) (first u : DataType l) → l ≤ levels → IncomingType l s t u → (x y z : Bytes) (k : ℕ) (a : DataType l) → Held w used x y z → place ≡ length x → SpellType l s first k y a
                → length x + (k + 4 * length (type_bytes l u)) + length z ≤ length w → merge_type parked l a u ≡ clash type_clash
            go zero first u low i x y z k a held hx p room = absurd a
            go (suc l) first u low i x y z k a held hx p room =
                let f = mine_is l first u a i held hx p in
                let g = theirs_is l first u a i held hx p in
                codes_differ l a u (λ e. m (f ∙ e)) (λ e. n (g ∙ e)) λ e. d (f ∙ e ∙ sym g)

        pub type_same : {levels : ℕ} {w₁ : Bytes} {r : Merged} → mine ≡ theirs → MergesSameCode parked mine levels place t s w used w₁ r → MergesType parked levels place t s w used w₁ r
        type_same {levels} {w₁} {r} d merge = record { says = go }
          where
            go : (l : ℕ) (first u : DataType l) → l ≤ levels → IncomingType l s t u → (x y z : Bytes) (k : ℕ) (a : DataType l) → Held w used x y z → place ≡ length x → SpellType l s first k y a
                → length x + (k + 4 * length (type_bytes l u)) + length z ≤ length w → Says (SpellType l s first) (k + 4 * length (type_bytes l u)) x z w₁ r (merge_type parked l a u)
            go zero first u low i x y z k a held hx p room = absurd a
            go (suc l) first u low i x y z k a held hx p room =
                let f = mine_is l first u a i held hx p in
                let g = theirs_is l first u a i held hx p in
                subst (λ v. Says (SpellType (suc l) s first) (k + 4 * length (type_bytes (suc l) u)) x z w₁ r v)
                (sym (codes_same l a u (λ e. m (f ∙ e)) (λ e. n (g ∙ e)) (sym f ∙ d ∙ g)))
                (merge.says l first u low (sym g ∙ sym d) i x y z k a held hx (p, sym f) room)

  -- The arms of one code

  module _ (l : ℕ) (a u : DataType (suc l)) where
    struct_arm : a.code ≡ Struct → merge_same_code parked (λ x y. merge_type parked l x y) (is_null l) (same_type l) a u ≡ (pour (by_name parked l) [] (a.children ++ u.children) >>= λ ks. done (with_children a ks))
    unfolding merge_same_code
    struct_arm e = choose_true _ _ _ (eq-eqb a.code Struct e)

    list_arm : (a.code ≡ List') ⊎ (a.code ≡ LargeList)
        → merge_same_code parked (λ x y. merge_type parked l x y) (is_null l) (same_type l) a u ≡ (merge_each parked (merge_type parked l) (is_null l) a.children u.children >>= λ ks. done (with_children a ks))
    unfolding merge_same_code
    list_arm h =
        choose_false _ _ _ (ne_eqb a.code Struct (λ e. other h (inl e))) ∙ choose_false _ _ _ (ne_eqb a.code Union (λ e. other h (inr e))) ∙ choose_true _ _ _ (either h)
      where
        other : {c : ℕ} → (c ≡ List') ⊎ (c ≡ LargeList) → (c ≡ Struct) ⊎ (c ≡ Union) → ⊥
        other (inl i) (inl k) = omega (arith, i, k)
        other (inl i) (inr k) = omega (arith, i, k)
        other (inr i) (inl k) = omega (arith, i, k)
        other (inr i) (inr k) = omega (arith, i, k)

        either : {c : ℕ} → (c ≡ List') ⊎ (c ≡ LargeList) → (eqb c List' || eqb c LargeList) ≡ true
        either {c} (inl e) = ap (λ n. eqb n List' || eqb n LargeList) e
        either {c} (inr e) = ap (λ n. eqb n List' || eqb n LargeList) e

    other_arm : (a.code ≡ Struct → ⊥) → (a.code ≡ Union → ⊥) → (eqb a.code List' || eqb a.code LargeList) ≡ false
        → merge_same_code parked (λ x y. merge_type parked l x y) (is_null l) (same_type l) a u ≡ need (same_bytes a.params u.params && same (same_child (same_type l)) a.children u.children) type_clash a
    unfolding merge_same_code
    other_arm s n h = choose_false _ _ _ (ne_eqb a.code Struct s) ∙ choose_false _ _ _ (ne_eqb a.code Union n) ∙ choose_false _ _ _ h

  module _ {s w : Bytes} {used place t code levels : ℕ} where
    pub no_level : {w₁ : Bytes} {r : Merged} → levels ≤ 0 → MergesSameCode parked code levels place t s w used w₁ r
    no_level h = record { says = λ l first u low e i x y z k a held hx p room. absurd (omega (arith, h, low)) }

    module _ {w₁ : Bytes} {r : Merged} where
      pub same_struct : code ≡ Struct → MergesStruct parked (levels - 1) place t s w used w₁ r → MergesSameCode parked code levels place t s w used w₁ r
      same_struct c m = record {
        says = λ l first u low e i x y z k a held hx p room.
            subst (λ v. Says (SpellType (suc l) s first) (k + 4 * length (type_bytes (suc l) u)) x z w₁ r v) (sym (struct_arm l a u (p.1 ∙ c)))
            (m.says l first u (omega (arith, low)) (e ∙ c) i x y z k a held hx (p.0, p.1 ∙ c) room);
      }

      pub same_list : (code ≡ List') ⊎ (code ≡ LargeList) → MergesList parked (levels - 1) place t s w used w₁ r → MergesSameCode parked code levels place t s w used w₁ r
      same_list h m = record {
        says = λ l first u low e i x y z k a held hx p room.
            subst (λ v. Says (SpellType (suc l) s first) (k + 4 * length (type_bytes (suc l) u)) x z w₁ r v) (sym (list_arm l a u (subst (λ n. (n ≡ List') ⊎ (n ≡ LargeList)) (sym p.1) h)))
            (m.says l first u code (omega (arith, low)) h e i x y z k a held hx p room);
      }

      pub same_other : (code ≡ Struct → ⊥) → (code ≡ Union → ⊥) → ((code ≡ List') ⊎ (code ≡ LargeList) → ⊥) → MergesEqual levels place t s w used w₁ r → MergesSameCode parked code levels place t s w used w₁ r
      same_other n₁ n₂ n₃ m = record {
        says = λ l first u low e i x y z k a held hx p room.
            subst (λ v. Says (SpellType (suc l) s first) (k + 4 * length (type_bytes (suc l) u)) x z w₁ r v)
            (sym (other_arm l a u (λ h. n₁ (sym p.1 ∙ h)) (λ h. n₂ (sym p.1 ∙ h)) (ap (λ c. eqb c List' || eqb c LargeList) p.1 ∙ neither code n₃)))
            (m.says l first u code low n₁ n₂ n₃ e i x y z k a held hx p room);
      }

    pub same_union : (w₁ : Bytes) (r : Merged) → code ≡ Union → MergesUnion (levels - 1) place t s w used w₁ r → MergesSameCode parked code levels place t s w used w₁ r
    same_union w₁ r c m = record {
      says = λ l first u low e i x y z k a held hx p room.
          subst (λ v. Says (SpellType (suc l) s first) (k + 4 * length (type_bytes (suc l) u)) x z w₁ r v) (sym (union_arm parked l a u (p.1 ∙ c)))
          (m l first u (omega (arith, low)) (e ∙ c) i x y z k a held hx (p.0, p.1 ∙ c) room);
    }
