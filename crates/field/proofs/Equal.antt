-- Types that nothing is merged inside: they must be equal.
use Prim.Native.Nat.{ℕ, suc, ◌≤◌}
use native.Mathlib.Omega.{arith}
use mathlib.Core.Path.{◌≡◌, sym, ap, ap₂, subst, ◌∙◌}
use mathlib.Core.List.{◌∷◌}
use mathlib.Core.Bool.{Bool, true, false, ◌&&◌}
use mathlib.Core.Logic.{◌⊎◌}
use lib.ListN.{length, get_or}
use borrow.Author.Tests.{eq-eqb}
use Rattle.model.specs.Numbers.{type_clash}
use Rattle.model.specs.Bytes.{Bytes, same, same_bytes}
use Rattle.model.specs.Tree.{DataType, List', LargeList, layout, leaf}
use Rattle.model.specs.Sheet.{type_bytes}
use Rattle.model.specs.WellFormed.{Whole}
use Rattle.model.specs.Merge.{need}
use Rattle.model.specs.Equal.{same_child, same_type}
use Rattle.model.proofs.Whole.{leaf_empty, type_whole}
use Rattle.buffer.specs.declared.refusal.Number.{Number}
use Rattle.walk.specs.Stands.{Stands}
use Rattle.walk.proofs.Descents.{code_stands}
use Rattle.table.specs.Held.{Held}
use Rattle.table.specs.Table.{raw, u24, RawAt, spell_raw, spell_struct, spell_list, spell_union}
use Rattle.table.specs.Becomes.{IncomingType, Coded}
use Rattle.std.proofs.Common.{Ok, Err}
use Rattle.table.proofs.Held.{held_stands}
use Rattle.table.proofs.Types.{raw_there}
use Rattle.table.specs.Look.{NamesPlace}
use Rattle.field.specs.Claims.{MergesEqual}

-- plain equality of types of one code
same_rest : (l : ℕ) (a b : DataType (suc l)) → a.code ≡ b.code → same_type (suc l) a b ≡ (same_bytes a.params b.params && same (same_child (same_type l)) a.children b.children)
unfolding same_type
same_rest l a b e = ap (λ t. t && same_bytes a.params b.params && same (same_child (λ x y. same_type l x y)) a.children b.children) (eq-eqb a.code b.code e)

-- what `same_type` ensures
abbrev Compares : Bytes → ℕ → ℕ → ℕ → Bool → Type 0
Compares s own t levels r = (l : ℕ) (x y : DataType l) → l ≤ levels → Whole l x → Whole l y → Stands s own (type_bytes l x) → Stands s t (type_bytes l y) → r ≡ same_type l x y

-- types of these codes are raw
as_raw : (l : ℕ) {s : Bytes} (first d : DataType (suc l)) {code k : ℕ} {y : Bytes} → (code ≡ 32 → ⊥) → (code ≡ 33 → ⊥) → ((code ≡ List') ⊎ (code ≡ LargeList) → ⊥)
    → Coded l s first code k y d → (x : ℕ) × (y ≡ raw ∷ u24 x) × RawAt (suc l) s k x d
as_raw l first d n₁ n₂ n₃ (spell_raw x bs r v, f) = (x, bs, r)
as_raw l first d n₁ n₂ n₃ (spell_struct x j ys bs q g z p r v, f) = absurd (n₁ (sym f ∙ z))
as_raw l first d n₁ n₂ n₃ (spell_list x j ys y bs q g z p r v k, f) = absurd (n₃ (subst (λ n. (n ≡ List') ⊎ (n ≡ LargeList)) f z))
as_raw l first d n₁ n₂ n₃ (spell_union x j ys bs q g z p r v k, f) = absurd (n₂ (sym f ∙ z))

-- of plain types of one code
pub types_plain : {s w : Bytes} {used place t levels c : ℕ} → c ≡ get_or s t 0 → layout c ≡ leaf → MergesEqual levels place t s w used w (Ok used)
unfolding need same
types_plain {s} {t = t} {c = c} e h = record {
  says = λ l first u code low n₁ n₂ n₃ f i x y z k d held hx p room.
      let (there, bytes, r) = as_raw l first d n₁ n₂ n₃ (p.0, p.1) in
      let v : layout u.code ≡ leaf = ap layout (sym (e ∙ code_stands l u i.stands)) ∙ h in
      let mine = leaf_empty l d (ap layout (p.1 ∙ sym f) ∙ v) (type_whole (suc l) r.ordered d r.well_formed) in
      let theirs = leaf_empty l u v (type_whole (suc l) i.ordered u i.well_formed) in
      record {
        value = d;
        spelt = y;
        room = k;
        is = ap (λ v. need v type_clash d) (ap₂ ◌&&◌ (ap₂ same_bytes mine.0 theirs.0) (ap₂ (same (same_child (same_type l))) mine.1 theirs.1));
        spells = p.0;
        fits = omega arith;
        held = held;
      };
}

module _ {s w : Bytes} {used place own t levels : ℕ} {b : Bool} (o : NamesPlace w place own) (c : Compares s own t levels b) where
  -- a raw type stands in the train at the place of its entry
  verdict : (l : ℕ) (first u d : DataType (suc l)) {code k : ℕ} {x y z : Bytes} → suc l ≤ levels → (code ≡ 32 → ⊥) → (code ≡ 33 → ⊥) → ((code ≡ List') ⊎ (code ≡ LargeList) → ⊥)
      → u.code ≡ code → IncomingType (suc l) s t u → Held w used x y z → place ≡ length x → Coded l s first code k y d
      → b ≡ (same_bytes d.params u.params && same (same_child (same_type l)) d.children u.children)
  verdict l first u d h n₁ n₂ n₃ e i held hx p =
      let (x, bs, r) = as_raw l first d n₁ n₂ n₃ p in
      let there : own ≡ x = raw_there o x r.small (subst (Stands w place) bs (held_stands held hx)) in
      c (suc l) d u h (type_whole (suc l) r.ordered d r.well_formed) (type_whole (suc l) i.ordered u i.well_formed)
      (subst (λ p. Stands s p (type_bytes (suc l) d)) (sym there) r.stands) i.stands ∙ same_rest l d u (p.1 ∙ sym e)

  pub types_equal : b ≡ true → MergesEqual levels place t s w used w (Ok used)
  unfolding need
  types_equal e = record {
    says = λ l first u code h n₁ n₂ n₃ f i x y z k d held hx p room. record {
      value = d;
      spelt = y;
      room = k;
      is = ap (λ v. need v type_clash d) (sym (verdict l first u d h n₁ n₂ n₃ f i held hx p) ∙ e);
      spells = p.0;
      fits = omega arith;
      held = held;
    };
  }

  pub types_differ : b ≡ false → MergesEqual levels place t s w used w (Err Number.TypeClash)
  unfolding need
  types_differ e = record { says = λ l first u code h n₁ n₂ n₃ f i x y z k d held hx p room. ap (λ v. need v type_clash d) (sym (verdict l first u d h n₁ n₂ n₃ f i held hx p) ∙ e) }
