-- Edits of a table one after the other: what the second says, seen from before the first.
use mathlib.Core.Path.{◌≡◌, refl, sym, ap, subst, ◌∙◌}
use Prim.Native.Nat.{ℕ}
use Rattle.std.specs.Prelude.{Result, Ok, Err, IsErrAnd}
use Rattle.std.proofs.lemmas.Result.{err_from_is_err_and}
use Rattle.model.specs.Bytes.{Bytes}
use Rattle.buffer.specs.declared.refusal.Number.{Number}
use Rattle.table.specs.Says.{Merged}
use Rattle.table.specs.declared.Table.{Table}
use Rattle.table.specs.Edited.{SameBuffers, Rewrites, Edits, merged, Merges}

-- nothing changed
pub same_buffers : {t : Table} → SameBuffers t t
same_buffers = record { train = refl; buffer = refl; size = refl }

pub same_on : {t t₁ t₂ : Table} → SameBuffers t t₁ → SameBuffers t₁ t₂ → SameBuffers t t₂
same_on a b = record { train = b.train ∙ a.train; buffer = b.buffer ∙ a.buffer; size = b.size ∙ a.size }

-- bytes changed, and that is all of a merge
pub rewritten : {t t' : Table} {R : (s w : Bytes) (used : ℕ) (w' : Bytes) → Type 0} {M : (s w : Bytes) (used : ℕ) (w' : Bytes) (r : Merged) → Type 0} → Rewrites R t t'
    → M t.train.now t.w.now t.used t'.w.now (Ok t.used) → Merges M t t' (Ok tt)
rewritten {t} {t'} {M = M} a m = record { same = a.same; is = subst (λ u. M t.train.now t.w.now t.used t'.w.now (Ok u)) (sym a.used) m }

module _ {t t₁ t₂ : Table} where
  -- behind an edit
  pub edits_on : {E : (s w : Bytes) (used : ℕ) (w' : Bytes) (used' : ℕ) → Type 0} → SameBuffers t t₁ → Edits E t₁ t₂ → SameBuffers t t₂ × E t.train.now t₁.w.now t₁.used t₂.w.now t₂.used
  edits_on {E} a b = (same_on a b.same, subst (λ s. E s.now t₁.w.now t₁.used t₂.w.now t₂.used) a.train b.is)

  pub merges_on : {M : (s w : Bytes) (used : ℕ) (w' : Bytes) (r : Merged) → Type 0} {r : Result Unit Number} → SameBuffers t t₁ → Merges M t₁ t₂ r
      → SameBuffers t t₂ × M t.train.now t₁.w.now t₁.used t₂.w.now (merged t₂ r)
  merges_on {M} {r} a b = (same_on a b.same, subst (λ s. M s.now t₁.w.now t₁.used t₂.w.now (merged t₂ r)) a.train b.is)

  -- behind one that leaves as many in use
  module _ {R : (s w : Bytes) (used : ℕ) (w' : Bytes) → Type 0} (a : Rewrites R t t₁) where
    pub edits_there : {E : (s w : Bytes) (used : ℕ) (w' : Bytes) (used' : ℕ) → Type 0} → Edits E t₁ t₂ → SameBuffers t t₂ × E t.train.now t₁.w.now t.used t₂.w.now t₂.used
    edits_there {E} b = let e = edits_on a.same b in (e.0, subst (λ u. E t.train.now t₁.w.now u t₂.w.now t₂.used) a.used e.1)

    pub merges_there : {M : (s w : Bytes) (used : ℕ) (w' : Bytes) (r : Merged) → Type 0} {r : Result Unit Number} → Merges M t₁ t₂ r
        → SameBuffers t t₂ × M t.train.now t₁.w.now t.used t₂.w.now (merged t₂ r)
    merges_there {M} {r} b = let e = merges_on a.same b in (e.0, subst (λ u. M t.train.now t₁.w.now u t₂.w.now (merged t₂ r)) a.used e.1)

-- what a merge that answered gives, and a clash
module _ {M : (s w : Bytes) (used : ℕ) (w' : Bytes) (r : Merged) → Type 0} {t t' : Table} {r : Result Unit Number} (m : Merges M t t' r) where
  pub went : r ≡ Ok tt → merged t' r ≡ Ok t'.used
  went e = ap (merged t') e

  pub stopped : {c : Number} → r ≡ Err c → merged t' r ≡ Err c
  stopped e = ap (merged t') e

-- what a merge gave is in use
pub in_use : (t : Table) (r : Result Unit Number) (u : ℕ) → merged t r ≡ Ok u → t.used ≡ u
in_use t (Ok _) u e = cc
in_use t (Err n) u e = cc

-- the `?` of a merge: its clash is handed up as it is

pub handed : {A : Type 0} {q : Result A Number} {c : Number} → IsErrAnd q (λ y. y ≡ c) → q ≡ Err c
handed {q = q} h = let p = err_from_is_err_and q h in p.1 ∙ ap Err p.2

module _ {M : (s w : Bytes) (used : ℕ) (w' : Bytes) (r : Merged) → Type 0} {t t' : Table} {q : Result Unit Number} where
  pub handed_up : {r : Result Unit Number} {c : Number} → r ≡ Err c → IsErrAnd q (λ y. y ≡ c) → Merges M t t' r → Merges M t t' q
  handed_up e h m = subst (Merges M t t') (e ∙ sym (handed h)) m

  pub clashed : (c : Number) → IsErrAnd q (λ y. y ≡ c) → SameBuffers t t' → M t.train.now t.w.now t.used t'.w.now (Err c) → Merges M t t' q
  clashed c h same m = record { same = same; is = subst (M t.train.now t.w.now t.used t'.w.now) (sym (ap (merged t') (handed h))) m }
