-- The metadata of fields of the train: where its pairs stand, and when two have the same.
use Prim.Native.Nat.{ℕ, ◌+◌, ◌≤◌}
use native.Mathlib.Omega.{arith}
use mathlib.Core.Path.{◌≡◌, refl, sym, ap, ◌∙◌}
use mathlib.Core.List.{[], ◌∷◌}
use mathlib.Core.Bool.{Bool, true}
use lib.ListN.{length, length-append}
use Rattle.model.specs.Bytes.{Bytes, Metadata, same_bytes, u16}
use Rattle.model.specs.Tree.{Head}
use Rattle.model.specs.Equal.{same_metadata}
use Rattle.model.specs.Sheet.{front_bytes, each, part, stands, with_count, text_bytes, pair_bytes, head_bytes}
use Rattle.model.proofs.ByteStrings.{same_bytes_eq, same_bytes_refl}
use Rattle.model.proofs.Equivalences.{metadata_equivalence}
use Rattle.model.proofs.SameBytes.{by_truth, part_equal, metadata_same_eq}
use Rattle.walk.specs.Stands.{Stands, Skips, SkipsName}
use Rattle.walk.proofs.Standing.{first_stands, stands_behind, skip_ahead}
use Rattle.walk.proofs.Parts.{front_stands}
use Rattle.datatype.specs.Comparisons.{PairsAt}
use Rattle.datatype.proofs.Texts.{Stretches}

-- metadata that is there has a count
counted_long : (m : Metadata) → length (with_count pair_bytes m) ≡ 2 + length (each pair_bytes m)
unfolding with_count u16
counted_long m = omega arith

-- metadata takes no less than its pairs, and a count if there is one
pub part_long : (m : Metadata) → length (each pair_bytes m) ≤ length (part (with_count pair_bytes) m)
part_long [] = omega arith
part_long (p ∷ m) = omega (arith, counted_long (p ∷ m))

pub part_counted : (m : Metadata) → (length m ≡ 0 → ⊥) → length (part (with_count pair_bytes) m) ≡ 2 + length (each pair_bytes m)
part_counted [] never = absurd (never refl)
part_counted (p ∷ m) never = counted_long (p ∷ m)

-- Behind the name

-- behind a name begins the metadata
abbrev pub NameEnds : Bytes → ℕ → ℕ → Type 0
NameEnds s place r = (h : Head) → Stands s place (head_bytes h) → r ≡ place + 1 + length (part text_bytes h.name)

pub name_ends : {s : Bytes} {place r : ℕ} → SkipsName s place r → NameEnds s place r
unfolding front_bytes
name_ends n h st = let front = front_stands h st in omega (arith, (n h front).behind (first_stands (_ ∷ part text_bytes h.name) _ front))

module _ {s : Bytes} {place name : ℕ} (n : NameEnds s place name) (h : Head) (st : Stands s place (head_bytes h)) where
  metadata_stands : Stands s name (part (with_count pair_bytes) h.metadata)
  unfolding front_bytes
  metadata_stands = stands_behind (skip_ahead (_ ∷ part text_bytes h.name) refl λ i. omega (arith, n h st)) (front_stands h st)

  metadata_ends : {e : ℕ} → ((h : Head) → Skips s place (front_bytes h) e) → e ≡ name + length (part (with_count pair_bytes) h.metadata)
  unfolding front_bytes
  metadata_ends f = omega (arith, (f h).behind (front_stands h st), n h st, length-append (part text_bytes h.name) (part (with_count pair_bytes) h.metadata))

-- what `of_head` ensures
abbrev pub FindsPairs : Bytes → ℕ → ℕ → ℕ → Type 0
FindsPairs s place count first = (h : Head) → Stands s place (head_bytes h) → PairsAt s h.metadata count first

-- what `same_metadata` ensures
abbrev pub SameMetadata : Bytes → ℕ → ℕ → Bool → Type 0
SameMetadata s a b r = (h g : Head) → Stands s a (head_bytes h) → Stands s b (head_bytes g) → r ≡ same_metadata h.metadata g.metadata

alike : (m n : Metadata) → part (with_count pair_bytes) m ≡ part (with_count pair_bytes) n → stands m ≡ stands n
alike [] [] e = refl
alike [] (q ∷ n) e = absurd (omega (arith, ap length e, counted_long (q ∷ n)))
alike (p ∷ m) [] e = absurd (omega (arith, ap length e, counted_long (p ∷ m)))
alike (p ∷ m) (q ∷ n) e = refl

-- the bytes of metadata tell it
metadata_same : (m n : Metadata) → same_bytes (part (with_count pair_bytes) m) (part (with_count pair_bytes) n) ≡ same_metadata m n
metadata_same m n = by_truth _ _ (λ e. forth (same_bytes_eq _ _ e)) (λ e. ap (λ z. same_bytes (part (with_count pair_bytes) m) (part (with_count pair_bytes) z)) (sym (metadata_same_eq m n e)) ∙ same_bytes_refl _)
  where
    forth : part (with_count pair_bytes) m ≡ part (with_count pair_bytes) n → same_metadata m n ≡ true
    forth e = ap (same_metadata m) (sym (part_equal m n (alike m n e) e)) ∙ metadata_equivalence.self m

pub same_metadata_lem : {s : Bytes} {a b from since e f : ℕ} {r : Bool} → NameEnds s a from → NameEnds s b since → ((h : Head) → Skips s a (front_bytes h) e) → ((h : Head) → Skips s b (front_bytes h) f)
    → Stretches s from e s since f r → SameMetadata s a b r
same_metadata_lem n m i j k h g st st2 =
    k _ _ (metadata_stands n h st) (metadata_stands m g st2) (metadata_ends n h st i) (metadata_ends m g st2 j) ∙ metadata_same h.metadata g.metadata
