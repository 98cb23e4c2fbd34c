-- Two heads are equal but for the order flag and the dictionary number just if their maps are in the other bits, and the bytes behind the maps are equal.
use Prim.Native.Nat.{◌+◌, ◌*◌, ◌/◌, ◌%◌}
use native.Mathlib.Omega.{arith}
use mathlib.Core.Path.{◌≡◌, refl, sym, ap, ◌∙◌}
use mathlib.Core.List.{◌++◌}
use mathlib.Core.Bool.{Bool, true, false, not, ◌&&◌, beq, false≢true}
use Rattle.model.specs.Bytes.{Bytes, same_bytes, flag}
use Rattle.model.specs.Tree.{Head}
use Rattle.model.specs.Sheet.{head_map, part, stands, with_count, text_bytes, pair_bytes}
use Rattle.model.specs.Equal.{same_metadata}
use Rattle.model.proofs.Lists.{and_true, beq_eq}
use Rattle.model.proofs.MapBits.{flag_one, quarters}
use Rattle.model.proofs.ByteStrings.{same_bytes_eq, same_bytes_refl}
use Rattle.model.proofs.Equivalences.{metadata_equivalence}
use Rattle.model.proofs.SameBytes.{by_truth, not_true, name_split, part_equal, metadata_same_eq}
use Rattle.datatype.specs.Comparisons.{same_head}

-- the bytes of a head between its map and its dictionary number
abbrev pub rest_of : Head → Bytes
rest_of h = part text_bytes h.name ++ part (with_count pair_bytes) h.metadata

pub flag_equal : (a b : Bool) → flag 1 a ≡ flag 1 b → a ≡ b
flag_equal true true h = refl
flag_equal true false h = absurd (omega (arith, h))
flag_equal false true h = absurd (omega (arith, h))
flag_equal false false h = refl

pub beq_of : (a b : Bool) → a ≡ b → beq a b ≡ true
beq_of true true e = refl
beq_of true false e = sym e
beq_of false true e = e
beq_of false false e = refl

-- what a test of two flags says
pub equal : (a b : Bool) → not (beq a b) ≡ false → a ≡ b
equal true true h = refl
equal true false h = absurd (false≢true (sym h))
equal false true h = absurd (false≢true (sym h))
equal false false h = refl

pub unequal : (a b : Bool) → not (beq a b) ≡ true → a ≡ b → ⊥
unequal a b h e = false≢true (sym (ap not (beq_of a b e)) ∙ h)

-- the bits of name and metadata
high_form : (h : Head) → head_map h / 4 % 4 ≡ flag 1 (stands h.name) + 2 * flag 1 (stands h.metadata)
high_form h = let q = quarters h in omega (arith, q, flag_one 1 (stands h.name), flag_one 1 (stands h.metadata))

module _ (h g : Head) where
  high : head_map h / 4 % 4 ≡ head_map g / 4 % 4 → (stands h.name ≡ stands g.name) × (stands h.metadata ≡ stands g.metadata)
  high e =
      let w : flag 1 (stands h.name) + 2 * flag 1 (stands h.metadata) ≡ flag 1 (stands g.name) + 2 * flag 1 (stands g.metadata) = sym (high_form h) ∙ e ∙ high_form g in (
        flag_equal _ _ (omega (arith, w, flag_one 1 (stands h.name), flag_one 1 (stands g.name), flag_one 1 (stands h.metadata), flag_one 1 (stands g.metadata))),
        flag_equal _ _ (omega (arith, w, flag_one 1 (stands h.name), flag_one 1 (stands g.name), flag_one 1 (stands h.metadata), flag_one 1 (stands g.metadata))),
      )

  high_of : h.name ≡ g.name → h.metadata ≡ g.metadata → head_map h / 4 % 4 ≡ head_map g / 4 % 4
  high_of e f =
      high_form h ∙ ap (λ n. flag 1 (stands n) + 2 * flag 1 (stands h.metadata)) e ∙ ap (λ m. flag 1 (stands g.name) + 2 * flag 1 (stands m)) f ∙ sym (high_form g)

  -- what equal heads have in common
  head_facts : same_head h g ≡ true → (h.name ≡ g.name) × (h.nullable ≡ g.nullable) × (h.metadata ≡ g.metadata)
  unfolding same_head
  head_facts e =
      let (p, m) = and_true _ _ e in
      let (n, b) = and_true _ _ p in
      (same_bytes_eq h.name g.name n, beq_eq _ _ b, metadata_same_eq h.metadata g.metadata m)

  head_same : h.name ≡ g.name → h.nullable ≡ g.nullable → h.metadata ≡ g.metadata → same_head h g ≡ true
  unfolding same_head
  head_same n b m =
      ap (λ x. x && beq h.nullable g.nullable && same_metadata h.metadata g.metadata) (ap (λ z. same_bytes h.name z) (sym n) ∙ same_bytes_refl h.name)
      ∙ ap (λ x. x && same_metadata h.metadata g.metadata) (beq_of h.nullable g.nullable b)
      ∙ ap (λ z. same_metadata h.metadata z) (sym m) ∙ metadata_equivalence.self h.metadata

  -- the maps differ in the lowest bit
  pub heads_low : (h.nullable ≡ g.nullable → ⊥) → false ≡ same_head h g
  heads_low f = not_true _ λ e. f (head_facts e).1

  -- the maps differ in the bits of name and metadata
  pub heads_high : (head_map h / 4 % 4 ≡ head_map g / 4 % 4 → ⊥) → false ≡ same_head h g
  heads_high f = not_true _ λ e. f (high_of (head_facts e).0 (head_facts e).2)

  -- else the bytes behind the maps decide
  pub heads_rest : h.nullable ≡ g.nullable → head_map h / 4 % 4 ≡ head_map g / 4 % 4 → same_bytes (rest_of h) (rest_of g) ≡ same_head h g
  heads_rest e f =
      by_truth _ _
      (λ t.
      let (p, q) = high f in
      let (n, r) = name_split h.name g.name _ _ p (same_bytes_eq (rest_of h) (rest_of g) t) in
      head_same n e (part_equal h.metadata g.metadata q r))
      λ t.
      let (n, b, m) = head_facts t in
      ap (λ z. same_bytes (rest_of h) z)
      (sym (ap (λ z. part text_bytes z ++ part (with_count pair_bytes) h.metadata) n ∙ ap (λ z. part text_bytes g.name ++ part (with_count pair_bytes) z) m))
      ∙ same_bytes_refl (rest_of h)
