-- Two steps that give the same value or the same number, at places that are related: a law for each combinator of reading. So bytes are read
-- alike wherever they stand, behind whatever other bytes.
use Prim.Native.Nat.{ℕ, zero, suc, ◌+◌}
use native.Mathlib.Omega.{arith}
use mathlib.Core.Path.{◌≡◌, refl, sym, ap, subst, ◌∙◌}
use mathlib.Core.List.{List, [], ◌∷◌}
use mathlib.Core.Bool.{Bool, true, false}
use lib.ListN.{length, take, drop}
use lib.Dec.{leb}
use borrow.Author.Tests.{leb-true, le-leb}
use Rattle.model.specs.Numbers.{max_levels, max_sheet_bytes, ends_inside, sheet_too_long}
use Rattle.model.specs.Bytes.{Bytes, Metadata, choose, num, bit}
use Rattle.model.specs.Tree.{DataType, Field, Schema, Params, items, timestamp, Children, fields, key_and_value, counted, counted_with_ids, layout}
use Rattle.model.specs.Read.{Step, got, bad, Reader, next, judged, if_set, unless, ◌then◌, read_many, read_item, read_number, read_text, read_pair, read_list, read_metadata, read_dict_id, read_field, read_bare_type, read_union_child, read_children, read_zone, read_params, read_type, read_column, read_schema, read_sheets}
use Rattle.model.proofs.SameBytes.{by_truth}

-- the same value or the same number, where R relates the places
pub data Alike {A : Type 0} (R : ℕ → ℕ → Type 0) : Step A → Step A → Type 0 where
  value : {a : A} {e e' : ℕ} → R e e' → Alike R (got a e) (got a e')
  refusal : {n p p' : ℕ} → R p p' → Alike R (bad n p) (bad n p')

module _ {R : ℕ → ℕ → Type 0} where
  pub next_alike : {A B : Type 0} {r r' : Step A} {f f' : A → ℕ → Step B} → Alike R r r' → ((a : A) (e e' : ℕ) → R e e' → Alike R (f a e) (f' a e'))
      → Alike R (next r f) (next r' f')
  unfolding next
  next_alike (value {a} {e} {e'} h) k = k a e e' h
  next_alike (refusal h) k = refusal h

  pub judged_alike : {A : Type 0} {n n' : ℕ} {a a' : A} (p p' e e' : ℕ) → n ≡ n' → a ≡ a' → R p p' → (n ≡ 0 → R e e') → Alike R (judged n p a e) (judged n' p' a' e')
  unfolding judged
  judged_alike {n = n} {a = a} {a'} p p' e e' i j h k =
      subst (λ m. Alike R (judged n p a e) (judged m p' a' e')) i (subst (λ b. Alike R (judged n p a e) (judged n p' b e')) j (go n k))
    where
      go : (m : ℕ) → (m ≡ 0 → R e e') → Alike R (judged m p a e) (judged m p' a e')
      go zero k = value (k refl)
      go (suc m) k = refusal h

  pub choose_alike : {A : Type 0} {b b' : Bool} (x x' y y' : Unit {0} → Step A) → b ≡ b' → Alike R (x tt) (x' tt) → Alike R (y tt) (y' tt)
      → Alike R (choose b x y) (choose b' x' y')
  unfolding choose
  choose_alike {b = b} x x' y y' i h k = subst (λ c. Alike R (choose b x y) (choose c x' y')) i (go b)
    where
      go : (c : Bool) → Alike R (choose c x y) (choose c x' y')
      go true = h
      go false = k

  pub set_alike : {A : Type 0} (b : Bool) (r r' : Reader A) (a : A) (p p' : ℕ) → R p p' → Alike R (r p) (r' p') → Alike R (if_set b r a p) (if_set b r' a p')
  unfolding if_set
  set_alike true r r' a p p' h k = k
  set_alike false r r' a p p' h k = value h

  pub many_alike : {A : Type 0} (one one' : List A → Reader A) → ((seen : List A) (p p' : ℕ) → R p p' → Alike R (one seen p) (one' seen p'))
      → (n : ℕ) (seen : List A) (p p' : ℕ) → R p p' → Alike R (read_many n one seen p) (read_many n one' seen p')
  unfolding read_many
  many_alike one one' k zero seen p p' h = value h
  many_alike one one' k (suc n) seen p p' h =
      next_alike (k seen p p' h) λ a m m' h.
      next_alike (many_alike one one' k n (a ∷ seen) m m' h) λ rest e e' h. value h

-- A law for every reading of a sheet: two are alike where items are, in whatever bytes and at whatever places
module _ (s s' : Bytes) (limit limit' : ℕ) (R : ℕ → ℕ → Type 0)
    (item-alike : (k : ℕ) (fits : Bytes → ℕ) (p p' : ℕ) → R p p' → Alike R (read_item s limit k fits p) (read_item s' limit' k fits p')) where
  number_alike : (k : ℕ) (fits : ℕ → ℕ) (p p' : ℕ) → R p p' → Alike R (read_number s limit k fits p) (read_number s' limit' k fits p')
  unfolding read_number
  number_alike k fits p p' h = next_alike (item-alike k _ p p' h) λ b e e' h. value h

  text_alike : (least p p' : ℕ) → R p p' → Alike R (read_text s limit least p) (read_text s' limit' least p')
  unfolding read_text
  text_alike least p p' h = next_alike (number_alike 2 _ p p' h) λ k m m' h. item-alike k _ m m' h

  pair_alike : (seen : Metadata) (p p' : ℕ) → R p p' → Alike R (read_pair s limit seen p) (read_pair s' limit' seen p')
  unfolding read_pair
  pair_alike seen p p' h =
      next_alike (text_alike 0 p p' h) λ k m m' i.
      next_alike (judged_alike p p' m m' refl refl h λ z. i) λ k m m' i.
      next_alike (text_alike 0 m m' i) λ v e e' h. value h

  list_alike : {A : Type 0} (least : ℕ) (one one' : List A → Reader A) → ((seen : List A) (p p' : ℕ) → R p p' → Alike R (one seen p) (one' seen p'))
      → (p p' : ℕ) → R p p' → Alike R (read_list s limit least one p) (read_list s' limit' least one' p')
  unfolding read_list
  list_alike least one one' k p p' h = next_alike (number_alike 2 _ p p' h) λ c m m' h. many_alike one one' k c [] m m' h

  metadata_alike : (p p' : ℕ) → R p p' → Alike R (read_metadata s limit p) (read_metadata s' limit' p')
  unfolding read_metadata
  metadata_alike p p' h = list_alike 1 _ _ pair_alike p p' h

  dict_id_alike : (p p' : ℕ) → R p p' → Alike R (read_dict_id s limit p) (read_dict_id s' limit' p')
  unfolding read_dict_id
  dict_id_alike p p' h = number_alike 8 _ p p' h

  module _ (l : ℕ) (read_type readType' : Bool → Reader (DataType l))
      (type_alike : (o : Bool) (p p' : ℕ) → R p p' → Alike R (read_type o p) (readType' o p')) where
    field_alike : (i p p' : ℕ) → R p p' → Alike R (read_field s limit l read_type i p) (read_field s' limit' l readType' i p')
    unfolding read_field
    field_alike i p p' h =
        next_alike (number_alike 1 _ p p' h) λ m e₁ e₁' h.
        next_alike (set_alike _ _ _ _ _ _ h (text_alike 1 e₁ e₁' h)) λ t e₂ e₂' h.
        next_alike (set_alike _ _ _ _ _ _ h (metadata_alike e₂ e₂' h)) λ d e₃ e₃' h.
        next_alike (set_alike _ _ _ _ _ _ h (dict_id_alike e₃ e₃' h)) λ k e₄ e₄' h.
        next_alike (type_alike (bit 1 m) e₄ e₄' h) λ t e e' h. value h

    bare_alike : (p p' : ℕ) → R p p' → Alike R (read_bare_type s limit l read_type p) (read_bare_type s' limit' l readType' p')
    unfolding read_bare_type
    bare_alike p p' h = next_alike (type_alike false p p' h) λ t e e' h. value h

    child_alike : (seen : List (Field l)) (p p' : ℕ) → R p p' → Alike R (read_union_child s limit l read_type seen p) (read_union_child s' limit' l readType' seen p')
    unfolding read_union_child
    child_alike seen p p' h = next_alike (number_alike 1 _ p p' h) λ i m m' h. field_alike i m m' h

    children_alike : (k : Children) (p p' : ℕ) → R p p' → Alike R (read_children s limit l read_type k p) (read_children s' limit' l readType' k p')
    unfolding read_children
    children_alike (fields c) p p' h = many_alike _ _ (λ seen p p' h. field_alike 0 p p' h) c [] p p' h
    children_alike key_and_value p p' h = many_alike _ _ (λ seen p p' h. bare_alike p p' h) 2 [] p p' h
    children_alike counted p p' h = list_alike 0 _ _ (λ seen p p' h. field_alike 0 p p' h) p p' h
    children_alike counted_with_ids p p' h = list_alike 0 _ _ child_alike p p' h

  zone_alike : (p p' : ℕ) → R p p' → Alike R (read_zone s limit p) (read_zone s' limit' p')
  unfolding read_zone
  zone_alike p p' h = next_alike (item-alike 2 _ p p' h) λ b m m' h. next_alike (item-alike (num b) _ m m' h) λ t e e' h. value h

  params_alike : (k : Params) (p p' : ℕ) → R p p' → Alike R (read_params s limit k p) (read_params s' limit' k p')
  unfolding read_params
  params_alike (items []) p p' h = value h
  params_alike (items (i ∷ is)) p p' h =
      next_alike (item-alike i.0 _ p p' h) λ b m m' h. next_alike (params_alike (items is) m m' h) λ r e e' h. value h
  params_alike timestamp p p' h =
      next_alike (item-alike 1 _ p p' h) λ u m₁ m₁' h.
      next_alike (item-alike 1 _ m₁ m₁' h) λ m m₂ m₂' h.
      next_alike (set_alike _ _ _ _ _ _ h (zone_alike m₂ m₂' h)) λ z e e' h. value h

  type_alike : (l : ℕ) (o : Bool) (p p' : ℕ) → R p p' → Alike R (read_type s limit l o p) (read_type s' limit' l o p')
  unfolding read_type
  type_alike zero o p p' h = next_alike (item-alike 1 _ p p' h) λ b e e' i. refusal h
  type_alike (suc l) o p p' h =
      next_alike (number_alike 1 _ p p' h) λ c m m' h.
      next_alike (params_alike (layout c).params m m' h) λ ps m₁ m₁' h.
      next_alike (children_alike l _ _ (λ o p p' h. type_alike l o p p' h) (layout c).children m₁ m₁' h) λ ks e e' h. value h

  column_alike : (p p' : ℕ) → R p p' → Alike R (read_column s limit p) (read_column s' limit' p')
  unfolding read_column
  column_alike p p' h = field_alike max_levels _ _ (λ o p p' h. type_alike max_levels o p p' h) 0 p p' h

  -- what follows a sheet's map
  pub schema_rest_alike : (m p p' : ℕ) → R p p'
      → Alike {A = Schema} R
      (next (if_set (bit 0 m) (read_metadata s limit) [] p) λ d e.
      next (if_set (bit 1 m) (read_list s limit 1 λ seen. read_column s limit) [] e) λ cs e.
      got (record { metadata = d; columns = cs }) e)
      (next (if_set (bit 0 m) (read_metadata s' limit') [] p') λ d e.
      next (if_set (bit 1 m) (read_list s' limit' 1 λ seen. read_column s' limit') [] e) λ cs e.
      got (record { metadata = d; columns = cs }) e)
  schema_rest_alike m p p' h =
      next_alike (set_alike _ _ _ _ _ _ h (metadata_alike p p' h)) λ d e e' h.
      next_alike (set_alike _ _ _ _ _ _ h (list_alike 1 _ _ (λ seen p p' h. column_alike p p' h) e e' h)) λ cs e e' h. value h

  -- a sheet
  pub schema_alike : (p p' : ℕ) → R p p' → Alike R (read_schema s limit p) (read_schema s' limit' p')
  unfolding read_schema
  schema_alike p p' h = next_alike (number_alike 1 _ p p' h) λ m e e' h. schema_rest_alike m e e' h

-- Bytes that stand in others

-- so many bytes on
abbrev pub Moved : ℕ → ℕ → ℕ → Type 0
Moved n e e' = e' ≡ n + e

-- a test of two numbers, both moved
moved_leb : (n a b : ℕ) {a' b' : ℕ} → Moved n a a' → Moved n b b' → leb a b ≡ leb a' b'
moved_leb n a b {a'} {b'} h k =
    by_truth (leb a b) (leb a' b') (λ t. le-leb a' b' (omega (arith, leb-true a b t, h, k))) λ t. le-leb a b (omega (arith, leb-true a' b' t, h, k))

-- the bytes s stand in s' from place n on, to the end
module _ (s s' : Bytes) (n : ℕ) (standing : (p : ℕ) → drop (n + p) s' ≡ drop p s) (longer : Moved n (length s) (length s')) where
  moved_item : (limit limit' : ℕ) → Moved n limit limit' → (k : ℕ) (fits : Bytes → ℕ) (p p' : ℕ) → Moved n p p'
      → Alike (Moved n) (read_item s limit k fits p) (read_item s' limit' k fits p')
  unfolding read_item
  moved_item limit limit' further k fits p p' h =
      let b : take k (drop p s) ≡ take k (drop p' s') = ap (take k) (sym (standing p) ∙ ap (λ q. drop q s') (sym h)) in
      let e : Moved n (p + k) (p' + k) = omega (arith, h) in
      let i : leb (p + k) (length s) ≡ leb (p' + k) (length s') = moved_leb n (p + k) (length s) e longer in
      let j : leb (p + k) limit ≡ leb (p' + k) limit' = moved_leb n (p + k) limit e further in
      judged_alike p p' (p + k) (p' + k)
      (ap (λ t. unless t ends_inside then unless (leb (p + k) limit) sheet_too_long then fits (take k (drop p s))) i
      ∙ ap (λ t. unless (leb (p' + k) (length s')) ends_inside then unless t sheet_too_long then fits (take k (drop p s))) j
      ∙ ap (λ c. unless (leb (p' + k) (length s')) ends_inside then unless (leb (p' + k) limit') sheet_too_long then fits c) b) b h λ z. e

  -- the sheets of a train, at most so many
  pub sheets_alike : (k p p' : ℕ) → Moved n p p' → Alike (Moved n) (read_sheets s k p) (read_sheets s' k p')
  unfolding read_sheets
  sheets_alike zero p p' h = choose_alike _ _ _ _ (moved_leb n (length s) p longer h) (value h) (refusal h)
  sheets_alike (suc k) p p' h =
      choose_alike _ _ _ _ (moved_leb n (length s) p longer h) (value h)
      (next_alike (schema_alike s s' (p + max_sheet_bytes) (p' + max_sheet_bytes) (Moved n) (moved_item (p + max_sheet_bytes) (p' + max_sheet_bytes) (omega (arith, h))) p p' h) λ x e e' h.
      next_alike (sheets_alike k e e' h) λ xs e e' h. value h)
