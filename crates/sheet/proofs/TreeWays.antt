-- Fields, types and their children: one turn of each definition in the terms of the code.
use Prim.Native.Nat.{ℕ, zero, suc, ◌+◌, ◌-◌, ◌<◌, ◌≤◌}
use native.Mathlib.Omega.{arith}
use mathlib.Core.Path.{◌≡◌, refl, sym, ap, ◌∙◌}
use mathlib.Core.List.{List, [], ◌∷◌}
use mathlib.Core.Bool.{Bool, false}
use lib.ListN.{length}
use lib.Dec.{ltb}
use borrow.Author.Tests.{lt-ltb, le-leb, lt-leb}
use Rattle.model.specs.Numbers.{too_deep, max_sheet_bytes}
use Rattle.model.specs.Bytes.{Bytes, bit, choose}
use Rattle.model.specs.Tree.{Schema, DataType, Children, layout}
use Rattle.model.specs.Tree.Children.{fields, key_and_value}
use Rattle.model.specs.Read as read
use Rattle.model.specs.Read.{got, bad, Reader, next, judged, unless, ◌then◌, anything, at_most, map_fits, code_fits, if_set, read_list, read_column, read_schema, read_sheets, read_sheet, shifted, read_two, read_item, read_number, read_text, read_metadata, read_dict_id, read_many, read_field, read_bare_type, read_children, read_params, read_type}
use Rattle.model.proofs.Items.{number_law}
use Rattle.model.proofs.Places.{Inside, at_end, at_refusal, sheet_inside}
use Rattle.std.specs.Prelude.{Ok, Err}
use Rattle.sheet.specs.Answers.{Step, step_of, cursor_at}
use Rattle.sheet.specs.declared.Cursor.{Cursor}
use Rattle.sheet.specs.Shapes.{read_head, read_shape}
use Rattle.sheet.proofs.Ways.{step_is, step_no, step_made, next_next, next_alike}

-- A field's id does not show

pub field_any : (s : Bytes) (lim l : ℕ) (rt : Bool → Reader (DataType l)) (i j at : ℕ) → step_of (read_field s lim l rt i at) ≡ step_of (read_field s lim l rt j at)
unfolding read_field
field_any s lim l rt i j at =
    next_alike (read_number s lim 1 _ at) _ _ (λ m e. next_alike (if_set (bit 2 m) (read_text s lim 1) [] e) _ _ (λ n e. next_alike (if_set (bit 3 m) (read_metadata s lim) [] e) _ _ (λ d e.
    next_alike (if_set (bit 4 m) (read_dict_id s lim) 0 e) _ _ (λ k e. step_made _ (rt (bit 1 m) e) ∙ sym (step_made _ (rt (bit 1 m) e))))))

pub field_way : (r : Step) (s : Bytes) (lim l at : ℕ) → r ≡ step_of (next (read_number s lim 1 (map_fits l) at) (λ m e. next (read_head s lim m e) (λ d e. read_type s lim l (bit 1 m) e)))
    → r ≡ step_of (read_field s lim l (read_type s lim l) 0 at)
unfolding read_field read_head
field_way r s lim l at h =
    h ∙ next_alike (read_number s lim 1 (map_fits l) at) _ _ (λ m e.
    ap step_of (next_next (if_set (bit 2 m) (read_text s lim 1) [] e) _ _)
    ∙ next_alike (if_set (bit 2 m) (read_text s lim 1) [] e) _ _ (λ n e.
    ap step_of (next_next (if_set (bit 3 m) (read_metadata s lim) [] e) _ _)
    ∙ next_alike (if_set (bit 3 m) (read_metadata s lim) [] e) _ _ (λ d e. next_alike (if_set (bit 4 m) (read_dict_id s lim) 0 e) _ _ (λ k e.
    sym (step_made _ (read_type s lim l (bit 1 m) e))))))

-- So many of one kind, whatever was seen before

module _ {A : Type 0} (rd : Reader A) where
  many_seen : (n : ℕ) (seen seen' : List A) (at : ℕ) → step_of (read_many n (λ seen. rd) seen at) ≡ step_of (read_many n (λ seen. rd) seen' at)
  unfolding read_many
  many_seen zero seen seen' at = refl
  many_seen (suc n) seen seen' at = next_alike (rd at) _ _ (λ a e. step_made (λ r. a ∷ r) _ ∙ many_seen n (a ∷ seen) (a ∷ seen') e ∙ sym (step_made (λ r. a ∷ r) _))

  many_turn : (n at : ℕ) → step_of (read_many (suc n) (λ seen. rd) [] at) ≡ step_of (next (rd at) (λ a e. read_many n (λ seen. rd) [] e))
  unfolding read_many
  many_turn n at = next_alike (rd at) _ _ (λ a e. step_made (λ r. a ∷ r) _ ∙ many_seen n (a ∷ []) [] e)

  many_two : (at : ℕ) → step_of (read_many 2 (λ seen. rd) [] at) ≡ step_of (next (rd at) (λ a e. rd e))
  unfolding read_many
  many_two at = many_turn 1 at ∙ next_alike (rd at) _ _ (λ a e. many_turn 0 e ∙ step_made (λ b. []) (rd e))

  many_at : (n at : ℕ) → 0 < n → step_of (read_many n (λ seen. rd) [] at) ≡ step_of (next (rd at) (λ a e. read_many (n - 1) (λ seen. rd) [] e))
  many_at zero at h = absurd (omega (arith, h))
  many_at (suc n) at h = let w : suc n - 1 ≡ n = omega arith in many_turn n at ∙ ap (λ m. step_of (next (rd at) (λ a e. read_many m (λ seen. rd) [] e))) (sym w)

  module _ (place left : ℕ) (whole : Step) (inv : step_of (read_many left (λ seen. rd) [] place) ≡ whole) where
    pub many_done : left ≤ 0 → Ok place ≡ whole
    unfolding read_many
    many_done h = let z : left ≡ 0 = omega (arith, h) in ap (λ n. step_of (read_many n (λ seen. rd) [] place)) (sym z) ∙ inv

    module _ (more : 0 < left) (i : Step) (p : i ≡ step_of (rd place)) where
      abbrev rest : A → ℕ → read.Step (List A)
      rest a e = read_many (left - 1) (λ seen. rd) [] e

      pub many_stop : (k q : ℕ) → i ≡ Err (k, q) → i ≡ whole
      unfolding next
      many_stop k q h = h ∙ ap (λ g. step_of (next g rest)) (sym (step_no (rd place) p h)) ∙ sym (many_at left place more) ∙ inv

      pub many_again : (e : ℕ) → i ≡ Ok e → step_of (read_many (left - 1) (λ seen. rd) [] e) ≡ whole
      unfolding next
      many_again e h = ap (λ g. step_of (next g rest)) (sym (step_is (rd place) p h).1) ∙ sym (many_at left place more) ∙ inv

-- A type

deeper : (l : ℕ) (m : ℕ) → unless (ltb 0 (suc l)) 5 then m ≡ m
unfolding unless ◌then◌
deeper l m = ap (λ t. unless t 5 then m) (lt-ltb 0 (suc l) (omega arith))

too_deep_lem : (s : Bytes) (lim : ℕ) (o : Bool) (at : ℕ)
    → step_of (next (read_number s lim 1 anything at) (λ c e. next (judged (unless (ltb 0 0) 5 then code_fits o c) at c e) (λ c e. read_shape s lim (0 - 1) c e)))
    ≡ step_of (read_type s lim 0 o at)
unfolding read_type read_number unless ◌then◌ judged next
too_deep_lem s lim o at =
    ap step_of (next_next (read_item s lim 1 anything at) _ _) ∙ next_alike (read_item s lim 1 anything at) _ _ (λ b e. refl)

abbrev after : Bytes → ℕ → (l : ℕ) → ℕ → ℕ → read.Step (DataType (suc l))
after s lim l c e =
    next (read_params s lim (layout c).params e) λ ps e.
    next (read_children s lim l (read_type s lim l) (layout c).children e) λ ks e.
    got (record { code = c; params = ps; children = ks }) e

one_more : (s : Bytes) (lim l : ℕ) (o : Bool) (at : ℕ)
    → step_of (next (read_number s lim 1 anything at) (λ c e. next (judged (unless (ltb 0 (suc l)) 5 then code_fits o c) at c e) (λ c e. read_shape s lim (suc l - 1) c e)))
    ≡ step_of (read_type s lim (suc l) o at)
unfolding read_type read_shape
one_more s lim l o at =
    next_alike (read_number s lim 1 anything at) _ _ (λ c e.
    ap (λ m. step_of (next (judged m at c e) (λ c e. read_shape s lim (suc l - 1) c e))) (deeper l (code_fits o c))
    ∙ next_alike (judged (code_fits o c) at c e) _ _ (λ c e.
    let w : suc l - 1 ≡ l = omega arith in
    ap (λ m. step_of (read_shape s lim m c e)) w
    ∙ next_alike (read_params s lim (layout c).params e) _ _ (λ ps e. sym (step_made _ (read_children s lim l (read_type s lim l) (layout c).children e)))))
    ∙ ap step_of (sym (next_next (read_number s lim 1 anything at) _ _))
    ∙ ap (λ g. step_of (next g (after s lim l))) (sym (number_law s lim 1 (code_fits o) at))

-- where no level is left, and where one is, in one form
pub type_way : (r : Step) (s : Bytes) (lim l : ℕ) (o : Bool) (at : ℕ)
    → r ≡ step_of (next (read_number s lim 1 anything at) (λ c e. next (judged (unless (ltb 0 l) too_deep then code_fits o c) at c e) (λ c e. read_shape s lim (l - 1) c e)))
    → r ≡ step_of (read_type s lim l o at)
unfolding read_type
type_way r s lim zero o at h = h ∙ too_deep_lem s lim o at
type_way r s lim (suc l) o at h = h ∙ one_more s lim l o at

-- Children by their kind

pub children_way : (r : Step) (s : Bytes) (lim l at code : ℕ) (k : Children) → k ≡ (layout code).children → r ≡ step_of (read_children s lim l (read_type s lim l) k at)
    → r ≡ step_of (read_children s lim l (read_type s lim l) (layout code).children at)
children_way r s lim l at code k h t = t ∙ ap (λ c. step_of (read_children s lim l (read_type s lim l) c at)) h

-- a Dictionary's two types
pub dictionary_way : (r : Step) (s : Bytes) (lim l at : ℕ) → r ≡ step_of (next (read_type s lim l false at) (λ t e. read_type s lim l false e))
    → r ≡ step_of (read_children s lim l (read_type s lim l) key_and_value at)
unfolding read_children read_bare_type next
dictionary_way r s lim l at h =
    h ∙ next_alike (read_type s lim l false at) _ _ (λ t e. sym (step_made _ (read_type s lim l false e)))
    ∙ ap step_of (sym (next_next (read_type s lim l false at) _ (λ a e. read_bare_type s lim l (read_type s lim l) e)))
    ∙ sym (many_two (read_bare_type s lim l (read_type s lim l)) at)

pub fields_way : (r : Step) (s : Bytes) (lim l n at : ℕ) → r ≡ step_of (read_many n (λ seen. read_field s lim l (read_type s lim l) 0) [] at)
    → r ≡ step_of (read_children s lim l (read_type s lim l) (fields n) at)
unfolding read_children
fields_way r s lim l n at h = h

-- no field is no byte, one field is read as that field alone
pub no_children : (s : Bytes) (lim l at : ℕ) → Ok at ≡ step_of (read_children s lim l (read_type s lim l) (fields 0) at)
unfolding read_children read_many
no_children s lim l at = refl

pub no_field_way : (s : Bytes) (lim l n at : ℕ) → n ≡ 0 → Ok at ≡ step_of (read_children s lim l (read_type s lim l) (fields n) at)
no_field_way s lim l n at e = no_children s lim l at ∙ ap (λ k. step_of (read_children s lim l (read_type s lim l) (fields k) at)) (sym e)

pub one_child : (r : Step) (s : Bytes) (lim l at : ℕ) → r ≡ step_of (read_field s lim l (read_type s lim l) 0 at) → r ≡ step_of (read_children s lim l (read_type s lim l) (fields 1) at)
unfolding read_children read_many next
one_child r s lim l at h = h ∙ sym (step_made (λ f. f ∷ []) (read_field s lim l (read_type s lim l) 0 at))

pub one_field_way : (r : Step) (s : Bytes) (lim l n at : ℕ) → n ≡ 1 → r ≡ step_of (read_field s lim l (read_type s lim l) 0 at)
    → r ≡ step_of (read_children s lim l (read_type s lim l) (fields n) at)
one_field_way r s lim l n at e h = one_child r s lim l at h ∙ ap (λ k. step_of (read_children s lim l (read_type s lim l) (fields k) at)) (sym e)

-- A sheet

pub schema_way : (r : Step) (s : Bytes) (lim at : ℕ)
    → r ≡ step_of (next (read_number s lim 1 (at_most 3) at) (λ m e. next (if_set (bit 0 m) (read_metadata s lim) [] e) (λ d e. if_set (bit 1 m) (read_list s lim 1 (λ seen. read_column s lim)) [] e)))
    → r ≡ step_of (read_schema s lim at)
unfolding read_schema
schema_way r s lim at h =
    h ∙ next_alike (read_number s lim 1 (at_most 3) at) _ _ (λ m e. next_alike (if_set (bit 0 m) (read_metadata s lim) [] e) _ _ (λ d e. sym (step_made _ (if_set (bit 1 m) (read_list s lim 1 (λ seen. read_column s lim)) [] e))))

-- A train

sheets_end : (s : Bytes) (n at : ℕ) → length s ≤ at → read_sheets s n at ≡ got [] at
unfolding read_sheets choose
sheets_end s zero at h = rw (le-leb (length s) at h)
sheets_end s (suc n) at h = rw (le-leb (length s) at h)

sheets_full : (s : Bytes) (at : ℕ) → at < length s → read_sheets s 0 at ≡ bad 33 at
unfolding read_sheets choose
sheets_full s at h = rw (lt-leb (length s) at h)

sheets_turn : (s : Bytes) (n at : ℕ) → at < length s → 0 < n → step_of (read_sheets s n at) ≡ step_of (next (read_schema s (at + max_sheet_bytes) at) (λ x e. read_sheets s (n - 1) e))
unfolding read_sheets choose
sheets_turn s zero at h k = absurd (omega (arith, k))
sheets_turn s (suc n) at h k =
    let w : suc n - 1 ≡ n = omega arith in
    rw (lt-leb (length s) at h)
    (next_alike (read_schema s (at + max_sheet_bytes) at) _ _ (λ x e. step_made (λ xs. x ∷ xs) (read_sheets s n e)) ∙ ap (λ m. step_of (next (read_schema s (at + max_sheet_bytes) at) (λ x e. read_sheets s m e))) (sym w))

module _ (s : Bytes) (left at : ℕ) (whole : Step) (inv : step_of (read_sheets s left at) ≡ whole) where
  pub train_done : length s ≤ at → Ok at ≡ whole
  train_done h = sym (ap step_of (sheets_end s left at h)) ∙ inv

  module _ (more : at < length s) where
    pub train_full : left ≤ 0 → Err (33, at) ≡ whole
    train_full k = let z : left ≡ 0 = omega (arith, k) in sym (ap (λ n. step_of (read_sheets s n at)) z ∙ ap step_of (sheets_full s at more)) ∙ inv

    module _ (some : 0 < left) (i : Step) (p : i ≡ step_of (read_schema s (at + max_sheet_bytes) at)) where
      abbrev others : Schema → ℕ → read.Step (List Schema)
      others x e = read_sheets s (left - 1) e

      pub train_stop : (k q : ℕ) → i ≡ Err (k, q) → i ≡ whole
      unfolding next
      train_stop k q h = h ∙ ap (λ g. step_of (next g others)) (sym (step_no (read_schema s (at + max_sheet_bytes) at) p h)) ∙ sym (sheets_turn s left at more some) ∙ inv

      pub train_again : (e : ℕ) → i ≡ Ok e → step_of (read_sheets s (left - 1) e) ≡ whole
      unfolding next
      train_again e h = ap (λ g. step_of (next g others)) (sym (step_is (read_schema s (at + max_sheet_bytes) at) p h).1) ∙ sym (sheets_turn s left at more some) ∙ inv

-- a sheet read from a cursor at its first byte
pub from_cursor : (s : Bytes) (place : ℕ) (c : Cursor) (i : Step) → c ≡ cursor_at place → i ≡ step_of (read_schema s c.limit c.at) → i ≡ step_of (read_schema s (place + max_sheet_bytes) place)
from_cursor s place c i e h = h ∙ ap (λ (c : Cursor). step_of (read_schema s c.limit c.at)) e

-- Two sheets

-- where the reading of a sheet stops lies inside it
pub sheet_ends : (s : Bytes) (i : Step) (e : ℕ) → i ≡ step_of (read_sheet s) → i ≡ Ok e → e ≤ length s
sheet_ends s i e p h = go (read_sheet s) (step_is (read_sheet s) p h).1 (sheet_inside s)
  where
    go : (g : read.Step Schema) {x : Schema} → g ≡ got x e → Inside (length s) g → e ≤ length s
    go g q (at_end {e = m} w) = let z : m ≡ e = cc in omega (arith, w, z)
    go g q (at_refusal w) = let z : ◌≡◌ {A = ℕ} 0 1 = cc in absurd (omega arith)

pub sheet_stops : (s : Bytes) (i : Step) (k p : ℕ) → i ≡ step_of (read_sheet s) → i ≡ Err (k, p) → p ≤ length s
sheet_stops s i k p q h = go (read_sheet s) (step_no (read_sheet s) q h) (sheet_inside s)
  where
    go : (g : read.Step Schema) → g ≡ bad k p → Inside (length s) g → p ≤ length s
    go g q (at_end w) = let z : ◌≡◌ {A = ℕ} 0 1 = cc in absurd (omega arith)
    go g q (at_refusal {p = m} w) = let z : m ≡ p = cc in omega (arith, w, z)

abbrev second : Bytes → Bytes → Schema → ℕ → read.Step (Schema × Schema)
second s t x e = next (shifted (length s) (read_sheet t)) (λ y e. got (x, y) e)

abbrev both : Schema → Schema → Schema × Schema
both x y = (x, y)

module _ (s t : Bytes) (i j : Step) (m : ℕ) (p : i ≡ step_of (read_sheet s)) (h : i ≡ Ok m) (q : j ≡ step_of (read_sheet t)) where
  two_first : step_of (shifted (length s) (read_sheet t)) ≡ step_of (read_two s t)
  unfolding read_two next
  two_first =
      let (x, w) = step_is (read_sheet s) p h in
      sym (step_made (both x) (shifted (length s) (read_sheet t))) ∙ ap (λ g. step_of (next g (second s t))) (sym w)

  pub two_done : (e : ℕ) → j ≡ Ok e → Ok (length s + e) ≡ step_of (read_two s t)
  unfolding shifted
  two_done e k = ap (λ g. step_of (shifted (length s) g)) (sym (step_is (read_sheet t) q k).1) ∙ two_first

  pub two_stop : (k n : ℕ) → j ≡ Err (k, n) → Err (k, length s + n) ≡ step_of (read_two s t)
  unfolding shifted
  two_stop k n w = ap (λ g. step_of (shifted (length s) g)) (sym (step_no (read_sheet t) q w)) ∙ two_first

pub two_refused : (s t : Bytes) (i : Step) (k n : ℕ) → i ≡ step_of (read_sheet s) → i ≡ Err (k, n) → i ≡ step_of (read_two s t)
unfolding read_two next
two_refused s t i k n p h = h ∙ ap (λ g. step_of (next g (second s t))) (sym (step_no (read_sheet s) p h))
