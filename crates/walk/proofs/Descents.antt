-- From a part of a sheet to the parts in it, by the places that the code's steps give: what a caller of `walk` goes down with.
use Prim.Native.Nat.{ℕ, suc, ◌+◌, ◌/◌, ◌%◌}
use native.Mathlib.Omega.{arith}
use mathlib.Core.Path.{◌≡◌, refl, sym, ap, subst, ◌∙◌}
use mathlib.Core.List.{List, [], ◌∷◌, ◌++◌}
use mathlib.Core.Bool.{true, false, false≢true}
use lib.ListN.{length, get_or}
use lib.Dec.{eqb}
use borrow.Author.Tests.{eq-eqb, ne_eqb}
use Rattle.model.specs.Bytes.{Bytes, u16, flag}
use Rattle.model.specs.Tree.{Head, DataType, Field, layout}
use Rattle.model.specs.Sheet.{front_bytes, each, part, stands, with_count, pair_bytes, text_bytes, head_bytes, field_bytes, children_bytes, type_bytes}
use Rattle.model.specs.WellFormed.{WellFormedParams, LaidOut}
use Rattle.model.proofs.Lists.{each_append}
use Rattle.walk.specs.Stands.{Stands, Skips}
use Rattle.walk.proofs.Standing.{first_stands, byte_stands, two_stands, num_u16, stands_behind, skip_ahead}
use Rattle.walk.proofs.Parts.{Ahead, two_at, front_stands, map_stands}
use Rattle.model.proofs.MapBits.{nullable_bit, name_set}

module _ {s : Bytes} {place : ℕ} where
  -- Fields

  pub head_stands : (l : ℕ) (f : Field l) → Stands s place (field_bytes (type_bytes l) f) → Stands s place (head_bytes f.head)
  unfolding field_bytes
  head_stands l f st = first_stands (head_bytes f.head) (type_bytes l f.data_type) st

  -- a field's type stands behind its head
  pub type_stands : (l : ℕ) (f : Field l) {m : ℕ} → ((h : Head) → Skips s place (head_bytes h) m) → Stands s place (field_bytes (type_bytes l) f) → Stands s m (type_bytes l f.data_type)
  unfolding field_bytes
  type_stands l f g st = stands_behind (g f.head) st

  -- What a head says, by its map

  module _ {map : ℕ} (e : map ≡ get_or s place 0) where
    pub nullable_stands : (h : Head) → Stands s place (head_bytes h) → map % 2 ≡ flag 1 h.nullable
    nullable_stands h st = ap (λ m. m % 2) (map_stands e h st) ∙ nullable_bit h

    named : (h : Head) → Stands s place (head_bytes h) → eqb (map / 4 % 2) 1 ≡ stands h.name
    named h st = ap (λ m. eqb (m / 4 % 2) 1) (map_stands e h st) ∙ name_set h

    -- a name stands behind the map
    pub name_stands : {text : ℕ} → map / 4 % 2 ≡ 1 → Ahead s place 1 text → (h : Head) → Stands s place (head_bytes h) → Stands s text (text_bytes h.name)
    unfolding front_bytes
    name_stands {text} b a h st = go h.name (sym (named h st) ∙ eq-eqb _ 1 b) (stands_behind (skip_ahead (_ ∷ []) refl a.1) (front_stands h st))
      where
        go : (m : Bytes) → stands m ≡ true → Stands s text (part text_bytes m ++ part (with_count pair_bytes) h.metadata) → Stands s text (text_bytes m)
        go [] i u = absurd (false≢true i)
        go (x ∷ m) i u = first_stands (text_bytes (x ∷ m)) _ u

    -- without its bit it is empty
    pub no_name : (map / 4 % 2 ≡ 1 → ⊥) → (h : Head) → Stands s place (head_bytes h) → h.name ≡ []
    no_name b h st = go h.name (sym (named h st) ∙ ne_eqb _ 1 b)
      where
        go : (m : Bytes) → stands m ≡ false → m ≡ []
        go [] i = refl
        go (x ∷ m) i = absurd (false≢true (sym i))

  -- the body of a text
  pub body_stands : (t : Bytes) {body : ℕ} → Ahead s place 2 body → Stands s place (text_bytes t) → (body ≡ place + 2) × Stands s body t
  unfolding text_bytes u16
  body_stands t a st = (a.1 (omega (arith, st.inside)), stands_behind (skip_ahead (u16 (length t)) refl a.1) st)

  -- Types

  pub code_stands : (l : ℕ) (t : DataType (suc l)) → Stands s place (type_bytes (suc l) t) → get_or s place 0 ≡ t.code
  unfolding type_bytes
  code_stands l t st = byte_stands st

  -- a type's children stand behind its code and its parameters
  pub children_stand : (l : ℕ) (t : DataType (suc l)) (code : ℕ) {params m : ℕ} → code ≡ get_or s place 0 → Ahead s place 1 params
      → ((b : Bytes) → WellFormedParams (layout code).params b → Skips s params b m)
      → LaidOut (suc l) t → Stands s place (type_bytes (suc l) t) → Stands s m (children_bytes (type_bytes l) (layout t.code).children t.children)
  unfolding type_bytes
  children_stand l t code e a f w st =
      let d = e ∙ byte_stands st in
      stands_behind (f t.params (subst (λ c. WellFormedParams (layout c).params t.params) (sym d) w.0))
      (stands_behind (skip_ahead (t.code ∷ []) refl a.1) st)

  -- Lists

  module _ {A : Type 0} (f : A → Bytes) where
    -- the count of a list
    pub count_stands : (xs : List A) → Stands s place (with_count f xs) → two_at s place ≡ length xs
    unfolding with_count u16
    count_stands xs st = two_stands (u16 (length xs)) (each f xs) refl st ∙ num_u16 (length xs)

    -- its elements stand behind the count
    pub elements_stand : (xs : List A) {m : ℕ} → Ahead s place 2 m → Stands s place (with_count f xs) → Stands s m (each f xs)
    unfolding with_count u16
    elements_stand xs a st = stands_behind (skip_ahead (u16 (length xs)) refl a.1) st

    -- those behind the first ones
    pub others_stand : (xs ys : List A) {m : ℕ} → Skips s place (each f xs) m → Stands s place (each f (xs ++ ys)) → Stands s m (each f ys)
    others_stand xs ys p st = stands_behind p (subst (Stands s place) (each_append f xs ys) st)
