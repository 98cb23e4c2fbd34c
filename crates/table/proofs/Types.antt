-- The types of entries: their code, and what becomes of them.
use Prim.Native.Nat.{ℕ, ◌+◌, suc, ◌<◌}
use native.Mathlib.Omega.{arith}
use mathlib.Core.Path.{◌≡◌, refl, sym, ap, subst, ◌∙◌}
use mathlib.Core.List.{[], ◌∷◌, append-nil}
use lib.ListN.{get_or}
use Rattle.model.specs.Bytes.{Bytes}
use Rattle.model.specs.Tree.{DataType}
use Rattle.walk.specs.Stands.{Stands}
use Rattle.walk.proofs.Standing.{stands_behind, skip_ahead}
use Rattle.walk.proofs.Descents.{code_stands}
use Rattle.table.specs.Held.{Held}
use Rattle.table.specs.Table.{no_place, raw, u24, three, SpellType, spell_raw, spell_struct, spell_list, spell_union}
use Rattle.table.specs.Look.{NamesPlace}
use Rattle.table.proofs.Numbers.{three_stands}

-- The place in a type's entry, and the code there

-- what stands behind one byte is the place
pub place_there : {w : Bytes} {place r : ℕ} → r ≡ three w (place + 1) → NamesPlace w place r
place_there e c x ys h st = e ∙ three_stands x ys (omega (arith, h)) (stands_behind (skip_ahead (c ∷ []) refl λ z. refl) st)

module _ {w : Bytes} {place t : ℕ} (n : NamesPlace w place t) where
  pub raw_there : (x : ℕ) → x < no_place → Stands w place (raw ∷ u24 x) → t ≡ x
  raw_there x h st = n raw x [] h (subst (λ z. Stands w place (raw ∷ z)) (sym (append-nil (u24 x))) st)

  pub code_of : {s : Bytes} {c : ℕ} → c ≡ get_or s t 0 → (l : ℕ) (first : DataType (suc l)) (k : ℕ) (y : Bytes) (b : DataType (suc l))
      → SpellType (suc l) s first k y b → Stands w place y → c ≡ b.code
  code_of {s} f l first k y b (spell_raw x i r v) st = f ∙ ap (λ n. get_or s n 0) (raw_there x r.small (subst (Stands w place) i st)) ∙ code_stands l b r.stands
  code_of {s} f l first k y b (spell_struct x m ys i h g d p r v) st = f ∙ ap (λ n. get_or s n 0) (n _ x ys h (subst (Stands w place) i st)) ∙ g ∙ sym d
  code_of {s} f l first k y b (spell_list x m ys q i h g d p r v u) st = f ∙ ap (λ n. get_or s n 0) (n _ x ys h (subst (Stands w place) i st)) ∙ g
  code_of {s} f l first k y b (spell_union x m ys i h g d p r v u) st = f ∙ ap (λ n. get_or s n 0) (n _ x ys h (subst (Stands w place) i st)) ∙ g ∙ sym d

-- the four bytes of a raw type, of which its place is three
pub four : (t : ℕ) {v : Bytes} {w' x z : Bytes} {used : ℕ} → v ≡ u24 t → Held w' used x (raw ∷ get_or v 0 0 ∷ get_or v 1 0 ∷ get_or v 2 0 ∷ []) z → Held w' used x (raw ∷ u24 t) z
unfolding u24
four t {v} {w'} {x} {z} {used} e h =
    let bytes : ◌≡◌ {A = Bytes} (raw ∷ get_or v 0 0 ∷ get_or v 1 0 ∷ get_or v 2 0 ∷ []) (raw ∷ u24 t) = rw e in
    subst (λ y. Held w' used x y z) bytes h
