-- Types that are opened: a struct without children, a list with the entry of its child.
use Prim.Native.Nat.{ℕ, zero, suc, ◌+◌, ◌*◌, ◌%◌, ◌≤◌, ◌<◌}
use native.Mathlib.Omega.{arith}
use mathlib.Core.Path.{◌≡◌, refl, sym, ap, subst, ◌∙◌}
use mathlib.Core.List.{List, [], ◌∷◌, ◌++◌, append_assoc, append-nil}
use mathlib.Core.Bool.{Bool}
use mathlib.Core.Logic.{◌⊎◌, inl, inr}
use lib.ListN.{length, get_or, length-append}
use Rattle.model.specs.Bytes.{Bytes}
use Rattle.model.specs.Tree.{DataType, Field, layout, one_field, table, List', LargeList, Struct, Union}
use Rattle.model.specs.Tree.Children.{fields}
use Rattle.model.specs.Sheet.{front_bytes, dict_id_bytes, each, head_bytes, field_bytes, children_bytes, type_bytes}
use Rattle.model.specs.WellFormed.{WellFormedParams, WellFormedField, WellFormedChildren, WellFormedType}
use Rattle.walk.specs.Stands.{Stands}
use Rattle.walk.proofs.Standing.{byte_stands, stands_behind, skip_ahead}
use Rattle.walk.proofs.Parts.{Ahead}
use Rattle.walk.proofs.Descents.{code_stands}
use Rattle.table.specs.Held.{Held}
use Rattle.table.specs.Table.{no_entry, raw, open_struct, open_list, u24, spell_raw, spell_struct, spell_list, spell_union}
use Rattle.table.proofs.Numbers.{length_u24}
use Rattle.table.proofs.Held.{held_length, held_stands, held_as}
use Rattle.table.specs.Look.{NamesPlace}
use Rattle.table.specs.Edits.{SetsByte, Inserts}
use Rattle.table.specs.Opened.{InsertsEntry, OpensList}
use Rattle.table.proofs.Types.{raw_there}

pub byte_set : {w' x z : Bytes} {used n : ℕ} → n < 256 → Held w' used x (n % 256 ∷ []) z → Held w' used x (n ∷ []) z
byte_set {w'} {x} {z} {used} h k = subst (λ v. Held w' used x (v ∷ []) z) (omega (arith, h)) k

module _ {w : Bytes} (w₁ : Bytes) {used place : ℕ} (s : length w₁ ≡ length w) where
  -- the kind of a raw type is set, and the table is seen from behind its place
  pub kind_set : (n p : ℕ) {x z : Bytes} → SetsByte place n w used w₁ → n < 256 → place ≡ length x → Held w used x (raw ∷ u24 p) z → Held w₁ used (x ++ (n ∷ u24 p)) [] z
  kind_set n p {x} {z} f h e k =
      held_as (f x (u24 p ++ z) raw (held_as k refl) e h) (sym (append_assoc x (n ∷ u24 p) z))

  -- what is merged inside a type stands behind its kind and its place
  pub inner_is : (n p : ℕ) {x y z : Bytes} {inner : ℕ} → place ≡ length x → Held w used x y z → 4 ≤ length y → Ahead w₁ place 4 inner → inner ≡ length (x ++ (n ∷ u24 p))
  inner_is n p {x} {z} e k long a =
      let l = held_length k in
      omega (arith, a.1 (omega (arith, l, long, k.fits, s, e)), e, length-append x (n ∷ u24 p), length_u24 p)

  pub struct_opened : {w₂ x z : Bytes} {inner r : ℕ} (p : ℕ) → SetsByte place open_struct w used w₁ → Ahead w₁ place 4 inner → Inserts inner (no_entry ∷ []) w₁ used w₂ r
      → Held w used x (raw ∷ u24 p) z → place ≡ length x → used + 1 ≤ length w → Held w₂ r x (open_struct ∷ (u24 p ++ (no_entry ∷ []))) z
  struct_opened {x = x} {z = z} p f a i k e room =
      held_as (i (x ++ (open_struct ∷ u24 p)) z (kind_set open_struct p f (omega arith) e k) (inner_is open_struct p e k (omega (arith, length_u24 p)) a) (omega (arith, room, s))).1
      (append_assoc x (open_struct ∷ u24 p) (no_entry ∷ z) ∙ ap (λ v. x ++ (open_struct ∷ v)) (sym (append_assoc (u24 p) (no_entry ∷ []) z)))

-- Lists

list_params : (c : ℕ) → (c ≡ List') ⊎ (c ≡ LargeList) → layout c ≡ one_field
unfolding layout table
list_params c (inl e) = ap layout e
list_params c (inr e) = ap layout e

-- the child of a well-formed list
pub record OnlyChild (l : ℕ) (a : DataType (suc l)) : Type 0 where
  pub child : Field l
  pub children : a.children ≡ child ∷ []
  pub params : a.params ≡ []
  pub well_formed : WellFormedField (WellFormedType l) child
  pub type_id : child.head.type_id ≡ 0
  pub bytes : type_bytes (suc l) a ≡ a.code ∷ field_bytes (type_bytes l) child

pub only_child : (l : ℕ) (o : Bool) (a : DataType (suc l)) → (a.code ≡ List') ⊎ (a.code ≡ LargeList) → WellFormedType (suc l) o a → OnlyChild l a
unfolding type_bytes children_bytes
only_child l o a h (c, p, k) = go a.children (subst (λ y. WellFormedChildren (WellFormedType l) y.children a.children) e k) refl
  where
    e : layout a.code ≡ one_field
    e = list_params a.code h

    none : a.params ≡ []
    none = subst (λ y. WellFormedParams y.params a.params) e p

    go : (ks : List (Field l)) → WellFormedChildren (WellFormedType l) (fields 1) ks → a.children ≡ ks → OnlyChild l a
    go [] (n, g) i = absurd (omega (arith, n))
    go (f ∷ []) (n, g) i = record {
      child = f;
      children = i;
      params = none;
      well_formed = g.0.0;
      type_id = g.0.1;
      bytes =
          ap (λ b. a.code ∷ (b ++ children_bytes (type_bytes l) (layout a.code).children a.children)) none
          ∙ ap (λ y. a.code ∷ children_bytes (type_bytes l) y.children a.children) e
          ∙ ap (λ ks. a.code ∷ each (field_bytes (type_bytes l)) ks) i
          ∙ ap (λ b. a.code ∷ b) (append-nil (field_bytes (type_bytes l) f));
    }
    go (f ∷ g ∷ fs) (n, w) i = absurd (omega (arith, n))

-- neither is a Struct or a Union
not_list : (c : ℕ) → (c ≡ List') ⊎ (c ≡ LargeList) → (c ≡ Struct) ⊎ (c ≡ Union) → ⊥
not_list c (inl i) (inl j) = omega (arith, i, j)
not_list c (inl i) (inr j) = omega (arith, i, j)
not_list c (inr i) (inl j) = omega (arith, i, j)
not_list c (inr i) (inr j) = omega (arith, i, j)

-- a type has a code at least
pub type_long : (l : ℕ) (t : DataType l) → 1 ≤ length (type_bytes l t)
unfolding type_bytes
type_long zero t = absurd t
type_long (suc l) t = omega arith

-- a field has a map and a code at least
pub field_long : (l : ℕ) (f : Field l) → 2 ≤ length (field_bytes (type_bytes l) f)
unfolding field_bytes front_bytes head_bytes
field_long l f = omega (arith, length-append (front_bytes f.head) (dict_id_bytes f.head.dict_id), length-append (head_bytes f.head) (type_bytes l f.data_type), type_long l f.data_type)

module _ {s w : Bytes} {used place : ℕ} where
  -- it is open already
  pub list_open : get_or w place 0 ≡ open_list → OpensList place s w used w used
  list_open h l first code c small x y z k a held p (spell_raw i b r v, d) room =
      absurd (omega (arith, h, byte_stands (subst (Stands w place) b (held_stands held p))))
  list_open h l first code c small x y z k a held p (spell_struct i m ys b q g d u r v, d2) room = absurd (not_list code c (inl (sym d2 ∙ d)))
  list_open h l first code c small x y z k a held p (spell_union i m ys b q g d u r v t, d2) room = absurd (not_list code c (inr (sym d2 ∙ d)))
  list_open h l first code c small x y z k a held p (spell_list i m ys f b q g d u r v t, d2) room = record {
    child = f;
    children = v;
    params = u;
    spelt = y;
    opened = record { place = i; entry_bytes = ys; entry_room = m; bytes = b; small = q; code_there = g ∙ d2; entry = r; room = t };
    held = held;
  }

  -- it is opened
  pub list_opened : {w₁ w₂ : Bytes} {own child inner r : ℕ} → length w₁ ≡ length w → (get_or w place 0 ≡ open_list → ⊥) → NamesPlace w place own → Ahead s own 1 child → Ahead w place 4 inner
      → SetsByte place open_list w used w₁ → InsertsEntry inner child s w₁ used w₂ r → OpensList place s w used w₂ r
  list_opened size never o b f g i l first code c small x y z k t held p (spell_struct j m ys bs q h d u rw v, d2) room = absurd (not_list code c (inl (sym d2 ∙ d)))
  list_opened size never o b f g i l first code c small x y z k t held p (spell_union j m ys bs q h d u rw v r, d2) room = absurd (not_list code c (inr (sym d2 ∙ d)))
  list_opened size never o b f g i l first code c small x y z k t held p (spell_list j m ys q bs h d u r v pl w3, d2) room =
      absurd (never (byte_stands (subst (Stands w place) bs (held_stands held p))))
  list_opened {w₁} {w₂} {own} {child} {inner} {r} size never o b f g i l first code c small x y z k t held p (spell_raw j bs ra v, d) room =
      let st = ra.stands in
      let q = only_child l ra.ordered t (subst (λ n. (n ≡ List') ⊎ (n ≡ LargeList)) (sym d) c) ra.well_formed in
      let h : Held w used x (raw ∷ u24 j) z = subst (λ y. Held w used x y z) bs held in
      let there : own ≡ j = raw_there o j ra.small (held_stands h p) in
      let st2 : Stands s own (t.code ∷ field_bytes (type_bytes l) q.child) = subst (λ n. Stands s n (t.code ∷ field_bytes (type_bytes l) q.child)) (sym there) (subst (Stands s j) q.bytes st) in
      let st3 = stands_behind (skip_ahead (t.code ∷ []) refl b.1) st2 in
      let long = field_long l q.child in
      let bytes-long : length (type_bytes (suc l) t) ≡ 1 + length (field_bytes (type_bytes l) q.child) = omega (arith, ap length q.bytes) in
      let hl = held_length h in
      let ne = i l q.child (x ++ (open_list ∷ u24 j)) z (record { small = small; stands = st3; well_formed = q.well_formed; type_id = q.type_id })
      (kind_set w₁ size open_list j g (omega arith) p h) (inner_is w refl open_list j p h (omega (arith, length_u24 j)) f)
      (omega (arith, room, hl, size, length_u24 j, ra.room, bytes-long, long)) in
      record {
        child = q.child;
        children = q.children;
        params = q.params;
        spelt = open_list ∷ (u24 j ++ ne.bytes);
        opened = record {
          place = j;
          entry_bytes = ne.bytes;
          entry_room = 4 * length (field_bytes (type_bytes l) q.child);
          bytes = refl;
          small = ra.small;
          code_there = code_stands l t st ∙ d;
          entry = ne.spelt;
          room = omega (arith, ra.room, bytes-long);
        };
        held = held_as ne.held (append_assoc x (open_list ∷ u24 j) (ne.bytes ++ z) ∙ ap (λ v. x ++ (open_list ∷ v)) (sym (append_assoc (u24 j) ne.bytes z)));
      }
