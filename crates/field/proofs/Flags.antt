-- The flags of an entry, set for a field that comes in.
use Prim.Native.Nat.{ℕ, zero, suc, ◌+◌, ◌*◌, ◌/◌, ◌%◌, ◌≤◌}
use native.Mathlib.Omega.{arith}
use mathlib.Core.Path.{◌≡◌, refl, sym, ap, subst, ◌∙◌}
use mathlib.Core.List.{◌∷◌, ◌++◌, append_assoc}
use mathlib.Core.Bool.{Bool, true, false, cond, ◌||◌}
use lib.ListN.{length, get_or, length-append}
use lib.Dec.{eqb}
use Rattle.model.specs.Bytes.{Bytes, flag}
use Rattle.model.specs.Tree.{DataType, Field}
use Rattle.model.specs.Sheet.{field_bytes, type_bytes}
use Rattle.model.specs.Merge.{is_null}
use Rattle.walk.specs.Stands.{Stands}
use Rattle.walk.proofs.Standing.{first_stands, second_stands}
use Rattle.model.proofs.MapBits.{flag_one, is_one}
use Rattle.walk.proofs.Descents.{code_stands}
use Rattle.table.specs.Held.{Held}
use Rattle.table.specs.Table.{u24, SpellField, SpellType, SpellMetadata}
use Rattle.table.proofs.Numbers.{length_u24}
use Rattle.table.proofs.Held.{held_stands, held_as}
use Rattle.table.proofs.NewEntries.{nullable_bit, order_bit}
use Rattle.table.specs.Look.{SkipsHead}
use Rattle.table.specs.Edits.{SetsByte}
use Rattle.metadata.proofs.Entries.{flags_is}
use Rattle.field.specs.Claims.{SetsFlags, with_flags, both_flags}

pub is_bit : (n : ℕ) (b : Bool) → n ≤ 1 → eqb n 1 ≡ b → n ≡ flag 1 b
is_bit zero b h e = ap (flag 1) e
is_bit (suc zero) b h e = ap (flag 1) e
is_bit (suc (suc n)) b h e = absurd (omega (arith, h))

cond_flag : (c a b : Bool) → cond c (flag 1 a) (flag 1 b) ≡ flag 1 (cond c a b)
cond_flag true a b = refl
cond_flag false a b = refl

-- An entry's head, and its type behind it

module _ (l : ℕ) {s : Bytes} {k : ℕ} {y : Bytes} {f : Field l} (e : SpellField l s k y f) where
  abbrev pub head_spelt : Bytes
  head_spelt = e.flags ∷ (u24 e.first ++ e.metadata_bytes)

  pub head_long : length head_spelt ≡ 4 + length e.metadata_bytes
  head_long = omega (arith, length-append (u24 e.first) e.metadata_bytes, length_u24 e.first)

  pub head_first : y ≡ head_spelt ++ e.type_spelt
  head_first = e.bytes ∙ ap (λ z. e.flags ∷ z) (sym (append_assoc (u24 e.first) e.metadata_bytes e.type_spelt))

  pub behind_head : {w : Bytes} {place b : ℕ} → SkipsHead w place b → Stands w place y → b ≡ place + (4 + length e.metadata_bytes)
  behind_head {w} {place} sk st = omega (arith, (sk l s k y f e).behind (first_stands head_spelt e.type_spelt (subst (Stands w place) head_first st)), head_long)

  pub type_there : {w : Bytes} {place b : ℕ} → b ≡ place + (4 + length e.metadata_bytes) → Stands w place y → Stands w b e.type_spelt
  type_there {w} {place} {b} hb st =
      let n : place + length head_spelt ≡ b = omega (arith, hb, head_long) in
      subst (λ p. Stands w p e.type_spelt) n (second_stands head_spelt e.type_spelt (subst (Stands w place) head_first st))

-- an entry with other flags, that leave its metadata where it is
abbrev reflagged : (l : ℕ) {s : Bytes} {k : ℕ} {y : Bytes} {f : Field l} (e : SpellField l s k y f) (n : ℕ) (b o : Bool) → n ≡ e.flags / 4 * 4 + flag 1 o * 2 + flag 1 b
    → SpellField l s k (n ∷ (u24 e.first ++ (e.metadata_bytes ++ e.type_spelt))) (with_flags f b o)
reflagged l {s} {f = f} e n b o i =
    let low = flag_one 1 b in
    let mid = flag_one 1 o in
    let quarter : n / 4 ≡ e.flags / 4 = omega (arith, i, low.1, mid.1) in
    let even : n / 2 % 2 ≡ flag 1 o = omega (arith, i, low.1, mid.1) in
    let odd : n % 2 ≡ flag 1 b = omega (arith, i, low.1, mid.1) in
    record {
      flags = n;
      first = e.first;
      own = e.own;
      metadata_bytes = e.metadata_bytes;
      type_spelt = e.type_spelt;
      metadata_room = e.metadata_room;
      type_room = e.type_room;
      bytes = refl;
      small_flags = omega (arith, i, low.1, mid.1, e.small_flags);
      small = e.small;
      stands = e.stands;
      well_formed = e.well_formed;
      name = e.name;
      dict_is_ordered = is_one (n / 2 % 2) o even;
      dict_id = e.dict_id;
      type_id = e.type_id;
      nullable = is_one (n % 2) b odd;
      metadata = subst (λ m. SpellMetadata s e.metadata_room (eqb m 1) e.metadata_bytes e.own.head.metadata f.head.metadata) (sym quarter) e.metadata;
      data_type = e.data_type;
      room = e.room;
    }

flags_said : {s w w' : Bytes} {used place b q t flags map mine theirs n : ℕ} → flags ≡ get_or w place 0
    → ((l : ℕ) (first : DataType (suc l)) (k : ℕ) (y : Bytes) (a : DataType (suc l)) → SpellType (suc l) s first k y a → Stands w b y → mine ≡ a.code)
    → map ≡ get_or s q 0 → theirs ≡ get_or s t 0
    → n ≡ flags / 4 * 4 + cond (eqb mine 0) (map / 2 % 2) (flags / 2 % 2) * 2 + flag 1 (eqb (flags % 2) 1 || eqb (map % 2) 1 || eqb mine 0 || eqb theirs 0)
    → SetsByte place n w used w' → (l : ℕ) (f g : Field l) (x y z : Bytes) (k : ℕ) (e : SpellField l s k y f) → Held w used x y z → place ≡ length x → b ≡ length x + (4 + length e.metadata_bytes)
    → Stands s q (field_bytes (type_bytes l) g) → Stands s t (type_bytes l g.data_type)
    → (v : Bytes) × (e' : SpellField l s k v (both_flags l f g)) × Held w' used x v z × (length e'.metadata_bytes ≡ length e.metadata_bytes)
unfolding is_null
flags_said i c m h v set zero f g x y z k e held hx hb sq st = absurd f.data_type
flags_said {s} {w} {w'} {used} {place} {b} {q} {t} {flags} {map} {mine} {theirs} {n} i c m h v set (suc l) f g x y z k e held hx hb sq st =
    let stw = held_stands held hx in
    let f₀ : flags ≡ e.flags = flags_is (suc l) e stw i in
    let b₁ : eqb (flags % 2) 1 ≡ f.head.nullable = ap (λ n. eqb (n % 2) 1) f₀ ∙ e.nullable in
    let b₂ : eqb (map % 2) 1 ≡ g.head.nullable = is_one (map % 2) g.head.nullable (nullable_bit (suc l) g m sq) in
    let b₃ : eqb mine 0 ≡ eqb f.data_type.code 0 = ap (λ n. eqb n 0) (c l e.own.data_type e.type_room e.type_spelt f.data_type e.data_type (type_there (suc l) e (omega (arith, hx, hb)) stw)) in
    let b₄ : eqb theirs 0 ≡ eqb g.data_type.code 0 = ap (λ n. eqb n 0) (h ∙ code_stands l g.data_type st) in
    let new = f.head.nullable || g.head.nullable || eqb f.data_type.code 0 || eqb g.data_type.code 0 in
    let ordered = cond (eqb f.data_type.code 0) g.head.dict_is_ordered f.head.dict_is_ordered in
    let mine-bit : flags / 2 % 2 ≡ flag 1 f.head.dict_is_ordered = is_bit (flags / 2 % 2) f.head.dict_is_ordered (omega arith) (ap (λ n. eqb (n / 2 % 2) 1) f₀ ∙ e.dict_is_ordered) in
    let order : cond (eqb mine 0) (map / 2 % 2) (flags / 2 % 2) ≡ flag 1 ordered =
    rw (b₃, order_bit (suc l) g m sq, mine-bit) (cond_flag (eqb f.data_type.code 0) g.head.dict_is_ordered f.head.dict_is_ordered) in
    let n₀ : n ≡ e.flags / 4 * 4 + flag 1 ordered * 2 + flag 1 new = v ∙ rw (order, b₁, b₂, b₃, b₄, f₀) in
    let mid = flag_one 1 ordered in
    let low = flag_one 1 new in (
      n ∷ (u24 e.first ++ (e.metadata_bytes ++ e.type_spelt)),
      reflagged (suc l) e n new ordered n₀,
      held_as (set x ((u24 e.first ++ (e.metadata_bytes ++ e.type_spelt)) ++ z) e.flags (held_as held (ap (λ v. x ++ (v ++ z)) e.bytes)) hx (omega (arith, n₀, low.1, mid.1, e.small_flags))) refl,
      refl,
    )

pub flags_set : {s w w' : Bytes} {used place b q t flags map mine theirs n : ℕ} → flags ≡ get_or w place 0
    → ((l : ℕ) (first : DataType (suc l)) (k : ℕ) (y : Bytes) (a : DataType (suc l)) → SpellType (suc l) s first k y a → Stands w b y → mine ≡ a.code)
    → map ≡ get_or s q 0 → theirs ≡ get_or s t 0
    → n ≡ flags / 4 * 4 + cond (eqb mine 0) (map / 2 % 2) (flags / 2 % 2) * 2 + flag 1 (eqb (flags % 2) 1 || eqb (map % 2) 1 || eqb mine 0 || eqb theirs 0)
    → SetsByte place n w used w' → SetsFlags place b q t s w used w'
flags_set i c m h v set = record { says = flags_said i c m h v set }
