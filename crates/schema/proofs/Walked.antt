-- Types and their children: what is written of each, from what the code's steps write.
use Prim.Native.Nat.{ℕ, zero, suc, ◌+◌, ◌-◌, ◌/◌, ◌%◌, ◌≤◌}
use native.Mathlib.Omega.{arith}
use mathlib.Core.Path.{◌≡◌, refl, sym, ap, subst, ◌∙◌}
use Rattle.std.proofs.Common.{add-zero, add-one}
use mathlib.Core.List.{List, [], ◌∷◌, ◌++◌}
use lib.ListN.{length, get_or}
use borrow.Author.Tests.{ne_eqb}
use Rattle.model.specs.Bytes.{Bytes, u16, choose}
use Rattle.model.specs.Tree.{Head, Field, Children, table, layout, Struct, Union, Dictionary, RunEndEncoded}
use Rattle.model.specs.Tree.Children.{fields, key_and_value, counted, counted_with_ids}
use Rattle.model.specs.Sheet.{each, with_count, head_bytes, field_bytes, children_bytes, type_bytes}
use Rattle.model.specs.WellFormed.{WellFormedParams, CountFits, LaidOut}
use Rattle.model.specs.Schema.{each_at, after_first, field_fields, child_fields, type_fields}
use Rattle.model.proofs.Flattened.{Arm, struct, union, dictionary, other, arm}
use Rattle.walk.specs.Stands.{Stands, Skips, SkipsType, SkipsField, member_bytes}
use Rattle.walk.proofs.Standing.{byte_stands, two_stands, num_u16, skip_ahead}
use Rattle.walk.proofs.Parts.{Ahead, two_at}
use Rattle.layout.specs.declared.ChildrenKind.TheVariants.{Fields, KeyAndValue, Counted, CountedWithIds}
use Rattle.layout.specs.Kinds.{children_of}
use Rattle.buffer.specs.declared.Output.{Output}
use Rattle.buffer.specs.Puts.{Puts}
use Rattle.schema.specs.Flattens.{Flattens, own, FlattensType, FlattensField, FlattensRow, FlattensChildren}
use Rattle.schema.proofs.Writing.{flat_none, flat_past, flat_join, flat_own}

flat_when : {s : Bytes} {place : ℕ} {b : Bytes} {ns : List ℕ} {o o' : Output} {r : ℕ} → (Stands s place b → Flattens s place b ns o o' r) → Flattens s place b ns o o' r
flat_when f = record { does = λ h st. (f st).does h st }

module _ {s : Bytes} {place : ℕ} (levels : ℕ) {o o' : Output} {r : ℕ} where
  pub field_walked : {o₁ : Output} {m : ℕ} → Puts (place % 256 ∷ place / 256 % 256 ∷ []) o o₁ → ((l : ℕ) (f : Field l) → Skips s place (head_bytes f.head) m) → FlattensType s m levels o₁ o' r → FlattensField s place levels o o' r
  unfolding field_bytes field_fields
  field_walked e f g l x h k = flat_own e (flat_past (λ m. type_fields l m x.data_type) _ refl (f l x) (g l x.data_type h k))

  pub type_walked : {code params children : ℕ} → code ≡ get_or s place 0 → Ahead s place 1 params
      → ((b : Bytes) → WellFormedParams (layout code).params b → Skips s params b children)
      → FlattensChildren s children code (levels - 1) o o' r → FlattensType s place levels o o' r
  unfolding type_bytes type_fields
  type_walked e a f g zero t h z = absurd z
  type_walked {code} {params} {children} e a f g (suc l) t h (x, n, y) =
      flat_when λ st.
      let c : code ≡ t.code = e ∙ byte_stands st in
      let kid = subst (λ c. Flattens s children (children_bytes (type_bytes l) (layout c).children t.children) (child_fields (type_bytes l) (type_fields l) c children t.children) o o' r) c
      (g l t.children (omega (arith, h)) (subst (λ c. CountFits (layout c).children t.children) (sym c) n) y) in
      flat_past {a = t.code ∷ []} (λ m. child_fields (type_bytes l) (type_fields l) t.code (m + length t.params) t.children) (suc place) (omega arith)
      (skip_ahead (t.code ∷ []) refl a.1)
      (flat_past (λ m. child_fields (type_bytes l) (type_fields l) t.code m t.children) _ refl
      (f t.params (subst (λ c. WellFormedParams (layout c).params t.params) (sym c) x)) kid)

-- a count, then what it counts
list_walked : {s : Bytes} {place : ℕ} {A : Type 0} (f : A → Bytes) (ms : ℕ → List ℕ) {first n : ℕ} {o o' : Output} {r : ℕ} → Ahead s place 2 first → n ≡ two_at s place
    → (xs : List A) → (length xs ≡ n → Flattens s first (each f xs) (ms first) o o' r) → Flattens s place (with_count f xs) (ms (place + 2)) o o' r
unfolding with_count u16
list_walked {s} {place} f ms a e xs g =
    flat_when λ st.
    flat_past {a = u16 (length xs)} ms (place + 2) refl (skip_ahead (u16 (length xs)) refl a.1)
    (g (sym (num_u16 (length xs)) ∙ sym (two_stands (u16 (length xs)) (each f xs) refl st) ∙ sym e))

-- one field with so many bytes before it
pub field_behind : {s : Bytes} {place before own_place levels : ℕ} {o o' : Output} {r : ℕ} → Ahead s place before own_place → FlattensField s own_place levels o o' r
    → (l : ℕ) (front : Head → Bytes) (one : ℕ → Field l → List ℕ) → ((h : Head) → length (front h) ≡ before) → ((n : ℕ) (k : Field l) → one n k ≡ own l (n + before) k)
    → l ≤ levels → (k : Field l) → LaidOut l k.data_type → Flattens s place (front k.head ++ field_bytes (type_bytes l) k) (one place k) o o' r
field_behind {s} {place} {before} {o = o₀} {o' = o₁} {r = r} a f l front one n o h k z =
    subst (λ ns. Flattens s place (front k.head ++ field_bytes (type_bytes l) k) ns o₀ o₁ r) (sym (o place k))
    (flat_past (λ m. own l m k) (place + before) (ap (λ m. place + m) (n k.head)) (skip_ahead (front k.head) (n k.head) a.1) (f l k h z))

-- What the kind of a type's children says of its code

module _ (code : ℕ) where
  struct_code : counted ≡ (layout code).children → code ≡ Struct
  struct_code d = elim (arm code) [ struct e q ↦ e | union e q ↦ cc | dictionary e q ↦ cc | other n q s u v ↦ cc ]

  union_code : counted_with_ids ≡ (layout code).children → code ≡ Union
  union_code d = elim (arm code) [ struct e q ↦ cc | union e q ↦ e | dictionary e q ↦ cc | other n q s u v ↦ cc ]

  dictionary_code : key_and_value ≡ (layout code).children → code ≡ Dictionary
  dictionary_code d = elim (arm code) [ struct e q ↦ cc | union e q ↦ cc | dictionary e q ↦ e | other n q s u v ↦ cc ]

module _ {s : Bytes} {place : ℕ} (levels code : ℕ) {o o' : Output} {r : ℕ} where
  by_code : (c : ℕ) → code ≡ c → FlattensChildren s place c levels o o' r → FlattensChildren s place code levels o o' r
  by_code c e k = subst (λ c. FlattensChildren s place c levels o o' r) (sym e) k

  pub dictionary_walked : {value : ℕ} → children_of KeyAndValue ≡ (layout code).children → SkipsType s place levels value → FlattensType s value levels o o' r
      → FlattensChildren s place code levels o o' r
  unfolding layout table children_of children_bytes child_fields choose after_first each_at
  dictionary_walked {value} d f g = by_code Dictionary (dictionary_code code d) go
    where
      go : FlattensChildren s place Dictionary levels o o' r
      go l [] b n z = absurd (omega (arith, n))
      go l (x ∷ []) b n z = absurd (omega (arith, n))
      go l (x ∷ y ∷ []) b n z =
          flat_past (λ m. type_fields l m y.data_type ++ []) _ refl (f l x.data_type b z.0)
          (flat_join (type_fields l value y.data_type) (λ m. []) (g l y.data_type b z.1.0) flat_none)
      go l (x ∷ y ∷ u ∷ ks) b n z = absurd (omega (arith, n))

  pub runs_walked : {values : ℕ} → code ≡ RunEndEncoded → SkipsField s place levels values → FlattensField s values levels o o' r → FlattensChildren s place code levels o o' r
  unfolding layout table children_bytes child_fields choose after_first each_at
  runs_walked {values} e f g = by_code RunEndEncoded e go
    where
      go : FlattensChildren s place RunEndEncoded levels o o' r
      go l [] b n z = absurd (omega (arith, n))
      go l (x ∷ []) b n z = absurd (omega (arith, n))
      go l (x ∷ y ∷ []) b n z =
          flat_past (λ m. own l m y ++ []) _ refl (f l x b z.0)
          (flat_join (own l values y) (λ m. []) (g l y b z.1.0) flat_none)
      go l (x ∷ y ∷ u ∷ ks) b n z = absurd (omega (arith, n))

  pub struct_walked : {first n : ℕ} → children_of Counted ≡ (layout code).children → Ahead s place 2 first → n ≡ two_at s place → FlattensRow s first n 0 levels o o' r
      → FlattensChildren s place code levels o o' r
  unfolding layout table children_of children_bytes child_fields choose
  struct_walked d a i f = by_code Struct (struct_code code d) λ l ks b n z.
      list_walked (field_bytes (type_bytes l)) (λ m. each_at (field_bytes (type_bytes l)) (own l) m ks) a i ks λ c.
      f l (λ h. []) (own l) ks (λ h. refl) (λ n k. ap (λ m. own l m k) (sym (add-zero n))) b c z

  pub union_walked : {first n : ℕ} → children_of CountedWithIds ≡ (layout code).children → Ahead s place 2 first → n ≡ two_at s place → FlattensRow s first n 1 levels o o' r
      → FlattensChildren s place code levels o o' r
  unfolding layout table children_of children_bytes child_fields choose
  union_walked d a i f = by_code Union (union_code code d) λ l ks b n z.
      list_walked (member_bytes l) (λ m. each_at (member_bytes l) (λ p k. own l (suc p) k) m ks) a i ks λ c.
      f l (λ h. h.type_id ∷ []) (λ p k. own l (suc p) k) ks (λ h. refl) (λ n k. ap (λ m. own l m k) (sym (add-one n))) b c z

  pub others_walked : {n : ℕ} → (code ≡ RunEndEncoded → ⊥) → children_of (Fields n) ≡ (layout code).children → FlattensRow s place n 0 levels o o' r → FlattensChildren s place code levels o o' r
  unfolding children_of children_bytes child_fields choose
  others_walked {n} e d f l ks b k z = go (layout code).children (arm code) d k
    where
      go : (c : Children) → Arm code c → fields n ≡ c → CountFits c ks → Flattens s place (children_bytes (type_bytes l) c ks) (child_fields (type_bytes l) (type_fields l) code place ks) o o' r
      go c (struct i j) d k = absurd cc
      go c (union i j) d k = absurd cc
      go c (dictionary i j) d k = absurd cc
      go c (other m j v x y) d k = rw (v, x, y, ne_eqb code RunEndEncoded e) (last c d k)
        where
          last : (c : Children) → fields n ≡ c → CountFits c ks → Flattens s place (children_bytes (type_bytes l) c ks) (each_at (field_bytes (type_bytes l)) (own l) place ks) o o' r
          last (fields c) d k = f l (λ h. []) (own l) ks (λ h. refl) (λ n k. ap (λ m. own l m k) (sym (add-zero n))) b (let i : n ≡ c = cc in k ∙ sym i) z
          last key_and_value d k = absurd cc
          last counted d k = absurd cc
          last counted_with_ids d k = absurd cc
