-- Strings, lists, heads and parameters: the place behind each, from the places that the code's steps give.
use Prim.Native.Nat.{ℕ, zero, suc, ◌+◌, ◌*◌, ◌/◌, ◌%◌, ◌^◌, ◌≤◌}
use native.Mathlib.Omega.{arith}
use mathlib.Core.Path.{◌≡◌, refl, sym, ap, subst, ◌∙◌}
use Rattle.std.proofs.Math.Path.{subst₂}
use mathlib.Core.List.{List, [], ◌∷◌, ◌++◌}
use mathlib.Core.Bool.{Bool, true, false}
use lib.ListN.{length, get_or, length-append}
use lib.Dec.{eqb}
use borrow.Author.Tests.{eqb-true, eqb-false}
use Rattle.model.specs.Bytes.{Bytes, Metadata, num, u16, u64, bit, flag}
use Rattle.model.specs.Tree.{Head, layout}
use Rattle.model.specs.Tree.Params.{timestamp}
use Rattle.model.specs.Sheet.{head_map, front_bytes, dict_id_bytes, dict_id_stands, each, part, stands, with_count, text_bytes, pair_bytes, head_bytes}
use Rattle.model.proofs.Numerals.{length_little_endian}
use Rattle.model.proofs.MapBits.{flag_one, is_one, name_set, metadata_set, dict_id_set}
use Rattle.model.specs.WellFormed.{WellFormedItems, WellFormedZone, WellFormedParams}
use Rattle.walk.specs.Stands.{Stands, Skips, SkipsName}
use Rattle.layout.specs.declared.ParamsKind.{ParamsKind}
use Rattle.layout.specs.declared.ParamsKind.TheVariants.{None, Timestamp, Unit, IntervalUnit, Int32, Flag, Decimal}
use Rattle.layout.specs.Kinds.{params_of}
use Rattle.walk.specs.Widths.{widths, width}
use Rattle.walk.proofs.Standing.{first_stands, byte_stands, two_stands, skip_none, skip_ahead, skip_when, skip_join, stands_behind, num_u16}

-- a bit as a number
pub bit_true : (k m : ℕ) → bit k m ≡ true → m / 2 ^ k % 2 ≡ 1
unfolding bit
bit_true k m e = eqb-true (m / 2 ^ k % 2) 1 e

pub bit_false : (k m : ℕ) → bit k m ≡ false → m / 2 ^ k % 2 ≡ 1 → ⊥
unfolding bit
bit_false k m e = eqb-false (m / 2 ^ k % 2) 1 e

pub length_u64 : (n : ℕ) → length (u64 n) ≡ 8
unfolding u64
length_u64 n = length_little_endian 8 n

-- what `ahead` ensures
abbrev pub Ahead : Bytes → ℕ → ℕ → ℕ → Type 0
Ahead s place n r = (r ≤ length s) × (place + n ≤ length s → r ≡ place + n)

-- the number of two bytes
abbrev pub two_at : Bytes → ℕ → ℕ
two_at s place = get_or s place 0 + 256 * get_or s (place + 1) 0

module _ {s : Bytes} {place : ℕ} where
  -- a length, then so many bytes
  pub counted_skips : {first k r : ℕ} → Ahead s place 2 first → k ≡ two_at s place → Ahead s first k r
      → (n t : Bytes) → length n ≡ 2 → length t ≡ num n → Skips s place (n ++ t) r
  counted_skips a e b n t h i =
      skip_when λ st.
      skip_join (skip_ahead n h a.1) (skip_ahead t (i ∙ sym (two_stands n t h st) ∙ sym e) b.1)

  pub text_skips : {r : ℕ} → ((n t : Bytes) → length n ≡ 2 → length t ≡ num n → Skips s place (n ++ t) r) → (t : Bytes) → Skips s place (text_bytes t) r
  unfolding text_bytes u16
  text_skips f t = f (u16 (length t)) t refl (sym (num_u16 (length t)))

  -- a count, then so many
  pub list_skips : {A : Type 0} (f : A → Bytes) {first k r : ℕ} → Ahead s place 2 first → k ≡ two_at s place
      → (xs : List A) → (length xs ≡ k → Skips s first (each f xs) r) → Skips s place (with_count f xs) r
  unfolding with_count u16
  list_skips f a e xs g =
      skip_when λ st.
      skip_join (skip_ahead (u16 (length xs)) refl a.1) (g (sym (num_u16 (length xs)) ∙ sym (two_stands (u16 (length xs)) (each f xs) refl st) ∙ sym e))

  -- a part under a bit
  pub part_if : {A : Type 0} (f : List A → Bytes) (set : Bool) {r : ℕ} → (set ≡ true → (xs : List A) → Skips s place (f xs) r) → (set ≡ false → r ≡ place)
      → (xs : List A) → stands xs ≡ set → Skips s place (part f xs) r
  part_if f set g e [] h = subst (Skips s place []) (sym (e (sym h))) skip_none
  part_if f set g e (x ∷ xs) h = g (sym h) (x ∷ xs)

  -- a dictionary number under a bit
  pub dict_id_if : (set : Bool) {r : ℕ} → (set ≡ true → (n : ℕ) → Skips s place (u64 n) r) → (set ≡ false → r ≡ place) → (n : ℕ) → dict_id_stands n ≡ set → Skips s place (dict_id_bytes n) r
  dict_id_if set g e zero h = subst (Skips s place []) (sym (e (sym h))) skip_none
  dict_id_if set g e (suc n) h = g (sym h) (suc n)

-- The bits of a sheet's map

module _ (a b : Bool) where
  pub sheet_metadata_bit : eqb ((flag 1 a + flag 2 b) % 2) 1 ≡ a
  sheet_metadata_bit = is_one ((flag 1 a + flag 2 b) % 2) a (omega (arith, flag_one 1 a, flag_one 2 b))

  pub sheet_columns_bit : eqb ((flag 1 a + flag 2 b) / 2 % 2) 1 ≡ b
  sheet_columns_bit = is_one ((flag 1 a + flag 2 b) / 2 % 2) b (omega (arith, flag_one 1 a, flag_one 2 b))

  -- the same, by their numbers
  pub sheet_metadata_set : bit 0 (flag 1 a + flag 2 b) ≡ a
  unfolding bit
  sheet_metadata_set = is_one ((flag 1 a + flag 2 b) / 1 % 2) a (omega (arith, flag_one 1 a, flag_one 2 b))

  pub sheet_columns_set : bit 1 (flag 1 a + flag 2 b) ≡ b
  unfolding bit
  sheet_columns_set = sheet_columns_bit

module _ {s : Bytes} {place : ℕ} where
  pub name_skips : {map name end : ℕ} {n : Bool} → map ≡ get_or s place 0 → Ahead s place 1 name
      → n ≡ bit 2 map → (n ≡ true → (t : Bytes) → Skips s name (text_bytes t) end) → (n ≡ false → end ≡ name) → SkipsName s place end
  unfolding front_bytes bit
  name_skips e a i f g h st = skip_join (skip_ahead (_ ∷ []) refl a.1) (part_if text_bytes _ f g h.name (sym (i ∙ ap (bit 2) (e ∙ byte_stands st) ∙ name_set h)))

  pub front_skips : {map metadata r : ℕ} {m : Bool} → map ≡ get_or s place 0 → SkipsName s place metadata
      → m ≡ bit 3 map → (m ≡ true → (x : Metadata) → Skips s metadata (with_count pair_bytes x) r) → (m ≡ false → r ≡ metadata)
      → (h : Head) → Skips s place (front_bytes h) r
  unfolding front_bytes bit
  front_skips e n j k o h = skip_when λ st. skip_join (n h st) (part_if (with_count pair_bytes) _ k o h.metadata (sym (j ∙ ap (bit 3) (e ∙ byte_stands st) ∙ metadata_set h)))

  -- a head begins with its front
  pub front_stands : (h : Head) → Stands s place (head_bytes h) → Stands s place (front_bytes h)
  unfolding head_bytes
  front_stands h st = first_stands (front_bytes h) (dict_id_bytes h.dict_id) st

  pub map_stands : {map : ℕ} → map ≡ get_or s place 0 → (h : Head) → Stands s place (head_bytes h) → map ≡ head_map h
  unfolding front_bytes
  map_stands e h st = e ∙ byte_stands (front_stands h st)

  pub head_skips : {map end r : ℕ} {n : Bool} → map ≡ get_or s place 0 → ((h : Head) → Skips s place (front_bytes h) end)
      → n ≡ bit 4 map → ((k : ℕ) → dict_id_stands k ≡ n → Skips s end (dict_id_bytes k) r) → (h : Head) → Skips s place (head_bytes h) r
  unfolding head_bytes bit
  head_skips e f i g h =
      skip_when λ st.
      skip_join (f h) (g h.dict_id (sym (i ∙ ap (bit 4) (map_stands e h st) ∙ dict_id_set h)))

-- Parameters

items_width : (ps : List (ℕ × ℕ)) (b : Bytes) → WellFormedItems ps b → length b ≡ widths ps
unfolding widths
items_width [] b w = ap length w
items_width (p ∷ ps) b (c, d, e, n, f, w) = ap length e ∙ length-append c d ∙ omega (arith, n, items_width ps d w)

-- parameters but a time stamp's are as wide as their kind
kind_width : (k : ParamsKind) → (k ≡ Timestamp → ⊥) → (b : Bytes) → WellFormedParams (params_of k) b → length b ≡ width (params_of k)
unfolding params_of width
kind_width None h b w = items_width _ b w
kind_width Timestamp h b w = absurd (h refl)
kind_width Unit h b w = items_width _ b w
kind_width IntervalUnit h b w = items_width _ b w
kind_width Int32 h b w = items_width _ b w
kind_width Flag h b w = items_width _ b w
kind_width Decimal h b w = items_width _ b w

module _ {s : Bytes} {place : ℕ} where
  num_one : (m : Bytes) → length m ≡ 1 → (b : Bytes) → Stands s place (m ++ b) → get_or s place 0 ≡ num m
  unfolding num
  num_one [] h b st = absurd (omega (arith, h))
  num_one (x ∷ []) h b st = omega (arith, byte_stands st)
  num_one (x ∷ y ∷ m) h b st = absurd (omega (arith, h))

module _ {s : Bytes} {place : ℕ} where
  pub zone_if : (set : Bool) {r : ℕ} → (set ≡ true → (n t : Bytes) → length n ≡ 2 → length t ≡ num n → Skips s place (n ++ t) r) → (set ≡ false → r ≡ place)
      → (z : Bytes) → WellFormedZone set z → Skips s place z r
  zone_if true {r} f e z (n, t, w, h, i, u) = subst (λ z. Skips s place z r) (sym w) (f refl n t h i)
  zone_if false {r} f e z w = subst₂ (Skips s place) (sym w) (sym (e refl)) skip_none

  pub params_skips : (code : ℕ) {k : ParamsKind} {w r : ℕ} → params_of k ≡ (layout code).params → (k ≡ Timestamp → ⊥) → w ≡ width (params_of k) → Ahead s place w r
      → (b : Bytes) → WellFormedParams (layout code).params b → Skips s place b r
  params_skips code {k} h n e a b g = skip_ahead b (kind_width k n b (subst (λ p. WellFormedParams p b) (sym h) g) ∙ sym e) a.1

  pub params_timestamp : (code : ℕ) {k : ParamsKind} {r : ℕ} → params_of k ≡ (layout code).params → k ≡ Timestamp → ((b : Bytes) → WellFormedParams timestamp b → Skips s place b r)
      → (b : Bytes) → WellFormedParams (layout code).params b → Skips s place b r
  unfolding params_of
  params_timestamp code h e f b g = f b (subst (λ p. WellFormedParams p b) (sym h ∙ ap params_of e) g)

module _ {s : Bytes} {place : ℕ} where
  pub timestamp_skips : {map k zone r : ℕ} {n : Bool} → Ahead s place 1 map → k ≡ get_or s map 0 → Ahead s map 1 zone
      → n ≡ bit 0 k → (n ≡ true → (n t : Bytes) → length n ≡ 2 → length t ≡ num n → Skips s zone (n ++ t) r) → (n ≡ false → r ≡ zone)
      → (b : Bytes) → WellFormedParams timestamp b → Skips s place b r
  timestamp_skips {r = r} a e c x f g b (u, m, z, w, h, i, p, q, v) =
      subst (λ b. Skips s place b r) (sym w)
      (skip_when λ st.
      let first = skip_ahead u h a.1 in
      let n = e ∙ num_one m i z (stands_behind first st) in
      skip_join first (skip_join (skip_ahead m i c.1) (zone_if _ f g z (subst (λ y. WellFormedZone y z) (sym (x ∙ ap (bit 0) n)) v))))
