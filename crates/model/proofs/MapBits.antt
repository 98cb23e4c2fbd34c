-- The bits of a field's map: each says of the head what it is for.
use Prim.Native.Nat.{ℕ, ◌+◌, ◌*◌, ◌/◌, ◌%◌, ◌≤◌}
use native.Mathlib.Omega.{arith}
use mathlib.Core.Path.{◌≡◌, ap}
use mathlib.Core.Bool.{Bool, true, false}
use lib.Dec.{eqb}
use Rattle.model.specs.Bytes.{bit, flag}
use Rattle.model.specs.Tree.{Head}
use Rattle.model.specs.Sheet.{stands, dict_id_stands, head_map}

pub flag_one : (n : ℕ) (b : Bool) → (flag n b ≡ n * flag 1 b) × (flag 1 b ≤ 1)
flag_one n true = (omega arith, omega arith)
flag_one n false = (omega arith, omega arith)

pub is_one : (n : ℕ) (b : Bool) → n ≡ flag 1 b → eqb n 1 ≡ b
is_one n true e = ap (λ x. eqb x 1) e
is_one n false e = ap (λ x. eqb x 1) e

module _ (h : Head) where
  -- what is left of the map from a bit on
  halves : head_map h / 2 ≡ flag 1 h.dict_is_ordered + 2 * flag 1 (stands h.name) + 4 * flag 1 (stands h.metadata) + 8 * flag 1 (dict_id_stands h.dict_id)
  halves = omega (arith, flag_one 1 h.nullable, flag_one 2 h.dict_is_ordered, flag_one 4 (stands h.name), flag_one 8 (stands h.metadata), flag_one 16 (dict_id_stands h.dict_id))

  pub quarters : head_map h / 4 ≡ flag 1 (stands h.name) + 2 * flag 1 (stands h.metadata) + 4 * flag 1 (dict_id_stands h.dict_id)
  quarters = omega (arith, flag_one 1 h.nullable, flag_one 2 h.dict_is_ordered, flag_one 4 (stands h.name), flag_one 8 (stands h.metadata), flag_one 16 (dict_id_stands h.dict_id))

  eighths : head_map h / 8 ≡ flag 1 (stands h.metadata) + 2 * flag 1 (dict_id_stands h.dict_id)
  eighths = omega (arith, flag_one 1 h.nullable, flag_one 2 h.dict_is_ordered, flag_one 4 (stands h.name), flag_one 8 (stands h.metadata), flag_one 16 (dict_id_stands h.dict_id))

  sixteenths : head_map h / 16 ≡ flag 1 (dict_id_stands h.dict_id)
  sixteenths = omega (arith, flag_one 1 h.nullable, flag_one 2 h.dict_is_ordered, flag_one 4 (stands h.name), flag_one 8 (stands h.metadata), flag_one 16 (dict_id_stands h.dict_id))

  -- each bit, as a number
  pub nullable_bit : head_map h % 2 ≡ flag 1 h.nullable
  nullable_bit = omega (arith, flag_one 1 h.nullable, flag_one 2 h.dict_is_ordered, flag_one 4 (stands h.name), flag_one 8 (stands h.metadata), flag_one 16 (dict_id_stands h.dict_id))

  pub order_bit : head_map h / 2 % 2 ≡ flag 1 h.dict_is_ordered
  order_bit = let q = halves in omega (arith, q, flag_one 1 h.dict_is_ordered)

  pub name_bit : head_map h / 4 % 2 ≡ flag 1 (stands h.name)
  name_bit = let q = quarters in omega (arith, q, flag_one 1 (stands h.name))

  pub metadata_bit : head_map h / 8 % 2 ≡ flag 1 (stands h.metadata)
  metadata_bit = let q = eighths in omega (arith, q, flag_one 1 (stands h.metadata))

  pub dict_id_bit : head_map h / 16 % 2 ≡ flag 1 (dict_id_stands h.dict_id)
  dict_id_bit = let q = sixteenths in omega (arith, q, flag_one 1 (dict_id_stands h.dict_id))

  -- the bits of the parts, as tests
  pub name_set : eqb (head_map h / 4 % 2) 1 ≡ stands h.name
  name_set = is_one (head_map h / 4 % 2) (stands h.name) name_bit

  pub metadata_set : eqb (head_map h / 8 % 2) 1 ≡ stands h.metadata
  metadata_set = is_one (head_map h / 8 % 2) (stands h.metadata) metadata_bit

  pub dict_id_set : eqb (head_map h / 16 % 2) 1 ≡ dict_id_stands h.dict_id
  dict_id_set = is_one (head_map h / 16 % 2) (dict_id_stands h.dict_id) dict_id_bit

-- as reading asks for them; and no other bit stands
pub record Bits (h : Head) : Type 0 where
  pub nullable : bit 0 (head_map h) ≡ h.nullable
  pub dict_is_ordered : bit 1 (head_map h) ≡ h.dict_is_ordered
  pub name : bit 2 (head_map h) ≡ stands h.name
  pub metadata : bit 3 (head_map h) ≡ stands h.metadata
  pub dict_id : bit 4 (head_map h) ≡ dict_id_stands h.dict_id
  pub known : head_map h ≤ 31

pub map_bits : (h : Head) → Bits h
unfolding bit
map_bits h = record {
  nullable = is_one (head_map h / 1 % 2) h.nullable (let q = nullable_bit h in omega (arith, q));
  dict_is_ordered = is_one (head_map h / 2 % 2) h.dict_is_ordered (order_bit h);
  name = name_set h;
  metadata = metadata_set h;
  dict_id = dict_id_set h;
  known = omega (arith, flag_one 1 h.nullable, flag_one 2 h.dict_is_ordered, flag_one 4 (stands h.name), flag_one 8 (stands h.metadata), flag_one 16 (dict_id_stands h.dict_id));
}
