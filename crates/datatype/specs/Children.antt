-- The bytes of one child.
use Rattle.std.specs.Prelude.{ℕ, ◌∷◌}
use Rattle.model.specs.Bytes.{Bytes}
use Rattle.model.specs.Tree.{Field, Children}
use Rattle.model.specs.Tree.Children.{fields, key_and_value, counted, counted_with_ids}
use Rattle.model.specs.Sheet.{field_bytes, type_bytes}

unfoldable pub child_bytes : (l : ℕ) → Children → Field l → Bytes
child_bytes l (fields n) k = field_bytes (type_bytes l) k
child_bytes l key_and_value k = type_bytes l k.data_type
child_bytes l counted k = field_bytes (type_bytes l) k
child_bytes l counted_with_ids k = k.head.type_id ∷ field_bytes (type_bytes l) k
