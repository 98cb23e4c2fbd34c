-- Entries of the table whose metadata changes.
use Rattle.std.specs.Prelude.{ℕ, ◌/◌, ◌≡◌}
use Rattle.model.specs.Bytes.{Bytes, Metadata}
use Rattle.model.specs.Tree.{FieldOver, Field}
use Rattle.model.specs.Numbers.{field_metadata_clash}
use Rattle.model.specs.Merge.{Merged, done, ◌>>=◌, merge_metadata}
use Rattle.table.specs.Held.{Held}
use Rattle.table.specs.Table.{SpellField}

-- a field with other metadata
abbrev pub with_metadata : {T : Type 0} → FieldOver T → Metadata → FieldOver T
with_metadata f m = record {
  head = record { type_id = f.head.type_id; nullable = f.head.nullable; dict_is_ordered = f.head.dict_is_ordered; name = f.head.name; metadata = m; dict_id = f.head.dict_id };
  data_type = f.data_type;
}

-- `Field::try_merge`, the metadata alone
abbrev pub merge_field_metadata : {T : Type 0} → FieldOver T → Metadata → Merged (FieldOver T)
merge_field_metadata f m = merge_metadata field_metadata_clash f.head.metadata m >>= λ n. done (with_metadata f n)

-- between x and z stands the entry of a field, with the places of its pairs, in at most k bytes
pub record Opened (l : ℕ) (s : Bytes) (k : ℕ) (x z w : Bytes) (used : ℕ) (f : Field l) : Type 0 where
  pub spelt : Bytes
  pub entry : SpellField l s k spelt f
  pub opened : entry.flags / 4 ≡ 1
  pub held : Held w used x spelt z
