-- What the enums of this crate say: the parameters and the children in the table of the types.
use Rattle.std.specs.Prelude.{[], ◌∷◌}
use Rattle.model.specs.Tree.{unit, interval_unit, mode, any_byte, any_i32}
use Rattle.model.specs.Tree.{Params, Children}
use Rattle.model.specs.Tree.Params.{items, timestamp}
use Rattle.model.specs.Tree.Children.{fields, key_and_value, counted, counted_with_ids}
use Rattle.layout.specs.declared.ParamsKind.{ParamsKind}
use Rattle.layout.specs.declared.ParamsKind.TheVariants.{None, Timestamp, Unit, IntervalUnit, Int32, Flag, Decimal}
use Rattle.layout.specs.declared.ChildrenKind.{ChildrenKind}
use Rattle.layout.specs.declared.ChildrenKind.TheVariants.{Fields, KeyAndValue, Counted, CountedWithIds}

unfoldable pub params_of : ParamsKind → Params
params_of None = items []
params_of Timestamp = timestamp
params_of Unit = items (unit ∷ [])
params_of IntervalUnit = items (interval_unit ∷ [])
params_of Int32 = items (any_i32 ∷ [])
params_of Flag = items (mode ∷ [])
params_of Decimal = items (any_byte ∷ any_byte ∷ [])

unfoldable pub children_of : ChildrenKind → Children
children_of (Fields n) = fields n
children_of KeyAndValue = key_and_value
children_of Counted = counted
children_of CountedWithIds = counted_with_ids
