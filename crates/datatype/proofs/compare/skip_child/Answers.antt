-- `skip_child`: a type, a field, or an id and a field.
use Rattle.datatype.proofs.Heads.{type_behind, field_behind, member_behind}
use Rattle.datatype.proofs.compare.skip_child.Goals as goal

pub returns-in-KeyAndValue : goal.returns-in-KeyAndValue
returns-in-KeyAndValue c = type_behind c.in-KeyAndValue.is c.skip_type.ensures

pub returns-in-Fields : goal.returns-in-Fields
returns-in-Fields c = field_behind c.in-Fields.is c.skip_field.ensures

pub returns-in-CountedWithIds : goal.returns-in-CountedWithIds
returns-in-CountedWithIds c = member_behind c.in-CountedWithIds.is c.ahead.ensures c.skip_field-in-CountedWithIds.ensures
