-- The call of the model that an operation of the list stands for.
use Rattle.std.specs.Prelude.{ℕ, true, false}
use Rattle.model.specs.Bytes.{Bytes}
use Rattle.model.specs.Call.{Exit, is_nested_call, index_of_call, flattened_fields_call, equal_call, equals_datatype_call, contains_call, try_new_call, try_from_fields_call, merge_call, project_call, filter_call, normalize_call}
use Rattle.replay.specs.declared.operation.Operation.{Operation}
use Rattle.replay.specs.declared.operation.Operation.TheVariants.{IsNested, IndexOf, FlattenedFields, Equal, EqualsDatatype, Contains, TryNew, TryFromFields, Merge, Project, ProjectStrict, Filter, Normalize, MergeParkedFirst}

-- the two calls on unions are lent no work buffer: it stays as it is
abbrev pub keeps_work : (Bytes → Exit) → (work answer : Bytes) → Exit
keeps_work call work answer = record (call answer) { work = work }

-- of what a request gives: the first bytes, the second, the number
abbrev pub call_of : Operation → (first second : Bytes) (number : ℕ) (work answer : Bytes) → Exit
call_of IsNested a b n = is_nested_call a
call_of IndexOf a b n = index_of_call a b
call_of FlattenedFields a b n = flattened_fields_call a
call_of Equal a b n = equal_call a b
call_of EqualsDatatype a b n = equals_datatype_call a b
call_of Contains a b n = contains_call a b
call_of TryNew a b n = keeps_work (try_new_call a n)
call_of TryFromFields a b n = keeps_work (try_from_fields_call n)
call_of Merge a b n = merge_call false a
call_of Project a b n = project_call false a b
call_of ProjectStrict a b n = project_call true a b
call_of Filter a b n = filter_call a b
call_of Normalize a b n = normalize_call a b n
call_of MergeParkedFirst a b n = merge_call true a
