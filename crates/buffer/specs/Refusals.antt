-- The numbers of document 01's table, and what an answer of the code says in them. "Any answer that is an enum has a definition that gives
-- this paper's number and values for each of the enum's cases."
use Rattle.std.specs.Prelude.{ℕ, Result, Ok, Err}
use Rattle.model.specs.Numbers as numbers
use Rattle.buffer.specs.declared.refusal.Number.{Number}
use Rattle.buffer.specs.declared.refusal.Refusal.{Refusal}

abbrev pub number_of : Number → ℕ
number_of Number.EndsInside = numbers.ends_inside
number_of Number.SheetTooLong = numbers.sheet_too_long
number_of Number.TooDeep = numbers.too_deep
number_of Number.Malformed = numbers.malformed
number_of Number.NotUtf8 = numbers.not_utf8
number_of Number.KeyNotAbove = numbers.key_not_above
number_of Number.IdTooLarge = numbers.id_too_large
number_of Number.IdRepeated = numbers.id_repeated
number_of Number.BytesLeft = numbers.bytes_left
number_of Number.TooManySheets = numbers.too_many_sheets
number_of Number.OddList = numbers.odd_list
number_of Number.IndexOutOfBounds = numbers.index_out_of_bounds
number_of Number.IndexRepeated = numbers.index_repeated
number_of Number.MaskLength = numbers.mask_length
number_of Number.SeparatorNotUtf8 = numbers.separator_not_utf8
number_of Number.NoSuchColumn = numbers.no_such_column
number_of Number.MoreFieldsThanIds = numbers.more_fields_than_ids
number_of Number.MoreIdsThanFields = numbers.more_ids_than_fields
number_of Number.TooManyFields = numbers.too_many_fields
number_of Number.SchemaMetadataClash = numbers.schema_metadata_clash
number_of Number.OrderedClash = numbers.ordered_clash
number_of Number.FieldMetadataClash = numbers.field_metadata_clash
number_of Number.TypeClash = numbers.type_clash
number_of Number.EqualChildClash = numbers.equal_child_clash
number_of Number.TypeIdClash = numbers.type_id_clash
number_of Number.AnswerTooLong = numbers.answer_too_long
number_of Number.AnswerBufferShort = numbers.answer_buffer_short
number_of Number.WorkBufferShort = numbers.work_buffer_short
number_of Number.InputTooLong = numbers.input_too_long

-- a refusal whose number names no place
abbrev pub without_place : Number → Refusal
without_place number = record { 0 = number; 1 = 0 }

-- an answer with the refusal's number as the paper writes it
abbrev pub numbered : {A : Type 0} → Result A Refusal → Result A (ℕ × ℕ)
numbered (Ok a) = Ok a
numbered (Err r) = Err (number_of r.0, r.1)
