-- A call: what each operation answers to the bytes given, and what is left in the buffers.
use Rattle.std.specs.Prelude.{ℕ, ◌+◌, ◌*◌, [], ◌∷◌, ◌++◌, map, Bool, not, length, take, drop, replicate, eqb, ltb}
use Rattle.model.specs.Numbers.{max_levels, max_sheet_bytes, work_bytes_per_sheet_byte, accepted, answer_too_long, answer_buffer_short, work_buffer_short}
use Rattle.model.specs.Bytes.{Bytes, choose, u16, flag}
use Rattle.model.specs.Tree.{Schema}
use Rattle.model.specs.Sheet.{with_count, sheet_bytes}
use Rattle.model.specs.Read.{Step, got, bad, read_sheet, read_two, read_train}
use Rattle.model.specs.Equal.{same_columns}
use Rattle.model.specs.Datatype.{is_nested, equals_columns, contains_schema}
use Rattle.model.specs.Unions.{try_new, try_from_fields}
use Rattle.model.specs.Merge.{try_merge}
use Rattle.model.specs.Schema.{project, normalize, flattened_fields, index_of}
use Rattle.model.specs.Filter.{filter_leaves}

-- What an operation answers: bytes of any length, or a number and a place

pub data Answer : Type 0 where
  bytes : Bytes → Answer
  refused : ℕ → ℕ → Answer

-- a step, then what is answered to its value: "reading ..; parameters; clashes"
unfoldable pub and_then : {A : Type 0} → Step A → (A → Answer) → Answer
and_then (got a e) f = f a
and_then (bad n p) f = refused n p

-- "What an accepted call writes"

-- "Merging, projection, filtering and normalising write a sheet."
unfoldable pub sheet_answer : Step Schema → Answer
sheet_answer r = and_then r λ x. bytes (sheet_bytes x)

-- "one byte, 1 for yes and 0 for no"
unfoldable pub yes_no : Bool → Answer
yes_no b = bytes (flag 1 b ∷ [])

-- in the Rust's mode or parked log first
unfoldable pub merge_answer : Bool → Bytes → Answer
merge_answer parked train = and_then (read_train train) λ xs. sheet_answer (try_merge parked xs)

-- true: strict
unfoldable pub project_answer : Bool → Bytes → Bytes → Answer
project_answer strict sheet list = and_then (read_sheet sheet) λ x. sheet_answer (project strict x list)

unfoldable pub filter_answer : Bytes → Bytes → Answer
filter_answer sheet mask = and_then (read_sheet sheet) λ x. sheet_answer (filter_leaves x mask)

unfoldable pub normalize_answer : Bytes → Bytes → ℕ → Answer
normalize_answer sheet separator maxLevel = and_then (read_sheet sheet) λ x. sheet_answer (normalize x separator maxLevel)

unfoldable pub contains_answer : Bytes → Bytes → Answer
contains_answer sheet other = and_then (read_two sheet other) λ p. yes_no (contains_schema p.0 p.1)

unfoldable pub equals_datatype_answer : Bytes → Bytes → Answer
equals_datatype_answer sheet other = and_then (read_two sheet other) λ p. yes_no (equals_columns p.0 p.1)

unfoldable pub equal_answer : Bytes → Bytes → Answer
equal_answer sheet other = and_then (read_two sheet other) λ p. yes_no (same_columns p.0 p.1)

-- "`is_nested` writes one such byte for each column."
unfoldable pub is_nested_answer : Bytes → Answer
is_nested_answer sheet = and_then (read_sheet sheet) λ x. bytes (map (λ f. flag 1 (is_nested max_levels f.data_type)) x.columns)

-- "`index_of` writes a u16."
unfoldable pub index_of_answer : Bytes → Bytes → Answer
index_of_answer sheet name = and_then (read_sheet sheet) λ x. and_then (index_of x name) bytes

-- "`flattened_fields` writes a u16 count, then a u16 for each field."
unfoldable pub flattened_fields_answer : Bytes → Answer
flattened_fields_answer sheet = and_then (read_sheet sheet) λ x. bytes (with_count u16 (flattened_fields x))

-- "one takes id bytes and a u16 number of fields, the other that number alone, and each writes the ids"
unfoldable pub try_new_answer : Bytes → ℕ → Answer
try_new_answer ids count = and_then (try_new ids count [] 0) bytes

unfoldable pub try_from_fields_answer : ℕ → Answer
try_from_fields_answer count = and_then (try_from_fields count) bytes

-- What a call gives and leaves: number, place, the answer's length, and every byte of both buffers

pub record Exit : Type 0 where
  pub number : ℕ
  pub place : ℕ
  pub length : ℕ
  pub answer : Bytes
  pub work : Bytes

-- what a call wrote: "acceptance writes exactly the answer at its start", and a refusal writes nothing
abbrev pub written : Exit → Bytes
written e = take e.length e.answer

unfoldable pub zeros : ℕ → Bytes
zeros n = replicate n 0

-- "It writes nothing to the answer buffer": a refusal that leaves this work buffer
unfoldable pub refusal : ℕ → ℕ → Bytes → Bytes → Exit
refusal number place work answer = record { number = number; place = place; length = 0; answer = answer; work = work }

-- 30, then 31; "acceptance writes exactly the answer at its start"
unfoldable pub acceptance : Bytes → Bytes → Bytes → Exit
acceptance b work answer =
    choose (ltb max_sheet_bytes (length b)) (λ u. refusal answer_too_long 0 work answer) λ u.
    choose (ltb (length answer) (length b)) (λ u. refusal answer_buffer_short 0 work answer) λ u.
    record { number = accepted; place = 0; length = length b; answer = b ++ drop (length b) answer; work = work }

unfoldable pub settled : Answer → Bytes → Bytes → Exit
settled (bytes b) work answer = acceptance b work answer
settled (refused n p) work answer = refusal n p work answer

-- The one definition that every call's promise cites. `given` counts the sheet bytes given; a call without sheets has 0 and an empty
-- work buffer. "Order in a call: 32; reading; parameters; clashes; 30; 31." "The work buffer is untouched after 32, else all zero."
unfoldable pub call : (given : ℕ) → Answer → (work answer : Bytes) → Exit
call given outcome work answer =
    choose (ltb (length work) (work_bytes_per_sheet_byte * given)) (λ u. refusal work_buffer_short 0 work answer) λ u.
    settled outcome (zeros (length work)) answer

-- The calls. One sheet or train:

abbrev pub merge_call : Bool → Bytes → (work answer : Bytes) → Exit
merge_call parked train = call (length train) (merge_answer parked train)

-- the mode that the desk asks for by a number: 0 is the Rust's, any other is parked log first
unfoldable pub mode_of : ℕ → Bool
mode_of n = not (eqb n 0)

abbrev pub project_call : Bool → Bytes → Bytes → (work answer : Bytes) → Exit
project_call strict sheet list = call (length sheet) (project_answer strict sheet list)

abbrev pub filter_call : Bytes → Bytes → (work answer : Bytes) → Exit
filter_call sheet mask = call (length sheet) (filter_answer sheet mask)

abbrev pub normalize_call : Bytes → Bytes → ℕ → (work answer : Bytes) → Exit
normalize_call sheet separator maxLevel = call (length sheet) (normalize_answer sheet separator maxLevel)

abbrev pub is_nested_call : Bytes → (work answer : Bytes) → Exit
is_nested_call sheet = call (length sheet) (is_nested_answer sheet)

abbrev pub index_of_call : Bytes → Bytes → (work answer : Bytes) → Exit
index_of_call sheet name = call (length sheet) (index_of_answer sheet name)

abbrev pub flattened_fields_call : Bytes → (work answer : Bytes) → Exit
flattened_fields_call sheet = call (length sheet) (flattened_fields_answer sheet)

-- two sheets:

abbrev pub contains_call : Bytes → Bytes → (work answer : Bytes) → Exit
contains_call sheet other = call (length sheet + length other) (contains_answer sheet other)

abbrev pub equals_datatype_call : Bytes → Bytes → (work answer : Bytes) → Exit
equals_datatype_call sheet other = call (length sheet + length other) (equals_datatype_answer sheet other)

abbrev pub equal_call : Bytes → Bytes → (work answer : Bytes) → Exit
equal_call sheet other = call (length sheet + length other) (equal_answer sheet other)

-- "The two union numbering calls take no sheet and no work buffer":

abbrev pub try_new_call : Bytes → ℕ → (answer : Bytes) → Exit
try_new_call ids count = call 0 (try_new_answer ids count) []

abbrev pub try_from_fields_call : ℕ → (answer : Bytes) → Exit
try_from_fields_call count = call 0 (try_from_fields_answer count) []
