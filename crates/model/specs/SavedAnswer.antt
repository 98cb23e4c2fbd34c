-- Merging onto a saved answer: document 02, Item 1.
use Rattle.std.specs.Prelude.{ℕ, ◌+◌, ◌*◌, ◌≤◌, ◌≡◌, List, ◌++◌, Bool, length}
use Rattle.model.specs.Numbers.{work_bytes_per_sheet_byte, too_many_sheets, reading_numbers, clash_numbers}
use Rattle.model.specs.Bytes.{Bytes, AreBytes, choose, among}
use Rattle.model.specs.Tree.{Schema}
use Rattle.model.specs.Read.{Step, got, bad, read_train}
use Rattle.model.specs.Call.{Exit, written, merge_call}
use Rattle.model.specs.Growth.{Accepts}

-- "enough work room" for so many sheet bytes given: no 32
abbrev pub WorkRoom : ℕ → Bytes → Type 0
WorkRoom given work = work_bytes_per_sheet_byte * given ≤ length work

-- a train that does not have "more than 256 sheets": in it no 257th sheet begins (33). Where a sheet is refused, reading ends, and what
-- stands behind it is no sheet.
abbrev pub NotTooManySheets : Bytes → Type 0
NotTooManySheets train = (place : ℕ) → read_train train ≡ bad too_many_sheets place → ⊥

-- how many sheets a train has that reads
unfoldable pub sheet_count : Step (List Schema) → ℕ
sheet_count (got xs e) = length xs
sheet_count (bad n p) = 0

-- "The place counts sheets or bytes of the train given, so it may differ." That of a refusal met behind so many sheets of so many bytes,
-- at the byte or the sheet `further` of what comes further: reading counts bytes, a clash sheets; 0, 30 and 31 have the place 0.
unfoldable pub place_behind : (sheets bytes : ℕ) → (number further : ℕ) → ℕ
place_behind sheets bytes number further =
    choose (among number reading_numbers) (λ u. bytes + further) λ u.
    choose (among number clash_numbers) (λ u. sheets + further) λ u. 0

-- "the same bytes .., and is refused with the same number otherwise", at the same place of what comes further
pub record SameBehind (place place' : (number further : ℕ) → ℕ) (e e' : Exit) : Type 0 where
  pub number : e.number ≡ e'.number
  pub length : e.length ≡ e'.length
  pub answer : written e ≡ written e'
  -- the byte or the sheet of what comes further
  pub further : ℕ
  pub placed : e.place ≡ place e.number further
  pub placed' : e'.place ≡ place' e'.number further

-- "an accepted merge of some sheets, put first in a train before further sheets, gives the same bytes as merging all of them at once, and
-- is refused with the same number otherwise, while .. each has enough work room and answer buffers are equal": said of whichever trains
-- that begin with the saved answer, and of whichever that have all. The sheets are a train, empty too; what comes further is any bytes,
-- sheets that are refused among them; the saved answer was made with any buffers.
abbrev pub MergesOnto : Bool → (Onto All : Bytes → Type 0) → Type 0
MergesOnto parked Onto All =
    (sheets : Bytes) → AreBytes sheets → (work answer : Bytes) →
    let first = merge_call parked sheets work answer in
    let saved = written first in
    Accepts first →
    (further work' work'' answer' answer'' : Bytes) →
    let onto = saved ++ further in
    let all = sheets ++ further in
    Onto onto → All all →
    WorkRoom (length onto) work' → WorkRoom (length all) work'' →
    length answer' ≡ length answer'' →
    SameBehind (place_behind 1 (length saved)) (place_behind (sheet_count (read_train sheets)) (length sheets))
    (merge_call parked onto work' answer') (merge_call parked all work'' answer'')

-- Item 1: "while neither train has more than 256 sheets". "Item 1's equality must hold in it", the mode of Item 6, as in the Rust's.
abbrev pub MergesOntoSavedAnswer : Type 0
MergesOntoSavedAnswer = (parked : Bool) → MergesOnto parked NotTooManySheets NotTooManySheets
