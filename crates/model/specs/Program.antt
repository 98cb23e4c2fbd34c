-- The program merge: "reads a train from standard input and prints one line: number, space, place, space, the answer in lower-case hex or `-`".
use Rattle.std.specs.Prelude.{ℕ, zero, suc, ◌+◌, ◌*◌, ◌-◌, ◌/◌, ◌%◌, [], ◌∷◌, ◌++◌, Bool, length, take, eqb, ltb}
use Rattle.model.specs.Numbers.{max_program_bytes, max_sheet_bytes, work_bytes_per_sheet_byte, accepted, input_too_long}
use Rattle.model.specs.Bytes.{Bytes, choose}
use Rattle.model.specs.Sheet.{each}
use Rattle.model.specs.Call.{Exit, zeros, refusal, merge_call}

-- ASCII: the digit 0, the letter a, space, minus, line feed

abbrev pub digit_zero : ℕ
digit_zero = 0x30

abbrev pub letter_a : ℕ
letter_a = 0x61

abbrev pub space : ℕ
space = 0x20

abbrev pub minus : ℕ
minus = 0x2D

abbrev pub line_feed : ℕ
line_feed = 0x0A

-- a number in decimal, of at most so many digits
unfoldable pub decimal_of : ℕ → ℕ → Bytes
decimal_of zero n = []
decimal_of (suc k) n = choose (ltb n 10) (λ u. (digit_zero + n) ∷ []) λ u. decimal_of k (n / 10) ++ ((digit_zero + n % 10) ∷ [])

-- a number below 2^64 has at most 20 digits
unfoldable pub decimal : ℕ → Bytes
decimal n = decimal_of 20 n

unfoldable pub hex_digit : ℕ → ℕ
hex_digit d = choose (ltb d 10) (λ u. digit_zero + d) λ u. letter_a + (d - 10)

unfoldable pub hex_byte : ℕ → Bytes
hex_byte b = hex_digit (b / 16) ∷ hex_digit (b % 16) ∷ []

unfoldable pub hex_or_minus : Exit → Bytes
hex_or_minus e = choose (eqb e.number accepted) (λ u. each hex_byte (take e.length e.answer)) λ u. minus ∷ []

unfoldable pub line_of : Exit → Bytes
line_of e = decimal e.number ++ (space ∷ (decimal e.place ++ (space ∷ (hex_or_minus e ++ (line_feed ∷ [])))))

-- The line for what was read, in a mode: the program merge has the Rust's. 35 comes first, whatever the bytes are; else the buffers are large
-- enough for any train of that size.
unfoldable pub program_line : Bool → Bytes → Bytes
program_line parked input =
    choose (ltb max_program_bytes (length input)) (λ u. line_of (refusal input_too_long 0 [] [])) λ u.
    line_of (merge_call parked input (zeros (work_bytes_per_sheet_byte * max_program_bytes)) (zeros max_sheet_bytes))
