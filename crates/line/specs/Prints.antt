-- What the program prints, in the buffer that it prints from.
use Rattle.std.specs.Prelude.{ℕ, ◌+◌, ◌*◌, ◌≤◌, ◌≡◌, ◌++◌, Bool, length, take, drop}
use Rattle.model.specs.Numbers.{max_program_bytes}
use Rattle.model.specs.Bytes.{Bytes}
use Rattle.model.specs.Program.{program_line}

-- the longest line: "0 0 ", two digits for each byte of an answer that is as long as the longest input, and the line feed
abbrev pub max_line_bytes : ℕ
max_line_bytes = 4 + 2 * max_program_bytes + 1

-- Of a buffer w that has room for the longest line: the line for the input stands at its start then, in r bytes, and the rest is as it was.
-- What is left to the program is that `input` has the bytes of standard input, to its end or to the 16,001st, and that r bytes are written:
-- the line is then that of all of standard input.
pub record Prints (parked : Bool) (input w w' : Bytes) (r : ℕ) : Type 0 where
  pub counted : r ≡ length (program_line parked input)
  pub fits : r ≤ length w'
  pub written : w' ≡ program_line parked input ++ drop (length (program_line parked input)) w
  pub whole : (all : Bytes) → input ≡ take (max_program_bytes + 1) all → program_line parked input ≡ program_line parked all
