-- The answer of the UTF-8 check, and what it finds out first.
use Rattle.std.specs.Prelude.{ℕ, Bool, true, false, Result, Ok, Err, ltb}
use Rattle.text.specs.declared.NotUtf8.{NotUtf8}

-- what the check answers where the bytes are text, and where they are not
abbrev pub text_of : Bool → Result Unit NotUtf8
text_of true = Ok tt
text_of false = Err (record {})

-- US-ASCII, the first row
abbrev pub ascii : ℕ → Bool
ascii b = ltb b 0x80
