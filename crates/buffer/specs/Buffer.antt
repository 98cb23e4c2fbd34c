-- A buffer with a stretch of it written over: the one definition of every write.
use Rattle.std.specs.Prelude.{ℕ, ◌+◌, ◌++◌, length, take, drop}
use Rattle.model.specs.Bytes.{Bytes}

-- d with s written over it from index at
unfoldable pub pasted : Bytes → ℕ → Bytes → Bytes
pasted d at s = take at d ++ (s ++ drop (at + length s) d)
