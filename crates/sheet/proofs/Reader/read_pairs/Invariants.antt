use mathlib.Core.Path.{◌≡◌}
use mathlib.Core.List.{[]}
use Prim.Native.Nat.{◌-◌}
use Rattle.std.specs.Prelude.{option_copied}
use Rattle.model.specs.Read.{read_many, read_pair}
use Rattle.sheet.specs.Answers.{step_of}
use Rattle.sheet.specs.Keys.{read_pairs}
use Rattle.sheet.proofs.Reader.read_pairs.Given as goal

-- what is left reads as the whole
abbrev pub invariant-loop : goal.invariant-loop
invariant-loop l = step_of (read_pairs l.self.bytes.now l.self.limit (option_copied l.previous) (l.count - l.counter) l.place) ≡ step_of (read_many l.count (read_pair l.self.bytes.now l.self.limit) [] l.at)
