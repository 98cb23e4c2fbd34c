use mathlib.Core.Path.{◌≡◌}
use Prim.Native.Nat.{◌-◌}
use Rattle.model.specs.Read.{read_sheets, read_train}
use Rattle.sheet.specs.Answers.{step_of}
use Rattle.sheet.proofs.read_train.Given as goal

-- what is left reads as the whole
abbrev pub invariant-loop : goal.invariant-loop
invariant-loop l = step_of (read_sheets l.s (256 - l.counter) l.at) ≡ step_of (read_train l.s)
