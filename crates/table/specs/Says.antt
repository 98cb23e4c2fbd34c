-- What the answer of a merge into the table says of the model's merge.
use Rattle.std.specs.Prelude.{ℕ, ◌≤◌, ◌≡◌, Result, Ok, Err}
use Rattle.model.specs.Bytes.{Bytes}
use Rattle.model.specs.Merge as model
use Rattle.model.specs.Merge.{done, clash}
use Rattle.table.specs.Held.{Held}
use Rattle.buffer.specs.Refusals.{number_of}
use Rattle.buffer.specs.declared.refusal.Number.{Number}

-- how many bytes are in use after a merge, or the clash
abbrev pub Merged : Type 0
Merged = Result ℕ Number

-- the merge gave a value; P spells it between x and z, in at most B bytes
pub record Took {A : Type 0} (P : ℕ → Bytes → A → Type 0) (B : ℕ) (x z w' : Bytes) (used : ℕ) (m : model.Merged A) : Type 0 where
  pub value : A
  pub spelt : Bytes
  pub room : ℕ
  pub is : m ≡ done value
  pub spells : P room spelt value
  pub fits : room ≤ B
  pub held : Held w' used x spelt z

abbrev pub Says : {A : Type 0} → (ℕ → Bytes → A → Type 0) → ℕ → Bytes → Bytes → Bytes → Merged → model.Merged A → Type 0
Says P B x z w' (Ok used) m = Took P B x z w' used m
Says P B x z w' (Err n) m = m ≡ clash (number_of n)
