-- A call that is lent no work buffer.
use mathlib.Core.Path.{◌≡◌, ap}
use mathlib.Core.List.{[]}
use Prim.Native.Nat.{ℕ}
use Rattle.std.specs.Prelude.{Result}
use Rattle.model.specs.Bytes.{Bytes}
use Rattle.model.specs.Call.{Exit}
use Rattle.buffer.specs.declared.refusal.Refusal.{Refusal}
use Rattle.buffer.specs.Leaves.{leaves}

-- what it leaves is said beside any work buffer, which stays as it is
pub kept : (r : Result ℕ Refusal) (work answer : Bytes) {x : Exit} → leaves r answer [] ≡ x → leaves r answer work ≡ record x { work = work }
unfolding leaves
kept r work answer e = ap (λ (x : Exit). record x { work = work }) e
