-- `same`: what follows is equal just if the whole is; the last eight bytes are.
use mathlib.Core.Path.{◌≡◌}
use lib.ListN.{length, drop}
use Rattle.model.specs.Bytes.{same_bytes}
use Rattle.text.proofs.same.Given as goal

abbrev pub invariant-loop-i : goal.invariant-loop-i
invariant-loop-i l = (length l.a ≡ length l.b) × (drop l.last l.a ≡ drop l.last l.b) × (same_bytes (drop l.i l.a) (drop l.i l.b) ≡ same_bytes l.a l.b)
