-- `buffer::copy_in` meets its contract.
use native.Mathlib.Omega.{arith}
use lib.ListN.{length}
use lib.Seq.{drop-drop}
use Prim.Native.Nat.{◌+◌, ◌-◌}
use mathlib.Core.Path.{◌≡◌}
use Rattle.buffer.specs.Buffer.{pasted}
use Rattle.buffer.proofs.Pasted.{pasted_one, pasted_two}
use Rattle.buffer.proofs.copy_in.Goals as goal

pub returns-in-len1 : goal.returns-in-len1
returns-in-len1 c = pasted_one _ _ _ c.in-len1.len_at_least c.in-len1.len_below c.requires

pub returns-in-len2 : goal.returns-in-len2
returns-in-len2 c = pasted_two _ _ _ c.in-len2.len_at_least c.in-len2.len_below c.requires

pub returns-in_default : goal.returns-in_default
unfolding pasted
returns-in_default c =
    let e : c.args.at + length c.args.src.now - c.args.at ≡ length c.args.src.now = omega arith in
    rw (c.copy_from_slice.ensures.after, e, drop-drop)
