-- `Table::overwrite`: where the bytes stand, neither test stops.
use native.Mathlib.Omega.{arith}
use mathlib.Core.Path.{refl}
use Rattle.std.proofs.lemmas.Slice.{put_mid-paste}
use Rattle.table.proofs.Held.{held_overwritten}
use Rattle.table.proofs.Table.overwrite.Goals as goal

pub returns : goal.returns
returns c =
    let k = c.copy_from_slice.ensures in
    record {
      same = record { train = refl; buffer = refl; size = omega arith };
      used = refl;
      is = λ x y z h e i. held_overwritten h _ e i (put_mid-paste _ _ _ _ _ _ k.after (omega arith) refl);
    }
