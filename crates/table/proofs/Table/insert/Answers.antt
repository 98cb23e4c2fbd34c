-- `Table::insert`: with room, no test stops.
use mathlib.Core.Path.{◌≡◌, refl}
use Prim.Native.Nat.{◌-◌, ◌+◌}
use native.Mathlib.Omega.{arith}
use lib.ListN.{length}
use Rattle.std.proofs.lemmas.Slice.{put_mid-paste}
use Rattle.table.proofs.Held.{held_inserted, moved_on}
use Rattle.table.proofs.Table.insert.Goals as goal

pub returns : goal.returns
returns c =
    let a = c.args in
    let w = a.self.now.w.now in
    let k = c.copy_from_slice.ensures in
    let rest : length w ≡ a.at + (length w - a.at) = omega arith in
    let moved = moved_on w a.at (length w - a.at) (length a.v.now) (a.self.now.used - a.at) rest c.copy_within.ensures.after in
    record {
      same = record { train = refl; buffer = refl; size = omega arith };
      is = λ x z h e i. (refl, held_inserted h _ e i moved (put_mid-paste _ _ _ _ _ _ k.after (omega arith) refl));
    }
