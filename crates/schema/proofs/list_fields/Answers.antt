-- `list_fields`: the offsets behind two bytes, then their count over these.
use mathlib.Core.Path.{ap}
use Prim.Native.Nat.{◌/◌}
use Rattle.std.proofs.Common.{rules}
use Rattle.buffer.proofs.Puts.{filled}
use Rattle.schema.proofs.Answered.{fields_listed}
use Rattle.schema.proofs.list_fields.Goals as goal

pub returns : goal.returns
returns c =
    fields_listed c.find_columns.ensures c.put_two.ensures c.flatten_fields.ensures (λ b. filled b c.new-out.ensures (search rules)) (ap (λ n. n / 2) c.saturating_sub.ensures)
    (filled _ c.new-count.ensures (search rules) c.put_two-2.ensures)
