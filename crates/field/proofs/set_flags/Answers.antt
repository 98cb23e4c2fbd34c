-- `set_flags`: one byte of the entry.
use Rattle.field.proofs.Flags.{flags_set}
use Rattle.field.proofs.set_flags.Goals as goal

pub returns : goal.returns
returns c =
    let o = c.set_byte.ensures in
    record { same = o.same; used = o.used; is = flags_set c.byte-flags.ensures.0 c.code_at-mine.ensures c.byte.ensures.0 c.byte-2.ensures.0 c.flags_of-n.ensures o.is }
