-- `put_program_line`: 35, or the merge.
use Rattle.line.proofs.Programs.{too_long, not_too_long}
use Rattle.line.proofs.put_program_line.Goals as goal

pub returns-then-input-gt-MAX_PROGRAM_BYTES : goal.returns-then-input-gt-MAX_PROGRAM_BYTES
returns-then-input-gt-MAX_PROGRAM_BYTES c =
    too_long _ _ _ _ c.if-input-gt-MAX_PROGRAM_BYTES.true c.from.ensures c.from-then-input-gt-MAX_PROGRAM_BYTES.ensures c.put_line.ensures

pub returns : goal.returns
returns c =
    not_too_long _ _ c.if-input-gt-MAX_PROGRAM_BYTES.false c.put_merged.ensures
