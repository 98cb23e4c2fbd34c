use Rattle.sheet.proofs.Ways.{told_ok, told_err, step_then, step_stop, bit_way}
use Rattle.sheet.specs.Shapes.{read_head}
use Rattle.sheet.proofs.Reader.read_head.Goals as goal

pub returns-in_default : goal.returns-in_default
unfolding read_head
returns-in_default c =
    step_stop _ _ _ _ _ (bit_way _ _ _ _ _ c.read_if-named.ensures.there c.read_if-named.ensures.absent)
    (told_err c.in_default.is)

pub returns-in_default-metadata : goal.returns-in_default-metadata
unfolding read_head
returns-in_default-metadata c =
    step_then _ _ _ _ _ (bit_way _ _ _ _ _ c.read_if-named.ensures.there c.read_if-named.ensures.absent)
    (told_ok c.in-Ok.is) λ n.
    step_stop _ _ _ _ _ (bit_way _ _ _ _ _ c.read_if-metadata.ensures.there c.read_if-metadata.ensures.absent)
    (told_err c.in_default-metadata.is)

pub returns : goal.returns
unfolding read_head
returns c =
    step_then _ _ _ _ _ (bit_way _ _ _ _ _ c.read_if-named.ensures.there c.read_if-named.ensures.absent)
    (told_ok c.in-Ok.is) λ n.
    step_then _ _ _ _ _ (bit_way _ _ _ _ _ c.read_if-metadata.ensures.there c.read_if-metadata.ensures.absent)
    (told_ok c.in-Ok-metadata.is) λ d.
    bit_way _ _ _ _ _ c.read_if.ensures.there c.read_if.ensures.absent
