-- `contains_head`: order flags, nullabilities, names, metadata.
use mathlib.Core.Path.{◌≡◌, sym, ◌∙◌}
use mathlib.Core.Bool.{true, false≢true}
use Rattle.model.specs.Bytes.{bit}
use Rattle.datatype.proofs.Encodings.{equal, unequal}
use Rattle.datatype.proofs.Heads.{heads_by_order, heads_by_nullable, heads_names, heads_by_metadata}
use Rattle.datatype.proofs.compare.Comparer.contains_head.Goals.{else-bit-2-via-then-bit-2+else-not-bit, else-bit-2-via-else-bit-2}
use Rattle.datatype.proofs.compare.Comparer.contains_head.Goals as goal

pub returns-then-bit : goal.returns-then-bit
returns-then-bit c = heads_by_order c.byte-map.ensures.0 c.byte-other.ensures.0 c.bit.ensures c.bit-2.ensures (unequal _ _ c.if-bit.true)

pub returns-then-not-bit : goal.returns-then-not-bit
returns-then-not-bit c =
    heads_by_nullable c.byte-map.ensures.0 c.byte-other.ensures.0 c.bit.ensures c.bit-2.ensures (sym c.bit-then-bit-2.ensures ∙ c.if-not-bit.true) (sym c.bit-3.ensures ∙ c.if-bit-2.true)

pub returns-then-not-same_name : goal.returns-then-not-same_name
returns-then-not-same_name c = heads_names c.if-not-same_name.true c.same_name.ensures

pub returns : goal.returns
returns c =
    let nullable : bit 0 c.byte-other.result ≡ true → bit 0 c.byte-map.result ≡ true =
    elim c.else-bit-2.branch [
      | else-bit-2-via-then-bit-2+else-not-bit w ↦ λ h. sym w.bit-then-bit-2.ensures ∙ w.if-not-bit.false
      | else-bit-2-via-else-bit-2 w ↦ λ h. absurd (false≢true (sym w.if-bit-2.false ∙ c.bit-3.ensures ∙ h))
    ] in
    heads_by_metadata c.byte-map.ensures.0 c.byte-other.ensures.0 c.bit.ensures c.bit-2.ensures (equal _ _ c.if-bit.false) nullable c.if-not-same_name.false c.same_name.ensures
    c.of_head-own.ensures c.of_head-asked.ensures c.contains_metadata.ensures
