-- `same_name`: the bits of the names, then the names.
use Rattle.datatype.proofs.Encodings.{equal, unequal}
use Rattle.datatype.proofs.Texts.{names_bits, names_none, names_texts}
use Rattle.datatype.proofs.metadata.same_name.Goals as goal

pub returns-then-named-bit : goal.returns-then-named-bit
returns-then-named-bit c = names_bits c.byte.ensures.0 c.bit-named.ensures c.byte-2.ensures.0 c.bit.ensures (unequal _ _ c.if-named-bit.true)

pub returns-then-not-named : goal.returns-then-not-named
returns-then-not-named c = names_none c.byte.ensures.0 c.bit-named.ensures c.byte-2.ensures.0 c.bit.ensures (equal _ _ c.if-named-bit.false) c.if-not-named.true

pub returns : goal.returns
returns c =
    names_texts c.byte.ensures.0 c.bit-named.ensures c.byte-2.ensures.0 c.bit.ensures (equal _ _ c.if-named-bit.false) c.if-not-named.false c.ahead.ensures c.ahead-2.ensures c.same_text.ensures
