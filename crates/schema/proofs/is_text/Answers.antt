-- `is_text`: the length, then so many bytes.
use native.Mathlib.Omega.{arith}
use mathlib.Core.Logic.{inl, inr}
use Rattle.schema.proofs.Names.{text_inside, text_compared}
use Rattle.schema.proofs.is_text.Goals as goal

pub returns-in_default : goal.returns-in_default
returns-in_default c = λ t st.
    let inside = text_inside c.ahead-body.ensures c.two.ensures.0 t st in
    elim c.in_default.ensures.lookup.0 [ inl h ↦ absurd (omega arith) | inr h ↦ absurd (omega arith) ]

pub returns : goal.returns
returns c = λ t st. text_compared c.ahead-body.ensures c.two.ensures.0 t st _ c.same.ensures c.in-Some.ensures.lookup.0.2 (omega arith)
