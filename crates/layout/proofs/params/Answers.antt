-- `params`: each arm is a stretch of codes or two; what no arm names lies between them.
use native.Mathlib.Omega.{arith}
use native.Mathlib.Decide.{dec_lt}
use mathlib.Core.Path.{refl}
use mathlib.Core.Logic.{inl, inr}
use Prim.{yes, no}
use Rattle.model.specs.Tree.{table}
use Rattle.layout.specs.declared.ParamsKind.TheVariants.{None, Timestamp, Unit, IntervalUnit, Int32, Flag, Decimal}
use Rattle.layout.specs.Kinds.{params_of}
use Rattle.layout.proofs.Tables.{params_within, params_past}
use Rattle.layout.proofs.params.Goals as goal

pub returns-in-13 : goal.returns-in-13
unfolding table params_of
returns-in-13 c = params_within Timestamp 13 1 refl c.args.code (omega arith) (omega arith)

pub returns-in-19 : goal.returns-in-19
unfolding table params_of
returns-in-19 c = params_within IntervalUnit 19 1 refl c.args.code (omega arith) (omega arith)

pub returns-in-21 : goal.returns-in-21
unfolding table params_of
returns-in-21 c = elim c.in-21.is [ inl e ↦ params_within Int32 21 1 refl c.args.code (omega arith) (omega arith) | inr e ↦ params_within Int32 29 1 refl c.args.code (omega arith) (omega arith) ]

pub returns-in-33 : goal.returns-in-33
unfolding table params_of
returns-in-33 c = elim c.in-33.is [ inl e ↦ params_within Flag 33 1 refl c.args.code (omega arith) (omega arith) | inr e ↦ params_within Flag 39 1 refl c.args.code (omega arith) (omega arith) ]

pub returns-in-16-to-18 : goal.returns-in-16-to-18
unfolding table params_of
returns-in-16-to-18 c = params_within Unit 16 3 refl c.args.code (omega arith) (omega arith)

pub returns-in-35-to-38 : goal.returns-in-35-to-38
unfolding table params_of
returns-in-35-to-38 c = params_within Decimal 35 4 refl c.args.code (omega arith) (omega arith)

pub returns-in_default : goal.returns-in_default
unfolding table params_of
returns-in_default c = elim (dec_lt c.args.code 13) [ yes h13 ↦ params_within None 0 13 refl c.args.code (omega arith) (omega arith) | no h13 ↦ params_within None 14 2 refl c.args.code (omega arith) (omega arith) ]

pub returns-in_default-2 : goal.returns-in_default-2
unfolding table params_of
returns-in_default-2 c = elim (dec_lt c.args.code 21) [ yes h21 ↦ params_within None 20 1 refl c.args.code (omega arith) (omega arith) | no h21 ↦ elim (dec_lt c.args.code 29) [ yes h29 ↦ params_within None 22 7 refl c.args.code (grind arith) (omega arith) | no h29 ↦ elim (dec_lt c.args.code 33) [ yes h33 ↦ params_within None 30 3 refl c.args.code (grind arith) (omega arith) | no h33 ↦ params_within None 34 1 refl c.args.code (grind arith) (omega arith) ] ] ]

pub returns-in_default-3 : goal.returns-in_default-3
unfolding table params_of
returns-in_default-3 c = params_past c.args.code (grind arith) (grind arith)
