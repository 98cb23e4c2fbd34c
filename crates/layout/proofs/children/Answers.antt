-- `children`: each arm is a stretch of codes or two; what no arm names lies between them.
use native.Mathlib.Omega.{arith}
use native.Mathlib.Decide.{dec_lt}
use mathlib.Core.Path.{refl}
use Prim.{yes, no}
use Rattle.model.specs.Tree.{table}
use Rattle.layout.specs.declared.ChildrenKind.TheVariants.{Fields, KeyAndValue, Counted, CountedWithIds}
use Rattle.layout.specs.Kinds.{children_of}
use Rattle.layout.proofs.Tables.{children_within, children_past}
use Rattle.layout.proofs.children.Goals as goal

pub returns-in-32 : goal.returns-in-32
unfolding table children_of
returns-in-32 c = children_within Counted 32 1 refl c.args.code (omega arith) (omega arith)

pub returns-in-33 : goal.returns-in-33
unfolding table children_of
returns-in-33 c = children_within CountedWithIds 33 1 refl c.args.code (omega arith) (omega arith)

pub returns-in-34 : goal.returns-in-34
unfolding table children_of
returns-in-34 c = children_within KeyAndValue 34 1 refl c.args.code (omega arith) (omega arith)

pub returns-in-40 : goal.returns-in-40
unfolding table children_of
returns-in-40 c = children_within (Fields 2) 40 1 refl c.args.code (omega arith) (omega arith)

pub returns-in-27-to-31 : goal.returns-in-27-to-31
unfolding table children_of
returns-in-27-to-31 c = children_within (Fields 1) 39 1 refl c.args.code (omega arith) (omega arith)

pub returns-in-27-to-31-2 : goal.returns-in-27-to-31-2
unfolding table children_of
returns-in-27-to-31-2 c = children_within (Fields 1) 27 5 refl c.args.code (omega arith) (omega arith)

pub returns-in_default : goal.returns-in_default
unfolding table children_of
returns-in_default c = children_within (Fields 0) 0 27 refl c.args.code (omega arith) (omega arith)

pub returns-in_default-2 : goal.returns-in_default-2
unfolding table children_of
returns-in_default-2 c = elim (dec_lt c.args.code 41) [ yes h41 ↦ children_within (Fields 0) 35 4 refl c.args.code (omega arith) (omega arith) | no h41 ↦ children_past c.args.code (omega arith) ]
