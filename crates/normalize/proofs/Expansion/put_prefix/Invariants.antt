-- `put_prefix`: so many names are put.
use Rattle.normalize.proofs.Names.{Prefixed}
use Rattle.normalize.proofs.Expansion.put_prefix.Given as goal

abbrev pub invariant-loop-place : goal.invariant-loop-place
invariant-loop-place l = Prefixed l.self.sheet.now l.self.separator.now l.path l.initial.out l.out l.place-index
