use Rattle.std.proofs.Math.Nat.{sub-add-eq}
use mathlib.Core.Path.{refl}
use native.Mathlib.Omega.{arith}
use Rattle.model.specs.Read.{read_train}
use Rattle.sheet.proofs.Ways.{told_ok, told_err}
use Rattle.sheet.proofs.TreeWays.{from_cursor, train_done, train_full, train_stop, train_again}
use Rattle.sheet.proofs.read_train.Goals as goal

pub loop-init : goal.loop-init
unfolding read_train
loop-init c = refl

pub returns-then-s-at : goal.returns-then-s-at
unfolding read_train
returns-then-s-at c = train_done _ _ _ _ c.loop.invariant (omega arith)

pub returns-in_default : goal.returns-in_default
unfolding read_train
returns-in_default c = train_stop _ _ _ _ c.loop.invariant (omega arith) (omega arith) _ (from_cursor _ _ _ _ c.sheet.ensures c.read_schema-read.ensures) _ _ (told_err c.in_default.is)

pub loop-preserved : goal.loop-preserved
unfolding read_train
loop-preserved c =
    rw (sub-add-eq 256 c.loop.counter 1) (train_again _ _ _ _ c.loop.invariant (omega arith) (omega arith) _ (from_cursor _ _ _ _ c.sheet.ensures c.read_schema-read.ensures) _ (told_ok c.in-Ok.is))

pub returns-then-at-s : goal.returns-then-at-s
unfolding read_train
returns-then-at-s c = train_full _ _ _ _ c.loop.invariant (omega arith) (omega arith)

pub returns : goal.returns
unfolding read_train
returns c = train_done _ _ _ _ c.loop.invariant (omega arith)
