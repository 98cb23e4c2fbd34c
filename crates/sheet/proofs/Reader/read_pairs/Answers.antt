use Rattle.std.proofs.Math.Nat.{sub-add-eq}
use native.Mathlib.Nat.{sub-zero}
use native.Mathlib.Omega.{arith}
use Rattle.sheet.proofs.Ways.{told_ok, told_err}
use Rattle.sheet.proofs.Pairs.{key_got, pairs_begin, pairs_done, pairs_key_stop, pairs_value_stop, pairs_again}
use Rattle.sheet.proofs.Reader.read_pairs.Goals as goal

pub loop-init : goal.loop-init
loop-init c = rw sub-zero (pairs_begin _ _ _ _)

pub returns-in_default : goal.returns-in_default
returns-in_default c = pairs_key_stop _ _ _ _ _ _ c.loop.invariant (omega arith) _ c.read_key-keyed.ensures _ _ (told_err c.in_default.is)

pub returns-in_default-valued : goal.returns-in_default-valued
returns-in_default-valued c = pairs_value_stop _ _ _ _ _ _ c.loop.invariant (omega arith) _ c.read_key-keyed.ensures _ (told_ok c.in-Ok.is) _ c.read_text-valued.ensures _ _ (told_err c.in_default-valued.is)

pub loop-preserved : goal.loop-preserved
loop-preserved c =
    rw (sub-add-eq c.args.count c.loop.counter 1) (pairs_again _ _ _ _ _ _ c.loop.invariant (omega arith) _ c.read_key-keyed.ensures _ (told_ok c.in-Ok.is) _ c.read_text-valued.ensures _ (told_ok c.in-Ok-valued.is))

pub overflow_add-previous : goal.overflow_add-previous
overflow_add-previous c = let g = key_got _ _ _ _ _ _ c.read_key-keyed.ensures (told_ok c.in-Ok.is) in omega (arith, g.begins)

pub slice_bounds-previous-count : goal.slice_bounds-previous-count
slice_bounds-previous-count c = let g = key_got _ _ _ _ _ _ c.read_key-keyed.ensures (told_ok c.in-Ok.is) in omega (arith, g.begins)

pub slice_bounds-previous-start : goal.slice_bounds-previous-start
slice_bounds-previous-start c = let g = key_got _ _ _ _ _ _ c.read_key-keyed.ensures (told_ok c.in-Ok.is) in omega (arith, g.begins)

pub slice_bounds-previous-end : goal.slice_bounds-previous-end
slice_bounds-previous-end c = let g = key_got _ _ _ _ _ _ c.read_key-keyed.ensures (told_ok c.in-Ok.is) in omega (arith, g.inside)

pub returns : goal.returns
returns c = pairs_done _ _ _ _ _ _ c.loop.invariant (omega arith)
