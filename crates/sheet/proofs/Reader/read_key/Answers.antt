use native.Mathlib.Omega.{arith}
use mathlib.Core.Path.{ap}
use Rattle.std.specs.Prelude.{option_copied}
use Rattle.sheet.proofs.Ways.{told_ok, told_err}
use Rattle.sheet.proofs.Pairs.{text_got, key_stop, key_first, key_above, key_not}
use Rattle.sheet.proofs.Reader.read_key.Goals as goal

pub returns-in_default : goal.returns-in_default
returns-in_default c = key_stop _ _ _ _ c.read_text-read.ensures _ _ _ (told_err c.in_default.is)

pub returns-in_default-previous : goal.returns-in_default-previous
returns-in_default-previous c = key_first _ _ _ _ c.read_text-read.ensures _ (told_ok c.in-Ok.is) _ (ap option_copied c.in_default-previous.is)

pub overflow_add-at : goal.overflow_add-at
overflow_add-at c = let t = text_got _ _ _ _ _ _ c.read_text-read.ensures (told_ok c.in-Ok.is) in omega (arith, t.begins)

pub slice_bounds-is_below-count : goal.slice_bounds-is_below-count
slice_bounds-is_below-count c = let t = text_got _ _ _ _ _ _ c.read_text-read.ensures (told_ok c.in-Ok.is) in omega (arith, t.begins)

pub slice_bounds-is_below-start : goal.slice_bounds-is_below-start
slice_bounds-is_below-start c = let t = text_got _ _ _ _ _ _ c.read_text-read.ensures (told_ok c.in-Ok.is) in omega (arith, t.begins)

pub slice_bounds-is_below-end : goal.slice_bounds-is_below-end
slice_bounds-is_below-end c = let t = text_got _ _ _ _ _ _ c.read_text-read.ensures (told_ok c.in-Ok.is) in omega (arith, t.inside)

pub returns-then-is_below : goal.returns-then-is_below
returns-then-is_below c = key_above _ _ _ _ c.read_text-read.ensures _ (told_ok c.in-Ok.is) _ (ap option_copied c.in-Some.is) _ c.is_below.ensures c.if-is_below.true

pub returns : goal.returns
returns c = key_not _ _ _ _ c.read_text-read.ensures _ (told_ok c.in-Ok.is) _ (ap option_copied c.in-Some.is) _ c.is_below.ensures c.if-is_below.false
