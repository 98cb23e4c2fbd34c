-- `fill`: what was read stands behind what was there.
use Rattle.std.proofs.Common.{◌≡◌, ◌-◌, rules, arith, length, subst}
use Rattle.replay.specs.Reads.{Reads}
use Rattle.replay.proofs.Reading.{Reads-nil, Reads-came, Reads-missing, Reads-append, take_read, take_zero}
use Rattle.replay.proofs.list.fill.Goals as goal

pub loop-end-init : goal.loop-end-init
loop-end-init g c = (search rules, Reads-nil _)

pub loop-end-preserved-then-count-gt0 : goal.loop-end-preserved-then-count-gt0
loop-end-preserved-then-count-gt0 g c =
    let joined = take_read c.loop-end.end (length c.loop-end.dst - c.loop-end.end) c.read_some-count.result c.loop-end.dst c.read_some-count.new.dst c.loop-end.invariant.0 c.read_some-count.ensures.in_bounds in
    (search rules, subst (Reads _ _) joined (Reads-append _ _ _ _ _ c.loop-end.invariant.1 (Reads-came _ _ _ c.read_some-count.ensures.at_start)))

pub loop-end-preserved : goal.loop-end-preserved
loop-end-preserved g c =
    let none : c.read_some-count.result ≡ 0 = omega (arith, c.if-count-gt0.false) in
    let joined = take_zero c.loop-end.end (length c.loop-end.dst - c.loop-end.end) c.loop-end.dst c.read_some-count.new.dst c.loop-end.invariant.0 (search rules) in
    (search rules, subst (Reads _ _) joined (Reads-append _ _ _ _ _ c.loop-end.invariant.1 (Reads-missing _ _ (rw none at c.read_some-count.ensures.at_start))))
