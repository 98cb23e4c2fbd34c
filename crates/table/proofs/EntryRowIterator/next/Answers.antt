-- `next` of a row of entries: the entry that stands where it begins.
use native.Mathlib.Omega.{arith}
use mathlib.Core.Path.{refl, subst}
use Rattle.table.specs.Entries.{SkipsEntries}
use Rattle.table.proofs.Entries.{none_passed}
use Rattle.table.proofs.EntryRowIterator.next.Goals as goal

pub returns-then-behind-place-clause-steps : goal.returns-then-behind-place-clause-steps
returns-then-behind-place-clause-steps c =
    let row = c.args.self.now in
    let p = c.in_ok-place.ensures in
    let skips = subst (λ n. SkipsEntries row.w.now n row.levels c.next_entry-behind.result) p.0 c.next_entry-behind.ensures in
    (refl, refl, (refl, none_passed row.levels skips (omega (arith, p.0))))

pub returns-clause-steps : goal.returns-clause-steps
returns-clause-steps c =
    let row = c.args.self.now in
    let p = c.in_ok-place.ensures in
    let skips = subst (λ n. SkipsEntries row.w.now n row.levels c.next_entry-behind.result) p.0 c.next_entry-behind.ensures in
    (refl, refl, (p.0, p.1, p.2, omega (arith, p.0), skips))
