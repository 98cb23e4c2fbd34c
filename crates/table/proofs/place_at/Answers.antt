-- `place_at`: three bytes behind one; where so many are not left, no place stands.
use Prim.Native.Nat.{ℕ, ◌+◌, ◌<◌}
use native.Mathlib.Omega.{arith}
use mathlib.Core.Path.{◌≡◌, ap}
use lib.ListN.{length, get_or, length-append}
use Rattle.table.specs.Table.{three, u24}
use Rattle.table.proofs.Numbers.{length_u24}
use Rattle.table.proofs.Types.{place_there}
use Rattle.table.proofs.place_at.Goals as goal

pub returns-then-w-at : goal.returns-then-w-at
returns-then-w-at c =
    let short : length c.args.w.now < c.args.at + 4 = grind (arith) in
    (λ n x ys h st. absurd (omega (arith, short, st.inside, length-append (u24 x) ys, length_u24 x)), omega arith)

pub returns : goal.returns
unfolding three
returns c =
    let p = c.args.at in
    let byte : (i j : ℕ) → p + i ≡ j → get_or c.args.w.now (p + i) 0 ≡ get_or c.args.w.now j 0 = λ i j e. ap (λ n. get_or c.args.w.now n 0) e in
    let fits = c.type_inv.w in
    let e = c.from_le_bytes.ensures in
    (place_there (omega (arith, e, byte 2 (p + 1 + 1) (omega arith), byte 3 (p + 1 + 2) (omega arith))), omega (arith, e, (fits (p + 1)).fits, (fits (p + 2)).fits, (fits (p + 3)).fits))
