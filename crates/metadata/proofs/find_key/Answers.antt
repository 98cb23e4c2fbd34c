-- `find_key`: behind so many as are below the key.
use Rattle.std.proofs.Common.{rules}
use Rattle.std.proofs.lemmas.Iterator.Consumers.{YieldsList-at}
use Rattle.table.proofs.Given.{row_gives}
use Rattle.table.proofs.TakingWhile.{front_counted}
use Rattle.metadata.proofs.Texts.{KeyBelow}
use Rattle.metadata.proofs.Finding.{find_counted}
use Rattle.metadata.proofs.find_key.Goals as goal

pub returns : goal.returns
returns c =
    let t = c.take_while.ensures in
    find_counted c.count.result λ ps g st.
    front_counted _ _ (λ p b. KeyBelow c.args.table.now.train.now p c.args.q b) (λ x b h k. search rules) c.count.ensures.ran t.closure t.done
    (YieldsList-at t.source (row_gives ps c.places.ensures g st))
