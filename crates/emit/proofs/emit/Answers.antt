-- `emit`: the map, the metadata, the columns.
use borrow.Author.Rules.{rules}
use Rattle.buffer.proofs.Puts.{filled}
use Rattle.emit.proofs.Sheets.{sheet_puts}
use Rattle.emit.proofs.emit.Goals as goal

pub returns : goal.returns
returns c x k y t st =
    filled _ c.new-out.ensures (search rules)
    (sheet_puts c.skip_places-columns.ensures c.has_places.ensures c.from.ensures c.has_entries.ensures c.from-2.ensures c.put_one.ensures c.put_metadata.ensures c.put_columns.ensures x k y t st)
