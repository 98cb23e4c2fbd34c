-- `put_head`: with the metadata of the first occurrence, or with its own.
use Rattle.emit.proofs.Heads.{head_raw, head_open}
use Rattle.emit.proofs.Spelling.put_head.Goals as goal

pub returns-then-flags-ne1 : goal.returns-then-flags-ne1
returns-then-flags-ne1 c = head_raw c.byte-flags.ensures.0 c.place_at-first.ensures.0 c.if-flags-ne1.true c.put_raw_head.ensures

pub returns : goal.returns
returns c = head_open c.byte-flags.ensures.0 c.place_at-first.ensures.0 c.if-flags-ne1.false c.ahead-pairs.ensures c.has_places-metadata.ensures c.put_name.ensures c.put_metadata.ensures c.put_dict_id.ensures
