-- `next_piece`: the bytes that fit, those that do not, and the byte that then comes so often.
use Rattle.std.proofs.Common.{◌≡◌, ◌+◌, ◌-◌, min, ◌++◌, ◌∙◌, arith, length, length-append, length-take}
use Rattle.replay.proofs.Reading.{Reads-piece, take_piece, take_both}
use Rattle.replay.proofs.list.next_piece.Goals as goal

pub returns-clause-read : goal.returns-clause-read
returns-clause-read g c =
    let kept = c.fill.new.dst in
    let rest = c.skip.ensures.0 in
    let filled = c.fill-2.new.self in
    let room = length c.args.dst.now in
    let at = c.min-literal_end.result in
    let end = c.min-end.result in
    let cut = c.min-literal_end.ensures in
    let stops = c.min-end.ensures in
    let few : length kept ≡ at = omega (arith, c.fill.auto.dst, cut, length-take at c.args.dst.now) in
    let first : length kept ≡ min c.next_u16.result room = omega (arith, few, cut, c.from-length.ensures) in
    let whole : c.next_u16.result ≡ length (kept ++ rest) = omega (arith, few, cut, c.from-length.ensures, c.skip.ensures.1, length-append kept rest) in
    let last : end ≡ min (length kept + c.next_u16-2.result) room = omega (arith, few, stops, c.from-often.ensures) in
    let more : length filled ≡ end - length kept = omega (arith, few, c.fill-2.ensures.len, c.fill-2.auto.self) in
    let read = Reads-piece _ _ _ _ _ _ _ c.next_u16-2.result c.next_u8-byte.result kept rest whole c.next_u16.ensures c.fill.ensures c.skip.ensures.2 c.next_u16-2.ensures c.next_u8-byte.ensures in
    let placed = take_both at end kept filled _ _ few (omega (arith, few, more)) (omega (arith, cut, stops)) in
    let meant = take_piece room c.next_u16.result c.next_u16-2.result c.next_u8-byte.result _ end kept rest filled first whole last more (c.fill-2.ensures.after (λ y h. h)) in
    (record { literal = kept ++ rest; often = c.next_u16-2.result; byte = c.next_u8-byte.result; literal_fits = omega (arith, whole, c.next_u16.type_inv); often_fits = c.next_u16-2.type_inv }, read, placed ∙ meant)
