-- `word`: the chunk is the eight bytes.
use Prim.Native.Nat.{◌-◌}
use native.Mathlib.Omega.{arith}
use mathlib.Core.Path.{ap, ◌∙◌}
use lib.ListN.{length, take, drop, length-drop}
use lib.Seq.{take_all}
use Rattle.std.specs.Int.{w64, from_le_bytes}
use Rattle.text.proofs.Words.{num_eight}
use Rattle.text.proofs.word.Goals as goal

pub returns : goal.returns
returns c =
    let s = c.args.s.now in
    let i = c.args.i in
    let chunk = rw c.unwrap.ensures at c.first_chunk.ensures.cases in
    let rest = take_all (length s - i) (drop i s) (simp length-drop (omega arith)) in
    c.from_le_bytes.ensures ∙ ap (from_le_bytes w64) (chunk.same ∙ ap (take 8) rest) ∙ num_eight s i c.requires
