-- The program's line where the merge is accepted, and so for P3, and for P5 parked log first. Its buffers have more than a hundred thousand
-- bytes, so the line goes by a law and not by computing.
use Prim.Native.Nat.{◌*◌, ◌≤◌}
use native.Mathlib.Omega.{arith}
use mathlib.Core.Path.{◌≡◌, refl, ap, ◌∙◌}
use mathlib.Core.List.{[], ◌∷◌, ◌++◌}
use mathlib.Core.Bool.{Bool}
use lib.ListN.{length, drop}
use lib.Seq.{take_at}
use lib.Dec.{leb→le}
use borrow.Author.Tests.{le-ltb}
use Rattle.model.specs.Numbers.{max_program_bytes, max_sheet_bytes, work_bytes_per_sheet_byte}
use Rattle.model.specs.Bytes.{Bytes, choose}
use Rattle.model.specs.Sheet.{each}
use Rattle.model.specs.Merge.{as_the_rust, parked_first}
use Rattle.model.specs.Call.{bytes, merge_answer, zeros}
use Rattle.model.specs.Program.{digit_zero, space, line_feed, decimal_of, decimal, hex_byte, hex_or_minus, line_of, program_line}
use Rattle.model.proofs.Gives.{choose_false}
use Rattle.model.proofs.Trials.{opened}
use Rattle.model.proofs.Calls.{accepted_call, zeros_length}

-- 0, 0 and the answer in hex
pub line_accepted : (parked : Bool) (input b : Bytes) → length input ≤ max_program_bytes → merge_answer parked input ≡ bytes b → length b ≤ max_sheet_bytes
    → program_line parked input ≡ digit_zero ∷ space ∷ digit_zero ∷ space ∷ (each hex_byte b ++ (line_feed ∷ []))
unfolding program_line line_of hex_or_minus decimal decimal_of choose
line_accepted parked input b w h k =
    let work = zeros (work_bytes_per_sheet_byte * max_program_bytes) in
    let answer = zeros max_sheet_bytes in
    choose_false _ _ _ (le-ltb max_program_bytes (length input) w)
    ∙ ap line_of (accepted_call {work = work} {answer = answer} (record {
      answers = h;
      work_room = omega (arith, w, zeros_length (work_bytes_per_sheet_byte * max_program_bytes));
      size = k;
      answer_room = omega (arith, k, zeros_length max_sheet_bytes);
    }))
    ∙ ap (λ a. digit_zero ∷ space ∷ digit_zero ∷ space ∷ (each hex_byte a ++ (line_feed ∷ []))) (take_at b (drop (length b) answer) (length b) refl)

abbrev P3 : Bytes
P3 = 0x02 ∷ 0x01 ∷ 0x00 ∷ 0x04 ∷ 0x01 ∷ 0x00 ∷ 0x76 ∷ 0x00 ∷ 0x02 ∷ 0x01 ∷ 0x00 ∷ 0x04 ∷ 0x01 ∷ 0x00 ∷ 0x76 ∷ 0x04 ∷ []

-- "For P3 below it prints `0 0 0201000501007604`."
pub line_for_p3 :
    program_line as_the_rust
    (0x02 ∷ 0x01 ∷ 0x00 ∷ 0x04 ∷ 0x01 ∷ 0x00 ∷ 0x76 ∷ 0x00 ∷ 0x02 ∷ 0x01 ∷ 0x00 ∷ 0x04 ∷ 0x01 ∷ 0x00 ∷ 0x76 ∷ 0x04 ∷ [])
    ≡ 0x30 ∷ 0x20 ∷ 0x30 ∷ 0x20 ∷ 0x30 ∷ 0x32 ∷ 0x30 ∷ 0x31 ∷ 0x30 ∷ 0x30 ∷ 0x30 ∷ 0x35 ∷ 0x30 ∷ 0x31 ∷ 0x30 ∷ 0x30 ∷ 0x37 ∷ 0x36 ∷ 0x30 ∷ 0x34 ∷ 0x0A ∷ []
unfolding opened
line_for_p3 =
    line_accepted as_the_rust P3 (0x02 ∷ 0x01 ∷ 0x00 ∷ 0x05 ∷ 0x01 ∷ 0x00 ∷ 0x76 ∷ 0x04 ∷ []) (leb→le 16 max_program_bytes tt) refl (leb→le 8 max_sheet_bytes tt)

abbrev P5 : Bytes
P5 = 0x02 ∷ 0x01 ∷ 0x00 ∷ 0x04 ∷ 0x01 ∷ 0x00 ∷ 0x76 ∷ 0x00 ∷ 0x02 ∷ 0x01 ∷ 0x00 ∷ 0x06 ∷ 0x01 ∷ 0x00 ∷ 0x76 ∷ 0x22 ∷ 0x02 ∷ 0x18 ∷ []

-- P5 parked log first: `0 0 02010007010076220218`
pub line_for_p5 :
    program_line parked_first
    (0x02 ∷ 0x01 ∷ 0x00 ∷ 0x04 ∷ 0x01 ∷ 0x00 ∷ 0x76 ∷ 0x00 ∷ 0x02 ∷ 0x01 ∷ 0x00 ∷ 0x06 ∷ 0x01 ∷ 0x00 ∷ 0x76 ∷ 0x22 ∷ 0x02 ∷ 0x18 ∷ [])
    ≡ 0x30 ∷ 0x20 ∷ 0x30 ∷ 0x20 ∷ 0x30 ∷ 0x32 ∷ 0x30 ∷ 0x31 ∷ 0x30 ∷ 0x30 ∷ 0x30 ∷ 0x37 ∷ 0x30 ∷ 0x31 ∷ 0x30 ∷ 0x30 ∷ 0x37 ∷ 0x36 ∷ 0x32 ∷ 0x32 ∷ 0x30 ∷ 0x32 ∷ 0x31 ∷ 0x38 ∷ 0x0A ∷ []
unfolding opened
line_for_p5 =
    line_accepted parked_first P5 (0x02 ∷ 0x01 ∷ 0x00 ∷ 0x07 ∷ 0x01 ∷ 0x00 ∷ 0x76 ∷ 0x22 ∷ 0x02 ∷ 0x18 ∷ []) (leb→le 18 max_program_bytes tt) refl (leb→le 10 max_sheet_bytes tt)
