-- How long a line can be: no longer than that of a sheet of 16,000 bytes.
use Prim.Native.Nat.{ℕ, zero, suc, ◌+◌, ◌*◌, ◌/◌, ◌%◌, ◌≤◌}
use native.Mathlib.Omega.{arith}
use mathlib.Core.Path.{◌≡◌, refl, sym, ap, subst, ◌∙◌}
use mathlib.Core.List.{List, [], ◌∷◌, ◌++◌}
use mathlib.Core.Bool.{Bool, true, false}
use lib.ListN.{length, take, drop, length-append}
use lib.Seq.{take_at}
use lib.Dec.{eqb, ltb}
use borrow.Author.Tests.{ltb-false, le-ltb}
use Rattle.model.specs.Numbers.{max_program_bytes, max_sheet_bytes, work_bytes_per_sheet_byte, accepted, input_too_long}
use Rattle.model.specs.Bytes.{Bytes, AreBytes, choose}
use Rattle.model.specs.Tree.{Schema}
use Rattle.model.specs.Sheet.{each, sheet_bytes}
use Rattle.model.specs.Merge.{empty, merge_from, try_merge}
use Rattle.model.specs.Call.{Answer, bytes, refused, merge_answer, Exit, zeros, refusal, acceptance, settled, call, merge_call}
use Rattle.model.specs.Program.{digit_zero, space, minus, line_feed, decimal_of, decimal, hex_byte, hex_or_minus, line_of, program_line}
use Rattle.model.proofs.Gives.{choose_false}
use Rattle.model.proofs.Calls.{zeros_length}
use Rattle.model.proofs.MergeAnswers.{MergeOf, merge_answered}
use Rattle.line.specs.Prints.{max_line_bytes}

pub length_digits : (d n : ℕ) → length (decimal_of d n) ≤ d
unfolding decimal_of choose
length_digits zero n = omega arith
length_digits (suc k) n = go (ltb n 10) (length_digits k (n / 10))
  where
    go : (t : Bool) → length (decimal_of k (n / 10)) ≤ k
        → length (choose t (λ u. (digit_zero + n) ∷ []) λ u. decimal_of k (n / 10) ++ ((digit_zero + n % 10) ∷ [])) ≤ suc k
    go true h = omega arith
    go false h = omega (arith, h, length-append (decimal_of k (n / 10)) ((digit_zero + n % 10) ∷ []))

pub length_decimal : (n : ℕ) → length (decimal n) ≤ 20
unfolding decimal
length_decimal n = length_digits 20 n

pub length_hex : (s : Bytes) → length (each hex_byte s) ≡ 2 * length s
unfolding hex_byte
length_hex [] = refl
length_hex (b ∷ s) = omega (arith, length_hex s)

-- the pieces of a line
line_length : (e : Exit) → length (line_of e) ≡ length (decimal e.number) + length (decimal e.place) + length (hex_or_minus e) + 3
unfolding line_of
line_length e =
    let shown = hex_or_minus e ++ (line_feed ∷ []) in
    omega (
      arith,
      length-append (decimal e.number) (space ∷ (decimal e.place ++ (space ∷ shown))),
      length-append (decimal e.place) (space ∷ shown),
      length-append (hex_or_minus e) (line_feed ∷ []),
    )

-- a refusal: `-`; and each number has at most 20 digits, whatever it is
refused_line : (n p : ℕ) (work answer : Bytes) → length (line_of (refusal n p work answer)) ≤ 20 + 20 + 1 + 3
unfolding hex_or_minus refusal choose
refused_line n p work answer =
    omega (arith, line_length (refusal n p work answer), length_decimal n, length_decimal p, go (eqb n accepted))
  where
    go : (t : Bool) → length (choose t (λ u. each hex_byte (take 0 answer)) (λ u. minus ∷ [])) ≤ 1
    go true = omega arith
    go false = omega arith

-- an acceptance: 0, 0, and two digits a byte
accepted_line : (b rest work : Bytes) → length (line_of (record { number = accepted; place = 0; length = length b; answer = b ++ rest; work = work })) ≡ 5 + 2 * length b
unfolding hex_or_minus decimal decimal_of choose
accepted_line b rest work =
    let shown = ap (λ a. length (each hex_byte a)) (take_at b rest (length b) refl) ∙ length_hex b in
    omega (arith, line_length (record { number = accepted; place = 0; length = length b; answer = b ++ rest; work = work }), shown)

settled_line : (outcome : Answer) (work answer : Bytes) → ((b : Bytes) → outcome ≡ bytes b → length b ≤ max_program_bytes) → max_sheet_bytes ≤ length answer
    → length (line_of (settled outcome work answer)) ≤ max_line_bytes
unfolding settled acceptance
settled_line (bytes b) work answer h room =
    let k = h b refl in
    let e = choose_false _ _ _ (le-ltb max_sheet_bytes (length b) (omega (arith, k))) ∙ choose_false _ _ _ (le-ltb (length answer) (length b) (omega (arith, k, room))) in
    subst (λ x. length (line_of x) ≤ max_line_bytes) (sym e) (omega (arith, k, accepted_line b (drop (length b) answer) work))
settled_line (refused n p) work answer h room = omega (arith, refused_line n p work answer)

-- the merge of no sheet is a sheet of one byte; of one or more it is no longer than they are
merged_length : (parked : Bool) (train b : Bytes) (xs : List Schema) (z : Schema) → length train ≤ max_program_bytes → MergeOf parked train b xs z → length b ≤ max_program_bytes
unfolding try_merge merge_from sheet_bytes
merged_length parked train b [] z h m =
    let e : z ≡ empty = (let i = m.merges in cc) in
    omega (arith, ap length (m.written ∙ ap sheet_bytes e))
merged_length parked train b (x ∷ xs) z h m = omega (arith, m.size, h)

-- the line of a merge whose buffers have so many bytes
called_line : (parked : Bool) (input : Bytes) → AreBytes input → length input ≤ max_program_bytes → (work answer : Bytes)
    → work_bytes_per_sheet_byte * max_program_bytes ≤ length work → max_sheet_bytes ≤ length answer → length (line_of (merge_call parked input work answer)) ≤ max_line_bytes
unfolding call
called_line parked input byte h work answer f g =
    let e = choose_false _ _ _ (le-ltb (length work) (work_bytes_per_sheet_byte * length input) (omega (arith, h, f))) in
    subst (λ x. length (line_of x) ≤ max_line_bytes) (sym e)
    (settled_line (merge_answer parked input) (zeros (length work)) answer
    (λ b i. let (xs, z, m) = merge_answered parked input b byte i in merged_length parked input b xs z h m) g)

-- a buffer of so many bytes holds the line for every input
pub program_line_length : (parked : Bool) (input : Bytes) → AreBytes input → length (program_line parked input) ≤ max_line_bytes
unfolding program_line choose
program_line_length parked input byte = go (ltb max_program_bytes (length input)) refl
  where
    go : (t : Bool) → ltb max_program_bytes (length input) ≡ t
        → length (choose t (λ u. line_of (refusal input_too_long 0 [] [])) (λ u. line_of (merge_call parked input (zeros (work_bytes_per_sheet_byte * max_program_bytes)) (zeros max_sheet_bytes)))) ≤ max_line_bytes
    go true e = omega (arith, refused_line input_too_long 0 [] [])
    go false e =
        called_line parked input byte (ltb-false max_program_bytes (length input) e) _ _
        (omega (arith, zeros_length (work_bytes_per_sheet_byte * max_program_bytes))) (omega (arith, zeros_length max_sheet_bytes))
