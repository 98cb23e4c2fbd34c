-- Item 1 speaks of something, in each mode; its condition on the number of sheets is needed, of both trains; and the saved answer comes first.
use Prim.Native.Nat.{ℕ, zero, suc, ◌+◌, ◌*◌, ◌≤◌, ◌<◌}
use native.Mathlib.Omega.{arith}
use mathlib.Core.Path.{◌≡◌, refl, sym, ap, subst, ◌∙◌}
use mathlib.Core.List.{List, [], ◌∷◌, ◌++◌}
use mathlib.Core.Bool.{Bool, true, false}
use lib.ListN.{length, replicate, length-replicate, replicate-append-replicate}
use lib.Dec.{leb→le}
use borrow.Author.Tests.{le-ltb}
use Rattle.model.specs.Numbers.{max_sheet_bytes, max_sheets, too_many_sheets}
use Rattle.model.specs.Bytes.{Bytes, AreBytes, Every}
use Rattle.model.specs.Tree.{Schema}
use Rattle.model.specs.Sheet.{each, sheet_bytes}
use Rattle.model.specs.WellFormed.{Fits}
use Rattle.model.specs.Read.{got, bad, read_train}
use Rattle.model.specs.Merge.{parked_first, empty, merge_from, try_merge}
use Rattle.model.specs.Call.{bytes, refused, and_then, sheet_answer, merge_answer, written, zeros, refusal, settled, call, merge_call}
use Rattle.model.specs.SavedAnswer.{NotTooManySheets, sheet_count, place_behind, SameBehind, MergesOnto}
use Rattle.model.specs.Examples as sheets
use Rattle.model.proofs.Gives.{choose_false}
use Rattle.model.proofs.Trials.{opened}
use Rattle.model.proofs.WholeSheets.{train_reads, train_too_many}
use Rattle.model.proofs.Calls.{Accepted, accepted_call, accepted_written, answer_then, zeros_length}
use Rattle.model.proofs.MergeKeeps.{empty_well_formed}
use Rattle.model.proofs.Demand3Instances.{are_bytes}
use Rattle.model.proofs.SavedAnswer.{merges_onto_saved_answer}

-- P3's two sheets come to one, to which a log adds a column w; what that gives stays as it is. In the log's place v:Utf8 clashes, and an
-- unknown bit is no sheet: at another place.

abbrev P3 : Bytes
P3 = sheets.v sheets.null ++ sheets.v sheets.int32

abbrev saved : Bytes
saved = sheets.one (sheets.nullable 0x76 sheets.int32)

abbrev log : Bytes
log = sheets.two (sheets.field 0x76 sheets.int32) (sheets.field 0x77 sheets.utf8)

abbrev table : Bytes
table = sheets.two (sheets.nullable 0x76 sheets.int32) (sheets.field 0x77 sheets.utf8)

pub instance_answers : (parked : Bool) →
    (merge_answer parked P3 ≡ bytes saved)
    × (merge_answer parked (saved ++ log) ≡ bytes table) × (merge_answer parked (P3 ++ log) ≡ bytes table) × (merge_answer parked table ≡ bytes table)
    × (merge_answer parked (saved ++ sheets.v sheets.utf8) ≡ refused 22 1) × (merge_answer parked (P3 ++ sheets.v sheets.utf8) ≡ refused 22 2)
    × (merge_answer parked (saved ++ (4 ∷ [])) ≡ refused 2 8) × (merge_answer parked (P3 ++ (4 ∷ [])) ≡ refused 2 16)
unfolding opened
instance_answers false = (refl, refl, refl, refl, refl, refl, refl, refl)
instance_answers true = (refl, refl, refl, refl, refl, refl, refl, refl)

-- the hypotheses are met, and what follows from them holds

reads_through : (train : Bytes) {xs : List Schema} {e : ℕ} → read_train train ≡ got xs e → NotTooManySheets train
reads_through train {xs} {e} h p k = let q : got xs e ≡ bad 33 p = sym h ∙ k in let z : ◌≡◌ {A = ℕ} 0 1 = cc in omega arith

pub instance_onto : (parked : Bool)
    → SameBehind (place_behind 1 8) (place_behind 2 16) (merge_call parked (saved ++ log) (zeros 100) (zeros 20)) (merge_call parked (P3 ++ log) (zeros 200) (zeros 20))
unfolding opened sheet_count
instance_onto false =
    merges_onto_saved_answer false P3 (are_bytes P3 refl) (zeros 64) (zeros 8) refl log (zeros 100) (zeros 200) (zeros 20) (zeros 20)
    (reads_through (saved ++ log) refl) (reads_through (P3 ++ log) refl) (leb→le 84 100 tt) (leb→le 116 200 tt) refl
instance_onto true =
    merges_onto_saved_answer true P3 (are_bytes P3 refl) (zeros 64) (zeros 8) refl log (zeros 100) (zeros 200) (zeros 20) (zeros 20)
    (reads_through (saved ++ log) refl) (reads_through (P3 ++ log) refl) (leb→le 84 100 tt) (leb→le 116 200 tt) refl

-- behind two sheets of 16 bytes: a clash at the further sheet 1, an unknown bit at the further byte 1, and no place for 30, 31 and acceptance
pub places_counted :
    (place_behind 2 16 22 1 ≡ 3) × (place_behind 2 16 2 1 ≡ 17) × (place_behind 2 16 30 1 ≡ 0) × (place_behind 2 16 31 1 ≡ 0) × (place_behind 2 16 0 1 ≡ 0)
unfolding opened place_behind
places_counted = (refl, refl, refl, refl, refl)

-- parked log first, P5's two sheets come to a nullable ordered dictionary, and then an unordered one clashes, at another place

abbrev P5 : Bytes
P5 = sheets.v sheets.null ++ sheets.one (sheets.ordered 0x76 sheets.p5)

abbrev saved_parked : Bytes
saved_parked = sheets.one (sheets.nullable_ordered 0x76 sheets.p5)

pub instance_parked :
    (merge_answer parked_first P5 ≡ bytes saved_parked)
    × (merge_answer parked_first (saved_parked ++ sheets.v sheets.p5) ≡ refused 20 1) × (merge_answer parked_first (P5 ++ sheets.v sheets.p5) ≡ refused 20 2)
unfolding opened
instance_parked = (refl, refl, refl)

-- Struct{a:Int8, a:Int8} is kept as it is where a Null takes it, and where it is merged onto nothing; the next Struct folds it, both times.

abbrev twice : Bytes
twice = sheets.struct 2 (sheets.field sheets.a sheets.int8 ++ sheets.field sheets.a sheets.int8)

abbrev unfolded : Bytes
unfolded = sheets.one (sheets.nullable 0x76 twice)

abbrev folded : Bytes
folded = sheets.one (sheets.nullable 0x76 (sheets.struct 1 (sheets.field sheets.a sheets.int8)))

pub instance_struct : (parked : Bool) →
    (merge_answer parked (sheets.v sheets.null ++ sheets.v twice) ≡ bytes unfolded)
    × (merge_answer parked unfolded ≡ bytes unfolded)
    × (merge_answer parked (unfolded ++ sheets.v (sheets.struct 0 [])) ≡ bytes folded)
    × (merge_answer parked ((sheets.v sheets.null ++ sheets.v twice) ++ sheets.v (sheets.struct 0 [])) ≡ bytes folded)
unfolding opened
instance_struct false = (refl, refl, refl, refl)
instance_struct true = (refl, refl, refl, refl)

-- Trains of so many sheets 00, by laws: 256 of them are too many to compute with.

unfoldable empties : ℕ → Bytes
empties n = replicate n 0

empties_length : (n : ℕ) → length (empties n) ≡ n
unfolding empties
empties_length n = length-replicate n 0

empties_sheets : (n : ℕ) → each sheet_bytes (replicate n empty) ≡ empties n
unfolding opened empties
empties_sheets zero = refl
empties_sheets (suc n) = ap (λ s. 0 ∷ s) (empties_sheets n)

empties_fit : (n : ℕ) → Every Fits (replicate n empty)
unfolding opened
empties_fit zero = tt
empties_fit (suc n) = (record { well_formed = empty_well_formed; size = leb→le 1 max_sheet_bytes tt }, empties_fit n)

-- at most 256 read, and come to one
empties_read : (n : ℕ) → n ≤ max_sheets → read_train (empties n) ≡ got (replicate n empty) (length (empties n))
empties_read n w =
    subst (λ s. read_train s ≡ got (replicate n empty) (length s)) (empties_sheets n)
    (train_reads (replicate n empty) (empties_fit n) (omega (arith, w, length-replicate n empty)))

empties_merge : (parked : Bool) (i n : ℕ) → (e : ℕ) × (merge_from parked i empty (replicate n empty) ≡ got empty e)
unfolding opened
empties_merge parked i zero = (i, refl)
empties_merge parked i (suc n) = empties_merge parked (suc i) n

-- with room for the answer and four bytes for each sheet
empties_accepted : (parked : Bool) (n : ℕ) → n ≤ max_sheets → Accepted (length (empties n)) (merge_answer parked (empties n)) (zeros (4 * n)) (zeros 1) (empties 1)
unfolding merge_answer sheet_answer try_merge sheet_bytes empties
empties_accepted parked n w =
    record {
      answers = answer_then (λ xs. sheet_answer (try_merge parked xs)) (empties_read n w) (answer_then (λ x. bytes (sheet_bytes x)) (empties_merge parked 0 n).1 refl);
      work_room = omega (arith, zeros_length (4 * n), empties_length n);
      size = leb→le 1 max_sheet_bytes tt;
      answer_room = omega (arith, zeros_length 1);
    }

-- more are refused
empties_refused : (parked : Bool) (n : ℕ) → max_sheets < n → (merge_call parked (empties n) (zeros (4 * n)) (zeros 1)).number ≡ too_many_sheets
unfolding call settled merge_answer and_then refusal
empties_refused parked n w =
    let (p, r) = train_too_many (replicate n empty) (empties_fit n) (omega (arith, w, length-replicate n empty)) in
    let reads : read_train (empties n) ≡ bad too_many_sheets p = subst (λ s. read_train s ≡ bad too_many_sheets p) (empties_sheets n) r in
    let answers : merge_answer parked (empties n) ≡ refused too_many_sheets p = ap (λ t. and_then t λ xs. sheet_answer (try_merge parked xs)) reads in
    ap (λ x. x.number)
    (choose_false _ _ _ (le-ltb (length (zeros (4 * n))) _ (omega (arith, zeros_length (4 * n), empties_length n)))
    ∙ ap (λ x. settled x (zeros (length (zeros (4 * n)))) (zeros 1)) answers)

-- what the law says of some first and some further
empties_bytes : (n : ℕ) → AreBytes (empties n)
unfolding empties
empties_bytes zero zero = omega arith
empties_bytes zero (suc i) = omega arith
empties_bytes (suc n) zero = omega arith
empties_bytes (suc n) (suc i) = empties_bytes n i

empties_join : (m n : ℕ) → empties m ++ empties n ≡ empties (m + n)
unfolding empties
empties_join m n = replicate-append-replicate m n 0

empties_onto : (parked : Bool) (Onto All : Bytes → Type 0) → MergesOnto parked Onto All → (m n : ℕ) → m ≤ max_sheets → Onto (empties (1 + n)) → All (empties (m + n))
    → (merge_call parked (empties (1 + n)) (zeros (4 * (1 + n))) (zeros 1)).number ≡ (merge_call parked (empties (m + n)) (zeros (4 * (m + n))) (zeros 1)).number
empties_onto parked Onto All law m n w p q =
    let first = empties_accepted parked m w in
    let onto : empties (1 + n) ≡ written (merge_call parked (empties m) (zeros (4 * m)) (zeros 1)) ++ empties n =
    sym (ap (λ s. s ++ empties n) (accepted_written first) ∙ empties_join 1 n) in
    let all : empties (m + n) ≡ empties m ++ empties n = sym (empties_join m n) in
    let same = law (empties m) (empties_bytes m) (zeros (4 * m)) (zeros 1) (ap (λ e. e.number) (accepted_call first)) (empties n)
    (zeros (4 * (1 + n))) (zeros (4 * (m + n))) (zeros 1) (zeros 1) (subst Onto onto p) (subst All all q)
    (omega (arith, zeros_length (4 * (1 + n)), ap length onto, empties_length (1 + n))) (omega (arith, zeros_length (4 * (m + n)), ap length all, empties_length (m + n))) refl in
    ap (λ s. (merge_call parked s (zeros (4 * (1 + n))) (zeros 1)).number) onto ∙ same.number ∙ ap (λ s. (merge_call parked s (zeros (4 * (m + n))) (zeros 1)).number) (sym all)

-- Without the condition on the train that begins with the saved answer it is false: with none first and 256 sheets 00 further, that train
-- has 257. And without the condition on the train of all: with 256 first and one further.

empties_through : (n : ℕ) → n ≤ max_sheets → NotTooManySheets (empties n)
empties_through n w = reads_through (empties n) (empties_read n w)

pub onto_needed : (parked : Bool) → MergesOnto parked (λ train. Unit {0}) NotTooManySheets → ⊥
onto_needed parked law =
    let z : ◌≡◌ {A = ℕ} 33 0 = sym (empties_refused parked 257 (omega arith))
    ∙ empties_onto parked (λ train. Unit {0}) NotTooManySheets law 0 256 (omega arith) tt (empties_through 256 (omega arith))
    ∙ ap (λ e. e.number) (accepted_call (empties_accepted parked 256 (omega arith))) in
    omega (arith, z)

pub all_needed : (parked : Bool) → MergesOnto parked NotTooManySheets (λ train. Unit {0}) → ⊥
all_needed parked law =
    let z : ◌≡◌ {A = ℕ} 0 33 = sym (ap (λ e. e.number) (accepted_call (empties_accepted parked 2 (omega arith))))
    ∙ empties_onto parked NotTooManySheets (λ train. Unit {0}) law 256 1 (omega arith) (empties_through 2 (omega arith)) tt
    ∙ empties_refused parked 257 (omega arith) in
    omega (arith, z)

-- It is no instance of a law that lets any sheets be merged first: v:Int8 and then a sheet of the schema metadata k = 1, behind v:Int16 with
-- k = 2. All at once it is 22 at the sheet of v:Int8; with those two merged first, whose metadata comes before their columns, it is 25.

abbrev metadata : ℕ → Bytes → Bytes
metadata value columns = 1 ∷ 0 ∷ 1 ∷ 0 ∷ 0x6B ∷ 1 ∷ 0 ∷ value ∷ columns

abbrev last : Bytes
last = sheets.v sheets.int8 ++ (0x01 ∷ metadata 0x31 [])

abbrev last_saved : Bytes
last_saved = 0x03 ∷ metadata 0x31 (1 ∷ 0 ∷ sheets.field 0x76 sheets.int8)

abbrev earlier : Bytes
earlier = 0x03 ∷ metadata 0x32 (1 ∷ 0 ∷ sheets.field 0x76 (3 ∷ []))

pub first_needed : (parked : Bool) → (merge_answer parked last ≡ bytes last_saved) × (merge_answer parked (earlier ++ last_saved) ≡ refused 25 1) × (merge_answer parked (earlier ++ last) ≡ refused 22 1)
unfolding opened
first_needed parked = (refl, refl, refl)
