-- Document 02, Item 1: merging onto a saved answer. What was merged first comes to the same schema both times, and the rest is merged onto it.
use Prim.Native.Nat.{ℕ, suc, ◌+◌, ◌≤◌}
use native.Mathlib.Omega.{arith}
use mathlib.Core.Path.{◌≡◌, refl, sym, ap, subst, subst₂, ◌∙◌}
use mathlib.Core.List.{List, [], ◌∷◌, ◌++◌, append-nil}
use mathlib.Core.Bool.{Bool, true, false, not}
use lib.ListN.{length, drop}
use lib.Seq.{take_at}
use lib.Dec.{ltb}
use borrow.Author.Tests.{le-ltb, not-true}
use Rattle.model.specs.Numbers.{max_sheet_bytes, max_sheets, too_many_sheets, schema_metadata_clash, answer_too_long, answer_buffer_short, reading_numbers, clash_numbers}
use Rattle.model.specs.Bytes.{Bytes, AreBytes, Every, choose, all, among}
use Rattle.model.specs.Tree.{Schema}
use Rattle.model.specs.Sheet.{each, sheet_bytes}
use Rattle.model.specs.Read.{Step, got, bad, next, read_train}
use Rattle.model.specs.Merge.{Merged, done, clash, ◌>>=◌, pour, merge_by_name, merge_column, merge_schema, empty, placed, merge_from, try_merge}
use Rattle.model.specs.Call.{Answer, bytes, refused, and_then, Exit, written, sheet_answer, merge_answer, zeros, refusal, acceptance, settled, call, merge_call}
use Rattle.model.specs.Growth.{names}
use Rattle.model.specs.WellFormed.{WellFormedSchema, Fits}
use Rattle.model.specs.SavedAnswer.{WorkRoom, NotTooManySheets, sheet_count, place_behind, SameBehind, MergesOntoSavedAnswer}
use Rattle.model.proofs.Steps as steps
use Rattle.model.proofs.Steps.{Holds, of_got, next_got, next_holds, holds_map}
use Rattle.model.proofs.Gives.{choose_true, choose_false}
use Rattle.model.proofs.SortedMetadata.{merge_into_none}
use Rattle.model.proofs.Grows.{Apart, pour_distinct}
use Rattle.model.proofs.Standing.{names_apart}
use Rattle.model.proofs.WholeSheets.{train_reads, train_exact}
use Rattle.model.proofs.MergeAnswers.{merge_answered}
use Rattle.model.proofs.Demand3.{merge_append}
use Rattle.model.proofs.Calls.{accepted_written, call_accepted, answer_then}
use Rattle.model.proofs.Refusals.{train_numbers, Refuses, gives, stops, Among, among_all, among_front, train_refuses, merge_from_refuses, merge_numbered}
use Rattle.model.proofs.Alike as alike
use Rattle.model.proofs.Alike.{Alike, next_alike, Moved}
use Rattle.model.proofs.Behind.{NotTooMany, train_behind}

-- A place in what comes further, behind so many sheets of so many bytes

no_reading : (n : ℕ) → Among clash_numbers n → among n reading_numbers ≡ false
unfolding all among
no_reading n h = not-true _ (among_all (λ n. not (among n reading_numbers)) clash_numbers refl n h)

module _ (sheets size : ℕ) where
  reading_behind : (n p : ℕ) → Among reading_numbers n → place_behind sheets size n p ≡ size + p
  unfolding place_behind
  reading_behind n p h = choose_true _ _ _ h

  clash_behind : (n p : ℕ) → Among clash_numbers n → place_behind sheets size n p ≡ sheets + p
  unfolding place_behind
  clash_behind n p h = choose_false _ _ _ (no_reading n h) ∙ choose_true _ _ _ h

  -- an answer to what comes further, its place counted on
  behind : Answer → Answer
  behind (bytes b) = bytes b
  behind (refused n p) = refused n (place_behind sheets size n p)

  -- so a merge, whose places are so many sheets on
  sheet_behind : {r r' : Step Schema} → Alike (Moved sheets) r r' → Refuses (Among clash_numbers) r → sheet_answer r' ≡ behind (sheet_answer r)
  unfolding sheet_answer and_then behind
  sheet_behind (alike.value h) g = refl
  sheet_behind (alike.refusal {n} {p} h) (stops k) = ap (refused n) (h ∙ sym (clash_behind n p k))

  -- and reading, whose places are so many bytes on, with what is answered to its value
  train_answer : (ws : List Schema) (f f' : List Schema → Answer) (r : Step (List Schema)) {r' : Step (List Schema)} → Alike (Moved size) (next r λ vs e. got (ws ++ vs) e) r'
      → Refuses (Among reading_numbers) r → ((vs : List Schema) → f' (ws ++ vs) ≡ behind (f vs)) → and_then r' f' ≡ behind (and_then r f)
  unfolding and_then behind next
  train_answer ws f f' (got vs e) (alike.value h) g k = k vs
  train_answer ws f f' (bad n p) (alike.refusal h) (stops g) k = ap (refused n) (h ∙ sym (reading_behind n p g))

-- what comes further is refused by a number of reading alone, where no 257th sheet begins
further_refuses : (size : ℕ) (ws : List Schema) (r : Step (List Schema)) {r' : Step (List Schema)} → Alike (Moved size) (next r λ vs e. got (ws ++ vs) e) r'
    → NotTooMany r' → Refuses (Among train_numbers) r → Refuses (Among reading_numbers) r
unfolding next
further_refuses size ws (got vs e) a h g = gives
further_refuses size ws (bad n p) (alike.refusal {p' = q} a) h (stops g) = stops (among_front reading_numbers too_many_sheets n g λ e. h q (ap (λ n. bad n q) e))

-- So the calls: 30 and 31 hang on the answer's length alone

module _ (sheets size sheets' size' : ℕ) where
  abbrev Same : Exit → Exit → Type 0
  Same e e' = SameBehind (place_behind sheets size) (place_behind sheets' size') e e'

  refused_same : (n p q q' : ℕ) (work work' answer answer' : Bytes) → q ≡ place_behind sheets size n p → q' ≡ place_behind sheets' size' n p
      → Same (refusal n q work answer) (refusal n q' work' answer')
  unfolding refusal
  refused_same n p q q' work work' answer answer' h k = record { number = refl; length = refl; answer = refl; further = p; placed = h; placed' = k }

  accepted_same : (b work work' answer answer' : Bytes) → length answer ≡ length answer' → Same (acceptance b work answer) (acceptance b work' answer')
  unfolding acceptance choose place_behind among
  accepted_same b work work' answer answer' e =
      subst (λ n. Same (acceptance b work answer)
      (choose (ltb max_sheet_bytes (length b)) (λ u. refusal answer_too_long 0 work' answer') λ u.
      choose (ltb n (length b)) (λ u. refusal answer_buffer_short 0 work' answer') λ u.
      record { number = 0; place = 0; length = length b; answer = b ++ drop (length b) answer'; work = work' })) e
      (go (ltb max_sheet_bytes (length b)) (ltb (length answer) (length b)))
    where
      go : (s t : Bool) → Same
          (choose s (λ u. refusal answer_too_long 0 work answer) λ u. choose t (λ u. refusal answer_buffer_short 0 work answer) λ u.
          record { number = 0; place = 0; length = length b; answer = b ++ drop (length b) answer; work = work })
          (choose s (λ u. refusal answer_too_long 0 work' answer') λ u. choose t (λ u. refusal answer_buffer_short 0 work' answer') λ u.
          record { number = 0; place = 0; length = length b; answer = b ++ drop (length b) answer'; work = work' })
      go true t = refused_same answer_too_long 0 0 0 work work' answer answer' refl refl
      go false true = refused_same answer_buffer_short 0 0 0 work work' answer answer' refl refl
      go false false =
          record {
            number = refl;
            length = refl;
            answer = take_at b (drop (length b) answer) (length b) refl ∙ sym (take_at b (drop (length b) answer') (length b) refl);
            further = 0;
            placed = refl;
            placed' = refl;
          }

  settled_same : (o : Answer) (work work' answer answer' : Bytes) → length answer ≡ length answer' → Same (settled (behind sheets size o) work answer) (settled (behind sheets' size' o) work' answer')
  unfolding settled behind
  settled_same (bytes b) work work' answer answer' e = accepted_same b work work' answer answer' e
  settled_same (refused n p) work work' answer answer' e = refused_same n p _ _ work work' answer answer' refl refl

  -- two calls with room, whose answers are one answer to what comes further
  call_same : (given given' : ℕ) (o x x' : Answer) (work work' answer answer' : Bytes) → WorkRoom given work → WorkRoom given' work' → length answer ≡ length answer'
      → x ≡ behind sheets size o → x' ≡ behind sheets' size' o → Same (call given x work answer) (call given' x' work' answer')
  unfolding call
  call_same given given' o x x' work work' answer answer' w w' e p p' =
      let q : call given x work answer ≡ settled (behind sheets size o) (zeros (length work)) answer =
      choose_false _ _ _ (le-ltb (length work) _ w) ∙ ap (λ x. settled x (zeros (length work)) answer) p in
      let q' : call given' x' work' answer' ≡ settled (behind sheets' size' o) (zeros (length work')) answer' =
      choose_false _ _ _ (le-ltb (length work') _ w') ∙ ap (λ x. settled x (zeros (length work')) answer') p' in
      subst₂ Same (sym q) (sym q') (settled_same o (zeros (length work)) (zeros (length work')) answer answer' e)

-- Merging behind whole sheets

placed_moved : {A : Type 0} (n i j : ℕ) (r : Merged A) → Moved n i j → Alike (Moved n) (placed i r) (placed j r)
unfolding placed
placed_moved n i j (done a) h = let k : Moved n (suc i) (suc j) = omega (arith, h) in alike.value k
placed_moved n i j (clash m) h = alike.refusal h

placed_count : {A : Type 0} (i : ℕ) (r : Merged A) → Holds (λ a e. e ≡ suc i) (placed i r)
unfolding placed
placed_count i (done a) = steps.value refl
placed_count i (clash n) = steps.refusal

module _ (parked : Bool) where
  -- the number of the first sheet is nothing but a place
  from_moved : (n i j : ℕ) (x : Schema) (ys : List Schema) → Moved n i j → Alike (Moved n) (merge_from parked i x ys) (merge_from parked j x ys)
  unfolding merge_from
  from_moved n i j x [] h = alike.value h
  from_moved n i j x (y ∷ ys) h = next_alike (placed_moved n i j (merge_schema parked x y) h) λ z e e' h. from_moved n e e' z ys h

  -- a merge of so many sheets ends behind them
  from_count : (i : ℕ) (x : Schema) (ys : List Schema) → Holds (λ z e. e ≡ i + length ys) (merge_from parked i x ys)
  unfolding merge_from
  from_count i x [] = steps.value {e = i} (omega arith)
  from_count i x (y ∷ ys) =
      next_holds (placed_count i (merge_schema parked x y)) λ z j h.
      holds_map (from_count j z ys) λ w e k. omega (arith, h, k)

  -- the answer to further bytes, merged onto a schema
  answer_onto : Schema → Bytes → Answer
  answer_onto z further = and_then (read_train further) λ vs. sheet_answer (merge_from parked 0 z vs)

  -- whole sheets that come to a schema, and whatever bytes behind them: these are merged onto that schema, and their places count on
  merge_behind : (ws : List Schema) (z : Schema) (i : ℕ) (further : Bytes) → Every Fits ws → length ws ≤ max_sheets → try_merge parked ws ≡ got z i
      → NotTooManySheets (each sheet_bytes ws ++ further)
      → merge_answer parked (each sheet_bytes ws ++ further) ≡ behind (length ws) (length (each sheet_bytes ws)) (answer_onto z further)
  unfolding answer_onto merge_answer try_merge
  merge_behind ws z i further f w m h =
      let size = length (each sheet_bytes ws) in
      let count : i ≡ 0 + length ws = of_got (subst (Holds (λ z e. e ≡ 0 + length ws)) m (from_count 0 empty ws)) in
      let read = train_behind ws further f w h in
      train_answer (length ws) size ws _ _ (read_train further) read (further_refuses size ws (read_train further) read h (train_refuses further)) λ vs.
      ap sheet_answer (merge_append parked 0 empty ws vs ∙ next_got _ m refl)
      ∙ sheet_behind (length ws) size (from_moved (length ws) 0 i z vs (omega (arith, count))) (merge_from_refuses parked 0 z vs)

  -- The saved answer

  -- sheets that were merged, and the schema that they came to, which comes to itself
  record Saved (sheets b : Bytes) (xs : List Schema) (z : Schema) : Type 0 where
    given : sheets ≡ each sheet_bytes xs
    fit : Every Fits xs
    count : length xs ≤ max_sheets
    place : ℕ
    merges : try_merge parked xs ≡ got z place
    written : b ≡ sheet_bytes z
    fits : Fits z
    again : try_merge parked (z ∷ []) ≡ got z 1

  -- a schema with each column name once is pushed onto nothing as it is: what lies inside its columns is not looked at
  onto_nothing : (z : Schema) → WellFormedSchema z → Apart (names z.columns) → merge_schema parked empty z ≡ done z
  unfolding merge_schema ◌>>=◌
  onto_nothing z w d =
      ap (λ r. r >>= λ m. pour (merge_by_name (merge_column parked)) [] z.columns >>= λ cs. done (record { metadata = m; columns = cs })) (merge_into_none schema_metadata_clash z.metadata w.metadata)
      ∙ ap (λ r. r >>= λ cs. done (record { metadata = z.metadata; columns = cs })) (pour_distinct (merge_column parked) [] z.columns d)

  comes_to_itself : (z : Schema) → WellFormedSchema z → Apart (names z.columns) → try_merge parked (z ∷ []) ≡ got z 1
  unfolding try_merge merge_from placed
  comes_to_itself z w d = next_got _ (ap (placed 0) (onto_nothing z w d)) refl

  saved_answer : (sheets b : Bytes) → AreBytes sheets → merge_answer parked sheets ≡ bytes b → length b ≤ max_sheet_bytes → (xs : List Schema) × (z : Schema) × Saved sheets b xs z
  saved_answer sheets b byte h w =
      let (xs, z, m) = merge_answered parked sheets b byte h in
      let (g, f, c) = of_got (subst (Holds _) m.reads (train_exact sheets byte)) in (
        xs,
        z,
        record {
          given = g;
          fit = f;
          count = c;
          place = m.merged;
          merges = m.merges;
          written = m.written;
          fits = record { well_formed = m.well_formed; size = omega (arith, w, ap length m.written) };
          again = comes_to_itself z m.well_formed (names_apart parked xs z m.merged m.merges);
        },
      )

  module _ {sheets b : Bytes} {xs : List Schema} {z : Schema} (s : Saved sheets b xs z) (further : Bytes) where
    -- the answer to further bytes behind the saved answer
    onto_answer : NotTooManySheets (b ++ further) → merge_answer parked (b ++ further) ≡ behind 1 (length b) (answer_onto z further)
    onto_answer =
        subst (λ b. NotTooManySheets (b ++ further) → merge_answer parked (b ++ further) ≡ behind 1 (length b) (answer_onto z further))
        (append-nil (sheet_bytes z) ∙ sym s.written)
        (merge_behind (z ∷ []) z 1 further (s.fits, tt) (omega arith) s.again)

    -- and behind the sheets that it was made of
    all_answer : NotTooManySheets (sheets ++ further) → merge_answer parked (sheets ++ further) ≡ behind (sheet_count (read_train sheets)) (length sheets) (answer_onto z further)
    unfolding sheet_count
    all_answer =
        subst (λ b. NotTooManySheets (b ++ further) → merge_answer parked (b ++ further) ≡ behind (sheet_count (read_train b)) (length b) (answer_onto z further)) (sym s.given)
        (subst (λ r. NotTooManySheets (each sheet_bytes xs ++ further) → merge_answer parked (each sheet_bytes xs ++ further) ≡ behind (sheet_count r) (length (each sheet_bytes xs)) (answer_onto z further))
        (sym (train_reads xs s.fit s.count))
        (merge_behind xs z s.place further s.fit s.count s.merges))

pub merges_onto_saved_answer : MergesOntoSavedAnswer
merges_onto_saved_answer parked sheets byte work answer h further work' work'' answer' answer'' n n' w w' e =
    let (b, a) = call_accepted (length sheets) (merge_answer parked sheets) work answer (merge_numbered parked sheets) h in
    let (xs, z, s) = saved_answer parked sheets b byte a.answers a.size in
    let count = sheet_count (read_train sheets) in
    let o = answer_onto parked z further in
    let saved = written (merge_call parked sheets work answer) in
    let onto : merge_answer parked (saved ++ further) ≡ behind 1 (length saved) o =
    subst (λ c. NotTooManySheets (c ++ further) → merge_answer parked (c ++ further) ≡ behind 1 (length c) o) (sym (accepted_written a)) (onto_answer parked s further) n in
    call_same 1 (length saved) count (length sheets) (length (saved ++ further)) (length (sheets ++ further)) o _ _ work' work'' answer' answer'' w w' e onto (all_answer parked s further n')

-- A saved answer, merged again, is itself.
pub saved_again : (parked : Bool) (sheets b : Bytes) → AreBytes sheets → merge_answer parked sheets ≡ bytes b → length b ≤ max_sheet_bytes → merge_answer parked b ≡ bytes b
unfolding merge_answer sheet_answer
saved_again parked sheets b byte h w =
    let (xs, z, s) = saved_answer parked sheets b byte h w in
    let alone : b ≡ each sheet_bytes (z ∷ []) = s.written ∙ sym (append-nil (sheet_bytes z)) in
    answer_then _ (ap read_train alone ∙ train_reads (z ∷ []) (s.fits, tt) (omega arith)) (answer_then _ s.again (ap bytes (sym s.written)))

-- How the places of the two calls are related: "The place counts sheets or bytes of the train given".

module _ (sheets size sheets' size' : ℕ) {e e' : Exit} (same : SameBehind (place_behind sheets size) (place_behind sheets' size') e e') where
  -- a clash: by the numbers of sheets that come first
  pub clash_places : Among clash_numbers e.number → e.place + sheets' ≡ e'.place + sheets
  clash_places h =
      let p = same.placed ∙ clash_behind sheets size _ same.further h in
      let p' = same.placed' ∙ clash_behind sheets' size' _ same.further (subst (Among clash_numbers) same.number h) in
      omega (arith, p, p')

  -- a refusal of reading: by their lengths
  pub reading_places : Among reading_numbers e.number → e.place + size' ≡ e'.place + size
  reading_places h =
      let p = same.placed ∙ reading_behind sheets size _ same.further h in
      let p' = same.placed' ∙ reading_behind sheets' size' _ same.further (subst (Among reading_numbers) same.number h) in
      omega (arith, p, p')
