-- Demand 3: what is merged first only grows, and is accepted where all is.
use Prim.Native.Nat.{ℕ, zero, suc, ◌≤◌}
use native.Mathlib.Omega.{arith}
use mathlib.Core.Path.{◌≡◌, refl, sym, ap, subst, ◌∙◌}
use mathlib.Core.List.{List, [], ◌∷◌, ◌++◌}
use mathlib.Core.Bool.{Bool, true, false}
use lib.ListN.{length, drop, length-append}
use lib.Seq.{take_at}
use lib.Dec.{leb}
use borrow.Author.Tests.{leb-true, leb-false}
use Rattle.model.specs.Numbers.{max_levels, max_sheet_bytes, max_sheets}
use Rattle.model.specs.Bytes.{Bytes, AreBytes, Every, same_bytes}
use Rattle.model.specs.Tree.{DataType, Field, Schema, Null, fields, layout, table}
use Rattle.model.specs.Sheet.{each, children_bytes, type_bytes, sheet_bytes}
use Rattle.model.specs.Read.{Step, got, bad, next, read_sheet, read_train}
use Rattle.model.specs.Merge.{merge_schema, empty, placed, merge_from, try_merge}
use Rattle.model.specs.Call.{Answer, bytes, sheet_answer, merge_answer, written, call, merge_call}
use Rattle.model.specs.Growth.{Distinct, names, NoNameTwice, SheetOfDemand3, end_to_end, Accepts, WroteSheet, MergeOnlyGrows, Demand3}
use Rattle.model.specs.WellFormed.{WellFormedParams, WellFormedChildren, WellFormedType, WellFormedSchema, Fits, SomeOrder}
use Rattle.model.proofs.Lists.{every_append, every_map, every_both, each_append}
use Rattle.model.proofs.ByteStrings.{same_bytes_differ}
use Rattle.model.proofs.Gives.{placed_holds}
use Rattle.model.proofs.Steps.{Holds, value, of_got, next_holds, holds_map, got_inv, next_inv}
use Rattle.model.proofs.WellFormed.{children_types, column_types}
use Rattle.model.proofs.MergeKeeps.{empty_well_formed, merge_keeps}
use Rattle.model.proofs.WholeSheets.{sheet_exact, sheet_reads, train_reads, train_too_many}
use Rattle.model.proofs.Grows.{Apart, distinct_apart, Tidy, Standing, SchemaGrew, schema_grows, schema_refl, schema_trans, schema_grown}
use Rattle.model.proofs.Calls.{Accepted, accepted_call, accepted_written, call_accepted, then_inv, answer_then, bytes_inv}
use Rattle.model.proofs.Refusals.{merge_numbered}

-- What reads without refusal and has no struct with a name twice is tidy

null_alone : (l : ℕ) (o : Bool) (t : DataType (suc l)) → WellFormedType (suc l) o t → t.code ≡ Null → length (type_bytes (suc l) t) ≡ 1
unfolding type_bytes children_bytes layout table
null_alone l o t w e =
    subst (λ c. length (c ∷ (t.params ++ children_bytes (type_bytes l) (layout c).children t.children)) ≡ 1) (sym e)
    (go t.params t.children (subst (λ c. WellFormedParams (layout c).params t.params) e w.1)
    (subst (λ c. WellFormedChildren (WellFormedType l) (layout c).children t.children) e w.2).0)
  where
    go : (ps : Bytes) (ks : List (Field l)) → ps ≡ [] → length ks ≡ 0 → length (Null ∷ (ps ++ children_bytes (type_bytes l) (fields 0) ks)) ≡ 1
    go [] [] p q = refl
    go [] (k ∷ ks) p q = absurd (omega (arith, q))
    go (x ∷ ps) ks p q = absurd (omega (arith, ap length p))

tidy_type : (l : ℕ) (o : Bool) (t : DataType l) → NoNameTwice l t → WellFormedType l o t → Tidy l t
tidy_type zero o t n w = absurd n
tidy_type (suc l) o t n w = (
  λ e. distinct_apart (names t.children) (n.0 e),
  null_alone l o t w,
  every_both (λ f. NoNameTwice l f.data_type) (SomeOrder (WellFormedType l)) (λ f. Tidy l f.data_type) (λ f p q. tidy_type l q.0 f.data_type p q.1) t.children
      n.1 (children_types (WellFormedType l) (layout t.code).children t.children w.2),
)

pub TidySchema : Schema → Type 0
TidySchema x = Every (λ f. Tidy max_levels f.data_type) x.columns

tidy_schema : (x : Schema) → WellFormedSchema x → Every (λ f. NoNameTwice max_levels f.data_type) x.columns → TidySchema x
unfolding TidySchema
tidy_schema x w n =
    every_both (λ f. NoNameTwice max_levels f.data_type) (SomeOrder (WellFormedType max_levels)) (λ f. Tidy max_levels f.data_type)
    (λ f p q. tidy_type max_levels q.0 f.data_type p q.1) x.columns n (column_types x w)

-- Whole sheets, and the schemas that they hold

record Sheets (ss : List Bytes) (xs : List Schema) : Type 0 where
  written : end_to_end ss ≡ each sheet_bytes xs
  fits : Every Fits xs
  tidy : Every TidySchema xs

sheets_of : (ss : List Bytes) → Every SheetOfDemand3 ss → (xs : List Schema) × Sheets ss xs
sheets_of [] w = ([], record { written = refl; fits = tt; tidy = tt })
sheets_of (s ∷ ss) w =
    let (xs, h) = sheets_of ss w.1 in
    let x = w.0.whole.schema in
    let (p, f) = of_got (subst (Holds (λ x e. (s ≡ sheet_bytes x) × Fits x)) w.0.whole.reads (sheet_exact s w.0.whole.bytes)) in (
      x ∷ xs,
      record {
        written = ap (λ r. r ++ end_to_end ss) p ∙ ap (λ r. sheet_bytes x ++ r) h.written;
        fits = (f, h.fits);
        tidy = (tidy_schema x f.well_formed w.0.no_name_twice, h.tidy);
      },
    )

sheets_append : {ss ts : List Bytes} {xs ys : List Schema} → Sheets ss xs → Sheets ts ys → Sheets (ss ++ ts) (xs ++ ys)
sheets_append {ss} {ts} {xs} {ys} p q =
    record {
      written = each_append (λ s. s) ss ts ∙ ap (λ r. r ++ end_to_end ts) p.written ∙ ap (λ r. each sheet_bytes xs ++ r) q.written ∙ sym (each_append sheet_bytes xs ys);
      fits = every_append Fits xs ys p.fits q.fits;
      tidy = every_append TidySchema xs ys p.tidy q.tidy;
    }

-- a train of whole sheets that reads has at most 256 of them
train_count : (xs ys : List Schema) (e : ℕ) → Every Fits xs → read_train (each sheet_bytes xs) ≡ got ys e → length xs ≤ max_sheets
train_count xs ys e f h = go (leb (length xs) max_sheets) refl
  where
    go : (t : Bool) → leb (length xs) max_sheets ≡ t → length xs ≤ max_sheets
    go true p = leb-true _ _ p
    go false p =
        let (q, r) = train_too_many xs f (leb-false (length xs) max_sheets p) in
        let w : got ys e ≡ bad 33 q = sym h ∙ r in
        let z : ◌≡◌ {A = ℕ} 0 1 = cc in absurd (omega arith)

-- Merging one schema after the other, in either mode

module _ (parked : Bool) where
  pub merge_append : (i : ℕ) (x : Schema) (ys zs : List Schema) → merge_from parked i x (ys ++ zs) ≡ next (merge_from parked i x ys) (λ z j. merge_from parked j z zs)
  unfolding merge_from next
  merge_append i x [] zs = refl
  merge_append i x (y ∷ ys) zs = go (placed i (merge_schema parked x y)) (λ z j. merge_append j z ys zs)
    where
      go : (r : Step Schema) → ((z : Schema) (j : ℕ) → merge_from parked j z (ys ++ zs) ≡ next (merge_from parked j z ys) (λ z j. merge_from parked j z zs))
          → next r (λ z j. merge_from parked j z (ys ++ zs)) ≡ next (next r (λ z j. merge_from parked j z ys)) (λ z j. merge_from parked j z zs)
      go (got z j) h = h z j
      go (bad n p) h = refl

  merge_grows : (i : ℕ) (x : Schema) (ys : List Schema) → Standing x → Every TidySchema ys → Holds (λ z e. Standing z × SchemaGrew parked x z) (merge_from parked i x ys)
  unfolding merge_from TidySchema
  merge_grows i x [] g n = value (g, schema_refl parked x)
  merge_grows i x (y ∷ ys) g n =
      next_holds (placed_holds i (schema_grows parked x y g n.0)) λ z j h.
      holds_map (merge_grows j z ys h.0 n.1) λ w e k.
      (k.0, schema_trans parked x z w h.1 k.1)

  -- The call on whole sheets: accepted exactly where their schemas merge, with room

  -- an accepted merge of whole sheets had at most 256 of them, and their schemas merge
  record MergedTo (xs : List Schema) (b : Bytes) (z : Schema) : Type 0 where
    count : length xs ≤ max_sheets
    place : ℕ
    merges : try_merge parked xs ≡ got z place
    written : b ≡ sheet_bytes z

  merge_inv : (xs : List Schema) (b : Bytes) → Every Fits xs → merge_answer parked (each sheet_bytes xs) ≡ bytes b → (z : Schema) × MergedTo xs b z
  unfolding merge_answer sheet_answer
  merge_inv xs b f h =
      let (ys, e, p, q) = then_inv _ _ h in
      let (z, i, r, w) = then_inv _ _ q in
      let n = train_count xs ys e f p in
      let same : ys ≡ xs = got_inv (sym p ∙ train_reads xs f n) in
      (z, record { count = n; place = i; merges = ap (try_merge parked) (sym same) ∙ r; written = sym (bytes_inv w) })

  merge_of : (xs : List Schema) (b : Bytes) (z : Schema) → Every Fits xs → MergedTo xs b z → merge_answer parked (each sheet_bytes xs) ≡ bytes b
  unfolding merge_answer sheet_answer
  merge_of xs b z f m = answer_then _ (train_reads xs f m.count) (answer_then _ m.merges (ap bytes (sym m.written)))

  -- the merged sheet reads as the merged schema
  reads_back : (xs : List Schema) (b : Bytes) (z : Schema) → Every Fits xs → MergedTo xs b z → length b ≤ max_sheet_bytes → read_sheet b ≡ got z (length b)
  unfolding try_merge
  reads_back xs b z f m w =
      let good : WellFormedSchema z = of_got (subst (Holds (λ z e. WellFormedSchema z)) m.merges (merge_keeps parked 0 empty xs empty_well_formed (every_map Fits WellFormedSchema (λ x f. f.well_formed) xs f))) in
      let fits : Fits z = record { well_formed = good; size = subst (λ b. length b ≤ max_sheet_bytes) m.written w } in
      subst (λ b. read_sheet b ≡ got z (length b)) (sym m.written) (sheet_reads z fits)

  -- so does what an accepted call wrote
  wrote : (xs : List Schema) (b : Bytes) (z : Schema) {given : ℕ} {outcome : Answer} {work answer : Bytes} → Every Fits xs → MergedTo xs b z → Accepted given outcome work answer b
      → WroteSheet (call given outcome work answer) z
  wrote xs b z {given} {outcome} {work} {answer} f m a =
      subst (λ e. WroteSheet e z) (sym (accepted_call a))
      (ap read_sheet (take_at b (drop (length b) answer) (length b) refl) ∙ reads_back xs b z f m a.size)

  -- what is merged from tidy schemas stands
  merged_stands : (xs : List Schema) (z : Schema) (i : ℕ) → Every TidySchema xs → try_merge parked xs ≡ got z i → Standing z
  unfolding try_merge
  merged_stands xs z i t r =
      let start : Standing empty = record { apart = tt; tidy = tt } in
      (of_got (subst (Holds (λ z e. Standing z × SchemaGrew parked empty z)) r (merge_grows 0 empty xs start t))).0

  -- the schema merged from a list is grown into the one merged from the list and those that follow, and its sheet is no longer
  pub merge_grows_on : (xs ys : List Schema) (new : Schema) (e : ℕ) → Every TidySchema xs → Every TidySchema ys → try_merge parked (xs ++ ys) ≡ got new e
      → (old : Schema) × (i : ℕ) × (try_merge parked xs ≡ got old i) × SchemaGrew parked old new
  unfolding try_merge
  merge_grows_on xs ys new e t u h =
      let (old, i, r, s) = next_inv _ _ (sym (merge_append 0 empty xs ys) ∙ h) in
      (old, i, r, (of_got (subst (Holds (λ z e. Standing z × SchemaGrew parked old z)) s (merge_grows i old ys (merged_stands xs old i t r) u))).1)

  -- the first call, where the second was accepted: it needs no more work room, and its answer is no longer
  first_accepted : (list all : Bytes) (xs : List Schema) (old : Schema) (work work' answer answer' b : Bytes) → list ≡ each sheet_bytes xs → Every Fits xs
      → MergedTo xs (sheet_bytes old) old → length list ≤ length all → length (sheet_bytes old) ≤ length b → length work ≡ length work' → length answer ≡ length answer'
      → Accepted (length all) (merge_answer parked all) work' answer' b → Accepted (length list) (merge_answer parked list) work answer (sheet_bytes old)
  first_accepted list all xs old work work' answer answer' b p f m shorter size sameWork sameAnswer a =
      record {
        answers = ap (merge_answer parked) p ∙ merge_of xs (sheet_bytes old) old f m;
        work_room = omega (arith, a.work_room, shorter, sameWork);
        size = omega (arith, size, a.size);
        answer_room = omega (arith, size, a.answer_room, sameAnswer);
      }

  only_grows : MergeOnlyGrows parked SheetOfDemand3
  only_grows list following w w' work work' answer answer' sameWork sameAnswer h =
      let (xs, p) = sheets_of list w in
      let (ys, q) = sheets_of following w' in
      let pq = sheets_append p q in
      let all = end_to_end (list ++ following) in
      let (b, a) = call_accepted (length all) (merge_answer parked all) work' answer' (merge_numbered parked all) h in
      let (new, m) = merge_inv (xs ++ ys) b pq.fits (ap (merge_answer parked) (sym pq.written) ∙ a.answers) in
      let (old, i, r, grew) = merge_grows_on xs ys new m.place p.tidy q.tidy m.merges in
      let m₁ : MergedTo xs (sheet_bytes old) old = record { count = omega (arith, m.count, length-append xs ys); place = i; merges = r; written = refl } in
      let a₁ = first_accepted (end_to_end list) all xs old work work' answer answer' b p.written p.fits m₁
      (omega (arith, ap length (each_append (λ s. s) list following), length-append (end_to_end list) (end_to_end following)))
      (omega (arith, ap length m.written, grew.longer)) sameWork sameAnswer a in
      (ap (λ e. e.number) (accepted_call a₁), old, new, wrote xs (sheet_bytes old) old p.fits m₁ a₁, wrote (xs ++ ys) b new pq.fits m a, schema_grown grew)

pub demand3 : Demand3
demand3 = only_grows

-- What was merged is itself a sheet of demand 3, so a saved answer only grows, however often it is merged onto (document 02, Item 1)

apart_distinct : (ns : List Bytes) → Apart ns → Distinct ns
apart_distinct [] a = tt
apart_distinct (n ∷ ns) a = (every_map (λ m. same_bytes n m ≡ false) (λ m. n ≡ m → ⊥) (same_bytes_differ n) ns a.0, apart_distinct ns a.1)

tidy_names : (l : ℕ) (t : DataType l) → Tidy l t → NoNameTwice l t
tidy_names zero t h = absurd h
tidy_names (suc l) t h = (
  λ e. apart_distinct (names t.children) (h.0 e),
  every_map (λ f. Tidy l f.data_type) (λ f. NoNameTwice l f.data_type) (λ f k. tidy_names l f.data_type k) t.children h.2,
)

pub saved_sheet : (parked : Bool) (list : List Bytes) → Every SheetOfDemand3 list → (work answer : Bytes) → let e = merge_call parked (end_to_end list) work answer in
    Accepts e → AreBytes (written e) → SheetOfDemand3 (written e)
saved_sheet parked list w work answer h byte =
    let (xs, p) = sheets_of list w in
    let train = end_to_end list in
    let (b, a) = call_accepted (length train) (merge_answer parked train) work answer (merge_numbered parked train) h in
    let (z, m) = merge_inv parked xs b p.fits (ap (merge_answer parked) (sym p.written) ∙ a.answers) in
    record {
      whole = record { bytes = byte; schema = z; reads = subst (λ s. read_sheet s ≡ got z (length s)) (sym (accepted_written a)) (reads_back parked xs b z p.fits m a.size) };
      no_name_twice = every_map (λ f. Tidy max_levels f.data_type) (λ f. NoNameTwice max_levels f.data_type) (λ f k. tidy_names max_levels f.data_type k) z.columns (merged_stands parked xs z m.place p.tidy m.merges).tidy;
    }
