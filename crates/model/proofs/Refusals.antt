-- Which numbers each operation can refuse with: those of document 01's table that are its own, and no other. So "0 means accepted".
use Rattle.std.specs.Prelude.{Option, Some, None}
use Prim.Native.Nat.{ℕ, zero, suc, ◌+◌}
use mathlib.Core.Path.{◌≡◌, refl, sym, ap, ◌∙◌}
use mathlib.Core.List.{List, [], ◌∷◌, ◌++◌, map}
use mathlib.Core.Bool.{Bool, true, false, not, ◌||◌, false≢true, or-true}
use lib.ListN.{length}
use lib.Dec.{eqb, ltb}
use borrow.Author.Tests.{eqb-true}
use Rattle.model.specs.Numbers.{max_levels, max_sheet_bytes, max_sheets, accepted, ends_inside, sheet_too_long, too_deep, malformed, not_utf8, key_not_above, id_too_large, id_repeated, bytes_left, too_many_sheets}
use Rattle.model.specs.Numbers.{schema_metadata_clash, ordered_clash, field_metadata_clash, type_clash, equal_child_clash, type_id_clash}
use Rattle.model.specs.Numbers.{id_numbers, reading_numbers, field_numbers, clash_numbers}
use Rattle.model.specs.Numbers.{odd_list, index_out_of_bounds, index_repeated, mask_length, separator_not_utf8, no_such_column, more_fields_than_ids, more_ids_than_fields, too_many_fields, answer_too_long, answer_buffer_short, work_buffer_short}
use Rattle.model.specs.Bytes.{Bytes, Metadata, choose, all, num, bit, among}
use Rattle.model.specs.Tree.{DataTypeOver, FieldOver, DataType, Field, Schema, Params, items, timestamp, Children, fields, key_and_value, counted, counted_with_ids, layout}
use Rattle.model.specs.Read.{Step, got, bad, Reader, next, judged, if_set, unless, ◌then◌, at_least, is_text, map_fits, id_fits, param_fits, read_many, read_item, read_number, read_text, read_pair, read_list, read_metadata, read_dict_id, read_field, read_bare_type, read_union_child, read_children, read_zone, read_params, read_type, read_column, read_schema, read_sheet, shifted, read_two, read_sheets, read_train}
use Rattle.model.specs.Merge.{Merged, done, clash, ◌>>=◌, need, pour, merge_pair, merge_metadata, merge_by_name, merge_child, merge_field, merge_each, merge_same_code, merge_type, merge_schema, placed, merge_from, try_merge}
use Rattle.model.specs.Schema.{indices, index_fits, selected, project, normalize, if_found, index_of}
use Rattle.model.specs.Filter.{filter_leaves}
use Rattle.model.specs.Unions.{try_new, try_from_fields}
use Rattle.model.specs.Call.{Answer, bytes, refused, and_then, sheet_answer, yes_no, merge_answer, project_answer, filter_answer, normalize_answer, contains_answer, equals_datatype_answer, equal_answer, is_nested_answer, index_of_answer, flattened_fields_answer, try_new_answer, try_from_fields_answer, Exit, zeros, refusal, acceptance, settled, call}
use Rattle.model.proofs.Lists.{and_true}
use Rattle.model.proofs.Calls.{Numbered, answered, refusing}

-- The numbers of document 01's table, by what they belong to

-- a single sheet: all that containment, both equalities, `is_nested` and `flattened_fields` refuse with
abbrev pub sheet_numbers : List ℕ
sheet_numbers = reading_numbers ++ (bytes_left ∷ [])

abbrev pub train_numbers : List ℕ
train_numbers = reading_numbers ++ (too_many_sheets ∷ [])

abbrev pub merge_numbers : List ℕ
merge_numbers = train_numbers ++ clash_numbers

-- "repeated (strict only)"
abbrev pub repeat_numbers : Bool → List ℕ
repeat_numbers true = index_repeated ∷ []
repeat_numbers false = []

-- an index list, strict or not
abbrev pub list_numbers : Bool → List ℕ
list_numbers strict = odd_list ∷ index_out_of_bounds ∷ repeat_numbers strict

abbrev pub project_numbers : Bool → List ℕ
project_numbers strict = sheet_numbers ++ list_numbers strict

abbrev pub filter_numbers : List ℕ
filter_numbers = sheet_numbers ++ (mask_length ∷ [])

abbrev pub normalize_numbers : List ℕ
normalize_numbers = sheet_numbers ++ (separator_not_utf8 ∷ [])

abbrev pub index_of_numbers : List ℕ
index_of_numbers = sheet_numbers ++ (no_such_column ∷ [])

abbrev pub try_new_numbers : List ℕ
try_new_numbers = id_numbers ++ (more_fields_than_ids ∷ more_ids_than_fields ∷ [])

abbrev pub try_from_fields_numbers : List ℕ
try_from_fields_numbers = too_many_fields ∷ []

-- any call, whatever its operation
abbrev pub call_numbers : List ℕ
call_numbers = accepted ∷ work_buffer_short ∷ answer_too_long ∷ answer_buffer_short ∷ []

-- P of the number of a refusal, if there is one

-- of a verdict
pub data Verdict (P : ℕ → Type 0) : ℕ → Type 0 where
  passes : Verdict P 0
  refuses : {n : ℕ} → P n → Verdict P n

-- of a step of reading
pub data Refuses {A : Type 0} (P : ℕ → Type 0) : Step A → Type 0 where
  gives : {a : A} {e : ℕ} → Refuses P (got a e)
  stops : {n p : ℕ} → P n → Refuses P (bad n p)

-- of a merge
pub data Clashes {A : Type 0} (P : ℕ → Type 0) : Merged A → Type 0 where
  merges : {a : A} → Clashes P (done a)
  clashes : {n : ℕ} → P n → Clashes P (clash n)

-- the number is one of these
abbrev pub Among : List ℕ → ℕ → Type 0
Among numbers n = among n numbers ≡ true

-- an answer that refuses with none but these numbers
pub data AnswersBy (numbers : List ℕ) : Answer → Type 0 where
  answers : {b : Bytes} → AnswersBy numbers (bytes b)
  refuses_by : {n p : ℕ} → Among numbers n → AnswersBy numbers (refused n p)

-- an answer that has no 0 among its numbers never refuses with 0
pub answers_numbered : (numbers : List ℕ) → among accepted numbers ≡ false → {a : Answer} → AnswersBy numbers a → Numbered a
answers_numbered numbers h answers = answered
answers_numbered numbers h (refuses_by k) = refusing λ e. false≢true (sym h ∙ ap (λ n. among n numbers) (sym e) ∙ k)

-- More numbers than before

-- what all numbers of a list pass, one of them passes
pub among_all : (p : ℕ → Bool) (numbers : List ℕ) → all p numbers ≡ true → (n : ℕ) → Among numbers n → p n ≡ true
unfolding among all
among_all p [] h n k = absurd (false≢true k)
among_all p (x ∷ numbers) h n k =
    let (first, rest) = and_true (p x) (all p numbers) h in
    go (eqb n x) refl k first λ k. among_all p numbers rest n k
  where
    go : (t : Bool) → eqb n x ≡ t → (t || among n numbers) ≡ true → p x ≡ true → (Among numbers n → p n ≡ true) → p n ≡ true
    go true e k first rest = ap p (eqb-true n x e) ∙ first
    go false e k first rest = rest k

-- a number of the smaller list is one of the larger, if all of the smaller list's are
pub among_more : (fewer more : List ℕ) → all (λ n. among n more) fewer ≡ true → (n : ℕ) → Among fewer n → Among more n
among_more fewer more = among_all (λ n. among n more) fewer

-- and so is one behind others, whatever the list is
pub among_behind : (front numbers : List ℕ) (n : ℕ) → Among numbers n → Among (front ++ numbers) n
unfolding among
among_behind [] numbers n h = h
among_behind (x ∷ front) numbers n h = ap (λ b. eqb n x || b) (among_behind front numbers n h) ∙ or-true (eqb n x)

-- one that is not the last is before it
pub among_front : (front : List ℕ) (last n : ℕ) → Among (front ++ (last ∷ [])) n → (n ≡ last → ⊥) → Among front n
unfolding among
among_front [] last n h k = go (eqb n last) refl h
  where
    go : (t : Bool) → eqb n last ≡ t → (t || false) ≡ true → false ≡ true
    go true e h = absurd (k (eqb-true n last e))
    go false e h = h
among_front (x ∷ front) last n h k = go (eqb n x) h λ h. among_front front last n h k
  where
    go : (t : Bool) → (t || among n (front ++ (last ∷ []))) ≡ true → (Among (front ++ (last ∷ [])) n → Among front n) → (t || among n front) ≡ true
    go true h rest = refl
    go false h rest = rest h

-- a refusal with some numbers is one with those and others
module _ {P Q : ℕ → Type 0} (wider : (n : ℕ) → P n → Q n) where
  pub verdict_map : {n : ℕ} → Verdict P n → Verdict Q n
  verdict_map passes = passes
  verdict_map (refuses h) = refuses (wider _ h)

  pub refuses_map : {A : Type 0} {r : Step A} → Refuses P r → Refuses Q r
  refuses_map gives = gives
  refuses_map (stops h) = stops (wider _ h)

  pub clashes_map : {A : Type 0} {r : Merged A} → Clashes P r → Clashes Q r
  clashes_map merges = merges
  clashes_map (clashes h) = clashes (wider _ h)

-- A law for each combinator: its number is that of one of its parts

-- what holds of both branches, whichever is taken
pub choose_either : {A : Type 0} (Q : A → Type 0) (b : Bool) (x y : Unit {0} → A) → Q (x tt) → Q (y tt) → Q (choose b x y)
unfolding choose
choose_either Q true x y h k = h
choose_either Q false x y h k = k

module _ {P : ℕ → Type 0} where
  pub unless_verdict : (b : Bool) (n : ℕ) → P n → Verdict P (unless b n)
  unfolding unless
  unless_verdict true n h = passes
  unless_verdict false n h = refuses h

  pub then_verdict : {m n : ℕ} → Verdict P m → Verdict P n → Verdict P (m then n)
  unfolding ◌then◌
  then_verdict passes k = k
  then_verdict (refuses {n = zero} h) k = k
  then_verdict (refuses {n = suc n} h) k = refuses h

  pub judged_refuses : {A : Type 0} {n : ℕ} (place : ℕ) (a : A) (e : ℕ) → Verdict P n → Refuses P (judged n place a e)
  unfolding judged
  judged_refuses place a e passes = gives
  judged_refuses place a e (refuses {n = zero} h) = gives
  judged_refuses place a e (refuses {n = suc n} h) = stops h

  pub next_refuses : {A B : Type 0} {r : Step A} {f : A → ℕ → Step B} → Refuses P r → ((a : A) (e : ℕ) → Refuses P (f a e)) → Refuses P (next r f)
  unfolding next
  next_refuses (gives {a} {e}) k = k a e
  next_refuses (stops h) k = stops h

  pub set_refuses : {A : Type 0} (b : Bool) (r : Reader A) (a : A) (place : ℕ) → Refuses P (r place) → Refuses P (if_set b r a place)
  unfolding if_set
  set_refuses true r a place h = h
  set_refuses false r a place h = gives

  pub many_refuses : {A : Type 0} (one : List A → Reader A) → ((seen : List A) (place : ℕ) → Refuses P (one seen place))
      → (n : ℕ) (seen : List A) (place : ℕ) → Refuses P (read_many n one seen place)
  unfolding read_many
  many_refuses one h zero seen place = gives
  many_refuses one h (suc n) seen place = next_refuses (h seen place) λ a m. next_refuses (many_refuses one h n (a ∷ seen) m) λ rest e. gives

  pub shifted_refuses : {A : Type 0} {r : Step A} (n : ℕ) → Refuses P r → Refuses P (shifted n r)
  unfolding shifted
  shifted_refuses n gives = gives
  shifted_refuses n (stops h) = stops h

  pub placed_refuses : {A : Type 0} {r : Merged A} (i : ℕ) → Clashes P r → Refuses P (placed i r)
  unfolding placed
  placed_refuses i merges = gives
  placed_refuses i (clashes h) = stops h

  pub bind_clashes : {A B : Type 0} {r : Merged A} {f : A → Merged B} → Clashes P r → ((a : A) → Clashes P (f a)) → Clashes P (r >>= f)
  unfolding ◌>>=◌
  bind_clashes (merges {a}) k = k a
  bind_clashes (clashes h) k = clashes h

  pub need_clashes : {A : Type 0} (b : Bool) (n : ℕ) (a : A) → P n → Clashes P (need b n a)
  unfolding need
  need_clashes true n a h = merges
  need_clashes false n a h = clashes h

  pub pour_clashes : {A B : Type 0} (put : A → B → Merged A) → ((a : A) (x : B) → Clashes P (put a x)) → (a : A) (xs : List B) → Clashes P (pour put a xs)
  unfolding pour
  pour_clashes put h a [] = merges
  pour_clashes put h a (x ∷ xs) = bind_clashes (h a x) λ b. pour_clashes put h b xs

module _ {numbers : List ℕ} where
  pub then_answers : {A : Type 0} {r : Step A} {f : A → Answer} → Refuses (Among numbers) r → ((a : A) → AnswersBy numbers (f a))
      → AnswersBy numbers (and_then r f)
  unfolding and_then
  then_answers (gives {a}) k = k a
  then_answers (stops h) k = refuses_by h

  pub sheet_answers : {r : Step Schema} → Refuses (Among numbers) r → AnswersBy numbers (sheet_answer r)
  unfolding sheet_answer
  sheet_answers h = then_answers h λ x. answers

-- Reading

abbrev Reading : ℕ → Type 0
Reading n = Among reading_numbers n

id_fits_lem : (seen : List ℕ) (i : ℕ) → Verdict (Among id_numbers) (id_fits seen i)
unfolding among
id_fits_lem seen i = then_verdict (unless_verdict _ id_too_large refl) (unless_verdict _ id_repeated refl)

module _ (s : Bytes) (limit : ℕ) where
  item_refuses : (n : ℕ) (fits : Bytes → ℕ) → ((b : Bytes) → Verdict Reading (fits b)) → (place : ℕ) → Refuses Reading (read_item s limit n fits place)
  unfolding read_item among
  item_refuses n fits h place =
      judged_refuses place _ _ (then_verdict (unless_verdict _ ends_inside refl) (then_verdict (unless_verdict _ sheet_too_long refl) (h _)))

  number_refuses : (n : ℕ) (fits : ℕ → ℕ) → ((x : ℕ) → Verdict Reading (fits x)) → (place : ℕ) → Refuses Reading (read_number s limit n fits place)
  unfolding read_number
  number_refuses n fits h place = next_refuses (item_refuses n _ (λ b. h (num b)) place) λ b e. gives

  text_item : (n place : ℕ) → Refuses Reading (read_item s limit n is_text place)
  unfolding among
  text_item n place = item_refuses n is_text (λ b. unless_verdict _ not_utf8 refl) place

  count_refuses : (least place : ℕ) → Refuses Reading (read_number s limit 2 (at_least least) place)
  unfolding among
  count_refuses least place = number_refuses 2 _ (λ x. unless_verdict _ malformed refl) place

  text_refuses : (least place : ℕ) → Refuses Reading (read_text s limit least place)
  unfolding read_text
  text_refuses least place = next_refuses (count_refuses least place) λ n m. text_item n m

  pair_refuses : (seen : Metadata) (place : ℕ) → Refuses Reading (read_pair s limit seen place)
  unfolding read_pair among
  pair_refuses seen place =
      next_refuses (text_refuses 0 place) λ k m.
      next_refuses (judged_refuses place k m (unless_verdict _ key_not_above refl)) λ k m.
      next_refuses (text_refuses 0 m) λ v e. gives

  list_refuses : {A : Type 0} (least : ℕ) (one : List A → Reader A) → ((seen : List A) (place : ℕ) → Refuses Reading (one seen place))
      → (place : ℕ) → Refuses Reading (read_list s limit least one place)
  unfolding read_list
  list_refuses least one h place = next_refuses (count_refuses least place) λ n m. many_refuses one h n [] m

  metadata_refuses : (place : ℕ) → Refuses Reading (read_metadata s limit place)
  unfolding read_metadata
  metadata_refuses place = list_refuses 1 _ pair_refuses place

  dict_id_refuses : (place : ℕ) → Refuses Reading (read_dict_id s limit place)
  unfolding read_dict_id among
  dict_id_refuses place = number_refuses 8 (at_least 1) (λ x. unless_verdict _ malformed refl) place

  module _ (l : ℕ) (read_type : Bool → Reader (DataType l)) (type_refuses : (o : Bool) (place : ℕ) → Refuses Reading (read_type o place)) where
    field_refuses : (i place : ℕ) → Refuses Reading (read_field s limit l read_type i place)
    unfolding read_field among
    field_refuses i place =
        next_refuses (number_refuses 1 (map_fits l) (λ m. then_verdict (unless_verdict _ too_deep refl) (unless_verdict _ malformed refl)) place) λ m e₁.
        next_refuses (set_refuses _ _ _ e₁ (text_refuses 1 e₁)) λ n e₂.
        next_refuses (set_refuses _ _ _ e₂ (metadata_refuses e₂)) λ d e₃.
        next_refuses (set_refuses _ _ _ e₃ (dict_id_refuses e₃)) λ i e₄.
        next_refuses (type_refuses (bit 1 m) e₄) λ t e. gives

    bare_refuses : (place : ℕ) → Refuses Reading (read_bare_type s limit l read_type place)
    unfolding read_bare_type
    bare_refuses place = next_refuses (type_refuses false place) λ t e. gives

    child_refuses : (seen : List (Field l)) (place : ℕ) → Refuses Reading (read_union_child s limit l read_type seen place)
    unfolding read_union_child among all
    child_refuses seen place =
        let ids = map (λ f. f.head.type_id) seen in
        next_refuses (number_refuses 1 (id_fits ids) (λ i. verdict_map (among_more id_numbers reading_numbers refl) (id_fits_lem ids i)) place) λ i m.
        field_refuses i m

    children_refuse : (k : Children) (place : ℕ) → Refuses Reading (read_children s limit l read_type k place)
    unfolding read_children
    children_refuse (fields n) place = many_refuses _ (λ seen p. field_refuses 0 p) n [] place
    children_refuse key_and_value place = many_refuses _ (λ seen p. bare_refuses p) 2 [] place
    children_refuse counted place = list_refuses 0 _ (λ seen p. field_refuses 0 p) place
    children_refuse counted_with_ids place = list_refuses 0 _ child_refuses place

  zone_refuses : (place : ℕ) → Refuses Reading (read_zone s limit place)
  unfolding read_zone
  zone_refuses place = next_refuses (item_refuses 2 _ (λ b. passes) place) λ n m. next_refuses (text_item (num n) m) λ t e. gives

  param_refuses : (p : ℕ × ℕ) (place : ℕ) → Refuses Reading (read_item s limit p.0 (param_fits p) place)
  unfolding among
  param_refuses p place = item_refuses p.0 _ (λ b. unless_verdict _ malformed refl) place

  params_refuse : (p : Params) (place : ℕ) → Refuses Reading (read_params s limit p place)
  unfolding read_params among
  params_refuse (items []) place = gives
  params_refuse (items (p ∷ ps)) place = next_refuses (param_refuses p place) λ b m. next_refuses (params_refuse (items ps) m) λ r e. gives
  params_refuse timestamp place =
      next_refuses (param_refuses _ place) λ u m₁.
      next_refuses (item_refuses 1 _ (λ b. unless_verdict _ malformed refl) m₁) λ m m₂.
      next_refuses (set_refuses _ _ _ m₂ (zone_refuses m₂)) λ z e. gives

  type_refuses : (l : ℕ) (ordered : Bool) (place : ℕ) → Refuses Reading (read_type s limit l ordered place)
  unfolding read_type among
  type_refuses zero ordered place = next_refuses (item_refuses 1 _ (λ b. passes) place) λ b e. stops refl
  type_refuses (suc l) ordered place =
      next_refuses (number_refuses 1 _ (λ c. then_verdict (unless_verdict _ malformed refl) (unless_verdict _ malformed refl)) place) λ c m.
      next_refuses (params_refuse (layout c).params m) λ ps m₁.
      next_refuses (children_refuse l _ (λ o p. type_refuses l o p) (layout c).children m₁) λ ks e. gives

  column_refuses : (place : ℕ) → Refuses Reading (read_column s limit place)
  unfolding read_column
  column_refuses place = field_refuses max_levels _ (λ o p. type_refuses max_levels o p) 0 place

  -- a sheet of a train or alone, before what follows it is looked at
  pub schema_refuses : (place : ℕ) → Refuses (Among reading_numbers) (read_schema s limit place)
  unfolding read_schema among
  schema_refuses place =
      next_refuses (number_refuses 1 _ (λ m. unless_verdict _ malformed refl) place) λ m e₁.
      next_refuses (set_refuses _ _ _ e₁ (metadata_refuses e₁)) λ d e₂.
      next_refuses (set_refuses _ _ _ e₂ (list_refuses 1 _ (λ seen p. column_refuses p) e₂)) λ cs e. gives

-- a single sheet is refused with 1 to 9
pub sheet_refuses : (sheet : Bytes) → Refuses (Among sheet_numbers) (read_sheet sheet)
unfolding read_sheet among all
sheet_refuses sheet =
    next_refuses (refuses_map (among_more reading_numbers sheet_numbers refl) (schema_refuses sheet max_sheet_bytes 0)) λ x e.
    judged_refuses e x e (unless_verdict _ bytes_left refl)

-- and two sheets are too
pub two_refuse : (sheet other : Bytes) → Refuses (Among sheet_numbers) (read_two sheet other)
unfolding read_two
two_refuse sheet other = next_refuses (sheet_refuses sheet) λ x e. next_refuses (shifted_refuses (length sheet) (sheet_refuses other)) λ y e. gives

sheets_refuse : (s : Bytes) (n place : ℕ) → Refuses (Among train_numbers) (read_sheets s n place)
unfolding read_sheets among all
sheets_refuse s zero place = choose_either (Refuses _) _ _ _ gives (stops refl)
sheets_refuse s (suc n) place =
    choose_either (Refuses _) _ _ _ gives
    (next_refuses (refuses_map (among_more reading_numbers train_numbers refl) (schema_refuses s (place + max_sheet_bytes) place)) λ x e.
    next_refuses (sheets_refuse s n e) λ xs e. gives)

-- a train is refused with 1 to 7, 9 and 33
pub train_refuses : (train : Bytes) → Refuses (Among train_numbers) (read_train train)
unfolding read_train
train_refuses train = sheets_refuse train max_sheets 0

-- Merging

abbrev Clashing : ℕ → Type 0
Clashing n = Among field_numbers n

module _ {P : ℕ → Type 0} (n : ℕ) (h : P n) where
  merge_pair_clashes : (m : Metadata) (p : Bytes × Bytes) → Clashes P (merge_pair n m p)
  unfolding merge_pair
  merge_pair_clashes [] p = merges
  merge_pair_clashes (q ∷ qs) p =
      choose_either (Clashes _) _ _ _ (bind_clashes (merge_pair_clashes qs p) λ r. merges)
      (choose_either (Clashes _) _ _ _ merges (need_clashes _ n (q ∷ qs) h))

  merge_metadata_clashes : (old new : Metadata) → Clashes P (merge_metadata n old new)
  unfolding merge_metadata
  merge_metadata_clashes old new = pour_clashes _ merge_pair_clashes old new

module _ {T : Type 0} where
  merge_by_name_clashes : (merge : FieldOver T → FieldOver T → Merged (FieldOver T)) → ((f g : FieldOver T) → Clashes Clashing (merge f g))
      → (gs : List (FieldOver T)) (f : FieldOver T) → Clashes Clashing (merge_by_name merge gs f)
  unfolding merge_by_name
  merge_by_name_clashes merge h [] f = merges
  merge_by_name_clashes merge h (g ∷ gs) f =
      choose_either (Clashes _) _ _ _ (bind_clashes (h g f) λ r. merges) (bind_clashes (merge_by_name_clashes merge h gs f) λ r. merges)

  merge_child_clashes : (eq : T → T → Bool) (gs : List (FieldOver T)) (f : FieldOver T) → Clashes Clashing (merge_child eq gs f)
  unfolding merge_child among
  merge_child_clashes eq [] f = merges
  merge_child_clashes eq (g ∷ gs) f =
      choose_either (Clashes _) _ _ _ (need_clashes _ equal_child_clash (g ∷ gs) refl) (bind_clashes (merge_child_clashes eq gs f) λ r. merges)

module _ {T : Type 0} (parked : Bool) (merge : T → T → Merged T) (is_null : T → Bool) (h : (a b : T) → Clashes Clashing (merge a b)) where
  merge_field_clashes : (f g : FieldOver T) → Clashes Clashing (merge_field parked merge is_null f g)
  unfolding merge_field among
  merge_field_clashes f g =
      bind_clashes (need_clashes _ ordered_clash tt refl) λ u.
      bind_clashes (merge_metadata_clashes field_metadata_clash refl f.head.metadata g.head.metadata) λ m.
      bind_clashes (h f.data_type g.data_type) λ t. merges

  merge_each_clashes : (fs gs : List (FieldOver T)) → Clashes Clashing (merge_each parked merge is_null fs gs)
  unfolding merge_each
  merge_each_clashes [] gs = merges
  merge_each_clashes (f ∷ fs) [] = merges
  merge_each_clashes (f ∷ fs) (g ∷ gs) = bind_clashes (merge_field_clashes f g) λ x. bind_clashes (merge_each_clashes fs gs) λ r. merges

  merge_same_code_clashes : (eq : T → T → Bool) (a b : DataTypeOver (FieldOver T)) → Clashes Clashing (merge_same_code parked merge is_null eq a b)
  unfolding merge_same_code among
  merge_same_code_clashes eq a b =
      choose_either (Clashes _) _ _ _
      (bind_clashes (pour_clashes _ (merge_by_name_clashes _ merge_field_clashes) [] (a.children ++ b.children)) λ ks. merges)
      (choose_either (Clashes _) _ _ _
      (bind_clashes (pour_clashes _ (merge_child_clashes eq) a.children b.children) λ ks. need_clashes _ type_id_clash _ refl)
      (choose_either (Clashes _) _ _ _
      (bind_clashes (merge_each_clashes a.children b.children) λ ks. merges)
      (need_clashes _ type_clash a refl)))

merge_type_clashes : (parked : Bool) (l : ℕ) (a b : DataType l) → Clashes Clashing (merge_type parked l a b)
unfolding merge_type among
merge_type_clashes parked zero a b = absurd a
merge_type_clashes parked (suc l) a b =
    choose_either (Clashes _) _ _ _ merges
    (choose_either (Clashes _) _ _ _ merges
    (choose_either (Clashes _) _ _ _ (clashes refl)
    (merge_same_code_clashes parked (λ x y. merge_type parked l x y) _ (λ x y. merge_type_clashes parked l x y) _ a b)))

-- two schemas clash with 20 to 25
pub merge_schema_clashes : (parked : Bool) (x y : Schema) → Clashes (Among clash_numbers) (merge_schema parked x y)
unfolding merge_schema among all
merge_schema_clashes parked x y =
    bind_clashes (merge_metadata_clashes schema_metadata_clash refl x.metadata y.metadata) λ m.
    bind_clashes (clashes_map (among_more field_numbers clash_numbers refl)
    (pour_clashes _ (merge_by_name_clashes _ (merge_field_clashes parked _ _ (merge_type_clashes parked max_levels))) x.columns y.columns)) λ cs. merges

pub merge_from_refuses : (parked : Bool) (i : ℕ) (x : Schema) (ys : List Schema) → Refuses (Among clash_numbers) (merge_from parked i x ys)
unfolding merge_from
merge_from_refuses parked i x [] = gives
merge_from_refuses parked i x (y ∷ ys) = next_refuses (placed_refuses i (merge_schema_clashes parked x y)) λ z j. merge_from_refuses parked j z ys

-- a list of schemas clashes with 20 to 25
pub try_merge_refuses : (parked : Bool) (xs : List Schema) → Refuses (Among clash_numbers) (try_merge parked xs)
unfolding try_merge
try_merge_refuses parked xs = merge_from_refuses parked 0 _ xs

-- Index lists

indices_refuse : (strict : Bool) (list : Bytes) → Refuses (Among (list_numbers strict)) (indices list)
unfolding indices among
indices_refuse strict [] = gives
indices_refuse strict (a ∷ []) = stops refl
indices_refuse strict (a ∷ b ∷ list) = next_refuses (indices_refuse strict list) λ is e. gives

index_fits_lem : (strict : Bool) (count : ℕ) (seen : List ℕ) (i : ℕ) → Verdict (Among (list_numbers strict)) (index_fits strict count seen i)
unfolding index_fits among unless
index_fits_lem true count seen i = then_verdict (unless_verdict (ltb i count) index_out_of_bounds refl) (unless_verdict (not (among i seen)) index_repeated refl)
index_fits_lem false count seen i = then_verdict (unless_verdict (ltb i count) index_out_of_bounds refl) passes

selected_refuses : {A : Type 0} (strict : Bool) (xs : List A) (is seen : List ℕ) (place : ℕ)
    → Refuses (Among (list_numbers strict)) (selected strict xs is seen place)
unfolding selected
selected_refuses strict xs [] seen place = gives
selected_refuses strict xs (i ∷ is) seen place =
    next_refuses (judged_refuses place _ _ (index_fits_lem strict (length xs) seen i)) λ x e.
    next_refuses (selected_refuses strict xs is (i ∷ seen) e) λ rest e. gives

-- a projection refuses its list with 17 and 10, and a strict one with 11 too
pub project_list_refuses : (strict : Bool) (x : Schema) (list : Bytes) → Refuses (Among (list_numbers strict)) (project strict x list)
unfolding project
project_list_refuses strict x list =
    next_refuses (indices_refuse strict list) λ is e.
    next_refuses (selected_refuses strict x.columns is [] 0) λ cs e. gives

-- Union numbering

try_new_step : (ids : Bytes) (count : ℕ) (seen : List ℕ) (place : ℕ) → Refuses (Among try_new_numbers) (try_new ids count seen place)
unfolding try_new among all
try_new_step [] zero seen place = gives
try_new_step [] (suc n) seen place = stops refl
try_new_step (i ∷ ids) zero seen place = stops refl
try_new_step (i ∷ ids) (suc n) seen place =
    next_refuses (judged_refuses place i (suc place) (verdict_map (among_more id_numbers try_new_numbers refl) (id_fits_lem seen i))) λ i e.
    next_refuses (try_new_step ids n (i ∷ seen) e) λ rest e. gives

-- The answers: in each law, the numbers that the operation may refuse with

-- a merge is refused with the numbers of reading a train and of a clash
pub merge_refuses : (parked : Bool) (train : Bytes) → AnswersBy merge_numbers (merge_answer parked train)
unfolding merge_answer among all
merge_refuses parked train =
    then_answers (refuses_map (among_more train_numbers merge_numbers refl) (train_refuses train)) λ xs.
    sheet_answers (refuses_map (among_more clash_numbers merge_numbers refl) (try_merge_refuses parked xs))

-- a projection: those of a sheet and of its list
pub project_refuses : (strict : Bool) (sheet list : Bytes) → AnswersBy (project_numbers strict) (project_answer strict sheet list)
unfolding project_answer among all
project_refuses strict sheet list =
    then_answers (refuses_map (among_more sheet_numbers (project_numbers strict) refl) (sheet_refuses sheet)) λ x.
    sheet_answers (refuses_map (among_behind sheet_numbers (list_numbers strict)) (project_list_refuses strict x list))

-- a leaf filter: those of a sheet, and 12
pub filter_refuses : (sheet mask : Bytes) → AnswersBy filter_numbers (filter_answer sheet mask)
unfolding filter_answer filter_leaves among all
filter_refuses sheet mask =
    then_answers (refuses_map (among_more sheet_numbers filter_numbers refl) (sheet_refuses sheet)) λ x.
    sheet_answers (judged_refuses 0 _ 0 (unless_verdict _ mask_length refl))

-- normalising: those of a sheet, and 18
pub normalize_refuses : (sheet separator : Bytes) (maxLevel : ℕ) → AnswersBy normalize_numbers (normalize_answer sheet separator maxLevel)
unfolding normalize_answer normalize among all
normalize_refuses sheet separator maxLevel =
    then_answers (refuses_map (among_more sheet_numbers normalize_numbers refl) (sheet_refuses sheet)) λ x.
    sheet_answers (judged_refuses 0 _ 0 (unless_verdict _ separator_not_utf8 refl))

-- containment and both equalities: those of a sheet
pub contains_refuses : (sheet other : Bytes) → AnswersBy sheet_numbers (contains_answer sheet other)
unfolding contains_answer yes_no
contains_refuses sheet other = then_answers (two_refuse sheet other) λ p. answers

pub equals_datatype_refuses : (sheet other : Bytes) → AnswersBy sheet_numbers (equals_datatype_answer sheet other)
unfolding equals_datatype_answer yes_no
equals_datatype_refuses sheet other = then_answers (two_refuse sheet other) λ p. answers

pub equal_refuses : (sheet other : Bytes) → AnswersBy sheet_numbers (equal_answer sheet other)
unfolding equal_answer yes_no
equal_refuses sheet other = then_answers (two_refuse sheet other) λ p. answers

-- `is_nested`: those of a sheet
pub is_nested_refuses : (sheet : Bytes) → AnswersBy sheet_numbers (is_nested_answer sheet)
unfolding is_nested_answer
is_nested_refuses sheet = then_answers (sheet_refuses sheet) λ x. answers

found_refuses : (p : Option ℕ) → Refuses (Among index_of_numbers) (if_found p)
unfolding if_found among
found_refuses (Some i) = gives
found_refuses None = stops refl

-- `index_of`: those of a sheet, and 13
pub index_of_refuses : (sheet name : Bytes) → AnswersBy index_of_numbers (index_of_answer sheet name)
unfolding index_of_answer index_of among all
index_of_refuses sheet name =
    then_answers (refuses_map (among_more sheet_numbers index_of_numbers refl) (sheet_refuses sheet)) λ x.
    then_answers (found_refuses _) λ b. answers

-- `flattened_fields`: those of a sheet
pub flattened_fields_refuses : (sheet : Bytes) → AnswersBy sheet_numbers (flattened_fields_answer sheet)
unfolding flattened_fields_answer
flattened_fields_refuses sheet = then_answers (sheet_refuses sheet) λ x. answers

-- `try_new`: 6, 7, 14 and 15
pub try_new_refuses : (ids : Bytes) (count : ℕ) → AnswersBy try_new_numbers (try_new_answer ids count)
unfolding try_new_answer
try_new_refuses ids count = then_answers (try_new_step ids count [] 0) λ b. answers

-- `try_from_fields`: 16
pub try_from_fields_refuses : (count : ℕ) → AnswersBy try_from_fields_numbers (try_from_fields_answer count)
unfolding try_from_fields_answer try_from_fields among
try_from_fields_refuses count = then_answers (choose_either (Refuses _) _ _ _ gives (stops refl)) λ b. answers

-- So 0 means accepted: no operation refuses with it, whatever it is given

pub merge_numbered : (parked : Bool) (train : Bytes) → Numbered (merge_answer parked train)
unfolding among
merge_numbered parked train = answers_numbered merge_numbers refl (merge_refuses parked train)

pub project_numbered : (strict : Bool) (sheet list : Bytes) → Numbered (project_answer strict sheet list)
unfolding among
project_numbered true sheet list = answers_numbered (project_numbers true) refl (project_refuses true sheet list)
project_numbered false sheet list = answers_numbered (project_numbers false) refl (project_refuses false sheet list)

pub filter_numbered : (sheet mask : Bytes) → Numbered (filter_answer sheet mask)
unfolding among
filter_numbered sheet mask = answers_numbered filter_numbers refl (filter_refuses sheet mask)

pub normalize_numbered : (sheet separator : Bytes) (maxLevel : ℕ) → Numbered (normalize_answer sheet separator maxLevel)
unfolding among
normalize_numbered sheet separator maxLevel = answers_numbered normalize_numbers refl (normalize_refuses sheet separator maxLevel)

pub contains_numbered : (sheet other : Bytes) → Numbered (contains_answer sheet other)
unfolding among
contains_numbered sheet other = answers_numbered sheet_numbers refl (contains_refuses sheet other)

pub equals_datatype_numbered : (sheet other : Bytes) → Numbered (equals_datatype_answer sheet other)
unfolding among
equals_datatype_numbered sheet other = answers_numbered sheet_numbers refl (equals_datatype_refuses sheet other)

pub equal_numbered : (sheet other : Bytes) → Numbered (equal_answer sheet other)
unfolding among
equal_numbered sheet other = answers_numbered sheet_numbers refl (equal_refuses sheet other)

pub is_nested_numbered : (sheet : Bytes) → Numbered (is_nested_answer sheet)
unfolding among
is_nested_numbered sheet = answers_numbered sheet_numbers refl (is_nested_refuses sheet)

pub index_of_numbered : (sheet name : Bytes) → Numbered (index_of_answer sheet name)
unfolding among
index_of_numbered sheet name = answers_numbered index_of_numbers refl (index_of_refuses sheet name)

pub flattened_fields_numbered : (sheet : Bytes) → Numbered (flattened_fields_answer sheet)
unfolding among
flattened_fields_numbered sheet = answers_numbered sheet_numbers refl (flattened_fields_refuses sheet)

pub try_new_numbered : (ids : Bytes) (count : ℕ) → Numbered (try_new_answer ids count)
unfolding among
try_new_numbered ids count = answers_numbered try_new_numbers refl (try_new_refuses ids count)

pub try_from_fields_numbered : (count : ℕ) → Numbered (try_from_fields_answer count)
unfolding among
try_from_fields_numbered count = answers_numbered try_from_fields_numbers refl (try_from_fields_refuses count)

-- The calls

abbrev NumberAmong : List ℕ → Exit → Type 0
NumberAmong numbers e = Among (call_numbers ++ numbers) e.number

-- every number that a call gives is 0, 32, 30, 31 or one of its operation's own
pub call_number : (numbers : List ℕ) (given : ℕ) {outcome : Answer} (work answer : Bytes) → AnswersBy numbers outcome
    → Among (call_numbers ++ numbers) (call given outcome work answer).number
unfolding call settled acceptance refusal among
call_number numbers given work answer h = choose_either (NumberAmong numbers) _ _ _ refl (go h)
  where
    go : {o : Answer} → AnswersBy numbers o → NumberAmong numbers (settled o (zeros (length work)) answer)
    go answers = choose_either (NumberAmong numbers) _ _ _ refl (choose_either (NumberAmong numbers) _ _ _ refl refl)
    go (refuses_by k) = among_behind call_numbers numbers _ k
