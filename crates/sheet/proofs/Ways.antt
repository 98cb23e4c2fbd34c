-- How an answer of the code follows the definition step by step: sets for `search`, which finds each premise among what the code knows at
-- a return.
use Prim.Native.Nat.{ℕ, zero, suc, ◌+◌, ◌*◌, ◌-◌, ◌/◌, ◌%◌, ◌^◌, ◌<◌, ◌≤◌}
use native.Mathlib.Omega.{arith}
use mathlib.Core.Path.{◌≡◌, refl, sym, ap, subst, ◌∙◌}
use mathlib.Core.Bool.{Bool, true, false, ◌||◌, false≢true}
use lib.ListN.{length, get_or, take, drop}
use lib.Dec.{eqb, ltb, leb}
use borrow.Author.Tests.{le-leb, lt-leb, lt-ltb, le-ltb}
use Rattle.model.specs.Numbers.{malformed}
use Rattle.model.specs.Bytes.{Bytes, bit, num}
use Rattle.model.specs.Text.{utf8}
use Rattle.model.specs.Read as read
use Rattle.model.specs.Read.{got, bad, Reader, next, judged, if_set, unless, ◌then◌, at_least, anything, is_text, param_fits, read_item, read_number, read_dict_id}
use Rattle.model.proofs.Items.{item_ends, item_far, item_judged, item_law, number_law, ItemRoom, item_room}
use lib.Seq.{drop-cons}
use Rattle.model.proofs.Steps.{Holds, of_got}
use Rattle.std.specs.Prelude.{Result, Ok, Err, IsErrAnd}
use Rattle.buffer.specs.declared.refusal.Refusal.{Refusal}
use Rattle.buffer.specs.Refusals.{number_of, numbered}
use Rattle.buffer.proofs.Ends.{handed_up}
use Rattle.sheet.specs.Answers.{Item, Step, item_of, step_of}
use Rattle.text.specs.Text.{text_of}
use Rattle.text.specs.declared.NotUtf8.{NotUtf8}
use Rattle.text.proofs.Utf8.{valid_true, broken_false}

-- An answer of the code, by its cases

pub told_ok : {A : Type 0} {x : Result A Refusal} {a : A} → x ≡ Ok a → numbered x ≡ Ok a
told_ok h = ap numbered h

pub told_err : {A : Type 0} {x : Result A Refusal} {r : Refusal} → x ≡ Err r → numbered x ≡ Err (number_of r.0, r.1)
told_err h = ap numbered h

-- What an answer says of the step that it is the image of

-- a pair by its parts
parts : {a m v n : ℕ} → ◌≡◌ {A = ℕ × ℕ} (a, m) (v, n) → (a ≡ v) × (m ≡ n)
parts e = (ap (λ (p : ℕ × ℕ). p.0) e, ap (λ (p : ℕ × ℕ). p.1) e)

pub item_is : (g : read.Step ℕ) {r : Item} {v n : ℕ} → r ≡ item_of g → r ≡ Ok (v, n) → g ≡ got v n
item_is (got a m) {r} {v} {n} e t = let (p, q) = parts {a = a} {m = m} {v = v} {n = n} cc in cc
item_is (bad k p) e t = cc

pub item_no : (g : read.Step ℕ) {r : Item} {k p : ℕ} → r ≡ item_of g → r ≡ Err (k, p) → g ≡ bad k p
item_no (got a m) e t = cc
item_no (bad l q) {r} {k} {p} e t = let (i, j) = parts {a = l} {m = q} {v = k} {n = p} cc in cc

pub step_is : {A : Type 0} (g : read.Step A) {r : Step} {n : ℕ} → r ≡ step_of g → r ≡ Ok n → (a : A) × (g ≡ got a n)
step_is (got a m) e t = (a, cc)
step_is (bad k p) e t = cc

pub step_no : {A : Type 0} (g : read.Step A) {r : Step} {k p : ℕ} → r ≡ step_of g → r ≡ Err (k, p) → g ≡ bad k p
step_no (got a m) e t = cc
step_no (bad l q) {r} {k} {p} e t = let (i, j) = parts {a = l} {m = q} {v = k} {n = p} cc in cc

-- Steps that have one image

pub next_next : {A B C : Type 0} (g : read.Step A) (f : A → ℕ → read.Step B) (h : B → ℕ → read.Step C) → next (next g f) h ≡ next g (λ a e. next (f a e) h)
unfolding next
next_next (got a e) f h = refl
next_next (bad n p) f h = refl

pub next_alike : {A B C : Type 0} (g : read.Step A) (f : A → ℕ → read.Step B) (h : A → ℕ → read.Step C) → ((a : A) (e : ℕ) → step_of (f a e) ≡ step_of (h a e)) → step_of (next g f) ≡ step_of (next g h)
unfolding next
next_alike (got a e) f h k = k a e
next_alike (bad n p) f h k = refl

-- what is made of a value does not show
pub step_made : {A B : Type 0} (f : A → B) (g : read.Step A) → step_of (next g (λ a e. got (f a) e)) ≡ step_of g
unfolding next
step_made f (got a e) = refl
step_made f (bad n p) = refl

-- One step after another

module _ {B : Type 0} (r : Step) where
  module _ (f : ℕ → ℕ → read.Step B) (i : Item) where
    pub item_then : (g : read.Step ℕ) (v n : ℕ) → i ≡ item_of g → i ≡ Ok (v, n) → r ≡ step_of (f v n) → r ≡ step_of (next g f)
    unfolding next
    item_then g v n e t h = rw (item_is g e t) h

    -- a number and the verdict on it
    pub number_then : (s : Bytes) (lim m : ℕ) (fits : ℕ → ℕ) (place v n : ℕ) → i ≡ item_of (read_number s lim m anything place) → i ≡ Ok (v, n)
        → r ≡ step_of (next (judged (fits v) place v n) f) → r ≡ step_of (next (read_number s lim m fits place) f)
    unfolding next
    number_then s lim m fits place v n e t h = rw (number_law s lim m fits place, item_is (read_number s lim m anything place) e t) h

  module _ {A : Type 0} where
    pub step_then : (g : read.Step A) (f : A → ℕ → read.Step B) (i : Step) (n : ℕ) → i ≡ step_of g → i ≡ Ok n → ((a : A) → r ≡ step_of (f a n)) → r ≡ step_of (next g f)
    unfolding next
    step_then g f i n e t h = let m = step_is g e t in rw m.1 (h m.0)

    pub step_stop : (g : read.Step A) (f : A → ℕ → read.Step B) (k p : ℕ) → r ≡ step_of g → r ≡ Err (k, p) → r ≡ step_of (next g f)
    unfolding next
    step_stop g f k p e t = rw (step_no g e t) t

-- the `?` of an item that is refused: y is what is returned

pub passed_on : {B : Type 0} (x : Refusal) (y : Result B Refusal) → IsErrAnd y (λ z. z ≡ x) → numbered y ≡ Err (number_of x.0, x.1)
passed_on x y h = told_err (handed_up y h)

module _ {B : Type 0} {i : Result (ℕ × ℕ) Refusal} (x : Refusal) (y : Result ℕ Refusal) (f : ℕ → ℕ → read.Step B) where
  pub item_stop : (g : read.Step ℕ) → numbered i ≡ item_of g → i ≡ Err x → IsErrAnd y (λ z. z ≡ x) → numbered y ≡ step_of (next g f)
  unfolding next
  item_stop g e t h = rw (item_no g e (told_err t)) (passed_on x y h)

  -- a number and the verdict on it
  pub number_stop : (s : Bytes) (lim m : ℕ) (fits : ℕ → ℕ) (place : ℕ) → numbered i ≡ item_of (read_number s lim m anything place) → i ≡ Err x
      → IsErrAnd y (λ z. z ≡ x) → numbered y ≡ step_of (next (read_number s lim m fits place) f)
  unfolding next
  number_stop s lim m fits place e t h = rw (number_law s lim m fits place, item_no (read_number s lim m anything place) e (told_err t)) (passed_on x y h)

-- a number that refuses
refuses : {A : Type 0} (m place : ℕ) (v : A) (e : ℕ) → ltb 0 m ≡ true → judged m place v e ≡ bad m place
unfolding judged
refuses zero place v e h = absurd (false≢true h)
refuses (suc m) place v e h = refl

then_refuses : (m n : ℕ) → ltb 0 m ≡ true → m then n ≡ m
unfolding ◌then◌
then_refuses zero n h = absurd (false≢true h)
then_refuses (suc m) n h = refl

-- Verdicts on a value

module _ {A B : Type 0} (r : Step) (place : ℕ) (v : A) (e : ℕ) (f : A → ℕ → read.Step B) where
  -- any number is at least 0
  pub judge_any : (b k : ℕ) → r ≡ step_of (f v e) → r ≡ step_of (next (judged (unless (leb 0 b) k) place v e) f)
  unfolding next judged unless
  judge_any b k t = rw (le-leb 0 b (omega arith)) t

  module _ (a b k : ℕ) where
    pub judge_le : a ≤ b → r ≡ step_of (f v e) → r ≡ step_of (next (judged (unless (leb a b) k) place v e) f)
    unfolding next judged unless
    judge_le h t = rw (le-leb a b h) t

    pub judge_nle : ltb 0 k ≡ true → b < a → r ≡ Err (k, place) → r ≡ step_of (next (judged (unless (leb a b) k) place v e) f)
    unfolding next unless
    judge_nle z h t = rw (lt-leb a b h, refuses k place v e z) t

    module _ (m : ℕ) where
      pub judge_le_then : a ≤ b → r ≡ step_of (next (judged m place v e) f) → r ≡ step_of (next (judged (unless (leb a b) k then m) place v e) f)
      unfolding next judged unless ◌then◌
      judge_le_then h t = rw (le-leb a b h) t

      pub judge_nle_then : ltb 0 k ≡ true → b < a → r ≡ Err (k, place) → r ≡ step_of (next (judged (unless (leb a b) k then m) place v e) f)
      unfolding next unless
      judge_nle_then z h t = rw (lt-leb a b h, then_refuses k m z, refuses k place v e z) t

      pub judge_lt_then : a < b → r ≡ step_of (next (judged m place v e) f) → r ≡ step_of (next (judged (unless (ltb a b) k then m) place v e) f)
      unfolding next judged unless ◌then◌
      judge_lt_then h t = rw (lt-ltb a b h) t

      pub judge_nlt_then : ltb 0 k ≡ true → b ≤ a → r ≡ Err (k, place) → r ≡ step_of (next (judged (unless (ltb a b) k then m) place v e) f)
      unfolding next unless
      judge_nlt_then z h t = rw (le-ltb a b h, then_refuses k m z, refuses k place v e z) t

  -- levels are left, or none is
  module _ (l k m : ℕ) where
    pub judge_left_then : (l ≡ 0 → ⊥) → r ≡ step_of (next (judged m place v e) f) → r ≡ step_of (next (judged (unless (ltb 0 l) k then m) place v e) f)
    judge_left_then h t = judge_lt_then 0 l k m (omega (arith, h)) t

    pub judge_none_then : ltb 0 k ≡ true → l ≡ 0 → r ≡ Err (k, place) → r ≡ step_of (next (judged (unless (ltb 0 l) k then m) place v e) f)
    judge_none_then z h t = judge_nlt_then 0 l k m z (omega (arith, h)) t

  module _ (t d : Bool) (k : ℕ) where
    pub judge_true : d ≡ t → d ≡ true → r ≡ step_of (f v e) → r ≡ step_of (next (judged (unless t k) place v e) f)
    unfolding next judged unless
    judge_true p q h = rw (sym p ∙ q) h

    pub judge_false : ltb 0 k ≡ true → d ≡ t → d ≡ false → r ≡ Err (k, place) → r ≡ step_of (next (judged (unless t k) place v e) f)
    unfolding next unless
    judge_false z p q h = rw (sym p ∙ q, refuses k place v e z) h

-- A part under a bit

module _ {A : Type 0} {r : Result ℕ Refusal} (rd : Reader A) (a : A) (place : ℕ) where
  part_way : (t : Bool) → (t ≡ true → numbered r ≡ step_of (rd place)) → (t ≡ false → r ≡ Ok place) → numbered r ≡ step_of (if_set t rd a place)
  unfolding if_set
  part_way true f g = f refl
  part_way false f g = told_ok (g refl)

  pub bit_way : (k m : ℕ) → (eqb (m / 2 ^ k % 2) 1 ≡ true → numbered r ≡ step_of (rd place)) → (eqb (m / 2 ^ k % 2) 1 ≡ false → r ≡ Ok place)
      → numbered r ≡ step_of (if_set (bit k m) rd a place)
  unfolding bit
  bit_way k m f g = part_way (eqb (m / 2 ^ k % 2) 1) f g

  -- bit 0, tested as a remainder alone
  pub bit_way_0 : (m : ℕ) → (eqb (m % 2) 1 ≡ true → numbered r ≡ step_of (rd place)) → (eqb (m % 2) 1 ≡ false → r ≡ Ok place)
      → numbered r ≡ step_of (if_set (bit 0 m) rd a place)
  bit_way_0 m f g = let e : m / 2 ^ 0 ≡ m = omega arith in bit_way 0 m (rw e f) (rw e g)

-- Items

module _ (s : Bytes) (lim n place : ℕ) where
  pub step_ends : (fits : Bytes → ℕ) → length s < place + n → Err (1, place) ≡ step_of (read_item s lim n fits place)
  step_ends fits h = rw (item_ends s lim n fits place h)

  pub step_far : (fits : Bytes → ℕ) → place + n ≤ length s → lim < place + n → Err (9, place) ≡ step_of (read_item s lim n fits place)
  step_far fits h k = rw (item_far s lim n fits place h k)

  pub step_fits : place + n ≤ length s → place + n ≤ lim → Ok (place + n) ≡ step_of (read_item s lim n anything place)
  unfolding judged
  step_fits h k = rw (item_judged s lim n anything place h k)

-- bytes that were read as they stand
pub record RawGot (s : Bytes) (lim n place e : ℕ) : Type 0 where
  pub ends : e ≡ place + n
  pub inside : place + n ≤ length s
  pub reads : read_item s lim n anything place ≡ got (take n (drop place s)) e

pub raw_got : (s : Bytes) (lim n place : ℕ) {r : Result ℕ Refusal} {e : ℕ} → numbered r ≡ step_of (read_item s lim n anything place) → r ≡ Ok e → RawGot s lim n place e
raw_got s lim n place {r} {e} p t =
    let (b, h) = step_is (read_item s lim n anything place) p (told_ok t) in
    let room : ItemRoom s n place b e = of_got (subst (Holds (ItemRoom s n place)) h (item_room s lim n anything place)) in
    record { ends = room.ends; inside = omega (arith, room.ends, room.inside); reads = h ∙ ap (λ b. got b e) room.bytes }

-- Numbers: their bytes as they stand

module _ (s : Bytes) (lim n place : ℕ) {r : Result ℕ Refusal} (p : numbered r ≡ step_of (read_item s lim n anything place)) where
  pub num_stop : (x : Refusal) (y : Result (ℕ × ℕ) Refusal) → r ≡ Err x → IsErrAnd y (λ z. z ≡ x) → numbered y ≡ item_of (read_number s lim n anything place)
  unfolding read_number next
  num_stop x y t h = passed_on x y h ∙ ap (λ g. item_of (next g (λ b e. got (num b) e))) (sym (step_no (read_item s lim n anything place) p (told_err t)))

  pub num_read : {v e : ℕ} → r ≡ Ok e → v ≡ num (take n (drop place s)) → ◌≡◌ {A = Item} (Ok (v, e)) (item_of (read_number s lim n anything place))
  unfolding read_number next
  num_read {v} {e} t w = ap (λ v. Ok (v, e)) w ∙ ap (λ g. item_of (next g (λ b e. got (num b) e))) (sym (raw_got s lim n place p t).reads)

pub one_byte : (s : Bytes) (place : ℕ) → place + 1 ≤ length s → get_or s place 0 ≡ num (take 1 (drop place s))
unfolding num
one_byte s place h = rw (drop-cons s place 0 (omega arith)) (omega arith)

pub two_bytes : (s : Bytes) (place : ℕ) → place + 2 ≤ length s → get_or s place 0 + 256 * get_or s (place + 1) 0 ≡ num (take 2 (drop place s))
unfolding num
two_bytes s place h =
    let w : place + 1 ≡ suc place = omega arith in
    rw (w, drop-cons s place 0 (omega arith), drop-cons s (suc place) 0 (omega arith)) (omega arith)

-- A verdict that is all

module _ {A : Type 0} (r : Step) (place : ℕ) (v : A) (e : ℕ) where
  module _ (a b k : ℕ) where
    pub end_le : a ≤ b → r ≡ Ok e → r ≡ step_of (judged (unless (leb a b) k) place v e)
    unfolding judged unless
    end_le h t = rw (le-leb a b h) t

    pub end_nle : ltb 0 k ≡ true → b < a → r ≡ Err (k, place) → r ≡ step_of (judged (unless (leb a b) k) place v e)
    unfolding unless
    end_nle z h t = rw (lt-leb a b h, refuses k place v e z) t

-- A parameter of one byte

pub param_way : (r : Step) (s : Bytes) (lim top place : ℕ) → r ≡ step_of (next (read_number s lim 1 anything place) (λ v e. judged (unless (leb v top) malformed) place v e))
    → r ≡ step_of (read_item s lim 1 (param_fits (1, top)) place)
unfolding read_number next judged unless
param_way r s lim top place h = h ∙ same (read_item s lim 1 anything place) ∙ ap step_of (sym (item_law s lim 1 (param_fits (1, top)) place))
  where
    verdict : (t : Bool) (b : Bytes) (e : ℕ) → step_of (judged (unless t 2) place (num b) e) ≡ step_of (judged (unless (t || false) 2) place b e)
    verdict true b e = refl
    verdict false b e = refl

    same : (g : read.Step Bytes) → step_of (next (next g (λ b e. got (num b) e)) (λ v e. judged (unless (leb v top) 2) place v e)) ≡ step_of (next g (λ b e. judged (param_fits (1, top) b) place b e))
    same (got b e) = verdict (leb (num b) top) b e
    same (bad n p) = refl

-- A string's body: its bytes as they stand, then the verdict

module _ (s : Bytes) (lim at n : ℕ) {r : Result ℕ Refusal} (p : numbered r ≡ step_of (read_item s lim n anything at)) where
  pub body_stop : {x : Refusal} → r ≡ Err x → numbered r ≡ step_of (read_item s lim n is_text at)
  unfolding next
  body_stop t = told_err t ∙ ap (λ g. step_of (next g (λ b e. judged (is_text b) at b e))) (sym (step_no (read_item s lim n anything at) p (told_err t))) ∙ ap step_of (sym (item_law s lim n is_text at))

  module _ {end : ℕ} (t : r ≡ Ok end) {d : Result Unit NotUtf8} (e : d ≡ text_of (utf8 (take (end - at) (drop at s)))) where
    body_utf8 : utf8 (take (end - at) (drop at s)) ≡ utf8 (take n (drop at s))
    body_utf8 = let w : end - at ≡ n = omega (arith, (raw_got s lim n at p t).ends) in ap (λ m. utf8 (take m (drop at s))) w

    judged_body : step_of (read_item s lim n is_text at) ≡ step_of (judged (unless (utf8 (take n (drop at s))) 3) at (take n (drop at s)) end)
    unfolding next
    judged_body = ap step_of (item_law s lim n is_text at) ∙ ap (λ g. step_of (next g (λ b e. judged (is_text b) at b e))) (raw_got s lim n at p t).reads

    pub body_text : d ≡ Ok tt → Ok end ≡ step_of (read_item s lim n is_text at)
    unfolding judged unless
    body_text v = sym (judged_body ∙ ap (λ b. step_of (judged (unless b 3) at (take n (drop at s)) end)) (sym body_utf8 ∙ valid_true _ e v))

    pub body_broken : {x : NotUtf8} → d ≡ Err x → Err (3, at) ≡ step_of (read_item s lim n is_text at)
    unfolding judged unless
    body_broken v = sym (judged_body ∙ ap (λ b. step_of (judged (unless b 3) at (take n (drop at s)) end)) (sym body_utf8 ∙ broken_false _ e v))

-- A dictionary number: its bytes as they stand, then the verdict

dict_id_verdict : (s : Bytes) (lim at : ℕ) → step_of (read_dict_id s lim at) ≡ step_of (next (read_item s lim 8 anything at) (λ b e. judged (at_least 1 (num b)) at b e))
unfolding read_dict_id read_number
dict_id_verdict s lim at = step_made num (read_item s lim 8 (λ b. at_least 1 (num b)) at) ∙ ap step_of (item_law s lim 8 (λ b. at_least 1 (num b)) at)

module _ (s : Bytes) (lim at : ℕ) {raw : Result ℕ Refusal} (e : numbered raw ≡ step_of (read_item s lim 8 anything at)) where
  pub dict_id_refused : {x : Refusal} → raw ≡ Err x → numbered raw ≡ step_of (read_dict_id s lim at)
  dict_id_refused t = step_stop (numbered raw) (read_item s lim 8 anything at) _ _ _ e (told_err t) ∙ sym (dict_id_verdict s lim at)

  module _ {end : ℕ} (t : raw ≡ Ok end) where
    there : RawGot s lim 8 at end
    there = raw_got s lim 8 at e t

    pub dict_id_inside : at + 8 ≤ length s
    dict_id_inside = there.inside

    module _ {v : ℕ} (w : v ≡ num (take 8 (drop at s))) where
      read_is : step_of (read_dict_id s lim at) ≡ step_of (judged (at_least 1 v) at (take 8 (drop at s)) end)
      unfolding next
      read_is = dict_id_verdict s lim at ∙ ap (λ g. step_of (next g (λ b e. judged (at_least 1 (num b)) at b e))) there.reads ∙ ap (λ n. step_of (judged (at_least 1 n) at (take 8 (drop at s)) end)) (sym w)

      pub dict_id_zero : v ≡ 0 → Err (2, at) ≡ step_of (read_dict_id s lim at)
      unfolding judged unless
      dict_id_zero z = sym (read_is ∙ ap (λ n. step_of (judged (at_least 1 n) at (take 8 (drop at s)) end)) z)

      pub dict_id_there : (v ≡ 0 → ⊥) → Ok end ≡ step_of (read_dict_id s lim at)
      unfolding judged unless
      dict_id_there n = sym (read_is ∙ ap (λ b. step_of (judged (unless b malformed) at (take 8 (drop at s)) end)) (le-leb 1 v (omega (arith, n))))

pub ruleset ways = (told_ok, told_err, item_then, number_then, step_then, step_stop, judge_any, judge_le, judge_nle, judge_le_then, judge_nle_then, judge_left_then, judge_none_then, judge_true, judge_false, end_le, end_nle, param_way)
