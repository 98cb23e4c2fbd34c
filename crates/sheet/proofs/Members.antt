-- Union children: the reading that keeps a flag for each id is the definition's, which keeps every child.
use Prim.Native.Nat.{ℕ, zero, suc, ◌-◌, ◌<◌, ◌≤◌}
use native.Mathlib.Omega.{arith}
use mathlib.Core.Path.{◌≡◌, refl, sym, ap, subst, ◌∙◌}
use mathlib.Core.List.{List, [], ◌∷◌, map}
use mathlib.Core.Bool.{Bool, true, false, not, ◌||◌}
use lib.ListN.{length, get_or, set, length-set, get_or-replicate, length-replicate}
use lib.Seq.{get_or-set_same, get_or-set_other}
use lib.Dec.{eqb, leb}
use borrow.Author.Tests.{eqb-true, eqb-false, leb-true, le-leb, lt-leb}
use Rattle.model.specs.Bytes.{Bytes, among, bit}
use Rattle.model.specs.Tree.{Field, DataType}
use Rattle.model.specs.Read as read
use Rattle.model.specs.Read.{got, bad, Reader, next, judged, unless, ◌then◌, anything, id_fits, if_set, read_number, read_text, read_metadata, read_dict_id, read_many, read_field, read_union_child, read_type}
use Rattle.model.proofs.Steps.{Holds, value, refusal, next_holds}
use Rattle.model.proofs.Items.{number_law}
use Rattle.std.specs.Prelude.{Result, Ok, Err, IsErrAnd}
use Rattle.buffer.specs.declared.refusal.Refusal.{Refusal}
use Rattle.buffer.specs.Refusals.{numbered}
use Rattle.sheet.specs.Answers.{Step, item_of, step_of}
use Rattle.sheet.specs.Shapes.{no_ids, read_id, read_members}
use Rattle.sheet.proofs.Ways.{told_ok, told_err, passed_on, item_is, item_no, step_is, step_no, step_made, next_next, next_alike}
use Rattle.sheet.proofs.TreeWays.{field_any}

-- the flags stand for the ids seen
pub record Flags (used : List Bool) (ids : List ℕ) : Type 0 where
  pub size : length used ≡ 128
  pub flag : (i : ℕ) → i ≤ 127 → get_or used i false ≡ among i ids

flags_none : Flags no_ids []
unfolding no_ids among
flags_none = record { size = length-replicate {A = Bool} 128 false; flag = λ i h. get_or-replicate 128 i false false (omega (arith, h)) }

flags_more : (used : List Bool) (ids : List ℕ) (i : ℕ) → Flags used ids → i ≤ 127 → Flags (set used i true) (i ∷ ids)
unfolding among
flags_more used ids i h k = record { size = length-set used i true ∙ h.size; flag = λ j w. go j w (eqb j i) refl }
  where
    go : (j : ℕ) → j ≤ 127 → (t : Bool) → eqb j i ≡ t → get_or (set used i true) j false ≡ (eqb j i || among j ids)
    go j w true q =
        ap (λ n. get_or (set used i true) n false) (eqb-true j i q) ∙ get_or-set_same used i true false (omega (arith, k, h.size)) ∙ ap (λ t. t || among j ids) (sym q)
    go j w false q = get_or-set_other used i j true false (eqb-false j i q) ∙ h.flag j w ∙ ap (λ t. t || among j ids) (sym q)

-- a field read with an id has it
field_id : (s : Bytes) (lim l : ℕ) (rt : Bool → Reader (DataType l)) (i at : ℕ) → Holds (λ f e. f.head.type_id ≡ i) (read_field s lim l rt i at)
unfolding read_field
field_id s lim l rt i at =
    next_holds (any (read_number s lim 1 _ at)) λ m e u.
    next_holds (any (if_set (bit 2 m) (read_text s lim 1) [] e)) λ n e u.
    next_holds (any (if_set (bit 3 m) (read_metadata s lim) [] e)) λ d e u.
    next_holds (any (if_set (bit 4 m) (read_dict_id s lim) 0 e)) λ k e u.
    next_holds (any (rt (bit 1 m) e)) λ t e u.
    value refl
  where
    any : {A : Type 0} (g : read.Step A) → Holds (λ a e. Unit {0}) g
    any (got a e) = value tt
    any (bad n p) = refusal

next_alike_if : {A B C : Type 0} {P : A → ℕ → Type 0} (g : read.Step A) (f : A → ℕ → read.Step B) (h : A → ℕ → read.Step C) → Holds P g
    → ((a : A) (e : ℕ) → P a e → step_of (f a e) ≡ step_of (h a e)) → step_of (next g f) ≡ step_of (next g h)
unfolding next
next_alike_if (got a e) f h (value p) k = k a e p
next_alike_if (bad n p) f h q k = refl

-- two readings that go on alike from one value, whatever the verdict on it
judged_alike : {A B C : Type 0} (m n place : ℕ) (a : A) (e : ℕ) (f : A → ℕ → read.Step B) (h : A → ℕ → read.Step C) → m ≡ n → step_of (f a e) ≡ step_of (h a e)
    → step_of (next (judged m place a e) f) ≡ step_of (next (judged n place a e) h)
unfolding next judged
judged_alike m n place a e f h q k = ap (λ m. step_of (next (judged m place a e) f)) q ∙ go n
  where
    go : (n : ℕ) → step_of (next (judged n place a e) f) ≡ step_of (next (judged n place a e) h)
    go zero = k
    go (suc n) = refl

abbrev ids : (l : ℕ) → List (Field l) → List ℕ
ids l seen = map (λ f. f.head.type_id) seen

module _ (s : Bytes) (lim l : ℕ) where
  -- one id: the same verdict, and then the same reading
  id_alike : {B C : Type 0} (used : List Bool) (seen : List (Field l)) → Flags used (ids l seen) → (at i e : ℕ) (f : ℕ → ℕ → read.Step B) (h : ℕ → ℕ → read.Step C)
      → (i ≤ 127 → step_of (f i e) ≡ step_of (h i e))
      → step_of (next (judged (unless (leb i 127) 6 then unless (not (get_or used i false)) 7) at i e) f) ≡ step_of (next (judged (id_fits (ids l seen) i) at i e) h)
  unfolding unless ◌then◌ next judged
  id_alike used seen w at i e f h k = go (leb i 127) refl
    where
      go : (t : Bool) → leb i 127 ≡ t → step_of (next (judged (unless t 6 then unless (not (get_or used i false)) 7) at i e) f) ≡ step_of (next (judged (unless t 6 then unless (not (among i (ids l seen))) 7) at i e) h)
      go true q = judged_alike _ _ at i e f h (ap (λ t. unless (not t) 7) (w.flag i (leb-true i 127 q))) (k (leb-true i 127 q))
      go false q = refl

  members_law : (n : ℕ) (used : List Bool) (seen : List (Field l)) → Flags used (ids l seen) → (at : ℕ)
      → step_of (read_members s lim l used n at) ≡ step_of (read_many n (read_union_child s lim l (read_type s lim l)) seen at)
  unfolding read_members read_many read_id read_union_child
  members_law zero used seen w at = refl
  members_law (suc n) used seen w at =
      ap step_of (next_next (read_number s lim 1 anything at) _ _)
      ∙ next_alike (read_number s lim 1 anything at) _ _ (λ i e. id_alike used seen w at i e _ _ (λ k.
      next_alike_if (read_field s lim l (read_type s lim l) i e) _ _ (field_id s lim l (read_type s lim l) i e) (λ f m q.
      members_law n (set used i true) (f ∷ seen) (subst (λ j. Flags (set used i true) (j ∷ ids l seen)) (sym q) (flags_more used (ids l seen) i w k)) m
      ∙ sym (step_made (λ r. f ∷ r) (read_many n (read_union_child s lim l (read_type s lim l)) (f ∷ seen) m)))))
      ∙ ap step_of (sym (next_next (read_number s lim 1 anything at) _ _))
      ∙ ap (λ g. step_of (next g (rest n seen))) (sym (number_law s lim 1 (id_fits (ids l seen)) at))
      ∙ ap step_of (sym (next_next (read_number s lim 1 (id_fits (ids l seen)) at) (λ i e. read_field s lim l (read_type s lim l) i e) (last n seen)))
    where
      last : (n : ℕ) (seen : List (Field l)) → Field l → ℕ → read.Step (List (Field l))
      last n seen f e = next (read_many n (read_union_child s lim l (read_type s lim l)) (f ∷ seen) e) (λ r e. got (f ∷ r) e)

      rest : (n : ℕ) (seen : List (Field l)) → ℕ → ℕ → read.Step (List (Field l))
      rest n seen i e = next (read_field s lim l (read_type s lim l) i e) (last n seen)

  pub members_begin : (n at : ℕ) → step_of (read_members s lim l no_ids n at) ≡ step_of (read_many n (read_union_child s lim l (read_type s lim l)) [] at)
  members_begin n at = members_law n no_ids [] flags_none at

-- A turn over union children

module _ (s : Bytes) (lim l : ℕ) where
  turn : (used : List Bool) (n at : ℕ) → 0 < n
      → read_members s lim l used n at ≡ next (read_id s lim used at) (λ i m. next (read_field s lim l (read_type s lim l) i m) (λ f e. read_members s lim l (set used i true) (n - 1) e))
  unfolding read_members
  turn used zero at h = absurd (omega (arith, h))
  turn used (suc n) at h =
      let w : suc n - 1 ≡ n = omega arith in
      ap (λ m. next (read_id s lim used at) (λ i p. next (read_field s lim l (read_type s lim l) i p) (λ f e. read_members s lim l (set used i true) m e))) (sym w)

  module _ (used : List Bool) (place left : ℕ) (whole : Step) (inv : step_of (read_members s lim l used left place) ≡ whole) where
    pub members_done : left ≤ 0 → Ok place ≡ whole
    unfolding read_members
    members_done h = let z : left ≡ 0 = omega (arith, h) in ap (λ n. step_of (read_members s lim l used n place)) (sym z) ∙ inv

    module _ (more : 0 < left) (i : Result (ℕ × ℕ) Refusal) (p : numbered i ≡ item_of (read_id s lim used place)) where
      abbrev after : ℕ → ℕ → read.Step (List ℕ)
      after i m = next (read_field s lim l (read_type s lim l) i m) (λ f e. read_members s lim l (set used i true) (left - 1) e)

      pub members_id_stop : (x : Refusal) (y : Result ℕ Refusal) → i ≡ Err x → IsErrAnd y (λ z. z ≡ x) → numbered y ≡ whole
      unfolding next
      members_id_stop x y h t = passed_on x y t ∙ ap step_of (sym (turn used left place more ∙ ap (λ g. next g after) (item_no (read_id s lim used place) p (told_err h)))) ∙ inv

      module _ (v m : ℕ) (q : i ≡ Ok (v, m)) (j : Step) (t : j ≡ step_of (read_field s lim l (read_type s lim l) 0 m)) where
        abbrev last : Field l → ℕ → read.Step (List ℕ)
        last f e = read_members s lim l (set used v true) (left - 1) e

        id_then : step_of (next (read_field s lim l (read_type s lim l) v m) last) ≡ whole
        unfolding next
        id_then = ap step_of (sym (turn used left place more ∙ ap (λ g. next g after) (item_is (read_id s lim used place) p (told_ok q)))) ∙ inv

        field_v : j ≡ step_of (read_field s lim l (read_type s lim l) v m)
        field_v = t ∙ field_any s lim l (read_type s lim l) 0 v m

        pub members_field_stop : (k n : ℕ) → j ≡ Err (k, n) → j ≡ whole
        unfolding next
        members_field_stop k n h = h ∙ ap (λ g. step_of (next g last)) (sym (step_no (read_field s lim l (read_type s lim l) v m) field_v h)) ∙ id_then

        pub members_again : (e : ℕ) → j ≡ Ok e → step_of (read_members s lim l (set used v true) (left - 1) e) ≡ whole
        unfolding next
        members_again e h = ap (λ g. step_of (next g last)) (sym (step_is (read_field s lim l (read_type s lim l) v m) field_v h).1) ∙ id_then

-- an id that was read is small
small : (at x e v m : ℕ) (t : Bool) (w : ℕ) → leb x 127 ≡ t → judged (unless t 6 then w) at x e ≡ got v m → v < 128
unfolding judged unless ◌then◌
small at x e v m true zero h k = let z : x ≡ v = cc in omega (arith, leb-true x 127 h, z)
small at x e v m true (suc w) h k = let z : ◌≡◌ {A = ℕ} 0 1 = cc in absurd (omega arith)
small at x e v m false w h k = let z : ◌≡◌ {A = ℕ} 0 1 = cc in absurd (omega arith)

pub id_small : (s : Bytes) (lim : ℕ) (used : List Bool) (at : ℕ) (i : Result (ℕ × ℕ) Refusal) (v m : ℕ) → numbered i ≡ item_of (read_id s lim used at) → i ≡ Ok (v, m) → v < 128
unfolding read_id next
id_small s lim used at i v m p q = go (read_number s lim 1 anything at) (item_is (read_id s lim used at) p (told_ok q))
  where
    go : (g : read.Step ℕ) → next g (λ i e. judged (unless (leb i 127) 6 then unless (not (get_or used i false)) 7) at i e) ≡ got v m → v < 128
    go (got x e) h = small at x e v m (leb x 127) _ refl h
    go (bad n k) h = let z : ◌≡◌ {A = ℕ} 0 1 = cc in absurd (omega arith)

-- What is answered to an id

module _ (s : Bytes) (lim : ℕ) (used : List Bool) (at : ℕ) (i : Result (ℕ × ℕ) Refusal) (p : numbered i ≡ item_of (read_number s lim 1 anything at)) where
  pub id_stop : (x : Refusal) (y : Result (ℕ × ℕ) Refusal) → i ≡ Err x → IsErrAnd y (λ z. z ≡ x) → numbered y ≡ item_of (read_id s lim used at)
  unfolding read_id next
  id_stop x y h t = passed_on x y t ∙ ap item_of (ap (λ g. next g (λ i e. judged (unless (leb i 127) 6 then unless (not (get_or used i false)) 7) at i e)) (sym (item_no (read_number s lim 1 anything at) p (told_err h))))

  module _ (v e : ℕ) (q : i ≡ Ok (v, e)) where
    pub id_large : 127 < v → Err (6, at) ≡ item_of (read_id s lim used at)
    unfolding read_id next judged unless ◌then◌
    id_large h = rw (item_is (read_number s lim 1 anything at) p (told_ok q), lt-leb v 127 h)

    pub id_again : v ≤ 127 → get_or used v false ≡ true → Err (7, at) ≡ item_of (read_id s lim used at)
    unfolding read_id next judged unless ◌then◌
    id_again h k = rw (item_is (read_number s lim 1 anything at) p (told_ok q), le-leb v 127 h, k)

    pub id_new : v ≤ 127 → get_or used v false ≡ false → Ok (v, e) ≡ item_of (read_id s lim used at)
    unfolding read_id next judged unless ◌then◌
    id_new h k = rw (item_is (read_number s lim 1 anything at) p (told_ok q), le-leb v 127 h, k)
