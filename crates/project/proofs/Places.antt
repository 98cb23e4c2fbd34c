-- The table of the columns' places: an entry written, the turns of the loop that writes it, and what it says of each column.
use Prim.Native.Nat.{ℕ, suc, ◌+◌, ◌*◌, ◌/◌, ◌%◌, ◌≤◌, ◌<◌}
use native.Mathlib.Omega.{arith}
use mathlib.Core.Path.{◌≡◌, refl, sym, ap, subst, ◌∙◌}
use mathlib.Core.List.{List, [], ◌∷◌, ◌++◌, append_assoc}
use mathlib.Core.Bool.{Bool, true, false}
use lib.ListN.{length, take, drop, get_or, set, length-append, length-set, take-append-drop}
use lib.Seq.{get_or-set_same, get_or-set_other, get_or-take, take_all, take-append-le}
use lib.Dec.{leb}
use borrow.Author.Tests.{leb-true, leb-false}
use Rattle.model.specs.Numbers.{max_levels}
use Rattle.model.specs.Bytes.{Bytes, Every}
use Rattle.model.specs.Tree.{Field}
use Rattle.model.specs.Sheet.{each, column_bytes}
use Rattle.model.specs.WellFormed.{LaidOut}
use Rattle.model.specs.Schema.{select}
use Rattle.model.proofs.Entries.{take_select}
use Rattle.model.proofs.Lists.{each_append, length_each_append}
use Rattle.walk.specs.Stands.{Stands, SkipsField}
use Rattle.walk.proofs.Standing.{first_stands, second_stands}
use Rattle.walk.proofs.Passed.{Passed, passed_begin, passed_again, passed_done}
use Rattle.project.specs.Table.{Table, place_at}

-- One entry of the table

-- w with a place as entry i
abbrev pub placed : Bytes → ℕ → ℕ → Bytes
placed w i place = set (set w (2 * i) (place % 256)) (2 * i + 1) (place / 256 % 256)

length_placed : (w : Bytes) (i place : ℕ) → length (placed w i place) ≡ length w
length_placed w i place = length-set (set w (2 * i) (place % 256)) (2 * i + 1) (place / 256 % 256) ∙ length-set w (2 * i) (place % 256)

placed_same : (w : Bytes) (i place : ℕ) → place < 65536 → 2 * i + 2 ≤ length w → place_at (placed w i place) i ≡ place
placed_same w i place h k =
    let one = get_or-set_other (set w (2 * i) (place % 256)) (2 * i + 1) (2 * i) (place / 256 % 256) 0 (λ e. omega (arith, e)) ∙ get_or-set_same w (2 * i) (place % 256) 0 (omega (arith, k)) in
    let two = get_or-set_same (set w (2 * i) (place % 256)) (2 * i + 1) (place / 256 % 256) 0 (omega (arith, k, length-set w (2 * i) (place % 256))) in
    omega (arith, one, two, h)

placed_other : (w : Bytes) (i place j : ℕ) → (j ≡ i → ⊥) → place_at (placed w i place) j ≡ place_at w j
placed_other w i place j h =
    let one = get_or-set_other (set w (2 * i) (place % 256)) (2 * i + 1) (2 * j) (place / 256 % 256) 0 (λ e. omega (arith, e)) ∙ get_or-set_other w (2 * i) (2 * j) (place % 256) 0 (λ e. h (omega (arith, e))) in
    let two = get_or-set_other (set w (2 * i) (place % 256)) (2 * i + 1) (2 * j + 1) (place / 256 % 256) 0 (λ e. h (omega (arith, e))) ∙ get_or-set_other w (2 * i) (2 * j + 1) (place % 256) 0 (λ e. omega (arith, e)) in
    omega (arith, one, two)

-- The loop

-- a column that can be gone over
abbrev pub Good : Field max_levels → Type 0
Good f = LaidOut max_levels f.data_type

-- the entries of those passed, and of the place behind them
pub record Kept (first : ℕ) (w : Bytes) (place : ℕ) (done : List (Field max_levels)) : Type 0 where
  here : place ≡ first + length (each column_bytes done)
  places : place < 65536 → (j : ℕ) → j ≤ length done → place_at w j ≡ first + length (each column_bytes (take j done))

pub record Placing (s : Bytes) (first count : ℕ) (before w : Bytes) (place i : ℕ) : Type 0 where
  pub passed : Passed Good column_bytes s (Kept first w place) first count place i
  pub bound : i ≤ count
  pub size : length w ≡ length before
  pub room : 2 * count + 2 ≤ length before

pub placing_begin : (s : Bytes) (first count : ℕ) (before : Bytes) {w : Bytes} → 2 * count + 2 ≤ length before → w ≡ placed before 0 first → Placing s first count w w first 0
placing_begin s first count before {w} h e = record {
  passed = passed_begin Good column_bytes s first count (record { here = omega arith; places = λ small j k. start small j (omega (arith, k)) });
  bound = omega arith;
  size = refl;
  room = omega (arith, h, ap length e, length_placed before 0 first);
}
  where
    start : first < 65536 → (j : ℕ) → j ≡ 0 → place_at w j ≡ first + length (each column_bytes (take j []))
    start small j z = ap (place_at w) z ∙ ap (λ w. place_at w 0) e ∙ placed_same before 0 first small (omega (arith, h)) ∙ omega arith ∙ ap (λ j. first + length (each column_bytes (take j []))) (sym z)

pub placing_again : {s : Bytes} {first count : ℕ} {before w : Bytes} {place i r : ℕ} {after : Bytes} → Placing s first count before w place i → i < count
    → SkipsField s place max_levels r → after ≡ placed w (i + 1) r → Placing s first count before after r (i + 1)
placing_again {s} {first} {count} {before} {w} {place} {i} {r} {after} p h skip e = record {
  passed = passed_again Good column_bytes s p.passed h (λ f g. skip max_levels f (omega arith) g) more;
  bound = omega (arith, h);
  size = ap length e ∙ length_placed w (i + 1) r ∙ p.size;
  room = p.room;
}
  where
    more : (done : List (Field max_levels)) (f : Field max_levels) → length done ≡ i → Kept first w place done → Good f → Stands s place (column_bytes f) → Kept first after r (done ++ (f ∷ []))
    more done f n k g st =
        let r-is : r ≡ place + length (column_bytes f) = (skip max_levels f (omega arith) g).behind st in
        let long = length_each_append column_bytes done (f ∷ []) in
        let one = length-append (column_bytes f) [] in
        let here : r ≡ first + length (each column_bytes (done ++ (f ∷ []))) = omega (arith, r-is, k.here, long, one) in
        record { here = here; places = λ small j l. go small j l (leb j (length done)) refl here }
      where
        go : r < 65536 → (j : ℕ) → j ≤ length (done ++ (f ∷ [])) → (t : Bool) → leb j (length done) ≡ t → r ≡ first + length (each column_bytes (done ++ (f ∷ [])))
            → place_at after j ≡ first + length (each column_bytes (take j (done ++ (f ∷ []))))
        go small j l true t here =
            let k' = leb-true j (length done) t in
            let r-is : r ≡ place + length (column_bytes f) = (skip max_levels f (omega arith) g).behind st in
            ap (λ w. place_at w j) e ∙ placed_other w (i + 1) r j (λ z. omega (arith, z, k', n)) ∙ k.places (omega (arith, small, r-is)) j k'
            ∙ ap (λ xs. first + length (each column_bytes xs)) (sym (take-append-le j done (f ∷ []) k'))
        go small j l false t here =
            let m : j ≡ i + 1 = omega (arith, l, n, leb-false j (length done) t, length-append done (f ∷ [])) in
            ap (λ w. place_at w j) e ∙ ap (place_at (placed w (i + 1) r)) m ∙ placed_same w (i + 1) r small (omega (arith, p.room, h, p.size)) ∙ here
            ∙ ap (λ xs. first + length (each column_bytes xs)) (sym (take_all j (done ++ (f ∷ [])) (omega (arith, m, n, length-append done (f ∷ [])))))

-- What the table says

kept_table : {s : Bytes} {first : ℕ} {w : Bytes} {place : ℕ} (fs : List (Field max_levels)) → length s < 65536 → Stands s first (each column_bytes fs) → Kept first w place fs → Table s w fs
kept_table {s} {first} {w} {place} fs small st k = record { stands = λ i h. one i h; ends = λ i h. two i h }
  where
    below : place < 65536
    below = omega (arith, small, st.inside, k.here)

    -- those before, the one at i, and those behind
    parts : (i : ℕ) → each column_bytes fs ≡ each column_bytes (take i fs) ++ (each column_bytes (select fs i) ++ each column_bytes (drop (suc i) fs))
    parts i =
        ap (each column_bytes) (sym (take-append-drop (suc i) fs) ∙ ap (λ r. r ++ drop (suc i) fs) (take_select fs i))
        ∙ each_append column_bytes (take i fs ++ select fs i) (drop (suc i) fs)
        ∙ ap (λ r. r ++ each column_bytes (drop (suc i) fs)) (each_append column_bytes (take i fs) (select fs i))
        ∙ append_assoc (each column_bytes (take i fs)) (each column_bytes (select fs i)) (each column_bytes (drop (suc i) fs))

    one : (i : ℕ) → i < length fs → Stands s (place_at w i) (each column_bytes (select fs i))
    one i h =
        subst (λ p. Stands s p (each column_bytes (select fs i))) (sym (k.places below i (omega (arith, h))))
        (first_stands (each column_bytes (select fs i)) (each column_bytes (drop (suc i) fs))
        (second_stands (each column_bytes (take i fs)) (each column_bytes (select fs i) ++ each column_bytes (drop (suc i) fs)) (subst (Stands s first) (parts i) st)))

    two : (i : ℕ) → i < length fs → place_at w (i + 1) ≡ place_at w i + length (each column_bytes (select fs i))
    two i h =
        let s : i + 1 ≡ suc i = omega arith in
        let a = k.places below i (omega (arith, h)) in
        let b = ap (place_at w) s ∙ k.places below (suc i) (omega (arith, h)) in
        let c = ap (λ xs. length (each column_bytes xs)) (take_select fs i) ∙ length_each_append column_bytes (take i fs) (select fs i) in
        b ∙ omega (arith, a, c)

-- what `write_places` ensures
pub placing_done : {s : Bytes} {first count : ℕ} {before w : Bytes} {place i : ℕ} → Placing s first count before w place i → count ≤ i
    → (fs : List (Field max_levels)) → length fs ≡ count → Every Good fs → Stands s first (each column_bytes fs) → length s < 65536 → Table s w fs
placing_done {s} p h fs n g st small = kept_table fs small st (passed_done Good column_bytes s p.passed h fs n g st)

-- only the entries of the columns and the one behind them count
pub table_kept : {s w v : Bytes} {fs : List (Field max_levels)} (n : ℕ) → n ≡ 2 * length fs + 2 → take n v ≡ take n w → Table s w fs → Table s v fs
table_kept {s} {w} {v} {fs} n e h t = record {
  stands = λ i k. subst (λ p. Stands s p (each column_bytes (select fs i))) (sym (same i (omega (arith, k)))) (t.stands i k);
  ends = λ i k. same (i + 1) (omega (arith, k)) ∙ t.ends i k ∙ ap (λ p. p + length (each column_bytes (select fs i))) (sym (same i (omega (arith, k))));
}
  where
    byte : (j : ℕ) → j < n → get_or v j 0 ≡ get_or w j 0
    byte j k = sym (get_or-take n v j 0 k) ∙ ap (λ l. get_or l j 0) h ∙ get_or-take n w j 0 k

    same : (i : ℕ) → i ≤ length fs → place_at v i ≡ place_at w i
    same i k = let a = byte (2 * i) (omega (arith, e, k)) in let b = byte (2 * i + 1) (omega (arith, e, k)) in omega (arith, a, b)
