-- The loop over children, and a count before them.
use Prim.Native.Nat.{ℕ, ◌+◌, ◌%◌, ◌/◌, ◌≤◌, ◌<◌}
use native.Mathlib.Omega.{arith}
use native.Mathlib.Nat.{zero-add}
use mathlib.Core.Path.{◌≡◌, refl, sym, ap, subst, ◌∙◌}
use mathlib.Core.List.{List, [], ◌∷◌, ◌++◌, append-nil, append_assoc}
use mathlib.Core.Bool.{Bool, true, false, not}
use lib.ListN.{length, drop, length-append}
use lib.Seq.{drop-drop}
use Rattle.std.specs.Int.{from_bool}
use lib.Dec.{eqb}
use borrow.Author.Tests.{eq-eqb, ne_eqb}
use Rattle.model.specs.Numbers.{max_sheet_bytes}
use Rattle.model.specs.Bytes.{Bytes, choose, u16}
use Rattle.model.specs.Tree.{Head, Field}
use Rattle.model.specs.Sheet.{each, part, with_count, field_bytes, type_bytes}
use Rattle.model.specs.WellFormed.{LaidOut}
use Rattle.model.specs.Filter.{filter_each, filter_field, filter_type, leaf_count_of_each, type_leaf_count}
use Rattle.model.proofs.Lists.{each_append}
use Rattle.model.proofs.Size.{length_with_count}
use Rattle.model.proofs.LeafCount.{type_takes, field_mask}
use Rattle.walk.specs.Stands.{Stands, AllLaidOut}
use Rattle.walk.proofs.Standing.{first_stands}
use Rattle.walk.proofs.Parts.{Ahead, two_at}
use Rattle.walk.proofs.Descents.{count_stands, elements_stand}
use Rattle.buffer.specs.declared.Output.{Output}
use Rattle.buffer.specs.Puts.{Puts}
use Rattle.buffer.proofs.Puts.{two_bytes_lem}
use Rattle.filter.specs.Filters.{Walk, walk_to, Begins, Fair, Passed, FiltersEach, ChildFiltered, ChildrenFiltered, FiltersRow, FiltersCounted, child_bytes, leaves_of, leaves_of_all, kept_of, kept_of_all, back_to}
use Rattle.filter.proofs.Walking.{stands_on, begins_shorter, begins_put, begins_over}
use Rattle.filter.proofs.Fields.{field_some, KeptOne, none, one, field_one}

-- one more where the position moved, else none
pub kept_more : (moved : Bool) {more : ℕ} → more ≡ from_bool (not moved) → (more ≡ choose moved (λ u. 0) λ u. 1) × (more ≤ 1)
unfolding choose
kept_more true e = (e, omega (arith, e))
kept_more false e = (e, omega (arith, e))

module _ (l : ℕ) (front : Head → Bytes) where
  child_some : (k : Field l) → 1 ≤ length (child_bytes l front k)
  child_some k = omega (arith, length-append (front k.head) (field_bytes (type_bytes l) k), field_some (type_bytes l) k)

  children_few : (ks : List (Field l)) → length ks ≤ length (each (child_bytes l front) ks)
  children_few [] = omega arith
  children_few (k ∷ ks) = omega (arith, children_few ks, child_some k, length-append (child_bytes l front k) (each (child_bytes l front) ks))

  -- one more is kept where the position moved
  kept_counted : (f : Field l) (ks : List (Field l)) → KeptOne f ks → (x : Bytes) {p q : ℕ} → p ≡ length x → q ≡ length (x ++ each (child_bytes l front) ks)
      → choose (eqb q p) (λ u. 0) (λ u. 1) ≡ length ks
  unfolding choose
  kept_counted f ks (none e) x {p} {q} h i =
      let same : q ≡ p = i ∙ ap (λ ks. length (x ++ each (child_bytes l front) ks)) e ∙ ap length (append-nil x) ∙ sym h in
      rw (eq-eqb q p same, e)
  kept_counted f ks (one g d e) x {p} {q} h i =
      let more : q ≡ length (x ++ (child_bytes l front g ++ [])) = i ∙ ap (λ ks. length (x ++ each (child_bytes l front) ks)) e in
      rw (ne_eqb q p λ z. absurd (omega (arith, more, h, z, child_some g, length-append x (child_bytes l front g ++ []), length-append (child_bytes l front g) [])), e)

  -- what is kept of so many children from a place on
  abbrev Rest : (left : ℕ) (v : Walk) (c : ℕ) (v' : Walk) (c' : ℕ) → Type 0
  Rest left v c v' c' = (ks : List (Field l)) → length ks ≡ left → AllLaidOut l ks → ChildrenFiltered l front ks v c v' c'

  -- of so many from v on, so many are left from v₁ on: what is kept of these makes what is kept of all
  pub record Turns (count : ℕ) (v : Walk) (left : ℕ) (v₁ : Walk) (c : ℕ) : Type 0 where
    rest : (v' : Walk) (c' : ℕ) → Rest left v₁ c v' c' → Rest count v 0 v' c'

  pub turns_begin : {count : ℕ} {v : Walk} → Turns count v count v 0
  turns_begin = record { rest = λ v' c' f. f }

  -- one child, then the others
  each_join : {v : Walk} {c : ℕ} {v₁ : Walk} {more : ℕ} {v' : Walk} {c' : ℕ} (f : Field l) (ks : List (Field l)) → ChildFiltered l front f v v₁
      → more ≡ choose (eqb v₁.out.written v.out.written) (λ u. 0) (λ u. 1) → ChildrenFiltered l front ks v₁ (c + more) v' c' → ChildrenFiltered l front (f ∷ ks) v c v' c'
  unfolding filter_each leaf_count_of_each
  each_join {v} {c} {v₁} {more} {v'} {c'} f ks g m h = record {
    does = λ x st fair b.
        let first = kept_of l f (drop v.leaf v.mask) in
        let d = g.does x (first_stands (child_bytes l front f) (each (child_bytes l front) ks) st) fair b in
        let after : drop v₁.leaf v₁.mask ≡ (filter_field (filter_type l true) f (drop v.leaf v.mask)).mask =
        (λ i. drop (d.leaves i) (d.mask i)) ∙ sym (drop-drop (leaves_of l f) v.leaf v.mask)
        ∙ sym (field_mask (type_leaf_count l true) (filter_type l true) (type_takes l true) f (drop v.leaf v.mask)) in
        let others = kept_of_all l ks (filter_field (filter_type l true) f (drop v.leaf v.mask)).mask in
        let h' = subst (λ y. FiltersEach (each (child_bytes l front) ks) (leaves_of_all l ks) (child_bytes l front) (kept_of_all l ks y) v₁ (c + more) v' c') after h in
        let e = h'.does (x ++ each (child_bytes l front) first) (stands_on (each (child_bytes l front) ks) d st) d.fair d.begins in
        let bytes : (x ++ each (child_bytes l front) first) ++ each (child_bytes l front) others ≡ x ++ each (child_bytes l front) (first ++ others) =
        append_assoc x (each (child_bytes l front) first) (each (child_bytes l front) others) ∙ ap (λ y. x ++ y) (sym (each_append (child_bytes l front) first others)) in (
          record {
            sheet = e.0.sheet ∙ d.sheet;
            mask = e.0.mask ∙ d.mask;
            behind = omega (arith, d.behind, e.0.behind, length-append (child_bytes l front f) (each (child_bytes l front) ks));
            leaves = omega (arith, d.leaves, e.0.leaves);
            same_buffer = e.0.same_buffer ∙ d.same_buffer;
            fair = e.0.fair;
            begins = subst (Begins v'.out) bytes e.0.begins;
          },
          omega (arith, e.1, m, kept_counted f first (field_one (filter_type l true) f (drop v.leaf v.mask)) x b.end d.begins.end, length-append first others),
        );
  }

  pub turns_again : {count : ℕ} {v : Walk} {left others : ℕ} {v₁ : Walk} {c : ℕ} {v₂ : Walk} {more : ℕ} → Turns count v left v₁ c → left ≡ others + 1
      → ((f : Field l) → LaidOut l f.data_type → ChildFiltered l front f v₁ v₂) → more ≡ choose (eqb v₂.out.written v₁.out.written) (λ u. 0) (λ u. 1) → Turns count v others v₂ (c + more)
  turns_again {left = left} {others = others} {v₁ = v₁} {c = c} {v₂ = v₂} {more = more} t h g e = record { rest = λ v' c' k. t.rest v' c' (go v' c' k) }
    where
      go : (v' : Walk) (c' : ℕ) → Rest others v₂ (c + more) v' c' → Rest left v₁ c v' c'
      go v' c' k [] n z = absurd (omega (arith, n, h))
      go v' c' k (f ∷ ks) n z = each_join f ks (g f z.0) e (k ks (omega (arith, n)) z.1)

  pub turns_done : {count : ℕ} {v : Walk} {left : ℕ} {v₁ : Walk} {c : ℕ} → Turns count v left v₁ c → left ≤ 0 → Rest count v 0 v₁ c
  unfolding filter_each leaf_count_of_each
  turns_done {left = left} {v₁ = v₁} {c = c} t h = t.rest v₁ c go
    where
      go : Rest left v₁ c v₁ c
      go [] e z = record {
        does = λ x st fair b. (
          record { sheet = refl; mask = refl; behind = omega arith; leaves = omega arith; same_buffer = refl; fair = fair; begins = subst (Begins v₁.out) (sym (append-nil x)) b },
          omega arith,
        );
      }
      go (k ∷ ks) e z = absurd (omega (arith, e, h))

-- A count of two bytes, held at first, and put over them once the children are counted

abbrev pub two_bytes : ℕ → Bytes
two_bytes v = v % 256 ∷ v / 256 % 256 ∷ []

-- the walk behind the children, of which k is put
abbrev Behind : (l : ℕ) (front : Head → Bytes) (ks : List (Field l)) (v : Walk) (x k : Bytes) (v' : Walk) → Type 0
Behind l front ks v x k v' = Passed (with_count (child_bytes l front) ks) (leaves_of_all l ks) k v x v'

module _ {v : Walk} {first n : ℕ} (before levels : ℕ) {o : Output} {v₁ : Walk} {c : ℕ} (a : Ahead v.sheet v.at 2 first) (e : n ≡ two_at v.sheet v.at)
    (hold : Puts (two_bytes 0) v.out o) (rows : FiltersRow n before levels (walk_to first v o) v₁ c) where
  held : (l : ℕ) (front : Head → Bytes) (ks : List (Field l)) → ((h : Head) → length (front h) ≡ before) → l ≤ levels → AllLaidOut l ks
      → (x : Bytes) → Stands v.sheet v.at (with_count (child_bytes l front) ks) → Fair v → Begins v.out x
      → let kept = kept_of_all l ks (drop v.leaf v.mask) in Behind l front ks v x (two_bytes 0 ++ each (child_bytes l front) kept) v₁ × (c ≡ 0 + length kept)
  held l front ks i h z x st fair b =
      let two : length (with_count (child_bytes l front) ks) ≡ length (each (child_bytes l front) ks) + 2 = length_with_count (child_bytes l front) ks in
      let behind : first ≡ v.at + 2 = a.1 (omega (arith, st.inside, two)) in
      let small : v.out.written + 2 ≤ max_sheet_bytes = omega (arith, fair.written, fair.small, st.inside, two) in
      let fair' : Fair (walk_to first v o) = record {
        small = fair.small;
        room = omega (arith, fair.room, hold.size);
        leaves = omega (arith, fair.leaves, behind);
        written = omega (arith, fair.written, behind, hold.inside small);
      } in
      let d = (rows l front ks i h (sym (count_stands (child_bytes l front) ks st) ∙ sym e) z).does (x ++ two_bytes 0) (elements_stand (child_bytes l front) ks a st) fair'
      (begins_put x (two_bytes 0) b hold small (omega (arith, fair.written, fair.room, st.inside, two))) in (
        record {
          sheet = d.0.sheet;
          mask = d.0.mask;
          behind = omega (arith, d.0.behind, behind, two);
          leaves = d.0.leaves;
          same_buffer = d.0.same_buffer ∙ hold.same_buffer;
          fair = d.0.fair;
          begins = subst (Begins v₁.out) (append_assoc x (two_bytes 0) (each (child_bytes l front) (kept_of_all l ks (drop v.leaf v.mask)))) d.0.begins;
        },
        d.1,
      )

  -- none is left, and the bytes held are taken back
  pub counted_none : c ≡ 0 → FiltersCounted before levels v (walk_to v₁.at v₁ (back_to v.out.written v₁.out))
  counted_none gone l front ks i h z = record { does = λ x st fair b. go (kept_of_all l ks (drop v.leaf v.mask)) x fair b (held l front ks i h z x st fair b) }
    where
      go : (kept : List (Field l)) (x : Bytes) → Fair v → Begins v.out x → Behind l front ks v x (two_bytes 0 ++ each (child_bytes l front) kept) v₁ × (c ≡ 0 + length kept)
          → Behind l front ks v x (part (with_count (child_bytes l front)) kept) (walk_to v₁.at v₁ (back_to v.out.written v₁.out))
      go [] x fair b d = record {
        sheet = d.0.sheet;
        mask = d.0.mask;
        behind = d.0.behind;
        leaves = d.0.leaves;
        same_buffer = d.0.same_buffer;
        fair = record { small = d.0.fair.small; room = d.0.fair.room; leaves = d.0.fair.leaves; written = omega (arith, fair.written, d.0.behind) };
        begins = subst (Begins (back_to v.out.written v₁.out)) (sym (append-nil x)) (begins_shorter x (two_bytes 0 ++ []) d.0.begins b.end);
      }
      go (k ∷ ks) x fair b d = absurd (omega (arith, gone, d.1))

  -- those that are left are counted over the bytes held
  pub counted_some : {o₁ : Output} → (c ≡ 0 → ⊥) → Puts (two_bytes c) (back_to v.out.written v₁.out) o₁
      → FiltersCounted before levels v (walk_to v₁.at v₁ (back_to v₁.out.written o₁))
  unfolding with_count
  counted_some {o₁} some count l front ks i h z = record { does = λ x st fair b. go (kept_of_all l ks (drop v.leaf v.mask)) x st fair b (held l front ks i h z x st fair b) }
    where
      go : (kept : List (Field l)) (x : Bytes) → Stands v.sheet v.at (with_count (child_bytes l front) ks) → Fair v → Begins v.out x
          → Behind l front ks v x (two_bytes 0 ++ each (child_bytes l front) kept) v₁ × (c ≡ 0 + length kept)
          → Behind l front ks v x (part (with_count (child_bytes l front)) kept) (walk_to v₁.at v₁ (back_to v₁.out.written o₁))
      go [] x st fair b d = absurd (some (omega (arith, d.1)))
      go (k ∷ kept) x st fair b d =
          let put = each (child_bytes l front) (k ∷ kept) in
          let few : c < 65536 = omega (arith, d.1, children_few l front (k ∷ kept), d.0.begins.end, length-append x (two_bytes 0 ++ put), d.0.fair.written, d.0.behind, st.inside, fair.small) in
          let bytes : two_bytes c ≡ u16 (length (k ∷ kept)) = two_bytes_lem c few ∙ ap u16 (d.1 ∙ zero-add (length (k ∷ kept))) in
          let small : v.out.written + 2 ≤ max_sheet_bytes = omega (arith, fair.written, fair.small, st.inside, length_with_count (child_bytes l front) ks) in
          record {
            sheet = d.0.sheet;
            mask = d.0.mask;
            behind = d.0.behind;
            leaves = d.0.leaves;
            same_buffer = count.same_buffer ∙ d.0.same_buffer;
            fair = record { small = d.0.fair.small; room = omega (arith, d.0.fair.room, count.size); leaves = d.0.fair.leaves; written = d.0.fair.written };
            begins = subst (λ y. Begins (back_to v₁.out.written o₁) (x ++ (y ++ put))) bytes (begins_over x (two_bytes 0) (two_bytes c) put d.0.begins b.end refl count small);
          }
