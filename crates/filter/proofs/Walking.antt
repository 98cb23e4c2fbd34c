-- What was put, and one step of the walk after another.
use Prim.Native.Nat.{ℕ, ◌+◌, ◌≤◌}
use native.Mathlib.Omega.{arith}
use mathlib.Core.Path.{◌≡◌, refl, sym, ap, subst, ◌∙◌}
use mathlib.Core.List.{[], ◌∷◌, ◌++◌, append_assoc, append-nil}
use mathlib.Core.Bool.{true, false}
use lib.ListN.{length, take, drop, length-append}
use lib.Seq.{take_at, drop_at}
use lib.Dec.{eqb}
use borrow.Author.Tests.{eq-eqb, ne_eqb}
use Rattle.model.specs.Numbers.{max_sheet_bytes}
use Rattle.model.specs.Bytes.{Bytes, choose}
use Rattle.model.specs.Sheet.{part}
use Rattle.walk.specs.Stands.{Stands, Skips}
use Rattle.walk.proofs.Standing.{first_stands, stands_behind}
use Rattle.buffer.specs.Buffer.{pasted}
use Rattle.buffer.specs.declared.Output.{Output}
use Rattle.buffer.specs.Puts.{Puts}
use Rattle.filter.specs.Filters.{Walk, walk_to, Begins, Passed, Filters, CopiesTo, back_to, taken_back, undone}

-- What was put

pub begins_shorter : (x k : Bytes) {o : Output} {p : ℕ} → Begins o (x ++ k) → p ≡ length x → Begins (back_to p o) x
begins_shorter x k g e = record { end = e; rest = k ++ g.rest; bytes = g.bytes ∙ append_assoc x k g.rest }

-- more behind it
pub begins_put : (x b : Bytes) {o o' : Output} → Begins o x → Puts b o o' → o.written + length b ≤ max_sheet_bytes → o.written + length b ≤ length o.buffer.now → Begins o' (x ++ b)
unfolding pasted
begins_put x b {o} g f h k =
    let before : take o.written o.buffer.now ≡ x = ap (take o.written) g.bytes ∙ take_at x g.rest o.written (sym g.end) in
    let behind = drop (o.written + length b) o.buffer.now in
    record {
      end = omega (arith, f.inside h, g.end, length-append x b);
      rest = behind;
      bytes = f.written h k ∙ ap (λ y. y ++ (b ++ behind)) before ∙ sym (append_assoc x b behind);
    }

-- other bytes over a part of it, as long as that
pub begins_over : (x a b k : Bytes) {o : Output} {p : ℕ} {o' : Output} → Begins o (x ++ (a ++ k)) → p ≡ length x → length b ≡ length a
    → Puts b (back_to p o) o' → p + length b ≤ max_sheet_bytes → Begins (back_to o.written o') (x ++ (b ++ k))
unfolding pasted
begins_over x a b k {o} {p} g e n f h =
    let w = o.buffer.now in
    let parts : w ≡ x ++ (a ++ (k ++ g.rest)) = g.bytes ∙ append_assoc x (a ++ k) g.rest ∙ ap (λ y. x ++ y) (append_assoc a k g.rest) in
    let front : w ≡ (x ++ a) ++ (k ++ g.rest) = parts ∙ sym (append_assoc x a (k ++ g.rest)) in
    let l : length (x ++ a) ≡ p + length b = omega (arith, length-append x a, e, n) in
    let before : take p w ≡ x = ap (take p) parts ∙ take_at x (a ++ (k ++ g.rest)) p (sym e) in
    let behind : drop (p + length b) w ≡ k ++ g.rest = ap (drop (p + length b)) front ∙ drop_at (x ++ a) (k ++ g.rest) (p + length b) l in
    let room : p + length b ≤ length w = omega (arith, ap length front, length-append (x ++ a) (k ++ g.rest), l) in
    record {
      end = omega (arith, g.end, length-append x (a ++ k), length-append a k, length-append x (b ++ k), length-append b k, n);
      rest = g.rest;
      bytes = f.written h room ∙ ap (λ y. y ++ (b ++ drop (p + length b) w)) before ∙ ap (λ y. x ++ (b ++ y)) behind ∙ ap (λ y. x ++ y) (sym (append_assoc b k g.rest)) ∙ sym (append_assoc x (b ++ k) g.rest);
    }

-- What is left of a and k, where a is taken back if k is nothing

pub begins_unless : (x a k : Bytes) {o : Output} {put front : ℕ} → Begins o ((x ++ a) ++ k) → put ≡ length x → front ≡ length (x ++ a)
    → Begins (back_to (choose (eqb o.written front) (λ u. put) λ u. o.written) o) (x ++ part (λ k. a ++ k) k)
unfolding choose
begins_unless x a [] {o} {put} {front} g e i =
    let none : o.written ≡ front = omega (arith, g.end, i, length-append (x ++ a) []) in
    let back : Begins (back_to put o) x = begins_shorter x (a ++ []) (subst (Begins o) (append_assoc x a []) g) e in
    rw (eq-eqb o.written front none) (subst (Begins (back_to put o)) (sym (append-nil x)) back)
begins_unless x a (c ∷ k) {o} {put} {front} g e i =
    rw (ne_eqb o.written front λ z. absurd (omega (arith, g.end, i, z, length-append (x ++ a) (c ∷ k)))) (subst (Begins o) (append_assoc x a (c ∷ k)) g)

unless_inside : (from start q n : ℕ) → from ≤ n → q ≤ n → choose (eqb q start) (λ u. from) (λ u. q) ≤ n
unfolding choose
unless_inside from start q n h k = go (eqb q start)
  where
    go : (t : _) → choose t (λ u. from) (λ u. q) ≤ n
    go true = h
    go false = k

-- Steps of the walk

module _ {v : Walk} where
  pub filters_none : Filters [] 0 [] v v
  filters_none = record {
    does = λ x st h g. record { sheet = refl; mask = refl; behind = omega arith; leaves = omega arith; same_buffer = refl; fair = h; begins = subst (Begins v.out) (sym (append-nil x)) g };
  }

  -- with the bytes at hand
  pub filters_when : {b : Bytes} {n : ℕ} {k : Bytes} {v' : Walk} → (Stands v.sheet v.at b → Filters b n k v v') → Filters b n k v v'
  filters_when f = record { does = λ x st. (f st).does x st }

  -- as other bytes and leaves that are the same
  pub filters_as : {a b : Bytes} {n m : ℕ} {k j : Bytes} {v' : Walk} → a ≡ b → n ≡ m → k ≡ j → Filters a n k v v' → Filters b m j v v'
  filters_as {a} {b} {n} {m} {k} {j} {v'} d e f h =
      subst (λ b. Filters b m j v v') d (subst (λ m. Filters a m j v v') e (subst (λ k. Filters a n k v v') f h))

  -- bytes without a leaf of their own are copied
  pub filters_copied : (a : Bytes) {to : ℕ} {v' : Walk} → Skips v.sheet v.at a to → CopiesTo to v v' → Filters a 0 a v (walk_to to v v'.out)
  filters_copied a f copy = record {
    does = λ x st h g.
        let e = f.behind st in
        let b = copy.puts a st e in
        let room : v.out.written + length a ≤ max_sheet_bytes = omega (arith, h.written, h.small, st.inside) in
        record {
          sheet = refl;
          mask = refl;
          behind = e;
          leaves = omega arith;
          same_buffer = b.same_buffer;
          fair = record {
            small = h.small;
            room = omega (arith, h.room, b.size);
            leaves = omega (arith, h.leaves, e);
            written = omega (arith, h.written, e, b.inside room);
          };
          begins = begins_put x a g b room (omega (arith, h.written, h.room, st.inside));
        };
  }

  -- the bytes behind a part that was passed
  pub stands_on : {a : Bytes} (b : Bytes) {n : ℕ} {k x : Bytes} {v' : Walk} → Passed a n k v x v' → Stands v.sheet v.at (a ++ b) → Stands v'.sheet v'.at b
  stands_on b {v' = v'} d st = subst (λ s. Stands s v'.at b) (sym d.sheet) (stands_behind (record { behind = λ u. d.behind }) st)

  -- one part, then another
  pub filters_join : {a b : Bytes} {n n' : ℕ} {k k' : Bytes} {v₁ v₂ : Walk} → Filters a n k v v₁ → Filters b n' k' v₁ v₂ → Filters (a ++ b) (n + n') (k ++ k') v v₂
  filters_join {a} {b} {n} {n'} {k} {k'} {v₁} {v₂} f h = record {
    does = λ x st fair g.
        let d = f.does x (first_stands a b st) fair g in
        let e = h.does (x ++ k) (stands_on b d st) d.fair d.begins in
        record {
          sheet = e.sheet ∙ d.sheet;
          mask = e.mask ∙ d.mask;
          behind = omega (arith, d.behind, e.behind, length-append a b);
          leaves = omega (arith, d.leaves, e.leaves);
          same_buffer = e.same_buffer ∙ d.same_buffer;
          fair = e.fair;
          begins = subst (Begins v₂.out) (append_assoc x k k') e.begins;
        };
  }

  -- a part without a leaf, of which c is put, then another: where nothing is kept of that, c is taken back
  pub filters_fronted : {a b c : Bytes} {n : ℕ} {k : Bytes} {v₁ v₂ : Walk} {o : Output} → Filters a 0 c v v₁ → Filters b n k v₁ v₂
      → o ≡ taken_back v.out.written v₁.out.written v₂.out → Filters (a ++ b) n (part (λ k. c ++ k) k) v (walk_to v₂.at v₂ o)
  filters_fronted {a} {b} {c} {n} {k} {v₁} {v₂} f h u = subst (λ o. Filters (a ++ b) n (part (λ k. c ++ k) k) v (walk_to v₂.at v₂ o)) (sym u) (record {
    does = λ x st fair g.
        let d = f.does x (first_stands a b st) fair g in
        let e = h.does (x ++ c) (stands_on b d st) d.fair d.begins in
        record {
          sheet = e.sheet ∙ d.sheet;
          mask = e.mask ∙ d.mask;
          behind = omega (arith, d.behind, e.behind, length-append a b);
          leaves = omega (arith, d.leaves, e.leaves);
          same_buffer = e.same_buffer ∙ d.same_buffer;
          fair = record {
            small = e.fair.small;
            room = e.fair.room;
            leaves = e.fair.leaves;
            written = unless_inside v.out.written v₁.out.written v₂.out.written v₂.at (omega (arith, fair.written, d.behind, e.behind)) e.fair.written;
          };
          begins = begins_unless x c k e.begins g.end d.begins.end;
        };
  })

  -- a part without a leaf is put, and then the walk is to begin where it was
  pub filters_undone : (a b : Bytes) {c : Bytes} {v₁ : Walk} (o : Output) → Stands v.sheet v.at (a ++ b) → Filters a 0 c v v₁ → Filters [] 0 [] v₁ (undone v₁ o) → Filters [] 0 [] v (undone v o)
  filters_undone a b {c} {v₁} o st f h = record {
    does = λ x none fair g.
        let d = f.does x (first_stands a b st) fair g in
        let e = h.does (x ++ c) (first_stands [] b (stands_on b d st)) d.fair d.begins in
        let back = begins_shorter (x ++ c) [] e.begins refl in
        record {
          sheet = refl;
          mask = refl;
          behind = omega arith;
          leaves = omega arith;
          same_buffer = e.same_buffer ∙ d.same_buffer;
          fair = record { small = fair.small; room = omega (arith, e.fair.room, ap length d.sheet); leaves = fair.leaves; written = fair.written };
          begins = subst (Begins (back_to v.out.written o)) (sym (append-nil x)) (begins_shorter x c back g.end);
        };
  }
