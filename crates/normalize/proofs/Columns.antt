-- Columns that are written one behind the other, and the loop over fields that become them.
use Prim.Native.Nat.{ℕ, ◌+◌, ◌≤◌, ◌<◌}
use native.Mathlib.Omega.{arith}
use mathlib.Core.Path.{◌≡◌, sym, subst}
use mathlib.Core.List.{List, [], ◌∷◌, ◌++◌}
use lib.ListN.{length, length-append}
use Rattle.model.specs.Numbers.{max_levels, max_sheet_bytes}
use Rattle.model.specs.Bytes.{Bytes, Every}
use Rattle.model.specs.Tree.{Field}
use Rattle.model.specs.Sheet.{each, column_bytes}
use Rattle.model.specs.Schema.{join}
use Rattle.model.proofs.Lists.{each_append, length_each_append}
use Rattle.buffer.specs.declared.Output.{Output}
use Rattle.buffer.specs.Puts.{Puts}
use Rattle.buffer.proofs.Puts.{puts_none, puts_beyond, puts_same, puts_join}
use Rattle.walk.specs.Stands.{Stands}
use Rattle.walk.proofs.Standing.{first_stands, second_stands}
use Rattle.normalize.specs.declared.Reach.{Reach}
use Rattle.normalize.specs.Expands.{Adds, Expands}

-- Columns

module _ (cs ds : List (Field max_levels)) {o o₁ : Output} {c d : ℕ} (f : Adds cs o o₁ c d) where
  -- what is put of both
  both : {o₂ : Output} → Puts (each column_bytes ds) o₁ o₂ → Puts (each column_bytes (cs ++ ds)) o o₂
  both g = puts_same (sym (each_append column_bytes cs ds)) (puts_join (each column_bytes cs) (each column_bytes ds) f.puts g)

  -- some columns, then others
  pub adds_join : {o₂ : Output} {e : ℕ} → Adds ds o₁ o₂ d e → Adds (cs ++ ds) o o₂ c e
  adds_join g = record {
    puts = both g.puts;
    counts = λ i j.
        let n = length_each_append column_bytes cs ds in
        let m = length-append cs ds in
        let inside = f.puts.inside (omega (arith, i, n)) in
        let here = f.counts (omega (arith, i, n)) (omega (arith, j, m)) in
        omega (arith, here, m, g.counts (omega (arith, i, n, inside)) (omega (arith, j, m, here)));
  }

  -- they pass the longest answer already, whatever else there is
  pub adds_stop : max_sheet_bytes < o₁.written → Adds (cs ++ ds) o o₁ c d
  adds_stop h = record {
    puts = both (puts_beyond (each column_bytes ds) h);
    counts = λ i j.
        let n = length_each_append column_bytes cs ds in
        absurd (omega (arith, h, f.puts.inside (omega (arith, i, n)), i, n));
  }

-- Fields

module _ {s : Bytes} where
  -- with the bytes at hand
  pub expands_when : {b : Bytes} {cs : List (Field max_levels)} {o o' : Output} {from to : Reach} → (Stands s from.place b → Expands s b cs o o' from to) → Expands s b cs o o' from to
  expands_when f = record { behind = λ st h. (f st).behind st h; adds = λ st. (f st).adds st }

  pub expands_none : {o : Output} {from : Reach} → Expands s [] [] o o from from
  expands_none = record { behind = λ st h. omega arith; adds = λ st. record { puts = puts_none; counts = λ i j. omega arith } }

  module _ (a b : Bytes) (cs ds : List (Field max_levels)) {o o₁ : Output} {from mid : Reach} (f : Expands s a cs o o₁ from mid) where
    -- one part, then another
    pub expands_join : {o₂ : Output} {to : Reach} → o₁.written ≤ max_sheet_bytes → Expands s b ds o₁ o₂ mid to → Expands s (a ++ b) (cs ++ ds) o o₂ from to
    expands_join h g = record {
      behind = λ st i. omega (arith, place st, g.behind (rest st) i, length-append a b);
      adds = λ st. adds_join cs ds (f.adds (first_stands a b st)) (g.adds (rest st));
    }
      where
        place : Stands s from.place (a ++ b) → mid.place ≡ from.place + length a
        place st = f.behind (first_stands a b st) h

        rest : Stands s from.place (a ++ b) → Stands s mid.place b
        rest st = subst (λ n. Stands s n b) (sym (place st)) (second_stands a b st)

    -- the first part passes the longest answer
    pub expands_stop : max_sheet_bytes < o₁.written → Expands s (a ++ b) (cs ++ ds) o o₁ from mid
    expands_stop h = record {
      behind = λ st i. absurd (omega (arith, h, i));
      adds = λ st. adds_stop cs ds (f.adds (first_stands a b st)) h;
    }

-- The loop: what is put of the rest makes what is put of all

module _ {A : Type 0} (W : A → Type 0) (f : A → Bytes) (g : A → List (Field max_levels)) (s : Bytes) where
  -- so many from a place on
  abbrev Rest : (left : ℕ) (o o' : Output) (from to : Reach) → Type 0
  Rest left o o' from to = (xs : List A) → length xs ≡ left → Every W xs → Expands s (each f xs) (join g xs) o o' from to

  -- of so many from `from` on, so many are left
  pub record Turns (count left : ℕ) (o o₁ : Output) (from reach : Reach) : Type 0 where
    rest : (o' : Output) (to : Reach) → Rest left o₁ o' reach to → Rest count o o' from to

  module _ {count : ℕ} {o : Output} {from : Reach} where
    pub turns_begin : Turns count count o o from from
    turns_begin = record { rest = λ o' to k. k }

    module _ {left : ℕ} {o₁ : Output} {reach : Reach} (i : Turns count left o o₁ from reach) where
      module _ {o₂ : Output} {next : Reach} (k : (x : A) → W x → Expands s (f x) (g x) o₁ o₂ reach next) where
        pub turns_again : {others : ℕ} → left ≡ others + 1 → o₂.written ≤ max_sheet_bytes → Turns count others o o₂ from next
        unfolding join
        turns_again {others} h n = record { rest = λ o' to r. i.rest o' to (go o' to r) }
          where
            go : (o' : Output) (to : Reach) → Rest others o₂ o' next to → Rest left o₁ o' reach to
            go o' to r [] e z = absurd (omega (arith, e, h))
            go o' to r (x ∷ xs) e z = expands_join (f x) (each f xs) (g x) (join g xs) (k x z.0) n (r xs (omega (arith, e, h)) z.1)

        -- it stops
        pub turns_stop : 0 < left → max_sheet_bytes < o₂.written → Rest count o o₂ from next
        unfolding join
        turns_stop h n = i.rest o₂ next go
          where
            go : Rest left o₁ o₂ reach next
            go [] e z = absurd (omega (arith, e, h))
            go (x ∷ xs) e z = expands_stop (f x) (each f xs) (g x) (join g xs) (k x z.0) n

      pub turns_done : left ≤ 0 → Rest count o o₁ from reach
      unfolding join
      turns_done h = i.rest o₁ reach go
        where
          go : Rest left o₁ o₁ reach reach
          go [] e z = expands_none
          go (x ∷ xs) e z = absurd (omega (arith, e, h))
