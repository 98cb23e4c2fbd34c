-- One after the other into a part of the table: the loop of a merge over parts of the train that stand one behind the other.
use Prim.Native.Nat.{ℕ, ◌+◌, ◌*◌, ◌≤◌, ◌<◌}
use native.Mathlib.Omega.{arith}
use mathlib.Core.Path.{◌≡◌, sym, subst}
use mathlib.Core.List.{List, [], ◌∷◌}
use lib.ListN.{length, length-append}
use Rattle.model.specs.Bytes.{Bytes, Every}
use Rattle.model.specs.Sheet.{each}
use Rattle.model.specs.Merge as model
use Rattle.model.specs.Merge.{pour}
use Rattle.model.proofs.Gives.{pour_next, pour_stop, pour_none}
use Rattle.walk.specs.Stands.{Stands, Skips}
use Rattle.walk.proofs.Standing.{first_stands, stands_behind}
use Rattle.table.specs.Table.{no_place}
use Rattle.table.specs.Becomes.{Becomes}
use Rattle.buffer.specs.Refusals.{number_of}
use Rattle.buffer.specs.declared.refusal.Number.{Number}
use Rattle.table.specs.Says.{Merged}
use Rattle.std.proofs.Common.{Ok, Err}
use Rattle.table.proofs.Says.{says_as}

-- In each number of levels, `put` merges what comes in, of which W holds and which `write` writes, into what stands at `row`.
module _ {A B : ℕ → Type 0} (put : (l : ℕ) → A l → B l → model.Merged (A l)) (write : (l : ℕ) → B l → Bytes) (W : (l : ℕ) → B l → Type 0) (levels : ℕ) (s : Bytes) (row : ℕ) where
  -- the one that stands at a place of the train is merged in: P spelt what there was, R spells what there is. They may say more than that, as where to look first.
  abbrev pub One : (P R : (l k : ℕ) → Bytes → A l → Type 0) (w : Bytes) (used place : ℕ) (w' : Bytes) → Merged → Type 0
  One P R w used place w' r =
      (l : ℕ) (b : B l) → l ≤ levels → length s < no_place → W l b → Stands s place (write l b) → Becomes (P l) (R l) w used row (4 * length (write l b)) w' r λ a. put l a b

  module _ (Q : (l k : ℕ) → Bytes → A l → Type 0) where
    -- so many are merged in; Q spells what there is at the end
    abbrev Many : (P : (l k : ℕ) → Bytes → A l → Type 0) (w : Bytes) (used place count : ℕ) (w' : Bytes) → Merged → Type 0
    Many P w used place count w' r =
        (l : ℕ) (bs : List (B l)) → l ≤ levels → length s < no_place → Every (W l) bs → length bs ≡ count → Stands s place (each (write l) bs)
        → Becomes (P l) (Q l) w used row (4 * length (each (write l) bs)) w' r λ a. pour (put l) a bs

    -- at each turn P spells what there is; once what is left is merged in, the buffer and the answer are as the goal says
    pub record Pouring (Goal : Bytes → Merged → Type 0) (P : (l k : ℕ) → Bytes → A l → Type 0) (w : Bytes) (used place left : ℕ) : Type 0 where
      pub rest : (w' : Bytes) (r : Merged) → Many P w used place left w' r → Goal w' r

    -- the first and then the others make all; a clash of the first is that of all
    module _ {P : (l k : ℕ) → Bytes → A l → Type 0} (R : (l k : ℕ) → Bytes → A l → Type 0) {w : Bytes} (w' : Bytes) {used place left : ℕ} (more : 0 < left) where
      many_on : {u next left' : ℕ} (v : Bytes) (q : Merged) → length w' ≡ length w → One P R w used place w' (Ok u) → ((l : ℕ) (b : B l) → l ≤ levels → W l b → Skips s place (write l b) next)
          → left ≡ left' + 1 → Many R w' u next left' v q → Many P w used place left v q
      many_on v q same one skips less m l [] low small good n st x y z k a h hx p room = absurd (omega (arith, more, n))
      many_on v q same one skips less m l (b ∷ bs) low small good n st x y z k a h hx p room =
          let size = length-append (write l b) (each (write l) bs) in
          let t = one l b low small good.0 (first_stands (write l b) (each (write l) bs) st) x y z k a h hx p (omega (arith, room, size)) in
          says_as (Q l) (t.room + 4 * length (each (write l) bs)) (k + 4 * length (each (write l) (b ∷ bs))) x z v q (omega (arith, t.fits, size)) (pour_next (put l) a b bs t.value t.is)
          (m l bs low small good.1 (omega (arith, n, less)) (stands_behind (skips l b low good.0) st) x t.spelt z t.room t.value t.held hx t.spells (omega (arith, room, same, t.fits, size)))

      many_stop : (c : Number) → One P R w used place w' (Err c) → Many P w used place left w' (Err c)
      many_stop c one l [] low small good n st x y z k a h hx p room = absurd (omega (arith, more, n))
      many_stop c one l (b ∷ bs) low small good n st x y z k a h hx p room =
          pour_stop (put l) a b bs (number_of c) (one l b low small good.0 (first_stands (write l b) (each (write l) bs) st) x y z k a h hx p (omega (arith, room, length-append (write l b) (each (write l) bs))))

    -- of none, all is there
    many_none : {P : (l k : ℕ) → Bytes → A l → Type 0} {w : Bytes} {used place left : ℕ} → ((l k : ℕ) (y : Bytes) (a : A l) → P l k y a → Q l k y a) → left ≤ 0 → Many P w used place left w (Ok used)
    many_none ends none l [] low small good n st x y z k a h hx p room = record { value = a; spelt = y; room = k; is = pour_none (put l) a; spells = ends l k y a p; fits = omega arith; held = h }
    many_none ends none l (b ∷ bs) low small good n st x y z k a h hx p room = absurd (omega (arith, none, n))

    module _ {Goal : Bytes → Merged → Type 0} {P : (l k : ℕ) → Bytes → A l → Type 0} {w : Bytes} {used place left : ℕ} (t : Pouring Goal P w used place left) where
      module _ (R : (l k : ℕ) → Bytes → A l → Type 0) {w' : Bytes} {r : Merged} (more : 0 < left) (one : One P R w used place w' r) where
        pub pouring_again : {u next left' : ℕ} → length w' ≡ length w → r ≡ Ok u → ((l : ℕ) (b : B l) → l ≤ levels → W l b → Skips s place (write l b) next) → left ≡ left' + 1 → Pouring Goal R w' u next left'
        pouring_again same e skips less = record { rest = λ v q m. t.rest v q (many_on R w' more v q same (subst (One P R w used place w') e one) skips less m) }

        pub pouring_stop : {c : Number} → r ≡ Err c → Goal w' r
        pouring_stop {c} e = subst (Goal w') (sym e) (t.rest w' (Err c) (many_stop R w' more c (subst (One P R w used place w') e one)))

      pub pouring_done : ((l k : ℕ) (y : Bytes) (a : A l) → P l k y a → Q l k y a) → left ≤ 0 → Goal w (Ok used)
      pouring_done ends none = t.rest w (Ok used) (many_none ends none)
