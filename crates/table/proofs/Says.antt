-- What an answer says of a merge, carried from a part of the table to what it is a part of, and to an equal merge with more room.
use Prim.Native.Nat.{ℕ, ◌≤◌}
use native.Mathlib.Omega.{arith}
use mathlib.Core.Path.{◌≡◌, ap, ◌∙◌}
use mathlib.Core.List.{◌++◌, append_assoc}
use Rattle.model.specs.Bytes.{Bytes}
use Rattle.model.specs.Merge as model
use Rattle.model.specs.Merge.{done, ◌>>=◌}
use Rattle.table.specs.Says.{Merged, Says}
use Rattle.std.proofs.Common.{Ok, Err}
use Rattle.table.proofs.Held.{held_as}

-- a part between p and r: what is spelt there, and how much room it has, gives what all of it spells and the room of all
module _ {A B : Type 0} (P : ℕ → Bytes → A → Type 0) (Q : ℕ → Bytes → B → Type 0) (b c : ℕ) (x p r z w : Bytes) (g : A → B) (m : model.Merged A)
    (step : (k : ℕ) (y : Bytes) (a : A) → P k y a → k ≤ b → (j : ℕ) × Q j (p ++ (y ++ r)) (g a) × (j ≤ c)) where
  pub says_in : (res : Merged) → Says P b (x ++ p) (r ++ z) w res m → Says Q c x z w res (m >>= λ a. done (g a))
  unfolding ◌>>=◌
  says_in (Ok u) t =
      let (j, q, h) = step t.room t.spelt t.value t.spells t.fits in
      record {
        value = g t.value;
        spelt = p ++ (t.spelt ++ r);
        room = j;
        is = ap (λ m. m >>= λ a. done (g a)) t.is;
        spells = q;
        fits = h;
        held = held_as t.held (simp append_assoc);
      }
  says_in (Err n) e = ap (λ m. m >>= λ a. done (g a)) e

-- of an equal merge, with more room
pub says_as : {A : Type 0} (P : ℕ → Bytes → A → Type 0) (b c : ℕ) (x z w : Bytes) {m m' : model.Merged A} (res : Merged) → b ≤ c → m' ≡ m → Says P b x z w res m → Says P c x z w res m'
says_as P b c x z w (Ok u) h e t = record {
  value = t.value;
  spelt = t.spelt;
  room = t.room;
  is = e ∙ t.is;
  spells = t.spells;
  fits = omega (arith, h, t.fits);
  held = t.held;
}
says_as P b c x z w (Err n) h e t = e ∙ t
