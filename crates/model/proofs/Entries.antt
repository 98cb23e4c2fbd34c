-- The entries of an index list, one by one, and the element that an entry selects.
use Prim.Native.Nat.{ℕ, zero, suc, ◌+◌, ◌*◌, ◌-◌, ◌/◌, ◌≤◌, ◌<◌}
use native.Mathlib.Omega.{arith}
use mathlib.Core.Path.{◌≡◌, refl, sym, ap, ◌∙◌}
use mathlib.Core.List.{List, [], ◌∷◌, ◌++◌}
use lib.ListN.{length, take, drop, get_or, length-drop}
use Rattle.model.specs.Numbers.{odd_list}
use Rattle.model.specs.Bytes.{Bytes}
use Rattle.model.specs.Tree.{Schema}
use Rattle.model.specs.Read.{got, bad, next}
use Rattle.model.specs.Schema.{indices, select}
use Rattle.model.proofs.Steps.{next_got, got_inv}
use Rattle.model.proofs.ByteStrings.{drop_next}
use Rattle.model.proofs.Projection.{Projected}

-- the numbers of a list, a byte too many left out
unfoldable pub entries : Bytes → List ℕ
entries [] = []
entries (a ∷ []) = []
entries (a ∷ b ∷ bs) = (a + 256 * b) ∷ entries bs

pub indices_even : (list : Bytes) (n : ℕ) → length list ≡ 2 * n → indices list ≡ got (entries list) 0
unfolding indices entries
indices_even [] n h = refl
indices_even (a ∷ []) n h = absurd (omega (arith, h))
indices_even (a ∷ b ∷ bs) n h = next_got _ (indices_even bs (n - 1) (omega (arith, h))) refl

pub indices_odd : (list : Bytes) (n : ℕ) → length list ≡ 2 * n + 1 → indices list ≡ bad odd_list 0
unfolding indices next
indices_odd [] n h = absurd (omega (arith, h))
indices_odd (a ∷ []) n h = refl
indices_odd (a ∷ b ∷ bs) n h = ap (λ r. next r λ is e. got ((a + 256 * b) ∷ is) e) (indices_odd bs (n - 1) (omega (arith, h)))

-- entry e is the number of the bytes 2e and 2e + 1
pub entries_next : (list : Bytes) (e : ℕ) {i : ℕ} → e < length list / 2 → i ≡ get_or list (2 * e) 0 + 256 * get_or list (2 * e + 1) 0
    → entries (drop (2 * e) list) ≡ i ∷ entries (drop (2 * (e + 1)) list)
unfolding entries
entries_next list e {i} h is =
    let n : 2 * e + 1 + 1 ≡ 2 * (e + 1) = omega arith in
    ap entries (drop_next list (2 * e) (omega (arith, h)) ∙ ap (λ r. get_or list (2 * e) 0 ∷ r) (drop_next list (2 * e + 1) (omega (arith, h))))
    ∙ ap (λ i. i ∷ entries (drop (2 * e + 1 + 1) list)) (sym is)
    ∙ ap (λ k. i ∷ entries (drop k list)) n

no_entries : (list : Bytes) → length list ≤ 1 → entries list ≡ []
unfolding entries
no_entries [] h = refl
no_entries (a ∷ []) h = refl
no_entries (a ∷ b ∷ bs) h = absurd (omega (arith, h))

pub entries_end : (list : Bytes) (e : ℕ) → length list / 2 ≤ e → entries (drop (2 * e) list) ≡ []
entries_end list e h = no_entries (drop (2 * e) list) (omega (arith, length-drop (2 * e) list, h))

-- the entries of a list by which a projection is accepted
pub projected_entries : {x : Schema} {list : Bytes} {y : Schema} {n : ℕ} (p : Projected x list y n) → p.entries ≡ entries list
projected_entries {list = list} {n = n} p = got_inv (sym p.reads ∙ indices_even list n p.two_bytes_each)

-- the element at an index, between those before it and those behind it
pub take_select : {A : Type 0} (xs : List A) (i : ℕ) → take (suc i) xs ≡ take i xs ++ select xs i
unfolding select
take_select [] zero = refl
take_select [] (suc i) = refl
take_select (x ∷ xs) zero = refl
take_select (x ∷ xs) (suc i) = ap (λ r. x ∷ r) (take_select xs i)
