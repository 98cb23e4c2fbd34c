-- The loop over union children, for the position of the first that passes a test.
use Prim.Native.Nat.{ℕ, ◌+◌, ◌≤◌, ◌<◌}
use native.Mathlib.Omega.{arith}
use mathlib.Core.Path.{◌≡◌, refl, sym, ap, ◌∙◌}
use mathlib.Core.List.{List, [], ◌∷◌}
use mathlib.Core.Bool.{Bool, true, false}
use lib.ListN.{length}
use Rattle.std.proofs.Common.{Option, Some, None}
use Rattle.model.specs.Bytes.{Bytes, Every, choose, onward, position}
use Rattle.model.proofs.Search.{from, from_next, from_start}
use Rattle.model.specs.Tree.{Field}
use Rattle.model.specs.Sheet.{each, field_bytes, type_bytes}
use Rattle.model.specs.WellFormed.{LaidOut, Whole}
use Rattle.model.specs.Equal.{same_field, same_type}
use Rattle.walk.specs.Stands.{Stands, SkipsField, member_bytes}
use Rattle.walk.proofs.Standing.{stands_behind, skip_ahead, skip_join}
use Rattle.walk.proofs.Parts.{Ahead}
use Rattle.datatype.specs.Answers.{TestedBy}
use Rattle.datatype.proofs.Seeks.{Seeks, seeks_begin, seeks_again, seeks_stop, seeks_done}

-- the answers that a call may give at a place
abbrev Answers : Type 1
Answers = ℕ → Bool → Type 0

-- a child that can be gone over, of which the calls tell the test
abbrev Told : Answers → Bytes → (l : ℕ) → (Field l → Bool) → Field l → Type 0
Told answers s l test k = LaidOut l k.data_type × TestedBy answers s l test k

-- i are passed, none of which passes the test: the position is that among those behind them, counted from i
abbrev pub Finding : Answers → (s : Bytes) (first count levels place i : ℕ) → Type 0
Finding answers s first count levels place i = (l : ℕ) (test : Field l → Bool) → l ≤ levels
    → Seeks (Told answers s l test) (member_bytes l) s (λ ks. from 0 (position test ks)) (λ ks. from i (position test ks)) first count place i

-- what `find_child` ensures
abbrev pub Finds : Answers → (s : Bytes) (first count levels : ℕ) → Option ℕ → Type 0
Finds answers s first count levels r = (l : ℕ) (test : Field l → Bool) (ks : List (Field l)) → l ≤ levels → length ks ≡ count → Every (Told answers s l test) ks
    → Stands s first (each (member_bytes l) ks) → r ≡ position test ks

module _ (answers : Answers) (s : Bytes) (levels : ℕ) where
  pub find_begin : (first count : ℕ) → Finding answers s first count levels first 0
  find_begin first count l test h = seeks_begin (Told answers s l test) (member_bytes l) s _ first count

  module _ {first count place i : ℕ} (k : Finding answers s first count levels place i) where
    module _ (h : i < count) {b : Bool} (a : answers place b) where
      pub find_again : {own r : ℕ} → b ≡ false → Ahead s place 1 own → SkipsField s own levels r → Finding answers s first count levels r (i + 1)
      unfolding position choose
      find_again e u f l test m =
          seeks_again (Told answers s l test) (member_bytes l) s (k l test m) h (λ x w. skip_join (skip_ahead (_ ∷ []) refl u.1) (f l x m w.0)) λ x xs w st.
          ap (λ b. from i (choose b (λ u. Some 0) λ u. onward (position test xs))) (sym (w.1 place b st a) ∙ e) ∙ from_next i (position test xs)

      pub find_found : b ≡ true → Finds answers s first count levels (Some i)
      unfolding position choose from
      find_found e l test ks m n w st =
          seeks_stop (Told answers s l test) (member_bytes l) s (k l test m) h
          (λ x xs v u.
          let z : i ≡ i + 0 = omega arith in
          ap (λ k. Some k) z ∙ sym (ap (λ b. from i (choose b (λ u. Some 0) λ u. onward (position test xs))) (sym (v.1 place b u a) ∙ e))) ks n w st
          ∙ from_start (position test ks)

    pub find_none : count ≤ i → Finds answers s first count levels None
    unfolding position from
    find_none h l test ks m n w st = seeks_done (Told answers s l test) (member_bytes l) s (k l test m) h refl ks n w st ∙ from_start (position test ks)

-- By equal field

-- what `same_field` ensures
abbrev pub SameFields : Bytes → ℕ → Bytes → ℕ → ℕ → Bool → Type 0
SameFields s a t b levels r = (l : ℕ) (f g : Field l) → l ≤ levels → Whole l f.data_type → Whole l g.data_type
    → Stands s a (field_bytes (type_bytes l) f) → Stands t b (field_bytes (type_bytes l) g) → r ≡ same_field (same_type l) f g

-- what the test of a place ensures: the field behind the id is compared
abbrev pub SameMember : Bytes → ℕ → Bytes → ℕ → ℕ → Bool → Type 0
SameMember s place t field levels r = (l : ℕ) (k g : Field l) → l ≤ levels → Whole l k.data_type → Whole l g.data_type
    → Stands s place (member_bytes l k) → Stands t field (field_bytes (type_bytes l) g) → r ≡ same_field (same_type l) k g

pub behind_id : {s t : Bytes} {place own field levels : ℕ} {r : Bool} → Ahead s place 1 own → SameFields s own t field levels r → SameMember s place t field levels r
behind_id a c l k g h w v st st' = c l k g h w v (stands_behind (skip_ahead (_ ∷ []) refl a.1) st) st'
