-- `is_nested` of the types that take the verdict of their second child, and of the others.
use Prim.Native.Nat.{ℕ, zero, suc, ◌-◌, ◌≤◌}
use native.Mathlib.Omega.{arith}
use mathlib.Core.Path.{◌≡◌, refl, sym, ap, subst, ◌∙◌}
use mathlib.Core.List.{List, [], ◌∷◌}
use mathlib.Core.Bool.{Bool, true, false, ◌||◌}
use lib.ListN.{length, get_or}
use lib.Dec.{eqb}
use borrow.Author.Tests.{ne_eqb}
use Rattle.model.specs.Bytes.{Bytes, choose}
use Rattle.model.specs.Tree.{Head, Field, table, layout, Dictionary, RunEndEncoded}
use Rattle.model.specs.Sheet.{each, head_bytes, field_bytes, children_bytes, type_bytes}
use Rattle.model.specs.WellFormed.{WellFormedParams, CountFits}
use Rattle.model.specs.Datatype.{holds_fields, encodes, of_second, is_nested}
use Rattle.walk.specs.Stands.{Stands, Skips, SkipsType, SkipsField, AllLaidOut, TellsNested}
use Rattle.walk.proofs.Standing.{first_stands, stands_behind, skip_none}
use Rattle.walk.proofs.Parts.{Ahead}
use Rattle.walk.proofs.Descents.{type_stands, code_stands, children_stand}

module _ {s : Bytes} {place : ℕ} (levels : ℕ) where
  module _ {code : ℕ} (e : code ≡ get_or s place 0) where
    pub plain_nested : {r : Bool} → (code ≡ Dictionary → ⊥) → (code ≡ RunEndEncoded → ⊥) → r ≡ holds_fields code → TellsNested s place levels r
    unfolding is_nested encodes choose
    plain_nested h k i zero t b w st = absurd w
    plain_nested h k i (suc l) t b w st =
        let d = e ∙ code_stands l t st in
        let x : encodes t.code ≡ false =
        ap encodes (sym d) ∙ ap (λ y. y || eqb code RunEndEncoded) (ne_eqb code Dictionary h) ∙ ne_eqb code RunEndEncoded k in
        i ∙ ap holds_fields d ∙ sym (ap (λ y. choose y (λ u. of_second (λ x. is_nested l x) t.children) λ u. holds_fields t.code) x)

    module _ {first : ℕ} (a : Ahead s place 1 first) where
      -- a type without parameters, of a code that takes its second child's verdict
      second_nested : (c : ℕ) {r : Bool} → code ≡ c → encodes c ≡ true → ((b : Bytes) → WellFormedParams (layout c).params b → b ≡ [])
          → ((l : ℕ) (ks : List (Field l)) → l ≤ levels - 1 → CountFits (layout c).children ks → AllLaidOut l ks
          → Stands s first (children_bytes (type_bytes l) (layout c).children ks) → r ≡ of_second (λ x. is_nested l x) ks)
          → TellsNested s place levels r
      unfolding is_nested choose
      second_nested c h x p g zero t b w st = absurd w
      second_nested c h x p g (suc l) t b w st =
          let d : t.code ≡ c = sym (code_stands l t st) ∙ sym e ∙ h in
          let none : (b : Bytes) → WellFormedParams (layout c).params b → Skips s first b first =
          λ b v. subst (λ b. Skips s first b first) (sym (p b v)) skip_none in
          g l t.children (omega arith) (subst (λ c. CountFits (layout c).children t.children) d w.1) w.2
          (subst (λ c. Stands s first (children_bytes (type_bytes l) (layout c).children t.children)) d (children_stand l t c (sym h ∙ e) a none w st))
          ∙ sym (ap (λ y. choose y (λ u. of_second (λ x. is_nested l x) t.children) λ u. holds_fields t.code) (ap encodes d ∙ x))

      pub dictionary_nested : {value : ℕ} {r : Bool} → code ≡ Dictionary → SkipsType s first (levels - 1) value → TellsNested s value (levels - 1) r → TellsNested s place levels r
      unfolding layout table children_bytes encodes of_second
      dictionary_nested {value} {r} h f g = second_nested Dictionary h refl (λ b w. w) go
        where
          go : (l : ℕ) (ks : List (Field l)) → l ≤ levels - 1 → length ks ≡ 2 → AllLaidOut l ks
              → Stands s first (each (λ k. type_bytes l k.data_type) ks) → r ≡ of_second (λ x. is_nested l x) ks
          go l [] b n q st = absurd (omega (arith, n))
          go l (x ∷ []) b n q st = absurd (omega (arith, n))
          go l (x ∷ y ∷ []) b n q st =
              g l y.data_type b q.1.0 (first_stands (type_bytes l y.data_type) [] (stands_behind (f l x.data_type b q.0) st))
          go l (x ∷ y ∷ z ∷ ks) b n q st = absurd (omega (arith, n))

      pub runs_nested : {values body : ℕ} {r : Bool} → code ≡ RunEndEncoded → SkipsField s first (levels - 1) values
          → ((h : Head) → Skips s values (head_bytes h) body) → TellsNested s body (levels - 1) r → TellsNested s place levels r
      unfolding layout table children_bytes encodes of_second
      runs_nested {values} {body} {r} h f i g = second_nested RunEndEncoded h refl (λ b w. w) go
        where
          go : (l : ℕ) (ks : List (Field l)) → l ≤ levels - 1 → length ks ≡ 2 → AllLaidOut l ks
              → Stands s first (each (field_bytes (type_bytes l)) ks) → r ≡ of_second (λ x. is_nested l x) ks
          go l [] b n q st = absurd (omega (arith, n))
          go l (x ∷ []) b n q st = absurd (omega (arith, n))
          go l (x ∷ y ∷ []) b n q st =
              g l y.data_type b q.1.0
              (type_stands l y i (first_stands (field_bytes (type_bytes l) y) [] (stands_behind (f l x b q.0) st)))
          go l (x ∷ y ∷ z ∷ ks) b n q st = absurd (omega (arith, n))
