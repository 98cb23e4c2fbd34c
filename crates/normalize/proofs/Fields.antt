-- A field at a depth: the column that it is, or those of its children.
use Prim.Native.Nat.{ℕ, zero, suc, ◌+◌, ◌<◌}
use native.Mathlib.Omega.{arith}
use mathlib.Core.Path.{◌≡◌, refl, sym, ap, ap₂, subst, ◌∙◌}
use mathlib.Core.List.{List, [], ◌∷◌, ◌++◌, append_assoc, append-nil}
use mathlib.Core.Bool.{Bool, true, false, ◌&&◌, ◌||◌}
use lib.ListN.{length, get_or, length-append}
use lib.Dec.{eqb, ltb}
use borrow.Author.Tests.{eqb-true}
use Rattle.model.specs.Numbers.{max_levels, max_sheet_bytes}
use Rattle.model.specs.Bytes.{Bytes, u16}
use Rattle.model.specs.Tree.{Head, DataType, Field, Struct, table, layout}
use Rattle.model.specs.Sheet.{each, with_count, head_bytes, field_bytes, children_bytes, type_bytes}
use Rattle.model.specs.WellFormed.{WellFormedParams, LaidOut}
use Rattle.model.specs.Schema.{lift, plain_head, join, expand}
use Rattle.model.proofs.Lists.{and_true}
use Rattle.model.proofs.Normalized.{lift_bytes, join_same, expand_children, expand_itself}
use Rattle.buffer.specs.declared.Output.{Output}
use Rattle.buffer.specs.Puts.{Puts}
use Rattle.buffer.proofs.Puts.{puts_same, puts_join}
use Rattle.walk.specs.Stands.{Stands, Skips, SkipsType}
use Rattle.walk.proofs.Standing.{stands_behind, skip_ahead, skip_join, skip_self}
use Rattle.walk.proofs.Parts.{Ahead, two_at}
use Rattle.walk.proofs.Descents.{head_stands, type_stands, code_stands, count_stands, elements_stand}
use Rattle.normalize.specs.declared.Reach.{Reach}
use Rattle.normalize.specs.Expands.{Above, prefix, Adds, Expands, own_column, columns_of, ExpandsColumn, ExpandsField, ExpandsFields}
use Rattle.normalize.proofs.Names.{prefix_snoc, above_longer}
use Rattle.normalize.proofs.Columns.{expands_when}

-- what `put_head` ensures
abbrev PutsHead : (s separator : Bytes) (path : List ℕ) (place : ℕ) (o o' : Output) → Type 0
PutsHead s separator path place o o' =
    (hs : List Head) (h : Head) → Above s path hs → Stands s place (head_bytes h)
    → Puts (head_bytes (plain_head (prefix separator hs ++ h.name) h)) o o'

module _ {s : Bytes} (separator : Bytes) {path : List ℕ} {o : Output} {from : Reach} where
  pub column_expanded : {typed end d : ℕ} {o₁ o₂ : Output} → ((h : Head) → Skips s from.place (head_bytes h) typed) → SkipsType s typed max_levels end
      → PutsHead s separator path from.place o o₁
      → ((b : Bytes) → Stands s typed b → end ≡ typed + length b → Puts b o₁ o₂) → (from.count < max_sheet_bytes → d ≡ from.count + 1)
      → ExpandsColumn s separator path o o₂ from (record { place = end; count = d })
  unfolding field_bytes
  column_expanded i j f g n l up hs x h e a z =
      let t = x.data_type in
      let b = head_bytes (own_column separator l up hs x).head in
      let skip = j l t (omega (arith, h)) z in
      record {
        behind = λ st k. (skip_join (i x.head) skip).behind st;
        adds = λ st.
            let u = type_stands l x i st in
            record {
              puts = puts_same (ap (λ y. b ++ y) (sym (e t)) ∙ sym (append-nil (b ++ type_bytes max_levels (up t))))
                  (puts_join b (type_bytes l t) (f hs x.head a (head_stands l x st)) (g (type_bytes l t) u (skip.behind u)));
              counts = λ k m. n (omega (arith, m));
            };
      }

-- a Struct has no parameters
struct_bytes : (l : ℕ) (t : DataType (suc l)) → t.code ≡ Struct → LaidOut (suc l) t → type_bytes (suc l) t ≡ Struct ∷ with_count (field_bytes (type_bytes l)) t.children
unfolding type_bytes layout table children_bytes
struct_bytes l t e z =
    let none : t.params ≡ [] = subst (λ c. WellFormedParams (layout c).params t.params) e z.0 in
    ap₂ (λ c b. c ∷ (b ++ children_bytes (type_bytes l) (layout c).children t.children)) e none

-- the columns of the children, as the walk has them: this field is now above
children_columns : (separator : Bytes) (maxLevel place l : ℕ) (path : List ℕ) (up : DataType l → DataType max_levels) (hs : List Head) (h : Head) (ks : List (Field l))
    → join (columns_of separator maxLevel (length (path ++ (place ∷ []))) l up (hs ++ (h ∷ []))) ks
    ≡ join (λ c. expand separator maxLevel l up (suc (length path)) ((prefix separator hs ++ h.name) ++ (separator ++ c.head.name)) c.head c.data_type) ks
children_columns separator maxLevel place l path up hs h ks = join_same _ _ (λ c. ap₂ (λ d n. expand separator maxLevel l up d n c.head c.data_type) deeper (name c.head.name)) ks
  where
    deeper : length (path ++ (place ∷ [])) ≡ suc (length path)
    deeper = omega (arith, length-append path (place ∷ []))

    name : (m : Bytes) → prefix separator (hs ++ (h ∷ [])) ++ m ≡ (prefix separator hs ++ h.name) ++ (separator ++ m)
    name m =
        ap (λ b. b ++ m) (prefix_snoc separator hs h ∙ sym (append_assoc (prefix separator hs) h.name separator))
        ∙ append_assoc (prefix separator hs ++ h.name) separator m

-- whether a field is expanded, from its type's code
module _ {s : Bytes} (separator : Bytes) (maxLevel : ℕ) (path : List ℕ) (from : Reach) {typed code depth : ℕ} {t : Bool}
    (skip : (h : Head) → Skips s from.place (head_bytes h) typed) (c : code ≡ get_or s typed 0) (d : depth ≡ length path)
    (test : t ≡ (eqb code Struct && (eqb maxLevel 0 || ltb depth maxLevel))) where
  tested : (l : ℕ) (f : Field (suc l)) → Stands s from.place (field_bytes (type_bytes (suc l)) f)
      → (eqb f.data_type.code Struct && (eqb maxLevel 0 || ltb (length path) maxLevel)) ≡ t
  tested l f st =
      ap₂ (λ n d. eqb n Struct && (eqb maxLevel 0 || ltb d maxLevel)) (sym (c ∙ code_stands l f.data_type (type_stands (suc l) f skip st))) (sym d) ∙ sym test

  module _ {o o' : Output} {to : Reach} where
    pub field_itself : t ≡ false → ExpandsColumn s separator path o o' from to → ExpandsField s separator maxLevel path o o' from to
    field_itself n g zero up hs f k e a z = absurd z
    field_itself n g (suc l) up hs f k e a z =
        expands_when λ st.
        subst (λ cs. Expands s (field_bytes (type_bytes (suc l)) f) cs o o' from to)
        (sym (expand_itself separator maxLevel l up (length path) _ _ f.data_type (tested l f st ∙ n)))
        (g (suc l) up hs f k e a z)

    pub field_expanded : {counted first n : ℕ} {longer : List ℕ} → t ≡ true → longer ≡ path ++ (from.place ∷ []) → Ahead s typed 1 counted → Ahead s counted 2 first → n ≡ two_at s counted
        → ExpandsFields s separator maxLevel longer n o o' (record { place = first; count = from.count }) to
        → ExpandsField s separator maxLevel path o o' from to
    unfolding field_bytes with_count u16
    field_expanded y p i j m g zero up hs f k e a z = absurd z
    field_expanded {counted} {first} {n} {longer} y p i j m g (suc l) up hs f k e a z =
        expands_when λ st.
        let x = f.data_type in
        let ks = x.children in
        let same = tested l f st ∙ y in
        let b = struct_bytes l x (eqb-true x.code Struct (and_true _ _ same).0) z in
        let u : Stands s counted (with_count (field_bytes (type_bytes l)) ks) =
        stands_behind (skip_ahead (Struct ∷ []) refl i.1) (subst (Stands s typed) b (type_stands (suc l) f skip st)) in
        let above = above_longer f.head a (head_stands (suc l) f st) in
        let fields = subst (λ q. ExpandsFields s separator maxLevel q n o o' (record { place = first; count = from.count }) to) p g in
        let inner = fields l (λ v. up (lift l v)) (hs ++ (f.head ∷ [])) ks (omega (arith, k, length-append path (from.place ∷ []))) (λ v. e (lift l v) ∙ lift_bytes l v) above
        (sym (m ∙ count_stands (field_bytes (type_bytes l)) ks u)) z.2 in
        let v = elements_stand (field_bytes (type_bytes l)) ks j u in
        let whole : Skips s typed (type_bytes (suc l) x) (first + length (each (field_bytes (type_bytes l)) ks)) =
        subst (λ y. Skips s typed y (first + length (each (field_bytes (type_bytes l)) ks))) (sym b)
        (skip_join (skip_ahead (Struct ∷ []) refl i.1) (skip_join (skip_ahead (u16 (length ks)) refl j.1) skip_self)) in
        record {
          behind = λ st h. inner.behind v h ∙ (skip_join (skip f.head) whole).behind st;
          adds = λ st.
              subst (λ cs. Adds cs o o' from.count to.count)
              (children_columns separator maxLevel from.place l path (λ v. up (lift l v)) hs f.head ks ∙ sym (expand_children separator maxLevel l up (length path) _ _ x same))
              (inner.adds v);
        }

-- what is done below a path is done below one that is equal
pub expands_at : {s : Bytes} (separator : Bytes) (maxLevel : ℕ) {path path' : List ℕ} {o o' : Output} {from to : Reach} → path ≡ path'
    → ExpandsField s separator maxLevel path o o' from to → ExpandsField s separator maxLevel path' o o' from to
expands_at {s} separator maxLevel {o = o} {o' = o'} {from = from} {to = to} e f = subst (λ p. ExpandsField s separator maxLevel p o o' from to) e f
