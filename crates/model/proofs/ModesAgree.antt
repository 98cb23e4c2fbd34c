-- Parked log first is the Rust's merge but for some of its 20s: the two modes answer alike, unless the Rust's is 20. And where every order flag
-- is clear they are one. Both are one law: P holds of the order flags that are given, and only two flags that differ make a difference.
use Prim.Native.Nat.{ℕ, zero, suc}
use native.Mathlib.Omega.{arith}
use mathlib.Core.Path.{◌≡◌, refl, sym, ap, subst, ◌∙◌}
use mathlib.Core.Logic.{◌⊎◌, inl, inr}
use mathlib.Core.List.{List, [], ◌∷◌, ◌++◌}
use lib.ListN.{length}
use mathlib.Core.Bool.{Bool, true, false, ◌||◌, cond, beq, true≢false, false≢true}
use Rattle.model.specs.Numbers.{max_levels, ordered_clash}
use Rattle.model.specs.Bytes.{Bytes, Every, choose}
use Rattle.model.specs.Tree.{DataTypeOver, FieldOver, DataType, Schema, with_children}
use Rattle.model.specs.Read.{Step, got, bad, next, read_train}
use Rattle.model.specs.Merge.{Merged, done, clash, ◌>>=◌, need, pour, merge_by_name, as_the_rust, parked_first, orders_agree, merged_order, merge_field, merge_each, is_null, merge_same_code, merge_type, merge_schema, empty, placed, merge_from, try_merge}
use Rattle.model.specs.Equal.{same_type}
use Rattle.model.specs.Call.{bytes, refused, and_then, sheet_answer, merge_answer, call, merge_call}
use Rattle.model.specs.Growth.{Accepts}
use Rattle.model.proofs.Lists.{every_append}
use Rattle.model.proofs.Gives.{Gives, value, refusal, any_gives, need_gives, pour_keeps}
use Rattle.model.proofs.MergeKeeps.{merge_child_keeps}
use Rattle.model.proofs.Calls.{call_accepted}
use Rattle.model.proofs.Refusals.{merge_numbered}

module _ (P : Bool → Type 0) where
  -- P holds of the order flag of every field below a type, at every depth; of a field's own and of those below
  abbrev pub FlagsBelow : (l : ℕ) → DataType l → Type 0
  FlagsBelow zero t = ⊥
  FlagsBelow (suc l) t = Every (λ f. P f.head.dict_is_ordered × FlagsBelow l f.data_type) t.children

  abbrev pub Flags : {T : Type 0} → (T → Type 0) → FieldOver T → Type 0
  Flags N f = P f.head.dict_is_ordered × N f.data_type

  -- of all that a schema has
  abbrev pub FlagsOf : Schema → Type 0
  FlagsOf x = Every (Flags (FlagsBelow max_levels)) x.columns

  -- two flags of which P holds differ
  abbrev pub Differ : Type 0
  Differ = (o : Bool) × (o' : Bool) × P o × P o' × (o ≡ o' → ⊥)

  -- the two modes give one value, of which N holds, or clash alike; or the first gives 20, and flags differ
  data Agree {A : Type 0} (N : A → Type 0) : Merged A → Merged A → Type 0 where
    alike : {a : A} → N a → Agree N (done a) (done a)
    clashes : {n : ℕ} → Agree N (clash n) (clash n)
    was20 : {r : Merged A} → Differ → Agree N (clash ordered_clash) r

  alike_as : {A : Type 0} {N : A → Type 0} {a b : A} → a ≡ b → N a → Agree N (done a) (done b)
  alike_as {N = N} {a} e n = subst (λ b. Agree N (done a) (done b)) e (alike n)

  -- A law for each combinator

  gives_agree : {A : Type 0} {N : A → Type 0} {r : Merged A} → Gives N r → Agree N r r
  gives_agree (value n) = alike n
  gives_agree refusal = clashes

  bind_agree : {A B : Type 0} {N : A → Type 0} {M : B → Type 0} {r r' : Merged A} (f f' : A → Merged B) → Agree N r r' → ((a : A) → N a → Agree M (f a) (f' a)) → Agree M (r >>= f) (r' >>= f')
  unfolding ◌>>=◌
  bind_agree f f' (alike {a} n) h = h a n
  bind_agree f f' clashes h = clashes
  bind_agree f f' (was20 d) h = was20 d

  choose_agree : {A : Type 0} {N : A → Type 0} (b : Bool) (x x' y y' : Unit {0} → Merged A) → Agree N (x tt) (x' tt) → Agree N (y tt) (y' tt) → Agree N (choose b x y) (choose b x' y')
  unfolding choose
  choose_agree true x x' y y' h k = h
  choose_agree false x x' y y' h k = k

  pour_agree : {A B : Type 0} (put put' : A → B → Merged A) (N : A → Type 0) (M : B → Type 0) → ((a : A) (x : B) → N a → M x → Agree N (put a x) (put' a x))
      → (a : A) (xs : List B) → N a → Every M xs → Agree N (pour put a xs) (pour put' a xs)
  unfolding pour
  pour_agree put put' N M h a [] n m = alike n
  pour_agree put put' N M h a (x ∷ xs) n m = bind_agree _ _ (h a x n m.0) λ b k. pour_agree put put' N M h b xs k m.1

  -- the one place where the modes part
  orders_agree_lem : (o o' z : Bool) → P o → P o' → Agree (λ (u : Unit {0}). o ≡ o') (need (beq o o' || false) ordered_clash tt) (need (beq o o' || z) ordered_clash tt)
  unfolding need
  orders_agree_lem true true z p q = alike refl
  orders_agree_lem true false z p q = was20 (true, false, p, q, true≢false)
  orders_agree_lem false true z p q = was20 (false, true, p, q, false≢true)
  orders_agree_lem false false z p q = alike refl

  -- The definitions, one after the other

  module _ {T : Type 0} (is_null : T → Bool) (N : T → Type 0) (merge merge' : T → T → Merged T) (h : (a b : T) → N a → N b → Agree N (merge a b) (merge' a b)) where
    field_agree : (f g : FieldOver T) → Flags N f → Flags N g → Agree (Flags N) (merge_field as_the_rust merge is_null f g) (merge_field parked_first merge' is_null f g)
    unfolding merge_field orders_agree merged_order
    field_agree f g p q =
        bind_agree _ _ (orders_agree_lem f.head.dict_is_ordered g.head.dict_is_ordered _ p.0 q.0) λ u same.
        bind_agree _ _ (gives_agree (any_gives _)) λ m k.
        bind_agree _ _ (h f.data_type g.data_type p.1 q.1) λ t n.
        alike_as (ap (λ o. record { head = record { type_id = f.head.type_id; nullable = f.head.nullable || g.head.nullable || is_null f.data_type || is_null g.data_type; dict_is_ordered = o; name = f.head.name; metadata = m; dict_id = f.head.dict_id }; data_type = t })
        (either (is_null f.data_type) same)) (p.0, n)
      where
        either : (c : Bool) {o o' : Bool} → o ≡ o' → o ≡ cond c o' o
        either true e = e
        either false e = refl

    by_name_agree : (gs : List (FieldOver T)) (f : FieldOver T) → Every (Flags N) gs → Flags N f
        → Agree (Every (Flags N)) (merge_by_name (merge_field as_the_rust merge is_null) gs f) (merge_by_name (merge_field parked_first merge' is_null) gs f)
    unfolding merge_by_name
    by_name_agree [] f e n = alike {a = f ∷ []} (n, tt)
    by_name_agree (g ∷ gs) f e n =
        choose_agree _ _ _ _ _ (bind_agree _ _ (field_agree g f e.0 n) λ r k. alike {a = r ∷ gs} (k, e.1))
        (bind_agree _ _ (by_name_agree gs f e.1 n) λ r k. alike {a = g ∷ r} (e.0, k))

    each_agree : (fs gs : List (FieldOver T)) → Every (Flags N) fs → Every (Flags N) gs → Agree (Every (Flags N)) (merge_each as_the_rust merge is_null fs gs) (merge_each parked_first merge' is_null fs gs)
    unfolding merge_each
    each_agree [] gs e k = alike {a = []} tt
    each_agree (f ∷ fs) [] e k = alike e
    each_agree (f ∷ fs) (g ∷ gs) e k =
        bind_agree _ _ (field_agree f g e.0 k.0) λ x p.
        bind_agree _ _ (each_agree fs gs e.1 k.1) λ r q. alike {a = x ∷ r} (p, q)

    same_code_agree : (eq : T → T → Bool) (a b : DataTypeOver (FieldOver T)) → Every (Flags N) a.children → Every (Flags N) b.children
        → Agree (λ t. Every (Flags N) t.children) (merge_same_code as_the_rust merge is_null eq a b) (merge_same_code parked_first merge' is_null eq a b)
    unfolding merge_same_code
    same_code_agree eq a b e k =
        choose_agree _ _ _ _ _
        (bind_agree _ _ (pour_agree _ _ (Every (Flags N)) (Flags N) by_name_agree [] (a.children ++ b.children) tt (every_append (Flags N) a.children b.children e k)) λ ks q. alike {a = with_children a ks} q)
        (choose_agree _ _ _ _ _
        (bind_agree _ _ (gives_agree (pour_keeps _ (Every (Flags N)) (Flags N) (merge_child_keeps (Flags N) eq) a.children b.children e k)) λ ks q.
        gives_agree (need_gives _ _ (with_children a ks) λ d. q))
        (choose_agree _ _ _ _ _ (bind_agree _ _ (each_agree a.children b.children e k) λ ks q. alike {a = with_children a ks} q)
        (gives_agree (need_gives _ _ a λ d. e))))

  type_agree : (l : ℕ) (a b : DataType l) → FlagsBelow l a → FlagsBelow l b → Agree (FlagsBelow l) (merge_type as_the_rust l a b) (merge_type parked_first l a b)
  unfolding merge_type
  type_agree zero a b p q = absurd a
  type_agree (suc l) a b p q =
      choose_agree _ _ _ _ _ (alike q) (choose_agree _ _ _ _ _ (alike p) (choose_agree _ _ _ _ _ clashes
      (same_code_agree (is_null l) (FlagsBelow l) (λ x y. merge_type as_the_rust l x y) (λ x y. merge_type parked_first l x y) (type_agree l) (same_type l) a b p q)))

  schema_agree : (x y : Schema) → FlagsOf x → FlagsOf y → Agree FlagsOf (merge_schema as_the_rust x y) (merge_schema parked_first x y)
  unfolding merge_schema
  schema_agree x y p q =
      bind_agree _ _ (gives_agree (any_gives _)) λ m k.
      bind_agree _ _ (pour_agree _ _ (Every (Flags (FlagsBelow max_levels))) (Flags (FlagsBelow max_levels))
      (by_name_agree (is_null max_levels) (FlagsBelow max_levels) (merge_type as_the_rust max_levels) (merge_type parked_first max_levels) (type_agree max_levels)) x.columns y.columns p q) λ cs r.
      alike {a = record { metadata = m; columns = cs }} r

  -- two answers are one; or the first is 20 at some place, and flags differ
  abbrev OneOr20 : {A : Type 0} → (ℕ → A) → A → A → Type 0
  OneOr20 twenty a b = (a ≡ b) ⊎ (((p : ℕ) × (a ≡ twenty p)) × Differ)

  from_agree : (i : ℕ) (x : Schema) (ys : List Schema) → FlagsOf x → Every FlagsOf ys → OneOr20 (bad ordered_clash) (merge_from as_the_rust i x ys) (merge_from parked_first i x ys)
  unfolding merge_from placed next
  from_agree i x [] p q = inl refl
  from_agree i x (y ∷ ys) p q = go (schema_agree x y p q.0) λ z n. from_agree (suc i) z ys n q.1
    where
      go : {r r' : Merged Schema} → Agree FlagsOf r r'
          → ((z : Schema) → FlagsOf z → OneOr20 (bad ordered_clash) (merge_from as_the_rust (suc i) z ys) (merge_from parked_first (suc i) z ys))
          → OneOr20 (bad ordered_clash) (next (placed i r) (λ z j. merge_from as_the_rust j z ys)) (next (placed i r') (λ z j. merge_from parked_first j z ys))
      go (alike {a = z} n) rest = rest z n
      go clashes rest = inl refl
      go (was20 d) rest = inr ((i, refl), d)

  -- of schemas of whose flags P holds
  modes_of : (xs : List Schema) → Every FlagsOf xs → OneOr20 (refused ordered_clash) (sheet_answer (try_merge as_the_rust xs)) (sheet_answer (try_merge parked_first xs))
  unfolding try_merge sheet_answer and_then
  modes_of xs p = go (from_agree 0 empty xs tt p)
    where
      go : {r r' : Step Schema} → OneOr20 (bad ordered_clash) r r' → OneOr20 (refused ordered_clash) (sheet_answer r) (sheet_answer r')
      go (inl e) = inl (ap sheet_answer e)
      go (inr ((p, e), d)) = inr ((p, ap sheet_answer e), d)

-- Whatever the flags are: the two modes answer the same bytes, or the same number at the same place, unless the Rust's is 20.

any_each : {T : Type 0} (N : T → Type 0) → ((t : T) → N t) → (fs : List (FieldOver T)) → Every (Flags (λ o. Unit {0}) N) fs
any_each N h [] = tt
any_each N h (f ∷ fs) = ((tt, h f.data_type), any_each N h fs)

any_flags : (l : ℕ) (t : DataType l) → FlagsBelow (λ o. Unit {0}) l t
any_flags zero t = absurd t
any_flags (suc l) t = any_each (FlagsBelow (λ o. Unit {0}) l) (any_flags l) t.children

any_schemas : (xs : List Schema) → Every (FlagsOf (λ o. Unit {0})) xs
any_schemas [] = tt
any_schemas (x ∷ xs) = (any_each (FlagsBelow (λ o. Unit {0}) max_levels) (any_flags max_levels) x.columns, any_schemas xs)

pub modes_agree : (train : Bytes) → (merge_answer as_the_rust train ≡ merge_answer parked_first train) ⊎ ((p : ℕ) × (merge_answer as_the_rust train ≡ refused ordered_clash p))
unfolding merge_answer and_then
modes_agree train = go (read_train train)
  where
    drop : {A B : Type 0} → A ⊎ (B × Differ (λ o. Unit {0})) → A ⊎ B
    drop (inl e) = inl e
    drop (inr (b, d)) = inr b

    go : (r : Step (List Schema)) → (and_then r (λ xs. sheet_answer (try_merge as_the_rust xs)) ≡ and_then r (λ xs. sheet_answer (try_merge parked_first xs)))
        ⊎ ((p : ℕ) × (and_then r (λ xs. sheet_answer (try_merge as_the_rust xs)) ≡ refused ordered_clash p))
    go (got xs e) = drop (modes_of (λ o. Unit {0}) xs (any_schemas xs))
    go (bad n p) = inl refl

-- So what the Rust's mode accepts, parked log first accepts with the same bytes, in the same buffers.
pub parked_accepts : (train work answer : Bytes) → Accepts (merge_call as_the_rust train work answer) → merge_call parked_first train work answer ≡ merge_call as_the_rust train work answer
parked_accepts train work answer h =
    let (b, a) = call_accepted (length train) (merge_answer as_the_rust train) work answer (merge_numbered as_the_rust train) h in
    ap (λ o. call (length train) o work answer) (go b a.answers (modes_agree train))
  where
    go : (b : Bytes) → merge_answer as_the_rust train ≡ bytes b
        → (merge_answer as_the_rust train ≡ merge_answer parked_first train) ⊎ ((p : ℕ) × (merge_answer as_the_rust train ≡ refused ordered_clash p)) → merge_answer parked_first train ≡ merge_answer as_the_rust train
    go b k (inl e) = sym e
    go b k (inr (p, e)) = let clash : bytes b ≡ refused ordered_clash p = sym k ∙ e in let z : ◌≡◌ {A = ℕ} 0 1 = cc in absurd (omega arith)

-- Where every order flag is clear the two modes are one.
pub clear_modes : (train : Bytes) (xs : List Schema) (e : ℕ) → read_train train ≡ got xs e → Every (FlagsOf (λ o. o ≡ false)) xs → merge_answer as_the_rust train ≡ merge_answer parked_first train
unfolding merge_answer and_then
clear_modes train xs e h p = rw h (go (modes_of (λ o. o ≡ false) xs p))
  where
    go : {A B : Type 0} → A ⊎ (B × Differ (λ o. o ≡ false)) → A
    go (inl a) = a
    go (inr (b, (o, o', p, q, d))) = absurd (d (p ∙ sym q))
