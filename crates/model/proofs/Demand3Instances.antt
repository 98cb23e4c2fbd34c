-- Demand 3 speaks of something: in each mode two sheets with something to grow at every rule meet it. Its condition on structs is needed,
-- and so is the wider rule of "Parked log first".
use Prim.Native.Nat.{ℕ, zero, suc, ◌≤◌, ◌<◌}
use native.Mathlib.Omega.{arith}
use mathlib.Core.Path.{◌≡◌, refl, sym, ap, subst, subst₂}
use mathlib.Core.Logic.{⊎_elim}
use mathlib.Core.List.{List, [], ◌∷◌, ◌++◌}
use mathlib.Core.Bool.{Bool, true, false, not, ◌&&◌, ◌||◌, false≢true}
use lib.ListN.{length}
use lib.Dec.{eqb, ltb}
use borrow.Author.Tests.{ltb-true, eq-eqb, not-true}
use Rattle.model.specs.Numbers.{max_levels}
use Rattle.model.specs.Bytes.{Bytes, AreBytes, Every, all, same_bytes}
use Rattle.model.specs.Tree.{DataTypeOver, FieldOver, DataType, Schema, Struct}
use Rattle.model.specs.Read.{got, read_sheet}
use Rattle.model.specs.Merge.{as_the_rust}
use Rattle.model.specs.Call.{Exit, bytes, merge_answer, merge_call, zeros}
use Rattle.model.specs.Growth.{Begins, here, onto, GrownOver, identical, was_null, struct, list, large_list, union, GrownSchema, Distinct, names, NoNameTwice, WholeSheet, SheetOfDemand3, Accepts, WroteSheet, MergeOnlyGrows}
use Rattle.model.specs.Examples as sheets
use Rattle.model.proofs.Lists.{and_true}
use Rattle.model.proofs.ByteStrings.{same_bytes_differ}
use Rattle.model.proofs.Steps.{got_inv}
use Rattle.model.proofs.Trials.{opened}
use Rattle.model.proofs.Demand3.{demand3}

-- The conditions as tests, so that computing decides them

all_every : {A : Type 0} (p : A → Bool) (P : A → Type 0) → ((x : A) → p x ≡ true → P x) → (xs : List A) → all p xs ≡ true → Every P xs
unfolding all
all_every p P f [] h = tt
all_every p P f (x ∷ xs) h = let (a, b) = and_true _ _ h in (f x a, all_every p P f xs b)

pub are_bytes : (s : Bytes) → all (λ b. ltb b 256) s ≡ true → AreBytes s
unfolding all
are_bytes [] h zero = omega arith
are_bytes [] h (suc i) = omega arith
are_bytes (b ∷ s) h zero = ltb-true b 256 (and_true (ltb b 256) (all (λ b. ltb b 256) s) h).0
are_bytes (b ∷ s) h (suc i) = are_bytes s (and_true (ltb b 256) (all (λ b. ltb b 256) s) h).1 i

abbrev distinct : List Bytes → Bool
distinct [] = true
distinct (n ∷ ns) = all (λ m. not (same_bytes n m)) ns && distinct ns

abbrev no_name_twice : (l : ℕ) → DataType l → Bool
no_name_twice zero t = false
no_name_twice (suc l) t = (not (eqb t.code Struct) || distinct (names t.children)) && all (λ f. no_name_twice l f.data_type) t.children

distinct_holds : (ns : List Bytes) → distinct ns ≡ true → Distinct ns
distinct_holds [] h = tt
distinct_holds (n ∷ ns) h =
    let (p, q) = and_true _ _ h in
    (all_every (λ m. not (same_bytes n m)) (λ m. n ≡ m → ⊥) (λ m e. same_bytes_differ n m (not-true _ e)) ns p, distinct_holds ns q)

struct_names : (c : ℕ) (ns : List Bytes) → (not (eqb c Struct) || distinct ns) ≡ true → c ≡ Struct → Distinct ns
struct_names c ns h e = distinct_holds ns (subst (λ t. (not t || distinct ns) ≡ true) (eq-eqb c Struct e) h)

no_name_twice_lem : (l : ℕ) (t : DataType l) → no_name_twice l t ≡ true → NoNameTwice l t
no_name_twice_lem zero t h = absurd (false≢true h)
no_name_twice_lem (suc l) t h =
    let (p, q) = and_true (not (eqb t.code Struct) || distinct (names t.children)) _ h in
    (struct_names t.code (names t.children) p, all_every (λ f. no_name_twice l f.data_type) (λ f. NoNameTwice l f.data_type) (λ f e. no_name_twice_lem l f.data_type e) t.children q)

pub whole : (s : Bytes) {x : Schema} → all (λ b. ltb b 256) s ≡ true → read_sheet s ≡ got x (length s) → WholeSheet s
whole s {x} b r = record { bytes = are_bytes s b; schema = x; reads = r }

sheet : (s : Bytes) {x : Schema} → all (λ b. ltb b 256) s ≡ true → read_sheet s ≡ got x (length s) → all (λ f. no_name_twice max_levels f.data_type) x.columns ≡ true → SheetOfDemand3 s
unfolding whole
sheet s {x} b r n =
    record {
      whole = whole s b r;
      no_name_twice = all_every (λ f. no_name_twice max_levels f.data_type) (λ f. NoNameTwice max_levels f.data_type) (λ f e. no_name_twice_lem max_levels f.data_type e) x.columns n;
    }

-- An instance in each mode: n:Null, s:Struct{a:Int8}, l:List(i:Null), g:LargeList(i:Null), u:Union{0 x:Int8}, then
-- n:T, s:Struct{b:Int8}, l:List(i:T), g:LargeList(i:T), u:Union{1 y:Int8}, where T is Int8 or, parked log first, an ordered dictionary.
-- The first n has a dictionary number.

abbrev columns : Bytes → Bytes → Bytes → Bytes → Bytes → Bytes
columns n s l g u = 0x02 ∷ 5 ∷ 0 ∷ n ++ (sheets.field 0x73 s ++ (sheets.field 0x6C l ++ (sheets.field 0x67 g ++ sheets.field 0x75 u)))

abbrev large_list_of : Bytes → Bytes
large_list_of child = 30 ∷ child

abbrev i : ℕ
i = 0x69

abbrev before : Bytes
before =
    columns (sheets.numbered 0x6E 7 sheets.null) (sheets.struct 1 (sheets.field sheets.a sheets.int8)) (sheets.list (sheets.field i sheets.null))
    (large_list_of (sheets.field i sheets.null)) (sheets.union 0 1 (0 ∷ sheets.field sheets.x sheets.int8))

-- a field of T, and what a Null becomes that it is merged into
abbrev typed : Bool → ℕ → Bytes
typed false name = sheets.field name sheets.int8
typed true name = sheets.ordered name sheets.p5

abbrev taken : Bool → ℕ → Bytes
taken false name = sheets.nullable name sheets.int8
taken true name = sheets.nullable_ordered name sheets.p5

-- the first n then, with its own dictionary number
abbrev taken_numbered : Bool → ℕ → Bytes
taken_numbered false name = sheets.nullable_numbered name 7 sheets.int8
taken_numbered true name = sheets.nullable_ordered_numbered name 7 sheets.p5

abbrev after : Bool → Bytes
after parked =
    columns (typed parked 0x6E) (sheets.struct 1 (sheets.field sheets.b sheets.int8)) (sheets.list (typed parked i))
    (large_list_of (typed parked i)) (sheets.union 0 1 (1 ∷ sheets.field sheets.y sheets.int8))

-- what both give: n nullable, a child more in s, the children of l and g nullable, a child more in u
abbrev both : Bool → Bytes
both parked =
    columns (taken_numbered parked 0x6E) (sheets.struct 2 (sheets.field sheets.a sheets.int8 ++ sheets.field sheets.b sheets.int8))
    (sheets.list (taken parked i)) (large_list_of (taken parked i))
    (sheets.union 0 2 ((0 ∷ sheets.field sheets.x sheets.int8) ++ (1 ∷ sheets.field sheets.y sheets.int8)))

pub instance_answers : (parked : Bool) → (merge_answer parked before ≡ bytes before) × (merge_answer parked (before ++ after parked) ≡ bytes (both parked))
unfolding opened
instance_answers false = (refl, refl)
instance_answers true = (refl, refl)

before_sheet : SheetOfDemand3 before
unfolding opened
before_sheet = sheet before refl refl refl

after_sheet : (parked : Bool) → SheetOfDemand3 (after parked)
unfolding opened
after_sheet false = sheet (after false) refl refl refl
after_sheet true = sheet (after true) refl refl refl

abbrev merged : Bool → Bytes → Exit
merged parked train = merge_call parked train (zeros 600) (zeros 100)

accepts : (parked : Bool) → Accepts (merged parked (before ++ (after parked ++ [])))
unfolding opened
accepts false = refl
accepts true = refl

-- the hypotheses are met, and what follows from them holds
pub instance_grows : (parked : Bool)
    → Accepts (merged parked (before ++ [])) × (old : Schema) × (new : Schema)
    × WroteSheet (merged parked (before ++ [])) old × WroteSheet (merged parked (before ++ (after parked ++ []))) new × GrownSchema parked old new
instance_grows parked =
    demand3 parked (before ∷ []) (after parked ∷ []) (before_sheet, tt) (after_sheet parked, tt) (zeros 600) (zeros 600) (zeros 100) (zeros 100) refl refl (accepts parked)

-- Without the condition it is false: s:Struct{a:Int8, a:Int8} alone keeps both children, and twice gives one (READINGS 32).

abbrev twice : Bytes
twice = sheets.one (sheets.field 0x73 (sheets.struct 2 (sheets.field sheets.a sheets.int8 ++ sheets.field sheets.a sheets.int8)))

begins_length : {A : Type 0} {R : A → A → Type 0} {xs ys : List A} → Begins R xs ys → length xs ≤ length ys
begins_length here = omega arith
begins_length (onto p ps) = omega (arith, begins_length ps)

-- a Struct that lost a child has not grown
fewer_children : {T A C : Type 0} {type : DataTypeOver (FieldOver T) → A} {child : FieldOver T → C} {F : FieldOver T → FieldOver T → Type 0} {n : Bool} (a b : DataTypeOver (FieldOver T))
    → a.code ≡ Struct → length b.children < length a.children → (type a ≡ type b → ⊥) → GrownOver type child F n a b → ⊥
fewer_children a b c less differ (identical e) = differ e
fewer_children a b c less differ (was_null p q) = omega (arith, c, p)
fewer_children a b c less differ (struct p q k) = omega (arith, less, begins_length k)
fewer_children a b c less differ (list p q k) = omega (arith, c, p)
fewer_children a b c less differ (large_list p q k) = omega (arith, c, p)
fewer_children a b c less differ (union p q r k) = omega (arith, c, p)

first_column : {R : FieldOver (DataType max_levels) → FieldOver (DataType max_levels) → Type 0} {f g : FieldOver (DataType max_levels)} {fs gs : List (FieldOver (DataType max_levels))}
    → Begins R (f ∷ fs) (g ∷ gs) → R f g
first_column (onto p ps) = p

-- the sheet that two of them give
abbrev folded : Bytes
folded = sheets.one (sheets.field 0x73 (sheets.struct 1 (sheets.field sheets.a sheets.int8)))

child_lost : (parked : Bool) (old new : Schema) → read_sheet twice ≡ got old (length twice) → read_sheet folded ≡ got new (length folded) → GrownSchema parked old new → ⊥
unfolding opened
child_lost parked old new r q g =
    let h = subst₂ (GrownSchema parked) (sym (got_inv r)) (sym (got_inv q)) g in
    fewer_children _ _ refl (omega arith) (λ e. omega (arith, ap length e)) (first_column h.columns).data_type

pub condition_needed : (parked : Bool) → MergeOnlyGrows parked WholeSheet → ⊥
unfolding opened
condition_needed false grows =
    let w : Every WholeSheet (twice ∷ []) = (whole twice refl refl, tt) in
    let (a, old, new, r, q, g) = grows (twice ∷ []) (twice ∷ []) w w (zeros 200) (zeros 200) (zeros 100) (zeros 100) refl refl refl in
    child_lost false old new r q g
condition_needed true grows =
    let w : Every WholeSheet (twice ∷ []) = (whole twice refl refl, tt) in
    let (a, old, new, r, q, g) = grows (twice ∷ []) (twice ∷ []) w w (zeros 200) (zeros 200) (zeros 100) (zeros 100) refl refl refl in
    child_lost true old new r q g

-- The wider rule of the mode is needed: what P5 gives there is not grown by the Rust's, which keeps every order flag.

pub wider_needed : (old new : Schema) → read_sheet (sheets.v sheets.null) ≡ got old 8 → read_sheet (sheets.one (sheets.nullable_ordered 0x76 sheets.p5)) ≡ got new 10
    → GrownSchema as_the_rust old new → ⊥
unfolding opened
wider_needed old new r q g =
    let h = subst₂ (GrownSchema as_the_rust) (sym (got_inv r)) (sym (got_inv q)) g in
    ⊎_elim false≢true false≢true (first_column h.columns).dict_is_ordered
