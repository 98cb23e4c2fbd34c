-- P1 to P12 of document 01, "Bench trials", and document 02's P5 in the mode "Parked log first", as one list; and trials of its dictionary number.
use Rattle.std.specs.Prelude.{ℕ, ◌≡◌, List, [], ◌∷◌, ◌++◌, true, false}
use Rattle.model.specs.Bytes.{Bytes}
use Rattle.model.specs.Tree.{Schema}
use Rattle.model.specs.Read.{Step, got, bad, read_sheet}
use Rattle.model.specs.Merge.{as_the_rust, parked_first}
use Rattle.model.specs.Filter.{leaf_count}
use Rattle.model.specs.Call.{Answer, bytes, refused, merge_answer, project_answer, filter_answer, normalize_answer, contains_answer, equal_answer, equals_datatype_answer}

-- Sheets, piece by piece, as bytes

-- a sheet of one column, of two
abbrev pub one : Bytes → Bytes
one f = 0x02 ∷ 0x01 ∷ 0x00 ∷ f

abbrev pub two : Bytes → Bytes → Bytes
two f g = 0x02 ∷ 0x02 ∷ 0x00 ∷ f ++ g

-- an i64 below 256, and what follows it
abbrev pub i64 : ℕ → Bytes → Bytes
i64 d t = d ∷ 0 ∷ 0 ∷ 0 ∷ 0 ∷ 0 ∷ 0 ∷ 0 ∷ t

-- a field with a name of one byte, not nullable; the same nullable, with the ordered bit, and both
abbrev pub field : ℕ → Bytes → Bytes
field name t = 0x04 ∷ 0x01 ∷ 0x00 ∷ name ∷ t

abbrev pub nullable : ℕ → Bytes → Bytes
nullable name t = 0x05 ∷ 0x01 ∷ 0x00 ∷ name ∷ t

abbrev pub ordered : ℕ → Bytes → Bytes
ordered name t = 0x06 ∷ 0x01 ∷ 0x00 ∷ name ∷ t

abbrev pub nullable_ordered : ℕ → Bytes → Bytes
nullable_ordered name t = 0x07 ∷ 0x01 ∷ 0x00 ∷ name ∷ t

-- a field with a dictionary number below 256; the same nullable, and nullable with the ordered bit
abbrev pub numbered : ℕ → ℕ → Bytes → Bytes
numbered name d t = 0x14 ∷ 0x01 ∷ 0x00 ∷ name ∷ i64 d t

abbrev pub nullable_numbered : ℕ → ℕ → Bytes → Bytes
nullable_numbered name d t = 0x15 ∷ 0x01 ∷ 0x00 ∷ name ∷ i64 d t

abbrev pub nullable_ordered_numbered : ℕ → ℕ → Bytes → Bytes
nullable_ordered_numbered name d t = 0x17 ∷ 0x01 ∷ 0x00 ∷ name ∷ i64 d t

-- `v:T` "is a non-nullable column"
abbrev pub v : Bytes → Bytes
v t = one (field 0x76 t)

abbrev pub null : Bytes
null = 0 ∷ []

abbrev pub int8 : Bytes
int8 = 2 ∷ []

abbrev pub int32 : Bytes
int32 = 4 ∷ []

abbrev pub utf8 : Bytes
utf8 = 24 ∷ []

abbrev pub list : Bytes → Bytes
list child = 27 ∷ child

abbrev pub struct : ℕ → Bytes → Bytes
struct n children = 32 ∷ n ∷ 0 ∷ children

abbrev pub union : ℕ → ℕ → Bytes → Bytes
union mode n children = 33 ∷ mode ∷ n ∷ 0 ∷ children

abbrev pub dictionary : Bytes → Bytes → Bytes
dictionary key value = 34 ∷ key ++ value

abbrev pub a : ℕ
a = 0x61

abbrev pub b : ℕ
b = 0x62

abbrev pub e : ℕ
e = 0x65

abbrev pub s : ℕ
s = 0x73

abbrev pub x : ℕ
x = 0x78

abbrev pub y : ℕ
y = 0x79

-- The trials: what an operation answers to the bytes, and what it should

pub data Trial : Type 0 where
  answers : Answer → Answer → Trial
  counts : ℕ → ℕ → Trial

abbrev pub Holds : Trial → Type 0
Holds (answers given wanted) = given ≡ wanted
Holds (counts given wanted) = given ≡ wanted

infixr 20 ◌and◌
pub data AllHold : List Trial → Type 0 where
  nothing : AllHold []
  ◌and◌ : {t : Trial} {ts : List Trial} → Holds t → AllHold ts → AllHold (t ∷ ts)

-- the leaf count of a sheet that reads
unfoldable pub leaves_of : Step Schema → ℕ
leaves_of (got t p) = leaf_count t
leaves_of (bad n p) = 0

-- P5: Dictionary(Int8, Utf8); and Struct{x:T, y:List(x:T)} around a field x:T
abbrev pub p5 : Bytes
p5 = dictionary int8 utf8

abbrev pub around : Bytes → Bytes
around f = v (struct 2 (f ++ field y (list f)))

-- P6: Union{0 x:Int8, 1 x:Int8}
abbrev pub p6 : Bytes
p6 = v (union 0 2 ((0 ∷ field x int8) ++ (1 ∷ field x int8)))

-- P9: s:Struct{a:Int32, e:Struct{}}
abbrev pub p9 : Bytes
p9 = one (field s (struct 2 (field a int32 ++ field e (struct 0 []))))

-- P11: Dictionary(Int8, Dictionary(Int8, Struct{a:Int8, b:Int8}))
abbrev pub p11 : Bytes
p11 = v (dictionary int8 (dictionary int8 (struct 2 (field a int8 ++ field b int8))))

-- P12: an empty union, and one of the same mode with one child
abbrev pub p12 : Bytes
p12 = v (union 0 0 [])

abbrev pub p12' : Bytes
p12' = v (union 0 1 (0 ∷ field x int8))

abbrev pub trials : List Trial
trials =
    -- P1 empty train: the byte 00
    answers (merge_answer as_the_rust []) (bytes (0x00 ∷ []))
    -- P2 `v:Null` alone: unchanged
    ∷ answers (merge_answer as_the_rust (v null)) (bytes (v null))
    -- P3, to the byte
    ∷ answers
    (merge_answer as_the_rust
    (0x02 ∷ 0x01 ∷ 0x00 ∷ 0x04 ∷ 0x01 ∷ 0x00 ∷ 0x76 ∷ 0x00 ∷ 0x02 ∷ 0x01 ∷ 0x00 ∷ 0x04 ∷ 0x01 ∷ 0x00 ∷ 0x76 ∷ 0x04 ∷ []))
    (bytes (0x02 ∷ 0x01 ∷ 0x00 ∷ 0x05 ∷ 0x01 ∷ 0x00 ∷ 0x76 ∷ 0x04 ∷ []))
    -- P4 `v:Null` twice: nullable Null
    ∷ answers (merge_answer as_the_rust (v null ++ v null)) (bytes (one (nullable 0x76 null)))
    -- P5 `v:Null`, then ordered Dictionary(Int8, Utf8): 20, place 1
    ∷ answers (merge_answer as_the_rust (v null ++ one (ordered 0x76 p5))) (refused 20 1)
    -- "P5 then gives a nullable ordered dictionary"; so it does the other way round, where the flag is there already
    ∷ answers (merge_answer parked_first (v null ++ one (ordered 0x76 p5))) (bytes (one (nullable_ordered 0x76 p5)))
    ∷ answers (merge_answer parked_first (one (ordered 0x76 p5) ++ v null)) (bytes (one (nullable_ordered 0x76 p5)))
    -- "at any depth the merge reaches"
    ∷ answers (merge_answer parked_first (around (field x null) ++ around (ordered x p5))) (bytes (around (nullable_ordered x p5)))
    -- "20 only between two types that are not Null"
    ∷ answers (merge_answer parked_first (v p5 ++ one (ordered 0x76 p5))) (refused 20 1)
    -- P6 Union{0 x:Int8, 1 x:Int8} twice: 23, place 1
    ∷ answers (merge_answer as_the_rust (p6 ++ p6)) (refused 23 1)
    -- P7 sparse {0 x:Int8}, dense {1 y:Int8}: sparse, both children
    ∷ answers (merge_answer as_the_rust (v (union 0 1 (0 ∷ field x int8)) ++ v (union 1 1 (1 ∷ field y int8))))
    (bytes (v (union 0 2 ((0 ∷ field x int8) ++ (1 ∷ field y int8)))))
    -- P8 List(item:Int8), List(element:Int8): child stays item
    ∷ answers
    (merge_answer as_the_rust
    (v (list (0x04 ∷ 4 ∷ 0 ∷ 0x69 ∷ 0x74 ∷ 0x65 ∷ 0x6D ∷ int8))
    ++ v (list (0x04 ∷ 7 ∷ 0 ∷ 0x65 ∷ 0x6C ∷ 0x65 ∷ 0x6D ∷ 0x65 ∷ 0x6E ∷ 0x74 ∷ int8))))
    (bytes (v (list (0x04 ∷ 4 ∷ 0 ∷ 0x69 ∷ 0x74 ∷ 0x65 ∷ 0x6D ∷ int8))))
    -- P9, separator ".": level 0 gives `s.a`
    ∷ answers (normalize_answer p9 (0x2E ∷ []) 0) (bytes (one (0x04 ∷ 3 ∷ 0 ∷ s ∷ 0x2E ∷ a ∷ int32)))
    -- P9, level 1 gives `s.a` and `s.e`
    ∷ answers (normalize_answer p9 (0x2E ∷ []) 1)
    (bytes (two (0x04 ∷ 3 ∷ 0 ∷ s ∷ 0x2E ∷ a ∷ int32) (0x04 ∷ 3 ∷ 0 ∷ s ∷ 0x2E ∷ e ∷ struct 0 [])))
    -- P10 list 0, 0 on one column: two columns; strict: 11, place 1
    ∷ answers (project_answer false (v int8) (0 ∷ 0 ∷ 0 ∷ 0 ∷ [])) (bytes (two (field 0x76 int8) (field 0x76 int8)))
    ∷ answers (project_answer true (v int8) (0 ∷ 0 ∷ 0 ∷ 0 ∷ [])) (refused 11 1)
    -- P11 one leaf, so a mask of one byte fits and no other
    ∷ counts (leaves_of (read_sheet p11)) 1
    ∷ answers (filter_answer p11 (1 ∷ [])) (bytes p11)
    ∷ answers (filter_answer p11 (1 ∷ 1 ∷ [])) (refused 12 0)
    -- P12 an empty union contains a same-mode union of one child, not the reverse
    ∷ answers (contains_answer p12 p12') (bytes (1 ∷ []))
    ∷ answers (contains_answer p12' p12) (bytes (0 ∷ []))
    ∷ []

-- the one statement
abbrev pub P1toP12 : Type 0
P1toP12 = AllHold trials

-- Document 02, Item 13

-- after the metadata {a: b}
abbrev pub described : Bytes
described = one (0x1C ∷ 0x01 ∷ 0x00 ∷ 0x76 ∷ 0x01 ∷ 0x00 ∷ 0x01 ∷ 0x00 ∷ a ∷ 0x01 ∷ 0x00 ∷ b ∷ i64 7 int8)

-- inside a type
abbrev pub inside : Bytes
inside = list (numbered x 8 int8)

abbrev pub dict_id_trials : List Trial
dict_id_trials =
    -- "Field map bit 4 now stands for an i64 other than 0, after the metadata"; "2 for a stored 0"; bit 5 stands for nothing
    answers (merge_answer as_the_rust described) (bytes described)
    ∷ answers (merge_answer as_the_rust (one (numbered 0x76 0 int8))) (refused 2 7)
    ∷ answers (merge_answer as_the_rust (one (0x20 ∷ int8))) (refused 2 3)
    -- "merging keeps the first column's, even for a Null that takes a type"; those inside the type come with it
    ∷ answers (merge_answer as_the_rust (one (numbered 0x76 7 null) ++ one (numbered 0x76 9 inside))) (bytes (one (nullable_numbered 0x76 7 inside)))
    ∷ answers (merge_answer as_the_rust (one (numbered 0x76 7 inside) ++ v (list (numbered x 9 int8)))) (bytes (one (numbered 0x76 7 inside)))
    ∷ answers (merge_answer as_the_rust (v int8 ++ one (numbered 0x76 9 int8))) (bytes (v int8))
    -- parked log first, the order flag comes with the type, the dictionary number stays
    ∷ answers (merge_answer parked_first (one (numbered 0x76 7 null) ++ one (nullable_ordered_numbered 0x76 9 p5))) (bytes (one (nullable_ordered_numbered 0x76 7 p5)))
    -- "equality and containment ignore it", so a union child is matched to an equal one
    ∷ answers (merge_answer as_the_rust (v (union 0 1 (0 ∷ numbered x 7 int8)) ++ v (union 0 1 (0 ∷ field x int8)))) (bytes (v (union 0 1 (0 ∷ numbered x 7 int8))))
    ∷ answers (equal_answer (one (numbered 0x76 7 inside)) (v (list (field x int8)))) (bytes (1 ∷ []))
    ∷ answers (equals_datatype_answer (one (numbered 0x76 7 inside)) (v (list (field x int8)))) (bytes (1 ∷ []))
    ∷ answers (contains_answer (one (numbered 0x76 7 inside)) (v (list (field x int8)))) (bytes (1 ∷ []))
    -- "normalising drops a written column's own", expanded or not, and keeps those inside its type
    ∷ answers (normalize_answer (one (numbered s 7 (struct 1 (numbered a 9 inside)))) (0x2E ∷ []) 0) (bytes (one (0x04 ∷ 3 ∷ 0 ∷ s ∷ 0x2E ∷ a ∷ inside)))
    ∷ answers (normalize_answer (one (numbered 0x76 7 int8)) (0x2E ∷ []) 0) (bytes (v int8))
    -- projecting and filtering keep it, the filter on a field that it builds anew too
    ∷ answers (project_answer false (one (numbered 0x76 7 inside)) (0 ∷ 0 ∷ [])) (bytes (one (numbered 0x76 7 inside)))
    ∷ answers (filter_answer (one (numbered s 7 (struct 2 (field b int8 ++ numbered a 9 int8)))) (0 ∷ 1 ∷ [])) (bytes (one (numbered s 7 (struct 1 (numbered a 9 int8)))))
    ∷ []
