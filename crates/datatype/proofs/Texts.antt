-- Stretches of bytes, texts, names and metadata, where they stand.
use Prim.Native.Nat.{ℕ, ◌+◌, ◌-◌, ◌<◌, ◌≤◌}
use native.Mathlib.Omega.{arith}
use mathlib.Core.Path.{◌≡◌, refl, sym, ap, subst, ◌∙◌}
use mathlib.Core.List.{[], ◌∷◌, ◌++◌, append_assoc}
use mathlib.Core.Bool.{Bool, true, false, not, ◌&&◌, false≢true}
use lib.ListN.{length, take, drop, get_or, length-append, take-append-drop}
use lib.Dec.{eqb}
use lib.Seq.{take-append_seam}
use borrow.Author.Tests.{eq-eqb, eqb-true}
use Rattle.model.specs.Bytes.{Bytes, Metadata, choose, all, same, same_bytes, get_is, bit, u16}
use Rattle.model.specs.Tree.{Head, Schema}
use Rattle.model.specs.Sheet.{head_map, front_bytes, each, part, stands, with_count, text_bytes, pair_bytes, head_bytes, sheet_bytes}
use Rattle.model.specs.Datatype.{contains_metadata}
use Rattle.model.proofs.ByteStrings.{same_bytes_eq, same_bytes_refl}
use Rattle.model.proofs.SameBytes.{by_truth, not_true, name_split}
use Rattle.model.proofs.Lists.{every_unit}
use Rattle.model.proofs.MapBits.{name_set, metadata_set}
use Rattle.walk.specs.Stands.{Stands, Skips, SkipsName}
use Rattle.walk.proofs.Standing.{first_stands, byte_stands, stands_behind, taken, skip_ahead, skip_join, skip_self}
use Rattle.walk.proofs.Parts.{Ahead, two_at, front_stands, map_stands, sheet_metadata_set}
use Rattle.walk.proofs.Descents.{count_stands, elements_stand}
use Rattle.datatype.specs.Comparisons.{PairsAt}
use Rattle.datatype.proofs.Encodings.{rest_of}
use Rattle.datatype.proofs.Seeks.{Seeks, seeks_begin, seeks_again, seeks_stop, seeks_done}

-- what `same_stretch` ensures
abbrev pub Stretches : Bytes → ℕ → ℕ → Bytes → ℕ → ℕ → Bool → Type 0
Stretches s a e t b f r = (x y : Bytes) → Stands s a x → Stands t b y → e ≡ a + length x → f ≡ b + length y → r ≡ same_bytes x y

-- where some bytes stand before others, those others reach from behind the first to the end of both
pub behind_first : {s : Bytes} {place first r : ℕ} (a b : Bytes) → Skips s place a first → Skips s place (a ++ b) r → Stands s place (a ++ b) → r ≡ first + length b
behind_first a b p q st = q.behind st ∙ sym ((skip_join p skip_self).behind st)

-- Texts

-- what `same_text` ensures
abbrev pub Texts : Bytes → ℕ → Bytes → ℕ → Bool → Type 0
Texts s a t b r = (x y : Bytes) → Stands s a (text_bytes x) → Stands t b (text_bytes y) → r ≡ same_bytes x y

-- what `skip_text` ensures
abbrev Text' : Bytes → ℕ → ℕ → Type 0
Text' s a e = (x : Bytes) → Skips s a (text_bytes x) e

pub texts_bodies : {s t : Bytes} {a b from since e f : ℕ} {r : Bool} → Ahead s a 2 from → Ahead t b 2 since → Text' s a e → Text' t b f → Stretches s from e t since f r
    → Texts s a t b r
unfolding text_bytes u16
texts_bodies u v p q g x y st st' =
    let m = skip_ahead (u16 (length x)) refl u.1 in
    let n = skip_ahead (u16 (length y)) refl v.1 in
    g x y (stands_behind m st) (stands_behind n st') (behind_first _ x m (p x) st) (behind_first _ y n (q y) st')

-- Names

-- what the comparison of two heads ensures
abbrev pub Heads : (Head → Head → Bool) → Bytes → ℕ → Bytes → ℕ → Bool → Type 0
Heads test s a t b r = (h g : Head) → Stands s a (head_bytes h) → Stands t b (head_bytes g) → r ≡ test h g

abbrev pub same_name : Head → Head → Bool
same_name h g = same_bytes h.name g.name

-- what stands behind the map
pub rest_stands : {s : Bytes} {a m : ℕ} → Ahead s a 1 m → (h : Head) → Stands s a (head_bytes h) → Stands s m (rest_of h)
unfolding front_bytes
rest_stands u h st = stands_behind (skip_ahead (head_map h ∷ []) refl u.1) (front_stands h st)

-- the bit of the name
name_bit_is : {s : Bytes} {a map : ℕ} {n : Bool} → map ≡ get_or s a 0 → n ≡ bit 2 map → (h : Head) → Stands s a (head_bytes h) → n ≡ stands h.name
unfolding bit
name_bit_is e i h st = i ∙ ap (bit 2) (map_stands e h st) ∙ name_set h

module _ {s t : Bytes} {a b map other : ℕ} {n m : Bool} (e : map ≡ get_or s a 0) (i : n ≡ bit 2 map) (f : other ≡ get_or t b 0) (j : m ≡ bit 2 other) where
  pub names_bits : (n ≡ m → ⊥) → Heads same_name s a t b false
  names_bits d h g st st' = not_true _ λ k. d (name_bit_is e i h st ∙ ap stands (same_bytes_eq h.name g.name k) ∙ sym (name_bit_is f j g st'))

  module _ (q : n ≡ m) where
    pub names_none : n ≡ false → Heads same_name s a t b true
    unfolding same
    names_none z h g st st' = go h.name g.name (sym (name_bit_is e i h st) ∙ z) (sym (name_bit_is f j g st') ∙ sym q ∙ z)
      where
        go : (x y : Bytes) → stands x ≡ false → stands y ≡ false → true ≡ same_bytes x y
        go [] [] k l = refl
        go [] (d ∷ y) k l = absurd (false≢true (sym l))
        go (c ∷ x) y k l = absurd (false≢true (sym k))

    pub names_texts : {p o : ℕ} {r : Bool} → n ≡ true → Ahead s a 1 p → Ahead t b 1 o → Texts s p t o r → Heads same_name s a t b r
    names_texts {p} {o} {r} z u v c h g st st' = go h.name g.name (sym (name_bit_is e i h st) ∙ z) (sym (name_bit_is f j g st') ∙ sym q ∙ z) (rest_stands u h st) (rest_stands v g st')
      where
        go : (x y : Bytes) → stands x ≡ true → stands y ≡ true
            → Stands s p (part text_bytes x ++ part (with_count pair_bytes) h.metadata) → Stands t o (part text_bytes y ++ part (with_count pair_bytes) g.metadata) → r ≡ same_bytes x y
        go [] y k l w w' = absurd (false≢true k)
        go (d ∷ x) [] k l w w' = absurd (false≢true l)
        go (d ∷ x) (k ∷ y) m n w w' = c (d ∷ x) (k ∷ y) (first_stands (text_bytes (d ∷ x)) _ w) (first_stands (text_bytes (k ∷ y)) _ w')

-- Metadata under a bit

-- what `counted_if` of walk gives of pairs
abbrev PairsIf : Bytes → ℕ → Bool → ℕ → ℕ → Type 0
PairsIf s place set n first = (m : Metadata) → stands m ≡ set → Stands s place (part (with_count pair_bytes) m) → PairsAt s m n first

module _ {s : Bytes} {place : ℕ} where
  pub pairs_found : {set : Bool} {n first : ℕ} → (set ≡ true → (n ≡ two_at s place) × Ahead s place 2 first) → (set ≡ false → (n ≡ 0) × (first ≡ place)) → PairsIf s place set n first
  pairs_found some none [] h st = let (c, e) = none (sym h) in record { count = sym c; stands = subst (λ p. Stands s p []) (sym e) st }
  pairs_found some none (p ∷ m) h st = let (c, u) = some (sym h) in record { count = sym (c ∙ count_stands pair_bytes (p ∷ m) st); stands = elements_stand pair_bytes (p ∷ m) u st }

-- A name with its length, as a head has it

module _ {s : Bytes} {a end : ℕ} (n : SkipsName s a end) where
  -- the name lies inside, between the two places
  pub name_taken : {from : ℕ} → Ahead s a 1 from → (h : Head) → Stands s a (head_bytes h) → (from ≤ end) × (end ≤ length s) × (take (end - from) (drop from s) ≡ part text_bytes h.name)
  unfolding front_bytes
  name_taken {from} u h st =
      let w = first_stands (part text_bytes h.name) _ (rest_stands u h st) in
      let front = front_stands h st in
      let k = (n h front).behind (first_stands (head_map h ∷ part text_bytes h.name) (part (with_count pair_bytes) h.metadata) front) in
      let j : end ≡ from + length (part text_bytes h.name) = omega (arith, k, u.1 (omega (arith, front.inside))) in
      (omega (arith, j), omega (arith, j, w.inside), taken w j)

  -- the metadata stands behind it
  pub head_pairs : {map : ℕ} {m : Bool} {count at : ℕ} → map ≡ get_or s a 0 → m ≡ bit 3 map → PairsIf s end m count at → (h : Head) → Stands s a (head_bytes h) → PairsAt s h.metadata count at
  unfolding front_bytes bit
  head_pairs e j q h st =
      let front = front_stands h st in
      q h.metadata (sym (j ∙ ap (bit 3) (map_stands e h st) ∙ metadata_set h)) (stands_behind (n h front) front)

-- what `has_name` ensures
abbrev pub HasName : Bytes → ℕ → Bytes → Bool → Type 0
HasName s a name r = (h : Head) (n : Bytes) → Stands s a (head_bytes h) → name ≡ part text_bytes n → r ≡ same_bytes h.name n

some_name : (name : Bytes) → false ≡ eqb (length name) 0 → length name ≡ 0 → ⊥
some_name name k z = false≢true (k ∙ eq-eqb (length name) 0 z)

both_named : (name : Bytes) → (length name ≡ 0 → ⊥) → (x n : Bytes) → stands x ≡ true → name ≡ part text_bytes n → stands x ≡ stands n
both_named name k x [] b i = absurd (k (ap length i))
both_named name k x (d ∷ n) b i = b

module _ {s : Bytes} {a map : ℕ} {name : Bytes} {named : Bool} (e : map ≡ get_or s a 0) (b : named ≡ bit 2 map) where
  pub name_empty : true ≡ eqb (length name) 0 → HasName s a name (not named)
  unfolding same text_bytes u16
  name_empty z h n st i = go h.name n (name_bit_is e b h st) (ap length i)
    where
      go : (x n : Bytes) → named ≡ stands x → length name ≡ length (part text_bytes n) → not named ≡ same_bytes x n
      go x (d ∷ n) b i = absurd (omega (arith, eqb-true (length name) 0 (sym z), i))
      go [] [] b i = ap not b
      go (c ∷ x) [] b i = ap not b

  module _ (k : false ≡ eqb (length name) 0) where
    pub name_missing : named ≡ false → HasName s a name false
    unfolding same
    name_missing z h n st i = go h.name n (sym (name_bit_is e b h st) ∙ z) i
      where
        go : (x n : Bytes) → stands x ≡ false → name ≡ part text_bytes n → false ≡ same_bytes x n
        go [] [] b i = absurd (some_name name k (ap length i))
        go [] (d ∷ n) b i = refl
        go (c ∷ x) n b i = absurd (false≢true (sym b))

    module _ {from : ℕ} (u : Ahead s a 1 from) (z : named ≡ true) where
      -- there is no room for the name
      pub name_long : length s < from + length name → HasName s a name false
      name_long l h n st i =
          let rest = rest_stands u h st in
          not_true _ λ j. omega (
            arith,
            l,
            rest.inside,
            ap length i,
            ap (λ z. length (part text_bytes z)) (same_bytes_eq h.name n j),
            length-append (part text_bytes h.name) (part (with_count pair_bytes) h.metadata),
          )

      -- the name and what follows it begin with the other name just if the two are equal
      pub name_compared : {own : Bytes} {r : Bool} → r ≡ same_bytes own name → own ≡ take (length name) (drop from s) → HasName s a name r
      name_compared {own} v o h n st i = v ∙ by_truth (same_bytes own name) (same_bytes h.name n) there back
        where
          rest : Stands s from (rest_of h)
          rest = rest_stands u h st

          there : same_bytes own name ≡ true → same_bytes h.name n ≡ true
          there q =
              let split = name_split h.name n _ (drop (length name) (drop from s)) (both_named name (some_name name k) h.name n (sym (name_bit_is e b h st) ∙ z) i)
              (sym (append_assoc (part text_bytes h.name) _ _) ∙ sym rest.bytes ∙ sym (take-append-drop (length name) (drop from s))
              ∙ ap (λ z. z ++ drop (length name) (drop from s)) (sym o ∙ same_bytes_eq own name q ∙ i)) in
              ap (λ z. same_bytes z n) split.0 ∙ same_bytes_refl n

          back : same_bytes h.name n ≡ true → same_bytes own name ≡ true
          back q =
              let p : name ≡ part text_bytes h.name = i ∙ ap (part text_bytes) (sym (same_bytes_eq h.name n q)) in
              let w = first_stands (part text_bytes h.name) _ rest in
              let t = ap (λ z. take (length z) (drop from s)) p ∙ ap (take (length (part text_bytes h.name))) w.bytes ∙ take-append_seam (part text_bytes h.name) _ in
              ap (λ z. same_bytes z name) (o ∙ t ∙ sym p) ∙ same_bytes_refl name

-- The metadata of a sheet

pub sheet_pairs : {s : Bytes} {place map first n at : ℕ} {m : Bool} → map ≡ get_or s place 0 → Ahead s place 1 first → m ≡ bit 0 map → PairsIf s first m n at
    → (x : Schema) → Stands s place (sheet_bytes x) → PairsAt s x.metadata n at
unfolding sheet_bytes
sheet_pairs e u i q x st =
    q x.metadata (sym (i ∙ ap (bit 0) (e ∙ byte_stands st) ∙ sheet_metadata_set (stands x.metadata) (stands x.columns)))
    (first_stands (part (with_count pair_bytes) x.metadata) _ (stands_behind (skip_ahead (_ ∷ []) refl u.1) st))

-- Look-up by key

-- a pair of which nothing is asked
abbrev pub Any : Bytes × Bytes → Type 0
Any p = Unit {0}

-- a key and its value are two texts
pub pair_skips : {s : Bytes} {place value r : ℕ} → Text' s place value → Text' s value r → (p : Bytes × Bytes) → Skips s place (pair_bytes p) r
unfolding pair_bytes
pair_skips f g p = skip_join (f p.0) (g p.1)

key_stands : {s : Bytes} {place : ℕ} (p : Bytes × Bytes) → Stands s place (pair_bytes p) → Stands s place (text_bytes p.0)
unfolding pair_bytes
key_stands p st = first_stands (text_bytes p.0) (text_bytes p.1) st

value_stands : {s : Bytes} {place value : ℕ} (p : Bytes × Bytes) → Text' s place value → Stands s place (pair_bytes p) → Stands s value (text_bytes p.1)
unfolding pair_bytes
value_stands p f st = stands_behind (f p.0) st

-- the pairs of which a key with a value is asked: those behind the i passed decide
abbrev pub Gets : (s t : Bytes) (key first count place i : ℕ) → Type 0
Gets s t key first count place i = (p : Bytes × Bytes) → Stands t key (pair_bytes p)
    → Seeks Any pair_bytes s (λ m. get_is m p.0 p.1) (λ m. get_is m p.0 p.1) first count place i

-- what `get_is` ensures
abbrev pub Got : (s t : Bytes) (key first count : ℕ) → Bool → Type 0
Got s t key first count r = (p : Bytes × Bytes) (m : Metadata) → length m ≡ count → Stands t key (pair_bytes p) → Stands s first (each pair_bytes m) → r ≡ get_is m p.0 p.1

module _ (s t : Bytes) where
  pub gets_begin : (key first count : ℕ) → Gets s t key first count first 0
  gets_begin key first count p st = seeks_begin Any pair_bytes s _ first count

  module _ {key first count place i : ℕ} (k : Gets s t key first count place i) where
    pub gets_again : {own r : ℕ} {b : Bool} → i < count → Texts s place t key b → b ≡ false → Text' s place own → Text' s own r → Gets s t key first count r (i + 1)
    unfolding get_is choose
    gets_again h c e f g p st =
        seeks_again Any pair_bytes s (k p st) h (λ q w. pair_skips f g q) λ q m w st'.
        ap (λ x. choose x (λ u. same_bytes q.1 p.1) (λ u. get_is m p.0 p.1)) (sym (c q.0 p.0 (key_stands q st') (key_stands p st)) ∙ e)

    pub gets_found : {own value : ℕ} {b r : Bool} → i < count → Texts s place t key b → b ≡ true → Text' s place own → Text' t key value → Texts s own t value r → Got s t key first count r
    unfolding get_is choose
    gets_found h c e f g d p m n st st' =
        seeks_stop Any pair_bytes s (k p st) h
        (λ q ps w u.
        d q.1 p.1 (value_stands q f u) (value_stands p g st)
        ∙ sym (ap (λ x. choose x (λ u. same_bytes q.1 p.1) (λ u. get_is ps p.0 p.1)) (sym (c q.0 p.0 (key_stands q u) (key_stands p st)) ∙ e)))
        m n (every_unit m) st'

    pub gets_none : count ≤ i → Got s t key first count false
    unfolding get_is
    gets_none h p m n st st' = seeks_done Any pair_bytes s (k p st) h refl m n (every_unit m) st'

-- Metadata that contains other metadata

-- the pairs asked behind the i passed decide, whatever metadata stands in the first sheet
abbrev pub Asks : (s : Bytes) (count at : ℕ) (t : Bytes) (first asked place i : ℕ) → Type 0
Asks s count at t first asked place i = (m : Metadata) → PairsAt s m count at → Seeks Any pair_bytes t (contains_metadata m) (contains_metadata m) first asked place i

-- what `contains_metadata` ensures
abbrev pub Contained : (s : Bytes) (count at : ℕ) (t : Bytes) (asked first : ℕ) → Bool → Type 0
Contained s count at t asked first r = (m other : Metadata) → PairsAt s m count at → PairsAt t other asked first → r ≡ contains_metadata m other

module _ (s t : Bytes) where
  pub asks_begin : (count at first asked : ℕ) → Asks s count at t first asked first 0
  asks_begin count at first asked m w = seeks_begin Any pair_bytes t _ first asked

  module _ {count at first asked place i : ℕ} (k : Asks s count at t first asked place i) (h : i < asked) {b : Bool} (c : Got s t place at count b) where
    pub asks_again : {r : ℕ} → b ≡ true → ((p : Bytes × Bytes) → Skips t place (pair_bytes p) r) → Asks s count at t first asked r (i + 1)
    unfolding contains_metadata all
    asks_again e f m w =
        seeks_again Any pair_bytes t (k m w) h (λ q v. f q) λ q qs v st.
        ap (λ x. x && contains_metadata m qs) (sym (c q m w.count st w.stands) ∙ e)

    pub asks_stop : b ≡ false → Contained s count at t asked first false
    unfolding contains_metadata all
    asks_stop e m other w w' =
        seeks_stop Any pair_bytes t (k m w) h (λ q qs v st. ap (λ x. x && contains_metadata m qs) (sym e ∙ c q m w.count st w.stands))
        other w'.count (every_unit other) w'.stands

  pub asks_done : {count at first asked place i : ℕ} → Asks s count at t first asked place i → asked ≤ i → Contained s count at t asked first true
  unfolding contains_metadata all
  asks_done k h m other w w' = seeks_done Any pair_bytes t (k m w) h refl other w'.count (every_unit other) w'.stands
