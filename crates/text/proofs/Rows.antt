-- The rows of RFC 3629 spell what std calls UTF-8: bytes are text by the rows just if they are those of some characters.
use Prim.Native.Nat.{ℕ, zero, suc, ◌+◌, ◌*◌, ◌/◌, ◌-◌, ◌≤◌, ◌<◌}
use Prim.{Dec, yes, no}
use native.Mathlib.Omega.{arith}
use native.Mathlib.Decide.{dec_lt}
use mathlib.Core.Path.{◌≡◌, refl, sym, ap, ◌∙◌}
use mathlib.Core.Logic.{◌⊎◌, inl, inr}
use mathlib.Core.List.{List, [], ◌∷◌, ◌++◌}
use mathlib.Core.Bool.{Bool, true, false, cond, false≢true}
use lib.ListN.{length}
use lib.Dec.{leb}
use lib.Utf8.{scalar, scalars, next, encode, encodes, scalar_cases, low_scalar}
use borrow.Author.Tests.{le-leb, leb-true, lt-ltb, le-ltb}
use Rattle.std.specs.Str.{IsUtf8}
use Rattle.std.proofs.lemmas.Str.{encode_ascii}
use Rattle.model.specs.Bytes.{Bytes, Every, same}
use Rattle.model.specs.Text.{Range, inside, tail, none, rows, row_of, utf8, utf8_from}
use Rattle.model.proofs.Lists.{and_true as both_true}
use Rattle.text.proofs.Utf8.{stretch, ascii_row}

-- The bytes of a character

two : (c : ℕ) → 128 ≤ c → c < 2048 → encode c ≡ (192 + c / 64) ∷ next c ∷ []
unfolding encode
two c h k = rw (le-ltb c 128 h, lt-ltb c 2048 k)

three : (c : ℕ) → 2048 ≤ c → c < 65536 → encode c ≡ (224 + c / 4096) ∷ next (c / 64) ∷ next c ∷ []
unfolding encode
three c h k = rw (le-ltb c 128 (omega arith), le-ltb c 2048 h, lt-ltb c 65536 k)

four : (c : ℕ) → 65536 ≤ c → encode c ≡ (240 + c / 262144) ∷ next (c / 4096) ∷ next (c / 64) ∷ next c ∷ []
unfolding encode
four c h = rw (le-ltb c 128 (omega arith), le-ltb c 2048 (omega arith), le-ltb c 65536 h)

high_scalar : (c : ℕ) → 57344 ≤ c → c < 1114112 → scalar c ≡ true
high_scalar c h k = rw (le-ltb c 55296 (omega arith), le-leb 57344 c h, lt-ltb c 1114112 k)

-- From characters to rows

begun : (b : ℕ) (rs : List Range) (bs : Bytes) → rs ≡ row_of b rows → utf8_from [] (b ∷ bs) ≡ utf8_from rs bs
unfolding utf8_from
begun b rs bs e = ap (λ rs. utf8_from rs bs) (sym e)

met : (b : ℕ) (r : Range) (rs : List Range) (bs : Bytes) → r.0 ≤ b → b ≤ r.1 → utf8_from (r ∷ rs) (b ∷ bs) ≡ utf8_from rs bs
unfolding utf8_from
met b r rs bs h k = rw (le-leb r.0 b h, le-leb b r.1 k)

text_one : (c : ℕ) (bs : Bytes) → c < 128 → utf8_from [] (encode c ++ bs) ≡ utf8_from [] bs
text_one c bs h = ap (λ l. utf8_from [] (l ++ bs)) (encode_ascii c h) ∙ begun c [] bs (ascii_row c h)

text_two : (c : ℕ) (bs : Bytes) → 128 ≤ c → c < 2048 → utf8_from [] (encode c ++ bs) ≡ utf8_from [] bs
unfolding rows row_of same
text_two c bs h k =
    ap (λ l. utf8_from [] (l ++ bs)) (two c h k)
    ∙ begun (192 + c / 64) (tail ∷ []) (next c ∷ bs) (stretch (tail ∷ []) 0xC2 0xDF tt (192 + c / 64) (omega arith) (omega arith))
    ∙ met (next c) tail [] bs (omega arith) (omega arith)

text_three : (c : ℕ) (bs : Bytes) → 2048 ≤ c → c < 65536 → scalar c ≡ true → utf8_from [] (encode c ++ bs) ≡ utf8_from [] bs
unfolding rows row_of same
text_three c bs h k s = ap (λ l. utf8_from [] (l ++ bs)) (three c h k) ∙ go (dec_lt c 0x1000) (dec_lt c 0xD000) (dec_lt c 0xE000) (scalar_cases c s)
  where
    by_row : (r : Range) → r.0 ≤ next (c / 64) → next (c / 64) ≤ r.1 → r ∷ tail ∷ [] ≡ row_of (224 + c / 4096) rows
        → utf8_from [] ((224 + c / 4096) ∷ next (c / 64) ∷ next c ∷ bs) ≡ utf8_from [] bs
    by_row r l m e = begun (224 + c / 4096) (r ∷ tail ∷ []) _ e ∙ met (next (c / 64)) r (tail ∷ []) _ l m ∙ met (next c) tail [] bs (omega arith) (omega arith)

    go : Dec (c < 0x1000) → Dec (c < 0xD000) → Dec (c < 0xE000) → (c < 55296) ⊎ ((57344 ≤ c) × (c < 1114112))
        → utf8_from [] ((224 + c / 4096) ∷ next (c / 64) ∷ next c ∷ bs) ≡ utf8_from [] bs
    go (yes p) _ _ _ = by_row (0xA0, 0xBF) (omega arith) (omega arith) (stretch _ 0xE0 0xE0 tt (224 + c / 4096) (omega arith) (omega arith))
    go (no p) (yes q) _ _ = by_row tail (omega arith) (omega arith) (stretch _ 0xE1 0xEC tt (224 + c / 4096) (omega arith) (omega arith))
    go (no p) (no q) (yes r) (inl t) = by_row (0x80, 0x9F) (omega arith) (omega arith) (stretch _ 0xED 0xED tt (224 + c / 4096) (omega arith) (omega arith))
    go (no p) (no q) (yes r) (inr t) = absurd (omega arith)
    go (no p) (no q) (no r) _ = by_row tail (omega arith) (omega arith) (stretch _ 0xEE 0xEF tt (224 + c / 4096) (omega arith) (omega arith))

text_four : (c : ℕ) (bs : Bytes) → 65536 ≤ c → c < 1114112 → utf8_from [] (encode c ++ bs) ≡ utf8_from [] bs
unfolding rows row_of same
text_four c bs h k = ap (λ l. utf8_from [] (l ++ bs)) (four c h) ∙ go (dec_lt c 0x40000) (dec_lt c 0x100000)
  where
    by_row : (r : Range) → r.0 ≤ next (c / 4096) → next (c / 4096) ≤ r.1 → r ∷ tail ∷ tail ∷ [] ≡ row_of (240 + c / 262144) rows
        → utf8_from [] ((240 + c / 262144) ∷ next (c / 4096) ∷ next (c / 64) ∷ next c ∷ bs) ≡ utf8_from [] bs
    by_row r l m e =
        begun (240 + c / 262144) (r ∷ tail ∷ tail ∷ []) _ e
        ∙ met (next (c / 4096)) r (tail ∷ tail ∷ []) _ l m
        ∙ met (next (c / 64)) tail (tail ∷ []) _ (omega arith) (omega arith)
        ∙ met (next c) tail [] bs (omega arith) (omega arith)

    go : Dec (c < 0x40000) → Dec (c < 0x100000) → utf8_from [] ((240 + c / 262144) ∷ next (c / 4096) ∷ next (c / 64) ∷ next c ∷ bs) ≡ utf8_from [] bs
    go (yes p) _ = by_row (0x90, 0xBF) (omega arith) (omega arith) (stretch _ 0xF0 0xF0 tt (240 + c / 262144) (omega arith) (omega arith))
    go (no p) (yes q) = by_row tail (omega arith) (omega arith) (stretch _ 0xF1 0xF3 tt (240 + c / 262144) (omega arith) (omega arith))
    go (no p) (no q) = by_row (0x80, 0x8F) (omega arith) (omega arith) (stretch _ 0xF4 0xF4 tt (240 + c / 262144) (omega arith) (omega arith))

char_text : (c : ℕ) (bs : Bytes) → scalar c ≡ true → utf8_from [] (encode c ++ bs) ≡ utf8_from [] bs
char_text c bs s = go (dec_lt c 128) (dec_lt c 2048) (dec_lt c 65536) (scalar_cases c s)
  where
    go : Dec (c < 128) → Dec (c < 2048) → Dec (c < 65536) → (c < 55296) ⊎ ((57344 ≤ c) × (c < 1114112)) → utf8_from [] (encode c ++ bs) ≡ utf8_from [] bs
    go (yes p) _ _ _ = text_one c bs p
    go (no p) (yes q) _ _ = text_two c bs (omega arith) q
    go (no p) (no q) (yes r) _ = text_three c bs (omega arith) r s
    go (no p) (no q) (no r) (inl t) = absurd (omega arith)
    go (no p) (no q) (no r) (inr t) = text_four c bs (omega arith) t.1

chars_text : (cs : List ℕ) → scalars cs ≡ true → utf8_from [] (encodes cs) ≡ true
unfolding utf8_from
chars_text [] s = refl
chars_text (c ∷ cs) s = let (p, q) = both_true (scalar c) (scalars cs) s in char_text c (encodes cs) p ∙ chars_text cs q

pub text_utf8 : (bs : Bytes) → IsUtf8 bs → utf8 bs ≡ true
unfolding utf8
text_utf8 bs (cs, (s, e)) = ap (utf8_from []) (sym e) ∙ chars_text cs s

-- From rows to characters

-- a character, and text behind it
pub record Begins (bs : Bytes) : Type 0 where
  pub char : ℕ
  pub rest : Bytes
  pub is_scalar : scalar char ≡ true
  pub parts : encode char ++ rest ≡ bs
  pub shorter : length rest < length bs
  pub text : utf8_from [] rest ≡ true

-- what a row says of the bytes that go by it
abbrev Row : Range × List Range → Type 0
Row r = (b : ℕ) (bs : Bytes) → inside b r.0 ≡ true → utf8_from r.1 bs ≡ true → Begins (b ∷ bs)

in_range : (b : ℕ) (r : Range) → inside b r ≡ true → (r.0 ≤ b) × (b ≤ r.1)
in_range b r h = let (p, q) = both_true (leb r.0 b) (leb b r.1) h in (leb-true r.0 b p, leb-true b r.1 q)

-- one more byte in its range
next_byte : (r : Range) (rs : List Range) (bs : Bytes) → utf8_from (r ∷ rs) bs ≡ true
    → (b : ℕ) × (rest : Bytes) × (bs ≡ b ∷ rest) × (r.0 ≤ b) × (b ≤ r.1) × (utf8_from rs rest ≡ true)
unfolding utf8_from
next_byte r rs [] h = absurd (false≢true h)
next_byte r rs (b ∷ bs) h =
    let (p, q) = both_true (inside b r) (utf8_from rs bs) h in
    let (l, m) = in_range b r p in
    (b, bs, refl, l, m, q)

row_one : Row ((0x00, 0x7F), [])
row_one b bs h t =
    let (l, m) = in_range b (0x00, 0x7F) h in
    record { char = b; rest = bs; is_scalar = low_scalar b (omega arith); parts = ap (λ l. l ++ bs) (encode_ascii b (omega arith)); shorter = omega arith; text = t }

row_two : Row ((0xC2, 0xDF), tail ∷ [])
row_two b bs h t =
    let (l, m) = in_range b (0xC2, 0xDF) h in
    let (x, rest, e, xl, xm, u) = next_byte tail [] bs t in
    let c = (b - 192) * 64 + (x - 128) in
    let p : 192 + c / 64 ≡ b = omega arith in
    let q : next c ≡ x = omega arith in
    record {
      char = c;
      rest = rest;
      is_scalar = low_scalar c (omega arith);
      parts = ap (λ l. l ++ rest) (two c (omega arith) (omega arith)) ∙ cc;
      shorter = omega (arith, ap length e);
      text = u;
    }

-- a first byte and a second that give the upper bits of one of three bytes
module _ (l h m n : ℕ) (few : (b x : ℕ) → l ≤ b → b ≤ h → m ≤ x → x ≤ n
    → (0xE0 ≤ b) × (b ≤ 0xEF) × (0x80 ≤ x) × (x ≤ 0xBF) × (0x20 ≤ (b - 0xE0) * 64 + (x - 0x80)) × (((b - 0xE0) * 64 + (x - 0x80) < 0x360) ⊎ (0x380 ≤ (b - 0xE0) * 64 + (x - 0x80)))) where
  row_three : Row ((l, h), (m, n) ∷ tail ∷ [])
  row_three b bs i t =
      let (bl, bm) = in_range b (l, h) i in
      let (x, xs, e, xl, xm, u) = next_byte (m, n) (tail ∷ []) bs t in
      let (y, rest, f, yl, ym, v) = next_byte tail [] xs u in
      let (b₀, b₁, x₀, x₁, least, apart) = few b x bl bm xl xm in
      let c = (b - 0xE0) * 4096 + (x - 0x80) * 64 + (y - 0x80) in
      let p : 224 + c / 4096 ≡ b = omega arith in
      let q : next (c / 64) ≡ x = omega arith in
      let r : next c ≡ y = omega arith in
      record {
        char = c;
        rest = rest;
        is_scalar = go c ((b - 0xE0) * 64 + (x - 0x80)) apart (omega arith);
        parts = ap (λ l. l ++ rest) (three c (omega arith) (omega arith)) ∙ cc;
        shorter = omega (arith, ap length e, ap length f);
        text = v;
      }
    where
      go : (c high : ℕ) → (high < 0x360) ⊎ (0x380 ≤ high) → (high * 64 ≤ c) × (c < high * 64 + 64) × (c < 0x10000) → scalar c ≡ true
      go c high (inl k) d = low_scalar c (omega arith)
      go c high (inr k) d = high_scalar c (omega arith) (omega arith)

module _ (l h m n : ℕ) (few : (b x : ℕ) → l ≤ b → b ≤ h → m ≤ x → x ≤ n
    → (0xF0 ≤ b) × (0x80 ≤ x) × (x ≤ 0xBF) × (0x10 ≤ (b - 0xF0) * 64 + (x - 0x80)) × ((b - 0xF0) * 64 + (x - 0x80) < 0x110)) where
  row_four : Row ((l, h), (m, n) ∷ tail ∷ tail ∷ [])
  row_four b bs i t =
      let (bl, bm) = in_range b (l, h) i in
      let (x, xs, e, xl, xm, u) = next_byte (m, n) (tail ∷ tail ∷ []) bs t in
      let (y, ys, f, yl, ym, v) = next_byte tail (tail ∷ []) xs u in
      let (z, rest, g, zl, zm, w) = next_byte tail [] ys v in
      let (b₀, x₀, x₁, least, most) = few b x bl bm xl xm in
      let c = (b - 0xF0) * 262144 + (x - 0x80) * 4096 + (y - 0x80) * 64 + (z - 0x80) in
      let p : 240 + c / 262144 ≡ b = omega arith in
      let q : next (c / 4096) ≡ x = omega arith in
      let r : next (c / 64) ≡ y = omega arith in
      let s : next c ≡ z = omega arith in
      record {
        char = c;
        rest = rest;
        is_scalar = high_scalar c (omega arith) (omega arith);
        parts = ap (λ l. l ++ rest) (four c (omega arith)) ∙ cc;
        shorter = omega (arith, ap length e, ap length f, ap length g);
        text = w;
      }

every_row : Every Row rows
unfolding rows
every_row = (
  row_one,
  (
    row_two,
    (
      row_three 0xE0 0xE0 0xA0 0xBF (λ b x l h m n. (omega arith, omega arith, omega arith, omega arith, omega arith, inl (omega arith))),
      (
        row_three 0xE1 0xEC 0x80 0xBF (λ b x l h m n. (omega arith, omega arith, omega arith, omega arith, omega arith, inl (omega arith))),
        (
          row_three 0xED 0xED 0x80 0x9F (λ b x l h m n. (omega arith, omega arith, omega arith, omega arith, omega arith, inl (omega arith))),
          (
            row_three 0xEE 0xEF 0x80 0xBF (λ b x l h m n. (omega arith, omega arith, omega arith, omega arith, omega arith, inr (omega arith))),
            (
              row_four 0xF0 0xF0 0x90 0xBF (λ b x l h m n. (omega arith, omega arith, omega arith, omega arith, omega arith)),
              (
                row_four 0xF1 0xF3 0x80 0xBF (λ b x l h m n. (omega arith, omega arith, omega arith, omega arith, omega arith)),
                (row_four 0xF4 0xF4 0x80 0x8F (λ b x l h m n. (omega arith, omega arith, omega arith, omega arith, omega arith)), tt),
              ),
            ),
          ),
        ),
      ),
    ),
  ),
)

-- the row that a first byte has, where it has one
begins : (rs : List (Range × List Range)) → Every Row rs → (b : ℕ) (bs : Bytes) → utf8_from (row_of b rs) bs ≡ true → Begins (b ∷ bs)
unfolding row_of
begins [] every b bs t =
    let (x, rest, e, l, m, u) = next_byte none [] bs t in
    absurd (omega arith)
begins (r ∷ rs) every b bs t = go (inside b r.0) refl (begins rs every.1 b bs) t
  where
    go : (i : Bool) → inside b r.0 ≡ i → (utf8_from (row_of b rs) bs ≡ true → Begins (b ∷ bs)) → utf8_from (cond i r.1 (row_of b rs)) bs ≡ true → Begins (b ∷ bs)
    go true i others t = every.0 b bs i t
    go false i others t = others t

text_chars : (n : ℕ) (bs : Bytes) → length bs ≤ n → utf8_from [] bs ≡ true → IsUtf8 bs
unfolding utf8_from
text_chars n [] h t = ([], (refl, refl))
text_chars zero (b ∷ bs) h t = absurd (omega arith)
text_chars (suc n) (b ∷ bs) h t =
    let c = begins rows every_row b bs t in
    let shorter = c.shorter in
    let (cs, (s, e)) = text_chars n c.rest (omega arith) c.text in
    (c.char ∷ cs, (rw (c.is_scalar, s), ap (λ l. encode c.char ++ l) e ∙ c.parts))

pub utf8_text : (bs : Bytes) → utf8 bs ≡ true → IsUtf8 bs
unfolding utf8
utf8_text bs = text_chars (length bs) bs (omega arith)

pub other_utf8 : (bs : Bytes) → ¬ (IsUtf8 bs) → utf8 bs ≡ false
other_utf8 bs h = go (utf8 bs) refl
  where
    go : (t : Bool) → utf8 bs ≡ t → t ≡ false
    go true e = absurd (h (utf8_text bs e))
    go false e = refl
