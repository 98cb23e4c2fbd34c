-- A place between the entries of a row: passing over them, and looking up a name: one entry, the turns of the scan, and what was found.
use Prim.Native.Nat.{ℕ, ◌+◌, ◌≤◌, ◌<◌}
use native.Mathlib.Omega.{arith}
use mathlib.Core.Path.{◌≡◌, refl, sym, ap, subst, ◌∙◌}
use mathlib.Core.List.{List, [], ◌∷◌, ◌++◌, append_assoc, append-nil}
use mathlib.Core.Bool.{Bool, true, false, false≢true}
use lib.ListN.{length, get_or, length-append}
use Rattle.model.specs.Bytes.{Bytes, Every, same_bytes}
use Rattle.model.specs.Tree.{Head, Field}
use Rattle.model.specs.Sheet.{part, text_bytes, head_bytes}
use Rattle.model.proofs.Lists.{every_append}
use Rattle.walk.specs.Stands.{Stands, Skips}
use Rattle.walk.proofs.Standing.{first_stands, second_stands, byte_stands}
use Rattle.walk.proofs.Descents.{head_stands}
use Rattle.table.specs.Table.{no_entry, Rows, none, more, SpellField, SpellRow}
use Rattle.table.specs.Entries.{SkipsEntries, NoEntry, StepsOver, PeeksEntry, GivesEntry}
use Rattle.table.specs.declared.EntryRow.{EntryRow}
use Rattle.table.specs.Look.{NamesPlace, NamesEntry, Cut, FoundAt, Finds}
use Rattle.std.proofs.Common.{Option, Some, None, Result, Ok, Err}
use Rattle.std.specs.Option.{is_some}
use Rattle.table.proofs.Entries.{SkipsRows, steps_over}

-- what `has_name` of a field of the train ensures
abbrev HasName : Bytes → ℕ → Bytes → Bool → Type 0
HasName s a name r = (h : Head) (n : Bytes) → Stands s a (head_bytes h) → name ≡ part text_bytes n → r ≡ same_bytes h.name n

module _ {s w : Bytes} {place : ℕ} where
  -- an entry begins with its flags
  flags_stand : (l : ℕ) {k : ℕ} {y : Bytes} {f : Field l} (e : SpellField l s k y f) → Stands w place y → get_or w place 0 ≡ e.flags
  flags_stand l e st = byte_stands (subst (Stands w place) e.bytes st)

  pub named_entry : {name : Bytes} {t : ℕ} {r : Bool} → NamesPlace w place t → HasName s t name r → NamesEntry s w place name r
  named_entry {t = t} i h l k y f n e st u =
      let first : t ≡ e.first = i e.flags e.first _ e.small (subst (Stands w place) e.bytes st) in
      h e.own.head n (subst (λ p. Stands s p (head_bytes e.own.head)) (sym first) (head_stands l e.own e.stands)) u ∙ ap (λ z. same_bytes z n) e.name

-- Rows

pub rows_append : {A : Type 0} {P : ℕ → Bytes → A → Type 0} {k m : ℕ} {y z : Bytes} {xs ys : List A} → Rows P k y xs → Rows P m z ys → Rows P (k + m) (y ++ z) (xs ++ ys)
rows_append {P = P} {m = m} {z = z} {ys = ys} none r = subst (λ n. Rows P n z ys) (zero_plus m) r
  where
    zero_plus : (n : ℕ) → n ≡ 0 + n
    zero_plus n = omega arith
rows_append {P = P} {m = m} {z = z} {ys = ys} (more {k = i} {m = j} {y = a} {ys = b} {x = x} {xs = xs} p q) r =
    let e : i + (j + m) ≡ i + j + m = omega arith in
    subst (λ n. Rows P n ((a ++ b) ++ z) (x ∷ (xs ++ ys))) e (subst (λ c. Rows P (i + (j + m)) c (x ∷ (xs ++ ys))) (sym (append_assoc a b z)) (more p (rows_append q r)))

rows_none : {A : Type 0} {P : ℕ → Bytes → A → Type 0} {k : ℕ} {y : Bytes} {xs : List A} → Rows P k y xs → xs ≡ [] → y ≡ []
rows_none none e = refl
rows_none (more p r) e = absurd (let z : ◌≡◌ {A = ℕ} 0 1 = cc in omega arith)

rows_one : {A : Type 0} {P : ℕ → Bytes → A → Type 0} {k : ℕ} {y : Bytes} {x : A} → P k y x → Rows P k y (x ∷ [])
rows_one {P = P} {k = k} {y = y} {x = x} p =
    let e : k + 0 ≡ k = omega arith in
    subst (λ n. Rows P n y (x ∷ [])) e (subst (λ c. Rows P (k + 0) c (x ∷ [])) (append-nil y) (more p none))

pub rows_snoc : {A : Type 0} {P : ℕ → Bytes → A → Type 0} {k m : ℕ} {y z : Bytes} {xs : List A} {x : A} → Rows P k y xs → P m z x → Rows P (k + m) (y ++ z) (xs ++ (x ∷ []))
rows_snoc r p = rows_append r (rows_one p)

-- A place between entries: what stands from it on

module _ {l : ℕ} {s w : Bytes} {row k : ℕ} {y : Bytes} {fs : List (Field l)} {place : ℕ} (c : Cut l s row k y fs place) (st : Stands w row y) where
  pub after_stands : Stands w place (c.after_bytes ++ (no_entry ∷ []))
  after_stands = subst (λ p. Stands w p (c.after_bytes ++ (no_entry ∷ []))) (sym c.stands) (second_stands c.before_bytes (c.after_bytes ++ (no_entry ∷ [])) (subst (Stands w row) c.bytes st))

-- the entry at such a place, if it is not the end
module _ {l : ℕ} {s w : Bytes} {row k : ℕ} {y : Bytes} {fs : List (Field l)} {place : ℕ} (c : Cut l s row k y fs place) (st : Stands w row y) where
  -- the next one
  pub record Next : Type 0 where
    pub this : Field l
    pub this_bytes : Bytes
    pub this_room : ℕ
    pub rest : List (Field l)
    pub rest_bytes : Bytes
    pub rest_room : ℕ
    pub fields : c.after ≡ this ∷ rest
    pub bytes : c.after_bytes ≡ this_bytes ++ rest_bytes
    pub spelt : SpellField l s this_room this_bytes this
    pub rows : Rows (λ i z f. SpellField l s i z f) rest_room rest_bytes rest
    pub room : c.after_room ≡ this_room + rest_room
    pub stands : Stands w place (this_bytes ++ (rest_bytes ++ (no_entry ∷ [])))

  pub next_entry : (get_or w place 0 ≡ no_entry → ⊥) → Next
  next_entry never = go c.after_room c.after_bytes c.after refl refl refl c.row_after
    where
      go : (m : ℕ) (ys : Bytes) (gs : List (Field l)) → c.after_room ≡ m → c.after_bytes ≡ ys → c.after ≡ gs → Rows (λ i z f. SpellField l s i z f) m ys gs → Next
      go m ys gs e₁ e₂ e₃ none = absurd (never (byte_stands (subst (λ z. Stands w place (z ++ (no_entry ∷ []))) e₂ (after_stands c st))))
      go m ys gs e₁ e₂ e₃ (more {k = i} {m = j} {y = z} {ys = zs} {x = f} {xs = hs} p r) = record {
        this = f;
        this_bytes = z;
        this_room = i;
        rest = hs;
        rest_bytes = zs;
        rest_room = j;
        fields = e₃;
        bytes = e₂;
        spelt = p;
        rows = r;
        room = e₁;
        stands = subst (Stands w place) (append_assoc z zs (no_entry ∷ [])) (subst (λ v. Stands w place (v ++ (no_entry ∷ []))) e₂ (after_stands c st));
      }

  module _ (n : Next) where
    -- it is the one
    pub found_here : {name : Bytes} → same_bytes n.this.head.name name ≡ true → FoundAt l s row k y fs name place
    found_here h = record {
      before = c.before;
      this = n.this;
      after = n.rest;
      before_bytes = c.before_bytes;
      this_bytes = n.this_bytes;
      after_bytes = n.rest_bytes;
      before_room = c.before_room;
      this_room = n.this_room;
      after_room = n.rest_room;
      fields = c.fields ∙ ap (λ z. c.before ++ z) n.fields;
      bytes = c.bytes ∙ ap (λ z. c.before_bytes ++ z) (ap (λ z. z ++ (no_entry ∷ [])) n.bytes ∙ append_assoc n.this_bytes n.rest_bytes (no_entry ∷ []));
      row_before = c.row_before;
      spelt = n.spelt;
      row_after = n.rows;
      stands = c.stands;
      named = h;
      room = omega (arith, c.room, n.room);
    }

    -- behind it
    abbrev pub cut_behind : {r : ℕ} → Skips w place n.this_bytes r → Cut l s row k y fs r
    cut_behind {r} h = record {
      before = c.before ++ (n.this ∷ []);
      after = n.rest;
      before_bytes = c.before_bytes ++ n.this_bytes;
      after_bytes = n.rest_bytes;
      before_room = c.before_room + n.this_room;
      after_room = n.rest_room;
      fields = c.fields ∙ ap (λ z. c.before ++ z) n.fields ∙ sym (append_assoc c.before (n.this ∷ []) n.rest);
      bytes = c.bytes ∙ ap (λ z. c.before_bytes ++ z) (ap (λ z. z ++ (no_entry ∷ [])) n.bytes ∙ append_assoc n.this_bytes n.rest_bytes (no_entry ∷ []))
          ∙ sym (append_assoc c.before_bytes n.this_bytes (n.rest_bytes ++ (no_entry ∷ [])));
      row_before = rows_snoc c.row_before n.spelt;
      row_after = n.rows;
      stands = omega (arith, h.behind (first_stands n.this_bytes _ n.stands), c.stands, length-append c.before_bytes n.this_bytes);
      room = omega (arith, c.room, n.room);
    }

  -- where none stands none is left
  pub end_here : {levels : ℕ} → l ≤ levels → NoEntry w place levels → c.after ≡ []
  end_here i never = go c.after_room c.after_bytes c.after refl refl c.row_after
    where
      go : (m : ℕ) (ys : Bytes) (gs : List (Field l)) → c.after_bytes ≡ ys → c.after ≡ gs → Rows (λ i z f. SpellField l s i z f) m ys gs → c.after ≡ []
      go m ys gs e₂ e₃ none = e₃
      go m ys gs e₂ e₃ (more {k = k} {y = z} {ys = zs} {x = f} p r) =
          absurd (never l s k z f i p
          (first_stands z (zs ++ (no_entry ∷ [])) (subst (Stands w place) (append_assoc z zs (no_entry ∷ [])) (subst (λ v. Stands w place (v ++ (no_entry ∷ []))) e₂ (after_stands c st)))))

-- the row's front
abbrev pub row_begin : {l : ℕ} {s : Bytes} {row k : ℕ} {y : Bytes} {fs : List (Field l)} → SpellRow l s k y fs → Cut l s row k y fs row
row_begin {l} {s} {row} {k} {y} {fs} p = record {
  before = [];
  after = fs;
  before_bytes = [];
  after_bytes = p.row_bytes;
  before_room = 0;
  after_room = p.row_room;
  fields = refl;
  bytes = p.bytes;
  row_before = none;
  row_after = p.row;
  stands = omega arith;
  room = omega (arith, p.room);
}

-- at the end: none is left, the end stands there, and the row ends behind it
pub cut_ends : {l levels : ℕ} {s w : Bytes} {row k : ℕ} {y : Bytes} {fs : List (Field l)} {place : ℕ} (c : Cut l s row k y fs place) → Stands w row y → l ≤ levels → NoEntry w place levels
    → (c.after ≡ []) × (get_or w place 0 ≡ no_entry) × (place + 1 ≡ row + length y)
cut_ends {w = w} {place = place} c st i never =
    let z = end_here c st i never in
    let bytes = rows_none c.row_after z in (
      z,
      byte_stands (subst (λ b. Stands w place (b ++ (no_entry ∷ []))) bytes (after_stands c st)),
      omega (arith, c.stands, ap length c.bytes, length-append c.before_bytes (c.after_bytes ++ (no_entry ∷ [])), ap (λ b. length (b ++ (no_entry ∷ []))) bytes),
    )

-- A row that is passed over

-- a place between the entries of each row that stands from `first` on
pub record Skipping (w : Bytes) (first levels place : ℕ) : Type 0 where
  cut : (l : ℕ) (s : Bytes) (k : ℕ) (y : Bytes) (fs : List (Field l)) → l ≤ levels → SpellRow l s k y fs → Stands w first y → Cut l s first k y fs place

pub skipping_begin : {w : Bytes} (first levels : ℕ) → Skipping w first levels first
skipping_begin first levels = record { cut = λ l s k y fs i p st. row_begin p }

module _ {w : Bytes} {first : ℕ} (levels : ℕ) {place : ℕ} (k : Skipping w first levels place) where
  pub skipping_again : {n r : ℕ} → n ≡ get_or w place 0 → (n ≡ no_entry → ⊥) → SkipsEntries w place levels r → Skipping w first levels r
  skipping_again e never g = record {
    cut = λ l s j y fs i p st.
        let d = k.cut l s j y fs i p st in
        let a = next_entry d st λ z. never (e ∙ z) in
        cut_behind d st a (g l s a.this_room a.this_bytes a.this i a.spelt);
  }

  pub skipping_done : {r : ℕ} → NoEntry w place levels → (get_or w place 0 ≡ no_entry → place < length w → r ≡ place + 1) → SkipsRows w first levels r
  skipping_done never h l s j y fs i p = record {
    behind = λ st. let (left, mark, end) = cut_ends (k.cut l s j y fs i p st) st i never in omega (arith, h mark (omega (arith, end, st.inside)), end);
  }

-- The scan

-- a place between entries, none before it having the name
pub record Passed (l : ℕ) (s : Bytes) (row k : ℕ) (y : Bytes) (fs : List (Field l)) (name : Bytes) (place : ℕ) : Type 0 where
  pub cut : Cut l s row k y fs place
  pub others : Every (λ f. same_bytes f.head.name name ≡ false) cut.before

pub record Scan (s w : Bytes) (row : ℕ) (name : Bytes) (levels place : ℕ) : Type 0 where
  pub passed : (l k : ℕ) (y : Bytes) (fs : List (Field l)) (n : Bytes) → l ≤ levels → SpellRow l s k y fs → Stands w row y → name ≡ part text_bytes n
      → Passed l s row k y fs n place

-- what `scan` ensures of a row
abbrev pub FindsIn : Bytes → Bytes → ℕ → Bytes → ℕ → Result ℕ ℕ → Type 0
FindsIn s w row name levels r =
    (l k : ℕ) (y : Bytes) (fs : List (Field l)) (n : Bytes) → l ≤ levels → SpellRow l s k y fs → Stands w row y → name ≡ part text_bytes n → Finds l s row k y fs n r

module _ {s w : Bytes} (row : ℕ) (name : Bytes) (levels : ℕ) where
  pub scan_begin : Scan s w row name levels row
  scan_begin = record { passed = λ l k y fs n h p st u. record { cut = row_begin p; others = tt } }

  module _ {place : ℕ} (c : Scan s w row name levels place) where
    pub scan_absent : NoEntry w place levels → FindsIn s w row name levels (Err place)
    scan_absent never l k y fs n i p st u =
        let d = c.passed l k y fs n i p st u in
        let (left, mark, end) = cut_ends d.cut st i never in
        record {
          others = subst (Every (λ f. same_bytes f.head.name n ≡ false)) (sym (d.cut.fields ∙ ap (λ z. d.cut.before ++ z) left ∙ append-nil d.cut.before)) d.others;
          end = end;
        }

    module _ (never : get_or w place 0 ≡ no_entry → ⊥) {b : Bool} (v : NamesEntry s w place name b) where
      here : {l k : ℕ} {y : Bytes} {fs : List (Field l)} (d : Cut l s row k y fs place) (st : Stands w row y) → Next d st
      here d st = next_entry d st never

      verdict : {l k : ℕ} {y : Bytes} {fs : List (Field l)} (n : Bytes) (d : Cut l s row k y fs place) (st : Stands w row y) → name ≡ part text_bytes n
          → b ≡ same_bytes (here d st).this.head.name n
      verdict {l} n d st u = let a = here d st in v l a.this_room a.this_bytes a.this n a.spelt (first_stands a.this_bytes _ a.stands) u

      pub scan_found : b ≡ true → FindsIn s w row name levels (Ok place)
      scan_found h l k y fs n i p st u =
          let d = c.passed l k y fs n i p st u in
          found_here d.cut st (here d.cut st) (sym (verdict n d.cut st u) ∙ h)

      pub scan_again : {next : ℕ} → b ≡ false → SkipsEntries w place levels next → Scan s w row name levels next
      scan_again h g = record {
        passed = λ l k y fs n i p st u.
            let d = c.passed l k y fs n i p st u in
            let a = here d.cut st in
            record {
              cut = cut_behind d.cut st a (g l s a.this_room a.this_bytes a.this i a.spelt);
              others = every_append (λ f. same_bytes f.head.name n ≡ false) d.cut.before (a.this ∷ []) d.others (sym (verdict n d.cut st u) ∙ h, tt);
            };
      }

-- The row that `scan` goes over

-- what is left of it, none before it having the name
abbrev pub Scanning : (s w : Bytes) (row : ℕ) (name : Bytes) (levels : ℕ) → EntryRow → Type 0
Scanning s w row name levels r = (r.w.now ≡ w) × (r.levels ≡ levels) × Scan s w row name levels r.at

module _ {s w : Bytes} (row : ℕ) (name : Bytes) (levels : ℕ) (r : EntryRow) where
  pub scanning_begin : (r.w.now ≡ w) × (r.at ≡ row) × (r.levels ≡ levels) → Scanning s w row name levels r
  scanning_begin i = (i.0, i.2, subst (Scan s w row name levels) (sym i.1) (scan_begin _ _ _))

  module _ (k : Scanning s w row name levels r) where
    -- no entry is left
    pub scanning_ends : PeeksEntry r None → FindsIn s w row name levels (Err r.at)
    scanning_ends never = scan_absent _ _ _ k.2 (subst (λ v. NoEntry v r.at levels) k.0 (subst (λ m. NoEntry r.w.now r.at m) k.1 never))

    module _ {place : ℕ} (p : PeeksEntry r (Some place)) {b : Bool} (v : NamesEntry s w place name b) where
      never : get_or w r.at 0 ≡ no_entry → ⊥
      never e = p.1 (ap (λ x. get_or x r.at 0) k.0 ∙ e)

      at_row : NamesEntry s w r.at name b
      at_row = subst (λ m. NamesEntry s w m name b) p.0 v

      pub scanning_found : b ≡ true → FindsIn s w row name levels (Ok place)
      scanning_found h = subst (λ m. FindsIn s w row name levels (Ok m)) (sym p.0) (scan_found _ _ _ k.2 never at_row h)

      -- the entry that was looked at is passed, or it is none
      module _ (o : Option ℕ) (t : EntryRow) (g : GivesEntry r o t) where
        pub scanning_stuck : is_some o ≡ false → FindsIn s w row name levels (Err place)
        scanning_stuck e = go o e (steps_over r t o k.0 k.1 g).2
          where
            go : (o : Option ℕ) → is_some o ≡ false → StepsOver w r.at levels o t.at → FindsIn s w row name levels (Err place)
            go None e q = subst (λ m. FindsIn s w row name levels (Err m)) (sym p.0) (scan_absent _ _ _ k.2 q.1)
            go (Some x) e q = absurd (false≢true (sym e))

        pub scanning_on : b ≡ false → is_some o ≡ true → Scanning s w row name levels t × (r.at < t.at) × (r.at < length w)
        scanning_on h e = go o e (steps_over r t o k.0 k.1 g)
          where
            go : (o : Option ℕ) → is_some o ≡ true → (t.w.now ≡ w) × (t.levels ≡ levels) × StepsOver w r.at levels o t.at → Scanning s w row name levels t × (r.at < t.at) × (r.at < length w)
            go None e q = absurd (false≢true e)
            go (Some x) e (a, m, q) = ((a, m, scan_again _ _ _ k.2 never at_row h q.4), q.3, q.2)

-- the entry at the hint
pub hint_found : {s w : Bytes} {row hint : ℕ} {name : Bytes} {b : Bool} → b ≡ true → NamesEntry s w hint name b × (get_or w hint 0 ≡ no_entry → b ≡ false) → {l k : ℕ} {y : Bytes} {fs : List (Field l)} (n : Bytes) → Stands w row y → name ≡ part text_bytes n
    → Cut l s row k y fs hint → FoundAt l s row k y fs n hint
hint_found e v {l} n st u d =
    let x = next_entry d st λ z. false≢true (sym (v.1 z) ∙ e) in
    found_here d st x (sym (sym e ∙ v.0 l x.this_room x.this_bytes x.this n x.spelt (first_stands x.this_bytes _ x.stands) u))
