-- One field into a row by name: into the entry of its name, or behind them all.
use Prim.Native.Nat.{ℕ, ◌+◌, ◌*◌, ◌≤◌}
use native.Mathlib.Omega.{arith}
use mathlib.Core.Path.{◌≡◌, refl, sym, ap, subst, ◌∙◌}
use mathlib.Core.List.{List, [], ◌∷◌, ◌++◌, append_assoc}
use mathlib.Core.Bool.{Bool, true, false}
use lib.ListN.{length, length-append}
use Rattle.model.specs.Numbers.{ordered_clash, field_metadata_clash}
use Rattle.model.specs.Bytes.{Bytes, Every, choose, same_bytes}
use Rattle.model.specs.Tree.{Head, Field}
use Rattle.model.specs.Sheet.{head_bytes, field_bytes, type_bytes}
use Rattle.model.specs.Growth.{Distinct, names}
use Rattle.model.specs.Merge as model
use Rattle.model.specs.Merge.{◌>>=◌, done, clash, need, merge_metadata, orders_agree, merge_field, merge_by_name, merge_type, is_null}
use Rattle.model.proofs.ByteStrings.{same_bytes_eq, differ_same_bytes, same_bytes_differ}
use Rattle.model.proofs.Gives.{Gives, value, of_done, any_gives, bind_gives}
use Rattle.std.specs.Result.{IsErrAnd}
use Rattle.buffer.specs.declared.refusal.Number.{Number}
use Rattle.walk.specs.Stands.{Stands}
use Rattle.walk.proofs.Descents.{head_stands}
use Rattle.table.specs.Held.{Held}
use Rattle.table.specs.Table.{no_entry, more, SpellField, SpellRow}
use Rattle.table.specs.Entries.{SkipsEntries}
use Rattle.table.specs.Look.{Cut, FoundAt, NotFound, Finds}
use Rattle.table.specs.Says.{Merged, Says}
use Rattle.table.specs.Becomes.{Incoming}
use Rattle.table.specs.Opened.{InsertsEntry}
use Rattle.std.proofs.Common.{Result, Ok, Err}
use Rattle.table.proofs.Held.{held_length, held_stands, held_as}
use Rattle.table.proofs.Edited.{handed}
use Rattle.table.proofs.Opening.{field_long}
use Rattle.table.proofs.Look.{rows_append, rows_snoc, row_begin}
use Rattle.table.proofs.Fits.{field_fits, rows_fit}
use Rattle.field.specs.Claims.{MergesField, Puts, PutsField, Hinted, by_name}

-- where there is no clash, the next place is that behind the entry
abbrev pub Behind : (w : Bytes) (place levels next : ℕ) → Merged → Type 0
Behind w place levels next (Ok u) = SkipsEntries w place levels next
Behind w place levels next (Err c) = Unit {0}

-- Names

names_same : (l : ℕ) (before : List (Field l)) (f h : Field l) (after : List (Field l)) → h.head.name ≡ f.head.name → names (before ++ (f ∷ after)) ≡ names (before ++ (h ∷ after))
names_same l [] f h after e = ap (λ n. n ∷ names after) (sym e)
names_same l (g ∷ before) f h after e = ap (λ ns. g.head.name ∷ ns) (names_same l before f h after e)

-- those before one of a name do not have it
others_before : (l : ℕ) (before : List (Field l)) (f : Field l) (after : List (Field l)) (name : Bytes) → Distinct (names (before ++ (f ∷ after))) → f.head.name ≡ name
    → Every (λ g. same_bytes g.head.name name ≡ false) before
others_before l [] f after name d e = tt
others_before l (g ∷ before) f after name d e = (differ_same_bytes g.head.name name (λ h. apart before d.0 (h ∙ sym e)), others_before l before f after name d.1 e)
  where
    apart : (before : List (Field l)) → Every (λ m. g.head.name ≡ m → ⊥) (names (before ++ (f ∷ after))) → g.head.name ≡ f.head.name → ⊥
    apart [] d = d.0
    apart (h ∷ before) d = apart before d.1

distinct_more : (l : ℕ) (fs : List (Field l)) (g : Field l) → Distinct (names fs) → Every (λ h. same_bytes h.head.name g.head.name ≡ false) fs → Distinct (names (fs ++ (g ∷ [])))
distinct_more l [] g d o = (tt, tt)
distinct_more l (f ∷ fs) g d o = (go fs d.0, distinct_more l fs g d.1 o.1)
  where
    go : (fs : List (Field l)) → Every (λ m. f.head.name ≡ m → ⊥) (names fs) → Every (λ m. f.head.name ≡ m → ⊥) (names (fs ++ (g ∷ [])))
    go [] a = (same_bytes_differ f.head.name g.head.name o.0, tt)
    go (h ∷ fs) a = (a.0, go fs a.1)

-- in either mode
module _ (parked : Bool) where
  -- a merge keeps the name
  name_kept : (l : ℕ) (f g : Field l) → Gives (λ h. h.head.name ≡ f.head.name) (merge_field parked (merge_type parked l) (is_null l) f g)
  unfolding merge_field
  name_kept l f g =
      bind_gives _ (any_gives (need (orders_agree parked (is_null l) f g) ordered_clash tt)) λ u h.
      bind_gives _ (any_gives (merge_metadata field_metadata_clash f.head.metadata g.head.metadata)) λ m h.
      bind_gives _ (any_gives (merge_type parked l f.data_type g.data_type)) λ t h.
      value refl

  -- The model's merge by name

  by_name_found : (l : ℕ) (before : List (Field l)) (f : Field l) (after : List (Field l)) (g : Field l) → Every (λ h. same_bytes h.head.name g.head.name ≡ false) before
      → same_bytes f.head.name g.head.name ≡ true → by_name parked l (before ++ (f ∷ after)) g ≡ (merge_field parked (merge_type parked l) (is_null l) f g >>= λ h. done (before ++ (h ∷ after)))
  unfolding merge_by_name choose ◌>>=◌
  by_name_found l [] f after g o e = rw e
  by_name_found l (b ∷ before) f after g o e = rw o.0 (ap (λ m. m >>= λ r. done (b ∷ r)) (by_name_found l before f after g o.1 e) ∙ go (merge_field parked (merge_type parked l) (is_null l) f g))
    where
      go : (m : model.Merged (Field l)) → ((m >>= λ h. done (before ++ (h ∷ after))) >>= λ r. done (b ∷ r)) ≡ (m >>= λ h. done (b ∷ (before ++ (h ∷ after))))
      go (done h) = refl
      go (clash n) = refl

  by_name_absent : (l : ℕ) (fs : List (Field l)) (g : Field l) → Every (λ h. same_bytes h.head.name g.head.name ≡ false) fs → by_name parked l fs g ≡ done (fs ++ (g ∷ []))
  unfolding merge_by_name choose ◌>>=◌
  by_name_absent l [] g o = refl
  by_name_absent l (f ∷ fs) g o = rw o.0 (ap (λ m. m >>= λ r. done (f ∷ r)) (by_name_absent l fs g o.1))

  -- Into the entry of its name

  module _ {s w : Bytes} {used row hint q levels : ℕ} {found : Result ℕ ℕ}
      (find : (l k : ℕ) (y : Bytes) (fs : List (Field l)) (g : Head) → l ≤ levels → SpellRow l s k y fs → Stands w row y → Stands s q (head_bytes g) → Cut l s row k y fs hint → Finds l s row k y fs g.name found) where
    put_found : {place next : ℕ} {w₁ : Bytes} (r : Merged) → found ≡ Ok place → length w₁ ≡ length w → MergesField parked levels place q s w used w₁ r → Behind w₁ place levels next r
        → Puts parked levels row hint q s w used w₁ r next
    unfolding ◌>>=◌
    put_found {place} {next} {w₁} r at_place same merge skips = record { says = go }
      where
        go : (l : ℕ) (g : Field l) → l ≤ levels → Incoming l s q g → (x y z : Bytes) (k : ℕ) (fs : List (Field l)) → Held w used x y z → row ≡ length x → Hinted l s row hint k y fs
            → length x + (k + 4 * length (field_bytes (type_bytes l) g)) + length z ≤ length w → Says (Hinted l s row next) (k + 4 * length (field_bytes (type_bytes l) g)) x z w₁ r (by_name parked l fs g)
        go l g low i x y z k fs held hx (sp, cut) room =
            out r skips (merge.says l g low i (x ++ fa.before_bytes) fa.this_bytes (tail ++ z) fa.this_room fa.this held₁ (omega (arith, fa.stands, hx, n)) fa.spelt
            (omega (arith, room, n, length-append tail z, length-append fa.after_bytes (no_entry ∷ []), fa.room, rows_fit (λ k y f e. field_fits l e) fa.row_before, rows_fit (λ k y f e. field_fits l e) fa.row_after)))
          where
            fa : FoundAt l s row k y fs g.head.name place
            fa = subst (Finds l s row k y fs g.head.name) at_place (find l k y fs g.head low sp (held_stands held hx) (head_stands l g i.stands) cut)

            tail : Bytes
            tail = fa.after_bytes ++ (no_entry ∷ [])

            n : length (x ++ fa.before_bytes) ≡ length x + length fa.before_bytes
            n = length-append x fa.before_bytes

            held₁ : Held w used (x ++ fa.before_bytes) fa.this_bytes (tail ++ z)
            held₁ = held_as held (ap (λ v. x ++ (v ++ z)) fa.bytes ∙ simp append_assoc)

            model_is : by_name parked l fs g ≡ (merge_field parked (merge_type parked l) (is_null l) fa.this g >>= λ h. done (fa.before ++ (h ∷ fa.after)))
            model_is =
                ap (λ fs. by_name parked l fs g) fa.fields
                ∙ by_name_found l fa.before fa.this fa.after g
                (others_before l fa.before fa.this fa.after g.head.name (subst (λ fs. Distinct (names fs)) fa.fields sp.distinct) (same_bytes_eq fa.this.head.name g.head.name fa.named)) fa.named

            out : (r : Merged) → Behind w₁ place levels next r → Says (SpellField l s) (fa.this_room + 4 * length (field_bytes (type_bytes l) g)) (x ++ fa.before_bytes) (tail ++ z) w₁ r (merge_field parked (merge_type parked l) (is_null l) fa.this g)
                → Says (Hinted l s row next) (k + 4 * length (field_bytes (type_bytes l) g)) x z w₁ r (by_name parked l fs g)
            out (Err c) skips t = model_is ∙ ap (λ m. m >>= λ h. done (fa.before ++ (h ∷ fa.after))) t
            out (Ok u) skips t =
                let kept = of_done (subst (Gives (λ h. h.head.name ≡ fa.this.head.name)) t.is (name_kept l fa.this g)) in
                let st = held_stands t.held {p = place} (omega (arith, fa.stands, hx, n)) in
                let behind = (skips l s t.room t.spelt t.value low t.spells).behind st in
                record {
                  value = fa.before ++ (t.value ∷ fa.after);
                  spelt = fa.before_bytes ++ (t.spelt ++ tail);
                  room = fa.before_room + (t.room + fa.after_room) + 1;
                  is = model_is ∙ ap (λ m. m >>= λ h. done (fa.before ++ (h ∷ fa.after))) t.is;
                  spells = (
                    record {
                      row_bytes = fa.before_bytes ++ (t.spelt ++ fa.after_bytes);
                      row_room = fa.before_room + (t.room + fa.after_room);
                      bytes = simp append_assoc;
                      row = rows_append fa.row_before (more t.spells fa.row_after);
                      distinct = subst Distinct (names_same l fa.before fa.this t.value fa.after kept) (subst (λ fs. Distinct (names fs)) fa.fields sp.distinct);
                      room = omega arith;
                    },
                    record {
                      before = fa.before ++ (t.value ∷ []);
                      after = fa.after;
                      before_bytes = fa.before_bytes ++ t.spelt;
                      after_bytes = fa.after_bytes;
                      before_room = fa.before_room + t.room;
                      after_room = fa.after_room;
                      fields = sym (append_assoc fa.before (t.value ∷ []) fa.after);
                      bytes = sym (append_assoc fa.before_bytes t.spelt tail);
                      row_before = rows_snoc fa.row_before t.spells;
                      row_after = fa.row_after;
                      stands = omega (arith, behind, fa.stands, length-append fa.before_bytes t.spelt);
                      room = omega arith;
                    },
                  );
                  fits = omega (arith, fa.room, t.fits);
                  held = held_as t.held (simp append_assoc);
                }

    -- a clash is handed up
    pub put_clash : {place : ℕ} {w₁ : Bytes} {r : Merged} {c : Number} (u : ℕ) (a : Result ℕ Number) → found ≡ Ok place → length w₁ ≡ length w → MergesField parked levels place q s w used w₁ r → r ≡ Err c
        → IsErrAnd a (λ n. n ≡ c) → PutsField parked levels row hint q a s w used w₁ u
    put_clash {w₁ = w₁} {c = c} u a at_place same merge e up =
        subst (λ a. PutsField parked levels row hint q a s w used w₁ u) (sym (handed up)) (put_found (Err c) at_place same (subst (MergesField parked levels _ q s w used w₁) e merge) tt)

    pub put_there : {place next u : ℕ} {w₁ : Bytes} {r : Merged} → found ≡ Ok place → length w₁ ≡ length w → MergesField parked levels place q s w used w₁ r → r ≡ Ok u → SkipsEntries w₁ place levels next
        → Puts parked levels row hint q s w used w₁ (Ok u) next
    put_there {u = u} {w₁} at_place same merge e skips = put_found (Ok u) at_place same (subst (MergesField parked levels _ q s w used w₁) e merge) skips

    -- Behind them all

    pub put_absent : {end u : ℕ} {w₁ : Bytes} → found ≡ Err end → length w₁ ≡ length w → InsertsEntry end q s w used w₁ u → Puts parked levels row hint q s w used w₁ (Ok u) row
    put_absent {end} {u} {w₁} at_end_lem same insert = record { says = go }
      where
        go : (l : ℕ) (g : Field l) → l ≤ levels → Incoming l s q g → (x y z : Bytes) (k : ℕ) (fs : List (Field l)) → Held w used x y z → row ≡ length x → Hinted l s row hint k y fs
            → length x + (k + 4 * length (field_bytes (type_bytes l) g)) + length z ≤ length w → Says (Hinted l s row row) (k + 4 * length (field_bytes (type_bytes l) g)) x z w₁ (Ok u) (by_name parked l fs g)
        go l g low i x y z k fs held hx (sp, cut) room =
            let nf : NotFound l row y fs g.head.name end =
            subst (Finds l s row k y fs g.head.name) at_end_lem (find l k y fs g.head low sp (held_stands held hx) (head_stands l g i.stands) cut) in
            let n = length-append x sp.row_bytes in
            let m = length-append sp.row_bytes (no_entry ∷ []) in
            let held₁ : Held w used (x ++ sp.row_bytes) [] ((no_entry ∷ []) ++ z) = held_as held (ap (λ v. x ++ (v ++ z)) sp.bytes ∙ simp append_assoc) in
            let long = field_long l g in
            let ne = insert l g (x ++ sp.row_bytes) ((no_entry ∷ []) ++ z) i held₁ (omega (arith, nf.end, hx, n, m, ap length sp.bytes))
            (omega (arith, room, held_length held, ap length sp.bytes, m, sp.room, rows_fit (λ k y f e. field_fits l e) sp.row, long)) in
            let row' : SpellRow l s (k + 4 * length (field_bytes (type_bytes l) g)) ((sp.row_bytes ++ ne.bytes) ++ (no_entry ∷ [])) (fs ++ (g ∷ [])) = record {
              row_bytes = sp.row_bytes ++ ne.bytes;
              row_room = sp.row_room + 4 * length (field_bytes (type_bytes l) g);
              bytes = refl;
              row = rows_snoc sp.row ne.spelt;
              distinct = distinct_more l fs g sp.distinct nf.others;
              room = omega (arith, sp.room);
            } in
            record {
              value = fs ++ (g ∷ []);
              spelt = (sp.row_bytes ++ ne.bytes) ++ (no_entry ∷ []);
              room = k + 4 * length (field_bytes (type_bytes l) g);
              is = by_name_absent l fs g nf.others;
              spells = (row', row_begin row');
              fits = omega arith;
              held = held_as ne.held (simp append_assoc);
            }
