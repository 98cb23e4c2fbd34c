-- What an accepted merge of a train shows, over its bytes: the laws of merging, put together.
use Prim.Native.Nat.{ℕ, ◌+◌, ◌≤◌}
use native.Mathlib.Omega.{arith}
use mathlib.Core.Path.{◌≡◌, sym, ap, subst}
use mathlib.Core.List.{List, Memᴰ}
use mathlib.Core.Bool.{Bool, false}
use lib.ListN.{length}
use Rattle.model.specs.Bytes.{Bytes, AreBytes, Every}
use Rattle.model.specs.Numbers.{max_levels}
use Rattle.model.specs.Tree.{Field, Schema}
use Rattle.model.specs.Sheet.{sheet_bytes}
use Rattle.model.specs.Read.{got, read_train}
use Rattle.model.specs.Merge.{is_null, empty, try_merge}
use Rattle.model.specs.Call.{bytes, sheet_answer, merge_answer}
use Rattle.model.specs.WellFormed.{WellFormedSchema, Fits}
use Rattle.model.proofs.Lists.{every_map}
use Rattle.model.proofs.Steps.{Holds, of_got}
use Rattle.model.proofs.MergeKeeps.{empty_well_formed, merge_keeps}
use Rattle.model.proofs.WholeSheets.{train_exact}
use Rattle.model.proofs.Size.{train_size}
use Rattle.model.proofs.NothingLost.{HeldSchema, columns_given, OneChildEach, well_formed_one_child, nothing_lost}
use Rattle.model.proofs.Standing.{columns_of, standing_flag, flag_stands, standing_dict_id, dict_id_stands_lem}
use Rattle.model.proofs.Calls.{then_inv, bytes_inv}

-- the train was read as these schemas, and they were merged to this one
pub record MergeOf (parked : Bool) (train b : Bytes) (xs : List Schema) (z : Schema) : Type 0 where
  pub read : ℕ
  pub reads : read_train train ≡ got xs read
  pub merged : ℕ
  pub merges : try_merge parked xs ≡ got z merged
  pub written : b ≡ sheet_bytes z
  -- merging keeps well-formedness, so the answer, where it is within 65,535 bytes, reads without refusal (sheet-reads)
  pub well_formed : WellFormedSchema z
  -- it never makes more than it was given
  pub size : length b + length xs ≤ 1 + length train
  -- nothing is lost, and no more columns stand there than were given
  pub held : Every (λ x. HeldSchema parked x z) xs
  pub columns : length z.columns ≤ columns_given xs
  -- the order flag of a column that is not Null is that of the first column of its name that is not Null
  pub flags : (h : Field max_levels) → Memᴰ h z.columns → is_null max_levels h.data_type ≡ false
      → (o : Bool) → h.head.dict_is_ordered ≡ standing_flag h.head.name (columns_of xs) o
  -- the dictionary number of a column is that of the first column of its name
  pub dict_ids : (h : Field max_levels) → Memᴰ h z.columns → (d : ℕ) → h.head.dict_id ≡ standing_dict_id h.head.name (columns_of xs) d

pub merge_answered : (parked : Bool) (train b : Bytes) → AreBytes train → merge_answer parked train ≡ bytes b → (xs : List Schema) × (z : Schema) × MergeOf parked train b xs z
unfolding merge_answer sheet_answer try_merge
merge_answered parked train b byte h =
    let (xs, e, p, q) = then_inv _ _ h in
    let (z, i, r, w) = then_inv _ _ q in
    let (s, f, n) = of_got (subst (Holds _) p (train_exact train byte)) in
    let good : Every WellFormedSchema xs = every_map Fits WellFormedSchema (λ x f. f.well_formed) xs f in
    let lost = nothing_lost parked xs z i (every_map WellFormedSchema OneChildEach well_formed_one_child xs good) r in (
      xs,
      z,
      record {
        read = e;
        reads = p;
        merged = i;
        merges = r;
        written = sym (bytes_inv w);
        well_formed = of_got (subst (Holds (λ z e. WellFormedSchema z)) r (merge_keeps parked 0 empty xs empty_well_formed good));
        size = omega (arith, train_size parked xs z i r, ap length (bytes_inv w), ap length s);
        held = lost.0;
        columns = lost.1;
        flags = flag_stands parked xs z i r;
        dict_ids = dict_id_stands_lem parked xs z i r;
      },
    )
