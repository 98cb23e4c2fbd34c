-- Parameters: what the code reads for each kind is what the definition reads for the parameters of that kind.
use Prim.Native.Nat.{ℕ}
use mathlib.Core.Path.{◌≡◌, refl, sym, ap, ◌∙◌}
use mathlib.Core.List.{[], ◌∷◌, ◌++◌}
use mathlib.Core.Bool.{Bool, true, false, ◌||◌}
use lib.Dec.{leb}
use Rattle.model.specs.Numbers.{malformed}
use Rattle.model.specs.Bytes.{Bytes, num, bit}
use Rattle.model.specs.Tree.{Params, layout, zone_map, any_i32}
use Rattle.model.specs.Tree.Params.{items, timestamp}
use Rattle.model.specs.Read as read
use Rattle.model.specs.Read.{got, next, judged, unless, if_set, anything, is_text, param_fits, read_item, read_number, read_zone, read_params}
use Rattle.model.proofs.Items.{item_law}
use Rattle.std.specs.Prelude.{Ok}
use Rattle.sheet.specs.Answers.{Step, step_of}
use Rattle.sheet.proofs.Ways.{step_made, next_next, next_alike}

-- a number is an item of which the bytes are forgotten
number_alike : {B : Type 0} (s : Bytes) (lim n at : ℕ) (f : ℕ → ℕ → read.Step B) → next (read_number s lim n anything at) f ≡ next (read_item s lim n anything at) (λ b e. f (num b) e)
unfolding read_number next
number_alike s lim n at f = next_next (read_item s lim n anything at) (λ b e. got (num b) e) f

pub zone_way : (r : Step) (s : Bytes) (lim at : ℕ) → r ≡ step_of (next (read_number s lim 2 anything at) (λ n e. read_item s lim n is_text e)) → r ≡ step_of (read_zone s lim at)
unfolding read_zone
zone_way r s lim at h =
    h ∙ ap step_of (number_alike s lim 2 at _)
    ∙ next_alike (read_item s lim 2 anything at) _ _ (λ b e. sym (step_made (λ t. b ++ t) (read_item s lim (num b) is_text e)))

-- the zone's map, then the zone
map_alike : {B C : Type 0} (s : Bytes) (lim at : ℕ) (f : Bytes → ℕ → read.Step B) (g : ℕ → ℕ → read.Step C) → ((b : Bytes) (e : ℕ) → step_of (f b e) ≡ step_of (g (num b) e))
    → step_of (next (read_item s lim 1 (param_fits zone_map) at) f) ≡ step_of (next (read_number s lim 1 anything at) (λ v e. next (judged (unless (leb v 1) malformed) at v e) g))
unfolding next judged unless
map_alike s lim at f g h =
    ap (λ r. step_of (next r f)) (item_law s lim 1 (param_fits zone_map) at)
    ∙ ap step_of (next_next (read_item s lim 1 anything at) _ f)
    ∙ next_alike (read_item s lim 1 anything at) _ _ (λ b e. verdict b e (leb (num b) 1))
    ∙ ap step_of (sym (number_alike s lim 1 at _))
  where
    verdict : (b : Bytes) (e : ℕ) (t : Bool) → step_of (next (judged (unless (t || false) 2) at b e) f) ≡ step_of (next (judged (unless t 2) at (num b) e) g)
    verdict b e true = h b e
    verdict b e false = refl

pub timestamp_way : (r : Step) (s : Bytes) (lim at : ℕ)
    → r ≡ step_of (next (read_item s lim 1 (param_fits (1, 3)) at) (λ u e. next (read_number s lim 1 anything e) (λ v m. next (judged (unless (leb v 1) malformed) e v m) (λ v m. if_set (bit 0 v) (read_zone s lim) [] m))))
    → r ≡ step_of (read_params s lim timestamp at)
unfolding read_params
timestamp_way r s lim at h =
    h ∙ next_alike (read_item s lim 1 (param_fits (1, 3)) at) _ _ (λ u e.
    sym (map_alike s lim e _ (λ v m. if_set (bit 0 v) (read_zone s lim) [] m) (λ b m. step_made (λ z. u ++ (b ++ z)) (if_set (bit 0 (num b)) (read_zone s lim) [] m))))

pub one_way : (r : Step) (s : Bytes) (lim : ℕ) (p : ℕ × ℕ) (at : ℕ) → r ≡ step_of (read_item s lim p.0 (param_fits p) at) → r ≡ step_of (read_params s lim (items (p ∷ [])) at)
unfolding read_params next
one_way r s lim p at h = h ∙ sym (step_made (λ b. b ++ []) (read_item s lim p.0 (param_fits p) at))

pub two_way : (r : Step) (s : Bytes) (lim : ℕ) (p q : ℕ × ℕ) (at : ℕ) → r ≡ step_of (next (read_item s lim p.0 (param_fits p) at) (λ b e. read_item s lim q.0 (param_fits q) e))
    → r ≡ step_of (read_params s lim (items (p ∷ q ∷ [])) at)
unfolding read_params
two_way r s lim p q at h =
    h ∙ next_alike (read_item s lim p.0 (param_fits p) at) _ _ (λ b e. one_way _ s lim q e refl ∙ sym (step_made (λ r. b ++ r) (read_params s lim (items (q ∷ [])) e)))

-- a longer parameter is any
pub wide_way : (r : Step) (s : Bytes) (lim at : ℕ) → r ≡ step_of (read_item s lim 4 anything at) → r ≡ step_of (read_params s lim (items (any_i32 ∷ [])) at)
unfolding unless judged next
wide_way r s lim at h =
    one_way r s lim any_i32 at (h ∙ sym (step_made (λ b. b) (read_item s lim 4 anything at))
    ∙ next_alike (read_item s lim 4 anything at) _ _ (λ b e. sym (passes b e (leb (num b) 0))) ∙ ap step_of (sym (item_law s lim 4 (param_fits any_i32) at)))
  where
    passes : (b : Bytes) (e : ℕ) (t : Bool) → step_of (judged (unless (t || true) 2) at b e) ≡ Ok e
    passes b e true = refl
    passes b e false = refl

-- by the kind of the code's parameters
pub params_way : (r : Step) (s : Bytes) (lim at code : ℕ) (k : Params) → k ≡ (layout code).params → r ≡ step_of (read_params s lim k at)
    → r ≡ step_of (read_params s lim (layout code).params at)
params_way r s lim at code k h t = t ∙ ap (λ p. step_of (read_params s lim p at)) h

pub none_way : (s : Bytes) (lim at : ℕ) → Ok at ≡ step_of (read_params s lim (items []) at)
unfolding read_params
none_way s lim at = refl
