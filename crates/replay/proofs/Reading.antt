-- Laws of what is read of the list, and of where it is put.
use Rattle.std.proofs.Common.{◌≡◌, ℕ, ◌+◌, ◌-◌, ◌<◌, ◌≤◌, min, Option, List, [], ◌∷◌, ◌++◌, refl, sym, ap, ◌∙◌, subst, ⊎_elim, arith, length, take, set, replicate, le_refl, drop_at, length-take-le, length-append, append_assoc, append-nil, take_all}
use Rattle.std.specs.Int.{to_le_bytes, w16}
use Rattle.std.specs.Io.KnownBytes.{Consumes}
use Rattle.std.proofs.KnownBytes.{Consumes-nil, Consumes-trans}
use Rattle.std.proofs.lemmas.Bool.{cases_lt}
use Rattle.std.proofs.lemmas.List.{length-replicate, take_at, take_min, take_more_set, take-replicate}
use Rattle.std.proofs.lemmas.Slice.{take-put_mid_below}
use borrow.Rule.Slice.PartMut.{put_mid, post_of}
use lib.Seq.{take-add, take-append-le, take-append-add}
use Rattle.replay.specs.Reads.{WithZeros, Reads}
use Rattle.replay.specs.Reads.WithZeros.{nothing, came, missing}

WithZeros-same : (xs : List ℕ) → WithZeros xs xs
WithZeros-same [] = nothing
WithZeros-same (x ∷ xs) = came x (WithZeros-same xs)

WithZeros-append : {xs ys : List ℕ} (us vs : List ℕ) → WithZeros xs ys → WithZeros us vs → WithZeros (xs ++ us) (ys ++ vs)
WithZeros-append us vs nothing q = q
WithZeros-append us vs (came x p) q = came x (WithZeros-append us vs p q)
WithZeros-append us vs (missing p) q = missing (WithZeros-append us vs p q)

-- nothing was read
pub Reads-nil : (a : Option (List ℕ)) → Reads a a []
Reads-nil a = ([], Consumes-nil a, nothing)

-- bytes that came
pub Reads-came : (a b : Option (List ℕ)) (bs : List ℕ) → Consumes a b bs → Reads a b bs
Reads-came a b bs p = (bs, p, WithZeros-same bs)

-- a byte that could not be read
pub Reads-missing : (a b : Option (List ℕ)) → Consumes a b [] → Reads a b (0 ∷ [])
Reads-missing a b p = ([], p, missing nothing)

-- bytes, and those behind them
pub Reads-append : (a b c : Option (List ℕ)) (bs cs : List ℕ) → Reads a b bs → Reads b c cs → Reads a c (bs ++ cs)
Reads-append a b c bs cs p q = (p.0 ++ q.0, Consumes-trans a b c p.0 q.0 p.1 q.1, WithZeros-append q.0 cs p.2 q.2)

-- a count, and what is counted
pub Reads-counted : (a b c : Option (List ℕ)) (n k : ℕ) (bs : List ℕ) → n ≡ k → Reads a b (to_le_bytes w16 n) → Reads b c bs → Reads a c (to_le_bytes w16 k ++ bs)
Reads-counted a b c n k bs h p q = Reads-append a b c _ bs (subst (λ i. Reads a b (to_le_bytes w16 i)) h p) q

-- a piece, some of whose bytes are kept
pub Reads-piece : (a b c d e f : Option (List ℕ)) (n often byte : ℕ) (kept rest : List ℕ) → n ≡ length (kept ++ rest)
    → Reads a b (to_le_bytes w16 n) → Reads b c kept → Reads c d rest → Reads d e (to_le_bytes w16 often) → Reads e f (byte ∷ [])
    → Reads a f (to_le_bytes w16 (length (kept ++ rest)) ++ ((kept ++ rest) ++ (to_le_bytes w16 often ++ byte ∷ [])))
Reads-piece a b c d e f n often byte kept rest h p q r s t =
    Reads-counted a b f n _ _ h p (Reads-append b d f _ _ (Reads-append b c d _ _ q r) (Reads-append d e f _ _ s t))

-- of a list with a part written over from `at` on: the first bytes, n of the part among them
pub take_read : (at k n : ℕ) (xs ys : List ℕ) → at ≤ length xs → n ≤ length ys → take at xs ++ take n ys ≡ take (at + n) (put_mid at k xs ys)
take_read at k n xs ys h m =
    rw (take-add at n (put_mid at k xs ys), take-put_mid_below at k xs ys at (le_refl at) h, drop_at (take at xs) (ys ++ post_of at k xs) at (length-take-le at xs h), take-append-le n ys (post_of at k xs) m)

-- the same, with a 0 put there
pub take_zero : (at k : ℕ) (xs ys : List ℕ) → at ≤ length xs → at < length (put_mid at k xs ys) → take at xs ++ 0 ∷ [] ≡ take (at + 1) (set (put_mid at k xs ys) at 0)
take_zero at k xs ys h m = ap (λ l. l ++ 0 ∷ []) (sym (take-put_mid_below at k xs ys at (le_refl at) h)) ∙ sym (take_more_set (put_mid at k xs ys) at 0 m)

-- what fits into a room, and what then fits into what is left of it
pub take_join : (room used : ℕ) (xs ys us vs : List ℕ) → us ≡ take room xs → length us ≡ used → vs ≡ take (room - used) ys → us ++ vs ≡ take room (xs ++ ys)
take_join room used xs ys us vs p q r =
    ⊎_elim
    (λ (h : room < length xs).
    let all : used ≡ room = sym q ∙ ap length p ∙ length-take-le room xs (omega arith) in
    let none : room - used ≡ 0 = omega arith in
    ap (λ l. us ++ l) (r ∙ ap (λ n. take n ys) none) ∙ append-nil us ∙ p ∙ sym (take-append-le room xs ys (omega arith)))
    (λ (h : length xs ≤ room).
    let whole : us ≡ xs = p ∙ take_all room xs h in
    let same : used ≡ length xs = sym q ∙ ap length whole in
    let split : length xs + (room - length xs) ≡ room = omega arith in
    ap (λ l. l ++ vs) whole ∙ ap (λ l. xs ++ l) (r ∙ ap (λ n. take (room - n) ys) same) ∙ sym (take-append-add xs ys (room - length xs)) ∙ ap (λ n. take n (xs ++ ys)) split)
    (cases_lt room (length xs))

-- a piece in a room: the bytes kept, and its byte as often as there is room behind them
pub take_piece : (room n often byte m end : ℕ) (kept rest filled : List ℕ) → length kept ≡ min n room → n ≡ length (kept ++ rest)
    → end ≡ min (length kept + often) room → length filled ≡ end - length kept → filled ≡ replicate m byte
    → kept ++ filled ≡ take room ((kept ++ rest) ++ replicate often byte)
take_piece room n often byte m end kept rest filled k l e f g =
    let least : min room (length (kept ++ rest)) ≡ length kept = omega arith in
    let first : kept ≡ take room (kept ++ rest) = sym (take_at kept rest (length kept) refl) ∙ ap (λ i. take i (kept ++ rest)) (sym least) ∙ take_min room (kept ++ rest) in
    let left : ℕ = room - length kept in
    let count : m ≡ min left (length (replicate often byte)) = omega (arith, sym (length-replicate m byte) ∙ ap length (sym g), length-replicate often byte) in
    let more : filled ≡ take left (replicate often byte) =
    g ∙ ap (λ i. replicate i byte) count ∙ sym (take-replicate (min left (length (replicate often byte))) often byte (omega (arith, length-replicate often byte))) ∙ take_min left (replicate often byte) in
    take_join room (length kept) (kept ++ rest) (replicate often byte) kept filled first refl more

-- the first bytes of a buffer that two parts were written to, one behind the other
pub take_both : (at end : ℕ) (kept filled after post : List ℕ) → length kept ≡ at → length filled ≡ end - at → at ≤ end
    → take end (take at (kept ++ after) ++ (filled ++ post)) ≡ kept ++ filled
take_both at end kept filled after post h k l =
    ap (λ x. take end (x ++ (filled ++ post))) (take_at kept after at h) ∙ ap (take end) (sym (append_assoc kept filled post)) ∙ take_at (kept ++ filled) post end (omega (arith, length-append kept filled))
