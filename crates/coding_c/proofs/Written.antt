-- What is written for chunks, one behind the other.
use Rattle.std.proofs.Common.{◌≡◌, ◌≢◌, ℕ, zero, suc, ◌+◌, ◌*◌, ◌<◌, ◌≤◌, List, [], ◌∷◌, ◌++◌, map, take, get_or, slice_get, length, All, Some, refl, sym, ap, ◌∙◌, arith, inl, inr, ⊎_elim}
use Rattle.std.specs.List.{flat_map}
use Rattle.std.proofs.Math.Nat.{mul-le-mul_left}
use Rattle.std.proofs.lemmas.List.{take_more, map-append, length-append, length-map}
use Rattle.cw_base.specs.declared.hash.Digest32.{Digest32}
use Rattle.cw_base.proofs.Listed.{length-listed}
use Rattle.cw_tree.specs.Chunks.{Piece}
use Rattle.cw_tree.specs.Formats.{chunk_bytes}
use Rattle.cw_tree.proofs.WidthLaws.{shard_len-mono}
use Rattle.cw_coding.specs.Encoding.{piece_of, IsEncodable}
use Rattle.cw_coding.specs.Laws.{EncodingsFit}
use Rattle.cw_coding.specs.declared.error.ReedSolomonError.TheVariants.{ReedSolomon, Inconsistent, InvalidProof, NotEnoughChunks, DuplicateIndex, InvalidDataLength, InvalidIndex, TooManyTotalShards, CommitmentMismatch, NoMemory}
use Rattle.coding_c.specs.Calls.{HoldsChunks, HoldsEncodings, IsChunkRoom, IsRoom, HasChunkRoom, HasNoRoom, IsEncoded, IsEncodeStatus, config_of_numbers, content, digest_of_bytes, hash, size_of}

-- one more item's size
pub size_more : {X : Type 0} (size : X → ℕ) (xs : List X) (i : ℕ) (x : X) (before after : List ℕ)
    (n : ℕ)
    → i < length xs → x ≡ get_or xs i x → before ≡ map size (take i xs) → after ≡ before ++ n ∷ []
    → n ≡ size x → after ≡ map size (take (i + 1) xs)
size_more size xs i x before after n h is so more same =
    more ∙ ap (λ ns. ns ++ n ∷ []) so
    ∙ ap (λ y. map size (take i xs) ++ y ∷ []) (same ∙ ap size is)
    ∙ sym (map-append size (take i xs) (get_or xs i x ∷ []))
    ∙ ap (map size) (sym (take_more xs i x h))

-- the sizes of chunks, none of which is above a bound
all_sizes : (pieces : List (Piece Digest32)) (n : ℕ)
    → ((i : ℕ) (p : Piece Digest32) → slice_get pieces i ≡ Some p → size_of p ≤ n)
    → All (λ size. size ≤ n) (map size_of pieces)
all_sizes [] n h i d l = absurd (omega arith)
all_sizes (p ∷ ps) n h zero d l = h 0 p refl
all_sizes (p ∷ ps) n h (suc i) d l = all_sizes ps n (λ j q e. h (suc j) q e) i d (omega arith)

-- chunks, none of which is above a bound, end to end
all_bytes : (pieces : List (Piece Digest32)) (n : ℕ)
    → ((i : ℕ) (p : Piece Digest32) → slice_get pieces i ≡ Some p → size_of p ≤ n)
    → length (flat_map (chunk_bytes content) pieces) ≤ length pieces * n
all_bytes [] n h = omega arith
all_bytes (p ∷ ps) n h =
    let first : size_of p ≤ n = h 0 p refl in
    let rest = all_bytes ps n (λ j q e. h (suc j) q e) in
    let more : suc (length ps) * n ≡ n + length ps * n = omega arith in
    omega (
      arith,
      first,
      rest,
      more,
      length-append (chunk_bytes content p) (flat_map (chunk_bytes content) ps),
    )

module _ (law : EncodingsFit hash content 32) (k m most size : ℕ) (some : 1 ≤ k)
    (room : IsChunkRoom (config_of_numbers k m) most size)
  where
    each_below : (text root bytes sizes : List ℕ) (e : IsEncoded k m text root bytes sizes)
        → length text ≤ most → (i : ℕ) (p : Piece Digest32) → slice_get e.pieces i ≡ Some p
        → size_of p ≤ size
    each_below text root bytes sizes e short i p at =
        rw room.2 (
        law (config_of_numbers k m) text (digest_of_bytes root) e.pieces most room.0 some e.scheme
        short room.1 i p at
        )

    -- what the scheme says of the size of chunks
    pub sizes_hold : HoldsChunks k m most size
    sizes_hold text root bytes sizes e short =
        rw e.each (all_sizes e.pieces size (each_below text root bytes sizes e short))

    -- and of all of them together
    pub encodings_hold : HoldsEncodings k m most ((k + m) * size)
    encodings_hold text root bytes sizes e short =
        let below = all_bytes e.pieces size (each_below text root bytes sizes e short) in
        let count : length e.pieces ≡ k + m =
        ap length e.scheme.each
        ∙ length-listed (k + m) (piece_of hash content (config_of_numbers k m) text) in
        rw e.chunks (rw count at below)

-- an encoding has the room that was found for it
pub room_found : EncodingsFit hash content 32 → (k m : ℕ) (text root bytes sizes : List ℕ)
    (room places : ℕ)
    → 1 ≤ k → IsEncoded k m text root bytes sizes
    → (IsEncodable (config_of_numbers k m) (length text)
    → HasChunkRoom (config_of_numbers k m) (length text) room places)
    → (length bytes ≤ room) × (length sizes ≤ places)
room_found law k m text root bytes sizes room places some e found =
    let has =
    found (record { total = e.scheme.total; codable = e.scheme.codable }) in
    let hold =
    encodings_hold law k m (length text) has.1.0 some has.1.1 text root bytes sizes e (omega arith)
    in
    let count : length sizes ≡ k + m =
    ap length e.each
    ∙ length-map e.pieces size_of
    ∙ ap length e.scheme.each
    ∙ length-listed (k + m) (piece_of hash content (config_of_numbers k m) text) in
    let is = has.1.2 in
    let enough = has.2 in
    let many = has.3 in
    (omega (arith, hold, is, enough), omega (arith, count, many))

-- room for a longer text is room for a shorter one
pub no_less : (k m n room places needed : ℕ) → 1 ≤ k
    → HasNoRoom (config_of_numbers k m) n room places needed → (most enough : ℕ) → n ≤ most
    → IsRoom (config_of_numbers k m) most enough → enough ≤ room → k + m ≤ places → ⊥
no_less k m n room places needed some none most enough short is has many =
    let low = none.needs.1.1.least is.1.0 is.1.1.enough in
    let narrow = shard_len-mono n most k some short in
    let own = none.needs.1.2 in
    let other = is.1.2 in
    let each : none.needs.0 ≤ is.0 = omega (arith, low, narrow, own, other) in
    let all : (k + m) * none.needs.0 ≤ (k + m) * is.0 = mul-le-mul_left (k + m) each in
    let first = none.needs.2 in
    let second = is.2 in
    ⊎_elim {C = ⊥} (λ less. omega (arith, less, has, all, first, second))
    (λ less. omega (arith, less, many)) none.less

-- no refusal of the scheme is for want of room
pub not_for_room : (k m n code : ℕ) → IsEncodeStatus k m n code → code ≢ 5
not_for_room k m n code (inl none) e = let is = none.0 in omega (arith, is, e)
not_for_room k m n code (inr (TooManyTotalShards t, why, is)) e = omega (arith, is, e)
not_for_room k m n code (inr (InvalidDataLength l, why, is)) e = omega (arith, is, e)
not_for_room k m n code (inr (NoMemory, why, is)) e = omega (arith, is, e)
not_for_room k m n code (inr (ReedSolomon x, why, is)) e = absurd why
not_for_room k m n code (inr (Inconsistent, why, is)) e = absurd why
not_for_room k m n code (inr (InvalidProof, why, is)) e = absurd why
not_for_room k m n code (inr (NotEnoughChunks, why, is)) e = absurd why
not_for_room k m n code (inr (DuplicateIndex i, why, is)) e = absurd why
not_for_room k m n code (inr (InvalidIndex i, why, is)) e = absurd why
not_for_room k m n code (inr (CommitmentMismatch, why, is)) e = absurd why
