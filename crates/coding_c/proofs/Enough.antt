-- Enough chunks of an encoding are decoded to its text.
use Rattle.std.proofs.Common.{◌≡◌, ℕ, zero, suc, ◌+◌, ◌-◌, ◌*◌, ◌/◌, ◌%◌, ◌^◌, ◌≤◌, List, [], ◌∷◌, ◌++◌, map, drop, get_or, slice_get, length, All, Some, Ok, Err, Result, refl, sym, ap, subst, ◌∙◌, arith, ⊎_elim}
use Rattle.std.proofs.Math.Nat.{mul-le-mul_left}
use Rattle.std.proofs.lemmas.List.{append-nil, length-map}
use Rattle.std.proofs.lemmas.Option.{get_or_from_slice_get}
use Rattle.cw_base.specs.Counts.{Counts}
use Rattle.cw_base.specs.declared.hash.Digest32.{Digest32}
use Rattle.cw_tree.specs.Chunks.{Piece}
use Rattle.cw_tree.specs.Formats.{chunk_bytes, chunk_at, widest, piece_of_bytes}
use Rattle.cw_tree.specs.Widths.{shard_len}
use Rattle.cw_tree.proofs.WidthLaws.{shard_len-covers}
use Rattle.cw_coding.specs.Checked.{Checked}
use Rattle.cw_coding.specs.Checking.{IsUnder, IsCheckRefusal}
use Rattle.cw_coding.specs.Decoding.{indices_of}
use Rattle.cw_coding.specs.Encoding.{piece_of}
use Rattle.cw_coding.specs.Laws.{EncodingsCheck, EncodingsReadBack, AnyEnoughDecode, IsChunkOf, AreDecodedTo}
use Rattle.cw_coding.specs.Layout.{row_at}
use Rattle.cw_coding.specs.declared.error.RsError.TheVariants.{InvalidShardSize}
use Rattle.cw_coding.specs.declared.error.ReedSolomonError.{ReedSolomonError}
use Rattle.cw_coding.specs.declared.error.ReedSolomonError.TheVariants.{ReedSolomon, Inconsistent, InvalidProof, NotEnoughChunks, DuplicateIndex, InvalidDataLength, InvalidIndex, TooManyTotalShards, CommitmentMismatch, NoMemory}
use Rattle.cw_coding.proofs.CheckingLaws.{listed_get}
use Rattle.cw_coding.proofs.LayoutLaws.{length-row_at}
use Rattle.coding_c.specs.Calls.{hash, content, config_of_numbers, digest_of_bytes, status, IsChunk, IsNotTaken, IsCheckStatus, IsTaken, AreTaken, IsFirstNotTaken, AreChunksOfText, fewest_bytes, most_bytes}

-- ---- bytes are one chunk at the most

digests_back : (ds : List Digest32) → map digest_of_bytes (map content ds) ≡ ds
digests_back [] = refl
digests_back (d ∷ ds) = ap (λ xs. d ∷ xs) (digests_back ds)

lifted : Piece (List ℕ) → Piece Digest32
lifted p =
    record {
      shard = p.shard;
      index = p.index;
      leaf_count = p.leaf_count;
      siblings = map digest_of_bytes p.siblings;
    }

lifted_back : (p : Piece Digest32) → lifted (piece_of_bytes content p) ≡ p
unfolding lifted
lifted_back p =
    ap
    (λ ds. record {
      shard = p.shard;
      index = p.index;
      leaf_count = p.leaf_count;
      siblings = ds;
    })
    (digests_back p.siblings)

read_of : {E : Type 0} → Piece (List ℕ) → Result (Piece (List ℕ) × List ℕ) E → Piece (List ℕ)
read_of d (Ok x) = x.0
read_of d (Err e) = d

pub one_chunk : (k : ℕ) (bytes : List ℕ) (p q : Piece Digest32) → IsChunk k bytes p
    → IsChunk k bytes q → p ≡ q
unfolding read_of
one_chunk k bytes p q a b =
    sym (lifted_back p)
    ∙ ap lifted (ap (read_of (piece_of_bytes content p)) (sym a ∙ b))
    ∙ lifted_back q

-- ---- a chunk that stands is refused for want of memory alone

stands_taken : (c : Counts) (root : Digest32) (p : Piece Digest32)
    → IsUnder hash content c root p.index p → (e : ReedSolomonError)
    → IsCheckRefusal hash content c root p.index p e → e ≡ NoMemory
stands_taken c root p u (TooManyTotalShards n) h =
    let total = u.total in absurd (omega (arith, h.1, total))
stands_taken c root p u (InvalidIndex i) h =
    let within = u.within in
    absurd
    (⊎_elim {C = ⊥} (λ none. omega (arith, none.1, within)) (λ other. other.4 refl) h.1)
stands_taken c root p u (ReedSolomon (InvalidShardSize n)) h =
    absurd (⊎_elim {C = ⊥} (λ none. u.some none) (λ odd. odd u.even) h.3)
stands_taken c root p u InvalidProof h =
    absurd (⊎_elim {C = ⊥} (λ leaves. leaves u.leaves) (λ way. way.2 u.path) h.3)
stands_taken c root p u NoMemory h = refl
stands_taken c root p u Inconsistent h = absurd h
stands_taken c root p u NotEnoughChunks h = absurd h
stands_taken c root p u (DuplicateIndex i) h = absurd h
stands_taken c root p u (InvalidDataLength n) h = absurd h
stands_taken c root p u CommitmentMismatch h = absurd h

-- ---- how long a text is, by the width of its shards

pub fewest_is : (n k : ℕ) → 1 ≤ k → fewest_bytes k (shard_len n k) ≤ n
unfolding shard_len
fewest_is n k h =
    let x : ℕ = n + 4 + (k - 1) in
    let lower : k * (x / k) ≤ x = omega arith in
    go k (x / k) h lower
  where
    go : (k q : ℕ) → 1 ≤ k → k * q ≤ n + 4 + (k - 1) → k * (q + q % 2 - 2) - 3 ≤ n
    go k zero h l = let none : k * 0 ≡ 0 = omega arith in omega (arith, none)
    go k (suc r) h l =
        let below : suc r + suc r % 2 - 2 ≤ r = omega arith in
        let less : k * (suc r + suc r % 2 - 2) ≤ k * r = mul-le-mul_left k below in
        let step : k * suc r ≡ k * r + k = omega arith in
        omega (arith, l, less, step, h)

pub most_is : (n k : ℕ) → 1 ≤ k → n ≤ most_bytes k (shard_len n k)
most_is n k h = let covers = shard_len-covers n k h in omega (arith, covers)

-- ---- chunks of one encoding

module _ (checks : EncodingsCheck hash content) (back : EncodingsReadBack hash content 32)
    (k m : ℕ) (root text : List ℕ) (all : List (List ℕ)) (e : AreChunksOfText k m root text all)
  where
    abbrev Among : Piece Digest32 → Type 0
    Among p = (i : ℕ) × (slice_get e.pieces i ≡ Some p)

    reads : (p : Piece Digest32) → Among p → IsChunk k (chunk_bytes content p) p
    reads p a =
        ap (chunk_at 32 (widest k (2 ^ 32 - 1))) (sym (append-nil (chunk_bytes content p)))
        ∙ (back (config_of_numbers k m) text (digest_of_bytes root) e.pieces (2 ^ 32 - 1) e.some
        e.scheme
        e.scheme.codable.short a.0 p a.1).again []

    under : (p : Piece Digest32) → Among p
        → IsUnder hash content (config_of_numbers k m) (digest_of_bytes root) p.index p
    under p a =
        let there = checks (config_of_numbers k m) text (digest_of_bytes root) e.pieces e.some
        e.scheme a.0 p a.1 in
        subst (λ (i : ℕ). IsUnder hash content (config_of_numbers k m) (digest_of_bytes root) i p)
        (sym there.same) there

    row : (p : Piece Digest32) → Among p → p.shard ≡ row_at k text p.index
    row p a =
        let place =
        listed_get (k + m) (piece_of hash content (config_of_numbers k m) text) a.0 p
        (rw e.scheme.each at a.1)
        in
        ap (λ (q : Piece Digest32). q.shard) place.1
        ∙ ap (row_at k text) (sym (ap (λ (q : Piece Digest32). q.index) place.1))

    -- bytes among those of some chunks are one of them
    found : (before after : List (List ℕ)) (bytes : List ℕ) (ps : List (Piece Digest32))
        → All Among ps → before ++ bytes ∷ after ≡ map (chunk_bytes content) ps
        → (p : Piece Digest32) × Among p × (bytes ≡ chunk_bytes content p)
    found [] after bytes [] a same = absurd (omega (arith, ap length same))
    found [] after bytes (p ∷ ps) a same =
        (p, a 0 p (omega arith), ap (λ xs. get_or xs 0 []) same)
    found (b ∷ before) after bytes [] a same = absurd (omega (arith, ap length same))
    found (b ∷ before) after bytes (p ∷ ps) a same =
        found before after bytes ps (λ i d l. a (suc i) d (omega arith)) (ap (drop 1) same)

    refused : (bytes : List ℕ) (p : Piece Digest32) (code : ℕ) → Among p
        → bytes ≡ chunk_bytes content p
        → IsCheckStatus (config_of_numbers k m) root (λ q. q.index) bytes code → code ≡ 1
    refused bytes p code a is why =
        let here : IsChunk k bytes p = rw is (reads p a) in
        ⊎_elim (λ memory. memory)
        (⊎_elim (λ none. absurd (none.1 p here)) (λ read. stopped read.0 read.1 read.2)) why
      where
        stopped : (q : Piece Digest32) → IsChunk k bytes q
            → IsNotTaken (config_of_numbers k m) root q.index q code → code ≡ 1
        stopped q read said =
            let same : p ≡ q = one_chunk k bytes p q (rw is (reads p a)) read in
            let stands : IsUnder hash content (config_of_numbers k m) (digest_of_bytes root) q.index
            q
            =
            subst (λ (x : Piece Digest32). IsUnder hash content (config_of_numbers k m)
            (digest_of_bytes root) x.index x)
            same (under p a) in
            said.2 ∙ ap status
            (stands_taken (config_of_numbers k m) (digest_of_bytes root) q stands said.0 said.1)

    -- none of the chunks is refused but for want of memory
    pub never_stopped : (code : ℕ) → IsFirstNotTaken (config_of_numbers k m) root all code → code
        ≡ 1
    never_stopped code s =
        let one =
        found s.before s.after s.bytes e.chosen e.among (sym s.are ∙ e.are) in
        refused s.bytes one.0 code one.1 one.2 s.cause

    taken_of : (bs : List (List ℕ)) (xs : List (Checked Digest32)) (ps : List (Piece Digest32))
        → All Among ps → bs ≡ map (chunk_bytes content) ps
        → AreTaken (config_of_numbers k m) root bs xs
        → All (IsChunkOf (config_of_numbers k m) text (digest_of_bytes root)) xs
        × (indices_of xs ≡ map (λ (p : Piece Digest32). p.index) ps)
    taken_of [] [] [] a same are = (λ i d l. absurd (omega arith), refl)
    taken_of [] [] (p ∷ ps) a same are = absurd (omega (arith, ap length same))
    taken_of [] (x ∷ xs) ps a same are = absurd are
    taken_of (b ∷ bs) [] ps a same are = absurd are
    taken_of (b ∷ bs) (x ∷ xs) [] a same are = absurd (omega (arith, ap length same))
    taken_of (b ∷ bs) (x ∷ xs) (p ∷ ps) a same are =
        let rest = taken_of bs xs ps (λ i d l. a (suc i) d (omega arith)) (ap (drop 1) same) are.1
        in
        let among = a 0 p (omega arith) in
        let is : b ≡ chunk_bytes content p = ap (λ ys. get_or ys 0 []) same in
        let it = are.0 in
        let q : p ≡ it.piece = one_chunk k b p it.piece (rw is (reads p among)) it.read in
        let index : x.index ≡ p.index =
        ap (λ (y : Checked Digest32). y.index) it.is
        ∙ sym (ap (λ (y : Piece Digest32). y.index) q) in
        let shard : x.shard ≡ p.shard =
        ap (λ (y : Checked Digest32). y.shard) it.is
        ∙ sym (ap (λ (y : Piece Digest32). y.shard) q) in
        let stands = under p among in
        let one : IsChunkOf (config_of_numbers k m) text (digest_of_bytes root) x =
        record {
          rooted = ap (λ (y : Checked Digest32). y.root) it.is;
          within = rw index stands.within;
          row = shard ∙ row p among ∙ ap (row_at k text) (sym index);
        } in
        (first x xs one rest.0, rw index (ap (λ is. p.index ∷ is) rest.1))
      where
        first : (y : Checked Digest32) (ys : List (Checked Digest32))
            → IsChunkOf (config_of_numbers k m) text (digest_of_bytes root) y
            → All (IsChunkOf (config_of_numbers k m) text (digest_of_bytes root)) ys
            → All (IsChunkOf (config_of_numbers k m) text (digest_of_bytes root)) (y ∷ ys)
        first y ys h hs zero d l = h
        first y ys h hs (suc i) d l = hs i d (omega arith)

    -- how wide the shard is of the chunk that the first bytes are
    pub first_shard : (bytes : List ℕ) (x : Checked Digest32) → slice_get all 0 ≡ Some bytes
        → IsTaken (config_of_numbers k m) root bytes x
        → length x.shard ≡ shard_len (length text) k
    first_shard bytes x at is =
        let one = found [] (drop 1 all) bytes e.chosen e.among (sym (first_of all bytes at) ∙ e.are)
        in
        let are =
        taken_of (bytes ∷ []) (x ∷ []) (one.0 ∷ []) (alone one.0 one.1)
        (ap (λ (b : List ℕ). b ∷ []) one.2) (is, tt) in
        let row = (are.0 0 x (omega arith)).row in
        ap length row ∙ length-row_at k text x.index
      where
        first_of : (bs : List (List ℕ)) (b : List ℕ) → slice_get bs 0 ≡ Some b → bs ≡ b ∷ drop 1 bs
        first_of [] b is =
            let e = get_or_from_slice_get [] 0 b (0 ∷ b) is in absurd (omega (arith, ap length e))
        first_of (c ∷ bs) b is =
            ap (λ (y : List ℕ). y ∷ bs) (get_or_from_slice_get (c ∷ bs) 0 b [] is)

        alone : (p : Piece Digest32) → Among p → All Among (p ∷ [])
        alone p a zero d l = a
        alone p a (suc i) d l = absurd (omega (arith, l))

    -- what they are decoded to
    pub enough_decode : AnyEnoughDecode hash content → (xs : List (Checked Digest32))
        → AreTaken (config_of_numbers k m) root all xs
        → AreDecodedTo hash content (config_of_numbers k m) (digest_of_bytes root) xs text
    enough_decode law xs are =
        let these = taken_of all xs e.chosen e.among e.are are in
        law (config_of_numbers k m) text (digest_of_bytes root) e.pieces xs e.some e.bytes e.scheme
        these.0
        (rw these.1 e.different)
        (omega (
          arith,
          e.enough,
          ap length these.1,
          length-map xs (λ (x : Checked Digest32). x.index),
          length-map e.chosen (λ (p : Piece Digest32). p.index),
        ))
