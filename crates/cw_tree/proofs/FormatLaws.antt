-- Proofs and chunks read back as they were written.
use Rattle.std.proofs.Common.{◌≡◌, ℕ, zero, suc, ◌%◌, ◌^◌, ◌<◌, ◌≤◌, Bool, true, false, cond, nat_lt, List, [], ◌∷◌, ◌++◌, length, map, Ok, Err, refl, sym, ap, subst, ◌∙◌, append_assoc, arith}
use Rattle.std.specs.List.{flat_map}
use Rattle.std.proofs.lemmas.Bool.{ltb-false, le-ltb}
use Rattle.std.proofs.lemmas.List.{length-map}
use Rattle.cw_base.specs.declared.reader.CodecError.{CodecError}
use Rattle.cw_base.specs.declared.reader.CodecError.TheVariants.{TooLong}
use Rattle.cw_base.specs.Bytes.{be16, be32, varint}
use Rattle.cw_base.specs.Reading.{Reading, ◌>>=◌, byte_at, bytes_at, be16_at, be32_at, varint_at}
use Rattle.cw_base.specs.ReadsBack.{ReadsBack, IsBytes}
use Rattle.cw_base.proofs.ReadingLaws.{IsBytes-rest, bind_ok, guard_then, read_is, byte_reads_back, bytes_read_back, be16_reads_back, be32_reads_back, varint_reads_back}
use Rattle.cw_tree.specs.Chunks.{Piece}
use Rattle.cw_tree.specs.Sizes.{AreSized}
use Rattle.cw_tree.specs.Fits.{FitsProof, FitsChunk}
use Rattle.cw_tree.specs.Formats.{proof_bytes, chunk_bytes, digests_at, siblings_at, proof_at, shard_at, chunk_at, piece_of_bytes}

abbrev same : List ℕ → List ℕ
same bytes = bytes

abbrev first_of : List ℕ → List (List ℕ) × List ℕ → Reading (List (List ℕ))
first_of d others = Ok (d ∷ others.0, others.1)

abbrev others_of : (size n : ℕ) → List ℕ × List ℕ → Reading (List (List ℕ))
others_of size n first = digests_at size n first.1 >>= first_of first.0

-- digests that were read
record AreRead (size n : ℕ) (bytes rest : List ℕ) (ds : List (List ℕ)) : Type 0 where
  parts : bytes ≡ flat_map same ds ++ rest
  count : length ds ≡ n
  digests : AreSized same size ds

digests_found : (size n : ℕ) (bytes rest : List ℕ) (ds : List (List ℕ)) → IsBytes bytes
    → digests_at size n bytes ≡ Ok (ds, rest) → AreRead size n bytes rest ds
digests_found size zero bytes rest ds fits e =
    let is = read_is ([], bytes) (ds, rest) e in
    subst (λ (xs : List (List ℕ)). AreRead size zero bytes rest xs) is.0
    (record { parts = is.1; count = refl; digests = tt })
digests_found size (suc n) bytes rest ds fits e =
    let a = bind_ok (bytes_at size bytes) (others_of size n) (ds, rest) e in
    let d = a.0 in
    let b = bind_ok (digests_at size n d.1) (first_of d.0) (ds, rest) a.2 in
    let first = (bytes_read_back size).found bytes d.1 d.0 fits a.1 in
    let more = digests_found size n d.1 b.0.1 b.0.0 (IsBytes-rest bytes d.0 d.1 first.0 fits) b.1 in
    let is = read_is (d.0 ∷ b.0.0, b.0.1) (ds, rest) b.2 in
    let parts : bytes ≡ (d.0 ++ flat_map same b.0.0) ++ b.0.1 =
    first.0 ∙ ap (λ (ys : List ℕ). d.0 ++ ys) more.parts
    ∙ sym (append_assoc d.0 (flat_map same b.0.0) b.0.1) in
    let whole : AreRead size (suc n) bytes rest (d.0 ∷ b.0.0) =
    record {
      parts = rw is.1 at parts;
      count = ap suc more.count;
      digests = (first.1, more.digests);
    } in
    subst (λ (xs : List (List ℕ)). AreRead size (suc n) bytes rest xs) is.0 whole

digests_again : (size n : ℕ) (ds : List (List ℕ)) (rest : List ℕ) → length ds ≡ n
    → AreSized same size ds → digests_at size n (flat_map same ds ++ rest) ≡ Ok (ds, rest)
digests_again size zero [] rest count fits = refl
digests_again size zero (d ∷ ds) rest count fits = absurd cc
digests_again size (suc n) [] rest count fits = absurd cc
digests_again size (suc n) (d ∷ ds) rest count fits =
    let less : length ds ≡ n = omega arith in
    let more : bytes_at size (d ++ (flat_map same ds ++ rest)) ≡ Ok (d, flat_map same ds ++ rest) =
    (bytes_read_back size).again d (flat_map same ds ++ rest) fits.0 in
    ap (digests_at size (suc n)) (append_assoc d (flat_map same ds) rest)
    ∙ rw (more, digests_again size n ds rest less fits.1) refl

abbrev sibling_bytes : List (List ℕ) → List ℕ
sibling_bytes ds = (length ds % 2 ^ 8) ∷ flat_map same ds

-- at most 32 digests
record AreSiblings (size : ℕ) (ds : List (List ℕ)) : Type 0 where
  few : length ds ≤ 32
  digests : AreSized same size ds

abbrev counted_of : ℕ → ℕ × List ℕ → Reading (List (List ℕ))
counted_of size count =
    cond (nat_lt 32 count.0) (Err (TooLong, count.1)) (digests_at size count.0 count.1)

siblings_read_back : (size : ℕ) → ReadsBack sibling_bytes (AreSiblings size) (siblings_at size)
unfolding siblings_at
siblings_read_back size = record { found = found; again = again }
  where
    found : (bytes rest : List ℕ) (ds : List (List ℕ)) → IsBytes bytes
        → byte_at bytes >>= counted_of size ≡ Ok (ds, rest)
        → (bytes ≡ sibling_bytes ds ++ rest) × AreSiblings size ds
    found bytes rest ds fits e =
        let a = bind_ok (byte_at bytes) (counted_of size) (ds, rest) e in
        let count = a.0 in
        let first = byte_reads_back.found bytes count.1 count.0 fits a.1 in
        let g =
        guard_then (nat_lt 32 count.0) (TooLong, count.1) (digests_at size count.0 count.1)
        (ds, rest) a.2 in
        let more =
        digests_found size count.0 count.1 rest ds
        (IsBytes-rest bytes (count.0 ∷ []) count.1 first.0 fits) g.1 in
        let few : count.0 ≤ 32 = ltb-false 32 count.0 g.0 in
        let is = more.count in
        let low : count.0 ≡ length ds % 2 ^ 8 = omega arith in (
          first.0 ∙ ap (λ n. n ∷ count.1) low ∙ ap (λ ys. (length ds % 2 ^ 8) ∷ ys) more.parts,
          record { few = omega arith; digests = more.digests },
        )

    again : (ds : List (List ℕ)) (rest : List ℕ) → AreSiblings size ds
        → byte_at (sibling_bytes ds ++ rest) >>= counted_of size ≡ Ok (ds, rest)
    again ds rest fits =
        let few = fits.few in
        let low : length ds % 2 ^ 8 ≡ length ds = omega arith in
        let within : nat_lt 32 (length ds) ≡ false = le-ltb 32 (length ds) few in
        rw (low, within) (digests_again size (length ds) ds rest refl fits.digests)

abbrev leaf_of : ℕ → List (List ℕ) × List ℕ → Reading (ℕ × List (List ℕ))
leaf_of n ds = Ok ((n, ds.0), ds.1)

abbrev behind_leaf : ℕ → ℕ × List ℕ → Reading (ℕ × List (List ℕ))
behind_leaf size n = siblings_at size n.1 >>= leaf_of n.0

pub proof_reads_back : (size : ℕ)
    → ReadsBack (λ p. proof_bytes (λ sibling. sibling) p.0 p.1) (FitsProof size) (proof_at size)
unfolding proof_at proof_bytes
proof_reads_back size = record { found = found; again = again }
  where
    found : (bytes rest : List ℕ) (p : ℕ × List (List ℕ)) → IsBytes bytes
        → be32_at bytes >>= behind_leaf size ≡ Ok (p, rest) →
        (bytes ≡ be32 p.0 ++ sibling_bytes p.1 ++ rest) × FitsProof size p
    found bytes rest p fits e =
        let a = bind_ok (be32_at bytes) (behind_leaf size) (p, rest) e in
        let n = a.0 in
        let b = bind_ok (siblings_at size n.1) (leaf_of n.0) (p, rest) a.2 in
        let ds = b.0 in
        let first = be32_reads_back.found bytes n.1 n.0 fits a.1 in
        let second =
        (siblings_read_back size).found n.1 ds.1 ds.0
        (IsBytes-rest bytes (be32 n.0) n.1 first.0 fits) b.1 in
        let is = read_is ((n.0, ds.0), ds.1) (p, rest) b.2 in
        let parts : bytes ≡ be32 n.0 ++ sibling_bytes ds.0 ++ ds.1 =
        first.0 ∙ ap (λ (ys : List ℕ). be32 n.0 ++ ys) second.0
        ∙ sym (append_assoc (be32 n.0) (sibling_bytes ds.0) ds.1) in
        let whole : (bytes ≡ be32 n.0 ++ sibling_bytes ds.0 ++ rest)
        × FitsProof size (n.0, ds.0) = (
          rw is.1 at parts,
          record {
            leaf_count = first.1;
            few = second.1.few;
            digests = second.1.digests;
          },
        ) in
        subst
        (λ (q : ℕ × List (List ℕ)). (bytes ≡ be32 q.0 ++ sibling_bytes q.1 ++ rest)
        × FitsProof size q)
        is.0 whole

    again : (p : ℕ × List (List ℕ)) (rest : List ℕ) → FitsProof size p
        → be32_at (be32 p.0 ++ sibling_bytes p.1 ++ rest) >>= behind_leaf size ≡ Ok (p, rest)
    again p rest fits =
        let regrouped = append_assoc (be32 p.0) (sibling_bytes p.1) rest in
        let second =
        (siblings_read_back size).again p.1 rest (record {
          few = fits.few;
          digests = fits.digests;
        }) in
        ap (λ bytes. be32_at bytes >>= behind_leaf size) regrouped
        ∙ rw (be32_reads_back.again p.0 (sibling_bytes p.1 ++ rest) fits.leaf_count, second) refl

abbrev bounded_of : ℕ → ℕ × List ℕ → Reading (List ℕ)
bounded_of bound long = cond (nat_lt bound long.0) (Err (TooLong, long.1)) (bytes_at long.0 long.1)

-- a shard within a bound
record IsShard (bound : ℕ) (shard : List ℕ) : Type 0 where
  narrow : length shard ≤ bound
  short : length shard < 2 ^ 32

abbrev shard_bytes : List ℕ → List ℕ
shard_bytes shard = varint (length shard % 2 ^ 32) ++ shard

shard_reads_back : (bound : ℕ) → ReadsBack shard_bytes (IsShard bound) (shard_at bound)
unfolding shard_at
shard_reads_back bound = record { found = found; again = again }
  where
    found : (bytes rest shard : List ℕ) → IsBytes bytes
        → varint_at bytes >>= bounded_of bound ≡ Ok (shard, rest)
        → (bytes ≡ varint (length shard % 2 ^ 32) ++ shard ++ rest) × IsShard bound shard
    found bytes rest shard fits e =
        let a = bind_ok (varint_at bytes) (bounded_of bound) (shard, rest) e in
        let long = a.0 in
        let first = varint_reads_back.found bytes long.1 long.0 fits a.1 in
        let g =
        guard_then (nat_lt bound long.0) (TooLong, long.1) (bytes_at long.0 long.1)
        (shard, rest) a.2 in
        let second =
        (bytes_read_back long.0).found long.1 rest shard
        (IsBytes-rest bytes (varint long.0) long.1 first.0 fits) g.1 in
        let within : long.0 ≤ bound = ltb-false bound long.0 g.0 in
        let short : long.0 < 2 ^ 32 = first.1 in
        let is : length shard ≡ long.0 = second.1 in
        let low : long.0 ≡ length shard % 2 ^ 32 = omega arith in (
          first.0 ∙ ap (λ n. varint n ++ long.1) low
              ∙ ap (λ ys. varint (length shard % 2 ^ 32) ++ ys) second.0
              ∙ sym (append_assoc (varint (length shard % 2 ^ 32)) shard rest),
          record { narrow = omega arith; short = omega arith },
        )

    again : (shard rest : List ℕ) → IsShard bound shard
        → varint_at (varint (length shard % 2 ^ 32) ++ shard ++ rest) >>= bounded_of bound
        ≡ Ok (shard, rest)
    again shard rest fits =
        let narrow = fits.narrow in
        let short = fits.short in
        let low : length shard % 2 ^ 32 ≡ length shard = omega arith in
        let within : nat_lt bound (length shard) ≡ false = le-ltb bound (length shard) narrow in
        let regrouped = append_assoc (varint (length shard % 2 ^ 32)) shard rest in
        ap (λ bytes. varint_at bytes >>= bounded_of bound) regrouped
        ∙ rw (low, varint_reads_back.again (length shard) (shard ++ rest) short, within)
        ((bytes_read_back (length shard)).again shard rest refl)

abbrev chunk_of : List ℕ → ℕ → (ℕ × List (List ℕ)) × List ℕ → Reading (Piece (List ℕ))
chunk_of shard index proof =
    Ok (
      record {
        shard = shard;
        index = index;
        leaf_count = proof.0.0;
        siblings = proof.0.1;
      },
      proof.1,
    )

abbrev behind_index : ℕ → List ℕ → ℕ × List ℕ → Reading (Piece (List ℕ))
behind_index size shard index = proof_at size index.1 >>= chunk_of shard index.0

abbrev behind_shard : ℕ → List ℕ × List ℕ → Reading (Piece (List ℕ))
behind_shard size shard = be16_at shard.1 >>= behind_index size shard.0

pub chunk_reads_back : (size bound : ℕ)
    → ReadsBack (chunk_bytes (λ sibling. sibling)) (FitsChunk size bound) (chunk_at size bound)
unfolding chunk_at chunk_bytes
chunk_reads_back size bound = record { found = found; again = again }
  where
    way : Piece (List ℕ) → List ℕ
    way p = proof_bytes (λ sibling. sibling) p.leaf_count p.siblings

    found : (bytes rest : List ℕ) (p : Piece (List ℕ)) → IsBytes bytes
        → shard_at bound bytes >>= behind_shard size ≡ Ok (p, rest) →
        (bytes ≡ varint (length p.shard % 2 ^ 32) ++ p.shard ++ be16 p.index ++ way p ++ rest)
        × FitsChunk size bound p
    found bytes rest p fits e =
        let a = bind_ok (shard_at bound bytes) (behind_shard size) (p, rest) e in
        let s = a.0 in
        let b = bind_ok (be16_at s.1) (behind_index size s.0) (p, rest) a.2 in
        let i = b.0 in
        let c = bind_ok (proof_at size i.1) (chunk_of s.0 i.0) (p, rest) b.2 in
        let w = c.0 in
        let first = (shard_reads_back bound).found bytes s.1 s.0 fits a.1 in
        let rest1 = IsBytes-rest bytes (shard_bytes s.0) s.1 first.0 fits in
        let second = be16_reads_back.found s.1 i.1 i.0 rest1 b.1 in
        let third =
        (proof_reads_back size).found i.1 w.1 w.0
        (IsBytes-rest s.1 (be16 i.0) i.1 second.0 rest1) c.1 in
        let q : Piece (List ℕ) =
        record { shard = s.0; index = i.0; leaf_count = w.0.0; siblings = w.0.1 } in
        let is = read_is (q, w.1) (p, rest) c.2 in
        let parts : bytes ≡ shard_bytes s.0 ++ be16 i.0 ++ way q ++ w.1 =
        first.0
        ∙ ap (λ (ys : List ℕ). shard_bytes s.0 ++ ys)
        (second.0 ∙ ap (λ (ys : List ℕ). be16 i.0 ++ ys) third.0)
        ∙ sym (append_assoc (shard_bytes s.0) (be16 i.0) (way q ++ w.1))
        ∙ sym (append_assoc (shard_bytes s.0 ++ be16 i.0) (way q) w.1) in
        let whole : (bytes ≡ shard_bytes q.shard ++ be16 q.index ++ way q ++ rest)
        × FitsChunk size bound q = (
          rw is.1 at parts,
          record {
            narrow = first.1.narrow;
            short = first.1.short;
            index = second.1;
            proof = third.1;
          },
        ) in
        subst
        (λ (x : Piece (List ℕ)). (bytes ≡ shard_bytes x.shard ++ be16 x.index ++ way x ++ rest)
        × FitsChunk size bound x)
        is.0 whole

    again : (p : Piece (List ℕ)) (rest : List ℕ) → FitsChunk size bound p →
        shard_at bound
        (varint (length p.shard % 2 ^ 32) ++ p.shard ++ be16 p.index ++ way p ++ rest) >>=
        behind_shard size
        ≡ Ok (p, rest)
    again p rest fits =
        let regrouped : shard_bytes p.shard ++ be16 p.index ++ way p ++ rest
        ≡ shard_bytes p.shard ++ (be16 p.index ++ (way p ++ rest)) =
        append_assoc (shard_bytes p.shard ++ be16 p.index) (way p) rest
        ∙ append_assoc (shard_bytes p.shard) (be16 p.index) (way p ++ rest) in
        let first =
        (shard_reads_back bound).again p.shard (be16 p.index ++ (way p ++ rest))
        (record { narrow = fits.narrow; short = fits.short }) in
        let second = be16_reads_back.again p.index (way p ++ rest) fits.index in
        let third = (proof_reads_back size).again (p.leaf_count, p.siblings) rest fits.proof in
        ap (λ bytes. shard_at bound bytes >>= behind_shard size) regrouped
        ∙ rw (first, second, third) refl

-- ---- digests of any type

flat_same : {D : Type 0} (content : D → List ℕ) (ds : List D)
    → flat_map content ds ≡ flat_map same (map content ds)
flat_same content [] = refl
flat_same content (d ∷ ds) = ap (λ xs. content d ++ xs) (flat_same content ds)

-- a proof and a chunk have the bytes that they have with the bytes of their siblings
pub proof_bytes_same : {D : Type 0} (content : D → List ℕ) (leaf_count : ℕ) (siblings : List D) →
    proof_bytes content leaf_count siblings
    ≡ proof_bytes (λ sibling. sibling) leaf_count (map content siblings)
unfolding proof_bytes
proof_bytes_same content leaf_count siblings =
    let count : length siblings ≡ length (map content siblings) =
    sym (length-map siblings content) in
    rw (flat_same content siblings, count) refl

pub chunk_bytes_same : {D : Type 0} (content : D → List ℕ) (p : Piece D)
    → chunk_bytes content p ≡ chunk_bytes (λ sibling. sibling) (piece_of_bytes content p)
unfolding chunk_bytes
chunk_bytes_same content p =
    ap (λ way. varint (length p.shard % 2 ^ 32) ++ p.shard ++ be16 p.index ++ way)
    (proof_bytes_same content p.leaf_count p.siblings)

maps_told : {D : Type 0} (content : D → List ℕ) → ((a b : D) → content a ≡ content b → a ≡ b)
    → (xs ys : List D) → map content xs ≡ map content ys → xs ≡ ys
maps_told content told [] [] e = refl
maps_told content told [] (y ∷ ys) e = absurd cc
maps_told content told (x ∷ xs) [] e = absurd cc
maps_told content told (x ∷ xs) (y ∷ ys) e =
    let first : content x ≡ content y = cc in
    let more : map content xs ≡ map content ys = cc in
    ap (λ z. z ∷ xs) (told x y first) ∙ ap (λ zs. y ∷ zs) (maps_told content told xs ys more)

-- chunks that are one with the bytes of their siblings are one
pub pieces_told : {D : Type 0} (content : D → List ℕ) → ((a b : D) → content a ≡ content b → a ≡ b)
    → (p q : Piece D) → piece_of_bytes content p ≡ piece_of_bytes content q → p ≡ q
pieces_told {D = D} content told p q e =
    let siblings : p.siblings ≡ q.siblings =
    maps_told content told p.siblings q.siblings (ap (λ (x : Piece (List ℕ)). x.siblings) e) in
    let shard : p.shard ≡ q.shard = ap (λ (x : Piece (List ℕ)). x.shard) e in
    let index : p.index ≡ q.index = ap (λ (x : Piece (List ℕ)). x.index) e in
    let leaf_count : p.leaf_count ≡ q.leaf_count = ap (λ (x : Piece (List ℕ)). x.leaf_count) e in
    let make : List ℕ → ℕ → ℕ → List D → Piece D =
    λ s i n ds. record { shard = s; index = i; leaf_count = n; siblings = ds } in
    ap (λ s. make s p.index p.leaf_count p.siblings) shard
    ∙ ap (λ i. make q.shard i p.leaf_count p.siblings) index
    ∙ ap (λ n. make q.shard q.index n p.siblings) leaf_count
    ∙ ap (λ ds. make q.shard q.index q.leaf_count ds) siblings
