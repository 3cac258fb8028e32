-- How many bytes proofs and chunks have.
use Rattle.std.proofs.Common.{◌≡◌, ℕ, zero, suc, ◌+◌, ◌-◌, ◌*◌, ◌/◌, ◌%◌, ◌^◌, ◌≤◌, Bool, true, false, cond, nat_lt, List, [], ◌∷◌, ◌++◌, length, take, drop, eqb, refl, ◌∙◌, arith, length-append}
use Rattle.std.specs.List.{flat_map}
use Rattle.cw_base.specs.Bytes.{be16, be32, varint, varint_within}
use Rattle.cw_base.proofs.Lengths.{length-be16, length-be32}
use Rattle.cw_tree.specs.Chunks.{Piece}
use Rattle.std.proofs.Math.Nat.{mul-le-mul_left}
use Rattle.cw_tree.specs.Formats.{proof_bytes, chunk_bytes}
use Rattle.cw_tree.specs.Sizes.{AreSized}
use Rattle.cw_tree.specs.Tree.{leaf, above, leaves_from, paired, beside, path_within, path_of}

within_short : (more n : ℕ) → length (varint_within more n) ≤ more
within_short zero n = omega arith
within_short (suc more) n = go (nat_lt n 128) (within_short more (n / 128))
  where
    go : (t : Bool) → length (varint_within more (n / 128)) ≤ more
        → length (cond t (n ∷ []) ((n % 128 + 128) ∷ varint_within more (n / 128))) ≤ suc more
    go true h = omega arith
    go false h = omega arith

pub length-varint-le : (n : ℕ) → length (varint n) ≤ 5
unfolding varint
length-varint-le n = within_short 5 n

pub length-chunk_bytes : {D : Type 0} (content : D → List ℕ) (p : Piece D) →
    length (chunk_bytes content p)
    ≡ length (varint (length p.shard % 2 ^ 32)) + length p.shard + 7
    + length (flat_map content p.siblings)
unfolding chunk_bytes proof_bytes
length-chunk_bytes content p =
    let head : List ℕ = varint (length p.shard % 2 ^ 32) in
    let tail : List ℕ = (length p.siblings % 2 ^ 8) ∷ flat_map content p.siblings in
    omega (
      arith,
      length-append (head ++ p.shard ++ be16 p.index) (be32 p.leaf_count ++ tail),
      length-append (head ++ p.shard) (be16 p.index),
      length-append head p.shard,
      length-append (be32 p.leaf_count) tail,
      length-be16 p.index,
      length-be32 p.leaf_count,
    )

length-digests : {D : Type 0} (content : D → List ℕ) (size : ℕ) (ds : List D)
    → AreSized content size ds → length (flat_map content ds) ≡ size * length ds
length-digests content size [] sized = omega arith
length-digests content size (d ∷ ds) sized =
    let e = length-digests content size ds sized.1 in
    let h = sized.0 in
    let more : size * suc (length ds) ≡ size * length ds + size = omega arith in
    length-append (content d) (flat_map content ds) ∙ omega arith

-- a proof with at most h siblings of one size
pub proof_bytes-le : {D : Type 0} (content : D → List ℕ) (size h leaf_count : ℕ) (siblings : List D)
    → AreSized content size siblings → length siblings ≤ h →
    length (proof_bytes content leaf_count siblings) ≤ 5 + size * h
unfolding proof_bytes
proof_bytes-le content size h leaf_count siblings sized few =
    let digests = length-digests content size siblings sized in
    let most : size * length siblings ≤ size * h = mul-le-mul_left size few in
    let tail : List ℕ = (length siblings % 2 ^ 8) ∷ flat_map content siblings in
    omega (arith, length-append (be32 leaf_count) tail, length-be32 leaf_count)

-- a chunk with at most h siblings of one size
pub chunk_bytes-le : {D : Type 0} (content : D → List ℕ) (size h : ℕ) (p : Piece D)
    → AreSized content size p.siblings → length p.siblings ≤ h →
    length (chunk_bytes content p) ≤ 12 + length p.shard + size * h
chunk_bytes-le content size h p sized few =
    let digests = length-digests content size p.siblings sized in
    let most : size * length p.siblings ≤ size * h = mul-le-mul_left size few in
    omega (arith, length-chunk_bytes content p, length-varint-le (length p.shard % 2 ^ 32))

sized_append : {D : Type 0} (content : D → List ℕ) (size : ℕ) (xs ys : List D)
    → AreSized content size xs → AreSized content size ys → AreSized content size (xs ++ ys)
sized_append content size [] ys a b = b
sized_append content size (x ∷ xs) ys a b = (a.0, sized_append content size xs ys a.1 b)

sized_drop : {D : Type 0} (content : D → List ℕ) (size n : ℕ) (xs : List D)
    → AreSized content size xs → AreSized content size (drop n xs)
sized_drop content size zero xs a = a
sized_drop content size (suc n) [] a = a
sized_drop content size (suc n) (x ∷ xs) a = sized_drop content size n xs a.1

sized_one : {D : Type 0} (content : D → List ℕ) (size : ℕ) (xs : List D) → AreSized content size xs
    → AreSized content size (take 1 xs)
sized_one content size [] a = a
sized_one content size (x ∷ xs) a = (a.0, tt)

module _ {D : Type 0} (hash : List ℕ → D) (content : D → List ℕ) (size : ℕ)
    (sized : (bytes : List ℕ) → length (content (hash bytes)) ≡ size) where
  sized_leaves : (i : ℕ) (ds : List D) → AreSized content size (leaves_from hash content i ds)
  unfolding leaf
  sized_leaves i [] = tt
  sized_leaves i (d ∷ ds) = (sized (be32 i ++ content d), sized_leaves (i + 1) ds)

  sized_pairs : (xs : List D) → AreSized content size (paired hash content xs)
  unfolding above
  sized_pairs [] = tt
  sized_pairs (a ∷ []) = (sized (content a ++ content a), tt)
  sized_pairs (a ∷ (b ∷ rest)) = (sized (content a ++ content b), sized_pairs rest)

  sized_beside : (i : ℕ) (level : List D) → AreSized content size level
      → AreSized content size (beside i level)
  sized_beside i level a = go (eqb (i % 2) 0)
    where
      go : (t : Bool)
          → AreSized content size
          (cond t (take 1 (drop (i + 1) level)) (take 1 (drop (i - 1) level)))
      go true =
          sized_one content size (drop (i + 1) level) (sized_drop content size (i + 1) level a)
      go false =
          sized_one content size (drop (i - 1) level) (sized_drop content size (i - 1) level a)

  sized_within : (n i : ℕ) (level : List D) → AreSized content size level
      → AreSized content size (path_within hash content n i level)
  sized_within zero i level a = tt
  sized_within (suc n) i level a =
      sized_append content size (beside i level) _ (sized_beside i level a)
      (sized_within n (i / 2) (paired hash content level) (sized_pairs level))

  -- the siblings of a proof are hashes
  pub sized_path : (i : ℕ) (ds : List D) → AreSized content size (path_of hash content i ds)
  unfolding path_of
  sized_path i ds = sized_within (length ds) i (leaves_from hash content 0 ds) (sized_leaves 0 ds)
