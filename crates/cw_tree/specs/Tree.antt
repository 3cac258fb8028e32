-- The tree over a list of digests, for any hash function. content gives the bytes of a digest.
use Rattle.std.specs.Prelude.{◌≡◌, ℕ, zero, suc, ◌+◌, ◌-◌, ◌/◌, ◌%◌, ◌<◌, ◌≤◌, ◌==◌, ◌&&◌, nat_lt, nat_le, if◌then◌else◌, List, [], ◌∷◌, ◌++◌, length, take, drop, Option, Some, None, option_map, option_and_then}
use Rattle.cw_base.specs.Bytes.{be32}

-- the node that stands beside node i of a level, where there is one
abbrev pub beside : {D : Type 0} → ℕ → List D → List D
beside i level = if i % 2 == 0 then take 1 (drop (i + 1) level) else take 1 (drop (i - 1) level)

module _ {D : Type 0} (hash : List ℕ → D) (content : D → List ℕ) where
  -- leaf i, of the digest d
  unfoldable pub leaf : ℕ → D → D
  leaf i d = hash (be32 i ++ content d)

  -- the node above two nodes
  unfoldable pub above : D → D → D
  above a b = hash (content a ++ content b)

  -- the root of so many leaves, under this top
  unfoldable pub rooted : ℕ → D → D
  rooted count top = hash (be32 count ++ content top)

  -- the leaves of these digests, counted from i
  abbrev pub leaves_from : ℕ → List D → List D
  leaves_from i [] = []
  leaves_from i (d ∷ ds) = leaf i d ∷ leaves_from (i + 1) ds

  -- the level above a level: neighbouring pairs, and an odd last node with itself
  abbrev pub paired : List D → List D
  paired [] = []
  paired (a ∷ []) = above a a ∷ []
  paired (a ∷ (b ∷ rest)) = above a b ∷ paired rest

  -- the top of a level: its one node, else the top of the level above it. At most n levels up
  abbrev pub top_within : ℕ → List D → Option D
  top_within n [] = None
  top_within n (a ∷ []) = Some a
  top_within zero (a ∷ (b ∷ rest)) = None
  top_within (suc n) (a ∷ (b ∷ rest)) = top_within n (paired (a ∷ (b ∷ rest)))

  -- the root of so many leaves under a top, where there is one
  abbrev pub rooted_some : ℕ → Option D → Option D
  rooted_some count None = None
  rooted_some count (Some top) = Some (rooted count top)

  -- The root of a list of digests: there is one where the list isn't empty. A tree has fewer levels
  -- than leaves
  unfoldable pub root_of : List D → Option D
  root_of digests =
      rooted_some (length digests) (top_within (length digests) (leaves_from 0 digests))

  -- a level and those above it, as far as they have more than one node
  abbrev pub AreLevels : List D → List (List D) → Type 0
  AreLevels level [] = length level ≤ 1
  AreLevels level (first ∷ others) =
      (first ≡ level) × (1 < length level) × AreLevels (paired level) others

  -- the nodes beside the way up from node i of a level
  abbrev pub path_within : ℕ → ℕ → List D → List D
  path_within zero i level = []
  path_within (suc n) i level = beside i level ++ path_within n (i / 2) (paired level)

  -- the siblings that a proof of digest i holds
  unfoldable pub path_of : ℕ → List D → List D
  path_of i digests = path_within (length digests) i (leaves_from 0 digests)

-- the first of a list and those behind it, where there is a first
abbrev pub first_and_rest : {D : Type 0} → List D → Option (D × List D)
first_and_rest [] = None
first_and_rest (x ∷ rest) = Some (x, rest)

-- What x, node i of a level of so many nodes, is paired with, and the siblings that are left for
-- the levels above: an odd last node with itself, any other with the first sibling, where there is
-- one
abbrev pub partner_of : {D : Type 0} → (width i : ℕ) → D → List D → Option (D × List D)
partner_of width i x siblings =
    if (i % 2 == 0) && (i + 1 == width) then Some (x, siblings) else first_and_rest siblings

-- the bytes of x, node i of its level, and of its partner, the left one first
abbrev pub pair_bytes : {D : Type 0} → (D → List ℕ) → (i : ℕ) (x partner : D) → List ℕ
pair_bytes content i x partner =
    if i % 2 == 0 then content x ++ content partner else content partner ++ content x

-- the digest of the last of these texts, or d where there is none
abbrev pub last_digest : {D : Type 0} → (List ℕ → D) → D → List (List ℕ) → D
last_digest hash d [] = d
last_digest hash d (text ∷ texts) = last_digest hash (hash text) texts

infixl 10 ◌>>=◌
abbrev ◌>>=◌ : {A B : Type 0} → Option A → (A → Option B) → Option B
o >>= f = option_and_then f o

module _ {D : Type 0} (hash : List ℕ → D) (content : D → List ℕ) where
  -- The texts that are hashed on the way up from x, node i of a level of so many nodes, to the root
  -- of so many leaves: each pair, and at the top the number of leaves and the one node. None where
  -- siblings are missing or left over. At most n levels up
  abbrev pub way_from : (leaves n width i : ℕ) → D → List D → Option (List (List ℕ))
  way_from leaves zero width i x siblings = None
  way_from leaves (suc n) width i x siblings =
      if nat_le width 1
      then (if length siblings == 0 then Some ((be32 leaves ++ content x) ∷ []) else None)
      else do
        partner ← partner_of width i x siblings
        texts ← way_from leaves n ((width + 1) / 2) (i / 2)
            (hash (pair_bytes content i x partner.0)) partner.1
        Some (pair_bytes content i x partner.0 ∷ texts)

  -- The texts that are hashed from a digest as leaf i of so many leaves, with these siblings: its
  -- leaf's, and those on the way up
  unfoldable pub way_by : (count : ℕ) (siblings : List D) (i : ℕ) (digest : D)
      → Option (List (List ℕ))
  way_by count siblings i digest =
      if nat_lt i count
      then option_map (λ texts. (be32 i ++ content digest) ∷ texts)
      (way_from count count count i (leaf hash content i digest) siblings)
      else None

  -- the root that it leads to then: the digest of the last of these texts
  unfoldable pub root_by : (count : ℕ) (siblings : List D) (i : ℕ) (digest : D) → Option D
  root_by count siblings i digest =
      option_map (last_digest hash digest) (way_by count siblings i digest)
