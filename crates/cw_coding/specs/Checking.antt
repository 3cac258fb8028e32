-- When a chunk is taken under a root, and why it is refused.
use Rattle.std.specs.Prelude.{◌≡◌, ◌≢◌, ℕ, ◌%◌, ◌<◌, ◌≤◌, ◌⊎◌, List, [], ◌∷◌, length, Some, Result, Ok, Err}
use Rattle.cw_base.specs.Counts.{Counts}
use Rattle.cw_tree.specs.Chunks.{Piece}
use Rattle.cw_tree.specs.Tree.{root_by}
use Rattle.cw_coding.specs.Totals.{total_of}
use Rattle.cw_coding.specs.Checked.{Checked}
use Rattle.cw_coding.specs.declared.error.RsError.TheVariants.{InvalidShardSize}
use Rattle.cw_coding.specs.declared.error.ReedSolomonError.{ReedSolomonError}
use Rattle.cw_coding.specs.declared.error.ReedSolomonError.TheVariants.{ReedSolomon, InvalidProof, InvalidIndex, TooManyTotalShards, NoMemory}

-- a chunk whose way up leads to the root, at its place
pub record IsUnder {D : Type 0} (hash : List ℕ → D) (content : D → List ℕ) (c : Counts) (root : D)
    (index : ℕ) (p : Piece D) : Type 0 where
  pub total : total_of c ≤ 65535
  pub within : index < total_of c
  pub some : length p.shard ≢ 0
  pub even : length p.shard % 2 ≡ 0
  pub leaves : p.leaf_count ≡ total_of c
  pub same : p.index ≡ index
  pub path : root_by hash content p.leaf_count p.siblings index (hash p.shard) ≡ Some root

-- a width that is zero or odd
abbrev pub IsBadWidth : ℕ → Type 0
IsBadWidth width = (width ≡ 0) ⊎ (width % 2 ≢ 0)

-- why a chunk is refused: the first cause
abbrev pub IsCheckRefusal : {D : Type 0}
    → (hash : List ℕ → D) (content : D → List ℕ) (c : Counts) (root : D) (index : ℕ) (p : Piece D)
    → ReedSolomonError → Type 0
IsCheckRefusal hash content c root index p (TooManyTotalShards n) =
    (n ≡ total_of c) × (65535 < total_of c)
IsCheckRefusal hash content c root index p (InvalidIndex i) =
    (total_of c ≤ 65535) × (((i ≡ index) × (total_of c ≤ index))
    ⊎ ((index < total_of c) × (IsBadWidth (length p.shard) → ⊥) × (p.leaf_count ≡ total_of c)
    × (i ≡ p.index) × (p.index ≢ index)))
IsCheckRefusal hash content c root index p (ReedSolomon (InvalidShardSize n)) =
    (total_of c ≤ 65535) × (index < total_of c) × (n ≡ length p.shard) × IsBadWidth (length p.shard)
IsCheckRefusal hash content c root index p InvalidProof =
    (total_of c ≤ 65535) × (index < total_of c) × (IsBadWidth (length p.shard) → ⊥)
    × ((p.leaf_count ≢ total_of c)
    ⊎ ((p.leaf_count ≡ total_of c) × (p.index ≡ index)
    × (root_by hash content p.leaf_count p.siblings index (hash p.shard) ≢ Some root)))
IsCheckRefusal hash content c root index p NoMemory = Unit {0}
IsCheckRefusal hash content c root index p _ = ⊥

-- what checking a chunk answers: the chunk with its digest, or the first cause of its refusal
abbrev pub Checks : {D : Type 0}
    → (hash : List ℕ → D) (content : D → List ℕ) (c : Counts) (root : D) (index : ℕ) (p : Piece D)
    → Result (Checked D) ReedSolomonError → Type 0
Checks hash content c root index p (Ok x) =
    (x ≡ record { root = root; shard = p.shard; index = index; digest = hash p.shard })
    × IsUnder hash content c root index p
Checks hash content c root index p (Err e) = IsCheckRefusal hash content c root index p e

-- the digest of a chunk's shard, or the first cause of its refusal, which isn't want of memory
abbrev pub IsVerdictOn : {D : Type 0}
    → (hash : List ℕ → D) (content : D → List ℕ) (c : Counts) (root : D) (index : ℕ) (p : Piece D)
    → Result D ReedSolomonError → Type 0
IsVerdictOn hash content c root index p (Ok digest) =
    (digest ≡ hash p.shard) × IsUnder hash content c root index p
IsVerdictOn hash content c root index p (Err e) =
    IsCheckRefusal hash content c root index p e × (e ≢ NoMemory)

-- the answers to chunks at these indices, in order; none is for want of memory
abbrev pub AllCheck : {D : Type 0}
    → (hash : List ℕ → D) (content : D → List ℕ) (c : Counts) (root : D) → List ℕ → List (Piece D)
    → List (Result (Checked D) ReedSolomonError) → Type 0
AllCheck hash content c root [] [] [] = Unit {0}
AllCheck hash content c root (i ∷ is) (p ∷ ps) (r ∷ rs) =
    Checks hash content c root i p r × (r ≢ Err NoMemory) × AllCheck hash content c root is ps rs
AllCheck hash content c root _ _ _ = ⊥

-- of chunks at these indices, in order, each shard's digest, or the first cause of its refusal
abbrev pub AllStand : {D : Type 0}
    → (hash : List ℕ → D) (content : D → List ℕ) (c : Counts) (root : D) → List ℕ → List (Piece D)
    → List (Result D ReedSolomonError) → Type 0
AllStand hash content c root [] [] [] = Unit {0}
AllStand hash content c root (i ∷ is) (p ∷ ps) (r ∷ rs) =
    IsVerdictOn hash content c root i p r × AllStand hash content c root is ps rs
AllStand hash content c root _ _ _ = ⊥
