-- Shards that stand in buffers of a caller's, with no tree over them.
use Rattle.std.specs.Prelude.{◌≡◌, ℕ, ◌+◌, ◌*◌, ◌%◌, ◌^◌, ◌<◌, ◌≤◌, ◌⊎◌, List, [], length, take, get_or, All, slice_index}
use Rattle.std.specs.List.{flat_map}
use Rattle.rs_code.specs.Rows.{code_row, row_through}
use Rattle.rs_code.specs.Plans.{IsRefusal}
use Rattle.rs_code.specs.declared.plan.PlanError.{PlanError}
use Rattle.rs_code.specs.declared.plan.PlanError.TheVariants.{TooFew, OutOfRange, Duplicate, NoMemory}
use Rattle.coding_c.specs.Calls.{AreNoConfig, IsPut}

-- the width of shards: that of the first
abbrev pub first_width : List (List ℕ) → ℕ
first_width shards = length (get_or shards 0 [])

-- the first k shards, end to end
abbrev pub end_to_end : (k : ℕ) (shards : List (List ℕ)) → List ℕ
end_to_end k shards = flat_map (λ shard. shard) (take k shards)

-- at least k shards, the first k of one even width, which isn't zero
pub record AreShards (k : ℕ) (shards : List (List ℕ)) : Type 0 where
  pub enough : k ≤ length shards
  pub some : 0 < first_width shards
  pub even : first_width shards % 2 ≡ 0
  pub same : All (λ shard. length shard ≡ first_width shards) (take k shards)

-- at least n buffers, the first n of which have room for a shard of this width
pub record HaveRoom (n width : ℕ) (buffers : List (List ℕ)) : Type 0 where
  pub enough : n ≤ length buffers
  pub each : All (λ buffer. width ≤ length buffer) (take n buffers)

-- row i at the front of buffer i for each i below n; all else stays
pub record ArePut (n : ℕ) (row : ℕ → List ℕ) (before after : List (List ℕ)) : Type 0 where
  pub count : length after ≡ length before
  pub put : (i : ℕ) → i < n → IsPut (row i) (get_or before i []) (get_or after i [])
  pub kept : (i : ℕ) → n ≤ i → get_or after i [] ≡ get_or before i []

-- why the first k shards of k + m aren't taken: a cause that holds
abbrev pub IsShardsStatus : (k m : ℕ) (shards : List (List ℕ)) (code : ℕ) → Type 0
IsShardsStatus k m shards code =
    ((code ≡ 2) × AreNoConfig k m)
    ⊎ ((code ≡ 3) × (65535 < k + m))
    ⊎ ((code ≡ 10) × (length shards < k))
    ⊎ ((code ≡ 8) × (AreShards k shards → ⊥))
    ⊎ ((code ≡ 4) × (2 ^ 63 ≤ (k + m) * first_width shards))

-- why recovery shards aren't made: a cause that holds
abbrev pub IsRecoveryStatus : (k m : ℕ) (shards buffers : List (List ℕ)) (code : ℕ) → Type 0
IsRecoveryStatus k m shards buffers code =
    (code ≡ 1) ⊎ IsShardsStatus k m shards code
    ⊎ ((code ≡ 5) × (HaveRoom m (first_width shards) buffers → ⊥))

-- recovery shard i for each i below m, of the codeword whose first k rows are these shards
abbrev pub recovery_of : (k : ℕ) (shards : List (List ℕ)) (i : ℕ) → List ℕ
recovery_of k shards i = code_row k (end_to_end k shards) (first_width shards) (k + i)

-- the number by which C knows a refusal of a plan
abbrev pub plan_status : PlanError → ℕ
plan_status NoMemory = 1
plan_status (OutOfRange _) = 7
plan_status TooFew = 10
plan_status (Duplicate _) = 11

-- why shards aren't rebuilt: a cause that holds
abbrev pub IsRebuildStatus : (k m : ℕ) (indices : List ℕ) (shards : List (List ℕ))
    (targets : List ℕ) (buffers : List (List ℕ)) (code : ℕ)
    → Type 0
IsRebuildStatus k m indices shards targets buffers code =
    (code ≡ 1) ⊎ IsShardsStatus k m shards code
    ⊎ ((code ≡ 5) × (HaveRoom (length targets) (first_width shards) buffers → ⊥))
    ⊎ ((code ≡ 4) × (2 ^ 63 ≤ length targets * first_width shards))
    ⊎ ((code ≡ 7) × (All (λ i. i < k + m) targets → ⊥))
    ⊎ ((e : PlanError) × IsRefusal k m indices e × (code ≡ plan_status e))

-- the shard of target i, rebuilt from the first k of these shards, which stand at the first k of
-- these indices
abbrev pub rebuilt_of : (k : ℕ) (indices : List ℕ) (shards : List (List ℕ)) (targets : List ℕ)
    (i : ℕ)
    → List ℕ
rebuilt_of k indices shards targets i =
    row_through k (λ s. slice_index (take k indices) s) (end_to_end k shards) (first_width shards)
    (slice_index targets i)

-- the first k shards are those of a codeword at the first k indices
abbrev pub AreOfCodeword : (k : ℕ) (originals : List ℕ) (indices : List ℕ) (shards : List (List ℕ))
    → Type 0
AreOfCodeword k originals indices shards =
    (s : ℕ) → s < k
    → get_or shards s [] ≡ code_row k originals (first_width shards) (slice_index (take k indices) s)
