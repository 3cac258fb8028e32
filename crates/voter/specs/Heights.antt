-- The heights of noted blocks, by commitment, in place of a search.
use Rattle.std.specs.Prelude.{ℕ, ◌+◌, ◌≡◌, List, None, Option, Some, max, option_map, true, unwrap_or}
use Rattle.std.specs.Map.{lookup}
use Rattle.std.specs.Option.{is_some, option_map_or}
use Rattle.cw_types.specs.Same.{same_commitment}
use Rattle.cw_types.specs.declared.commitment.Commitment.{Commitment}
use Rattle.cw_types.specs.declared.note.Note.{Note}
use Rattle.cw_rules.specs.Accepted.{first_some}
use Rattle.cw_rules.specs.Held.{kept_block, noted_block_of, pruned_height}

-- the commitment of a noted block, and one above its height
abbrev pub noted_above : Note → Option (Commitment × ℕ)
noted_above (Note.Block c b) = Some (c, b.height + 1)
noted_above _ = None

-- the number at a commitment, else 0
abbrev pub above_at : Commitment → List (Commitment × ℕ) → ℕ
above_at c entries = unwrap_or (lookup (same_commitment c) entries) 0

-- a map has one above the height of the first noted block of each commitment
abbrev pub HasBlockHeights : List Note → List (Commitment × ℕ) → Type 0
HasBlockHeights notes entries =
    (c : Commitment) → above_at c entries
    ≡ option_map_or (λ b. b.height + 1) (first_some (noted_block_of c) notes) 0

-- the map has the commitment of a noted block
abbrev pub IsBlockThere : Note → List (Commitment × ℕ) → Type 0
IsBlockThere note entries =
    (e : Commitment × ℕ) → noted_above note ≡ Some e
    → is_some (lookup (same_commitment e.0) entries) ≡ true

-- the greater of a height and the one below which a note lets blocks go
abbrev pub pruned_with : ℕ → Note → ℕ
pruned_with prune note = option_map_or (λ h. max prune h) (pruned_height note) prune

-- the height of the first noted block of a commitment, unless that block was pruned
abbrev pub kept_height : List Note → Commitment → Option ℕ
kept_height notes c = option_map (λ b. b.height) (kept_block notes c)
