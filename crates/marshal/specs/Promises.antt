-- What the users of a store of finalized blocks rely on.
use Rattle.std.specs.Prelude.{◌≡◌, ◌≤◌, ◌⊎◌, ℕ, List, Some, filter_map, unwrap_or}
use Rattle.cw_types.specs.Block.{Block}
use Rattle.cw_types.specs.declared.commitment.Commitment.{Commitment}
use Rattle.cw_types.specs.declared.note.Note.{Note}
use Rattle.cw_types.specs.declared.vote.Proposal.{Proposal}
use Rattle.cw_rules.specs.Accepted.{first_some}
use Rattle.cw_rules.specs.Held.{finalization_of, greatest_prune, noted_block_of}
use Rattle.cw_rules.specs.Reached.{In}
use Rattle.cw_rules.specs.Rules.{Rules}
use Rattle.marshal.specs.Bare.{reached_by}

-- blocks of that height aren't hidden: it is 0, or no Prune note is above it
abbrev pub IsUnpruned : List Note → ℕ → Type 0
IsUnpruned notes height = (height ≡ 0) ⊎ (greatest_prune notes ≤ height)

-- the block that is noted first under c, else b
abbrev pub first_noted : List Note → Commitment → Block → Block
first_noted notes c b = unwrap_or (first_some (noted_block_of c) notes) b

-- a noted finalization reaches c at that height
abbrev pub IsReached : Rules → List Note → ℕ → Commitment → Type 0
IsReached r notes height c =
    (p : Proposal) × In p (filter_map finalization_of notes)
    × (reached_by r notes height p ≡ Some c)

-- no two noted finalizations reach different blocks of that height
abbrev pub AgreeAt : Rules → List Note → ℕ → Type 0
AgreeAt r notes height =
    (p q : Proposal) (c d : Commitment) → In p (filter_map finalization_of notes)
    → In q (filter_map finalization_of notes)
    → reached_by r notes height p ≡ Some c → reached_by r notes height q ≡ Some d → c ≡ d
