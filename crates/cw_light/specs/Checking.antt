-- What a light client is told about a certificate and the blocks below it.
use Rattle.std.specs.Prelude.{[], ℕ, ◌&&◌, ◌+◌, ◌==◌, ◌∷◌, Bool, List, None, Option, Some, if◌then◌else◌}
use Rattle.std.specs.List.{last_or}
use Rattle.std.specs.Option.{option_map_or}
use Rattle.cw_types.specs.Block.{Block}
use Rattle.cw_types.specs.Same.{same_block, same_commitment}
use Rattle.cw_types.specs.Votes.{finalized, well_formed}
use Rattle.cw_types.specs.declared.commitment.Commitment.{Commitment}
use Rattle.cw_types.specs.declared.vote.Cert.{Cert}
use Rattle.cw_types.specs.declared.vote.Vote.{Vote}
use Rattle.cw_rules.specs.Accepted.{is_valid}
use Rattle.cw_rules.specs.Rules.{Rules, commit, digest, genesis, genesis_commitment}
use Rattle.cw_light.specs.declared.check.Answer.{Answer}
use Rattle.cw_light.specs.declared.check.Answer.TheVariants.{BadSigners, Broken, EmptyPath, NotFinal, Yes}

-- the block is the one that the commitment names: genesis for its own, else one that is committed
-- to so
abbrev pub is_named_by : Rules → Commitment → Block → Bool
is_named_by r c b =
    if same_commitment c (genesis_commitment r) then same_block b (genesis r)
    else same_commitment (commit r b) c

-- the second block is the parent that the first one names, one height lower
abbrev pub is_parent_of : Rules → Block → Block → Bool
is_parent_of r b a = is_named_by r b.context.parent a && (a.height + 1 == b.height)

-- the first place, of those from this number on, where the block isn't the parent of the one before
abbrev pub broken_below : Rules → ℕ → Block → List Block → Option ℕ
broken_below r place b [] = None
broken_below r place b (a ∷ path) =
    if is_parent_of r b a then broken_below r (place + 1) a path else Some place

-- the first place of a path where the block isn't the one wanted: the one that the commitment
-- names, and then each block's parent
abbrev pub broken_at : Rules → Commitment → List Block → Option ℕ
broken_at r c [] = None
broken_at r c (b ∷ path) = if is_named_by r c b then broken_below r 1 b path else Some 0

-- what is told about a path from the block that the commitment names down to its last one
abbrev pub path_answer : Rules → Commitment → List Block → Answer
path_answer r c path =
    option_map_or
    (λ last. option_map_or Broken (broken_at r c path) (Yes last.height (digest r last)))
    (last_or None path) EmptyPath

-- what is told about a certificate and a path: the first that holds
abbrev pub light_answer : Rules → (ℕ → Vote → Bool) → Cert → List Block → Answer
light_answer r signed s path =
    option_map_or (λ p. if is_valid r signed s then path_answer r p.payload path else BadSigners)
    (if well_formed s.vote then finalized s.vote else None) NotFinal
