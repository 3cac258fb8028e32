-- What a host vouches for.
use Rattle.std.specs.Prelude.{[], ◌&&◌, ◌==◌, Bool, None, Option, Some, false, ℕ}
use Rattle.std.specs.List.{list_any}
use Rattle.cw_types.specs.Same.{same_vote}
use Rattle.cw_types.specs.declared.vote.Vote.{Vote}
use Rattle.member_lines.specs.declared.claim.Claim.{Claim}

-- the claim is of this vote
abbrev pub is_of_vote : Option Vote → Vote → Bool
is_of_vote None vote = false
is_of_vote (Some claimed) vote = same_vote claimed vote

-- the host vouches that this member signed this vote
abbrev pub claims : Claim → ℕ → Vote → Bool
claims claim member vote =
    is_of_vote claim.vote vote && list_any (λ signer. signer == member) claim.signers

-- a claim of nothing
abbrev pub no_claim : Claim
no_claim = record { vote = None; signers = [] }
