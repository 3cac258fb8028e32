-- Which certificates are valid.
use Rattle.std.specs.Prelude.{ℕ, ◌&&◌, Bool, length}
use Rattle.std.specs.List.{list_all}
use Rattle.cw_types.specs.Epochs.{Epochs, is_enough, is_member, rises_from}
use Rattle.cw_types.specs.Votes.{vote_epoch, well_formed}
use Rattle.cw_types.specs.declared.vote.Cert.{Cert}
use Rattle.cw_types.specs.declared.vote.Vote.{Vote}

-- a certificate is valid where a quorum of the members of its epoch signed its well-formed vote
abbrev pub is_valid : Epochs → (ℕ → Vote → Bool) → Cert → Bool
is_valid x signed s =
    well_formed s.vote && rises_from 0 s.signers
    && list_all (λ i. is_member x (vote_epoch s.vote) i && signed i s.vote) s.signers
    && is_enough x (vote_epoch s.vote) (length s.signers)
