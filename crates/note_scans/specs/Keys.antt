-- What names a vote in a map.
use Rattle.std.specs.Prelude.{ℕ, ◌&&◌, ◌==◌, Bool}
use Rattle.cw_types.specs.Commit.{no_commitment}
use Rattle.cw_types.specs.Same.{same_commitment}
use Rattle.cw_types.specs.declared.commitment.Commitment.{Commitment}
use Rattle.note_scans.specs.declared.key.VoteKey.{VoteKey}
use Rattle.cw_types.specs.declared.vote.Proposal.{Proposal}
use Rattle.cw_types.specs.declared.vote.Vote.{Vote}
use Rattle.cw_types.specs.declared.vote.Vote.TheVariants.{Finalize, Notarize, Nullify}

-- what stands in the key of a vote that is on no payload
abbrev pub no_payload : Commitment
no_payload = no_commitment

-- that of a vote of this kind on a proposal
abbrev pub keyed : ℕ → Proposal → VoteKey
keyed kind p = record {
  kind = kind;
  epoch = p.epoch;
  view = p.view;
  parent = p.parent;
  payload = p.payload;
}

-- that of a view of an epoch, of which it says something of this kind
abbrev pub in_view : ℕ → ℕ → ℕ → VoteKey
in_view kind epoch view =
    record { kind = kind; epoch = epoch; view = view; parent = 0; payload = no_payload }

-- that of a vote
abbrev pub key_of : Vote → VoteKey
key_of (Notarize p) = keyed 0 p
key_of (Nullify epoch view) = in_view 1 epoch view
key_of (Finalize p) = keyed 2 p

-- the keys of one vote
abbrev pub same_key : VoteKey → VoteKey → Bool
same_key a b =
    (a.kind == b.kind)
    && ((a.epoch == b.epoch)
    && ((a.view == b.view)
    && ((a.parent == b.parent) && same_commitment a.payload b.payload)))
