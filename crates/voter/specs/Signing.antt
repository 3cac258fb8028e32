-- Who signed what: sets of members by vote, in place of searches.
use Rattle.std.specs.Prelude.{ℕ, ◌&&◌, ◌==◌, ◌≡◌, ◌||◌, Bool, List, None, Option, Some, if◌then◌else◌}
use Rattle.std.specs.BTreeSet.{BTreeSet}
use Rattle.std.specs.List.{list_any}
use Rattle.cw_types.specs.Epochs.{Epochs, is_member}
use Rattle.cw_types.specs.Votes.{vote_epoch}
use Rattle.cw_types.specs.declared.note.Note.{Note}
use Rattle.cw_types.specs.declared.vote.Vote.{Vote}
use Rattle.cw_rules.specs.Accepted.{Ballot}
use Rattle.cw_rules.specs.Notes.{has_vote}
use Rattle.cw_rules.specs.Owed.{is_single}
use Rattle.voter.specs.Sets.{NoneEmpty, is_in_set}
use Rattle.note_scans.specs.declared.key.VoteKey.{VoteKey}

-- it is a member of the vote's epoch, and is known to have signed the vote
abbrev pub is_known_signer : Epochs → ℕ → List Note → List Ballot → Vote → ℕ → Bool
is_known_signer x id notes ballots v i =
    is_member x (vote_epoch v) i
    && (list_any (is_single i v) ballots || ((i == id) && has_vote notes v))

-- the vote of the member's own that a note is, where it is a member of the vote's epoch
abbrev pub counted_vote : Epochs → ℕ → Note → Option Vote
counted_vote x id (Note.Vote v) = if is_member x (vote_epoch v) id then Some v else None
counted_vote x id _ = None

-- the sets are of those whose vote came, and of the members that are known to have signed each vote
pub record HaveSigners (x : Epochs) (id : ℕ) (notes : List Note) (ballots : List Ballot)
    (came known : List (VoteKey × BTreeSet ℕ)) : Type 0 where
  pub arrived : (v : Vote) (i : ℕ) → is_in_set came v i ≡ list_any (is_single i v) ballots
  pub counted : (v : Vote) (i : ℕ) → is_in_set known v i ≡ is_known_signer x id notes ballots v i
  pub some : NoneEmpty known
