-- Of what something can be owed, in place of searches through all that is named.
use Rattle.std.specs.Prelude.{[], ℕ, ◌&&◌, ◌++◌, ◌∷◌, ◌≡◌, ◌||◌, Bool, List, None, Option, Some, filter, filter_map, find, if◌then◌else◌, length, map, not}
use Rattle.std.specs.Option.{is_some}
use Rattle.cw_types.specs.Epochs.{Epochs, is_member}
use Rattle.cw_types.specs.Same.{same_proposal, same_vote}
use Rattle.cw_types.specs.Votes.{proposal_of}
use Rattle.cw_types.specs.declared.note.Note.{Note}
use Rattle.cw_types.specs.declared.vote.Proposal.{Proposal}
use Rattle.cw_types.specs.declared.vote.Vote.{Vote}
use Rattle.cw_types.specs.declared.vote.Vote.TheVariants.{Notarize}
use Rattle.cw_rules.specs.Accepted.{Ballot}
use Rattle.cw_rules.specs.Notes.{has_cert, has_certified}
use Rattle.cw_rules.specs.Owed.{ballot_vote, has_closed, note_proposal, note_vote}
use Rattle.cw_types.specs.Epochs.{is_enough, members_in}
use Rattle.cw_types.specs.Votes.{vote_epoch}
use Rattle.cw_rules.specs.Owed.{knows}
use Rattle.voter.specs.Facts.{said_at}
use Rattle.voter.specs.Known.{Known, is_cert_for, known_state}
use Rattle.voter.specs.Lineup.{without_repeats}
use Rattle.voter.specs.Lines.{AreLines, IsComing, IsNoting}
use Rattle.voter.specs.Views.{HasKey, HasRoomAt, HasViews}
use Rattle.voter.specs.declared.waiting.Waiting.{Waiting}
use Rattle.note_scans.specs.Keys.{in_view, key_of, keyed}
use Rattle.note_scans.specs.declared.key.VoteKey.{VoteKey}

-- those that aren't done, each once
abbrev pub undone : {X : Type 0} → (X → X → Bool) → (X → Bool) → List X → List X
undone same done xs = filter (λ x. not (done x)) (without_repeats same xs)

-- something can be owed of the proposal: it is notarized and isn't certified, or it is certified and
-- a member of its epoch hasn't closed its view
abbrev pub is_open : Epochs → ℕ → List Note → Proposal → Bool
is_open x id notes p =
    if has_certified notes p
    then is_member x p.epoch id && not (has_closed notes p.epoch p.view)
    else has_cert notes (Notarize p)

-- the same, by what a map says
abbrev pub is_open_by : Epochs → ℕ → List (VoteKey × Bool) → Proposal → Bool
is_open_by x id said p =
    if said_at (keyed 3 p) said
    then is_member x p.epoch id && not (said_at (in_view 5 p.epoch p.view) said)
    else said_at (keyed 0 p) said

-- the proposal is notarized and isn't certified, by what a map says
abbrev pub is_uncertified_by : List (VoteKey × Bool) → Proposal → Bool
is_uncertified_by said p = said_at (keyed 0 p) said && not (said_at (keyed 3 p) said)

-- no certificate of the vote is noted, and one came or a quorum is known to have signed it
abbrev pub can_certify : Known → Vote → Bool
can_certify t v =
    not (has_cert t.notes v)
    && (is_some (find (is_cert_for v) t.ballots)
    || is_enough t.epochs (vote_epoch v)
    (length (filter (knows t.id (known_state t) v) (members_in t.epochs (vote_epoch v)))))

-- one more vote or certificate that came
abbrev pub also_came : Known → Ballot → Known
also_came t b = record {
  epochs = t.epochs;
  id = t.id;
  notes = t.notes;
  ballots = t.ballots ++ b ∷ [];
  own = t.own;
}

-- one test for all but one, for which it is another
abbrev pub was_but : (Proposal → Bool) → (Proposal → Bool) → Option Proposal → Proposal → Bool
was_but was now None q = was q
was_but was now (Some p) q = if same_proposal p q then now q else was q

-- the proposals that what came names
abbrev pub came_proposals : List Ballot → List Proposal
came_proposals ballots = filter_map (λ b. proposal_of (ballot_vote b)) ballots

-- the votes wait of which a certificate can be noted, and the proposals that are open; what came
-- names these proposals of each view
pub record AreWaiting (t : Known) (w : Waiting) : Type 0 where
  pub votes : AreLines key_of same_vote (can_certify t) (map ballot_vote t.ballots)
      (filter_map note_vote t.notes) w.votes
  pub proposals : AreLines (keyed 3) same_proposal (is_open t.epochs t.id t.notes)
      (came_proposals t.ballots) (filter_map note_proposal t.notes) w.proposals
  pub in_views : HasViews (came_proposals t.ballots) w.views.by_view.entries

-- there is room for what comes and names that vote
pub record CanCome (v : Vote) (w : Waiting) : Type 0 where
  pub vote : IsComing (key_of v) w.votes
  pub proposal : (p : Proposal) → proposal_of v ≡ Some p → IsComing (keyed 3 p) w.proposals
  pub key : (p : Proposal) → proposal_of v ≡ Some p
      → HasKey (in_view 9 p.epoch p.view) w.views.by_view.entries
  pub view : (p : Proposal) → proposal_of v ≡ Some p
      → HasRoomAt (in_view 9 p.epoch p.view) w.views.by_view.entries

-- there is room for what a note names
pub record CanNote (note : Note) (w : Waiting) : Type 0 where
  pub vote : (v : Vote) → note_vote note ≡ Some v → IsNoting (key_of v) w.votes
  pub proposal : (p : Proposal) → note_proposal note ≡ Some p → IsNoting (keyed 3 p) w.proposals
