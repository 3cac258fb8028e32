-- What a member owes by what it knows, and over what it may propose.
use Rattle.std.specs.Prelude.{ℕ, ◌&&◌, ◌-◌, ◌==◌, Bool, List, None, Option, false, filter, if◌then◌else◌, map, min, not, option_map, suc, take, zero}
use Rattle.std.specs.List.{enumerate_from, list_any}
use Rattle.std.specs.Option.{is_some, option_map_or, option_or}
use Rattle.cw_base.specs.declared.hash.Digest32.{Digest32}
use Rattle.cw_types.specs.Commit.{genesis_commitment}
use Rattle.cw_types.specs.Epochs.{is_member, leader}
use Rattle.cw_types.specs.Same.{same_proposal}
use Rattle.cw_types.specs.declared.commitment.Commitment.{Commitment}
use Rattle.cw_types.specs.declared.note.Note.{Note}
use Rattle.cw_types.specs.declared.vote.Proposal.{Proposal}
use Rattle.cw_types.specs.declared.vote.Vote.{Vote}
use Rattle.cw_types.specs.declared.vote.Vote.TheVariants.{Notarize}
use Rattle.cw_rules.specs.Accepted.{first_some}
use Rattle.cw_rules.specs.Notes.{epoch_of, has_cert, has_certified, nullified, settled, view_of}
use Rattle.cw_rules.specs.Owed as rule
use Rattle.voter.specs.Known.{Known, known_state, vote_rules}

-- the certificate that is owed
abbrev pub first_cert_owed : (List ℕ → Digest32) → Known → Option Note
first_cert_owed hash t =
    first_some (rule.cert_owed (vote_rules hash t.epochs) t.id (known_state t))
    (rule.named_votes (known_state t))

-- whether one of this vote is owed
unfoldable pub owes_cert : (List ℕ → Digest32) → Known → Vote → Bool
owes_cert hash t v = is_some (rule.cert_owed (vote_rules hash t.epochs) t.id (known_state t) v)

-- the vote to notarize that is owed
abbrev pub first_notarize_owed : (List ℕ → Digest32) → Known → Option Note
first_notarize_owed hash t =
    first_some (rule.notarize_owed (vote_rules hash t.epochs) t.id (known_state t))
    (rule.named_proposals (known_state t))

-- whether one of this proposal is owed
unfoldable pub owes_notarize : (List ℕ → Digest32) → Known → Proposal → Bool
owes_notarize hash t p = is_some
    (rule.notarize_owed (vote_rules hash t.epochs) t.id (known_state t) p)

-- it is the proposal of the leader of the member's view, in which the member hasn't voted
unfoldable pub is_turn : Known → Proposal → Bool
is_turn t p =
    (p.epoch == epoch_of t.notes) && (p.view == view_of t.notes p.epoch)
    && is_member t.epochs p.epoch t.id
    && list_any (rule.is_single (leader t.epochs p.epoch p.view) (Notarize p)) t.ballots
    && not (rule.has_voted t.notes p.epoch p.view)

-- it is, and each view between its parent's and its own is nullified: a vote for it asks no more
-- than its payload
unfoldable pub is_votable : Known → Proposal → Bool
is_votable t p = is_turn t p && rule.all_nullified t.notes p.epoch p.parent p.view

-- the member can vote for it over the payload that is settled for its parent view
unfoldable pub can_vote_for : (List ℕ → Digest32) → Known → Proposal → Bool
can_vote_for hash t p =
    option_map_or (rule.is_ready (vote_rules hash t.epochs) t.id (known_state t) p)
    (settled (genesis_commitment hash) t.notes p.epoch p.parent) false

-- the vote to finalize that is owed
abbrev pub first_finalize_owed : (List ℕ → Digest32) → Known → Option Note
first_finalize_owed hash t =
    first_some (rule.finalize_owed (vote_rules hash t.epochs) t.id (known_state t))
    (rule.named_proposals (known_state t))

-- whether one of this proposal is owed
unfoldable pub owes_finalize : (List ℕ → Digest32) → Known → Proposal → Bool
owes_finalize hash t p = is_some
    (rule.finalize_owed (vote_rules hash t.epochs) t.id (known_state t) p)

-- the vote that is owed: one to notarize goes first
abbrev pub vote_owed : (List ℕ → Digest32) → Known → Option Note
vote_owed hash t = option_or (first_notarize_owed hash t) (first_finalize_owed hash t)

-- the proposal is notarized and isn't certified
abbrev pub is_uncertified : List Note → Proposal → Bool
is_uncertified notes p = has_cert notes (Notarize p) && not (has_certified notes p)

-- the proposal at that place of those that are named passes, and isn't named before
unfoldable pub is_candidate : Known → (Proposal → Bool) → ℕ × Proposal → Bool
is_candidate t passes at =
    passes at.1
    && not (list_any (same_proposal at.1) (take at.0 (rule.named_proposals (known_state t))))

-- the proposals that pass, each once, in the order in which they are first named
abbrev pub candidates : Known → (Proposal → Bool) → List Proposal
candidates t passes =
    map (λ at. at.1)
    (filter (is_candidate t passes) (enumerate_from 0 (rule.named_proposals (known_state t))))

-- those that are notarized and not certified
abbrev pub uncertified : Known → List Proposal
uncertified t = candidates t (is_uncertified t.notes)

-- those of which a vote asks no more than their payload
abbrev pub votable : Known → List Proposal
votable t = candidates t (is_votable t)

-- the greatest settled view of the epoch below so many, with its payload, where all views above it
-- and below so many are nullified
abbrev pub parent_below : Commitment → List Note → ℕ → ℕ → Option (ℕ × Commitment)
parent_below genesis notes epoch zero = None
parent_below genesis notes epoch (suc view) =
    option_or (option_map (λ c. (view, c)) (settled genesis notes epoch view))
    (if nullified notes epoch view then parent_below genesis notes epoch view else None)

-- the greatest settled view of the epoch below that one and below the member's, with its payload,
-- where all views between it and the member's are nullified
abbrev pub parent_over : Commitment → List Note → ℕ → ℕ → Option (ℕ × Commitment)
parent_over genesis notes epoch below =
    let top = min below (view_of notes epoch) in
    if rule.all_nullified notes epoch (top - 1) (view_of notes epoch)
    then parent_below genesis notes epoch top
    else None
