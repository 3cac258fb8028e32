-- The note that a member owes: that of the first case that applies. Within a case what came is
-- tried in order, and then the notes.
use Rattle.std.specs.Prelude.{ℕ, ◌&&◌, ◌*◌, ◌++◌, ◌+◌, ◌-◌, ◌/◌, ◌==◌, ◌||◌, Bool, List, None, Option, Some, false, filter, filter_map, if◌then◌else◌, is_some, length, map, max, nat_le, nat_lt, not, option_and_then, option_map, suc, true, zero}
use Rattle.std.specs.List.{list_all, list_any, range_with_len}
use Rattle.std.specs.Option.{option_map_or, option_or}
use Rattle.cw_base.specs.Config.{same_counts}
use Rattle.cw_types.specs.Epochs.{is_last, is_member, leader, members_in, place, size}
use Rattle.cw_types.specs.Numbers.{quorum}
use Rattle.cw_types.specs.Same.{same_commitment, same_digest, same_vote}
use Rattle.cw_types.specs.Votes.{proposal_of, vote_epoch, vote_view}
use Rattle.cw_types.specs.declared.commitment.Commitment.{Commitment}
use Rattle.cw_types.specs.declared.note.Note.{Note}
use Rattle.cw_types.specs.declared.vote.Proposal.{Proposal}
use Rattle.cw_types.specs.declared.vote.Vote.{Vote}
use Rattle.cw_types.specs.declared.vote.Vote.TheVariants.{Finalize, Notarize}
use Rattle.cw_rules.specs.Accepted.{Ballot, Many, Part, Row, Single, State, Whole, first_some}
use Rattle.cw_rules.specs.Fits.{block_fits, context_for}
use Rattle.cw_rules.specs.Held.{at_height, finalization_of, floor_height, greatest_floor, greatest_prune, held, next, shown}
use Rattle.cw_rules.specs.Notes.{epoch_of, greatest, has_block, has_cert, has_certified, has_vote, nullified, settled, view_of}
use Rattle.cw_rules.specs.Rules.{Rules, commit, config, genesis_commitment}
use Rattle.cw_rules.specs.declared.travel.Travel.{Travel}
use Rattle.cw_rules.specs.declared.travel.Travel.TheVariants.{Chunked, Uncut}

-- ---- what names what

-- the vote that what came names
abbrev pub ballot_vote : Ballot → Vote
ballot_vote (Single i v) = v
ballot_vote (Many s) = s.vote

-- the vote that a note names
abbrev pub note_vote : Note → Option Vote
note_vote (Note.Vote v) = Some v
note_vote (Note.Cert s) = Some s.vote
note_vote _ = None

-- the proposal that a note names
abbrev pub note_proposal : Note → Option Proposal
note_proposal (Note.Vote v) = proposal_of v
note_proposal (Note.Cert s) = proposal_of s.vote
note_proposal (Note.Certified p) = Some p
note_proposal _ = None

-- the commitment that a chunk or a block names
abbrev pub part_commitment : Rules → Part → Commitment
part_commitment r (Row c x) = c
part_commitment r (Whole b) = commit r b

-- the votes, the proposals and the commitments that a member knows of, in the order in which a case
-- tries them
abbrev pub named_votes : State → List Vote
named_votes s = map ballot_vote s.came.ballots ++ filter_map note_vote s.notes

-- in the same order, the proposals
abbrev pub named_proposals : State → List Proposal
named_proposals s =
    filter_map (λ x. proposal_of (ballot_vote x)) s.came.ballots ++ filter_map note_proposal s.notes

-- and the commitments
abbrev pub named_commitments : Rules → State → List Commitment
named_commitments r s = map (part_commitment r) s.came.parts

-- ---- the cases

-- x, where the test holds
abbrev pub when : {X : Type 0} → Bool → X → Option X
when b x = if b then Some x else None

-- 1. a block that is shown, isn't noted and isn't below what was given up
abbrev pub block_owed : Rules → State → Commitment → Option Note
block_owed r s c =
    option_and_then
    (λ b. when
    (not (has_block s.notes c)
    && nat_le (max (greatest_floor s.notes) (greatest_prune s.notes)) b.height)
    (Note.Block c b))
    (shown r s.came c)

-- the signers of a certificate of the vote that came
abbrev pub signers_in : Vote → Ballot → Option (List ℕ)
signers_in v (Many s) = when (same_vote v s.vote) s.signers
signers_in v (Single i w) = None

-- what came is this vote of that signer
abbrev pub is_single : ℕ → Vote → Ballot → Bool
is_single i v (Single j w) = (i == j) && same_vote v w
is_single i v (Many s) = false

-- the member is known to have signed the vote
abbrev pub knows : ℕ → State → Vote → ℕ → Bool
knows id s v i = list_any (is_single i v) s.came.ballots || ((i == id) && has_vote s.notes v)

-- all who are known to have signed it, rising
abbrev pub known : Rules → ℕ → State → Vote → List ℕ
known r id s v = filter (knows id s v) (members_in r.epochs (vote_epoch v))

-- the signers of a certificate of the vote: of the first that came, else a quorum that is known
abbrev pub signers_of : Rules → ℕ → State → Vote → Option (List ℕ)
signers_of r id s v =
    option_or (first_some (signers_in v) s.came.ballots)
    (when (nat_le (quorum (size r.epochs (vote_epoch v))) (length (known r id s v)))
    (known r id s v))

-- 2. a certificate that isn't noted
abbrev pub cert_owed : Rules → ℕ → State → Vote → Option Note
cert_owed r id s v =
    if has_cert s.notes v then None
    else option_map (λ signers. Note.Cert (record { vote = v; signers = signers }))
    (signers_of r id s v)

-- 3. a notarized proposal whose held block fits is certified
abbrev pub certified_owed : Rules → State → Proposal → Option Note
certified_owed r s p =
    when (has_cert s.notes (Notarize p) && not (has_certified s.notes p) && block_fits r s.notes p)
    (Note.Certified p)

-- 4. a floor that is wished for, above those noted
abbrev pub floor_owed : Rules → State → Commitment → Option Note
floor_owed r s c =
    option_and_then
    (λ b. when
    (nat_le (next s) b.height
    && list_all (λ h. nat_lt h b.height) (filter_map floor_height s.notes))
    (Note.Floor b.height))
    (held r s.notes c)

-- the heights of the held blocks that noted finalizations have
abbrev pub final_heights : Rules → List Note → List ℕ
final_heights r notes =
    filter_map (λ p. option_map (λ b. b.height) (held r notes p.payload))
    (filter_map finalization_of notes)

-- the note of the greatest epoch, up to that one and above the member's, whose last height before
-- it is reached
abbrev pub reached_epoch : Rules → List Note → ℕ → ℕ → Option Note
reached_epoch r notes span zero = None
reached_epoch r notes span (suc epoch) =
    if nat_le (suc epoch) (epoch_of notes) then None
    else option_or (option_map (Note.Epoch (suc epoch)) (at_height r notes (suc epoch * span)))
    (reached_epoch r notes span epoch)

-- no epoch above this one begins at or below a height that is reached
abbrev pub top_epoch : Rules → List Note → ℕ → ℕ
top_epoch r notes span = greatest (final_heights r notes) / span

-- 5. the greatest epoch whose beginning is reached
abbrev pub epoch_owed : Rules → State → Option Note
epoch_owed r s =
    option_and_then (λ span. reached_epoch r s.notes span (top_epoch r s.notes span)) r.epochs.span

-- the vote is of that view of that epoch
abbrev pub is_of : ℕ → ℕ → Vote → Bool
is_of epoch view v = (vote_epoch v == epoch) && (vote_view v == view)

-- an own vote of that view
abbrev pub votes_in : ℕ → ℕ → Note → Bool
votes_in epoch view (Note.Vote v) = is_of epoch view v
votes_in epoch view _ = false

-- the vote ends its view: it nullifies it or finalizes in it
abbrev pub is_closing : Vote → Bool
is_closing (Notarize p) = false
is_closing _ = true

-- an own vote that ends that view
abbrev pub closes : ℕ → ℕ → Note → Bool
closes epoch view (Note.Vote v) = is_closing v && is_of epoch view v
closes epoch view _ = false

-- an own vote of that view is noted
abbrev pub has_voted : List Note → ℕ → ℕ → Bool
has_voted notes epoch view = list_any (votes_in epoch view) notes

-- an own vote that ends that view is noted
abbrev pub has_closed : List Note → ℕ → ℕ → Bool
has_closed notes epoch view = list_any (closes epoch view) notes

-- the views strictly between
abbrev pub views_between : ℕ → ℕ → List ℕ
views_between low high = range_with_len (low + 1) (high - low - 1)

-- each view between is nullified
abbrev pub all_nullified : List Note → ℕ → ℕ → ℕ → Bool
all_nullified notes epoch low high = list_all (nullified notes epoch) (views_between low high)

-- the chunk at that place of that commitment
abbrev pub is_row_at : ℕ → Commitment → Part → Bool
is_row_at at c (Row d x) = same_commitment c d && (x.index == at)
is_row_at at c (Whole b) = false

-- the chunk of the payload at the member's own place came
abbrev pub has_own_row : Rules → ℕ → State → Proposal → Bool
has_own_row r id s p =
    option_map_or (λ at. list_any (is_row_at at p.payload) s.came.parts) (place r.epochs p.epoch id)
    false

-- the block of the commitment is shown, or held
abbrev pub is_known : Rules → State → Commitment → Bool
is_known r s c = is_some (shown r s.came c) || is_some (held r s.notes c)

-- what a vote asks to have of a payload: the member's own chunk, or the block where it isn't cut
abbrev pub has_part_by : Travel → Rules → ℕ → State → Proposal → Bool
has_part_by Chunked r id s p = has_own_row r id s p
has_part_by Uncut r id s p = is_known r s p.payload

-- the member has of the proposal's payload what its vote asks
abbrev pub has_part : Rules → ℕ → State → Proposal → Bool
has_part r id s p = has_part_by r.travel r id s p

-- the payload is one for the proposal over the payload settled for its parent view
abbrev pub is_payload_for : Rules → Proposal → Commitment → Bool
is_payload_for r p c =
    same_counts p.payload.config (config r p.epoch)
    && same_digest p.payload.context (r.hash (r.context_bytes (context_for r p c)))

-- the proposal is of the settled payload again, which is held as the last block of the epoch
abbrev pub is_again : Rules → List Note → Proposal → Commitment → Bool
is_again r notes p c =
    same_commitment p.payload c && nat_lt 0 p.parent
    && option_map_or (λ a. is_last r.epochs p.epoch a.height) (held r notes c) false

-- the member can vote for the proposal over that payload: it has its part of a fitting block, or it
-- is the last block again
abbrev pub is_ready : Rules → ℕ → State → Proposal → Commitment → Bool
is_ready r id s p c = (has_part r id s p && is_payload_for r p c) || is_again r s.notes p c

-- the member can vote for the proposal over what is settled for its parent view
abbrev pub can_vote : Rules → ℕ → State → Proposal → Bool
can_vote r id s p =
    option_map_or (is_ready r id s p) (settled (genesis_commitment r) s.notes p.epoch p.parent)
    false

-- 6. a vote to notarize the leader's proposal of the member's view
abbrev pub notarize_owed : Rules → ℕ → State → Proposal → Option Note
notarize_owed r id s p =
    when ((p.epoch == epoch_of s.notes) && (p.view == view_of s.notes p.epoch)
    && is_member r.epochs p.epoch id
    && list_any (is_single (leader r.epochs p.epoch p.view) (Notarize p)) s.came.ballots
    && not (has_voted s.notes p.epoch p.view) && can_vote r id s p
    && all_nullified s.notes p.epoch p.parent p.view)
    (Note.Vote (Notarize p))

-- 7. a vote to finalize what is certified, where the view isn't closed
abbrev pub finalize_owed : Rules → ℕ → State → Proposal → Option Note
finalize_owed r id s p =
    when
    (has_certified s.notes p && is_member r.epochs p.epoch id
    && not (has_closed s.notes p.epoch p.view))
    (Note.Vote (Finalize p))

-- the note that the member owes
abbrev pub owed : Rules → ℕ → State → Option Note
owed r id s =
    option_or (first_some (block_owed r s) (named_commitments r s))
    (option_or (first_some (cert_owed r id s) (named_votes s))
    (option_or (first_some (certified_owed r s) (named_proposals s))
    (option_or (first_some (floor_owed r s) s.came.wishes)
    (option_or (epoch_owed r s)
    (option_or (first_some (notarize_owed r id s) (named_proposals s))
    (first_some (finalize_owed r id s) (named_proposals s)))))))
