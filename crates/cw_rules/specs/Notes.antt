-- What a member's notes tell: its votes, what it knows to be certified, which views are over.
use Rattle.std.specs.Prelude.{[], ℕ, ◌&&◌, ◌+◌, ◌==◌, ◌||◌, ◌∷◌, Bool, List, None, Option, Some, false, filter_map, find, if◌then◌else◌, max, option_map}
use Rattle.std.specs.List.{list_any}
use Rattle.cw_types.specs.Same.{same_commitment, same_proposal, same_vote}
use Rattle.cw_types.specs.Votes.{finalized}
use Rattle.cw_types.specs.declared.commitment.Commitment.{Commitment}
use Rattle.cw_types.specs.declared.note.Note.{Note}
use Rattle.cw_types.specs.declared.vote.Proposal.{Proposal}
use Rattle.cw_types.specs.declared.vote.Vote.{Vote}
use Rattle.cw_types.specs.declared.vote.Vote.TheVariants.{Finalize, Notarize, Nullify}
use Rattle.cw_rules.specs.Rules.{genesis}

-- the note is this vote of the member's own
abbrev pub is_vote : Vote → Note → Bool
is_vote v (Note.Vote w) = same_vote v w
is_vote v _ = false

-- the note is a certificate of this vote
abbrev pub is_cert : Vote → Note → Bool
is_cert v (Note.Cert s) = same_vote v s.vote
is_cert v _ = false

-- the note says that this proposal is certified
abbrev pub is_certified : Proposal → Note → Bool
is_certified p (Note.Certified q) = same_proposal p q
is_certified p _ = false

-- the note is a block under this commitment
abbrev pub is_block : Commitment → Note → Bool
is_block c (Note.Block d b) = same_commitment c d
is_block c _ = false

-- the vote is among the notes
abbrev pub has_vote : List Note → Vote → Bool
has_vote notes v = list_any (is_vote v) notes

-- a certificate of the vote is among the notes
abbrev pub has_cert : List Note → Vote → Bool
has_cert notes v = list_any (is_cert v) notes

-- the proposal is noted to be certified
abbrev pub has_certified : List Note → Proposal → Bool
has_certified notes p = list_any (is_certified p) notes

-- a block under the commitment is noted
abbrev pub has_block : List Note → Commitment → Bool
has_block notes c = list_any (is_block c) notes

-- the view of the epoch has a noted nullification
abbrev pub nullified : List Note → ℕ → ℕ → Bool
nullified notes epoch view = has_cert notes (Nullify epoch view)

-- the proposal that a note settles: that of a Certified note or of a noted finalization
abbrev pub settling : Note → Option Proposal
settling (Note.Certified p) = Some p
settling (Note.Cert s) = finalized s.vote
settling _ = None

-- the first proposal of that epoch and view which the notes settle
abbrev pub settler : List Note → ℕ → ℕ → Option Proposal
settler notes epoch view =
    find (λ p. (p.epoch == epoch) && (p.view == view)) (filter_map settling notes)

-- the number of the epoch that a note enters
abbrev pub entered : Note → Option ℕ
entered (Note.Epoch epoch c) = Some epoch
entered _ = None

-- the note enters that epoch
abbrev pub enters : ℕ → Note → Bool
enters epoch (Note.Epoch e c) = e == epoch
enters epoch _ = false

-- the epoch has begun: it is the first, or a note enters it
abbrev pub has_begun : List Note → ℕ → Bool
has_begun notes epoch = (epoch == 0) || list_any (enters epoch) notes

-- what an epoch is entered by
abbrev pub epoch_entered : Note → Option (ℕ × Commitment)
epoch_entered (Note.Epoch epoch c) = Some (epoch, c)
epoch_entered _ = None

-- the payload on which the first proposal of an epoch builds: genesis, or that of the first note
-- which enters the epoch
abbrev pub epoch_parent : Commitment → List Note → ℕ → Option Commitment
epoch_parent genesis notes epoch =
    if epoch == 0 then Some genesis
    else option_map (λ e. e.1) (find (λ e. e.0 == epoch) (filter_map epoch_entered notes))

-- the payload that is settled for a view of an epoch
abbrev pub settled : Commitment → List Note → ℕ → ℕ → Option Commitment
settled genesis notes epoch view =
    if view == 0 then epoch_parent genesis notes epoch
    else option_map (λ p. p.payload) (settler notes epoch view)

-- the view that stands for an end in that epoch
abbrev pub ends_in : ℕ → ℕ → ℕ → Option ℕ
ends_in epoch e view = if e == epoch then Some view else None

-- the view of the epoch that a vote ends, once its certificate is noted
abbrev pub ended_by : ℕ → Vote → Option ℕ
ended_by epoch (Notarize p) = None
ended_by epoch (Nullify e view) = ends_in epoch e view
ended_by epoch (Finalize p) = ends_in epoch p.epoch p.view

-- the view of the epoch that a note ends
abbrev pub ended : ℕ → Note → Option ℕ
ended epoch (Note.Certified p) = ends_in epoch p.epoch p.view
ended epoch (Note.Cert s) = ended_by epoch s.vote
ended epoch _ = None

-- the greatest of some numbers, 0 where there is none
abbrev pub greatest : List ℕ → ℕ
greatest [] = 0
greatest (x ∷ xs) = max x (greatest xs)

-- the epoch that a member is in
abbrev pub epoch_of : List Note → ℕ
epoch_of notes = greatest (filter_map entered notes)

-- the view of the epoch that a member is in
abbrev pub view_of : List Note → ℕ → ℕ
view_of notes epoch = 1 + greatest (filter_map (ended epoch) notes)
