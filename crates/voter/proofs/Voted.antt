-- When a vote is owed, and which.
use Rattle.std.proofs.Common.{◌≡◌, ◌&&◌, ◌==◌, ℕ, Bool, true, false, not, List, [], ◌∷◌, map, Option, Some, None, refl}
use Rattle.std.specs.List.{find, list_any}
use Rattle.std.specs.Option.{is_some, option_map_or}
use Rattle.cw_types.specs.Epochs.{is_member, leader}
use Rattle.cw_types.specs.declared.commitment.Commitment.{Commitment}
use Rattle.cw_types.specs.declared.note.Note.{Note}
use Rattle.cw_types.specs.declared.vote.Proposal.{Proposal}
use Rattle.cw_types.specs.declared.vote.Vote.TheVariants.{Finalize, Notarize}
use Rattle.cw_rules.specs.Accepted.{State, first_some}
use Rattle.cw_rules.specs.Notes.{epoch_of, has_certified, settled, view_of}
use Rattle.cw_rules.specs.Owed.{all_nullified, finalize_owed, has_closed, has_voted, is_ready, is_row_at, is_single, named_proposals, notarize_owed}
use Rattle.cw_rules.specs.Rules.{Rules, genesis_commitment}
use Rattle.voter.specs.Known.{is_own_at, own_part}
use Rattle.voter.specs.declared.own.OwnChunk.{OwnChunk}
use Rattle.voter.proofs.Lists.{first_found, first_missing, some_when, when_there}

-- a chunk came exactly where the tally was told of it
pub own_parts : (at : ℕ) (c : Commitment) (own : List OwnChunk)
    → list_any (is_row_at at c) (map own_part own) ≡ list_any (is_own_at at c) own
own_parts at c [] = refl
own_parts at c (x ∷ xs) = rw (own_parts at c xs) refl

-- and so at the member's place
pub own_at : (c : Commitment) (own : List OwnChunk) (place : Option ℕ)
    → option_map_or (λ at. list_any (is_row_at at c) (map own_part own)) place false
    ≡ option_map_or (λ at. list_any (is_own_at at c) own) place false
own_at c own None = refl
own_at c own (Some at) = own_parts at c own

-- when a vote to notarize is owed
pub notarize_where : (r : Rules) (id : ℕ) (s : State) (p : Proposal)
    → is_some (notarize_owed r id s p)
    ≡ ((p.epoch == epoch_of s.notes) && (p.view == view_of s.notes p.epoch)
    && is_member r.epochs p.epoch id
    && list_any (is_single (leader r.epochs p.epoch p.view) (Notarize p)) s.came.ballots
    && not (has_voted s.notes p.epoch p.view)
    && option_map_or (is_ready r id s p) (settled (genesis_commitment r) s.notes p.epoch p.parent)
    false
    && all_nullified s.notes p.epoch p.parent p.view)
notarize_where r id s p =
    some_when ((p.epoch == epoch_of s.notes) && (p.view == view_of s.notes p.epoch)
    && is_member r.epochs p.epoch id
    && list_any (is_single (leader r.epochs p.epoch p.view) (Notarize p)) s.came.ballots
    && not (has_voted s.notes p.epoch p.view)
    && option_map_or (is_ready r id s p) (settled (genesis_commitment r) s.notes p.epoch p.parent)
    false
    && all_nullified s.notes p.epoch p.parent p.view) (Note.Vote (Notarize p))

-- a vote to notarize asks what is votable, and the payload
pub payload_last : (turn ready whole : Bool) → (turn && ready && whole) ≡ ((turn && whole) && ready)
payload_last true true true = refl
payload_last true true false = refl
payload_last true false true = refl
payload_last true false false = refl
payload_last false ready whole = refl

-- and which
notarize_there : (r : Rules) (id : ℕ) (s : State) (p : Proposal)
    → is_some (notarize_owed r id s p) ≡ true
    → notarize_owed r id s p ≡ Some (Note.Vote (Notarize p))
notarize_there r id s p h =
    when_there ((p.epoch == epoch_of s.notes) && (p.view == view_of s.notes p.epoch)
    && is_member r.epochs p.epoch id
    && list_any (is_single (leader r.epochs p.epoch p.view) (Notarize p)) s.came.ballots
    && not (has_voted s.notes p.epoch p.view)
    && option_map_or (is_ready r id s p) (settled (genesis_commitment r) s.notes p.epoch p.parent)
    false
    && all_nullified s.notes p.epoch p.parent p.view) (Note.Vote (Notarize p)) h

pub notarize_found : (r : Rules) (id : ℕ) (s : State) (found : Option Proposal) (p : Proposal)
    → found ≡ find (λ q. is_some (notarize_owed r id s q)) (named_proposals s) → found ≡ Some p
    → first_some (notarize_owed r id s) (named_proposals s) ≡ Some (Note.Vote (Notarize p))
notarize_found r id s found p e h =
    first_found (notarize_owed r id s) (named_proposals s) found p (Note.Vote (Notarize p)) e h
    (notarize_there r id s p)

pub notarize_missing : (r : Rules) (id : ℕ) (s : State) (found : Option Proposal)
    → found ≡ find (λ q. is_some (notarize_owed r id s q)) (named_proposals s) → found ≡ None
    → first_some (notarize_owed r id s) (named_proposals s) ≡ None
notarize_missing r id s found e h =
    first_missing (notarize_owed r id s) (named_proposals s) found e h

-- when a vote to finalize is owed
pub finalize_where : (r : Rules) (id : ℕ) (s : State) (p : Proposal)
    → is_some (finalize_owed r id s p)
    ≡ (has_certified s.notes p && is_member r.epochs p.epoch id
    && not (has_closed s.notes p.epoch p.view))
finalize_where r id s p =
    some_when
    (has_certified s.notes p && is_member r.epochs p.epoch id
    && not (has_closed s.notes p.epoch p.view))
    (Note.Vote (Finalize p))

-- and which
finalize_there : (r : Rules) (id : ℕ) (s : State) (p : Proposal)
    → is_some (finalize_owed r id s p) ≡ true
    → finalize_owed r id s p ≡ Some (Note.Vote (Finalize p))
finalize_there r id s p h =
    when_there
    (has_certified s.notes p && is_member r.epochs p.epoch id
    && not (has_closed s.notes p.epoch p.view))
    (Note.Vote (Finalize p)) h

pub finalize_found : (r : Rules) (id : ℕ) (s : State) (found : Option Proposal) (p : Proposal)
    → found ≡ find (λ q. is_some (finalize_owed r id s q)) (named_proposals s) → found ≡ Some p
    → first_some (finalize_owed r id s) (named_proposals s) ≡ Some (Note.Vote (Finalize p))
finalize_found r id s found p e h =
    first_found (finalize_owed r id s) (named_proposals s) found p (Note.Vote (Finalize p)) e h
    (finalize_there r id s p)

pub finalize_missing : (r : Rules) (id : ℕ) (s : State) (found : Option Proposal)
    → found ≡ find (λ q. is_some (finalize_owed r id s q)) (named_proposals s) → found ≡ None
    → first_some (finalize_owed r id s) (named_proposals s) ≡ None
finalize_missing r id s found e h =
    first_missing (finalize_owed r id s) (named_proposals s) found e h
