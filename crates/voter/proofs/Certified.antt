-- When a certificate is owed, and which.
use Rattle.std.proofs.Common.{◌≡◌, ◌&&◌, ◌||◌, ℕ, Bool, true, false, if◌then◌else◌, nat_le, not, List, [], ◌∷◌, length, Option, Some, None, option_map, unwrap_or, refl}
use Rattle.std.specs.List.{find}
use Rattle.std.specs.Option.{is_some, option_or}
use Rattle.cw_types.specs.Epochs.{size}
use Rattle.cw_types.specs.Numbers.{quorum}
use Rattle.cw_types.specs.Same.{same_vote}
use Rattle.cw_types.specs.Votes.{vote_epoch}
use Rattle.cw_types.specs.declared.note.Note.{Note}
use Rattle.cw_types.specs.declared.vote.Vote.{Vote}
use Rattle.cw_rules.specs.Accepted.{Ballot, Many, Single, State, first_some}
use Rattle.cw_rules.specs.Notes.{has_cert}
use Rattle.cw_rules.specs.Owed.{cert_owed, known, named_votes, signers_in, when}
use Rattle.cw_rules.specs.Rules.{Rules}
use Rattle.voter.specs.Known.{ballot_signers, is_cert_for}
use Rattle.voter.proofs.Lists.{first_found, first_missing}

-- the signers of the first certificate that came are those of the first ballot that certifies the
-- vote
pub first_signers : (v : Vote) (ballots : List Ballot)
    → first_some (signers_in v) ballots ≡ option_map ballot_signers (find (is_cert_for v) ballots)
first_signers v [] = refl
first_signers v (Single i w ∷ ballots) = first_signers v ballots
first_signers v (Many s ∷ ballots) = go (same_vote v s.vote) refl (first_signers v ballots)
  where
    go : (b : Bool) → same_vote v s.vote ≡ b
        → first_some (signers_in v) ballots
        ≡ option_map ballot_signers (find (is_cert_for v) ballots)
        → first_some (signers_in v) (Many s ∷ ballots)
        ≡ option_map ballot_signers (find (is_cert_for v) (Many s ∷ ballots))
    go true e more = rw e refl
    go false e more = rw e more

-- a quorum is known to have signed the vote
abbrev pub is_signed : Rules → ℕ → State → Vote → Bool
is_signed r id s v = nat_le (quorum (size r.epochs (vote_epoch v))) (length (known r id s v))

-- the signers of the first certificate that came, else those that are known
abbrev pub signers_or : Rules → ℕ → State → Vote → List ℕ
signers_or r id s v =
    unwrap_or (option_map ballot_signers (find (is_cert_for v) s.came.ballots)) (known r id s v)

-- a certificate is owed where none is noted, and one came or a quorum is known
pub cert_where : (r : Rules) (id : ℕ) (s : State) (v : Vote)
    → is_some (cert_owed r id s v)
    ≡ (not (has_cert s.notes v)
    && (is_some (find (is_cert_for v) s.came.ballots) || is_signed r id s v))
cert_where r id s v =
    rw (first_signers v s.came.ballots)
    (go (has_cert s.notes v) (find (is_cert_for v) s.came.ballots) (is_signed r id s v))
  where
    go : (noted : Bool) (o : Option Ballot) (signed : Bool)
        → is_some
        (if noted then None
        else option_map (λ signers. Note.Cert (record { vote = v; signers = signers }))
        (option_or (option_map ballot_signers o) (when signed (known r id s v))))
        ≡ (not noted && (is_some o || signed))
    go true o signed = refl
    go false (Some b) signed = refl
    go false None true = refl
    go false None false = refl

-- where one is owed, it is that
pub cert_there : (r : Rules) (id : ℕ) (s : State) (v : Vote) → is_some (cert_owed r id s v) ≡ true
    → cert_owed r id s v ≡ Some (Note.Cert (record { vote = v; signers = signers_or r id s v }))
cert_there r id s v h =
    rw (first_signers v s.came.ballots)
    (go (has_cert s.notes v) (find (is_cert_for v) s.came.ballots) (is_signed r id s v)
    (rw (first_signers v s.came.ballots) at h))
  where
    go : (noted : Bool) (o : Option Ballot) (signed : Bool)
        → is_some
        (if noted then None
        else option_map (λ signers. Note.Cert (record { vote = v; signers = signers }))
        (option_or (option_map ballot_signers o) (when signed (known r id s v))))
        ≡ true
        → (if noted then None
        else option_map (λ signers. Note.Cert (record { vote = v; signers = signers }))
        (option_or (option_map ballot_signers o) (when signed (known r id s v))))
        ≡ Some (Note.Cert (record {
          vote = v;
          signers = unwrap_or (option_map ballot_signers o) (known r id s v);
        }))
    go true o signed k = cc
    go false (Some b) signed k = refl
    go false None true k = refl
    go false None false k = cc

-- the certificate that is owed is that of the first vote of which one is
pub cert_found : (r : Rules) (id : ℕ) (s : State) (found : Option Vote) (v : Vote)
    → found ≡ find (λ w. is_some (cert_owed r id s w)) (named_votes s) → found ≡ Some v
    → first_some (cert_owed r id s) (named_votes s)
    ≡ Some (Note.Cert (record { vote = v; signers = signers_or r id s v }))
cert_found r id s found v e h =
    first_found (cert_owed r id s) (named_votes s) found v
    (Note.Cert (record { vote = v; signers = signers_or r id s v })) e h (cert_there r id s v)

-- none is owed where there is no such vote
pub cert_missing : (r : Rules) (id : ℕ) (s : State) (found : Option Vote)
    → found ≡ find (λ w. is_some (cert_owed r id s w)) (named_votes s) → found ≡ None
    → first_some (cert_owed r id s) (named_votes s) ≡ None
cert_missing r id s found e h = first_missing (cert_owed r id s) (named_votes s) found e h
