-- What a member keeps from note to note.
use Rattle.std.specs.Prelude.{[], ℕ, ⊤, ◌*◌, ◌++◌, ◌<◌, ◌≡◌, ◌≤◌, Bool, IsFalse, IsTrue, List, None, Some, count_by, length, nat_le, slice_get}
use Rattle.std.specs.List.{AllByRecursion}
use Rattle.cw_types.specs.Epochs.{Epochs, is_member, members_in, rises_from, size}
use Rattle.cw_types.specs.Numbers.{quorum}
use Rattle.cw_types.specs.Votes.{vote_epoch, well_formed}
use Rattle.cw_types.specs.declared.commitment.Commitment.{Commitment}
use Rattle.cw_types.specs.declared.note.Note.{Note}
use Rattle.cw_types.specs.declared.vote.Proposal.{Proposal}
use Rattle.cw_types.specs.declared.vote.Vote.{Vote}
use Rattle.cw_types.specs.declared.vote.Vote.TheVariants.{Finalize, Notarize, Nullify}
use Rattle.cw_rules.specs.Accepted.{Ballot, Many, Single}
use Rattle.cw_rules.specs.Fits.{block_fits}
use Rattle.cw_rules.specs.Held.{at_height}
use Rattle.cw_rules.specs.Notes.{epoch_of, has_block, has_cert, has_certified, has_vote}
use Rattle.cw_rules.specs.Owed.{all_nullified, has_closed, has_voted}
use Rattle.cw_rules.specs.Rules.{Rules, commit}
use Rattle.cw_rules.specs.Stands.{EachAfter, IsSettled, Members, backs_at}

-- who backs which vote, and which votes stand, by whatever a reader means by it
pub record Meaning : Type 0 where
  pub backs : ℕ → Vote → Bool
  pub holds : Vote → Bool

-- what it means among members to back a vote, and to hold: a member that is there backs it, a
-- quorum of its epoch does
abbrev pub meaning : Epochs → Members → Meaning
meaning x members = record {
  backs = λ i v. backs_at members v i;
  holds =
      λ v. nat_le (quorum (size x (vote_epoch v)))
      (count_by (backs_at members v) (members_in x (vote_epoch v)));
}

-- a vote that a quorum of its epoch's members backs holds
abbrev pub IsClosed : Rules → Meaning → Type 0
IsClosed r m =
    (v : Vote) (signers : List ℕ) → IsTrue (rises_from 0 signers)
    → AllByRecursion (λ i. IsTrue (is_member r.epochs (vote_epoch v) i) × IsTrue (m.backs i v))
    signers
    → quorum (size r.epochs (vote_epoch v)) ≤ length signers → IsTrue (m.holds v)

-- the members of each epoch rise
abbrev pub IsRising : Rules → Type 0
IsRising r = (epoch : ℕ) → IsTrue (rises_from 0 (members_in r.epochs epoch))

-- the epoch is entered where the height before its first is reached, by that commitment
pub record IsEntered (r : Rules) (before : List Note) (epoch : ℕ) (c : Commitment) : Type 0 where
  pub span : ℕ
  pub is_span : r.epochs.span ≡ Some span
  pub above : epoch_of before < epoch
  pub reaches : at_height r before (epoch * span) ≡ Some c

-- the note enters the greatest epoch above the member's whose beginning is reached
pub record IsGreatest (r : Rules) (notes : List Note) (span : ℕ) (note : Note) : Type 0 where
  pub epoch : ℕ
  pub commitment : Commitment
  pub is : note ≡ Note.Epoch epoch commitment
  pub above : epoch_of notes < epoch
  pub reaches : at_height r notes (epoch * span) ≡ Some commitment
  pub no_more : (more : ℕ) → epoch < more → at_height r notes (more * span) ≡ None

-- what a note needs of those before it
abbrev pub Keeps : Rules → Meaning → List Note → Note → Type 0
-- a vote to notarize is the only vote of its view so far, over a settled view, and each view
-- between is nullified
Keeps r m before (Note.Vote (Notarize p)) =
    IsTrue (well_formed (Notarize p)) × IsFalse (has_voted before p.epoch p.view)
    × IsSettled before p.epoch p.parent × IsTrue (all_nullified before p.epoch p.parent p.view)
-- a vote that closes a view is the only one so far; what it finalizes is certified
Keeps r m before (Note.Vote (Nullify epoch view)) =
    IsTrue (well_formed (Nullify epoch view)) × IsFalse (has_closed before epoch view)
Keeps r m before (Note.Vote (Finalize p)) =
    IsTrue (has_certified before p) × IsFalse (has_closed before p.epoch p.view)
-- what is certified is notarized, and its block is held and fits
Keeps r m before (Note.Certified p) =
    IsTrue (has_cert before (Notarize p)) × IsTrue (block_fits r before p)
-- a block is noted under its own commitment
Keeps r m before (Note.Block c b) = commit r b ≡ c
-- the vote of a certificate holds
Keeps r m before (Note.Cert s) = IsTrue (m.holds s.vote)
-- an epoch is entered at its beginning
Keeps r m before (Note.Epoch epoch c) = IsEntered r before epoch c
Keeps r m before _ = ⊤

-- the same by what it means at each note, as the notes before it are
abbrev pub KeepsBy : Rules → (List Note → Meaning) → List Note → Note → Type 0
KeepsBy r m before note = Keeps r (m before) before note

-- what came is backed, and holds
abbrev pub IsSound : Meaning → Ballot → Type 0
IsSound m (Single i v) = IsTrue (well_formed v) × IsTrue (m.backs i v)
IsSound m (Many s) = IsTrue (m.holds s.vote)

-- what the meanings are along a member's notes: each is closed, what came stays sound, and the
-- member backs its own votes
pub record AreAlong (r : Rules) (m : List Note → Meaning) (id : ℕ) : Type 0 where
  pub closed : (notes : List Note) → IsClosed r (m notes)
  pub grows : (notes more : List Note) (b : Ballot) → IsSound (m notes) b
      → IsSound (m (notes ++ more)) b
  pub own : (notes : List Note) (v : Vote) → IsTrue (has_vote notes v)
      → IsTrue ((m notes).backs id v)

-- each honest member's notes keep, by what it means among the members
abbrev pub AllKeep : Rules → Members → Type 0
AllKeep r members =
    (i : ℕ) (notes : List Note) → slice_get members i ≡ Some (Some notes)
    → EachAfter (Keeps r (meaning r.epochs members)) [] notes

-- some honest member noted that the proposal is certified, and noted a block under its payload
pub record IsCertifiedIn (members : Members) (p : Proposal) : Type 0 where
  pub place : ℕ
  pub notes : List Note
  pub at : slice_get members place ≡ Some (Some notes)
  pub certified : IsTrue (has_certified notes p)
  pub noted : IsTrue (has_block notes p.payload)
