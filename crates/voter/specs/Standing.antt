-- The member of the rules that a tally stands for.
use Rattle.std.specs.Prelude.{◌≡◌, ℕ, ◌&&◌, ◌-◌, Bool, IsTrue, List, None, Option, Some, Vec, if◌then◌else◌, min, true}
use Rattle.std.specs.BTreeSet.{BTreeSet}
use Rattle.std.specs.List.{list_all, list_any}
use Rattle.std.specs.declared.alloc.Global.{Global}
use Rattle.cw_base.specs.declared.hash.Digest32.{Digest32}
use Rattle.cw_types.specs.Block.{Block}
use Rattle.cw_types.specs.Encoding.{block_bytes, context_bytes}
use Rattle.cw_types.specs.Epochs.{Epochs, is_member, place, rises_from}
use Rattle.cw_types.specs.Votes.{vote_epoch, well_formed}
use Rattle.cw_types.specs.declared.commitment.Commitment.{Commitment}
use Rattle.cw_types.specs.declared.note.Note.{Note}
use Rattle.cw_types.specs.declared.vote.Vote.{Vote}
use Rattle.cw_rules.specs.Accepted.{Ballot, Came, Many, Single, State}
use Rattle.cw_rules.specs.Direct.{best_parent}
use Rattle.cw_rules.specs.Notes.{view_of}
use Rattle.cw_rules.specs.Owed.{all_nullified, ballot_vote, is_row_at}
use Rattle.cw_rules.specs.Rules.{Rules}
use Rattle.note_scans.specs.Countable.{is_countable}
use Rattle.voter.specs.Certs.{HasFirst}
use Rattle.voter.specs.Facts.{HaveFacts}
use Rattle.voter.specs.Known.{Known, is_own_at}
use Rattle.voter.specs.Lists.{HasLists}
use Rattle.voter.specs.Own.{HasOwn}
use Rattle.voter.specs.Signing.{HaveSigners}
use Rattle.voter.specs.Waiting.{AreWaiting}
use Rattle.voter.specs.declared.facts.Facts.{Facts}
use Rattle.voter.specs.declared.waiting.Waiting.{Waiting}
use Rattle.note_scans.specs.declared.key.VoteKey.{VoteKey}
use Rattle.voter.specs.declared.own.OwnChunk.{OwnChunk}

-- the tally has the member's committees, its notes, the votes and certificates that came to it, and
-- those chunks that came and stand at its place of some epoch
pub record IsTallyOf (hash : List ℕ → Digest32) (t : Known) (r : Rules) (s : State) : Type 0 where
  pub epochs : r.epochs ≡ t.epochs
  pub hash_same : r.hash ≡ hash
  pub blocks : r.block_bytes ≡ block_bytes
  pub contexts : r.context_bytes ≡ context_bytes
  pub notes : s.notes ≡ t.notes
  pub ballots : s.came.ballots ≡ t.ballots
  pub own : (epoch at : ℕ) (c : Commitment) → place t.epochs epoch t.id ≡ Some at
      → list_any (is_row_at at c) s.came.parts ≡ list_any (is_own_at at c) t.own

-- what came and may be counted: the vote that it names is well formed
abbrev pub is_formed : Ballot → Bool
is_formed x = well_formed (ballot_vote x)

-- these may sign the vote: they rise, and are members of its epoch
abbrev pub are_signers : Epochs → Vote → List ℕ → Bool
are_signers x v signers = rises_from 0 signers && list_all (is_member x (vote_epoch v)) signers

-- the signers of a certificate that came may sign it
abbrev pub is_signed : Epochs → Ballot → Bool
is_signed x (Single i v) = true
is_signed x (Many s) = are_signers x s.vote s.signers

-- what a tally holds may be counted, its sets are those of the signers, its maps say what the notes
-- say, and its lists have what waits
pub record IsTally (epochs : Epochs) (id : ℕ) (notes : List Note) (ballots : List Ballot)
    (came known : List (VoteKey × BTreeSet ℕ)) (said : Facts) (first : List (VoteKey × ℕ))
    (lists : List (VoteKey × BTreeSet (Vec ℕ Global)))
    (own : List OwnChunk) (own_keys : List (VoteKey × Bool)) (lines : Waiting) : Type 0 where
  pub countable : IsTrue (list_all is_countable notes)
  pub formed : IsTrue (list_all is_formed ballots)
  pub signed : IsTrue (list_all (is_signed epochs) ballots)
  pub signers : HaveSigners epochs id notes ballots came known
  pub facts : HaveFacts notes said
  pub places : HasFirst ballots first
  pub listed : HasLists ballots lists
  pub owned : HasOwn own own_keys
  pub waiting : AreWaiting
      (record { epochs = epochs; id = id; notes = notes; ballots = ballots; own = own }) lines

-- the member once that came
abbrev pub with_came : State → Came → State
with_came s came = record { notes = s.notes; came = came; given = s.given }

-- the best parent of the rules below so many, where all views from there up to the member's are
-- nullified
abbrev pub best_from : Rules → List Note → ℕ → ℕ → Option (ℕ × Commitment × Block)
best_from r notes epoch below =
    let top = min below (view_of notes epoch) in
    if all_nullified notes epoch (top - 1) (view_of notes epoch)
    then best_parent r notes epoch top
    else None
