-- What a tally holds, as a record of lists, and how the rules see it.
use Rattle.std.specs.Prelude.{[], ℕ, ◌&&◌, ◌++◌, ◌==◌, ◌∷◌, Bool, List, None, Option, Some, false, filter, map, true}
use Rattle.cw_base.specs.declared.hash.Digest32.{Digest32}
use Rattle.cw_types.specs.Encoding.{block_bytes, context_bytes}
use Rattle.cw_types.specs.Epochs.{Epochs, members_in}
use Rattle.cw_types.specs.Same.{same_commitment, same_vote}
use Rattle.cw_types.specs.Votes.{vote_epoch}
use Rattle.cw_types.specs.declared.commitment.Commitment.{Commitment}
use Rattle.cw_types.specs.declared.note.Note.{Note}
use Rattle.cw_types.specs.declared.vote.Vote.{Vote}
use Rattle.cw_rules.specs.Accepted.{Ballot, Came, Many, Part, Row, Single, State, take_ballot}
use Rattle.cw_rules.specs.Owed.{knows}
use Rattle.cw_rules.specs.Rules.{Rules}
use Rattle.cw_rules.specs.declared.travel.Travel.TheVariants.{Chunked}
use Rattle.voter.specs.declared.own.OwnChunk.{OwnChunk}

-- the committees, the member's number, its notes, the votes and certificates that came, and which
-- of the chunks that are its own came
pub record Known : Type 0 where
  pub epochs : Epochs
  pub id : ℕ
  pub notes : List Note
  pub ballots : List Ballot
  pub own : List OwnChunk

-- a member that knows nothing yet
abbrev pub unknowing : Epochs → ℕ → Known
unknowing x id = record { epochs = x; id = id; notes = []; ballots = []; own = [] }

-- one more note
abbrev pub with_note : Known → Note → Known
with_note t note = record {
  epochs = t.epochs;
  id = t.id;
  notes = t.notes ++ note ∷ [];
  ballots = t.ballots;
  own = t.own;
}

-- one more chunk at a place of the member's own
abbrev pub with_own : Known → Commitment → ℕ → Known
with_own t c at = record {
  epochs = t.epochs;
  id = t.id;
  notes = t.notes;
  ballots = t.ballots;
  own = t.own ++ record { commitment = c; index = at } ∷ [];
}

-- ---- as the rules see it

-- the rules of these committees and of this hash for blocks in chunks, over blocks and contexts in
-- their bytes. Voting never asks for backlog, code, root, path, leads_to, text_of, read_block and
-- accepts: tally_stands shows that any others do as well
abbrev pub vote_rules : (List ℕ → Digest32) → Epochs → Rules
vote_rules hash x = record {
  travel = Chunked;
  epochs = x;
  backlog = 0;
  hash = hash;
  block_bytes = block_bytes;
  context_bytes = context_bytes;
  code = λ text minimum extra. [];
  root = λ digests. hash [];
  path = λ digests at. [];
  leads_to = λ root chunk. false;
  text_of = λ shards chunks. None;
  read_block = λ bytes. None;
  accepts = λ a b. false;
}

-- a chunk of that commitment at that place. No vote asks for its bytes
abbrev pub own_part : OwnChunk → Part
own_part x =
    Row x.commitment (record { shard = []; index = x.index; leaf_count = 0; siblings = [] })

-- what came
abbrev pub known_came : Known → Came
known_came t = record { ballots = t.ballots; parts = map own_part t.own; wishes = [] }

-- the state of a member that knows this
abbrev pub known_state : Known → State
known_state t = record { notes = t.notes; came = known_came t; given = [] }

-- what a vote or a certificate leaves that may be accepted: it goes to the end where it isn't there
abbrev pub with_ballot : Known → Ballot → Known
with_ballot t x = record {
  epochs = t.epochs;
  id = t.id;
  notes = t.notes;
  ballots = (take_ballot (known_came t) true x).ballots;
  own = t.own;
}

-- those, unless there are none
abbrev pub unless_empty : {X : Type 0} → List X → Option (List X)
unless_empty [] = None
unless_empty (x ∷ xs) = Some (x ∷ xs)

-- the members of its epoch that are known to have signed the vote, rising, if there are some
abbrev pub known_signers : Known → Vote → Option (List ℕ)
known_signers t v =
    unless_empty (filter (knows t.id (known_state t) v) (members_in t.epochs (vote_epoch v)))

-- ---- what came

-- a certificate of the vote
abbrev pub is_cert_for : Vote → Ballot → Bool
is_cert_for v (Single i w) = false
is_cert_for v (Many s) = same_vote v s.vote

-- the signers of a certificate
abbrev pub ballot_signers : Ballot → List ℕ
ballot_signers (Single i v) = []
ballot_signers (Many s) = s.signers

-- it is the chunk of the commitment at that place
abbrev pub is_own_at : ℕ → Commitment → OwnChunk → Bool
is_own_at at c x = same_commitment c x.commitment && (x.index == at)
