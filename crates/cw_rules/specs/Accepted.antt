-- What a member knows, and what it accepts.
use Rattle.std.specs.Prelude.{[], ℕ, ◌&&◌, ◌++◌, ◌==◌, ◌∷◌, Bool, List, None, Option, false, if◌then◌else◌, length, not, true}
use Rattle.std.specs.List.{list_any}
use Rattle.std.specs.Option.{option_map_or, option_or}
use Rattle.cw_base.specs.Config.{same_counts}
use Rattle.cw_types.specs.Block.{Block}
use Rattle.cw_types.specs.Epochs.{is_member}
use Rattle.cw_types.specs.Valid as valid
use Rattle.cw_types.specs.Same.{same_block, same_cert, same_commitment, same_vote}
use Rattle.cw_types.specs.Votes.{finalized, vote_epoch, well_formed}
use Rattle.cw_types.specs.declared.commitment.Commitment.{Commitment}
use Rattle.cw_types.specs.declared.message.Message.{Message}
use Rattle.cw_types.specs.declared.note.Note.{Note}
use Rattle.cw_types.specs.declared.vote.Cert.{Cert}
use Rattle.cw_types.specs.declared.vote.Proposal.{Proposal}
use Rattle.cw_types.specs.declared.vote.Vote.{Vote}
use Rattle.cw_rules.specs.Rules.{Chunk, Rules, is_chunked, is_under}
use Rattle.cw_types.specs.Numbers.{config_for}

-- what f answers at the first element at which it answers something
abbrev pub first_some : {X Y : Type 0} → (X → Option Y) → List X → Option Y
first_some f [] = None
first_some f (x ∷ xs) = option_or (f x) (first_some f xs)

-- an accepted vote or certificate
pub data Ballot : Type 0 where
  Single : (signer : ℕ) (vote : Vote) → Ballot
  Many : (cert : Cert) → Ballot

-- an accepted chunk with the commitment that it is of, or a whole block, which is under its own
-- commitment
pub data Part : Type 0 where
  Row : (of : Commitment) (chunk : Chunk) → Part
  Whole : (block : Block) → Part

-- what a member accepted since its start, each kind in order. No rule compares the places of two
-- kinds
pub record Came : Type 0 where
  pub ballots : List Ballot
  pub parts : List Part
  pub wishes : List Commitment

-- what the rules ask about: all notes so far, what came, and the heights handed out since the start
pub record State : Type 0 where
  pub notes : List Note
  pub came : Came
  pub given : List ℕ

-- a quorum of the members of its epoch signed the certificate's well-formed vote
abbrev pub is_valid : Rules → (ℕ → Vote → Bool) → Cert → Bool
is_valid r signed s = valid.is_valid r.epochs signed s

-- the same vote of the same signer, or the same certificate
abbrev pub same_ballot : Ballot → Ballot → Bool
same_ballot (Single i v) (Single j w) = (i == j) && same_vote v w
same_ballot (Many s) (Many t) = same_cert s t
same_ballot _ _ = false

-- a chunk of that commitment and index, or that block
abbrev pub same_part : Part → Part → Bool
same_part (Row c x) (Row d y) = same_commitment c d && (x.index == y.index)
same_part (Whole a) (Whole b) = same_block a b
same_part _ _ = false

-- the ballot goes to the end where it fits and isn't there
abbrev pub take_ballot : Came → Bool → Ballot → Came
take_ballot came fits x =
    if fits && not (list_any (same_ballot x) came.ballots) then record {
      ballots = came.ballots ++ x ∷ [];
      parts = came.parts;
      wishes = came.wishes;
    } else came

-- the part goes to the end where it fits and isn't there
abbrev pub take_part : Came → Bool → Part → Came
take_part came fits x =
    if fits && not (list_any (same_part x) came.parts) then record {
      ballots = came.ballots;
      parts = came.parts ++ x ∷ [];
      wishes = came.wishes;
    } else came

-- a chunk of a commitment with the config of some epoch, which stands under its root; none where
-- blocks aren't cut
abbrev pub is_chunk_of : Rules → Commitment → Chunk → Bool
is_chunk_of r c x =
    is_chunked r.travel
    && list_any (λ list. same_counts c.config (config_for (length list))) r.epochs.lists
    && is_under r c x

-- what a delivered message leaves
abbrev pub accepted : Rules → (ℕ → Vote → Bool) → Came → Message → Came
accepted r signed came (Message.Vote i v) =
    take_ballot came (is_member r.epochs (vote_epoch v) i && well_formed v && signed i v)
    (Single i v)
accepted r signed came (Message.Cert s) = take_ballot came (is_valid r signed s) (Many s)
accepted r signed came (Message.Shard c x) = take_part came (is_chunk_of r c x) (Row c x)
accepted r signed came (Message.Block b) = take_part came true (Whole b)
accepted r signed came _ = came

-- one more wish
abbrev pub add_wish : Came → Commitment → Came
add_wish came c =
    record { ballots = came.ballots; parts = came.parts; wishes = came.wishes ++ c ∷ [] }

-- a valid certificate, and a wish for what it finalizes
abbrev pub wish_for : Rules → (ℕ → Vote → Bool) → Came → Cert → Proposal → Came
wish_for r signed came s p =
    if is_valid r signed s then add_wish (take_ballot came true (Many s)) p.payload else came

-- what a floor event leaves, where its certificate is a finalization
abbrev pub wished : Rules → (ℕ → Vote → Bool) → Came → Cert → Came
wished r signed came s = option_map_or (wish_for r signed came s) (finalized s.vote) came
