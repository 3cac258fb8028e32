-- Clusters with a hash that computes: a digest is the text itself. A codeword repeats its text,
-- twice in each row.
use Rattle.std.specs.Prelude.{ℕ, ◌+◌, ◌/◌, ◌==◌, ◌&&◌, true, List, [], ◌∷◌, ◌++◌, map, filter_map, find, replicate, length, take, Option, Some, None, option_and_then, if◌then◌else◌, bytes_eq, drop}
use Rattle.std.specs.List.{last_or, list_all}
use Rattle.std.specs.Option.{option_map_or}
use Rattle.cw_base.specs.declared.hash.Digest32.{Digest32}
use Rattle.cw_base.specs.Counts.{Counts}
use Rattle.cw_types.specs.declared.block.Context.{Context}
use Rattle.cw_types.specs.declared.commitment.Commitment.{Commitment}
use Rattle.cw_types.specs.declared.event.To.{To}
use Rattle.cw_types.specs.declared.message.Message.{Message}
use Rattle.cw_types.specs.declared.vote.Proposal.{Proposal}
use Rattle.cw_types.specs.declared.vote.Vote.{Vote}
use Rattle.cw_types.specs.declared.vote.Vote.TheVariants.{Notarize, Nullify, Finalize}
use Rattle.cw_types.specs.Block.{Block}
use Rattle.cw_types.specs.Epochs.{Epochs}
use Rattle.cw_types.specs.Votes.{proposal_of}
use Rattle.cw_rules.specs.Rules.{Chunk, Rules}
use Rattle.cw_rules.specs.declared.travel.Travel.TheVariants.{Chunked}
use Rattle.cw_rules.specs.Step.{member_notes}
use Rattle.cw_rules.specs.World.{World, Sent}

abbrev pub toy_commitment_bytes : Commitment → List ℕ
toy_commitment_bytes c = c.block.0 ++ c.config.minimum ∷ []

abbrev pub toy_context_bytes : Context → List ℕ
toy_context_bytes c = c.epoch ∷ c.view ∷ c.leader ∷ c.parent_view ∷ toy_commitment_bytes c.parent

abbrev pub toy_block_bytes : Block → List ℕ
toy_block_bytes b = b.height ∷ toy_context_bytes b.context ++ b.payload

abbrev pub toy_hash : List ℕ → Digest32
toy_hash xs = record { 0 = xs }

-- the text of which these are k equal rows
abbrev pub toy_text : Counts → List Chunk → Option (List ℕ)
toy_text x [] = None
toy_text x (c ∷ cs) =
    if (length (c ∷ cs) == x.minimum) && list_all (λ d. bytes_eq d.shard c.shard) cs
    then Some (take (length c.shard / 2) c.shard) else None

-- the one of these blocks that a text is
abbrev pub toy_read : List Block → List ℕ → Option Block
toy_read blocks text = find (λ b. bytes_eq (toy_block_bytes b) text) blocks

-- a cluster of these committees, with this hash, that knows these blocks by their bytes
abbrev pub hashed_by : (List ℕ → Digest32) → Epochs → ℕ → List Block → Rules
hashed_by hash epochs backlog blocks = record {
  travel = Chunked;
  epochs = epochs;
  backlog = backlog;
  hash = hash;
  block_bytes = toy_block_bytes;
  context_bytes = toy_context_bytes;
  code = λ text k m. replicate (k + m) (text ++ text);
  root = λ digests. hash [];
  path = λ digests i. [];
  leads_to = λ root chunk. true;
  text_of = toy_text;
  read_block = toy_read blocks;
  accepts = λ b a. true;
}

abbrev pub toy_in : Epochs → ℕ → List Block → Rules
toy_in epochs backlog blocks = hashed_by toy_hash epochs backlog blocks

-- a block: its epoch, view, leader, parent's view, commitment and digest, height and payload
abbrev pub toy_block : ℕ → ℕ → ℕ → ℕ → Commitment → Digest32 → ℕ → List ℕ → Block
toy_block epoch view leader parent_view parent digest height payload = record {
  context = record {
    epoch = epoch;
    view = view;
    leader = leader;
    parent_view = parent_view;
    parent = parent;
  };
  parent = digest;
  height = height;
  payload = payload;
}

-- the tag of a message
abbrev pub kind : Message → ℕ
kind (Message.Shard c x) = 0
kind (Message.Vote i v) = 1
kind (Message.Cert s) = 2
kind (Message.Ask i c) = 3
kind (Message.AskHeight i h) = 4
kind (Message.Block b) = 5
kind (Message.Junk bytes) = 6

-- who sent what
abbrev pub kinds : List Sent → List (ℕ × ℕ)
kinds = map (λ s. (s.from, kind s.message))

-- the signers of a certificate
abbrev pub message_signers : Message → Option (List ℕ)
message_signers (Message.Cert s) = Some s.signers
message_signers _ = None

-- who signed each certificate that was sent
abbrev pub signers : List Sent → List (List ℕ)
signers = filter_map (λ s. message_signers s.message)

-- the proposal that a vote or a certificate names
abbrev pub proposal_in : Message → Option Proposal
proposal_in (Message.Vote i v) = proposal_of v
proposal_in (Message.Cert s) = proposal_of s.vote
proposal_in _ = None

-- which block each vote and certificate for one names: the last byte of its payload
abbrev pub payloads : List Sent → List ℕ
payloads =
    filter_map (λ s. option_and_then (λ p. last_or None p.payload.block.0) (proposal_in s.message))

-- how many notes each member has, and how many blocks it handed out since its start
abbrev pub totals : World → List (ℕ × ℕ)
totals w =
    map (λ o. option_map_or (λ m. (length (member_notes m), length m.given)) o (0, 0)) w.members

-- to whom a message goes: 100 stands for all
abbrev pub goes : To → ℕ
goes To.All = 100
goes (To.One i) = i

-- the tag of a vote, its epoch, its view and its proposal's parent
abbrev pub of_vote : Vote → List ℕ
of_vote (Notarize p) = 0 ∷ p.epoch ∷ p.view ∷ p.parent ∷ []
of_vote (Nullify epoch view) = 1 ∷ epoch ∷ view ∷ []
of_vote (Finalize p) = 2 ∷ p.epoch ∷ p.view ∷ p.parent ∷ []

-- what a message says: its tag, and a chunk's place, a vote with its signer or the number of its
-- signers, who asks for what, or a height
abbrev pub message_says : Message → List ℕ
message_says (Message.Shard c x) = 0 ∷ x.index ∷ []
message_says (Message.Vote i v) = 1 ∷ i ∷ of_vote v
message_says (Message.Cert s) = 2 ∷ length s.signers ∷ of_vote s.vote
message_says (Message.Ask i c) = 3 ∷ i ∷ []
message_says (Message.AskHeight i h) = 4 ∷ i ∷ h ∷ []
message_says (Message.Block b) = 5 ∷ b.height ∷ []
message_says (Message.Junk bytes) = 6 ∷ bytes

-- from that number on: who sent what to whom
abbrev pub told_from : ℕ → List Sent → List (List ℕ)
told_from low pool = map (λ s. s.from ∷ goes s.to ∷ message_says s.message) (drop low pool)

-- the same without the parents of votes and without who asks
abbrev pub in_short : Vote → List ℕ
in_short (Notarize p) = 0 ∷ p.epoch ∷ p.view ∷ []
in_short (Nullify epoch view) = 1 ∷ epoch ∷ view ∷ []
in_short (Finalize p) = 2 ∷ p.epoch ∷ p.view ∷ []

abbrev pub says_short : Message → List ℕ
says_short (Message.Shard c x) = 0 ∷ x.index ∷ []
says_short (Message.Vote i v) = 1 ∷ i ∷ in_short v
says_short (Message.Cert s) = 2 ∷ length s.signers ∷ in_short s.vote
says_short (Message.Ask i c) = 3 ∷ []
says_short (Message.AskHeight i h) = 4 ∷ h ∷ []
says_short (Message.Block b) = 5 ∷ b.height ∷ []
says_short (Message.Junk bytes) = 6 ∷ bytes

abbrev pub told_short : List Sent → List (List ℕ)
told_short pool = map (λ s. s.from ∷ goes s.to ∷ says_short s.message) pool
