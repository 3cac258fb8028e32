-- What a value must have so that it can be written and reads back: digests of thirty-two bytes,
-- numbers that their places hold, a payload and signers within their bounds.
use Rattle.std.specs.Prelude.{◌≡◌, ℕ, ◌-◌, ◌^◌, ◌<◌, ◌≤◌, ◌&&◌, Bool, true, nat_lt}
use Rattle.std.specs.Prelude.{List, [], ◌∷◌, ◌++◌, length, None}
use Rattle.cw_base.specs.declared.hash.Digest32.{Digest32}
use Rattle.cw_base.specs.Counts.{Counts}
use Rattle.cw_base.specs.ReadsBack.{IsConfig}
use Rattle.cw_tree.specs.Chunks.{Piece}
use Rattle.cw_tree.specs.Formats.{piece_of_bytes, widest}
use Rattle.cw_tree.specs.Fits.{FitsChunk}
use Rattle.cw_types.specs.Block.{Block}
use Rattle.cw_types.specs.Reading.{tagged_message_at, to_the_end}
use Rattle.cw_types.specs.Votes.{is_ordered, well_formed}
use Rattle.cw_types.specs.declared.commitment.Commitment.{Commitment}
use Rattle.cw_types.specs.declared.block.Context.{Context}
use Rattle.cw_types.specs.declared.vote.Proposal.{Proposal}
use Rattle.cw_types.specs.declared.vote.Vote.{Vote}
use Rattle.cw_types.specs.declared.vote.Vote.TheVariants as vote
use Rattle.cw_types.specs.declared.vote.Cert.{Cert}
use Rattle.cw_types.specs.declared.note.Note.{Note}
use Rattle.cw_types.specs.declared.note.Note.TheVariants as note
use Rattle.cw_types.specs.declared.message.Message.{Message}
use Rattle.cw_types.specs.declared.message.Message.TheVariants as message

-- a digest has thirty-two bytes
abbrev pub IsDigest : Digest32 → Type 0
IsDigest d = length d.0 ≡ 32

-- a commitment has three digests and a config
pub record IsCommitment (c : Commitment) : Type 0 where
  pub block : IsDigest c.block
  pub root : IsDigest c.root
  pub context : IsDigest c.context
  pub config : IsConfig c.config

-- a context has an epoch and two views in eight bytes each, a member's number, and a commitment
pub record IsContext (c : Context) : Type 0 where
  pub epoch : c.epoch < 2 ^ 64
  pub view : c.view < 2 ^ 64
  pub leader : c.leader < 2 ^ 16
  pub parent_view : c.parent_view < 2 ^ 64
  pub parent : IsCommitment c.parent

-- a height is below 2^64 - 1
abbrev pub IsBlockHeight : ℕ → Type 0
IsBlockHeight height = height < 2 ^ 64 - 1

-- a payload has at most 1,048,576 bytes
abbrev pub IsPayload : List ℕ → Type 0
IsPayload payload = length payload ≤ 1048576

-- a block has a context, a digest, a height and a payload
pub record IsBlock (b : Block) : Type 0 where
  pub context : IsContext b.context
  pub parent : IsDigest b.parent
  pub height : IsBlockHeight b.height
  pub payload : IsPayload b.payload

-- a proposal of an epoch has two views in eight bytes each, and a commitment
pub record IsProposal (e : ℕ) (p : Proposal) : Type 0 where
  pub epoch : p.epoch ≡ e
  pub view : p.view < 2 ^ 64
  pub parent : p.parent < 2 ^ 64
  pub payload : IsCommitment p.payload

-- an epoch that is written behind a tag is above 0
abbrev pub IsLaterEpoch : ℕ → Type 0
IsLaterEpoch epoch = (0 < epoch) × (epoch < 2 ^ 64)

-- a vote is on a proposal or on a view, of an epoch in eight bytes
abbrev pub IsVote : Vote → Type 0
IsVote (vote.Notarize p) = (p.epoch < 2 ^ 64) × IsProposal p.epoch p
IsVote (vote.Nullify epoch view) = (epoch < 2 ^ 64) × (view < 2 ^ 64)
IsVote (vote.Finalize p) = (p.epoch < 2 ^ 64) × IsProposal p.epoch p

-- a member's number has two bytes
abbrev pub IsMember : ℕ → Type 0
IsMember i = i < 2 ^ 16

-- each is a member's number
abbrev pub AreMembers : List ℕ → Type 0
AreMembers [] = Unit {0}
AreMembers (x ∷ xs) = IsMember x × AreMembers xs

-- signers are at most 65,535 members' numbers
abbrev pub AreSigners : List ℕ → Type 0
AreSigners xs = (length xs < 2 ^ 16) × AreMembers xs

-- a certificate has a vote and signers
pub record IsCert (c : Cert) : Type 0 where
  pub vote : IsVote c.vote
  pub signers : AreSigners c.signers

-- what the type of a note leaves open: votes and proposals are well formed, heights below 2^64 - 1,
-- entered epochs above 0, and signers at most 65,535
abbrev pub is_storable : Note → Bool
is_storable (note.Certified p) = is_ordered p
is_storable (note.Vote v) = well_formed v
is_storable (note.Cert c) = well_formed c.vote && nat_lt (length c.signers) (2 ^ 16)
is_storable (note.Ack height) = nat_lt height (2 ^ 64 - 1)
is_storable (note.Floor height) = nat_lt height (2 ^ 64 - 1)
is_storable (note.Prune height) = nat_lt height (2 ^ 64 - 1)
is_storable (note.Epoch epoch c) = nat_lt 0 epoch
is_storable _ = true

-- a note has what its format holds, and its votes and proposals are well formed
abbrev pub IsNote : Note → Type 0
IsNote (note.Block c b) = IsCommitment c × IsBlock b
IsNote (note.Verified epoch view c) = (epoch < 2 ^ 64) × ((view < 2 ^ 64) × IsCommitment c)
IsNote (note.Certified p) = (p.epoch < 2 ^ 64) × (IsProposal p.epoch p × (is_ordered p ≡ true))
IsNote (note.Vote v) = IsVote v × (well_formed v ≡ true)
IsNote (note.Cert c) = IsCert c × (well_formed c.vote ≡ true)
IsNote (note.Ack height) = IsBlockHeight height
IsNote (note.Floor height) = IsBlockHeight height
IsNote (note.Prune height) = IsBlockHeight height
IsNote (note.Epoch epoch c) = IsLaterEpoch epoch × IsCommitment c

-- a chunk of a config: its shard is no wider than those of the longest block, and its siblings are
-- digests
abbrev pub IsShard : Counts → Piece Digest32 → Type 0
IsShard config p = FitsChunk 32 (widest config.minimum 1048745) (piece_of_bytes (λ d. d.0) p)

-- a message has what its format holds; junk doesn't read as another message
abbrev pub IsMessage : Message → Type 0
IsMessage (message.Shard c x) = IsCommitment c × IsShard c.config x
IsMessage (message.Vote signer v) = IsMember signer × IsVote v
IsMessage (message.Cert c) = IsCert c
IsMessage (message.Ask from c) = IsMember from × IsCommitment c
IsMessage (message.AskHeight from height) = IsMember from × (height < 2 ^ 64)
IsMessage (message.Block b) = IsBlock b
IsMessage (message.Junk bytes) = to_the_end (tagged_message_at bytes) ≡ None

-- no form of a value begins that of another, whatever follows
abbrev pub IsPrefixFree : {A : Type 0} → (A → List ℕ) → (A → Type 0) → Type 0
IsPrefixFree {A} format fits =
    (x y : A) (after behind : List ℕ) → fits x → fits y
    → format x ++ after ≡ format y ++ behind → (x ≡ y) × (after ≡ behind)
