-- The bytes of each value, in the order of its fields. Numbers are big-endian.
use Rattle.std.specs.Prelude.{ℕ, ◌+◌, ◌%◌, ◌^◌, ◌==◌, if◌then◌else◌}
use Rattle.std.specs.Prelude.{List, [], ◌∷◌, ◌++◌, length, flat_map}
use Rattle.cw_base.specs.Bytes.{be16, be64, varint}
use Rattle.cw_base.specs.Config.{config_bytes}
use Rattle.cw_tree.specs.Formats.{chunk_bytes}
use Rattle.cw_types.specs.declared.commitment.Commitment.{Commitment}
use Rattle.cw_types.specs.declared.block.Context.{Context}
use Rattle.cw_types.specs.Block.{Block}
use Rattle.cw_types.specs.declared.vote.Proposal.{Proposal}
use Rattle.cw_types.specs.declared.vote.Vote.{Vote}
use Rattle.cw_types.specs.declared.vote.Vote.TheVariants as vote
use Rattle.cw_types.specs.declared.vote.Cert.{Cert}
use Rattle.cw_types.specs.declared.note.Note.{Note}
use Rattle.cw_types.specs.declared.note.Note.TheVariants as note
use Rattle.cw_types.specs.declared.message.Message.{Message}
use Rattle.cw_types.specs.declared.message.Message.TheVariants as message

-- block digest, root, context digest, config
unfoldable pub commitment_bytes : Commitment → List ℕ
commitment_bytes c = c.block.0 ++ c.root.0 ++ c.context.0 ++ config_bytes c.config

-- epoch, view, leader, parent view, parent commitment
unfoldable pub context_bytes : Context → List ℕ
context_bytes c =
    be64 c.epoch ++ be64 c.view ++ be16 c.leader ++ be64 c.parent_view ++ commitment_bytes c.parent

-- context, parent digest, height, payload with its length before it
unfoldable pub block_bytes : Block → List ℕ
block_bytes b =
    context_bytes b.context ++ b.parent.0 ++ be64 b.height ++ varint (length b.payload) ++ b.payload

-- view, parent's view, payload's commitment; the epoch stands before, where it isn't 0
unfoldable pub proposal_bytes : Proposal → List ℕ
proposal_bytes p = be64 p.view ++ be64 p.parent ++ commitment_bytes p.payload

-- the tag of a vote of epoch 0, or three more and the epoch
unfoldable pub tag_bytes : ℕ → ℕ → List ℕ
tag_bytes tag epoch = if epoch == 0 then tag ∷ [] else (tag + 3) ∷ be64 epoch

-- a tag, and what the vote is on
unfoldable pub vote_bytes : Vote → List ℕ
vote_bytes (vote.Notarize p) = tag_bytes 0 p.epoch ++ proposal_bytes p
vote_bytes (vote.Nullify epoch view) = tag_bytes 1 epoch ++ be64 view
vote_bytes (vote.Finalize p) = tag_bytes 2 p.epoch ++ proposal_bytes p

-- the vote, the number of signers, and each signer
unfoldable pub cert_bytes : Cert → List ℕ
cert_bytes c = vote_bytes c.vote ++ be16 (length c.signers % 2 ^ 16) ++ flat_map be16 c.signers

-- the tag of a note of epoch 0, or another tag and the epoch
unfoldable pub epoch_tag_bytes : ℕ → ℕ → ℕ → List ℕ
epoch_tag_bytes first later epoch = if epoch == 0 then first ∷ [] else later ∷ be64 epoch

-- a tag, and the fields
unfoldable pub note_bytes : Note → List ℕ
note_bytes (note.Block c b) = 0 ∷ commitment_bytes c ++ block_bytes b
note_bytes (note.Verified epoch view c) =
    epoch_tag_bytes 1 10 epoch ++ be64 view ++ commitment_bytes c
note_bytes (note.Certified p) = epoch_tag_bytes 2 9 p.epoch ++ proposal_bytes p
note_bytes (note.Vote v) = 3 ∷ vote_bytes v
note_bytes (note.Cert c) = 4 ∷ cert_bytes c
note_bytes (note.Ack height) = 5 ∷ be64 height
note_bytes (note.Floor height) = 6 ∷ be64 height
note_bytes (note.Prune height) = 7 ∷ be64 height
note_bytes (note.Epoch epoch c) = 8 ∷ be64 epoch ++ commitment_bytes c

-- a tag, and the fields; bytes that are no message stand as they are
unfoldable pub message_bytes : Message → List ℕ
message_bytes (message.Shard c x) = 0 ∷ commitment_bytes c ++ chunk_bytes (λ d. d.0) x
message_bytes (message.Vote signer v) = 1 ∷ be16 signer ++ vote_bytes v
message_bytes (message.Cert c) = 2 ∷ cert_bytes c
message_bytes (message.Ask from c) = 3 ∷ be16 from ++ commitment_bytes c
message_bytes (message.AskHeight from height) = 4 ∷ be16 from ++ be64 height
message_bytes (message.Block b) = 5 ∷ block_bytes b
message_bytes (message.Junk bytes) = bytes
