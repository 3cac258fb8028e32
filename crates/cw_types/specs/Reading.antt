-- How each value is read at the front of bytes, item by item in the order of its format: the value
-- and the bytes after it, or the first refusal and the bytes that it leaves.
use Rattle.std.specs.Prelude.{ℕ, zero, suc, ◌-◌, ◌^◌, ◌==◌, ◌≢◌, Bool, nat_lt, if◌then◌else◌}
use Rattle.std.specs.Prelude.{List, [], ◌∷◌, map, Option, Some, None, unwrap_or, Ok, Err}
use Rattle.cw_base.specs.declared.hash.Digest32.{Digest32}
use Rattle.cw_base.specs.declared.reader.CodecError.TheVariants.{TooLong, Invalid, NoMemory}
use Rattle.cw_base.specs.Reading.{Reading, ◌>>=◌, byte_at, bytes_at, be16_at, be64_at}
use Rattle.cw_base.specs.Reading.{varint_at, config_at}
use Rattle.cw_base.specs.Counts.{Counts}
use Rattle.cw_tree.specs.Chunks.{Piece}
use Rattle.cw_tree.specs.Formats.{chunk_at, widest}
use Rattle.cw_types.specs.Block.{Block}
use Rattle.cw_types.specs.Votes.{is_ordered, well_formed}
use Rattle.cw_types.specs.declared.commitment.Commitment.{Commitment}
use Rattle.cw_types.specs.declared.block.Context.{Context}
use Rattle.cw_types.specs.declared.vote.Proposal.{Proposal}
use Rattle.cw_types.specs.declared.vote.Vote.{Vote}
use Rattle.cw_types.specs.declared.vote.Vote.TheVariants as vote
use Rattle.cw_types.specs.declared.vote.Cert.{Cert}
use Rattle.cw_types.specs.declared.note.Note.{Note}
use Rattle.cw_types.specs.declared.note.Note.TheVariants as note
use Rattle.cw_types.specs.declared.message.Message.{Message}
use Rattle.cw_types.specs.declared.message.Message.TheVariants as message

-- what was read, where it passes the test; else it is invalid
abbrev pub valid_if : {A : Type 0} → Bool → A × List ℕ → Reading A
valid_if passes x = if passes then Ok x else Err (Invalid, x.1)

-- what was read, as another value
abbrev pub as_read : {A B : Type 0} → (A → B) → Reading A → Reading B
as_read make (Ok x) = Ok (make x.0, x.1)
as_read make (Err e) = Err e

-- no bytes are refused for want of memory
abbrev pub NeverWantsMemory : {A : Type 0} → (List ℕ → Reading A) → Type 0
NeverWantsMemory read = (bytes left : List ℕ) → read bytes ≢ Err (NoMemory, left)

-- thirty-two bytes
unfoldable pub digest_at : List ℕ → Reading Digest32
digest_at bytes = as_read (λ content. record { 0 = content }) (bytes_at 32 bytes)

-- block digest, root, context digest, config
unfoldable pub commitment_at : List ℕ → Reading Commitment
commitment_at bytes = do
  block ← digest_at bytes
  root ← digest_at block.1
  context ← digest_at root.1
  config ← config_at context.1
  Ok (record { block = block.0; root = root.0; context = context.0; config = config.0 }, config.1)

-- epoch, view, leader, parent view, parent commitment
unfoldable pub context_at : List ℕ → Reading Context
context_at bytes = do
  epoch ← be64_at bytes
  view ← be64_at epoch.1
  leader ← be16_at view.1
  parent_view ← be64_at leader.1
  parent ← commitment_at parent_view.1
  Ok (
    record {
      epoch = epoch.0;
      view = view.0;
      leader = leader.0;
      parent_view = parent_view.0;
      parent = parent.0;
    },
    parent.1,
  )

-- a height below 2^64 - 1
unfoldable pub height_at : List ℕ → Reading ℕ
height_at bytes = do
  height ← be64_at bytes
  valid_if (nat_lt height.0 (2 ^ 64 - 1)) height

-- at most 1,048,576 bytes behind their number
unfoldable pub payload_at : List ℕ → Reading (List ℕ)
payload_at bytes = do
  count ← varint_at bytes
  if nat_lt 1048576 count.0 then Err (TooLong, count.1) else bytes_at count.0 count.1

-- context, parent digest, height, payload
unfoldable pub block_at : List ℕ → Reading Block
block_at bytes = do
  context ← context_at bytes
  parent ← digest_at context.1
  height ← height_at parent.1
  payload ← payload_at height.1
  Ok (
    record { context = context.0; parent = parent.0; height = height.0; payload = payload.0 },
    payload.1,
  )

-- the value of a reading that leaves nothing
abbrev pub to_the_end : {A : Type 0} → Reading A → Option A
to_the_end (Ok (x, [])) = Some x
to_the_end _ = None

-- the block whose bytes a text is
unfoldable pub block_in : List ℕ → Option Block
block_in text = to_the_end (block_at text)

-- view, parent's view, payload's commitment; the epoch is known
unfoldable pub proposal_at : (epoch : ℕ) → List ℕ → Reading Proposal
proposal_at epoch bytes = do
  view ← be64_at bytes
  parent ← be64_at view.1
  payload ← commitment_at parent.1
  Ok (record { epoch = epoch; view = view.0; parent = parent.0; payload = payload.0 }, payload.1)

-- an epoch above 0
unfoldable pub later_epoch_at : List ℕ → Reading ℕ
later_epoch_at bytes = do
  epoch ← be64_at bytes
  valid_if (nat_lt 0 epoch.0) epoch

-- what stands behind an epoch above 0
abbrev pub later_at : {A : Type 0} → (ℕ → List ℕ → Reading A) → List ℕ → Reading A
later_at read bytes = do
  epoch ← later_epoch_at bytes
  read epoch.0 epoch.1

-- votes of a known epoch: on a proposal, on a view, on a proposal
abbrev pub notarize_at : (epoch : ℕ) → List ℕ → Reading Vote
notarize_at epoch bytes = as_read vote.Notarize (proposal_at epoch bytes)

abbrev pub nullify_at : (epoch : ℕ) → List ℕ → Reading Vote
nullify_at epoch bytes = as_read (vote.Nullify epoch) (be64_at bytes)

abbrev pub finalize_at : (epoch : ℕ) → List ℕ → Reading Vote
finalize_at epoch bytes = as_read vote.Finalize (proposal_at epoch bytes)

-- what stands behind the tag of a vote. The tags of later epochs are three more, and the epoch
-- follows
abbrev pub vote_behind : (tag : ℕ) → List ℕ → Reading Vote
vote_behind tag bytes =
    if tag == 0 then notarize_at 0 bytes
    else if tag == 1 then nullify_at 0 bytes
    else if tag == 2 then finalize_at 0 bytes
    else if tag == 3 then later_at notarize_at bytes
    else if tag == 4 then later_at nullify_at bytes
    else if tag == 5 then later_at finalize_at bytes
    else Err (Invalid, bytes)

-- a tag, and what the vote is on
unfoldable pub vote_at : List ℕ → Reading Vote
vote_at bytes = do
  tag ← byte_at bytes
  vote_behind tag.0 tag.1

-- so many members' numbers
abbrev pub signers_at : (count : ℕ) → List ℕ → Reading (List ℕ)
signers_at zero bytes = Ok ([], bytes)
signers_at (suc n) bytes = do
  first ← be16_at bytes
  others ← signers_at n first.1
  Ok (first.0 ∷ others.0, others.1)

-- who signed a vote, behind their number
unfoldable pub signed_at : Vote → List ℕ → Reading Cert
signed_at vote bytes = do
  count ← be16_at bytes
  signers ← signers_at count.0 count.1
  Ok (record { vote = vote; signers = signers.0 }, signers.1)

-- the vote, the number of signers, and each signer
unfoldable pub cert_at : List ℕ → Reading Cert
cert_at bytes = do
  vote ← vote_at bytes
  signed_at vote.0 vote.1

-- a chunk, with its siblings as digests
abbrev pub with_digests : Piece (List ℕ) → Piece Digest32
with_digests p =
    record {
      shard = p.shard;
      index = p.index;
      leaf_count = p.leaf_count;
      siblings = map (λ content. record { 0 = content }) p.siblings;
    }

-- a chunk of a config, of a block of at most 1,048,745 bytes
unfoldable pub block_chunk_at : Counts → List ℕ → Reading (Piece Digest32)
block_chunk_at config bytes = as_read with_digests
    (chunk_at 32 (widest config.minimum 1048745) bytes)

-- a commitment, and a chunk of its config
abbrev pub shard_message_at : List ℕ → Reading Message
shard_message_at bytes = do
  commitment ← commitment_at bytes
  as_read (message.Shard commitment.0) (block_chunk_at commitment.0.config commitment.1)

-- a signer, and its vote
abbrev pub vote_message_at : List ℕ → Reading Message
vote_message_at bytes = do
  signer ← be16_at bytes
  as_read (message.Vote signer.0) (vote_at signer.1)

-- who asks, and for which commitment
abbrev pub ask_at : List ℕ → Reading Message
ask_at bytes = do
  from ← be16_at bytes
  as_read (message.Ask from.0) (commitment_at from.1)

-- who asks, and for which height
abbrev pub ask_height_at : List ℕ → Reading Message
ask_height_at bytes = do
  from ← be16_at bytes
  as_read (message.AskHeight from.0) (be64_at from.1)

-- what stands behind the tag of a message
abbrev pub message_behind : (tag : ℕ) → List ℕ → Reading Message
message_behind tag bytes =
    if tag == 0 then shard_message_at bytes
    else if tag == 1 then vote_message_at bytes
    else if tag == 2 then as_read message.Cert (cert_at bytes)
    else if tag == 3 then ask_at bytes
    else if tag == 4 then ask_height_at bytes
    else if tag == 5 then as_read message.Block (block_at bytes)
    else Err (Invalid, bytes)

-- a tag, and the fields
unfoldable pub tagged_message_at : List ℕ → Reading Message
tagged_message_at bytes = do
  tag ← byte_at bytes
  message_behind tag.0 tag.1

-- the message whose bytes a text is; a text that doesn't read as a message to its end is junk
abbrev pub message_of : List ℕ → Message
message_of text = unwrap_or (to_the_end (tagged_message_at text)) (message.Junk text)

-- a message takes all bytes
abbrev pub message_at : List ℕ → Reading Message
message_at bytes = Ok (message_of bytes, [])

-- a proposal of a known epoch that is well formed
unfoldable pub ordered_at : (epoch : ℕ) → List ℕ → Reading Proposal
ordered_at epoch bytes = do
  proposal ← proposal_at epoch bytes
  valid_if (is_ordered proposal.0) proposal

-- a vote that is well formed
unfoldable pub formed_vote_at : List ℕ → Reading Vote
formed_vote_at bytes = do
  vote ← vote_at bytes
  valid_if (well_formed vote.0) vote

-- a commitment, and its block
abbrev pub block_note_at : List ℕ → Reading Note
block_note_at bytes = do
  commitment ← commitment_at bytes
  as_read (note.Block commitment.0) (block_at commitment.1)

-- notes of a known epoch: a view and a commitment, a proposal, a commitment
abbrev pub verified_at : (epoch : ℕ) → List ℕ → Reading Note
verified_at epoch bytes = do
  view ← be64_at bytes
  as_read (note.Verified epoch view.0) (commitment_at view.1)

abbrev pub certified_at : (epoch : ℕ) → List ℕ → Reading Note
certified_at epoch bytes = as_read note.Certified (ordered_at epoch bytes)

abbrev pub entered_at : (epoch : ℕ) → List ℕ → Reading Note
entered_at epoch bytes = as_read (note.Epoch epoch) (commitment_at bytes)

-- a certificate of a vote that is well formed
abbrev pub cert_note_at : List ℕ → Reading Note
cert_note_at bytes = do
  vote ← formed_vote_at bytes
  as_read note.Cert (signed_at vote.0 vote.1)

-- what stands behind the tag of a note
abbrev pub note_behind : (tag : ℕ) → List ℕ → Reading Note
note_behind tag bytes =
    if tag == 0 then block_note_at bytes
    else if tag == 1 then verified_at 0 bytes
    else if tag == 2 then certified_at 0 bytes
    else if tag == 3 then as_read note.Vote (formed_vote_at bytes)
    else if tag == 4 then cert_note_at bytes
    else if tag == 5 then as_read note.Ack (height_at bytes)
    else if tag == 6 then as_read note.Floor (height_at bytes)
    else if tag == 7 then as_read note.Prune (height_at bytes)
    else if tag == 8 then later_at entered_at bytes
    else if tag == 9 then later_at certified_at bytes
    else if tag == 10 then later_at verified_at bytes
    else Err (Invalid, bytes)

-- a tag, and the fields
unfoldable pub note_at : List ℕ → Reading Note
note_at bytes = do
  tag ← byte_at bytes
  note_behind tag.0 tag.1
