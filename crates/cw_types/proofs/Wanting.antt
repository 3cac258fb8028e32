-- No format refuses bytes for want of memory.
use Rattle.std.proofs.Common.{◌≡◌, ◌≢◌, ℕ, zero, suc, ◌==◌, ◌&&◌}
use Rattle.std.proofs.Common.{Bool, true, false, cond, nat_lt, not}
use Rattle.std.proofs.Common.{List, [], ◌∷◌, Result, Ok, Err, ap}
use Rattle.cw_base.specs.Counts.{Counts}
use Rattle.cw_base.specs.Reading.{Reading, ◌>>=◌, byte_at, bytes_at, be16_at, be32_at, be64_at}
use Rattle.cw_base.specs.Reading.{config_at, last_byte, low_byte, nonzero_at, or_all_left}
use Rattle.cw_base.specs.Reading.{varint_at, varint_from}
use Rattle.cw_base.specs.declared.reader.CodecError.{CodecError}
use Rattle.cw_base.specs.declared.reader.CodecError.TheVariants.{EndOfBuffer, Invalid}
use Rattle.cw_base.specs.declared.reader.CodecError.TheVariants.{InvalidVarint, NoMemory, TooLong}
use Rattle.cw_tree.specs.Formats as formats
use Rattle.cw_types.specs.Reading.{as_read, block_at, cert_at, certified_at, commitment_at}
use Rattle.cw_types.specs.Reading.{context_at, digest_at, entered_at, finalize_at, formed_vote_at}
use Rattle.cw_types.specs.Reading.{height_at, later_at, later_epoch_at, message_behind, notarize_at}
use Rattle.cw_types.specs.Reading.{note_at, note_behind, nullify_at, ordered_at, payload_at}
use Rattle.cw_types.specs.Reading.{proposal_at, block_chunk_at, signed_at, signers_at, tagged_message_at}
use Rattle.cw_types.specs.Reading.{valid_if, verified_at, vote_at, vote_behind}
use Rattle.cw_types.specs.declared.message.Message.{Message}
use Rattle.cw_types.specs.declared.message.Message.TheVariants as messages
use Rattle.cw_types.specs.declared.note.Note.TheVariants as notes
use Rattle.cw_types.specs.declared.vote.Vote.{Vote}
use Rattle.cw_types.specs.declared.vote.Vote.TheVariants as votes

-- ---- readings, part by part

-- no refusal for want of memory
pub record Spares {A : Type 0} (read : Reading A) : Type 0 where
  pub never : (left : List ℕ) → read ≢ Err (NoMemory, left)

given : {A : Type 0} (x : A × List ℕ) → Spares (Ok x)
given x = record { never = λ left e. cc }

refused : {A : Type 0} (d : CodecError × List ℕ) → d.0 ≢ NoMemory → Spares {A = A} (Err d)
refused {A = A} d apart = record { never = never }
  where
    never : (left : List ℕ) → ◌≢◌ {A = Reading A} (Err d) (Err (NoMemory, left))
    never left e =
        let same : d ≡ (NoMemory, left) = cc in
        apart (ap (λ (p : CodecError × List ℕ). p.0) same)

because : {A : Type 0} (d : CodecError × List ℕ) → Spares {A = A} (Err d) → d.0 ≢ NoMemory
because {A = A} d h e = h.never d.1 (ap wrapped e)
  where
    wrapped : CodecError → Reading A
    wrapped c = Err (c, d.1)

followed : {A B : Type 0} (read : Reading A) (next : A × List ℕ → Reading B)
    → Spares read → ((x : A × List ℕ) → Spares (next x)) → Spares (read >>= next)
followed (Ok x) next h k = k x
followed (Err d) next h k = refused d (because d h)

seen : {A B : Type 0} (make : A → B) (read : Reading A) → Spares read → Spares (as_read make read)
seen make (Ok x) h = given (make x.0, x.1)
seen make (Err d) h = refused d (because d h)

chosen : {A : Type 0} (b : Bool) (r s : Reading A) → Spares r → Spares s → Spares (cond b r s)
chosen true r s h k = h
chosen false r s h k = k

no_end : {A : Type 0} (left : List ℕ) → Spares {A = A} (Err (EndOfBuffer, left))
no_end left = refused (EndOfBuffer, left) λ e. cc

no_long : {A : Type 0} (left : List ℕ) → Spares {A = A} (Err (TooLong, left))
no_long left = refused (TooLong, left) λ e. cc

no_invalid : {A : Type 0} (left : List ℕ) → Spares {A = A} (Err (Invalid, left))
no_invalid left = refused (Invalid, left) λ e. cc

valid : {A : Type 0} (passes : Bool) (x : A × List ℕ) → Spares (valid_if passes x)
valid passes x = chosen passes _ _ (given x) (no_invalid x.1)

-- ---- numbers and bytes

byte : (bytes : List ℕ) → Spares (byte_at bytes)
byte [] = no_end []
byte (b ∷ rest) = given (b, rest)

so_many : (n : ℕ) (bytes : List ℕ) → Spares (bytes_at n bytes)
so_many n bytes = chosen _ _ _ (no_end bytes) (given _)

be16 : (bytes : List ℕ) → Spares (be16_at bytes)
unfolding be16_at
be16 bytes = chosen _ _ _ (no_end bytes) (given _)

be32 : (bytes : List ℕ) → Spares (be32_at bytes)
unfolding be32_at
be32 bytes = chosen _ _ _ (no_end bytes) (given _)

be64 : (bytes : List ℕ) → Spares (be64_at bytes)
unfolding be64_at
be64 bytes = chosen _ _ _ (no_end bytes) (given _)

-- a varint's own refusals
ended : (first : Bool) (b : ℕ) (rest all : List ℕ)
    → Spares (or_all_left all (last_byte first b rest))
ended first b rest all = go (not first && (b == 0))
  where
    go : (t : Bool) → Spares (or_all_left all (cond t (Err InvalidVarint) (Ok (b, rest))))
    go true = refused (InvalidVarint, all) λ e. cc
    go false = given _

spelled : (more : ℕ) (first : Bool) (bytes all : List ℕ)
    → Spares (or_all_left all (varint_from more first bytes))
spelled zero first [] all = no_end all
spelled (suc more) first [] all = no_end all
spelled zero first (b ∷ rest) all = go (nat_lt 15 b)
  where
    go : (t : Bool) → Spares (or_all_left all (cond t (Err InvalidVarint) (last_byte first b rest)))
    go true = refused (InvalidVarint, all) λ e. cc
    go false = ended first b rest all
spelled (suc more) first (b ∷ rest) all =
    go (nat_lt b 128) (varint_from more false rest) (spelled more false rest all)
  where
    go : (t : Bool) (high : Result (ℕ × List ℕ) CodecError) → Spares (or_all_left all high)
        → Spares (or_all_left all (cond t (last_byte first b rest) (low_byte b high)))
    go true high h = ended first b rest all
    go false (Ok high) h = given _
    go false (Err e) h = h

varint : (bytes : List ℕ) → Spares (varint_at bytes)
unfolding varint_at
varint bytes = spelled 4 true bytes bytes

nonzero : (bytes : List ℕ) → Spares (nonzero_at bytes)
nonzero bytes = followed (be16_at bytes) _ (be16 bytes) λ n. chosen _ _ _ (no_invalid n.1) (given n)

config : (bytes : List ℕ) → Spares (config_at bytes)
unfolding config_at
config bytes =
    followed (nonzero_at bytes) _ (nonzero bytes) λ minimum.
    followed (nonzero_at minimum.1) _ (nonzero minimum.1) λ extra. given _

-- ---- chunks

digests : (size n : ℕ) (bytes : List ℕ) → Spares (formats.digests_at size n bytes)
digests size zero bytes = given _
digests size (suc n) bytes =
    followed (bytes_at size bytes) _ (so_many size bytes) λ first.
    followed (formats.digests_at size n first.1) _ (digests size n first.1) λ others. given _

siblings : (size : ℕ) (bytes : List ℕ) → Spares (formats.siblings_at size bytes)
unfolding formats.siblings_at
siblings size bytes =
    followed (byte_at bytes) _ (byte bytes) λ count.
    chosen _ _ _ (no_long _) (digests size count.0 count.1)

way : (size : ℕ) (bytes : List ℕ) → Spares (formats.proof_at size bytes)
unfolding formats.proof_at
way size bytes =
    followed (be32_at bytes) _ (be32 bytes) λ leaf_count.
    followed (formats.siblings_at size leaf_count.1) _ (siblings size leaf_count.1) λ siblings.
    given _

bounded : (bound : ℕ) (bytes : List ℕ) → Spares (formats.shard_at bound bytes)
unfolding formats.shard_at
bounded bound bytes =
    followed (varint_at bytes) _ (varint bytes) λ long.
    chosen _ _ _ (no_long _) (so_many long.0 long.1)

chunk : (size bound : ℕ) (bytes : List ℕ) → Spares (formats.chunk_at size bound bytes)
unfolding formats.chunk_at
chunk size bound bytes =
    followed (formats.shard_at bound bytes) _ (bounded bound bytes) λ shard.
    followed (be16_at shard.1) _ (be16 shard.1) λ index.
    followed (formats.proof_at size index.1) _ (way size index.1) λ proof. given _

pub shard : (config : Counts) (bytes : List ℕ) → Spares (block_chunk_at config bytes)
unfolding block_chunk_at
shard config bytes = seen _ _ (chunk 32 (formats.widest config.minimum 1048745) bytes)

-- ---- commitments, contexts, blocks and proposals

digest : (bytes : List ℕ) → Spares (digest_at bytes)
unfolding digest_at
digest bytes = seen _ _ (so_many 32 bytes)

pub commitment : (bytes : List ℕ) → Spares (commitment_at bytes)
unfolding commitment_at
commitment bytes =
    followed (digest_at bytes) _ (digest bytes) λ block.
    followed (digest_at block.1) _ (digest block.1) λ root.
    followed (digest_at root.1) _ (digest root.1) λ context.
    followed (config_at context.1) _ (config context.1) λ config. given _

pub context : (bytes : List ℕ) → Spares (context_at bytes)
unfolding context_at
context bytes =
    followed (be64_at bytes) _ (be64 bytes) λ epoch.
    followed (be64_at epoch.1) _ (be64 epoch.1) λ view.
    followed (be16_at view.1) _ (be16 view.1) λ leader.
    followed (be64_at leader.1) _ (be64 leader.1) λ parent_view.
    followed (commitment_at parent_view.1) _ (commitment parent_view.1) λ parent. given _

height : (bytes : List ℕ) → Spares (height_at bytes)
unfolding height_at
height bytes = followed (be64_at bytes) _ (be64 bytes) λ height. valid _ height

payload : (bytes : List ℕ) → Spares (payload_at bytes)
unfolding payload_at
payload bytes =
    followed (varint_at bytes) _ (varint bytes) λ count.
    chosen _ _ _ (no_long _) (so_many count.0 count.1)

pub block : (bytes : List ℕ) → Spares (block_at bytes)
unfolding block_at
block bytes =
    followed (context_at bytes) _ (context bytes) λ context.
    followed (digest_at context.1) _ (digest context.1) λ parent.
    followed (height_at parent.1) _ (height parent.1) λ height.
    followed (payload_at height.1) _ (payload height.1) λ payload. given _

pub proposal : (epoch : ℕ) (bytes : List ℕ) → Spares (proposal_at epoch bytes)
unfolding proposal_at
proposal epoch bytes =
    followed (be64_at bytes) _ (be64 bytes) λ view.
    followed (be64_at view.1) _ (be64 view.1) λ parent.
    followed (commitment_at parent.1) _ (commitment parent.1) λ payload. given _

-- ---- votes and certificates

later_epoch : (bytes : List ℕ) → Spares (later_epoch_at bytes)
unfolding later_epoch_at
later_epoch bytes = followed (be64_at bytes) _ (be64 bytes) λ epoch. valid _ epoch

later : {A : Type 0} (read : ℕ → List ℕ → Reading A)
    → ((epoch : ℕ) (bytes : List ℕ) → Spares (read epoch bytes))
    → (bytes : List ℕ) → Spares (later_at read bytes)
later read spares bytes =
    followed (later_epoch_at bytes) _ (later_epoch bytes) λ epoch. spares epoch.0 epoch.1

vote_behind_tag : (tag : ℕ) (bytes : List ℕ) → Spares (vote_behind tag bytes)
vote_behind_tag tag bytes =
    chosen (tag == 0) _ _ (seen votes.Notarize _ (proposal 0 bytes))
    (chosen (tag == 1) _ _ (seen (votes.Nullify 0) _ (be64 bytes))
    (chosen (tag == 2) _ _ (seen votes.Finalize _ (proposal 0 bytes))
    (chosen (tag == 3) _ _
    (later notarize_at (λ epoch left. seen votes.Notarize _ (proposal epoch left)) bytes)
    (chosen (tag == 4) _ _
    (later nullify_at (λ epoch left. seen (votes.Nullify epoch) _ (be64 left)) bytes)
    (chosen (tag == 5) _ _
    (later finalize_at (λ epoch left. seen votes.Finalize _ (proposal epoch left)) bytes)
    (no_invalid bytes))))))

pub vote : (bytes : List ℕ) → Spares (vote_at bytes)
unfolding vote_at
vote bytes = followed (byte_at bytes) _ (byte bytes) λ tag. vote_behind_tag tag.0 tag.1

signers : (n : ℕ) (bytes : List ℕ) → Spares (signers_at n bytes)
signers zero bytes = given _
signers (suc n) bytes =
    followed (be16_at bytes) _ (be16 bytes) λ first.
    followed (signers_at n first.1) _ (signers n first.1) λ others. given _

signed : (v : Vote) (bytes : List ℕ) → Spares (signed_at v bytes)
unfolding signed_at
signed v bytes =
    followed (be16_at bytes) _ (be16 bytes) λ count.
    followed (signers_at count.0 count.1) _ (signers count.0 count.1) λ signers. given _

pub cert : (bytes : List ℕ) → Spares (cert_at bytes)
unfolding cert_at
cert bytes = followed (vote_at bytes) _ (vote bytes) λ vote. signed vote.0 vote.1

-- ---- notes

ordered : (epoch : ℕ) (bytes : List ℕ) → Spares (ordered_at epoch bytes)
unfolding ordered_at
ordered epoch bytes = followed (proposal_at epoch bytes) _ (proposal epoch bytes) λ p. valid _ p

formed : (bytes : List ℕ) → Spares (formed_vote_at bytes)
unfolding formed_vote_at
formed bytes = followed (vote_at bytes) _ (vote bytes) λ vote. valid _ vote

viewed : (epoch : ℕ) (bytes : List ℕ) → Spares (verified_at epoch bytes)
viewed epoch bytes =
    followed (be64_at bytes) _ (be64 bytes) λ view.
    seen (notes.Verified epoch view.0) _ (commitment view.1)

note_behind_tag : (tag : ℕ) (bytes : List ℕ) → Spares (note_behind tag bytes)
note_behind_tag tag bytes =
    chosen (tag == 0) _ _
    (followed (commitment_at bytes) _ (commitment bytes) λ c. seen (notes.Block c.0) _ (block c.1))
    (chosen (tag == 1) _ _ (viewed 0 bytes)
    (chosen (tag == 2) _ _ (seen notes.Certified _ (ordered 0 bytes))
    (chosen (tag == 3) _ _ (seen notes.Vote _ (formed bytes))
    (chosen (tag == 4) _ _
    (followed (formed_vote_at bytes) _ (formed bytes) λ v. seen notes.Cert _ (signed v.0 v.1))
    (chosen (tag == 5) _ _ (seen notes.Ack _ (height bytes))
    (chosen (tag == 6) _ _ (seen notes.Floor _ (height bytes))
    (chosen (tag == 7) _ _ (seen notes.Prune _ (height bytes))
    (chosen (tag == 8) _ _
    (later entered_at (λ epoch left. seen (notes.Epoch epoch) _ (commitment left)) bytes)
    (chosen (tag == 9) _ _
    (later certified_at (λ epoch left. seen notes.Certified _ (ordered epoch left)) bytes)
    (chosen (tag == 10) _ _ (later verified_at viewed bytes) (no_invalid bytes)))))))))))

pub note : (bytes : List ℕ) → Spares (note_at bytes)
unfolding note_at
note bytes = followed (byte_at bytes) _ (byte bytes) λ tag. note_behind_tag tag.0 tag.1

-- ---- messages

member : {A : Type 0} (read : ℕ → List ℕ → Reading A)
    → ((number : ℕ) (bytes : List ℕ) → Spares (read number bytes)) → (bytes : List ℕ)
    → Spares (be16_at bytes >>= λ number. read number.0 number.1)
member read spares bytes = followed (be16_at bytes) _ (be16 bytes) λ n. spares n.0 n.1

abbrev vote_of : ℕ → List ℕ → Reading Message
vote_of signer left = as_read (messages.Vote signer) (vote_at left)

abbrev ask_of : ℕ → List ℕ → Reading Message
ask_of from left = as_read (messages.Ask from) (commitment_at left)

abbrev height_of : ℕ → List ℕ → Reading Message
height_of from left = as_read (messages.AskHeight from) (be64_at left)

message_behind_tag : (tag : ℕ) (bytes : List ℕ) → Spares (message_behind tag bytes)
message_behind_tag tag bytes =
    chosen (tag == 0) _ _
    (followed (commitment_at bytes) _ (commitment bytes) λ c.
    seen (messages.Shard c.0) _ (shard c.0.config c.1))
    (chosen (tag == 1) _ _
    (member vote_of (λ signer left. seen (messages.Vote signer) _ (vote left)) bytes)
    (chosen (tag == 2) _ _ (seen messages.Cert _ (cert bytes))
    (chosen (tag == 3) _ _
    (member ask_of (λ from left. seen (messages.Ask from) _ (commitment left)) bytes)
    (chosen (tag == 4) _ _
    (member height_of (λ from left. seen (messages.AskHeight from) _ (be64 left)) bytes)
    (chosen (tag == 5) _ _ (seen messages.Block _ (block bytes)) (no_invalid bytes))))))

pub message : (bytes : List ℕ) → Spares (tagged_message_at bytes)
unfolding tagged_message_at
message bytes = followed (byte_at bytes) _ (byte bytes) λ tag. message_behind_tag tag.0 tag.1
