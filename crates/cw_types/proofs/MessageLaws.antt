-- Messages read back as they were written, and what is read is in its format.
use Rattle.std.proofs.Common.{◌≡◌, ℕ, ◌^◌, ◌<◌, List, [], ◌∷◌, ◌++◌, map, Ok, Err, None, refl, sym}
use Rattle.std.proofs.Common.{ap, subst, ◌∙◌, inl, inr}
use Rattle.std.proofs.lemmas.List.{append-nil}
use Rattle.cw_base.specs.declared.hash.Digest32.{Digest32}
use Rattle.cw_base.specs.Bytes.{be16, be64}
use Rattle.cw_base.specs.Reading.{Reading, be16_at, be64_at}
use Rattle.cw_base.specs.ReadsBack.{ReadsBack, IsBytes}
use Rattle.cw_base.proofs.ReadingLaws.{be16_reads_back}
use Rattle.cw_base.proofs.ReadingLaws.{be64_reads_back}
use Rattle.cw_base.specs.Counts.{Counts}
use Rattle.cw_tree.specs.Chunks.{Piece}
use Rattle.cw_tree.specs.Formats.{chunk_at, chunk_bytes, piece_of_bytes, widest}
use Rattle.cw_tree.specs.Fits.{FitsChunk}
use Rattle.cw_tree.proofs.FormatLaws.{chunk_reads_back, chunk_bytes_same}
use Rattle.cw_types.specs.Commit.{digest_bytes}
use Rattle.cw_types.specs.Encoding.{block_bytes, cert_bytes, commitment_bytes, message_bytes}
use Rattle.cw_types.specs.Encoding.{vote_bytes}
use Rattle.cw_types.specs.Reading.{as_read, block_at, cert_at, commitment_at, message_behind}
use Rattle.cw_types.specs.Reading.{message_of, block_chunk_at, tagged_message_at, to_the_end, vote_at}
use Rattle.cw_types.specs.Reading.{with_digests}
use Rattle.cw_types.specs.Values.{IsBlock, IsCert, IsCommitment, IsMember, IsMessage, IsShard}
use Rattle.cw_types.specs.Values.{IsVote}
use Rattle.cw_types.proofs.FormatLaws.{as_ok, block_reads_back, commitment_reads_back}
use Rattle.cw_types.proofs.TaggedLaws.{IsForm, cert_reads_back, form_again, form_found, pair_at}
use Rattle.cw_types.proofs.TaggedLaws.{pair_reads_back, paired, pick, tag_found, vote_reads_back}
use Rattle.cw_types.specs.declared.commitment.Commitment.{Commitment}
use Rattle.cw_types.specs.declared.message.Message.{Message}
use Rattle.cw_types.specs.declared.message.Message.TheVariants as message

-- ---- chunks

abbrev digest : List ℕ → Digest32
digest bytes = record { 0 = bytes }

digests_of_contents : (ds : List Digest32) → map digest (map digest_bytes ds) ≡ ds
digests_of_contents [] = refl
digests_of_contents (d ∷ ds) = ap (λ (xs : List Digest32). d ∷ xs) (digests_of_contents ds)

contents_of_digests : (xs : List (List ℕ)) → map digest_bytes (map digest xs) ≡ xs
contents_of_digests [] = refl
contents_of_digests (x ∷ xs) = ap (λ (ys : List (List ℕ)). x ∷ ys) (contents_of_digests xs)

pub digests_back : (p : Piece Digest32) → with_digests (piece_of_bytes digest_bytes p) ≡ p
digests_back p =
    ap
    (λ (ds : List Digest32). let q : Piece Digest32 = record {
      shard = p.shard;
      index = p.index;
      leaf_count = p.leaf_count;
      siblings = ds;
    } in q)
    (digests_of_contents p.siblings)

contents_back : (p : Piece (List ℕ)) → piece_of_bytes digest_bytes (with_digests p) ≡ p
contents_back p =
    ap
    (λ (ds : List (List ℕ)). let q : Piece (List ℕ) = record {
      shard = p.shard;
      index = p.index;
      leaf_count = p.leaf_count;
      siblings = ds;
    } in q)
    (contents_of_digests p.siblings)

shard_reads_back : (config : Counts)
    → ReadsBack (chunk_bytes digest_bytes) (IsShard config) (block_chunk_at config)
unfolding block_chunk_at
shard_reads_back config = record { found = found; again = again }
  where
    bound : ℕ
    bound = widest config.minimum 1048745

    found : (bytes rest : List ℕ) (p : Piece Digest32) → IsBytes bytes
        → as_read with_digests (chunk_at 32 (widest config.minimum 1048745) bytes) ≡ Ok (p, rest)
        → (bytes ≡ chunk_bytes digest_bytes p ++ rest) × IsShard config p
    found bytes rest p fits e =
        let a =
        as_ok with_digests (chunk_at 32 (widest config.minimum 1048745) bytes) (p, rest) e in
        let h =
        (chunk_reads_back 32 (widest config.minimum 1048745)).found bytes a.0.1 a.0.0 fits
        a.1 in
        let back : a.0.0 ≡ piece_of_bytes digest_bytes p =
        sym (contents_back a.0.0) ∙ ap (piece_of_bytes digest_bytes) a.2 in
        let parts : bytes
        ≡ chunk_bytes (λ sibling. sibling) (piece_of_bytes digest_bytes p) ++ rest =
        h.0 ∙ ap (λ q. chunk_bytes (λ sibling. sibling) q ++ a.0.1) back
        ∙ ap (λ xs. chunk_bytes (λ sibling. sibling) (piece_of_bytes digest_bytes p) ++ xs) a.3 in (
          parts ∙ ap (λ xs. xs ++ rest) (sym (chunk_bytes_same digest_bytes p)),
          subst (λ (q : Piece (List ℕ)). FitsChunk 32 (widest config.minimum 1048745) q) back h.1,
        )

    again : (p : Piece Digest32) (rest : List ℕ) → IsShard config p
        → as_read with_digests
        (chunk_at 32 (widest config.minimum 1048745) (chunk_bytes digest_bytes p ++ rest))
        ≡ Ok (p, rest)
    again p rest fits =
        ap (λ xs. as_read with_digests (chunk_at 32 (widest config.minimum 1048745) (xs ++ rest)))
        (chunk_bytes_same digest_bytes p)
        ∙ ap (as_read with_digests)
        ((chunk_reads_back 32 (widest config.minimum 1048745)).again
        (piece_of_bytes digest_bytes p) rest fits)
        ∙ ap (λ (q : Piece Digest32). let x : Reading (Piece Digest32) = Ok (q, rest) in x)
        (digests_back p)

-- ---- messages

abbrev shards_at : List ℕ → Reading (Commitment × Piece Digest32)
shards_at = pair_at commitment_at (λ c. block_chunk_at c.config)

shards : IsForm (λ p. commitment_bytes p.0 ++ chunk_bytes digest_bytes p.1)
    (λ p. IsCommitment p.0 × IsShard p.0.config p.1) shards_at (λ p. message.Shard p.0 p.1)
    message_bytes IsMessage 0
unfolding message_bytes
shards = record {
  part =
      pair_reads_back _ _ _ _ (λ c. IsShard c.config) (λ c. block_chunk_at c.config)
      commitment_reads_back
      (λ c h. shard_reads_back c.config);
  form = λ p h. refl;
  fits = λ p h. h;
}

votes : IsForm (λ p. be16 p.0 ++ vote_bytes p.1) (λ p. IsMember p.0 × IsVote p.1)
    (pair_at be16_at (λ _. vote_at)) (λ p. message.Vote p.0 p.1) message_bytes IsMessage 1
unfolding message_bytes
votes =
    record {
      part =
          pair_reads_back _ _ _ _ (λ _. IsVote) (λ _. vote_at) be16_reads_back
          (λ _ h. vote_reads_back);
      form = λ p h. refl;
      fits = λ p h. h;
    }

certs : IsForm cert_bytes IsCert cert_at message.Cert message_bytes IsMessage 2
unfolding message_bytes
certs = record { part = cert_reads_back; form = λ p h. refl; fits = λ p h. h }

asks : IsForm (λ p. be16 p.0 ++ commitment_bytes p.1) (λ p. IsMember p.0 × IsCommitment p.1)
    (pair_at be16_at (λ _. commitment_at)) (λ p. message.Ask p.0 p.1) message_bytes IsMessage 3
unfolding message_bytes
asks =
    record {
      part =
          pair_reads_back _ _ _ _ (λ _. IsCommitment) (λ _. commitment_at) be16_reads_back
          (λ _ h. commitment_reads_back);
      form = λ p h. refl;
      fits = λ p h. h;
    }

heights : IsForm (λ p. be16 p.0 ++ be64 p.1) (λ p. IsMember p.0 × (p.1 < 2 ^ 64))
    (pair_at be16_at (λ _. be64_at)) (λ p. message.AskHeight p.0 p.1) message_bytes IsMessage 4
unfolding message_bytes
heights =
    record {
      part =
          pair_reads_back _ _ _ _ (λ _ height. height < 2 ^ 64) (λ _. be64_at) be16_reads_back
          (λ _ h. be64_reads_back);
      form = λ p h. refl;
      fits = λ p h. h;
    }

blocks : IsForm block_bytes IsBlock block_at message.Block message_bytes IsMessage 5
unfolding message_bytes
blocks = record { part = block_reads_back; form = λ p h. refl; fits = λ p h. h }

-- a message that was read behind its tag
tagged_found : (bytes rest : List ℕ) (m : Message) → IsBytes bytes
    → tagged_message_at bytes ≡ Ok (m, rest) → (bytes ≡ message_bytes m ++ rest) × IsMessage m
unfolding tagged_message_at
tagged_found = tag_found message_bytes IsMessage message_behind chosen
  where
    chosen : (n : ℕ) (bytes rest : List ℕ) (m : Message) → IsBytes bytes
        → message_behind n bytes ≡ Ok (m, rest)
        → (n ∷ bytes ≡ message_bytes m ++ rest) × IsMessage m
    chosen n bytes rest m fits e =
        elim (pick n 0 _ _ _ e) [
          | inl h ↦ form_found _ _ _ _ _ _ _ shards n bytes rest m fits h.0
              (sym (paired (commitment_at bytes) (λ c. block_chunk_at c.config) message.Shard)
              ∙ h.1)
          | inr e ↦ elim (pick n 1 _ _ _ e) [
            | inl h ↦ form_found _ _ _ _ _ _ _ votes n bytes rest m fits h.0
                (sym (paired (be16_at bytes) (λ _. vote_at) message.Vote) ∙ h.1)
            | inr e ↦ elim (pick n 2 _ _ _ e) [
              | inl h ↦ form_found _ _ _ _ _ _ _ certs n bytes rest m fits h.0 h.1
              | inr e ↦ elim (pick n 3 _ _ _ e) [
                | inl h ↦ form_found _ _ _ _ _ _ _ asks n bytes rest m fits h.0
                    (sym (paired (be16_at bytes) (λ _. commitment_at) message.Ask) ∙ h.1)
                | inr e ↦ elim (pick n 4 _ _ _ e) [
                  | inl h ↦ form_found _ _ _ _ _ _ _ heights n bytes rest m fits h.0
                      (sym (paired (be16_at bytes) (λ _. be64_at) message.AskHeight) ∙ h.1)
                  | inr e ↦ elim (pick n 5 _ _ _ e) [
                    | inl h ↦ form_found _ _ _ _ _ _ _ blocks n bytes rest m fits h.0 h.1
                    | inr e ↦ absurd cc
                  ]
                ]
              ]
            ]
          ]
        ]

abbrev Again : Message → Type 0
Again m = tagged_message_at (message_bytes m ++ []) ≡ Ok (m, [])

-- the message of bytes that read to their end
to_message : (m : Message) → Again m → message_of (message_bytes m) ≡ m
to_message m h =
    let whole : tagged_message_at (message_bytes m) ≡ Ok (m, []) =
    ap tagged_message_at (sym (append-nil (message_bytes m))) ∙ h in
    rw whole refl

-- a message reads back as it was written
pub message_again : (m : Message) → IsMessage m → message_of (message_bytes m) ≡ m
unfolding tagged_message_at message_bytes
message_again (message.Shard c x) fits =
    to_message (message.Shard c x)
    (form_again _ _ _ _ _ _ _ shards message_behind
    (λ left. paired (commitment_at left) (λ c. block_chunk_at c.config) message.Shard) (c, x) []
    fits)
message_again (message.Vote signer v) fits =
    to_message (message.Vote signer v)
    (form_again _ _ _ _ _ _ _ votes message_behind
    (λ left. paired (be16_at left) (λ _. vote_at) message.Vote) (signer, v) [] fits)
message_again (message.Cert c) fits =
    to_message (message.Cert c)
    (form_again _ _ _ _ _ _ _ certs message_behind (λ left. refl) c [] fits)
message_again (message.Ask from c) fits =
    to_message (message.Ask from c)
    (form_again _ _ _ _ _ _ _ asks message_behind
    (λ left. paired (be16_at left) (λ _. commitment_at) message.Ask) (from, c) [] fits)
message_again (message.AskHeight from height) fits =
    to_message (message.AskHeight from height)
    (form_again _ _ _ _ _ _ _ heights message_behind
    (λ left. paired (be16_at left) (λ _. be64_at) message.AskHeight) (from, height) [] fits)
message_again (message.Block b) fits =
    to_message (message.Block b)
    (form_again _ _ _ _ _ _ _ blocks message_behind (λ left. refl) b [] fits)
message_again (message.Junk bytes) fits = rw fits refl

-- bytes are those of the message that they read as
pub message_found : (bytes : List ℕ) → IsBytes bytes
    → (message_bytes (message_of bytes) ≡ bytes) × IsMessage (message_of bytes)
unfolding message_bytes
message_found bytes fits = go (tagged_message_at bytes) refl
  where
    junk : to_the_end (tagged_message_at bytes) ≡ None
        → (message_bytes (message_of bytes) ≡ bytes) × IsMessage (message_of bytes)
    junk none = rw none (refl, none)

    go : (read : Reading Message) → tagged_message_at bytes ≡ read
        → (message_bytes (message_of bytes) ≡ bytes) × IsMessage (message_of bytes)
    go (Err e) is = junk (ap to_the_end is)
    go (Ok (m, x ∷ rest)) is = junk (ap to_the_end is)
    go (Ok (m, [])) is =
        let h = tagged_found bytes [] m fits is in
        rw is (sym (h.0 ∙ append-nil (message_bytes m)), h.1)
