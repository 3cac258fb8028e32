-- Notes read back as they were written, and what is read is in its format.
use Rattle.std.proofs.Common.{◌≡◌, ℕ, ◌%◌, ◌^◌, ◌<◌, true, List, ◌∷◌}
use Rattle.std.proofs.Common.{◌++◌, length, Ok, Err, refl, sym, ap, subst, ◌∙◌, append_assoc, inl}
use Rattle.std.proofs.Common.{inr}
use Rattle.std.specs.List.{flat_map}
use Rattle.cw_base.specs.Bytes.{be16, be64}
use Rattle.cw_base.specs.Reading.{Reading, ◌>>=◌, byte_at, be64_at}
use Rattle.cw_base.specs.ReadsBack.{ReadsBack, IsBytes}
use Rattle.cw_base.proofs.ReadingLaws.{be64_reads_back}
use Rattle.cw_types.specs.Encoding.{block_bytes, cert_bytes, commitment_bytes, epoch_tag_bytes}
use Rattle.cw_types.specs.Encoding.{note_bytes, proposal_bytes, vote_bytes}
use Rattle.cw_types.specs.Reading.{as_read, block_at, commitment_at, formed_vote_at, height_at}
use Rattle.cw_types.specs.Reading.{later_epoch_at, note_at, note_behind, ordered_at, proposal_at}
use Rattle.cw_types.specs.Reading.{signed_at, verified_at, vote_at}
use Rattle.cw_types.specs.Values.{IsBlock, IsCert, IsCommitment, IsBlockHeight, IsLaterEpoch, IsNote}
use Rattle.cw_types.specs.Values.{IsProposal, IsVote}
use Rattle.cw_types.proofs.FormatLaws.{alike, behind, block_reads_back, commitment_reads_back}
use Rattle.cw_types.proofs.FormatLaws.{height_reads_back, later_epoch_reads_back}
use Rattle.cw_types.proofs.FormatLaws.{proposal_reads_back, tested}
use Rattle.cw_types.proofs.TaggedLaws.{IsForm, IsKind, Signed, form_again, form_found, front_of}
use Rattle.cw_types.proofs.TaggedLaws.{kind_again, kind_first, kind_later, later_alike, own_epoch}
use Rattle.cw_types.proofs.TaggedLaws.{pair_at, pair_reads_back, paired, pick, tag_found, signed_bytes}
use Rattle.cw_types.proofs.TaggedLaws.{signed_reads_back, vote_reads_back}
use Rattle.cw_types.specs.Votes.{is_ordered, well_formed}
use Rattle.cw_types.specs.declared.commitment.Commitment.{Commitment}
use Rattle.cw_types.specs.declared.vote.Proposal.{Proposal}
use Rattle.cw_types.specs.declared.vote.Vote.{Vote}
use Rattle.cw_types.specs.declared.vote.Cert.{Cert}
use Rattle.cw_types.specs.declared.note.Note.{Note}
use Rattle.cw_types.specs.declared.note.Note.TheVariants as note

abbrev IsOrdered : ℕ → Proposal → Type 0
IsOrdered e p = IsProposal e p × (is_ordered p ≡ true)

ordered_reads_back : (e : ℕ) → ReadsBack proposal_bytes (IsOrdered e) (ordered_at e)
unfolding ordered_at
ordered_reads_back e =
    tested proposal_bytes (IsProposal e) (proposal_at e) is_ordered (proposal_reads_back e)

abbrev IsFormed : Vote → Type 0
IsFormed v = IsVote v × (well_formed v ≡ true)

formed_reads_back : ReadsBack vote_bytes IsFormed formed_vote_at
unfolding formed_vote_at
formed_reads_back = tested vote_bytes IsVote vote_at well_formed vote_reads_back

-- a certificate whose vote is well formed
abbrev formed_cert_at : List ℕ → Reading Cert
formed_cert_at bytes = formed_vote_at bytes >>= λ vote. signed_at vote.0 vote.1

abbrev IsFormedCert : Cert → Type 0
IsFormedCert c = IsCert c × (well_formed c.vote ≡ true)

formed_cert_reads_back : ReadsBack cert_bytes IsFormedCert formed_cert_at
unfolding cert_bytes
formed_cert_reads_back = alike _ _ _ _ formed_cert_at regrouped to from (
    behind _ _ _ (λ c. c.vote) signed_bytes Signed _ (λ vote c (signers, is). ap (λ x. x.vote) is)
    formed_reads_back λ vote first. signed_reads_back vote)
  where
    regrouped : (c : Cert) → IsFormed c.vote × Signed c.vote c
        → vote_bytes c.vote ++ signed_bytes c
        ≡ vote_bytes c.vote ++ be16 (length c.signers % 2 ^ 16) ++ flat_map be16 c.signers
    regrouped c h =
        sym
        (append_assoc (vote_bytes c.vote) (be16 (length c.signers % 2 ^ 16))
        (flat_map be16 c.signers))

    to : (c : Cert) → IsFormed c.vote × Signed c.vote c → IsFormedCert c
    to c ((vote, formed), (signers, is)) = (record { vote = vote; signers = signers }, formed)

    from : (c : Cert) → IsFormedCert c → IsFormed c.vote × Signed c.vote c
    from c (fits, formed) = ((fits.vote, formed), (fits.signers, refl))

-- a value that is seen as another at its end
through : {A B D : Type 0} (make : B → D) (read : Reading A) (s : A → List ℕ → Reading B)
    → read >>= (λ a. as_read make (s a.0 a.1)) ≡ as_read make (read >>= λ a. s a.0 a.1)
through make (Ok a) s = refl
through make (Err e) s = refl

blocks : IsForm (λ p. commitment_bytes p.0 ++ block_bytes p.1) (λ p. IsCommitment p.0 × IsBlock p.1)
    (pair_at commitment_at (λ _. block_at)) (λ p. note.Block p.0 p.1) note_bytes IsNote 0
unfolding note_bytes
blocks =
    record {
      part =
          pair_reads_back _ _ _ _ (λ _. IsBlock) (λ _. block_at) commitment_reads_back
          (λ _ h. block_reads_back);
      form = λ p h. refl;
      fits = λ p h. h;
    }

votes : IsForm vote_bytes IsFormed formed_vote_at note.Vote note_bytes IsNote 3
unfolding note_bytes
votes = record { part = formed_reads_back; form = λ p h. refl; fits = λ p h. h }

certs : IsForm cert_bytes IsFormedCert formed_cert_at note.Cert note_bytes IsNote 4
unfolding note_bytes
certs = record { part = formed_cert_reads_back; form = λ p h. refl; fits = λ p h. h }

acks : IsForm be64 IsBlockHeight height_at note.Ack note_bytes IsNote 5
unfolding note_bytes
acks = record { part = height_reads_back; form = λ p h. refl; fits = λ p h. h }

floors : IsForm be64 IsBlockHeight height_at note.Floor note_bytes IsNote 6
unfolding note_bytes
floors = record { part = height_reads_back; form = λ p h. refl; fits = λ p h. h }

prunes : IsForm be64 IsBlockHeight height_at note.Prune note_bytes IsNote 7
unfolding note_bytes
prunes = record { part = height_reads_back; form = λ p h. refl; fits = λ p h. h }

epochs : IsForm (λ p. be64 p.0 ++ commitment_bytes p.1) (λ p. IsLaterEpoch p.0 × IsCommitment p.1)
    (pair_at later_epoch_at (λ _. commitment_at)) (λ p. note.Epoch p.0 p.1) note_bytes IsNote 8
unfolding note_bytes
epochs =
    record {
      part =
          pair_reads_back _ _ _ _ (λ _. IsCommitment) (λ _. commitment_at) later_epoch_reads_back
          (λ _ h. commitment_reads_back);
      form = λ p h. refl;
      fits = λ p h. h;
    }

certifies : IsKind proposal_bytes IsOrdered ordered_at (λ e. note.Certified) note_bytes IsNote 2 9
unfolding note_bytes epoch_tag_bytes
certifies = record {
  part = ordered_reads_back;
  form = λ e p h. rw h.0.epoch refl;
  fits =
      λ e p small h.
      (subst (λ (x : ℕ). x < 2 ^ 64) (sym h.0.epoch) small, (own_epoch e p h.0, h.1));
}

abbrev view_and_commitment_at : List ℕ → Reading (ℕ × Commitment)
view_and_commitment_at = pair_at be64_at (λ _. commitment_at)

verifies : IsKind (λ p. be64 p.0 ++ commitment_bytes p.1) (λ _ p. (p.0 < 2 ^ 64) × IsCommitment p.1)
    (λ _. view_and_commitment_at) (λ e p. note.Verified e p.0 p.1) note_bytes IsNote 1 10
unfolding note_bytes epoch_tag_bytes
verifies = record {
  part =
      λ e. pair_reads_back _ _ _ _ (λ _. IsCommitment) (λ _. commitment_at) be64_reads_back
      (λ _ h. commitment_reads_back);
  form = λ e p h. append_assoc (front_of 1 10 e) (be64 p.0) (commitment_bytes p.1);
  fits = λ e p small h. (small, h);
}

verified_as : (e : ℕ) (left : List ℕ)
    → verified_at e left
    ≡ as_read (λ (p : ℕ × Commitment). note.Verified e p.0 p.1) (view_and_commitment_at left)
verified_as e left = paired (be64_at left) (λ _. commitment_at) (note.Verified e)

pub note_reads_back : ReadsBack note_bytes IsNote note_at
unfolding note_at
note_reads_back = record { found = tag_found note_bytes IsNote note_behind chosen; again = again }
  where
    chosen : (n : ℕ) (bytes rest : List ℕ) (x : Note) → IsBytes bytes
        → note_behind n bytes ≡ Ok (x, rest) → (n ∷ bytes ≡ note_bytes x ++ rest) × IsNote x
    chosen n bytes rest x fits e =
        elim (pick n 0 _ _ _ e) [
          | inl h ↦ form_found _ _ _ _ _ _ _ blocks n bytes rest x fits h.0
              (sym (paired (commitment_at bytes) (λ _. block_at) note.Block) ∙ h.1)
          | inr e ↦ elim (pick n 1 _ _ _ e) [
            | inl h ↦ kind_first _ _ _ _ _ _ _ _ verifies n bytes rest x fits h.0
                (sym (verified_as 0 bytes) ∙ h.1)
            | inr e ↦ elim (pick n 2 _ _ _ e) [
              | inl h ↦ kind_first _ _ _ _ _ _ _ _ certifies n bytes rest x fits h.0 h.1
              | inr e ↦ elim (pick n 3 _ _ _ e) [
                | inl h ↦ form_found _ _ _ _ _ _ _ votes n bytes rest x fits h.0 h.1
                | inr e ↦ elim (pick n 4 _ _ _ e) [
                  | inl h ↦ form_found _ _ _ _ _ _ _ certs n bytes rest x fits h.0
                      (sym (through note.Cert (formed_vote_at bytes) signed_at) ∙ h.1)
                  | inr e ↦ elim (pick n 5 _ _ _ e) [
                    | inl h ↦ form_found _ _ _ _ _ _ _ acks n bytes rest x fits h.0 h.1
                    | inr e ↦ elim (pick n 6 _ _ _ e) [
                      | inl h ↦ form_found _ _ _ _ _ _ _ floors n bytes rest x fits h.0 h.1
                      | inr e ↦ elim (pick n 7 _ _ _ e) [
                        | inl h ↦ form_found _ _ _ _ _ _ _ prunes n bytes rest x fits h.0 h.1
                        | inr e ↦ elim (pick n 8 _ _ _ e) [
                          | inl h ↦ form_found _ _ _ _ _ _ _ epochs n bytes rest x fits h.0
                              (sym (paired (later_epoch_at bytes) (λ _. commitment_at) note.Epoch)
                              ∙ h.1)
                          | inr e ↦ elim (pick n 9 _ _ _ e) [
                            | inl h ↦ kind_later _ _ _ _ _ _ _ _ certifies n bytes rest x fits h.0
                                h.1
                            | inr e ↦ elim (pick n 10 _ _ _ e) [
                              | inl h ↦ kind_later _ _ _ _ _ _ _ _ verifies n bytes rest x fits h.0
                                  (sym
                                  (later_alike verified_at
                                  (λ e left. as_read
                                  (λ (p : ℕ × Commitment). note.Verified e p.0 p.1)
                                  (view_and_commitment_at left))
                                  verified_as bytes)
                                  ∙ h.1)
                              | inr e ↦ absurd cc
                            ]
                          ]
                        ]
                      ]
                    ]
                  ]
                ]
              ]
            ]
          ]
        ]

    again : (x : Note) (rest : List ℕ) → IsNote x
        → byte_at (note_bytes x ++ rest) >>= (λ t. note_behind t.0 t.1) ≡ Ok (x, rest)
    again (note.Block c b) rest fits =
        form_again _ _ _ _ _ _ _ blocks note_behind
        (λ left. paired (commitment_at left) (λ _. block_at) note.Block) (c, b) rest fits
    again (note.Verified epoch view c) rest fits =
        kind_again _ _ _ _ _ _ _ _ verifies note_behind (verified_as 0)
        (later_alike verified_at
        (λ e left. as_read (λ (p : ℕ × Commitment). note.Verified e p.0 p.1)
        (view_and_commitment_at left))
        verified_as)
        epoch (view, c) rest fits.0 fits.1
    again (note.Certified p) rest fits =
        kind_again _ _ _ _ _ _ _ _ certifies note_behind (λ left. refl) (λ left. refl) p.epoch p
        rest fits.0 fits.1
    again (note.Vote v) rest fits =
        form_again _ _ _ _ _ _ _ votes note_behind (λ left. refl) v rest fits
    again (note.Cert c) rest fits =
        form_again _ _ _ _ _ _ _ certs note_behind
        (λ left. through note.Cert (formed_vote_at left) signed_at) c rest fits
    again (note.Ack height) rest fits =
        form_again _ _ _ _ _ _ _ acks note_behind (λ left. refl) height rest fits
    again (note.Floor height) rest fits =
        form_again _ _ _ _ _ _ _ floors note_behind (λ left. refl) height rest fits
    again (note.Prune height) rest fits =
        form_again _ _ _ _ _ _ _ prunes note_behind (λ left. refl) height rest fits
    again (note.Epoch epoch c) rest fits =
        form_again _ _ _ _ _ _ _ epochs note_behind
        (λ left. paired (later_epoch_at left) (λ _. commitment_at) note.Epoch) (epoch, c) rest
        fits
