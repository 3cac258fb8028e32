-- What is kept stands for a member of the rules.
use Rattle.std.proofs.Common.{◌≡◌, ℕ, ◌+◌, Bool, true, false, ◌&&◌, ◌||◌, ◌==◌, not, if◌then◌else◌, IsFalse, IsTrue, List, [], ◌∷◌, ◌++◌, length, Option, Some, None, refl, ◌∙◌, ap, ◌↔◌, append-nil}
use Rattle.std.specs.List.{filter_map, list_any}
use Rattle.std.specs.Option.{option_map_or}
use Rattle.std.proofs.lemmas.List.Elements.{filter_map-append}
use Rattle.cw_base.specs.declared.hash.Digest32.{Digest32}
use Rattle.cw_types.specs.Block.{Block}
use Rattle.cw_types.specs.Epochs.{Epochs, is_member}
use Rattle.cw_types.specs.Same.{same_commitment}
use Rattle.cw_types.specs.Votes.{finalized, vote_epoch, well_formed}
use Rattle.cw_types.specs.declared.commitment.Commitment.{Commitment}
use Rattle.cw_types.specs.declared.event.Event.{Event}
use Rattle.cw_types.specs.declared.message.Message.{Message}
use Rattle.cw_types.specs.declared.vote.Proposal.{Proposal}
use Rattle.cw_types.specs.declared.vote.Vote.{Vote}
use Rattle.cw_rules.specs.Accepted.{Ballot, Came, Part, Row, Whole, accepted, add_wish, is_chunk_of, is_valid, same_ballot, same_part, take_ballot, take_part, wish_for}
use Rattle.cw_rules.specs.Held.{shown}
use Rattle.cw_rules.specs.Rules.{Chunk, Rules}
use Rattle.cw_rules.specs.Step.{nothing_came, taken_came}
use Rattle.cw_rules_coded.specs.Coded.{coded}
use Rattle.shards.specs.Kept.{Gathered, chunk_rules, chunks_of, is_kept_chunk, kept_came, with_chunk}
use Rattle.shards.specs.Standing.{StandsFor, after_event, kept_of}
use Rattle.shards.specs.Verdicts.{gathered_after, kept_verdict, of_shown, verdict}
use Rattle.shards.specs.declared.pieces.KeptChunk.{KeptChunk}
use Rattle.shards.specs.declared.verdict.Verdict.{Verdict}
use Rattle.shards.specs.declared.verdict.Verdict.TheVariants.{Foreign, Kept, Known}

-- where nothing came nothing is kept
pub stands_first : (hash : List ℕ → Digest32) (epochs : Epochs) (backlog : ℕ)
    (accepts : Block → Block → Bool)
    → StandsFor hash (record { epochs = epochs; kept = [] }) (coded hash epochs backlog accepts)
    nothing_came
stands_first hash epochs backlog accepts = record { rules = refl; rows = refl }

-- ---- a chunk that came

came_is_known : (c : Commitment) (x : Chunk) (parts : List Part)
    → list_any (same_part (Row c x)) parts ≡ is_kept_chunk (filter_map kept_of parts) c x
came_is_known c x [] = refl
came_is_known c x (Row d y ∷ parts) =
    ap (λ b. (same_commitment c d && (x.index == y.index)) || b) (came_is_known c x parts)
came_is_known c x (Whole b ∷ parts) = came_is_known c x parts

shown_not_known : (o : Option Block) → of_shown o ≡ Known → ⊥
shown_not_known None e = cc
shown_not_known (Some b) e = cc

shown_not_foreign : (o : Option Block) → of_shown o ≡ Foreign → ⊥
shown_not_foreign None e = cc
shown_not_foreign (Some b) e = cc

-- a chunk that is kept is neither known nor foreign
not_known : (r : Rules) (kept : List KeptChunk) (c : Commitment) (x : Chunk)
    → kept_verdict r kept c x ≡ Known → ⊥
not_known r kept c x = go (length (chunks_of c kept) + 1 == c.config.minimum)
  where
    go : (b : Bool)
        → (if b then of_shown (shown r (kept_came (with_chunk kept c x)) c) else Kept) ≡ Known → ⊥
    go true e = shown_not_known (shown r (kept_came (with_chunk kept c x)) c) e
    go false e = cc

not_foreign : (r : Rules) (kept : List KeptChunk) (c : Commitment) (x : Chunk)
    → kept_verdict r kept c x ≡ Foreign → ⊥
not_foreign r kept c x = go (length (chunks_of c kept) + 1 == c.config.minimum)
  where
    go : (b : Bool)
        → (if b then of_shown (shown r (kept_came (with_chunk kept c x)) c) else Kept) ≡ Foreign → ⊥
    go true e = shown_not_foreign (shown r (kept_came (with_chunk kept c x)) c) e
    go false e = cc

is_known_by : (known taken : Bool) (v : Verdict) → (v ≡ Known → ⊥)
    → ((if known then Known else if taken then v else Foreign) ≡ Known) ↔ IsTrue known
is_known_by true taken v other = (λ _. refl, λ _. refl)
is_known_by false true v other = (λ e. absurd (other e), λ t. cc)
is_known_by false false v other = (λ e. cc, λ t. cc)

is_foreign_by : (known taken : Bool) (v : Verdict) → (v ≡ Foreign → ⊥)
    → ((if known then Known else if taken then v else Foreign) ≡ Foreign) ↔
    (IsFalse known × IsFalse taken)
is_foreign_by true taken v other = (λ e. cc, λ p. let f = p.0 in cc)
is_foreign_by false true v other = (λ e. absurd (other e), λ p. let f = p.1 in cc)
is_foreign_by false false v other = (λ _. (refl, refl), λ _. refl)

module _ (hash : List ℕ → Digest32) (t : Gathered) (r : Rules) (came : Came)
    (stands : StandsFor hash t r came) where
  -- what came already is what is known, and what the rules take is what those of the committees do
  came_known : (c : Commitment) (x : Chunk)
      → list_any (same_part (Row c x)) came.parts ≡ is_kept_chunk t.kept c x
  came_known c x = came_is_known c x came.parts ∙ ap (λ ks. is_kept_chunk ks c x) stands.rows

  same_taken : (c : Commitment) (x : Chunk)
      → is_chunk_of r c x ≡ is_chunk_of (chunk_rules hash t.epochs) c x
  same_taken c x = ap (λ (q : Rules). is_chunk_of q c x) stands.rules

  pub known_exactly : (c : Commitment) (x : Chunk)
      → (verdict (chunk_rules hash t.epochs) t.kept c x ≡ Known) ↔ IsTrue
      (list_any (same_part (Row c x)) came.parts)
  known_exactly c x =
      rw (came_known c x)
      (is_known_by (is_kept_chunk t.kept c x) (is_chunk_of (chunk_rules hash t.epochs) c x)
      (kept_verdict (chunk_rules hash t.epochs) t.kept c x)
      (not_known (chunk_rules hash t.epochs) t.kept c x))

  pub foreign_exactly : (c : Commitment) (x : Chunk)
      → (verdict (chunk_rules hash t.epochs) t.kept c x ≡ Foreign) ↔
      (IsFalse (list_any (same_part (Row c x)) came.parts) × IsFalse (is_chunk_of r c x))
  foreign_exactly c x =
      rw (came_known c x)
      (rw (same_taken c x)
      (is_foreign_by (is_kept_chunk t.kept c x) (is_chunk_of (chunk_rules hash t.epochs) c x)
      (kept_verdict (chunk_rules hash t.epochs) t.kept c x)
      (not_foreign (chunk_rules hash t.epochs) t.kept c x)))

  -- ---- what is kept then

  abbrev with_part : Part → Came
  with_part p =
      record { ballots = came.ballots; parts = came.parts ++ p ∷ []; wishes = came.wishes }

  kept_by : (c : Commitment) (x : Chunk) (known taken : Bool)
      → filter_map kept_of (if taken && not known then with_part (Row c x) else came).parts
      ≡ (if known then t.kept else if taken then with_chunk t.kept c x else t.kept)
  kept_by c x true true = stands.rows
  kept_by c x true false = stands.rows
  kept_by c x false true =
      filter_map-append kept_of came.parts (Row c x ∷ [])
      ∙ ap (λ ks. ks ++ record { commitment = c; chunk = x } ∷ []) stands.rows
  kept_by c x false false = stands.rows

  -- the member took the chunk
  pub stands_taken : (c : Commitment) (x : Chunk)
      → StandsFor hash (gathered_after (chunk_rules hash t.epochs) t c x) r
      (take_part came (is_chunk_of r c x) (Row c x))
  stands_taken c x = record {
    rules = stands.rules;
    rows =
        ap
        (λ b. filter_map kept_of
        (if b && not (list_any (same_part (Row c x)) came.parts) then with_part (Row c x)
        else came).parts)
        (same_taken c x)
        ∙ (ap
        (λ b. filter_map kept_of
        (if is_chunk_of (chunk_rules hash t.epochs) c x && not b then with_part (Row c x)
        else came).parts)
        (came_known c x)
        ∙ kept_by c x (is_kept_chunk t.kept c x) (is_chunk_of (chunk_rules hash t.epochs) c x));
  }

  -- a whole block came
  stands_whole : (b : Block) → StandsFor hash t r (take_part came true (Whole b))
  stands_whole b =
      record { rules = stands.rules; rows = go (not (list_any (same_part (Whole b)) came.parts)) }
    where
      go : (new : Bool)
          → filter_map kept_of (if true && new then with_part (Whole b) else came).parts ≡ t.kept
      go true =
          filter_map-append kept_of came.parts (Whole b ∷ [])
          ∙ (append-nil (filter_map kept_of came.parts) ∙ stands.rows)
      go false = stands.rows

  -- a vote or a certificate came
  stands_ballot : (fits : Bool) (x : Ballot) → StandsFor hash t r (take_ballot came fits x)
  stands_ballot fits x =
      record {
        rules = stands.rules;
        rows = go (fits && not (list_any (same_ballot x) came.ballots));
      }
    where
      go : (new : Bool)
          → filter_map kept_of (if new then record {
            ballots = came.ballots ++ x ∷ [];
            parts = came.parts;
            wishes = came.wishes;
          } else came).parts
          ≡ t.kept
      go true = stands.rows
      go false = stands.rows

  -- what a member accepts from an event
  pub stands_event : (signed : ℕ → Vote → Bool) (e : Event)
      → StandsFor hash (after_event (chunk_rules hash t.epochs) t e) r (taken_came r signed came e)
  stands_event signed (Event.Deliver m) = by_message m
    where
      by_message : (m : Message)
          → StandsFor hash (after_event (chunk_rules hash t.epochs) t (Event.Deliver m)) r
          (accepted r signed came m)
      by_message (Message.Shard c x) = stands_taken c x
      by_message (Message.Vote i v) =
          stands_ballot (is_member r.epochs (vote_epoch v) i && well_formed v && signed i v)
          (Ballot.Single i v)
      by_message (Message.Cert s) = stands_ballot (is_valid r signed s) (Ballot.Many s)
      by_message (Message.Block b) = stands_whole b
      by_message _ = stands
  stands_event signed (Event.Floor s) = by_proposal (finalized s.vote)
    where
      by_valid : (p : Proposal) (b : Bool)
          → StandsFor hash t r
          (if b then add_wish (take_ballot came true (Ballot.Many s)) p.payload else came)
      by_valid p true =
          record { rules = stands.rules; rows = (stands_ballot true (Ballot.Many s)).rows }
      by_valid p false = stands

      by_proposal : (o : Option Proposal)
          → StandsFor hash t r (option_map_or (wish_for r signed came s) o came)
      by_proposal None = stands
      by_proposal (Some p) = by_valid p (is_valid r signed s)
  stands_event signed _ = stands
