-- A tally answers for every member of the rules that it stands for.
use Rattle.std.proofs.Common.{◌≡◌, ◌&&◌, ◌||◌, ◌==◌, ℕ, Bool, false, not, List, [], filter, map, take, Option, Some, None, option_map, refl, sym, subst, ◌∙◌, ap}
use Rattle.std.specs.List.{enumerate_from, find, list_any}
use Rattle.std.specs.Option.{option_map_or}
use Rattle.cw_base.specs.declared.hash.Digest32.{Digest32}
use Rattle.cw_types.specs.Block.{Block}
use Rattle.cw_types.specs.Commit as types
use Rattle.cw_types.specs.Encoding.{block_bytes, context_bytes}
use Rattle.cw_types.specs.Epochs.{Epochs, is_member, leader, place}
use Rattle.cw_types.specs.Same.{same_proposal}
use Rattle.cw_types.specs.declared.block.Context.{Context}
use Rattle.cw_types.specs.declared.commitment.Commitment.{Commitment}
use Rattle.cw_types.specs.declared.note.Note.{Note}
use Rattle.cw_types.specs.declared.vote.Proposal.{Proposal}
use Rattle.cw_types.specs.declared.vote.Vote.TheVariants.{Notarize}
use Rattle.cw_types.proofs.Same.{same_proposal-true}
use Rattle.cw_rules.specs.Accepted.{Ballot, State, first_some}
use Rattle.cw_rules.specs.Direct.{best_parent}
use Rattle.cw_rules.specs.Fits.{block_fits}
use Rattle.cw_rules.specs.Held.{held}
use Rattle.cw_rules.specs.Notes.{epoch_of, settled, view_of}
use Rattle.cw_rules.specs.Owed.{all_nullified, can_vote, cert_owed, certified_owed, finalize_owed, has_own_row, has_part_by, has_voted, is_again, is_payload_for, is_row_at, is_single, named_proposals, named_votes, notarize_owed, when}
use Rattle.cw_rules.specs.Rules.{Rules, genesis_commitment}
use Rattle.cw_rules.specs.declared.travel.Travel.{Travel}
use Rattle.cw_rules.specs.declared.travel.Travel.TheVariants.{Chunked}
use Rattle.cw_rules.proofs.Lists.{same_first}
use Rattle.voter.specs.Known.{Known, is_own_at, known_state, vote_rules}
use Rattle.voter.specs.Owing as owing
use Rattle.voter.specs.Standing.{IsTallyOf, best_from}
use Rattle.voter.proofs.Candidates.{certified_found, first_when, firsts}
use Rattle.voter.proofs.BestParent.{best_held, best_next, best_none, best_start}
use Rattle.voter.proofs.Voted.{own_at, payload_last}

-- a state of these notes and of what came
abbrev state_with : List Note → List Ballot → State
state_with notes ballots =
    record {
      notes = notes;
      came = record { ballots = ballots; parts = []; wishes = [] };
      given = [];
    }

-- rules over these bytes
abbrev rules_with : Travel → Epochs → (List ℕ → Digest32) → (Block → List ℕ) → (Context → List ℕ)
    → Rules
rules_with travel epochs hash blocks contexts = record {
  travel = travel;
  epochs = epochs;
  backlog = 0;
  hash = hash;
  block_bytes = blocks;
  context_bytes = contexts;
  code = λ text minimum extra. [];
  root = λ digests. hash [];
  path = λ digests at. [];
  leads_to = λ root chunk. false;
  text_of = λ shards chunks. None;
  read_block = λ bytes. None;
  accepts = λ a b. false;
}

-- a vote to notarize, where the chunk at the member's place came or didn't
abbrev notarize_with : Rules → ℕ → List Note → List Ballot → Bool → Proposal → Option Note
notarize_with r id notes ballots own p =
    when ((p.epoch == epoch_of notes) && (p.view == view_of notes p.epoch)
    && is_member r.epochs p.epoch id
    && list_any (is_single (leader r.epochs p.epoch p.view) (Notarize p)) ballots
    && not (has_voted notes p.epoch p.view)
    && option_map_or (λ c. (own && is_payload_for r p c) || is_again r notes p c)
    (settled (genesis_commitment r) notes p.epoch p.parent) false
    && all_nullified notes p.epoch p.parent p.view)
    (Note.Vote (Notarize p))

-- what a vote to notarize asks beside the payload
abbrev turn_with : Epochs → ℕ → List Note → List Ballot → Proposal → Bool
turn_with x id notes ballots p =
    (p.epoch == epoch_of notes) && (p.view == view_of notes p.epoch) && is_member x p.epoch id
    && list_any (is_single (leader x p.epoch p.view) (Notarize p)) ballots
    && not (has_voted notes p.epoch p.view)

-- the same, with the views between
abbrev votable_with : Epochs → ℕ → List Note → List Ballot → Proposal → Bool
votable_with x id notes ballots p =
    turn_with x id notes ballots p && all_nullified notes p.epoch p.parent p.view

-- those of which that holds, each once
abbrev votables : Epochs → ℕ → List Note → List Ballot → List Proposal
votables x id notes ballots =
    map (λ (at : ℕ × Proposal). at.1)
    (filter
    (λ (at : ℕ × Proposal). votable_with x id notes ballots at.1
    && not
    (list_any (same_proposal at.1) (take at.0 (named_proposals (state_with notes ballots)))))
    (enumerate_from 0 (named_proposals (state_with notes ballots))))

module _ (hash : List ℕ → Digest32) (t : Known) (r : Rules) (s : State)
    (stands : IsTallyOf hash t r s) where
  pub cert_agrees : first_some (cert_owed r t.id s) (named_votes s) ≡ owing.first_cert_owed hash t
  cert_agrees =
      λ i. first_some
      (cert_owed (rules_with Chunked (stands.epochs i) hash block_bytes context_bytes) t.id
      (state_with (stands.notes i) (stands.ballots i)))
      (named_votes (state_with (stands.notes i) (stands.ballots i)))

  pub finalize_agrees : first_some (finalize_owed r t.id s) (named_proposals s)
      ≡ owing.first_finalize_owed hash t
  finalize_agrees =
      λ i. first_some
      (finalize_owed (rules_with Chunked (stands.epochs i) hash block_bytes context_bytes) t.id
      (state_with (stands.notes i) (stands.ballots i)))
      (named_proposals (state_with (stands.notes i) (stands.ballots i)))

  -- a vote to notarize asks what is votable, and the payload
  notarize_by : (p : Proposal)
      → notarize_owed r t.id s p
      ≡ when (votable_with r.epochs t.id s.notes s.came.ballots p && can_vote r t.id s p)
      (Note.Vote (Notarize p))
  notarize_by p =
      ap (λ b. when b (Note.Vote (Notarize p)))
      (payload_last (turn_with r.epochs t.id s.notes s.came.ballots p) (can_vote r t.id s p)
      (all_nullified s.notes p.epoch p.parent p.view))

  pub votable_agrees : first_some (notarize_owed r t.id s) (named_proposals s)
      ≡ option_map (λ p. Note.Vote (Notarize p)) (find (can_vote r t.id s) (owing.votable t))
  unfolding owing.is_candidate owing.is_votable owing.is_turn
  votable_agrees =
      first_when (notarize_owed r t.id s)
      (λ p. votable_with r.epochs t.id s.notes s.came.ballots p && can_vote r t.id s p)
      (λ p. Note.Vote (Notarize p)) notarize_by (named_proposals s)
      ∙ (ap (option_map (λ p. Note.Vote (Notarize p)))
      (firsts same_proposal same_proposal-true
      (votable_with r.epochs t.id s.notes s.came.ballots) (can_vote r t.id s)
      (named_proposals s) 0 [] (named_proposals s) refl refl refl)
      ∙ (λ i. option_map (λ p. Note.Vote (Notarize p)) (find (can_vote r t.id s)
      (votables (stands.epochs i) t.id (stands.notes i) (stands.ballots i)))))

  own_row : (p : Proposal)
      → has_own_row r t.id s p ≡ has_own_row (vote_rules hash t.epochs) t.id (known_state t) p
  own_row p =
      ap
      (λ (x : Epochs). option_map_or (λ at. list_any (is_row_at at p.payload) s.came.parts)
      (place x p.epoch t.id) false)
      stands.epochs
      ∙ (at (place t.epochs p.epoch t.id) refl
      ∙ sym (own_at p.payload t.own (place t.epochs p.epoch t.id)))
    where
      at : (o : Option ℕ) → place t.epochs p.epoch t.id ≡ o
          → option_map_or (λ at. list_any (is_row_at at p.payload) s.came.parts)
          (place t.epochs p.epoch t.id) false
          ≡ option_map_or (λ at. list_any (is_own_at at p.payload) t.own)
          (place t.epochs p.epoch t.id) false
      at None e = rw e refl
      at (Some n) e = rw e (stands.own p.epoch n p.payload e)

  notarize_same : r.travel ≡ Chunked → (p : Proposal)
      → notarize_owed r t.id s p ≡ notarize_owed (vote_rules hash t.epochs) t.id (known_state t) p
  notarize_same cut p =
      λ i. notarize_with
      (rules_with (cut i) (stands.epochs i) (stands.hash_same i) (stands.blocks i)
      (stands.contexts i))
      t.id (stands.notes i) (stands.ballots i)
      (((λ j. has_part_by (cut j) r t.id s p) ∙ own_row p) i) p

  pub notarize_agrees : r.travel ≡ Chunked
      → first_some (notarize_owed r t.id s) (named_proposals s) ≡ owing.first_notarize_owed hash t
  notarize_agrees cut =
      same_first (notarize_owed r t.id s)
      (notarize_owed (vote_rules hash t.epochs) t.id (known_state t)) (notarize_same cut)
      (named_proposals s)
      ∙ (λ i. first_some (notarize_owed (vote_rules hash t.epochs) t.id (known_state t))
      (named_proposals (state_with (stands.notes i) (stands.ballots i))))

  pub certified_agrees : first_some (certified_owed r s) (named_proposals s)
      ≡ option_map Note.Certified (find (block_fits r t.notes) (owing.uncertified t))
  certified_agrees =
      (λ i. first_some (certified_owed r (state_with (stands.notes i) (stands.ballots i)))
      (named_proposals (state_with (stands.notes i) (stands.ballots i))))
      ∙ certified_found r t

  genesis_same : types.genesis_commitment hash ≡ genesis_commitment r
  genesis_same =
      sym
      (λ i. genesis_commitment
      (rules_with Chunked (stands.epochs i) (stands.hash_same i) (stands.blocks i)
      (stands.contexts i)))

  over_same : (epoch below : ℕ) (o : Option (ℕ × Commitment))
      → owing.parent_over (types.genesis_commitment hash) t.notes epoch below ≡ o
      → owing.parent_over (genesis_commitment r) t.notes epoch below ≡ o
  over_same epoch below o e =
      subst (λ c. owing.parent_over c t.notes epoch below ≡ o) genesis_same e

  pub parent_starts : (epoch : ℕ)
      → best_parent r s.notes epoch (view_of s.notes epoch)
      ≡ best_from r t.notes epoch (view_of t.notes epoch)
  parent_starts epoch =
      ap (λ notes. best_parent r notes epoch (view_of notes epoch)) stands.notes
      ∙ best_start r t.notes epoch

  pub parent_missing : (epoch below : ℕ)
      → owing.parent_over (types.genesis_commitment hash) t.notes epoch below ≡ None
      → best_from r t.notes epoch below ≡ None
  parent_missing epoch below e = best_none r t.notes epoch below (over_same epoch below None e)

  pub parent_held : (epoch below view : ℕ) (c : Commitment) (b : Block)
      → owing.parent_over (types.genesis_commitment hash) t.notes epoch below ≡ Some (view, c)
      → held r t.notes c ≡ Some b → best_from r t.notes epoch below ≡ Some (view, c, b)
  parent_held epoch below view c b e h =
      best_held r t.notes epoch below view c b (over_same epoch below (Some (view, c)) e) h

  pub parent_next : (epoch below view : ℕ) (c : Commitment)
      → owing.parent_over (types.genesis_commitment hash) t.notes epoch below ≡ Some (view, c)
      → held r t.notes c ≡ None → best_from r t.notes epoch below ≡ best_from r t.notes epoch view
  parent_next epoch below view c e h =
      best_next r t.notes epoch below view c (over_same epoch below (Some (view, c)) e) h
