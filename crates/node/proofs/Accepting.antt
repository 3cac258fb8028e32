-- What is accepted leaves a node that stands for its member.
use Rattle.std.proofs.Common.{◌≡◌, ℕ, ◌<◌, ◌+◌, Bool, true, false, ◌&&◌, List, [], ◌∷◌, ◌++◌, length, map, Some, None, refl, sym, ◌∙◌, ap, subst, length-append, add-zero}
use Rattle.std.specs.List.{list_any}
use Rattle.cw_base.specs.declared.hash.Digest32.{Digest32}
use Rattle.cw_types.specs.Block.{Block}
use Rattle.cw_types.specs.declared.commitment.Commitment.{Commitment}
use Rattle.cw_rules.specs.Accepted.{Ballot, Came, Part, Row, Whole, add_wish, first_some, same_ballot, same_part, take_ballot, take_part}
use Rattle.cw_rules.specs.Rules.{Chunk, Rules, commit}
use Rattle.shards.specs.Kept as kept
use Rattle.shards.specs.Standing as shards
use Rattle.voter.specs.Known.{Known, with_ballot}
use Rattle.voter.specs.Standing as voter
use Rattle.std.specs.List.{list_all}
use Rattle.std.specs.Prelude.{nat_le}
use Rattle.std.proofs.lemmas.Bool.{and_parts, and_from}
use Rattle.cw_types.specs.Epochs.{is_member, rises_from, size}
use Rattle.cw_types.specs.Numbers.{quorum}
use Rattle.cw_types.specs.Votes.{vote_epoch, well_formed}
use Rattle.cw_types.specs.declared.vote.Cert.{Cert}
use Rattle.cw_types.specs.declared.vote.Vote.{Vote}
use Rattle.cw_rules.specs.Accepted.{is_valid}
use Rattle.voter.specs.Standing.{are_signers}
use Rattle.cw_rules.specs.Held.{shown}
use Rattle.cw_rules.specs.Owed.{part_commitment}
use Rattle.shards.specs.declared.pieces.KeptChunk.{KeptChunk}
use Rattle.node.proofs.Arrivals.{count_behind, map_behind, parts_row, parts_whole}
use Rattle.node.specs.Accepting.{with_row}
use Rattle.node.specs.declared.arrival.Arrival.{Arrival}
use Rattle.node.specs.declared.arrival.Shown.{Shown}
use Rattle.node.specs.Holding.{Holding, came_of, count_rows, cut_rules, own_state, parts_of, rules_of, shown_under}
use Rattle.node.specs.Standing.{HasCome, IsSameBeside, PartsStand}

-- the ballots with one more are those of what came with one more
pub ballot_came : (t : Known) (parts : List Part) (wishes : List Commitment) (x : Ballot)
    → record { ballots = (with_ballot t x).ballots; parts = parts; wishes = wishes }
    ≡ take_ballot (record { ballots = t.ballots; parts = parts; wishes = wishes }) true x
ballot_came t parts wishes x = go (list_any (same_ballot x) t.ballots) refl
  where
    go : (b : Bool) → list_any (same_ballot x) t.ballots ≡ b
        → record { ballots = (with_ballot t x).ballots; parts = parts; wishes = wishes }
        ≡ take_ballot (record { ballots = t.ballots; parts = parts; wishes = wishes }) true x
    go true e = rw e refl
    go false e = rw e refl

-- of all that are members and signed, all are members
all_first : (p q : ℕ → Bool) (xs : List ℕ) → list_all (λ i. p i && q i) xs ≡ true
    → list_all p xs ≡ true
all_first p q [] h = refl
all_first p q (x ∷ xs) h =
    let a = and_parts (p x && q x) (list_all (λ i. p i && q i) xs) h in
    and_from (p x) (list_all p xs) (and_parts (p x) (q x) a.0).0 (all_first p q xs a.1)

-- the signers of a valid certificate may sign it
pub valid_signers : (r : Rules) (signed : ℕ → Vote → Bool) (s : Cert) → is_valid r signed s ≡ true
    → are_signers r.epochs s.vote s.signers ≡ true
valid_signers r signed s h =
    let a =
    and_parts
    (well_formed s.vote && rises_from 0 s.signers
    && list_all (λ i. is_member r.epochs (vote_epoch s.vote) i && signed i s.vote)
    s.signers)
    (nat_le (quorum (size r.epochs (vote_epoch s.vote))) (length s.signers)) h in
    let b =
    and_parts (well_formed s.vote && rises_from 0 s.signers)
    (list_all (λ i. is_member r.epochs (vote_epoch s.vote) i && signed i s.vote) s.signers)
    a.0 in
    let d = and_parts (well_formed s.vote) (rises_from 0 s.signers) b.0 in
    and_from (rises_from 0 s.signers) (list_all (is_member r.epochs (vote_epoch s.vote)) s.signers)
    d.1
    (all_first (is_member r.epochs (vote_epoch s.vote)) (λ i. signed i s.vote) s.signers b.1)

module _ {D A : Type 0} (hash : List ℕ → Digest32) (accepts : A → Block → Block → Bool) where
  same_beside : (h : Holding D A) → IsSameBeside h h
  same_beside h =
      record {
        travel = refl;
        id = refl;
        epochs = refl;
        backlog = refl;
        app = refl;
        store = refl;
        log = refl;
      }

  -- nothing came
  pub came_nothing : (h : Holding D A) → PartsStand hash accepts h
      → HasCome hash accepts (came_of h) h h
  came_nothing h s = record { stands = s; taken = refl; same = same_beside h }

  -- one more ballot
  pub came_ballot : (h new : Holding D A) (x : Ballot) → PartsStand hash accepts h
      → voter.IsTallyOf hash (with_ballot h.tally x) (rules_of hash accepts h)
      (voter.with_came (own_state h) (take_ballot (came_of h) true x))
      → new ≡ record h { tally = with_ballot h.tally x }
      → HasCome hash accepts (take_ballot (came_of h) true x) h new
  came_ballot h new x s tally is =
      subst (λ (n : Holding D A). HasCome hash accepts (take_ballot (came_of h) true x) h n)
      (sym is) (record {
        stands = record {
          epochs = s.epochs;
          backlog = s.backlog;
          running = s.running;
          id = s.id;
          tally =
              subst
              (λ (came : Came). voter.IsTallyOf hash (with_ballot h.tally x)
              (rules_of hash accepts h) (voter.with_came (own_state h) came))
              (sym same) tally;
          shards = record { rules = s.shards.rules; rows = s.shards.rows };
          rows = s.rows;
          named = s.named;
          shown = s.shown;
        };
        taken = same;
        same =
            record {
              travel = refl;
              id = refl;
              epochs = refl;
              backlog = refl;
              app = refl;
              store = refl;
              log = refl;
            };
      })
    where
      same : came_of (record h { tally = with_ballot h.tally x }) ≡ take_ballot (came_of h) true x
      same = ballot_came h.tally (came_of h).parts h.wishes x

  -- one more wish
  pub came_wish : (h new : Holding D A) (c : Commitment) → PartsStand hash accepts h
      → voter.IsTallyOf hash h.tally (rules_of hash accepts h)
      (voter.with_came (own_state h) (add_wish (came_of h) c))
      → new ≡ record h { wishes = h.wishes ++ c ∷ [] }
      → HasCome hash accepts (add_wish (came_of h) c) h new
  came_wish h new c s tally is =
      subst (λ (n : Holding D A). HasCome hash accepts (add_wish (came_of h) c) h n) (sym is)
      (record {
        stands = record {
          epochs = s.epochs;
          backlog = s.backlog;
          running = s.running;
          id = s.id;
          tally = tally;
          shards = record { rules = s.shards.rules; rows = s.shards.rows };
          rows = s.rows;
          named = s.named;
          shown = s.shown;
        };
        taken = refl;
        same =
            record {
              travel = refl;
              id = refl;
              epochs = refl;
              backlog = refl;
              app = refl;
              store = refl;
              log = refl;
            };
      })

  -- one more block that came whole
  pub came_whole : (h new : Holding D A) (b : Block) → PartsStand hash accepts h
      → list_any (same_part (Whole b)) (came_of h).parts ≡ false
      → voter.IsTallyOf hash h.tally (rules_of hash accepts h)
      (voter.with_came (own_state h) (take_part (came_of h) true (Whole b)))
      → shards.StandsFor hash h.shards (cut_rules hash accepts h)
      (take_part (came_of h) true (Whole b))
      → new
      ≡ record h {
        arrivals =
            h.arrivals
            ++ record { commitment = commit (rules_of hash accepts h) b; block = Some b }
            ∷ [];
      }
      → HasCome hash accepts (take_part (came_of h) true (Whole b)) h new
  came_whole h new b s fresh tally chunks is =
      subst (λ (n : Holding D A). HasCome hash accepts (take_part (came_of h) true (Whole b)) h n)
      (sym is) (record {
        stands = record {
          epochs = s.epochs;
          backlog = s.backlog;
          running = s.running;
          id = s.id;
          tally =
              subst
              (λ (came : Came). voter.IsTallyOf hash h.tally (rules_of hash accepts h)
              (voter.with_came (own_state h) came))
              (sym same) tally;
          shards =
              subst
              (λ (came : Came). shards.StandsFor hash h.shards (cut_rules hash accepts h) came)
              (sym same) chunks;
          rows = count_behind h.arrivals (w ∷ []) ∙ (add-zero (count_rows h.arrivals) ∙ s.rows);
          named =
              ap (map (part_commitment (rules_of hash accepts h))) parts
              ∙ (map_behind (part_commitment (rules_of hash accepts h)) (came_of h).parts
              (Whole b ∷ [])
              ∙ (ap (λ l. l ++ commit (rules_of hash accepts h) b ∷ []) s.named
              ∙ sym (map_behind (λ (a : Arrival). a.commitment) h.arrivals (w ∷ []))));
          shown = s.shown;
        };
        taken = same;
        same =
            record {
              travel = refl;
              id = refl;
              epochs = refl;
              backlog = refl;
              app = refl;
              store = refl;
              log = refl;
            };
      })
    where
      w : Arrival
      w = record { commitment = commit (rules_of hash accepts h) b; block = Some b }

      parts : parts_of (h.arrivals ++ w ∷ []) h.shards.kept ≡ (came_of h).parts ++ Whole b ∷ []
      parts = parts_whole h.arrivals h.shards.kept (commit (rules_of hash accepts h) b) b s.rows

      same : came_of (record h { arrivals = h.arrivals ++ w ∷ [] })
          ≡ take_part (came_of h) true (Whole b)
      same =
          ap (λ (l : List Part). record {
            ballots = h.tally.ballots;
            parts = l;
            wishes = h.wishes;
          }) parts
          ∙ rw fresh refl

  -- one more chunk
  pub came_row : (h new : Holding D A) (c : Commitment) (x : Chunk) (showing : List Shown)
      → PartsStand hash accepts h
      → list_any (same_part (Row c x)) (came_of h).parts ≡ false
      → voter.IsTallyOf hash (with_row h.epochs h.id h.tally c x.index) (rules_of hash accepts h)
      (voter.with_came (own_state h) (take_part (came_of h) true (Row c x)))
      → shards.StandsFor hash
      (record { epochs = h.shards.epochs; kept = kept.with_chunk h.shards.kept c x })
      (cut_rules hash accepts h) (take_part (came_of h) true (Row c x))
      → ((d : Commitment) → 0 < d.config.minimum
      → shown (kept.chunk_rules hash h.shards.epochs)
      (kept.kept_came (kept.with_chunk h.shards.kept c x)) d
      ≡ first_some (shown_under d) showing)
      → new
      ≡ record h {
        tally = with_row h.epochs h.id h.tally c x.index;
        shards = record {
          epochs = h.shards.epochs;
          kept = kept.with_chunk h.shards.kept c x;
        };
        arrivals = h.arrivals ++ record { commitment = c; block = None } ∷ [];
        shown = showing;
      }
      → HasCome hash accepts (take_part (came_of h) true (Row c x)) h new
  came_row h new c x showing s fresh tally chunks shows is =
      subst (λ (n : Holding D A). HasCome hash accepts (take_part (came_of h) true (Row c x)) h n)
      (sym is) (record {
        stands = record {
          epochs = s.epochs;
          backlog = s.backlog;
          running = s.running;
          id = s.id;
          tally =
              subst
              (λ (came : Came). voter.IsTallyOf hash (with_row h.epochs h.id h.tally c x.index)
              (rules_of hash accepts h) (voter.with_came (own_state h) came))
              (sym same) tally;
          shards =
              subst
              (λ (came : Came). shards.StandsFor hash
              (record { epochs = h.shards.epochs; kept = more }) (cut_rules hash accepts h) came)
              (sym same) chunks;
          rows =
              count_behind h.arrivals (w ∷ [])
              ∙ (ap (λ n. n + 1) s.rows ∙ sym (length-append h.shards.kept (k ∷ [])));
          named =
              ap (map (part_commitment (rules_of hash accepts h))) parts
              ∙ (map_behind (part_commitment (rules_of hash accepts h)) (came_of h).parts
              (Row c x ∷ [])
              ∙ (ap (λ l. l ++ c ∷ []) s.named
              ∙ sym (map_behind (λ (a : Arrival). a.commitment) h.arrivals (w ∷ []))));
          shown = shows;
        };
        taken = same;
        same =
            record {
              travel = refl;
              id = refl;
              epochs = refl;
              backlog = refl;
              app = refl;
              store = refl;
              log = refl;
            };
      })
    where
      w : Arrival
      w = record { commitment = c; block = None }

      k : KeptChunk
      k = record { commitment = c; chunk = x }

      more : List KeptChunk
      more = kept.with_chunk h.shards.kept c x

      parts : parts_of (h.arrivals ++ w ∷ []) more ≡ (came_of h).parts ++ Row c x ∷ []
      parts = parts_row h.arrivals h.shards.kept c x s.rows

      same : record {
        ballots = h.tally.ballots;
        parts = parts_of (h.arrivals ++ w ∷ []) more;
        wishes = h.wishes;
      }
          ≡ take_part (came_of h) true (Row c x)
      same =
          ap (λ (l : List Part). record {
            ballots = h.tally.ballots;
            parts = l;
            wishes = h.wishes;
          }) parts
          ∙ rw fresh refl
