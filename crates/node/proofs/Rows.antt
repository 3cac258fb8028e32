-- A chunk that comes leaves a node that stands for its member.
use Rattle.std.proofs.Common.{◌≡◌, ◌↔◌, ℕ, ◌<◌, ◌+◌, ◌⊎◌, inl, inr, ⊎_elim, append-nil, cond, eq-eqb, eqb-true, Bool, true, false, ◌&&◌, ◌==◌, List, [], ◌∷◌, ◌++◌, length, take, Option, Some, None, option_and_then, refl, sym, ◌∙◌, ap, subst, IsTrue, IsFalse, arith}
use Rattle.std.specs.Prelude.{position}
use Rattle.std.specs.List.{list_any}
use Rattle.std.specs.Option.{option_map_or, option_or}
use Rattle.cw_base.specs.declared.hash.Digest32.{Digest32}
use Rattle.std.proofs.lemmas.Bool.{false_from_ne_true, false≢true}
use Rattle.std.proofs.lemmas.List.{take_all}
use Rattle.shards.proofs.Lists.{any_epoch}
use Rattle.cw_types.specs.Epochs.{Epochs, list_of, place}
use Rattle.cw_types.specs.Block.{Block}
use Rattle.cw_types.specs.Same.{same_commitment}
use Rattle.cw_types.specs.declared.commitment.Commitment.{Commitment}
use Rattle.cw_rules.specs.Accepted.{Came, Row, State, first_some, is_chunk_of, same_part, take_part}
use Rattle.cw_rules.specs.Held.{if_committed, shown}
use Rattle.cw_rules.specs.Rules.{Chunk, Rules, block_of}
use Rattle.shards.specs.Kept as kept
use Rattle.shards.specs.Standing as shards
use Rattle.shards.specs.Verdicts.{gathered_after, kept_after, kept_verdict, verdict}
use Rattle.shards.specs.declared.pieces.KeptChunk.{KeptChunk}
use Rattle.shards.specs.declared.verdict.Verdict.{Verdict}
use Rattle.shards.specs.declared.verdict.Verdict.TheVariants.{Foreign, Garbage, Held, Kept, Known}
use Rattle.voter.specs.Known as tally
use Rattle.voter.specs.Known.{with_own}
use Rattle.voter.specs.Standing as voter
use Rattle.node.proofs.Accepting.{came_nothing, came_row}
use Rattle.cw_types.proofs.Same.{same_commitment-true}
use Rattle.cw_rules.proofs.Lists.{first_of_both}
use Rattle.node.specs.Accepting.{is_new_row, is_own_place, with_row}
use Rattle.node.specs.Holding.{Holding, came_of, cut_rules, own_state, rules_of, shown_under}
use Rattle.node.specs.Standing.{HasCome, PartsStand}
use Rattle.node.specs.declared.arrival.Shown.{Shown}

-- an index that is the member's place in no list is its place in no epoch
no_place : (lists : List (List ℕ)) (id index : ℕ)
    → list_any (λ list. option_map_or (λ at. at == index) (position (λ j. j == id) list) false)
    lists
    ≡ false
    → (epoch : ℕ) → position (λ j. j == id) (list_of lists epoch) ≡ Some index → ⊥
no_place [] id index none epoch at = cc
no_place (list ∷ lists) id index none epoch at =
    let test : option_map_or (λ i. i == index)
    (position (λ j. j == id) (list_of (list ∷ lists) epoch)) false
    ≡ true =
    rw at (eq-eqb index index refl) in
    false≢true
    (sym none
    ∙ any_epoch (λ l. option_map_or (λ i. i == index) (position (λ j. j == id) l) false)
    (list ∷ lists) epoch (omega arith) test)

-- what the tally is told of a chunk
pub row_told : (x : Epochs) (id : ℕ) (t : tally.Known) (c : Commitment) (index : ℕ)
    → is_own_place x id index ≡ true → with_own t c index ≡ with_row x id t c index
row_told x id t c index e =
    λ i. record {
      epochs = t.epochs;
      id = t.id;
      notes = t.notes;
      ballots = t.ballots;
      own = t.own ++ cond (sym e i) (record { commitment = c; index = index } ∷ []) [];
    }

pub row_untold : (x : Epochs) (id : ℕ) (t : tally.Known) (c : Commitment) (index : ℕ)
    → is_own_place x id index ≡ false → t ≡ with_row x id t c index
row_untold x id t c index e =
    λ i. record {
      epochs = t.epochs;
      id = t.id;
      notes = t.notes;
      ballots = t.ballots;
      own =
          (sym (append-nil t.own)
          ∙ (λ j. t.own ++ cond (sym e j) (record { commitment = c; index = index } ∷ []) []))
          i;
    }

-- and so it stands for the member
pub row_stands : (hash : List ℕ → Digest32) (t : tally.Known) (r : Rules) (s : State) (x : Epochs)
    (id : ℕ) (c : Commitment) (index : ℕ)
    → t.epochs ≡ x → t.id ≡ id
    → voter.IsTallyOf hash (with_own t c index) r s
    → (((epoch : ℕ) → place t.epochs epoch t.id ≡ Some index → ⊥) → voter.IsTallyOf hash t r s)
    → voter.IsTallyOf hash (with_row x id t c index) r s
row_stands hash t r s x id c index epochs same own other = go (is_own_place x id index) refl
  where
    go : (b : Bool) → is_own_place x id index ≡ b
        → voter.IsTallyOf hash (with_row x id t c index) r s
    go true e =
        subst (λ (u : tally.Known). voter.IsTallyOf hash u r s) (row_told x id t c index e) own
    go false e =
        subst (λ (u : tally.Known). voter.IsTallyOf hash u r s) (row_untold x id t c index e)
        (other
        (λ epoch at. no_place x.lists id index e epoch
        ((λ i. place (sym epochs i) epoch (sym same i)) ∙ at)))

-- a chunk that isn't known and isn't foreign is new, and the rules take it
pub taken_by : (r : Rules) (ks : List KeptChunk) (c : Commitment) (x : Chunk)
    → (verdict r ks c x ≡ Known → ⊥) → (verdict r ks c x ≡ Foreign → ⊥)
    → (kept.is_kept_chunk ks c x ≡ false) × (is_chunk_of r c x ≡ true)
taken_by r ks c x known foreign = go (kept.is_kept_chunk ks c x) refl (is_chunk_of r c x) refl
  where
    go : (a : Bool) → kept.is_kept_chunk ks c x ≡ a → (b : Bool) → is_chunk_of r c x ≡ b
        → (kept.is_kept_chunk ks c x ≡ false) × (is_chunk_of r c x ≡ true)
    go true e b f = absurd (known (rw e refl))
    go false e true f = (e, f)
    go false e false f = absurd (foreign (rw (e, f) refl))

kept_so : (r : Rules) (ks : List KeptChunk) (c : Commitment) (x : Chunk)
    → kept.is_kept_chunk ks c x ≡ false → is_chunk_of r c x ≡ true
    → kept_after r ks c x ≡ kept.with_chunk ks c x
kept_so r ks c x e f = rw (e, f) refl

same_kept : (r : Rules) (ks : List KeptChunk) (c : Commitment) (x : Chunk)
    → (verdict r ks c x ≡ Known) ⊎ (verdict r ks c x ≡ Foreign) → kept_after r ks c x ≡ ks
same_kept r ks c x told = go (kept.is_kept_chunk ks c x) refl (is_chunk_of r c x) refl told
  where
    never : (v : Verdict) → (Known ≡ v) ⊎ (Foreign ≡ v) → (b : Bool) → v ≡ kept_verdict r ks c x
        → (length (kept.chunks_of c ks) + 1 == c.config.minimum) ≡ b → ⊥
    never v t false e f =
        ⊎_elim (λ k. let z : Known ≡ Kept = k ∙ (e ∙ rw f refl) in cc)
        (λ k. let z : Foreign ≡ Kept = k ∙ (e ∙ rw f refl) in cc) t
    never v t true e f = shownly (shown r (kept.kept_came (kept.with_chunk ks c x)) c) refl
      where
        shownly : (o : Option Block) → shown r (kept.kept_came (kept.with_chunk ks c x)) c ≡ o → ⊥
        shownly (Some b) g =
            ⊎_elim (λ k. let z : Known ≡ Held b = k ∙ (e ∙ rw (f, g) refl) in cc)
            (λ k. let z : Foreign ≡ Held b = k ∙ (e ∙ rw (f, g) refl) in cc) t
        shownly None g =
            ⊎_elim (λ k. let z : Known ≡ Garbage = k ∙ (e ∙ rw (f, g) refl) in cc)
            (λ k. let z : Foreign ≡ Garbage = k ∙ (e ∙ rw (f, g) refl) in cc) t

    go : (a : Bool) → kept.is_kept_chunk ks c x ≡ a → (b : Bool) → is_chunk_of r c x ≡ b
        → (verdict r ks c x ≡ Known) ⊎ (verdict r ks c x ≡ Foreign) → kept_after r ks c x ≡ ks
    go true e b f t = rw e refl
    go false e false f t = rw (e, f) refl
    go false e true f t =
        absurd
        (never (kept_verdict r ks c x)
        (⊎_elim (λ k. inl (sym k ∙ rw (e, f) refl)) (λ k. inr (sym k ∙ rw (e, f) refl)) t)
        (length (kept.chunks_of c ks) + 1 == c.config.minimum) refl refl)

or_none : {X : Type 0} (o : Option X) → option_or o None ≡ o
or_none (Some x) = refl
or_none None = refl

-- before a chunk by which a block is held nothing is shown
before_none : (hash : List ℕ → Digest32) (epochs : Epochs) (ks : List KeptChunk) (c : Commitment)
    (x : Chunk) (b : Block)
    → shown (kept.chunk_rules hash epochs) (kept.kept_came ks) c
    ≡ option_and_then (if_committed (kept.chunk_rules hash epochs) c)
    (block_of (kept.chunk_rules hash epochs) c.config
    (take c.config.minimum (kept.chunks_of c ks)))
    → kept.is_kept_chunk ks c x ≡ false → is_chunk_of (kept.chunk_rules hash epochs) c x ≡ true
    → verdict (kept.chunk_rules hash epochs) ks c x ≡ Held b
    → shown (kept.chunk_rules hash epochs) (kept.kept_came ks) c ≡ None
before_none hash epochs ks c x b first e f told =
    go (length (kept.chunks_of c ks) + 1 == c.config.minimum) refl
  where
    short : (length (kept.chunks_of c ks) + 1 == c.config.minimum) ≡ true
        → (length (kept.chunks_of c ks) == c.config.minimum) ≡ false
    short t =
        false_from_ne_true (length (kept.chunks_of c ks) == c.config.minimum)
        (λ h. let p = eqb-true (length (kept.chunks_of c ks)) c.config.minimum h in
        let q = eqb-true (length (kept.chunks_of c ks) + 1) c.config.minimum t in
        omega arith)

    all : (length (kept.chunks_of c ks) + 1 == c.config.minimum) ≡ true
        → take c.config.minimum (kept.chunks_of c ks) ≡ kept.chunks_of c ks
    all t =
        let q = eqb-true (length (kept.chunks_of c ks) + 1) c.config.minimum t in
        take_all c.config.minimum (kept.chunks_of c ks) (omega arith)

    go : (t : Bool) → (length (kept.chunks_of c ks) + 1 == c.config.minimum) ≡ t
        → shown (kept.chunk_rules hash epochs) (kept.kept_came ks) c ≡ None
    go true t = first ∙ rw (all t) (rw (short t) refl)
    go false t = let z : Kept ≡ Held b = rw (e, f, t) at told in cc

and_false : (b : Bool) → (b && false) ≡ false
and_false true = refl
and_false false = refl

module _ {D A : Type 0} (hash : List ℕ → Digest32) (accepts : A → Block → Block → Bool)
    (h : Holding D A) (s : PartsStand hash accepts h) (c : Commitment) (x : Chunk) where
  -- the rules of the kept chunks take a chunk as those of the node do
  pub same_test : is_chunk_of (cut_rules hash accepts h) c x
      ≡ is_chunk_of (kept.chunk_rules hash h.shards.epochs) c x
  same_test = ap (λ q. is_chunk_of q c x) s.shards.rules

  -- it came before, or the rules don't take it
  pub row_none : (new : Holding D A)
      → ((verdict (kept.chunk_rules hash h.shards.epochs) h.shards.kept c x ≡ Known) ↔ IsTrue
      (list_any (same_part (Row c x)) (came_of h).parts))
      → ((verdict (kept.chunk_rules hash h.shards.epochs) h.shards.kept c x ≡ Foreign) ↔
      (IsFalse (list_any (same_part (Row c x)) (came_of h).parts)
      × IsFalse (is_chunk_of (cut_rules hash accepts h) c x)))
      → (verdict (kept.chunk_rules hash h.shards.epochs) h.shards.kept c x ≡ Known)
      ⊎ (verdict (kept.chunk_rules hash h.shards.epochs) h.shards.kept c x ≡ Foreign)
      → new ≡ record h
      { shards = gathered_after (kept.chunk_rules hash h.shards.epochs) h.shards c x }
      → HasCome hash accepts
      (take_part (came_of h) (is_chunk_of (cut_rules hash accepts h) c x) (Row c x)) h new
      × (false ≡ is_new_row (cut_rules hash accepts h) (came_of h) c x)
  row_none new known foreign told is = (
    subst (λ (came : Came). HasCome hash accepts came h new) (sym nothing)
        (subst (λ (n : Holding D A). HasCome hash accepts (came_of h) h n)
        (sym
        (is
        ∙ ap
        (λ (ks : List KeptChunk). record h {
          shards = record {
            epochs = h.shards.epochs;
            kept = ks;
          };
        })
        (same_kept (kept.chunk_rules hash h.shards.epochs) h.shards.kept c x told)))
        (came_nothing hash accepts h s)),
    sym refused,
  )
    where
      refused : is_new_row (cut_rules hash accepts h) (came_of h) c x ≡ false
      refused =
          ⊎_elim (λ k. rw (known.0 k) (and_false (is_chunk_of (cut_rules hash accepts h) c x)))
          (λ k. rw ((foreign.0 k).1) refl) told

      nothing : take_part (came_of h) (is_chunk_of (cut_rules hash accepts h) c x) (Row c x)
          ≡ came_of h
      nothing = rw refused refl

  -- it is kept
  pub row_some : (new : Holding D A) (showing : List Shown)
      → ((verdict (kept.chunk_rules hash h.shards.epochs) h.shards.kept c x ≡ Known) ↔ IsTrue
      (list_any (same_part (Row c x)) (came_of h).parts))
      → ((verdict (kept.chunk_rules hash h.shards.epochs) h.shards.kept c x ≡ Foreign) ↔
      (IsFalse (list_any (same_part (Row c x)) (came_of h).parts)
      × IsFalse (is_chunk_of (cut_rules hash accepts h) c x)))
      → (verdict (kept.chunk_rules hash h.shards.epochs) h.shards.kept c x ≡ Known → ⊥)
      → (verdict (kept.chunk_rules hash h.shards.epochs) h.shards.kept c x ≡ Foreign → ⊥)
      → voter.IsTallyOf hash (with_row h.epochs h.id h.tally c x.index) (rules_of hash accepts h)
      (voter.with_came (own_state h) (take_part (came_of h) true (Row c x)))
      → shards.StandsFor hash (gathered_after (kept.chunk_rules hash h.shards.epochs) h.shards c x)
      (cut_rules hash accepts h)
      (take_part (came_of h) (is_chunk_of (cut_rules hash accepts h) c x) (Row c x))
      → ((d : Commitment) → 0 < d.config.minimum
      → shown (kept.chunk_rules hash h.shards.epochs)
      (kept.kept_came (kept_after (kept.chunk_rules hash h.shards.epochs) h.shards.kept c x)) d
      ≡ first_some (shown_under d) showing)
      → new
      ≡ record h {
        shards = gathered_after (kept.chunk_rules hash h.shards.epochs) h.shards c x;
        tally = with_row h.epochs h.id h.tally c x.index;
        arrivals = h.arrivals ++ record { commitment = c; block = None } ∷ [];
        shown = showing;
      }
      → HasCome hash accepts
      (take_part (came_of h) (is_chunk_of (cut_rules hash accepts h) c x) (Row c x)) h new
      × (true ≡ is_new_row (cut_rules hash accepts h) (came_of h) c x)
  row_some new showing known foreign unknown taken tally chunks shows is = (
    subst (λ (t : Bool). HasCome hash accepts (take_part (came_of h) t (Row c x)) h new) (sym test)
        (came_row hash accepts h new c x showing s fresh tally
        (subst
        (λ (ks : List KeptChunk). shards.StandsFor hash
        (record { epochs = h.shards.epochs; kept = ks }) (cut_rules hash accepts h)
        (take_part (came_of h) true (Row c x)))
        so
        (subst
        (λ (t : Bool). shards.StandsFor hash
        (gathered_after (kept.chunk_rules hash h.shards.epochs) h.shards c x)
        (cut_rules hash accepts h) (take_part (came_of h) t (Row c x)))
        test chunks))
        (λ d m. ap
        (λ (ks : List KeptChunk). shown (kept.chunk_rules hash h.shards.epochs) (kept.kept_came ks)
        d)
        (sym so)
        ∙ shows d m)
        (is
        ∙ ap
        (λ (ks : List KeptChunk). record h {
          shards = record { epochs = h.shards.epochs; kept = ks };
          tally = with_row h.epochs h.id h.tally c x.index;
          arrivals = h.arrivals ++ record { commitment = c; block = None } ∷ [];
          shown = showing;
        })
        so)),
    sym (rw (test, fresh) refl),
  )
    where
      both : (kept.is_kept_chunk h.shards.kept c x ≡ false)
          × (is_chunk_of (kept.chunk_rules hash h.shards.epochs) c x ≡ true)
      both = taken_by (kept.chunk_rules hash h.shards.epochs) h.shards.kept c x unknown taken

      test : is_chunk_of (cut_rules hash accepts h) c x ≡ true
      test = same_test ∙ both.1

      fresh : list_any (same_part (Row c x)) (came_of h).parts ≡ false
      fresh =
          false_from_ne_true (list_any (same_part (Row c x)) (came_of h).parts)
          (λ t. unknown (known.1 t))

      so : kept_after (kept.chunk_rules hash h.shards.epochs) h.shards.kept c x
          ≡ kept.with_chunk h.shards.kept c x
      so = kept_so (kept.chunk_rules hash h.shards.epochs) h.shards.kept c x both.0 both.1

  -- what is shown then, by a chunk by which no block is held
  pub shows_same :
      ((d : Commitment)
      → shown (kept.chunk_rules hash h.shards.epochs)
      (kept.kept_came (kept_after (kept.chunk_rules hash h.shards.epochs) h.shards.kept c x)) d
      ≡ shown (kept.chunk_rules hash h.shards.epochs) (kept.kept_came h.shards.kept) d)
      → (d : Commitment) → 0 < d.config.minimum
      → shown (kept.chunk_rules hash h.shards.epochs)
      (kept.kept_came (kept_after (kept.chunk_rules hash h.shards.epochs) h.shards.kept c x)) d
      ≡ first_some (shown_under d) h.shown
  shows_same law d m = law d ∙ s.shown d m

  -- and by one by which a block is held
  pub shows_held : (b : Block)
      → verdict (kept.chunk_rules hash h.shards.epochs) h.shards.kept c x ≡ Held b
      → shown (kept.chunk_rules hash h.shards.epochs) (kept.kept_came h.shards.kept) c
      ≡ option_and_then (if_committed (kept.chunk_rules hash h.shards.epochs) c)
      (block_of (kept.chunk_rules hash h.shards.epochs) c.config
      (take c.config.minimum (kept.chunks_of c h.shards.kept)))
      → shown (kept.chunk_rules hash h.shards.epochs)
      (kept.kept_came (kept_after (kept.chunk_rules hash h.shards.epochs) h.shards.kept c x ++ []))
      c
      ≡ Some b
      → ((d : Commitment) → IsFalse (same_commitment d c)
      → shown (kept.chunk_rules hash h.shards.epochs)
      (kept.kept_came (kept_after (kept.chunk_rules hash h.shards.epochs) h.shards.kept c x)) d
      ≡ shown (kept.chunk_rules hash h.shards.epochs) (kept.kept_came h.shards.kept) d)
      → (d : Commitment) → 0 < d.config.minimum
      → shown (kept.chunk_rules hash h.shards.epochs)
      (kept.kept_came (kept_after (kept.chunk_rules hash h.shards.epochs) h.shards.kept c x)) d
      ≡ first_some (shown_under d) (h.shown ++ record { commitment = c; block = b } ∷ [])
  shows_held b told first held others d m = go (same_commitment d c) refl
    where
      both : (kept.is_kept_chunk h.shards.kept c x ≡ false)
          × (is_chunk_of (kept.chunk_rules hash h.shards.epochs) c x ≡ true)
      both =
          taken_by (kept.chunk_rules hash h.shards.epochs) h.shards.kept c x
          (λ k. let z : Known ≡ Held b = sym k ∙ told in cc)
          (λ k. let z : Foreign ≡ Held b = sym k ∙ told in cc)

      now : shown (kept.chunk_rules hash h.shards.epochs)
          (kept.kept_came (kept_after (kept.chunk_rules hash h.shards.epochs) h.shards.kept c x)) c
          ≡ Some b
      now =
          ap
          (λ (ks : List KeptChunk). shown (kept.chunk_rules hash h.shards.epochs)
          (kept.kept_came ks)
          c)
          (sym (append-nil (kept_after (kept.chunk_rules hash h.shards.epochs) h.shards.kept c x)))
          ∙ held

      before : shown (kept.chunk_rules hash h.shards.epochs) (kept.kept_came h.shards.kept) c ≡ None
      before = before_none hash h.shards.epochs h.shards.kept c x b first both.0 both.1 told

      go : (t : Bool) → same_commitment d c ≡ t
          → shown (kept.chunk_rules hash h.shards.epochs)
          (kept.kept_came (kept_after (kept.chunk_rules hash h.shards.epochs) h.shards.kept c x)) d
          ≡ first_some (shown_under d) (h.shown ++ record { commitment = c; block = b } ∷ [])
      go true t =
          let e = same_commitment-true d c t in
          let at =
          ap
          (λ (k : Commitment). shown (kept.chunk_rules hash h.shards.epochs)
          (kept.kept_came
          (kept_after (kept.chunk_rules hash h.shards.epochs) h.shards.kept c x))
          k)
          e
          ∙ now in
          let was =
          ap
          (λ (k : Commitment). shown (kept.chunk_rules hash h.shards.epochs)
          (kept.kept_came h.shards.kept) k)
          e
          ∙ before in
          let none : first_some (shown_under d) h.shown ≡ None = sym (s.shown d m) ∙ was in
          at
          ∙ sym
          (first_of_both (shown_under d) h.shown (record { commitment = c; block = b } ∷ [])
          ∙ rw (none, t) refl)
      go false t =
          others d t
          ∙ (s.shown d m
          ∙ sym
          (first_of_both (shown_under d) h.shown (record { commitment = c; block = b } ∷ [])
          ∙ rw t (or_none (first_some (shown_under d) h.shown))))
