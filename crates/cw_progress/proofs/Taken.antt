-- What a member has accepted after an event.
use Rattle.std.proofs.Common.{◌≡◌, ℕ, Bool, true, false, ◌&&◌, not, cond, List, [], ◌∷◌, ◌++◌, Option, Some, None, refl, sym, ◌∙◌, ap, subst, inl, inr, ◌⊎◌}
use Rattle.std.specs.List.{list_any}
use Rattle.std.specs.Option.{option_map_or}
use Rattle.std.proofs.lemmas.Bool.{and_from, and_parts, cases_Bool, cond-true, cond-false, false≢true, not-true, or_cases}
use Rattle.cw_types.specs.declared.commitment.Commitment.{Commitment}
use Rattle.cw_types.specs.declared.event.Event.{Event}
use Rattle.cw_types.specs.declared.message.Message.{Message}
use Rattle.cw_types.specs.declared.vote.Cert.{Cert}
use Rattle.cw_types.specs.declared.vote.Proposal.{Proposal}
use Rattle.cw_types.specs.declared.vote.Vote.{Vote}
use Rattle.cw_types.specs.Block.{Block}
use Rattle.cw_types.specs.Epochs.{is_member}
use Rattle.cw_types.specs.Same.{same_block, same_cert}
use Rattle.cw_types.specs.Votes.{finalized, vote_epoch, well_formed}
use Rattle.cw_types.proofs.Same.{same_block-true, same_cert-true}
use Rattle.cw_rules.specs.Accepted.{Ballot, Came, Many, Part, Row, Single, Whole, accepted, add_wish, is_chunk_of, is_valid, same_ballot, same_part, take_ballot, take_part, wish_for}
use Rattle.cw_rules.specs.Reached.{In, IsSigned}
use Rattle.cw_rules.specs.Rules.{Chunk, Rules}
use Rattle.cw_rules.specs.Step.{taken_came}
use Rattle.cw_rules.proofs.Lists.{in_cases, in_left, in_right}

-- ---- a ballot

-- what is among the ballots after one more
pub ballot_from : (came : Came) (fits : Bool) (b x : Ballot)
    → In x (take_ballot came fits b).ballots → In x came.ballots ⊎ ((x ≡ b) × (fits ≡ true))
ballot_from came fits b x h = go (cases_Bool test) h
  where
    test : Bool
    test = fits && not (list_any (same_ballot b) came.ballots)

    by_end : fits ≡ true → In x came.ballots ⊎ In x (b ∷ [])
        → In x came.ballots ⊎ ((x ≡ b) × (fits ≡ true))
    by_end f (inl a) = inl a
    by_end f (inr (inl e)) = inr (e, f)
    by_end f (inr (inr a)) = absurd a

    go : (test ≡ true) ⊎ (test ≡ false)
        → In x (cond test (record {
          ballots = came.ballots ++ b ∷ [];
          parts = came.parts;
          wishes = came.wishes;
        }) came).ballots
        → In x came.ballots ⊎ ((x ≡ b) × (fits ≡ true))
    go (inl t) h =
        by_end (and_parts fits (not (list_any (same_ballot b) came.ballots)) t).0
        (in_cases x came.ballots (b ∷ [])
        (subst (λ (c : Came). In x c.ballots)
        (cond-true test (record {
          ballots = came.ballots ++ b ∷ [];
          parts = came.parts;
          wishes = came.wishes;
        }) came t)
        h))
    go (inr f) h =
        inl
        (subst (λ (c : Came). In x c.ballots)
        (cond-false test (record {
          ballots = came.ballots ++ b ∷ [];
          parts = came.parts;
          wishes = came.wishes;
        }) came f)
        h)

-- the ballots before are among them
pub ballot_in : (came : Came) (fits : Bool) (b x : Ballot) → In x came.ballots
    → In x (take_ballot came fits b).ballots
ballot_in came fits b x h = go (fits && not (list_any (same_ballot b) came.ballots))
  where
    go : (t : Bool)
        → In x (cond t (record {
          ballots = came.ballots ++ b ∷ [];
          parts = came.parts;
          wishes = came.wishes;
        }) came).ballots
    go true = in_left x came.ballots (b ∷ []) h
    go false = h

-- a certificate that fits is among them
cert_among : (s : Cert) (bs : List Ballot) → list_any (same_ballot (Many s)) bs ≡ true
    → In (Many s) bs
cert_among s [] h = absurd (false≢true h)
cert_among s (Single i v ∷ bs) h = inr (cert_among s bs h)
cert_among s (Many t ∷ bs) h =
    go (or_cases (same_cert s t) (list_any (same_ballot (Many s)) bs) h) (cert_among s bs)
  where
    go : (same_cert s t ≡ true) ⊎ (list_any (same_ballot (Many s)) bs ≡ true)
        → (list_any (same_ballot (Many s)) bs ≡ true → In (Many s) bs) → In (Many s) (Many t ∷ bs)
    go (inl e) later = inl (ap Many (same_cert-true s t e))
    go (inr e) later = inr (later e)

pub cert_taken : (came : Came) (fits : Bool) (s : Cert) → fits ≡ true
    → In (Many s) (take_ballot came fits (Many s)).ballots
cert_taken came fits s f = go (list_any (same_ballot (Many s)) came.ballots) refl
  where
    more : Came
    more =
        record {
          ballots = came.ballots ++ Many s ∷ [];
          parts = came.parts;
          wishes = came.wishes;
        }

    go : (t : Bool) → list_any (same_ballot (Many s)) came.ballots ≡ t
        → In (Many s) (take_ballot came fits (Many s)).ballots
    go true e =
        ballot_in came fits (Many s) (Many s) (cert_among s came.ballots e)
    go false e =
        subst (λ (c : Came). In (Many s) c.ballots)
        (sym
        (cond-true (fits && not (list_any (same_ballot (Many s)) came.ballots)) more came
        (and_from fits (not (list_any (same_ballot (Many s)) came.ballots)) f (ap not e))))
        (in_right (Many s) came.ballots (Many s ∷ []) (inl refl))

-- a ballot leaves the parts and the wishes
ballot_parts : (came : Came) (fits : Bool) (b : Ballot)
    → (take_ballot came fits b).parts ≡ came.parts
ballot_parts came fits b = go (fits && not (list_any (same_ballot b) came.ballots))
  where
    go : (t : Bool)
        → (cond t (record {
          ballots = came.ballots ++ b ∷ [];
          parts = came.parts;
          wishes = came.wishes;
        }) came).parts
        ≡ came.parts
    go true = refl
    go false = refl

ballot_wishes : (came : Came) (fits : Bool) (b : Ballot)
    → (take_ballot came fits b).wishes ≡ came.wishes
ballot_wishes came fits b = go (fits && not (list_any (same_ballot b) came.ballots))
  where
    go : (t : Bool)
        → (cond t (record {
          ballots = came.ballots ++ b ∷ [];
          parts = came.parts;
          wishes = came.wishes;
        }) came).wishes
        ≡ came.wishes
    go true = refl
    go false = refl

-- ---- a part

pub part_from : (came : Came) (fits : Bool) (p x : Part)
    → In x (take_part came fits p).parts
    → In x came.parts
    ⊎ ((x ≡ p) × (fits ≡ true) × (list_any (same_part p) came.parts ≡ false))
part_from came fits p x h = go (cases_Bool test) h
  where
    more : Came
    more =
        record { ballots = came.ballots; parts = came.parts ++ p ∷ []; wishes = came.wishes }

    test : Bool
    test = fits && not (list_any (same_part p) came.parts)

    by_end : (fits ≡ true) × (list_any (same_part p) came.parts ≡ false)
        → In x came.parts ⊎ In x (p ∷ [])
        → In x came.parts
        ⊎ ((x ≡ p) × (fits ≡ true) × (list_any (same_part p) came.parts ≡ false))
    by_end f (inl a) = inl a
    by_end f (inr (inl e)) = inr (e, f.0, f.1)
    by_end f (inr (inr a)) = absurd a

    go : (test ≡ true) ⊎ (test ≡ false) → In x (cond test more came).parts
        → In x came.parts
        ⊎ ((x ≡ p) × (fits ≡ true) × (list_any (same_part p) came.parts ≡ false))
    go (inl t) h =
        let a = and_parts fits (not (list_any (same_part p) came.parts)) t in
        by_end (a.0, not-true (list_any (same_part p) came.parts) a.1)
        (in_cases x came.parts (p ∷ [])
        (subst (λ (c : Came). In x c.parts) (cond-true test more came t) h))
    go (inr f) h = inl (subst (λ (c : Came). In x c.parts) (cond-false test more came f) h)

-- a part leaves the ballots
pub part_ballots : (came : Came) (fits : Bool) (p : Part)
    → (take_part came fits p).ballots ≡ came.ballots
part_ballots came fits p = go (fits && not (list_any (same_part p) came.parts))
  where
    go : (t : Bool)
        → (cond t (record {
          ballots = came.ballots;
          parts = came.parts ++ p ∷ [];
          wishes = came.wishes;
        }) came).ballots
        ≡ came.ballots
    go true = refl
    go false = refl

part_wishes : (came : Came) (fits : Bool) (p : Part)
    → (take_part came fits p).wishes ≡ came.wishes
part_wishes came fits p = go (fits && not (list_any (same_part p) came.parts))
  where
    go : (t : Bool)
        → (cond t (record {
          ballots = came.ballots;
          parts = came.parts ++ p ∷ [];
          wishes = came.wishes;
        }) came).wishes
        ≡ came.wishes
    go true = refl
    go false = refl

-- a whole block is among the parts
block_among : (b : Block) (ps : List Part) → list_any (same_part (Whole b)) ps ≡ true
    → In (Whole b) ps
block_among b [] h = absurd (false≢true h)
block_among b (Row c x ∷ ps) h = inr (block_among b ps h)
block_among b (Whole a ∷ ps) h =
    go (or_cases (same_block b a) (list_any (same_part (Whole b)) ps) h) (block_among b ps)
  where
    go : (same_block b a ≡ true) ⊎ (list_any (same_part (Whole b)) ps ≡ true)
        → (list_any (same_part (Whole b)) ps ≡ true → In (Whole b) ps)
        → In (Whole b) (Whole a ∷ ps)
    go (inl e) later = inl (ap Whole (same_block-true b a e))
    go (inr e) later = inr (later e)

pub block_taken : (came : Came) (b : Block) → In (Whole b) (take_part came true (Whole b)).parts
block_taken came b = go (list_any (same_part (Whole b)) came.parts) refl
  where
    more : Came
    more =
        record {
          ballots = came.ballots;
          parts = came.parts ++ Whole b ∷ [];
          wishes = came.wishes;
        }

    go : (t : Bool) → list_any (same_part (Whole b)) came.parts ≡ t
        → In (Whole b) (cond (true && not t) more came).parts
    go true e = block_among b came.parts e
    go false e = in_right (Whole b) came.parts (Whole b ∷ []) (inl refl)

-- ---- an event

-- what is among the ballots after an event was there or is signed
pub ballots_taken : (r : Rules) (sign : ℕ → Vote → Bool) (came : Came) (e : Event) (x : Ballot)
    → In x (taken_came r sign came e).ballots → In x came.ballots ⊎ IsSigned r sign x
ballots_taken r sign came (Event.Deliver m) x h = by_message m h
  where
    by_message : (m : Message) → In x (accepted r sign came m).ballots
        → In x came.ballots ⊎ IsSigned r sign x
    by_message (Message.Vote i v) h =
        go
        (ballot_from came (is_member r.epochs (vote_epoch v) i && well_formed v && sign i v)
        (Single i v) x h)
      where
        go : In x came.ballots
            ⊎ ((x ≡ Single i v)
            × ((is_member r.epochs (vote_epoch v) i && well_formed v && sign i v) ≡ true))
            → In x came.ballots ⊎ IsSigned r sign x
        go (inl a) = inl a
        go (inr (e, t)) =
            inr
            (subst (IsSigned r sign) (sym e)
            (and_parts (is_member r.epochs (vote_epoch v) i && well_formed v) (sign i v) t).1)
    by_message (Message.Cert s) h = go (ballot_from came (is_valid r sign s) (Many s) x h)
      where
        go : In x came.ballots ⊎ ((x ≡ Many s) × (is_valid r sign s ≡ true))
            → In x came.ballots ⊎ IsSigned r sign x
        go (inl a) = inl a
        go (inr (e, t)) = inr (subst (IsSigned r sign) (sym e) t)
    by_message (Message.Shard c y) h =
        inl (subst (In x) (part_ballots came (is_chunk_of r c y) (Row c y)) h)
    by_message (Message.Block b) h = inl (subst (In x) (part_ballots came true (Whole b)) h)
    by_message _ h = inl h
ballots_taken r sign came (Event.Floor s) x h = by_proposal (finalized s.vote) h
  where
    by_valid : (p : Proposal) (t : Bool) → is_valid r sign s ≡ t
        → In x (cond t (add_wish (take_ballot came true (Many s)) p.payload) came).ballots
        → In x came.ballots ⊎ IsSigned r sign x
    by_valid p true t h = go (ballot_from came true (Many s) x h)
      where
        go : In x came.ballots ⊎ ((x ≡ Many s) × (true ≡ true))
            → In x came.ballots ⊎ IsSigned r sign x
        go (inl a) = inl a
        go (inr (e, u)) = inr (subst (IsSigned r sign) (sym e) t)
    by_valid p false t h = inl h

    by_proposal : (o : Option Proposal)
        → In x (option_map_or (wish_for r sign came s) o came).ballots
        → In x came.ballots ⊎ IsSigned r sign x
    by_proposal None h = inl h
    by_proposal (Some p) h = by_valid p (is_valid r sign s) refl h
ballots_taken r sign came _ x h = inl h

-- the ballots before stay
pub ballots_stay : (r : Rules) (sign : ℕ → Vote → Bool) (came : Came) (e : Event) (x : Ballot)
    → In x came.ballots → In x (taken_came r sign came e).ballots
ballots_stay r sign came (Event.Deliver m) x h = by_message m
  where
    by_message : (m : Message) → In x (accepted r sign came m).ballots
    by_message (Message.Vote i v) =
        ballot_in came (is_member r.epochs (vote_epoch v) i && well_formed v && sign i v)
        (Single i v) x h
    by_message (Message.Cert s) = ballot_in came (is_valid r sign s) (Many s) x h
    by_message (Message.Shard c y) =
        subst (In x) (sym (part_ballots came (is_chunk_of r c y) (Row c y))) h
    by_message (Message.Block b) = subst (In x) (sym (part_ballots came true (Whole b))) h
    by_message _ = h
ballots_stay r sign came (Event.Floor s) x h = by_proposal (finalized s.vote)
  where
    by_valid : (p : Proposal) (t : Bool)
        → In x (cond t (add_wish (take_ballot came true (Many s)) p.payload) came).ballots
    by_valid p true = ballot_in came true (Many s) x h
    by_valid p false = h

    by_proposal : (o : Option Proposal)
        → In x (option_map_or (wish_for r sign came s) o came).ballots
    by_proposal None = h
    by_proposal (Some p) = by_valid p (is_valid r sign s)
ballots_stay r sign came _ x h = h

-- what is wished for after an event was so before, or by a floor event's finalization, which is
-- among the ballots then
pub wishes_taken : (r : Rules) (sign : ℕ → Vote → Bool) (came : Came) (e : Event)
    (c : Commitment)
    → In c (taken_came r sign came e).wishes
    → In c came.wishes
    ⊎ ((s : Cert) × (p : Proposal) × (e ≡ Event.Floor s) × (finalized s.vote ≡ Some p)
    × (p.payload ≡ c) × In (Many s) (taken_came r sign came e).ballots)
wishes_taken r sign came (Event.Deliver m) c h = inl (by_message m h)
  where
    by_message : (m : Message) → In c (accepted r sign came m).wishes → In c came.wishes
    by_message (Message.Vote i v) h =
        subst (In c)
        (ballot_wishes came (is_member r.epochs (vote_epoch v) i && well_formed v && sign i v)
        (Single i v))
        h
    by_message (Message.Cert s) h =
        subst (In c) (ballot_wishes came (is_valid r sign s) (Many s)) h
    by_message (Message.Shard d y) h =
        subst (In c) (part_wishes came (is_chunk_of r d y) (Row d y)) h
    by_message (Message.Block b) h = subst (In c) (part_wishes came true (Whole b)) h
    by_message _ h = h
wishes_taken r sign came (Event.Floor s) c h = by_proposal (finalized s.vote) refl h
  where
    From : Option Proposal → Came → Type 0
    From o left =
        In c came.wishes
        ⊎ ((t : Cert) × (p : Proposal) × (Event.Floor s ≡ Event.Floor t)
        × (finalized t.vote ≡ Some p) × (p.payload ≡ c) × In (Many t) left.ballots)

    by_valid : (p : Proposal) (t : Bool) → finalized s.vote ≡ Some p
        → In c (cond t (add_wish (take_ballot came true (Many s)) p.payload) came).wishes
        → From (Some p) (cond t (add_wish (take_ballot came true (Many s)) p.payload) came)
    by_valid p true is h =
        go (in_cases c (take_ballot came true (Many s)).wishes (p.payload ∷ []) h)
      where
        go : In c (take_ballot came true (Many s)).wishes ⊎ In c (p.payload ∷ [])
            → From (Some p) (add_wish (take_ballot came true (Many s)) p.payload)
        go (inl a) = inl (subst (In c) (ballot_wishes came true (Many s)) a)
        go (inr (inl e)) = inr (s, p, refl, is, sym e, cert_taken came true s refl)
        go (inr (inr a)) = absurd a
    by_valid p false is h = inl h

    by_proposal : (o : Option Proposal) → finalized s.vote ≡ o
        → In c (option_map_or (wish_for r sign came s) o came).wishes
        → From o (option_map_or (wish_for r sign came s) o came)
    by_proposal None is h = inl h
    by_proposal (Some p) is h = by_valid p (is_valid r sign s) is h
wishes_taken r sign came (Event.Propose payload) c h = inl h
wishes_taken r sign came (Event.Timeout view) c h = inl h
wishes_taken r sign came Event.Ack c h = inl h
wishes_taken r sign came (Event.Prune x) c h = inl h
wishes_taken r sign came (Event.Hint x) c h = inl h
wishes_taken r sign came (Event.WatchDigest d) c h = inl h
wishes_taken r sign came (Event.WatchCommitment d) c h = inl h
wishes_taken r sign came (Event.Cancel number) c h = inl h

-- a chunk is there after an event that was there before, or that the event brought and that wasn't
pub chunks_taken : (r : Rules) (sign : ℕ → Vote → Bool) (came : Came) (e : Event)
    (c : Commitment) (x : Chunk)
    → In (Row c x) (taken_came r sign came e).parts
    → In (Row c x) came.parts
    ⊎ ((e ≡ Event.Deliver (Message.Shard c x)) × (is_chunk_of r c x ≡ true)
    × (list_any (same_part (Row c x)) came.parts ≡ false))
chunks_taken r sign came (Event.Deliver m) c x h = by_message m h
  where
    From : Message → Type 0
    From m =
        In (Row c x) came.parts
        ⊎ ((Event.Deliver m ≡ Event.Deliver (Message.Shard c x)) × (is_chunk_of r c x ≡ true)
        × (list_any (same_part (Row c x)) came.parts ≡ false))

    by_message : (m : Message) → In (Row c x) (accepted r sign came m).parts → From m
    by_message (Message.Vote i v) h =
        inl
        (subst (In (Row c x))
        (ballot_parts came (is_member r.epochs (vote_epoch v) i && well_formed v && sign i v)
        (Single i v))
        h)
    by_message (Message.Cert s) h =
        inl (subst (In (Row c x)) (ballot_parts came (is_valid r sign s) (Many s)) h)
    by_message (Message.Shard d y) h =
        go (part_from came (is_chunk_of r d y) (Row d y) (Row c x) h)
      where
        go : In (Row c x) came.parts
            ⊎ ((Row c x ≡ Row d y) × (is_chunk_of r d y ≡ true)
            × (list_any (same_part (Row d y)) came.parts ≡ false))
            → From (Message.Shard d y)
        go (inl a) = inl a
        go (inr (e, t, f)) =
            let one : c ≡ d = cc in
            let two : x ≡ y = cc in
            inr (
              (λ i. Event.Deliver (Message.Shard (sym one i) (sym two i))),
              ap (λ z. is_chunk_of r z x) one ∙ (ap (is_chunk_of r d) two ∙ t),
              ap (λ z. list_any (same_part z) came.parts) e ∙ f,
            )
    by_message (Message.Block b) h = go (part_from came true (Whole b) (Row c x) h)
      where
        go : In (Row c x) came.parts
            ⊎ ((Row c x ≡ Whole b) × (true ≡ true)
            × (list_any (same_part (Whole b)) came.parts ≡ false))
            → From (Message.Block b)
        go (inl a) = inl a
        go (inr (e, t, f)) = cc
    by_message (Message.Ask i d) h = inl h
    by_message (Message.AskHeight i y) h = inl h
    by_message (Message.Junk bytes) h = inl h
chunks_taken r sign came (Event.Floor s) c x h = inl (by_proposal (finalized s.vote) h)
  where
    by_valid : (p : Proposal) (t : Bool)
        → In (Row c x)
        (cond t (add_wish (take_ballot came true (Many s)) p.payload) came).parts
        → In (Row c x) came.parts
    by_valid p true h = subst (In (Row c x)) (ballot_parts came true (Many s)) h
    by_valid p false h = h

    by_proposal : (o : Option Proposal)
        → In (Row c x) (option_map_or (wish_for r sign came s) o came).parts
        → In (Row c x) came.parts
    by_proposal None h = h
    by_proposal (Some p) h = by_valid p (is_valid r sign s) h
chunks_taken r sign came (Event.Propose payload) c x h = inl h
chunks_taken r sign came (Event.Timeout view) c x h = inl h
chunks_taken r sign came Event.Ack c x h = inl h
chunks_taken r sign came (Event.Prune y) c x h = inl h
chunks_taken r sign came (Event.Hint y) c x h = inl h
chunks_taken r sign came (Event.WatchDigest d) c x h = inl h
chunks_taken r sign came (Event.WatchCommitment d) c x h = inl h
chunks_taken r sign came (Event.Cancel number) c x h = inl h

-- a whole block is there after a delivery that was there before, or that was delivered
pub wholes_taken : (r : Rules) (sign : ℕ → Vote → Bool) (came : Came) (m : Message) (a : Block)
    → In (Whole a) (taken_came r sign came (Event.Deliver m)).parts
    → In (Whole a) came.parts ⊎ (m ≡ Message.Block a)
wholes_taken r sign came (Message.Vote i v) a h =
    inl
    (subst (In (Whole a))
    (ballot_parts came (is_member r.epochs (vote_epoch v) i && well_formed v && sign i v)
    (Single i v))
    h)
wholes_taken r sign came (Message.Cert s) a h =
    inl (subst (In (Whole a)) (ballot_parts came (is_valid r sign s) (Many s)) h)
wholes_taken r sign came (Message.Shard c x) a h =
    go (part_from came (is_chunk_of r c x) (Row c x) (Whole a) h)
  where
    go : In (Whole a) came.parts
        ⊎ ((Whole a ≡ Row c x) × (is_chunk_of r c x ≡ true)
        × (list_any (same_part (Row c x)) came.parts ≡ false))
        → In (Whole a) came.parts ⊎ (Message.Shard c x ≡ Message.Block a)
    go (inl k) = inl k
    go (inr (e, t, f)) = cc e
wholes_taken r sign came (Message.Block b) a h =
    go (part_from came true (Whole b) (Whole a) h)
  where
    go : In (Whole a) came.parts
        ⊎ ((Whole a ≡ Whole b) × (true ≡ true)
        × (list_any (same_part (Whole b)) came.parts ≡ false))
        → In (Whole a) came.parts ⊎ (Message.Block b ≡ Message.Block a)
    go (inl k) = inl k
    go (inr (e, t, f)) = let one : a ≡ b = cc e in inr (ap Message.Block (sym one))
wholes_taken r sign came (Message.Ask i c) a h = inl h
wholes_taken r sign came (Message.AskHeight i x) a h = inl h
wholes_taken r sign came (Message.Junk bytes) a h = inl h
