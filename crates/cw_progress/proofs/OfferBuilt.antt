-- What a leader that is asked proposes, and what its notes are then.
use Rattle.std.proofs.Common.{◌≡◌, ℕ, ◌+◌, ◌-◌, ◌*◌, ◌<◌, ◌≤◌, ◌^◌, Bool, true, false, ◌&&◌, ◌==◌, not, cond, nat_le, nat_lt, List, [], ◌∷◌, ◌++◌, Option, Some, None, option_map, refl, sym, ◌∙◌, ap, subst, inl, inr, ◌⊎◌, arith, eq-eqb}
use Rattle.cw_base.specs.Config.{same_counts}
use Rattle.std.specs.Option.{option_map_or, option_or}
use Rattle.std.proofs.lemmas.Bool.{and_from, cases_Bool, cases_lt, cond-true, cond-false, false≢true, lt-ltb, or_left}
use Rattle.cw_types.specs.declared.commitment.Commitment.{Commitment}
use Rattle.cw_types.specs.declared.event.Event.{Event}
use Rattle.cw_types.specs.declared.event.Out.{Out}
use Rattle.cw_types.specs.declared.note.Note.{Note}
use Rattle.cw_types.specs.declared.vote.Proposal.{Proposal}
use Rattle.cw_types.specs.declared.vote.Vote.{Vote}
use Rattle.cw_types.specs.declared.vote.Vote.TheVariants.{Finalize, Notarize, Nullify}
use Rattle.cw_types.specs.Block.{Block}
use Rattle.cw_types.specs.Epochs.{is_last, is_within, leader}
use Rattle.cw_types.specs.Same.{same_block, same_commitment, same_context, same_digest}
use Rattle.cw_types.proofs.Same.{same_block-true, same_commitment-true, same_commitment_self, same_context_self, same_counts_self, same_digest_self, same_vote_self}
use Rattle.cw_rules.specs.Accepted.{State, first_some}
use Rattle.cw_rules.specs.Direct.{best_parent, proposal_notes, propose_new, propose_over, proposed}
use Rattle.cw_rules.specs.Fits.{block_fits, builds_on, context_for, fits, fits_over, repeats}
use Rattle.cw_rules.specs.Held.{greatest_prune, held, noted_block_of}
use Rattle.cw_rules.specs.Keeps.{Keeps, meaning}
use Rattle.cw_rules.specs.Notes.{epoch_of, has_block, has_cert, has_vote, is_vote, nullified, settled, view_of}
use Rattle.cw_rules.specs.Owed.{has_voted, is_payload_for}
use Rattle.cw_rules.specs.Reached.{In, IsCluster, ReachesClear, members_of}
use Rattle.cw_rules.specs.Rules.{Rules, commit, config, digest, genesis, genesis_commitment}
use Rattle.cw_rules.specs.Sends.{block_sends, note_sends}
use Rattle.cw_rules.specs.Stands.{Stands}
use Rattle.cw_rules.specs.Step.{Member, Stepped, marks, member_notes, settle, state_of, step, step_notes, taken, with_notes}
use Rattle.cw_rules.specs.World.{Line, World, member_at, signed}
use Rattle.cw_rules.proofs.Blocks.{first_in}
use Rattle.cw_rules.proofs.Chain.{not_both_stand}
use Rattle.cw_rules.proofs.Lists.{first_of_both, in_left, in_right}
use Rattle.cw_rules.proofs.NoteLemmas.{any_front}
use Rattle.cw_rules.proofs.Worlds.{frames_join}
use Rattle.cw_progress.specs.Offered.{ComesToTwins, IsWelcome}
use Rattle.cw_progress.proofs.Carries.{each_at}
use Rattle.cw_progress.proofs.Certifies.{block_found, keeps, lawful, notes_at}
use Rattle.cw_progress.proofs.Ends.{ends_here}
use Rattle.cw_progress.proofs.Latest.{HasTop, Known, Ready, Unknown, cert_stands, epoch_first, final_first, knows_none}
use Rattle.cw_progress.proofs.OfferCalm.{IsCalm, cert_under, vote_of}
use Rattle.cw_progress.proofs.OfferHeights.{no_last, settled_high, settled_low}
use Rattle.cw_progress.proofs.OfferParents.{IsBest, Best, best_tells, null_later}
use Rattle.cw_progress.proofs.OfferTwins.{built, noted_among, twin_told}
use Rattle.cw_progress.proofs.Outs.{in_flat, sends_notes}
use Rattle.cw_progress.proofs.Over.{block_has}
use Rattle.cw_progress.proofs.Paths.{clear_reaches}
use Rattle.cw_progress.proofs.Quorum.{in_any}
use Rattle.cw_progress.proofs.Stages.{Later, later_held, later_settled}
use Rattle.cw_progress.proofs.Tops.{first_held, prune_final}
use Rattle.cw_progress.proofs.Turns.{step_later}
use Rattle.cw_progress.proofs.Ways.{NoVote}

-- ---- an offer

-- the proposal in that view, of a new block of the payload over what is settled
pub record IsNewOver (r : Rules) (payload : List ℕ) (view : ℕ) (p : Proposal) (b : Block)
    (c : Commitment) (a : Block) : Type 0 where
  pub first : p.epoch ≡ 0
  pub is_view : p.view ≡ view
  pub below : p.parent < view
  pub pays : p.payload ≡ commit r b
  pub block_first : b.context.epoch ≡ 0
  pub carries : b.payload ≡ payload
  pub builds : builds_on r p b c a ≡ true
  pub named : is_payload_for r p c ≡ true

-- the notes have a vote for the proposal, hold its block, and what it is over
pub record Offering (r : Rules) (p : Proposal) (b : Block) (c : Commitment) (a : Block)
    (notes : List Note) : Type 0 where
  pub voted : has_vote notes (Notarize p) ≡ true
  pub holds : held r notes p.payload ≡ Some b
  pub settles : settled (genesis_commitment r) notes 0 p.parent ≡ Some c
  pub holds_parent : held r notes c ≡ Some a
  pub nulls : (x : ℕ) → p.parent < x → x < p.view → nullified notes 0 x ≡ true

pub offering_later : (r : Rules) (p : Proposal) (b : Block) (c : Commitment) (a : Block)
    (xs ys : List Note)
    → Later xs ys → Offering r p b c a xs → Offering r p b c a ys
offering_later r p b c a xs ys k o = record {
  voted =
      subst (λ ns. has_vote ns (Notarize p) ≡ true) (sym k.joined)
      (any_front (is_vote (Notarize p)) xs k.more o.voted);
  holds = later_held r xs ys k p.payload b o.holds;
  settles = later_settled (genesis_commitment r) xs ys k 0 p.parent c o.settles;
  holds_parent = later_held r xs ys k c a o.holds_parent;
  nulls = λ x low lt. null_later r xs ys k x (o.nulls x low lt);
}

-- so its block is one for it
pub offering_fits : (r : Rules) (payload : List ℕ) (view : ℕ) (p : Proposal) (b : Block)
    (c : Commitment) (a : Block) (notes : List Note)
    → IsNewOver r payload view p b c a → Offering r p b c a notes → block_fits r notes p ≡ true
offering_fits r payload view p b c a notes new o =
    ap (λ x. option_map_or (fits r notes p) x false) o.holds
    ∙ (ap
    (λ x. option_map_or
    (λ d. option_map_or (fits_over r p b d) (held r notes d) false) x false)
    (ap (λ e. settled (genesis_commitment r) notes e p.parent) new.first ∙ o.settles)
    ∙ (ap (λ x. option_map_or (fits_over r p b c) x false) o.holds_parent
    ∙ or_left (builds_on r p b c a) (repeats r p b c a) new.builds))

-- ---- notes

-- where no block is noted under a commitment none is found
none_found : (c : Commitment) (notes : List Note) → has_block notes c ≡ false
    → first_some (noted_block_of c) notes ≡ None
none_found c notes h = go (first_some (noted_block_of c) notes) refl
  where
    go : (o : Option Block) → first_some (noted_block_of c) notes ≡ o
        → first_some (noted_block_of c) notes ≡ None
    go None e = e
    go (Some b) e =
        absurd (false≢true (sym h ∙ block_has c b notes (first_in c notes b e)))

-- the notes of a proposal note its block first, and have the vote
module _ (r : Rules) (notes : List Note) (view parent : ℕ) (b : Block) where
  abbrev c0 : Commitment
  c0 = commit r b

  abbrev vote0 : Vote
  vote0 = Notarize (record { epoch = 0; view = view; parent = parent; payload = c0 })

  abbrev pub notes0 : List Note
  notes0 = proposal_notes r notes 0 view parent b

  vote_inside : In (Note.Vote vote0) notes0
  vote_inside =
      in_right (Note.Vote vote0) (cond (has_block notes c0) [] (Note.Block c0 b ∷ []))
      (Note.Verified 0 view c0 ∷ Note.Vote vote0 ∷ []) (inr (inl refl))

  verified_inside : In (Note.Verified 0 view c0) notes0
  verified_inside =
      in_right (Note.Verified 0 view c0)
      (cond (has_block notes c0) [] (Note.Block c0 b ∷ []))
      (Note.Verified 0 view c0 ∷ Note.Vote vote0 ∷ []) (inl refl)

  first_there : has_block notes c0 ≡ false → (more : List Note)
      → first_some (noted_block_of c0) (notes ++ (notes0 ++ more)) ≡ Some b
  first_there h more =
      first_of_both (noted_block_of c0) notes (notes0 ++ more)
      ∙ (ap (λ o. option_or o (first_some (noted_block_of c0) (notes0 ++ more)))
      (none_found c0 notes h)
      ∙ (ap
      (λ t. first_some (noted_block_of c0)
      ((cond t [] (Note.Block c0 b ∷ [])
      ++ Note.Verified 0 view c0 ∷ Note.Vote vote0 ∷ [])
      ++ more))
      h
      ∙ ap
      (λ o. option_or o
      (first_some (noted_block_of c0)
      ((Note.Verified 0 view c0 ∷ Note.Vote vote0 ∷ []) ++ more)))
      (cond-true (same_commitment c0 c0) (Some b) None (same_commitment_self c0))))

  first_stays : (x : Block) → first_some (noted_block_of c0) notes ≡ Some x → (more : List Note)
      → first_some (noted_block_of c0) (notes ++ more) ≡ Some x
  first_stays x h more =
      first_of_both (noted_block_of c0) notes more
      ∙ ap (λ o. option_or o (first_some (noted_block_of c0) more)) h

-- ---- the proposal

module _ (r : Rules) (none : r.epochs.span ≡ None) (script : List Line) (u : World)
    (cluster : IsCluster r script) (clear : ReachesClear r script u) (payload : List ℕ)
    (welcome : IsWelcome r payload) (view : ℕ) (room : view < 2 ^ 64 - 1) (l : ℕ) (n : Member)
    (at : member_at u l ≡ Some n) (leads : leader r.epochs 0 view ≡ l)
    (calm : IsCalm view NoVote u) (fin : ℕ) (a : Block) (ready : Ready r u fin a)
    (top : HasTop r fin a (member_notes n)) (best : Best)
    (found : best_parent r (member_notes n) 0 view ≡ Some best) where
  abbrev notes : List Note
  notes = member_notes n

  tells : IsBest r notes view best
  tells = best_tells r notes view best found

  abbrev pub block0 : Block
  block0 = built r payload 0 view best

  abbrev pub proposal0 : Proposal
  proposal0 =
      record { epoch = 0; view = view; parent = best.0; payload = commit r block0 }

  pub is_new : IsNewOver r payload view proposal0 block0 best.1 best.2
  is_new = record {
    first = refl;
    is_view = refl;
    below = tells.below;
    pays = refl;
    block_first = refl;
    carries = refl;
    builds =
        and_from
        (same_context block0.context (context_for r proposal0 best.1)
        && same_digest block0.parent (digest r best.2)
        && (block0.height == best.2.height + 1) && is_within r.epochs 0 block0.height)
        (r.accepts block0 best.2)
        (and_from
        (same_context block0.context (context_for r proposal0 best.1)
        && same_digest block0.parent (digest r best.2)
        && (block0.height == best.2.height + 1))
        (is_within r.epochs 0 block0.height)
        (and_from
        (same_context block0.context (context_for r proposal0 best.1)
        && same_digest block0.parent (digest r best.2))
        (block0.height == best.2.height + 1)
        (and_from (same_context block0.context (context_for r proposal0 best.1))
        (same_digest block0.parent (digest r best.2))
        (same_context_self (context_for r proposal0 best.1)) (same_digest_self (digest r best.2)))
        (eq-eqb (best.2.height + 1) (best.2.height + 1) refl))
        within)
        (welcome proposal0 best.1 best.2);
    named =
        and_from
        (same_counts (commit r block0).config (config r 0))
        (same_digest (commit r block0).context
        (r.hash (r.context_bytes (context_for r proposal0 best.1))))
        (same_counts_self (config r 0))
        (same_digest_self (r.hash (r.context_bytes (context_for r proposal0 best.1))));
  }
    where
      within : is_within r.epochs 0 block0.height ≡ true
      within =
          ap
          (λ (s : Option ℕ). option_map_or (λ last. nat_le block0.height last)
          (option_map (λ span. (0 + 1) * span) s) true)
          none

  first : epoch_of notes ≡ 0
  first = epoch_first r none script u cluster clear l n at

  here : view_of notes 0 ≡ view
  here = calm.here l n at

  unvoted : has_voted notes 0 view ≡ false
  unvoted = go (cases_Bool (has_voted notes 0 view))
    where
      go : (has_voted notes 0 view ≡ true) ⊎ (has_voted notes 0 view ≡ false)
          → has_voted notes 0 view ≡ false
      go (inr f) = f
      go (inl t) =
          let (v, h, of, is) = vote_of notes view t in
          absurd
          (calm.votes v (record { number = l; member = n; there = at; voted = h }) of is)

  low : best.2.height ≤ best.0
  low =
      settled_low r none script u cluster clear l n at best.0 best.1 best.2 tells.settles
      tells.holds

  -- it proposes that block
  proposes : proposed r l notes payload ≡ notes0 r notes view best.0 block0
  proposes =
      ap (λ e. at_views e (view_of notes e)) first
      ∙ (ap (at_views 0) here
      ∙ (cond-true
      ((leader r.epochs 0 view == l) && nat_lt view (2 ^ 64 - 1)
      && not (has_voted notes 0 view))
      (option_map_or (propose_over r notes 0 view payload) (best_parent r notes 0 view) []) []
      may
      ∙ (ap (λ o. option_map_or (propose_over r notes 0 view payload) o []) found
      ∙ (cond-false (nat_lt 0 best.0 && is_last r.epochs 0 best.2.height)
      (Note.Vote (Notarize (record {
        epoch = 0;
        view = view;
        parent = best.0;
        payload = best.1;
      })) ∷ [])
      (propose_new r notes 0 view payload best)
      (not_last (nat_lt 0 best.0))
      ∙ cond-true
      (nat_lt block0.height (2 ^ 64 - 1) && is_within r.epochs 0 block0.height
      && r.accepts block0 best.2)
      (notes0 r notes view best.0 block0) [] fit))))
    where
      at_views : ℕ → ℕ → List Note
      at_views e v =
          cond
          ((leader r.epochs e v == l) && nat_lt v (2 ^ 64 - 1) && not (has_voted notes e v))
          (option_map_or (propose_over r notes e v payload) (best_parent r notes e v) []) []

      may : ((leader r.epochs 0 view == l) && nat_lt view (2 ^ 64 - 1)
          && not (has_voted notes 0 view))
          ≡ true
      may =
          and_from ((leader r.epochs 0 view == l) && nat_lt view (2 ^ 64 - 1))
          (not (has_voted notes 0 view))
          (and_from (leader r.epochs 0 view == l) (nat_lt view (2 ^ 64 - 1))
          (eq-eqb (leader r.epochs 0 view) l leads) (lt-ltb view (2 ^ 64 - 1) room))
          (ap not unvoted)

      not_last : (t : Bool) → (t && is_last r.epochs 0 best.2.height) ≡ false
      not_last true = no_last r none 0 best.2.height
      not_last false = refl

      fit : (nat_lt block0.height (2 ^ 64 - 1) && is_within r.epochs 0 block0.height
          && r.accepts block0 best.2)
          ≡ true
      fit =
          and_from
          (nat_lt block0.height (2 ^ 64 - 1) && is_within r.epochs 0 block0.height)
          (r.accepts block0 best.2)
          (and_from (nat_lt block0.height (2 ^ 64 - 1)) (is_within r.epochs 0 block0.height)
          (lt-ltb block0.height (2 ^ 64 - 1)
          (let e = tells.below in omega (arith, low, e, room)))
          (ap
          (λ (s : Option ℕ). option_map_or (λ last. nat_le block0.height last)
          (option_map (λ span. (0 + 1) * span) s) true)
          none))
          (welcome proposal0 best.1 best.2)

  abbrev asks : Event
  asks = Event.Propose payload

  abbrev pub proposed_step : Stepped
  proposed_step = step r l (signed u) n asks

  abbrev during : State
  during = taken r (signed u) (state_of n) asks

  abbrev written : List Note
  written = step_notes r l during asks

  abbrev rest : List Note
  rest =
      let after = with_notes during (proposed r l notes payload) in
      settle r l (marks after) after

  writes : written ≡ notes0 r notes view best.0 block0 ++ rest
  writes = ap (λ ns. ns ++ rest) proposes

  abbrev pub after : List Note
  after = member_notes proposed_step.member

  joins : after ≡ notes ++ (notes0 r notes view best.0 block0 ++ rest)
  joins = frames_join n.frames written ∙ ap (λ ns. notes ++ ns) writes

  later : Later notes after
  later = step_later r payload l (signed u) n asks (λ h e. cc e)

  -- it has voted for it
  voted : has_vote after (Notarize proposal0) ≡ true
  voted =
      in_any (is_vote (Notarize proposal0)) after (Note.Vote (Notarize proposal0))
      (subst (In (Note.Vote (Notarize proposal0))) (sym joins)
      (in_right (Note.Vote (Notarize proposal0)) notes
      (notes0 r notes view best.0 block0 ++ rest)
      (in_left (Note.Vote (Notarize proposal0)) (notes0 r notes view best.0 block0) rest
      (vote_inside r notes view best.0 block0))))
      (same_vote_self (Notarize proposal0))

  -- its parent isn't before the last finalization
  pub parent_late : fin ≤ best.0
  parent_late = go (cases_lt best.0 fin) top
    where
      by_final : best.0 < fin → (q : Proposal) → has_cert notes (Finalize q) ≡ true
          → q.view ≡ fin → q.epoch ≡ 0 → Stands r.epochs (members_of u) (Finalize q) → ⊥
      by_final lt q cert is of stands =
          let past =
          cert_under notes (Finalize q) cert q.view (ends_here 0 q.epoch q.view q.view of refl) in
          let null : has_cert notes (Nullify 0 fin) ≡ true =
          tells.nulls fin lt (omega (arith, past, is, here)) in
          not_both_stand r.epochs (block_fits r) (members_of u) (lawful r script u cluster clear)
          q stands
          (subst (λ x. Stands r.epochs (members_of u) (Nullify q.epoch x)) (sym is)
          (subst (λ x. Stands r.epochs (members_of u) (Nullify x fin)) (sym of)
          (cert_stands r none script u cluster clear l n at (Nullify 0 fin) null)))

      go : (best.0 < fin) ⊎ (fin ≤ best.0) → HasTop r fin a notes → fin ≤ best.0
      go (inr le) t = le
      go (inl lt) (Unknown z e) = absurd (omega (arith, lt, z))
      go (inl lt) (Known q cert is holds) =
          let stands = cert_stands r none script u cluster clear l n at (Finalize q) cert in
          absurd
          (by_final lt q cert is (final_first r none script u cluster clear q stands) stands)

  not_hidden : greatest_prune after ≤ block0.height
  not_hidden =
      let kept : greatest_prune after ≡ greatest_prune notes = later.prune in
      let low_prune =
      prune_final r script u cluster (clear_reaches r script u clear) l n at in
      let low_top = (knows_none r none script u cluster clear fin a ready l n at).1 in
      let high =
      settled_high r none script u cluster clear fin a ready l n at best.0 best.1 best.2
      tells.settles tells.holds parent_late in
      omega (arith, kept, low_prune, low_top, high)

  -- it holds its block, or twins show
  first_noted : (first_some (noted_block_of (commit r block0)) after ≡ Some block0)
      ⊎ ComesToTwins r u payload
  first_noted = go (cases_Bool (has_block notes (commit r block0)))
    where
      c : Commitment
      c = commit r block0

      commits : (x : Block) → In (Note.Block c x) notes → commit r x ≡ c
      commits x h =
          let (front, more, joined, k) =
          each_at (Keeps r (meaning r.epochs (members_of u))) [] notes (Note.Block c x)
          (keeps r script u cluster clear l notes (notes_at r script u cluster clear l n at)) h in
          k

      by_same : (x : Block) → first_some (noted_block_of c) notes ≡ Some x
          → (same_block x block0 ≡ true) ⊎ (same_block x block0 ≡ false)
          → (first_some (noted_block_of c) after ≡ Some block0) ⊎ ComesToTwins r u payload
      by_same x h (inl t) =
          inl
          (ap (first_some (noted_block_of c)) joins
          ∙ (first_stays r notes view best.0 block0 x h
          (notes0 r notes view best.0 block0 ++ rest)
          ∙ ap Some (same_block-true x block0 t)))
      by_same x h (inr f) =
          let inside = first_in c notes x h in
          inr
          (twin_told r payload view u l n at first here best found x
          (inr (noted_among u l n at c x inside))
          (ap (λ (d : Commitment). d.block) (commits x inside)) f)

      by_found : ((x : Block) × (first_some (noted_block_of c) notes ≡ Some x))
          → (first_some (noted_block_of c) after ≡ Some block0) ⊎ ComesToTwins r u payload
      by_found (x, h) = by_same x h (cases_Bool (same_block x block0))

      go : (has_block notes c ≡ true) ⊎ (has_block notes c ≡ false)
          → (first_some (noted_block_of c) after ≡ Some block0) ⊎ ComesToTwins r u payload
      go (inr f) =
          inl
          (ap (first_some (noted_block_of c)) joins
          ∙ first_there r notes view best.0 block0 f rest)
      go (inl t) = by_found (block_found c notes t)

  not_genesis : (same_commitment (commit r block0) (genesis_commitment r) ≡ false)
      ⊎ ComesToTwins r u payload
  not_genesis = go (cases_Bool (same_commitment (commit r block0) (genesis_commitment r)))
    where
      other : (same_block (genesis r) block0 ≡ true) ⊎ (same_block (genesis r) block0 ≡ false)
          → same_block (genesis r) block0 ≡ false
      other (inr f) = f
      other (inl t) =
          let e = ap (λ (x : Block). x.height) (same_block-true (genesis r) block0 t) in
          absurd (omega (arith, e))

      go : (same_commitment (commit r block0) (genesis_commitment r) ≡ true)
          ⊎ (same_commitment (commit r block0) (genesis_commitment r) ≡ false)
          → (same_commitment (commit r block0) (genesis_commitment r) ≡ false)
          ⊎ ComesToTwins r u payload
      go (inr f) = inl f
      go (inl t) =
          inr
          (twin_told r payload view u l n at first here best found (genesis r) (inl refl)
          (ap (λ (d : Commitment). d.block)
          (sym (same_commitment-true (commit r block0) (genesis_commitment r) t)))
          (other (cases_Bool (same_block (genesis r) block0))))

  -- what it has then, and what it sent
  pub record IsProposed : Type 0 where
    pub offers : Offering r proposal0 block0 best.1 best.2 after
    pub sends : (o : Out) → In o (block_sends r.travel r l 0 block0) → In o proposed_step.sent

  pub is_proposed : IsProposed ⊎ ComesToTwins r u payload
  is_proposed = go not_genesis first_noted
    where
      c : Commitment
      c = commit r block0

      by_first : same_commitment c (genesis_commitment r) ≡ false
          → first_some (noted_block_of c) after ≡ Some block0 → IsProposed
      by_first other noted = record {
        offers =
            record {
              voted = voted;
              holds = first_held r after c block0 other noted not_hidden;
              settles =
                  later_settled (genesis_commitment r) notes after later 0 best.0 best.1
                  tells.settles;
              holds_parent = later_held r notes after later best.1 best.2 tells.holds;
              nulls = λ x above lt. null_later r notes after later x (tells.nulls x above lt);
            };
        sends = sends;
      }
        where
          all : List Note
          all = notes ++ written

          noted_all : first_some (noted_block_of c) all ≡ Some block0
          noted_all = ap (first_some (noted_block_of c)) (sym (frames_join n.frames written)) ∙ noted

          sends : (o : Out) → In o (block_sends r.travel r l 0 block0)
              → In o proposed_step.sent
          sends o h =
              sends_notes r l (state_of n) (with_notes during written) asks written o
              (in_flat (note_sends r l all) written (Note.Verified 0 view c) o
              (subst (In (Note.Verified 0 view c)) (sym writes)
              (in_left (Note.Verified 0 view c) (notes0 r notes view best.0 block0) rest
              (verified_inside r notes view best.0 block0)))
              (subst (λ x. In o (option_map_or (block_sends r.travel r l 0) x [])) (sym noted_all)
              h))

      go : (same_commitment c (genesis_commitment r) ≡ false) ⊎ ComesToTwins r u payload
          → (first_some (noted_block_of c) after ≡ Some block0) ⊎ ComesToTwins r u payload
          → IsProposed ⊎ ComesToTwins r u payload
      go (inr twins) x = inr twins
      go (inl other) (inr twins) = inr twins
      go (inl other) (inl noted) = inl (by_first other noted)
