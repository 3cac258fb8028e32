-- In one epoch without end: the leader's turn, and what the world is then.
use Rattle.std.proofs.Common.{◌≡◌, ℕ, ◌-◌, ◌<◌, ◌≤◌, ◌^◌, true, List, Some, None, length, refl, sym, ◌∙◌, ap, subst, inl, inr, ◌⊎◌, arith}
use Rattle.std.proofs.lemmas.Bool.{cases_eq}
use Rattle.std.proofs.lemmas.Option.{same_Some}
use Rattle.std.proofs.lemmas.Slice.Eq.{bytes_eq-Decides}
use Rattle.cw_types.specs.declared.commitment.Commitment.{Commitment}
use Rattle.cw_types.specs.declared.event.Event.{Event}
use Rattle.cw_types.specs.declared.event.Out.{Out}
use Rattle.cw_types.specs.declared.note.Note.{Note}
use Rattle.cw_types.specs.declared.vote.Proposal.{Proposal}
use Rattle.cw_types.specs.declared.vote.Vote.{Vote}
use Rattle.cw_types.specs.declared.vote.Vote.TheVariants.{Finalize, Notarize, Nullify}
use Rattle.cw_types.specs.Block.{Block}
use Rattle.cw_types.specs.Epochs.{leader}
use Rattle.cw_types.specs.Votes.{vote_epoch, vote_view}
use Rattle.cw_rules.specs.Direct.{best_parent}
use Rattle.cw_rules.specs.Notes.{ended_by, has_cert, has_vote, view_of}
use Rattle.cw_rules.specs.Reached.{In, IsCluster, ReachesClear}
use Rattle.cw_rules.specs.Rules.{Rules}
use Rattle.cw_rules.specs.Sends.{block_sends}
use Rattle.cw_rules.specs.Step.{Member, Stepped, member_notes, nothing_came, state_of, step, taken}
use Rattle.cw_rules.specs.World.{Ask, Line, World, member_at, signed, with_done}
use Rattle.cw_progress.specs.Going.{helps}
use Rattle.cw_progress.specs.Offered.{ComesToTwins, IsWelcome}
use Rattle.cw_progress.specs.Over.{ComesToClash}
use Rattle.cw_progress.proofs.Certifies.{lawful, notes_at}
use Rattle.cw_progress.proofs.Latest.{HasTop, Ready, top_later, view_later}
use Rattle.cw_progress.proofs.OfferBuilt.{IsNewOver, IsProposed, Offering, block0, is_new, is_proposed, parent_late, proposal0}
use Rattle.cw_progress.proofs.OfferCalm.{IsCalm, cert_under, certified_cert, unfinal, view_under}
use Rattle.cw_progress.proofs.OfferParents.{Best}
use Rattle.cw_progress.proofs.OfferTurn.{AnyVote, Shows, clash_twins, turn_on}
use Rattle.cw_progress.proofs.OfferVoter.{IsLeaders, quiet_certs, quiet_votes}
use Rattle.cw_progress.proofs.Outs.{IsNew, new_done}
use Rattle.cw_progress.proofs.Over.{member_done}
use Rattle.cw_progress.proofs.Quiet.{AreOf, IsFinal}
use Rattle.cw_progress.proofs.Rests.{IsProposing}
use Rattle.cw_progress.proofs.Turns.{step_later}
use Rattle.cw_progress.proofs.Voting.{other_same}
use Rattle.cw_progress.proofs.Ways.{HasSome, HasVote, NoVote, Way, way_here}

-- ---- a turn to which only the leader's vote came

-- the vote is for the proposal
abbrev pub IsFor : Proposal → Vote → Type 0
IsFor p v = v ≡ Notarize p

module _ (r : Rules) (none : r.epochs.span ≡ None) (view : ℕ) (p : Proposal) (l : ℕ) (u : World)
    (j : ℕ) (n : Member) (at : member_at u j ≡ Some n) (e : Event)
    (timeless : (x : ℕ) → e ≡ Event.Timeout x → ⊥) (keeps : (h : ℕ) → e ≡ Event.Prune h → ⊥)
    (are : AreOf (IsLeaders l p) (taken r (signed u) (state_of n) e).came) (script : List Line)
    (cluster : IsCluster r script)
    (clear : ReachesClear r script (with_done u j (step r j (signed u) n e))) where
  abbrev done : Stepped
  done = step r j (signed u) n e

  abbrev world : World
  world = with_done u j done

  own : (x : Member) → member_at world j ≡ Some x → done.member ≡ x
  own x there = same_Some done.member x (sym (member_done u j n done at) ∙ there)

  -- no certificate is new
  old_cert : (v : Vote) → HasSome world v → HasSome u v
  old_cert v s = go (cases_eq j s.number)
    where
      go : (j ≡ s.number) ⊎ (j ≡ s.number → ⊥) → HasSome u v
      go (inl same) =
          record {
            number = j;
            member = n;
            there = at;
            noted =
                quiet_certs r script cluster j l p (signed u) n e are v
                (subst (λ (x : Member). has_cert (member_notes x) v ≡ true)
                (sym (own s.member (ap (member_at world) same ∙ s.there))) s.noted);
          }
      go (inr d) =
          record {
            number = s.number;
            member = s.member;
            there = sym (other_same u j done s.number d) ∙ s.there;
            noted = s.noted;
          }

  pub ready_turn : (payload : List ℕ) (fin : ℕ) (a : Block) → Ready r u fin a
      → Ready r world fin a
  ready_turn payload fin a k = by_place (cases_eq j k.number)
    where
      last : (q : Proposal) → HasSome world (Finalize q) → q.view ≤ fin
      last q s = k.last q (old_cert (Finalize q) s)

      by_place : (j ≡ k.number) ⊎ (j ≡ k.number → ⊥) → Ready r world fin a
      by_place (inl same) =
          let one : k.member ≡ n =
          same_Some k.member n (sym k.there ∙ (ap (member_at u) (sym same) ∙ at)) in
          record {
            last = last;
            number = j;
            member = done.member;
            there = member_done u j n done at;
            top =
                top_later r fin a (member_notes n) (member_notes done.member)
                (step_later r payload j (signed u) n e keeps)
                (subst (λ (x : Member). HasTop r fin a (member_notes x)) one k.top);
          }
      by_place (inr d) =
          record {
            last = last;
            number = k.number;
            member = k.member;
            there = other_same u j done k.number d ∙ k.there;
            top = k.top;
          }

  -- it stays calm, by what may be voted newly
  module _ (payload : List ℕ) (Old New : Vote → Type 0) (calm : IsCalm view Old u)
      (stay : (v : Vote) → Old v → New v)
      (notarized : (q : Proposal) → q.epoch ≡ 0 → q.view ≡ view
      → has_vote (member_notes done.member) (Notarize q) ≡ true
      → IsProposing e ⊎ (q ≡ p) → New (Notarize q)) where
    certs : (q : Proposal) → HasSome world (Notarize q) → q.view < view
    certs q s = calm.certs q (old_cert (Notarize q) s)

    own_here : view_of (member_notes done.member) 0 ≡ view
    own_here =
        let is = calm.here j n at in
        let up =
        view_later (member_notes n) (member_notes done.member)
        (step_later r payload j (signed u) n e keeps) 0 in
        let low =
        view_under (member_notes done.member) view (omega (arith, is)) said ended in
        omega (arith, is, up, low)
      where
        said : (q : Proposal) → In (Note.Certified q) (member_notes done.member)
            → q.view < view
        said q h =
            certs q (record {
              number = j;
              member = done.member;
              there = member_done u j n done at;
              noted =
                  certified_cert r script world cluster clear j done.member
                  (member_done u j n done at) q h;
            })

        ended : (v : Vote) → has_cert (member_notes done.member) v ≡ true → (x : ℕ)
            → ended_by 0 v ≡ Some x → x < view
        ended v h x f =
            let past =
            cert_under (member_notes n) v
            (quiet_certs r script cluster j l p (signed u) n e are v h) x f in
            let is = calm.here j n at in
            omega (arith, past, is)

    here : (k : ℕ) (x : Member) → member_at world k ≡ Some x → view_of (member_notes x) 0 ≡ view
    here k x there = go (cases_eq j k)
      where
        go : (j ≡ k) ⊎ (j ≡ k → ⊥) → view_of (member_notes x) 0 ≡ view
        go (inl same) =
            subst (λ (y : Member). view_of (member_notes y) 0 ≡ view)
            (own x (ap (member_at world) same ∙ there)) own_here
        go (inr d) = calm.here k x (sym (other_same u j done k d) ∙ there)

    own_vote : (v : Vote) → has_vote (member_notes done.member) v ≡ true → vote_epoch v ≡ 0
        → vote_view v ≡ view → New v
    own_vote v h of is =
        go v h of is
        (quiet_votes r script cluster j l p (signed u) n e timeless are v h)
      where
        final : (x : Vote) → has_vote (member_notes done.member) x ≡ true → vote_epoch x ≡ 0
            → vote_view x ≡ view → IsFinal x → ⊥
        final (Finalize q) h of is f =
            let e = own_here in
            unfinal r none view script world cluster clear j done.member
            (member_done u j n done at) (omega (arith, e)) q h of is
        final (Notarize q) h of is f = f
        final (Nullify y z) h of is f = f

        go : (x : Vote) → has_vote (member_notes done.member) x ≡ true → vote_epoch x ≡ 0
            → vote_view x ≡ view
            → (has_vote (member_notes n) x ≡ true)
            ⊎ (IsFinal x ⊎ ((q : Proposal) × (x ≡ Notarize q) × (IsProposing e ⊎ (q ≡ p))))
            → New x
        go x h of is (inl old) =
            stay x
            (calm.votes x (record { number = j; member = n; there = at; voted = old }) of is)
        go x h of is (inr (inl f)) = absurd (final x h of is f)
        go x h of is (inr (inr (q, same, source))) =
            subst New (sym same)
            (notarized q (ap vote_epoch (sym same) ∙ of) (ap vote_view (sym same) ∙ is)
            (subst (λ y. has_vote (member_notes done.member) y ≡ true) same h) source)

    votes : (v : Vote) → HasVote world v → vote_epoch v ≡ 0 → vote_view v ≡ view → New v
    votes v s of is = go (cases_eq j s.number)
      where
        go : (j ≡ s.number) ⊎ (j ≡ s.number → ⊥) → New v
        go (inl same) =
            own_vote v
            (subst (λ (x : Member). has_vote (member_notes x) v ≡ true)
            (sym (own s.member (ap (member_at world) same ∙ s.there))) s.voted)
            of is
        go (inr d) =
            stay v
            (calm.votes v (record {
              number = s.number;
              member = s.member;
              there = sym (other_same u j done s.number d) ∙ s.there;
              voted = s.voted;
            }) of is)

    pub calm_turn : IsCalm view New world
    calm_turn = record { here = here; certs = certs; votes = votes }

-- ---- the leader's turn

-- a proposal with its block, what it is over, and the last finalization
pub record Terms : Type 0 where
  pub proposal : Proposal
  pub block : Block
  pub over : Commitment
  pub parent : Block
  pub final_view : ℕ
  pub final_block : Block

-- it is made in a world that is calm but for the votes for it: the leader has it and sent its
-- parts, which are new from that number on
pub record IsOffered (r : Rules) (payload : List ℕ) (view l : ℕ) (x : Terms) (low : ℕ)
    (world : World) : Type 0 where
  pub new : IsNewOver r payload view x.proposal x.block x.over x.parent
  pub late : x.final_view ≤ x.proposal.parent
  pub calm : IsCalm view (IsFor x.proposal) world
  pub ready : Ready r world x.final_view x.final_block
  pub member : Member
  pub there : member_at world l ≡ Some member
  pub top : HasTop r x.final_view x.final_block (member_notes member)
  pub offers : Offering r x.proposal x.block x.over x.parent (member_notes member)
  pub sent : (o : Out) → In o (block_sends r.travel r l 0 x.block) → IsNew low world l o

module _ (r : Rules) (none : r.epochs.span ≡ None) (payload : List ℕ)
    (welcome : IsWelcome r payload) (view : ℕ) (room : view < 2 ^ 64 - 1) (script : List Line)
    (u : World) (cluster : IsCluster r script) (clear : ReachesClear r script u) (l : ℕ)
    (n : Member) (at : member_at u l ≡ Some n) (live : n.live ≡ true)
    (came : n.came ≡ nothing_came) (leads : leader r.epochs 0 view ≡ l)
    (calm : IsCalm view NoVote u) (fin : ℕ) (a : Block) (ready : Ready r u fin a)
    (top : HasTop r fin a (member_notes n)) (best : Best)
    (found : best_parent r (member_notes n) 0 view ≡ Some best) where
  abbrev p0 : Proposal
  p0 =
      proposal0 r none script u cluster clear payload welcome view room l n at leads calm fin a
      ready top best found

  abbrev b0 : Block
  b0 =
      block0 r none script u cluster clear payload welcome view room l n at leads calm fin a
      ready top best found

  abbrev asks : Event
  asks = Event.Propose payload

  abbrev turned : Stepped
  turned = step r l (signed u) n asks

  abbrev next_world : World
  next_world = with_done u l turned

  abbrev pub offer0 : Terms
  offer0 = record {
    proposal = p0;
    block = b0;
    over = best.1;
    parent = best.2;
    final_view = fin;
    final_block = a;
  }

  abbrev Made : World → Type 0
  Made = IsOffered r payload view l offer0 (length u.pool)

  made : Way r u payload AnyVote next_world
      → IsProposed r none script u cluster clear payload welcome view room l n at leads calm fin
      a ready top best found
      → Made next_world
  made way k = record {
    new =
        is_new r none script u cluster clear payload welcome view room l n at leads calm fin a
        ready top best found;
    late =
        parent_late r none script u cluster clear payload welcome view room l n at leads calm fin a
        ready top best found;
    calm =
        calm_turn r none view p0 l u l n at asks (λ x e. cc e) (λ h e. cc e) are way.path.script
        way.path.cluster way.path.clear payload NoVote (IsFor p0) calm (λ v h. absurd h)
        (λ q of is h source. ap Notarize (one q of is h));
    ready =
        ready_turn r none view p0 l u l n at asks (λ x e. cc e) (λ h e. cc e) are way.path.script
        way.path.cluster way.path.clear payload fin a ready;
    member = turned.member;
    there = member_done u l n turned at;
    top =
        top_later r fin a (member_notes n) (member_notes turned.member)
        (step_later r payload l (signed u) n asks (λ h e. cc e)) top;
    offers = k.offers;
    sent = λ o h. new_done u l turned o (k.sends o h);
  }
    where
      are : AreOf (IsLeaders l p0) (taken r (signed u) (state_of n) asks).came
      are x h = absurd (subst (λ z. In x z.ballots) came h)

      one : (q : Proposal) → q.epoch ≡ 0 → q.view ≡ view
          → has_vote (member_notes turned.member) (Notarize q) ≡ true → q ≡ p0
      one q of is h =
          ((lawful r way.path.script next_world way.path.cluster way.path.clear).honest l
          (member_notes turned.member)
          (notes_at r way.path.script next_world way.path.cluster way.path.clear l turned.member
          (member_done u l n turned at))).one_notarize q p0 h k.offers.voted of is

  -- the leader makes an offer, or twins show
  pub offer_turn : Shows r payload u Made
  offer_turn =
      go
      (is_proposed r none script u cluster clear payload welcome view room l n at leads calm fin a
      ready top best found)
      (turn_on r payload u u (way_here r payload AnyVote script u cluster clear) l n at live
      (Ask.Propose payload) asks refl ((bytes_eq-Decides payload payload).1 refl) (λ h e. cc e))
    where
      go : IsProposed r none script u cluster clear payload welcome view room l n at leads calm
          fin a ready top best found
          ⊎ ComesToTwins r u payload
          → Way r u payload AnyVote next_world ⊎ ComesToClash r u (helps u payload)
          → Shows r payload u Made
      go (inr twins) x = inr twins
      go (inl k) (inr clash) = inr (clash_twins r u payload clash)
      go (inl k) (inl way) =
          inl (record { world = next_world; way = way; holds = made way k })
