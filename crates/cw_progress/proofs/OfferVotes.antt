-- In one epoch without end: each honest member votes for what is offered, one after another.
use Rattle.std.proofs.Common.{◌≡◌, ℕ, ◌+◌, ◌-◌, ◌<◌, ◌^◌, ◌%◌, true, false, ◌&&◌, ◌==◌, nat_lt, List, [], ◌∷◌, Option, Some, None, length, unwrap_or, refl, sym, ◌∙◌, ap, subst, inl, inr, ◌⊎◌, arith, eq-eqb}
use Rattle.std.specs.List.{list_any}
use Rattle.std.specs.Option.{option_map_or}
use Rattle.std.proofs.Math.Nat.{mod-lt}
use Rattle.std.proofs.lemmas.Bool.{and_from, cases_Bool, cases_eq, false≢true, lt-ltb, or_left}
use Rattle.std.proofs.lemmas.Option.{same_Some}
use Rattle.cw_types.specs.declared.event.Event.{Event}
use Rattle.cw_types.specs.declared.event.Out.{Out}
use Rattle.cw_types.specs.declared.message.Message.{Message}
use Rattle.cw_types.specs.declared.note.Note.{Note}
use Rattle.cw_types.specs.declared.vote.Proposal.{Proposal}
use Rattle.cw_types.specs.declared.vote.Vote.{Vote}
use Rattle.cw_types.specs.declared.vote.Vote.TheVariants.{Notarize}
use Rattle.cw_types.specs.Epochs.{is_member, leader, members_in, size}
use Rattle.cw_types.specs.Votes.{is_view, vote_epoch, vote_view, well_formed}
use Rattle.cw_rules.specs.Accepted.{Came, State}
use Rattle.cw_rules.specs.Coding.{IsCoder}
use Rattle.cw_rules.specs.Notes.{epoch_of, has_vote, is_vote, nullified, settled, view_of}
use Rattle.cw_rules.specs.Owed.{all_nullified, can_vote, has_part, has_voted, is_again, is_payload_for, is_ready, is_single}
use Rattle.cw_rules.specs.Reached.{In, IsCluster, ReachesClear}
use Rattle.cw_rules.specs.Rules.{Rules, genesis_commitment}
use Rattle.cw_rules.specs.Sends.{block_sends, to_all}
use Rattle.cw_rules.specs.Step.{Member, Stepped, member_notes, state_of, step, taken}
use Rattle.cw_rules.specs.World.{Ask, Do, Line, World, is_to, member_at, signed, with_done}
use Rattle.cw_rules.specs.declared.travel.Travel.TheVariants.{Chunked}
use Rattle.cw_rules.proofs.Lists.{all_range}
use Rattle.cw_rules.proofs.NoteLemmas.{any_front}
use Rattle.cw_rules.proofs.Worlds.{member_there}
use Rattle.cw_progress.specs.Going.{helps, is_ballot}
use Rattle.cw_progress.specs.Offered.{ComeToVotes, ComesToTwins, HasBacked, IsWelcome}
use Rattle.cw_progress.specs.Over.{ComesToClash}
use Rattle.cw_progress.specs.Sent.{IsSent}
use Rattle.cw_progress.specs.Views.{IsNewTo}
use Rattle.cw_progress.proofs.Carries.{extends_done}
use Rattle.cw_progress.proofs.Latest.{HasTop, epoch_first, top_later}
use Rattle.cw_progress.proofs.Noted.{noted_sent}
use Rattle.cw_progress.proofs.OfferBuilt.{Offering, offering_later}
use Rattle.cw_progress.proofs.OfferCalm.{vote_of}
use Rattle.cw_progress.proofs.OfferGives.{Every, every_on}
use Rattle.cw_progress.proofs.OfferMade.{AreAllIdle, IsMade, as_come, backed, goes_map, leads_shows, made_on, make_offer}
use Rattle.cw_progress.proofs.OfferParts.{IsPart, got_in, got_some, part_sent}
use Rattle.cw_progress.proofs.OfferProposed.{IsFor, IsOffered, Terms, calm_turn, ready_turn}
use Rattle.cw_progress.proofs.OfferTold.{Knows, all_know, knows_lasts}
use Rattle.cw_progress.proofs.OfferTurn.{AnyVote, Shows, ballot_helps, clash_twins, delivers, shows_then, turn_on}
use Rattle.cw_progress.proofs.OfferVoter.{IsLeaders, step_voted}
use Rattle.cw_progress.proofs.OneView.{Leads, numbered, numbers}
use Rattle.cw_progress.proofs.Outs.{new_stays}
use Rattle.cw_progress.proofs.Over.{member_done}
use Rattle.cw_progress.proofs.Paths.{clear_reaches}
use Rattle.cw_progress.proofs.Quiet.{AreOf, IsOf, came_of}
use Rattle.cw_progress.proofs.Quorum.{in_any, single_taken}
use Rattle.cw_progress.proofs.Rests.{IsProposing}
use Rattle.cw_progress.proofs.Rounds.{AreIdleIn, all_idle}
use Rattle.cw_progress.proofs.Stages.{Later, new_helps}
use Rattle.cw_progress.proofs.Taken.{part_ballots}
use Rattle.cw_progress.proofs.Turns.{step_later}
use Rattle.cw_progress.proofs.Valid.{sent_signs, vote_in}
use Rattle.cw_progress.proofs.Voting.{other_same}
use Rattle.cw_progress.proofs.Ways.{NoVote, Way, goes_then}

-- ---- members

-- who leads a view is a member
leader_belongs : (r : Rules) (script : List Line) → IsCluster r script → (view l : ℕ)
    → leader r.epochs 0 view ≡ l → is_member r.epochs 0 l ≡ true
leader_belongs r script cluster view l leads =
    let many = cluster.enough 0 in
    let (x, at) =
    got_some (members_in r.epochs 0) (view % size r.epochs 0)
    (mod-lt view (omega (arith, many))) in
    let one : x ≡ l = sym (ap (λ o. unwrap_or o 0) at) ∙ leads in
    in_any (λ j. j == l) (members_in r.epochs 0) x
    (got_in (members_in r.epochs 0) (view % size r.epochs 0) x at) (eq-eqb x l one)

-- each honest member of the epoch has voted for an offer, and all are live
pub record IsVotedFor (r : Rules) (payload : List ℕ) (view l low : ℕ) (u : World) : Type 0 where
  pub terms : Terms
  pub offered : IsOffered r payload view l terms low u
  pub lives : (j : ℕ) (n : Member) → member_at u j ≡ Some n → n.live ≡ true
  pub voted : (j : ℕ) → is_member r.epochs 0 j ≡ true → (n : Member) → member_at u j ≡ Some n
      → has_vote (member_notes n) (Notarize terms.proposal) ≡ true

module _ (r : Rules) (none : r.epochs.span ≡ None) (payload : List ℕ) (view l : ℕ)
    (room : view < 2 ^ 64 - 1) (leads : leader r.epochs 0 view ≡ l)
    (coder : r.travel ≡ Chunked → IsCoder r) (w : World) (x : Terms) where
  abbrev p : Proposal
  p = x.proposal

  abbrev low : ℕ
  low = length w.pool

  abbrev KnowsIt : List Note → Type 0
  KnowsIt = Knows r none payload view l x low

  -- the member is live, and nothing but the leader's vote came to it
  abbrev IsOpen : Member → Type 0
  IsOpen n = (n.live ≡ true) × AreOf (IsLeaders l p) n.came

  -- a world that the offer led to, in which those of these numbers have voted for it
  record Polled (xs : List ℕ) (u : World) : Type 0 where
    way : Way r w payload AnyVote u
    offered : IsOffered r payload view l x low u
    knows : Every r none payload KnowsIt u
    quiet : (j : ℕ) (n : Member) → member_at u j ≡ Some n → IsOpen n
    voted : (j : ℕ) → In j xs → is_member r.epochs 0 j ≡ true → (n : Member)
        → member_at u j ≡ Some n → has_vote (member_notes n) (Notarize p) ≡ true

  -- ---- one delivery

  module _ (xs : List ℕ) (u : World) (k : Polled xs u) (j : ℕ) (n : Member)
      (at : member_at u j ≡ Some n) (from : ℕ) (o : Out) (sent : IsSent u from o)
      (to : is_to j o.to ≡ true) (fits : helps w payload (Do j (Ask.Deliver sent.number)) ≡ true)
      (of : IsOf (IsLeaders l p) o.message) where
    abbrev given : Event
    given = Event.Deliver o.message

    abbrev done : Stepped
    done = step r j (signed u) n given

    abbrev world : World
    world = with_done u j done

    are : AreOf (IsLeaders l p) (taken r (signed u) (state_of n) given).came
    are =
        came_of (IsLeaders l p) r (signed u) n.came o.message (k.quiet j n at).1 of

    later : Later (member_notes n) (member_notes done.member)
    later = step_later r payload j (signed u) n given (λ h e. cc e)

    by_place : (P : Member → Type 0) → P done.member
        → ((m : ℕ) (z : Member) → member_at u m ≡ Some z → P z)
        → (m : ℕ) (z : Member) → member_at world m ≡ Some z → P z
    by_place P own others m z there = go (cases_eq j m)
      where
        go : (j ≡ m) ⊎ (j ≡ m → ⊥) → P z
        go (inl same) =
            subst P
            (same_Some done.member z
            (sym (member_done u j n done at) ∙ (ap (member_at world) same ∙ there)))
            own
        go (inr d) = others m z (sym (other_same u j done m d) ∙ there)

    newly : (q : Proposal) → q.epoch ≡ 0 → q.view ≡ view
        → has_vote (member_notes done.member) (Notarize q) ≡ true
        → IsProposing given ⊎ (q ≡ p) → IsFor p (Notarize q)
    newly q first is h (inl e) = absurd e
    newly q first is h (inr e) = ap Notarize e

    -- the offer stays
    offered_next : Way r w payload AnyVote world → IsOffered r payload view l x low world
    offered_next way = go (cases_eq j l)
      where
        made : (m : Member) → member_at world l ≡ Some m
            → HasTop r x.final_view x.final_block (member_notes m)
            → Offering r p x.block x.over x.parent (member_notes m)
            → IsOffered r payload view l x low world
        made m there top offers = record {
          new = k.offered.new;
          late = k.offered.late;
          calm =
              calm_turn r none view p l u j n at given (λ y e. cc e) (λ h e. cc e) are
              way.path.script way.path.cluster way.path.clear payload (IsFor p) (IsFor p)
              k.offered.calm (λ v h. h) newly;
          ready =
              ready_turn r none view p l u j n at given (λ y e. cc e) (λ h e. cc e) are
              way.path.script way.path.cluster way.path.clear payload x.final_view x.final_block
              k.offered.ready;
          member = m;
          there = there;
          top = top;
          offers = offers;
          sent =
              λ y h.
              new_stays low u world l y (extends_done u j n done (member_there u j n at))
              (k.offered.sent y h);
        }

        go : (j ≡ l) ⊎ (j ≡ l → ⊥) → IsOffered r payload view l x low world
        go (inl same) =
            let one : k.offered.member ≡ n =
            same_Some k.offered.member n
            (sym k.offered.there ∙ (ap (member_at u) (sym same) ∙ at)) in
            made done.member (ap (member_at world) (sym same) ∙ member_done u j n done at)
            (top_later r x.final_view x.final_block (member_notes n) (member_notes done.member)
            later
            (subst (λ (z : Member). HasTop r x.final_view x.final_block (member_notes z)) one
            k.offered.top))
            (offering_later r p x.block x.over x.parent (member_notes n)
            (member_notes done.member) later
            (subst (λ (z : Member). Offering r p x.block x.over x.parent (member_notes z)) one
            k.offered.offers))
        go (inr d) =
            made k.offered.member (other_same u j done l d ∙ k.offered.there) k.offered.top
            k.offered.offers

    round_next : Way r w payload AnyVote world → Polled xs world
    round_next way = record {
      way = way;
      offered = offered_next way;
      knows =
          by_place (λ z. KnowsIt (member_notes z))
          (knows_lasts r none payload view l x low (member_notes n) (member_notes done.member)
          later (k.knows j n at))
          (λ m z t. k.knows m z t);
      quiet = by_place IsOpen (refl, are) k.quiet;
      voted = λ m inside is z there. by_voter m inside is z there (cases_eq j m);
    }
      where
        by_voter : (m : ℕ) → In m xs → is_member r.epochs 0 m ≡ true → (z : Member)
            → member_at world m ≡ Some z → (j ≡ m) ⊎ (j ≡ m → ⊥)
            → has_vote (member_notes z) (Notarize p) ≡ true
        by_voter m inside is z there (inl same) =
            subst (λ (y : Member). has_vote (member_notes y) (Notarize p) ≡ true)
            (same_Some done.member z
            (sym (member_done u j n done at) ∙ (ap (member_at world) same ∙ there)))
            (subst (λ ns. has_vote ns (Notarize p) ≡ true) (sym later.joined)
            (any_front (is_vote (Notarize p)) (member_notes n) later.more
            (k.voted m inside is n (ap (member_at u) (sym same) ∙ at))))
        by_voter m inside is z there (inr d) =
            k.voted m inside is z (sym (other_same u j done m d) ∙ there)

    delivered : Polled xs world ⊎ ComesToClash r w (helps w payload)
    delivered =
        go
        (turn_on r payload w u k.way j n at (k.quiet j n at).0 (Ask.Deliver sent.number) given
        (delivers u from j o sent to) fits (λ h e. cc e))
      where
        go : Way r w payload AnyVote world ⊎ ComesToClash r w (helps w payload)
            → Polled xs world ⊎ ComesToClash r w (helps w payload)
        go (inr clash) = inr clash
        go (inl way) = inl (round_next way)

  -- ---- one vote

  -- those of these numbers and that member have voted
  record Voted (xs : List ℕ) (j : ℕ) : Type 0 where
    world : World
    round : Polled xs world
    itself : (z : Member) → member_at world j ≡ Some z
        → has_vote (member_notes z) (Notarize p) ≡ true

  plain_of : (m : Message) → is_ballot m ≡ false → IsOf (IsLeaders l p) m
  plain_of (Message.Vote i v) h = absurd (false≢true (sym h))
  plain_of (Message.Cert s) h = absurd (false≢true (sym h))
  plain_of (Message.Shard c y) h = tt
  plain_of (Message.Block b) h = tt
  plain_of (Message.Ask i c) h = tt
  plain_of (Message.AskHeight i c) h = tt
  plain_of _ h = tt

  module _ (xs : List ℕ) (u : World) (k : Polled xs u) (j : ℕ) (n : Member)
      (at : member_at u j ≡ Some n) (belongs : is_member r.epochs 0 j ≡ true) where
    abbrev v : Vote
    v = Notarize p

    abbrev vote_event : Event
    vote_event = Event.Deliver (Message.Vote l v)

    abbrev told : Member
    told = (step r j (signed u) n vote_event).member

    abbrev told_world : World
    told_world = with_done u j (step r j (signed u) n vote_event)

    vote_sent : IsSent u l (to_all (Message.Vote l v))
    vote_sent =
        noted_sent r k.way.path.script u k.way.path.cluster
        (clear_reaches r k.way.path.script u k.way.path.clear) l k.offered.member k.offered.there
        (k.quiet l k.offered.member k.offered.there).0 (Note.Vote v) (Message.Vote l v) refl
        (vote_in v (member_notes k.offered.member) k.offered.offers.voted)

    formed : well_formed v ≡ true
    formed =
        let is = k.offered.new.is_view in
        let below = k.offered.new.below in
        and_from (is_view p.view) (nat_lt p.parent p.view)
        (and_from (nat_lt 0 p.view) (nat_lt p.view (2 ^ 64 - 1))
        (lt-ltb 0 p.view (omega (arith, is, below)))
        (lt-ltb p.view (2 ^ 64 - 1) (omega (arith, is, room))))
        (lt-ltb p.parent p.view (omega (arith, is, below)))

    accepts : (is_member r.epochs (vote_epoch v) l && well_formed v && signed u l v) ≡ true
    accepts =
        and_from (is_member r.epochs (vote_epoch v) l && well_formed v) (signed u l v)
        (and_from (is_member r.epochs (vote_epoch v) l) (well_formed v)
        (subst (λ e. is_member r.epochs e l ≡ true) (sym k.offered.new.first)
        (leader_belongs r k.way.path.script k.way.path.cluster view l leads))
        formed)
        (sent_signs u l v vote_sent)

    has_told : list_any (is_single l v) told.came.ballots ≡ true
    has_told =
        single_taken n.came
        (is_member r.epochs (vote_epoch v) l && well_formed v && signed u l v) l v accepts

    told_round : Polled xs told_world ⊎ ComesToClash r w (helps w payload)
    told_round =
        delivered xs u k j n at l (to_all (Message.Vote l v)) vote_sent refl
        (ballot_helps w u payload k.way.more k.way.pool l j (to_all (Message.Vote l v)) vote_sent
        refl)
        refl

    module _ (t : Polled xs told_world) (o : Out) (part : IsPart r j p o) where
      abbrev part_event : Event
      part_event = Event.Deliver o.message

      abbrev after : Member
      after = (step r j (signed told_world) told part_event).member

      abbrev after_world : World
      after_world = with_done told_world j (step r j (signed told_world) told part_event)

      after_there : member_at after_world j ≡ Some after
      after_there =
          member_done told_world j told (step r j (signed told_world) told part_event)
          (member_done u j n (step r j (signed u) n vote_event) at)

      votes_now : Polled xs after_world → has_vote (member_notes after) v ≡ true
      votes_now s = by_vote (vote_of (member_notes after) view voted_view)
        where
          first : p.epoch ≡ 0
          first = k.offered.new.first

          notes : List Note
          notes = member_notes after

          knows : KnowsIt notes
          knows = s.knows j after after_there

          lead : list_any (is_single (leader r.epochs p.epoch p.view) v) after.came.ballots ≡ true
          lead =
              subst (λ i. list_any (is_single i v) after.came.ballots ≡ true)
              (sym
              (ap (λ e. leader r.epochs e p.view) first
              ∙ (ap (leader r.epochs 0) k.offered.new.is_view ∙ leads)))
              (subst (λ bs. list_any (is_single l v) bs ≡ true)
              (sym
              (ap (λ (c : Came). c.ballots) (part.takes (signed told_world) told.came)
              ∙ part_ballots told.came part.fits part.part))
              has_told)

          here : view_of notes p.epoch ≡ p.view
          here =
              ap (view_of notes) first
              ∙ (s.offered.calm.here j after after_there ∙ sym k.offered.new.is_view)

          epoch : epoch_of notes ≡ p.epoch
          epoch =
              epoch_first r none s.way.path.script after_world s.way.path.cluster
              s.way.path.clear j after after_there
              ∙ sym first

          state : State
          state =
              record {
                notes = notes;
                came = (taken r (signed told_world) (state_of told) part_event).came;
                given = told.given;
              }

          can : can_vote r j state p ≡ true
          can =
              ap (λ c. option_map_or (is_ready r j state p) c false)
              (ap (λ e. settled (genesis_commitment r) notes e p.parent) first ∙ knows.0)
              ∙ or_left (has_part r j state p && is_payload_for r p x.over)
              (is_again r notes p x.over)
              (and_from (has_part r j state p) (is_payload_for r p x.over)
              (part.brings (signed told_world) told.came notes told.given) k.offered.new.named)

          nulls : all_nullified notes p.epoch p.parent p.view ≡ true
          nulls =
              subst (λ e. all_nullified notes e p.parent p.view ≡ true) (sym first)
              (all_range (nullified notes 0) (p.parent + 1) (p.view - p.parent - 1)
              (λ i above below. knows.1 i (omega (arith, above)) (omega (arith, above, below))))

          voted_view : has_voted notes 0 view ≡ true
          voted_view =
              subst (λ y. has_voted notes 0 y ≡ true) k.offered.new.is_view
              (subst (λ e. has_voted notes e p.view ≡ true) first
              (step_voted r j (signed told_world) told part_event p lead epoch here
              (subst (λ e. is_member r.epochs e j ≡ true) (sym first) belongs) can nulls))

          by_vote : ((y : Vote) × (has_vote notes y ≡ true) × (vote_epoch y ≡ 0)
              × (vote_view y ≡ view))
              → has_vote notes v ≡ true
          by_vote (y, h, of, is) =
              subst (λ z. has_vote notes z ≡ true)
              (s.offered.calm.votes y (record {
                number = j;
                member = after;
                there = after_there;
                voted = h;
              }) of is)
              h

    votes_next : Voted xs j ⊎ ComesToClash r w (helps w payload)
    votes_next = go told_round
      where
        by_after : (t : Polled xs told_world) (o : Out) (part : IsPart r j p o)
            → Polled xs (after_world t o part) ⊎ ComesToClash r w (helps w payload)
            → Voted xs j ⊎ ComesToClash r w (helps w payload)
        by_after t o part (inr clash) = inr clash
        by_after t o part (inl s) =
            inl (record {
              world = after_world t o part;
              round = s;
              itself =
                  λ z there.
                  subst (λ (y : Member). has_vote (member_notes y) v ≡ true)
                  (same_Some (after t o part) z (sym (after_there t o part) ∙ there))
                  (votes_now t o part s);
            })

        by_part : (t : Polled xs told_world)
            → ((o : Out) × In o (block_sends r.travel r l 0 x.block) × IsPart r j p o)
            → Voted xs j ⊎ ComesToClash r w (helps w payload)
        by_part t (o, inside, part) =
            let fresh = t.offered.sent o inside in
            by_after t o part
            (delivered xs told_world t j told
            (member_done u j n (step r j (signed u) n vote_event) at) l o fresh.sent part.to
            (new_helps w payload told_world l j o fresh) (plain_of o.message part.plain))

        go : Polled xs told_world ⊎ ComesToClash r w (helps w payload)
            → Voted xs j ⊎ ComesToClash r w (helps w payload)
        go (inr clash) = inr clash
        go (inl t) =
            by_part t
            (part_sent r t.way.path.script t.way.path.cluster coder x.block
            k.offered.new.block_first p k.offered.new.first k.offered.new.pays l j belongs)

  -- ---- all votes

  abbrev Polls : List ℕ → Type 0
  Polls xs = ((u : World) × Polled xs u) ⊎ ComesToClash r w (helps w payload)

  rounds : (xs : List ℕ) (t : World) → Polled [] t → Polls xs
  rounds [] t k = inl (t, k)
  rounds (y ∷ ys) t k = go (rounds ys t k)
    where
      more : (u : World) (s : Polled ys u)
          → (is_member r.epochs 0 y ≡ true → (z : Member) → member_at u y ≡ Some z
          → has_vote (member_notes z) (Notarize p) ≡ true)
          → Polls (y ∷ ys)
      more u s own =
          inl (
            u,
            record {
              way = s.way;
              offered = s.offered;
              knows = s.knows;
              quiet = s.quiet;
              voted = by_voter;
            },
          )
        where
          by_voter : (j : ℕ) → In j (y ∷ ys) → is_member r.epochs 0 j ≡ true → (z : Member)
              → member_at u j ≡ Some z → has_vote (member_notes z) (Notarize p) ≡ true
          by_voter j (inl same) is z there =
              own (subst (λ i. is_member r.epochs 0 i ≡ true) same is) z
              (ap (member_at u) (sym same) ∙ there)
          by_voter j (inr inside) is z there = s.voted j inside is z there

      by_voted : Voted ys y ⊎ ComesToClash r w (helps w payload) → Polls (y ∷ ys)
      by_voted (inr clash) = inr clash
      by_voted (inl a) = more a.world a.round (λ is z there. a.itself z there)

      by_there : (u : World) (s : Polled ys u) → (is_member r.epochs 0 y ≡ true)
          → (o : Option Member) → member_at u y ≡ o → Polls (y ∷ ys)
      by_there u s is None e =
          more u s
          (λ b z there.
          let f : ◌≡◌ {A = Option Member} None (Some z) = sym e ∙ there in absurd (cc f))
      by_there u s is (Some n) e = by_voted (votes_next ys u s y n e is)

      by_member : (u : World) (s : Polled ys u)
          → (is_member r.epochs 0 y ≡ true) ⊎ (is_member r.epochs 0 y ≡ false)
          → Polls (y ∷ ys)
      by_member u s (inl is) = by_there u s is (member_at u y) refl
      by_member u s (inr f) = more u s (λ is z there. absurd (false≢true (sym f ∙ is)))

      go : Polls ys → Polls (y ∷ ys)
      go (inr clash) = inr clash
      go (inl (u, s)) = by_member u s (cases_Bool (is_member r.epochs 0 y))

  -- from a world in which all know what the offer is over, and are idle
  all_vote : (t : World) → Way r w payload AnyVote t → IsOffered r payload view l x low t
      → Every r none payload KnowsIt t → AreAllIdle r none payload view l t
      → Shows r payload w (IsVotedFor r payload view l low)
  all_vote t way k knows idle = go (rounds (numbers w) t start)
    where
      start : Polled [] t
      start = record {
        way = way;
        offered = k;
        knows = knows;
        quiet = opened;
        voted = λ j inside is z there. absurd inside;
      }
        where
          opened : (j : ℕ) (n : Member) → member_at t j ≡ Some n → IsOpen n
          opened j n at =
              let (live, came) = idle j n at in
              (live, λ b h. absurd (subst (λ (c : Came). In b c.ballots) came h))

      ends : (u : World) → Polled (numbers w) u → IsVotedFor r payload view l low u
      ends u s = record {
        terms = x;
        offered = s.offered;
        lives = λ j n there. (s.quiet j n there).0;
        voted =
            λ j is n there.
            let (y, before) = s.way.back j n there in
            s.voted j (numbered w j y before) is n there;
      }

      go : Polls (numbers w) → Shows r payload w (IsVotedFor r payload view l low)
      go (inr clash) = inr (clash_twins r w payload clash)
      go (inl (u, s)) = inl (record { world = u; way = s.way; holds = ends u s })

module _ (r : Rules) (script : List Line) (w : World) (none : r.epochs.span ≡ None)
    (cluster : IsCluster r script) (clear : ReachesClear r script w)
    (coder : r.travel ≡ Chunked → IsCoder r) (payload : List ℕ) (welcome : IsWelcome r payload)
    (view : ℕ) (room : view < 2 ^ 64 - 1)
    (each : (i : ℕ) (m : Member) → member_at w i ≡ Some m → IsNewTo w i view) (m : Member)
    (at : member_at w (leader r.epochs 0 view) ≡ Some m) where
  abbrev lead : ℕ
  lead = leader r.epochs 0 view

  abbrev start_low : ℕ
  start_low = length w.pool

  -- all know what the offer is over, and are idle
  abbrev IsSet : World → Type 0
  IsSet u =
      (x : Terms) × IsOffered r payload view lead x start_low u
      × Every r none payload (Knows r none payload view lead x start_low) u
      × AreAllIdle r none payload view lead u

  sets : (u : World) → Way r w payload AnyVote u → IsMade r none payload view lead start_low u
      → Leads r none payload u IsSet
  sets u way (x, k) =
      goes_then r payload NoVote u Told IsSet
      (all_know r none payload view lead x start_low way.path.script u way.path.cluster
      way.path.clear k)
      next
    where
      Told : World → Type 0
      Told v =
          IsOffered r payload view lead x start_low v
          × Every r none payload (Knows r none payload view lead x start_low) v

      next : (v : World) → Way r u payload NoVote v → Told v → Leads r none payload v IsSet
      next v more (o, knows) =
          goes_map r payload NoVote v (AreIdleIn r none payload view (numbers v)) IsSet
          (λ z on h. (
            x,
            made_on r none payload view lead start_low v z on x o,
            every_on r none payload (Knows r none payload view lead x start_low)
                (knows_lasts r none payload view lead x start_low) NoVote v z on knows,
            λ j n there.
                let (y, before) = on.back j n there in
                h.0 j (numbered v j y before) n there,
          ))
          (all_idle r none payload view (numbers v) more.path.script v more.path.cluster
          more.path.clear o.calm.here)

  -- each honest member of the epoch comes to vote for what its leader offers
  pub all_voted : Shows r payload w (IsVotedFor r payload view lead start_low)
  all_voted = go set
    where
      set : Shows r payload w IsSet
      set =
          shows_then r payload w (IsMade r none payload view lead start_low) IsSet
          (make_offer r none payload view lead welcome room refl script w cluster clear each m at)
          (λ u way k. leads_shows r payload u IsSet (sets u way k))

      go : Shows r payload w IsSet
          → Shows r payload w (IsVotedFor r payload view lead start_low)
      go (inr twins) = inr twins
      go (inl g) =
          all_vote r none payload view lead room refl coder w g.holds.0 g.world g.way g.holds.1
          g.holds.2 g.holds.3

  comes : (u : World) → Way r w payload AnyVote u
      → IsVotedFor r payload view lead start_low u → ComeToVotes r w payload view
  unfolding as_come
  comes u way s = record {
    offered = as_come r none payload view lead refl w u way s.terms s.offered s.lives;
    voted = λ i n there is. by_kept i is (way.kept i n there);
  }
    where
      by_kept : (i : ℕ) → is_member r.epochs 0 i ≡ true → {xs : List Note}
          → ((y : Member) × (member_at u i ≡ Some y) × Later xs (member_notes y))
          → HasBacked u s.terms.proposal i
      by_kept i is (y, there, _) =
          backed r none payload view lead way.path.script u way.path.cluster way.path.clear
          s.terms.proposal s.offered.new.is_view s.offered.calm i y there (s.lives i y there)
          (s.voted i is y there)

  pub all_notarize : ComeToVotes r w payload view ⊎ ComesToTwins r w payload
  all_notarize = go all_voted
    where
      go : Shows r payload w (IsVotedFor r payload view lead start_low)
          → ComeToVotes r w payload view ⊎ ComesToTwins r w payload
      go (inr twins) = inr twins
      go (inl g) = inl (comes g.world g.way g.holds)
