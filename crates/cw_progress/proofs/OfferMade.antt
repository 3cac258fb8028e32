-- In one epoch without end: the leader of a view that all are in comes to an offer.
use Rattle.std.proofs.Common.{◌≡◌, ℕ, ◌+◌, ◌-◌, ◌<◌, ◌≤◌, ◌^◌, true, false, ◌==◌, List, Some, None, length, refl, sym, ◌∙◌, ap, subst, inl, inr, ◌⊎◌, arith, eqb-true, length-append}
use Rattle.std.proofs.lemmas.Bool.{and_parts, cases_Bool, false≢true}
use Rattle.cw_types.specs.declared.note.Note.{Note}
use Rattle.cw_types.specs.declared.vote.Proposal.{Proposal}
use Rattle.cw_types.specs.declared.vote.Vote.{Vote}
use Rattle.cw_types.specs.declared.vote.Vote.TheVariants.{Finalize, Notarize}
use Rattle.cw_types.specs.Block.{Block}
use Rattle.cw_types.specs.Epochs.{leader}
use Rattle.cw_types.specs.Votes.{vote_epoch, vote_view}
use Rattle.cw_types.proofs.Same.{same_vote_self}
use Rattle.cw_rules.specs.Direct.{best_parent}
use Rattle.cw_rules.specs.Notes.{has_vote, is_vote, view_of}
use Rattle.cw_rules.specs.Owed.{closes, has_closed, is_closing, is_of}
use Rattle.cw_rules.specs.Reached.{In, IsCluster, ReachesClear}
use Rattle.cw_rules.specs.Rules.{Rules}
use Rattle.cw_rules.specs.Step.{Member, member_notes, nothing_came}
use Rattle.cw_rules.specs.World.{Line, Sent, World, member_at}
use Rattle.cw_progress.specs.Going.{helps}
use Rattle.cw_progress.specs.Offered.{ComeToOffer, ComesToTwins, HasBacked, IsOffer, IsWelcome}
use Rattle.cw_progress.specs.Over.{ComesToClash}
use Rattle.cw_progress.specs.Views.{IsInView, IsNewTo}
use Rattle.cw_progress.proofs.Ends.{ends_here}
use Rattle.cw_progress.proofs.Latest.{HasTop, Known, Ready, Unknown, cert_stands, epoch_first, final_first, ready_on, top_later}
use Rattle.cw_progress.proofs.OfferBuilt.{offering_fits, offering_later}
use Rattle.cw_progress.proofs.OfferCalm.{IsCalm, calm_first, calm_on, cert_under}
use Rattle.cw_progress.proofs.OfferGives.{HasAt}
use Rattle.cw_progress.proofs.OfferLeader.{IsPrepared, prepare}
use Rattle.cw_progress.proofs.OfferParents.{HasBest, Best}
use Rattle.cw_progress.proofs.OfferProposed.{IsFor, IsOffered, Terms, offer0, offer_turn}
use Rattle.cw_progress.proofs.OfferTurn.{AnyVote, Shows, clash_twins, new_on, shows_then}
use Rattle.cw_progress.proofs.OneView.{IsReady, Leads, numbered, numbers, told_last}
use Rattle.cw_progress.proofs.Outs.{new_lower}
use Rattle.cw_progress.proofs.Quorum.{any_in, in_any}
use Rattle.cw_progress.proofs.Rounds.{AreIdleIn, IsIdle, all_idle}
use Rattle.cw_progress.proofs.Stages.{Later}
use Rattle.cw_progress.proofs.Turns.{Idles, restart_way}
use Rattle.cw_progress.proofs.Ways.{Goes, NoVote, Way, goes_then, goes_weaker}

-- ---- ways

module _ (r : Rules) (payload : List ℕ) where
  -- where a way leads, by the way too
  pub goes_map : (New : Vote → Type 0) (w : World) (P Q : World → Type 0)
      → ((u : World) → Way r w payload New u → P u → Q u)
      → Goes r w payload New P ⊎ ComesToClash r w (helps w payload)
      → Goes r w payload New Q ⊎ ComesToClash r w (helps w payload)
  goes_map New w P Q f (inr clash) = inr clash
  goes_map New w P Q f (inl g) =
      inl (record { world = g.world; way = g.way; holds = f g.world g.way g.holds })

  shows_map : (w : World) (P Q : World → Type 0)
      → ((u : World) → Way r w payload AnyVote u → P u → Q u) → Shows r payload w P
      → Shows r payload w Q
  shows_map w P Q f (inr twins) = inr twins
  shows_map w P Q f (inl g) =
      inl (record { world = g.world; way = g.way; holds = f g.world g.way g.holds })

  pub leads_shows : (w : World) (P : World → Type 0)
      → Goes r w payload NoVote P ⊎ ComesToClash r w (helps w payload) → Shows r payload w P
  leads_shows w P x =
      go (goes_weaker r payload NoVote AnyVote (λ v h. absurd h) w P x)
    where
      go : Goes r w payload AnyVote P ⊎ ComesToClash r w (helps w payload)
          → Shows r payload w P
      go (inr clash) = inr (clash_twins r w payload clash)
      go (inl g) = inl g

-- ---- the offer

module _ (r : Rules) (none : r.epochs.span ≡ None) (payload : List ℕ) (view l : ℕ) where
  -- the last final view is below one that all are in
  final_low : (script : List Line) (u : World) → IsCluster r script → ReachesClear r script u
      → (Voted : Vote → Type 0) → IsCalm view Voted u → (fin : ℕ) (a : Block) → Ready r u fin a
      → fin < view
  final_low script u cluster clear Voted calm fin a k = go k.top
    where
      here : view_of (member_notes k.member) 0 ≡ view
      here = calm.here k.number k.member k.there

      go : HasTop r fin a (member_notes k.member) → fin < view
      go (Unknown z e) = omega (arith, z, here)
      go (Known p cert is holds) =
          let of =
          final_first r none script u cluster clear p
          (cert_stands r none script u cluster clear k.number k.member k.there (Finalize p) cert)
          in
          let low =
          cert_under (member_notes k.member) (Finalize p) cert p.view
          (ends_here 0 p.epoch p.view p.view of refl) in
          omega (arith, low, here, is)

  -- all are calm, and some member has the last finalization
  record IsTold (u : World) : Type 0 where
    calm : IsCalm view NoVote u
    fin : ℕ
    top : Block
    ready : Ready r u fin top
    member : Member
    there : member_at u l ≡ Some member

  record IsPreparedIn (u : World) : Type 0 where
    calm : IsCalm view NoVote u
    fin : ℕ
    top : Block
    ready : Ready r u fin top
    prepared : HasAt r none payload (IsPrepared r none payload view fin top l NoVote view) l u

  -- the leader is idle too
  record IsReadied (u : World) : Type 0 where
    calm : IsCalm view NoVote u
    fin : ℕ
    top : Block
    ready : Ready r u fin top
    member : Member
    there : member_at u l ≡ Some member
    live : member.live ≡ true
    came : member.came ≡ nothing_came
    has_top : HasTop r fin top (member_notes member)
    best : HasBest r (member_notes member) view

  told : (script : List Line) (w : World) → IsCluster r script → ReachesClear r script w
      → IsCalm view NoVote w → (m : Member) → member_at w l ≡ Some m
      → Leads r none payload w IsTold
  told script w cluster clear calm m at =
      goes_map r payload NoVote w (IsReady r none payload) IsTold so
      (told_last r none payload script w cluster clear l m at)
    where
      so : (u : World) → Way r w payload NoVote u → IsReady r none payload u → IsTold u
      so u way (fin, a, ready) =
          let (y, there, later) = way.kept l m at in
          record {
            calm = calm_on r none view payload NoVote w u way calm;
            fin = fin;
            top = a;
            ready = ready;
            member = y;
            there = there;
          }

  prepared_in : (script : List Line) (u : World) → IsCluster r script → ReachesClear r script u
      → IsTold u → Leads r none payload u IsPreparedIn
  prepared_in script u cluster clear k =
      goes_map r payload NoVote u
      (HasAt r none payload (IsPrepared r none payload view k.fin k.top l NoVote view) l)
      IsPreparedIn so
      (subst
      (λ x. Leads r none payload u
      (HasAt r none payload (IsPrepared r none payload view k.fin k.top l NoVote x) l))
      same
      (prepare r none payload view k.fin k.top l NoVote (view - (k.fin + 1))
      (omega (arith, low)) script u cluster clear k.ready k.calm k.member k.there))
    where
      low : k.fin < view
      low = final_low script u cluster clear NoVote k.calm k.fin k.top k.ready

      same : k.fin + 1 + (view - (k.fin + 1)) ≡ view
      same = omega (arith, low)

      so : (v : World) → Way r u payload NoVote v
          → HasAt r none payload (IsPrepared r none payload view k.fin k.top l NoVote view) l v
          → IsPreparedIn v
      so v way h = record {
        calm = calm_on r none view payload NoVote u v way k.calm;
        fin = k.fin;
        top = k.top;
        ready = ready_on r u payload NoVote (λ p x. x) v k.fin k.top way k.ready;
        prepared = h;
      }

  readied : (script : List Line) (u : World) → IsCluster r script → ReachesClear r script u
      → IsPreparedIn u → Leads r none payload u IsReadied
  readied script u cluster clear k = by_prepared k.prepared
    where
      by_prepared : HasAt r none payload
          (IsPrepared r none payload view k.fin k.top l NoVote view) l u
          → Leads r none payload u IsReadied
      by_prepared (z, there, (top, best)) =
          goes_map r payload NoVote u (Idles r payload u l z) IsReadied so
          (inl (restart_way r payload script u cluster clear l z there))
        where
          so : (v : World) → Way r u payload NoVote v → Idles r payload u l z v → IsReadied v
          so v way i = record {
            calm = calm_on r none view payload NoVote u v way k.calm;
            fin = k.fin;
            top = k.top;
            ready = ready_on r u payload NoVote (λ p x. x) v k.fin k.top way k.ready;
            member = i.fresh.member;
            there = i.fresh.there;
            live = i.fresh.live;
            came = i.fresh.nothing;
            has_top = subst (λ ns. HasTop r k.fin k.top ns) (sym i.fresh.same) top;
            best = subst (λ ns. HasBest r ns view) (sym i.fresh.same) best;
          }

  leader_readied : (script : List Line) (w : World) → IsCluster r script → ReachesClear r script w
      → IsCalm view NoVote w → (m : Member) → member_at w l ≡ Some m
      → Leads r none payload w IsReadied
  leader_readied script w cluster clear calm m at =
      goes_then r payload NoVote w IsPreparedIn IsReadied
      (goes_then r payload NoVote w IsTold IsPreparedIn (told script w cluster clear calm m at)
      (λ u way k. prepared_in way.path.script u way.path.cluster way.path.clear k))
      (λ u way k. readied way.path.script u way.path.cluster way.path.clear k)

  -- an offer whose parts are new from that number on
  abbrev pub IsMade : ℕ → World → Type 0
  IsMade low u = (x : Terms) × IsOffered r payload view l x low u

  made_lower : (low high : ℕ) → low ≤ high → (u : World) (x : Terms)
      → IsOffered r payload view l x high u → IsOffered r payload view l x low u
  made_lower low high le u x k = record {
    new = k.new;
    late = k.late;
    calm = k.calm;
    ready = k.ready;
    member = k.member;
    there = k.there;
    top = k.top;
    offers = k.offers;
    sent = λ o h. new_lower low high u l o le (k.sent o h);
  }

  -- it stays one
  pub made_on : (low : ℕ) (u v : World) → Way r u payload NoVote v → (x : Terms)
      → IsOffered r payload view l x low u → IsOffered r payload view l x low v
  made_on low u v way x k = by_kept (way.kept l k.member k.there)
    where
      by_kept : ((y : Member) × (member_at v l ≡ Some y)
          × Later (member_notes k.member) (member_notes y))
          → IsOffered r payload view l x low v
      by_kept (y, there, later) = record {
        new = k.new;
        late = k.late;
        calm = calm_on r none view payload (IsFor x.proposal) u v way k.calm;
        ready = ready_on r u payload NoVote (λ p h. h) v x.final_view x.final_block way k.ready;
        member = y;
        there = there;
        top =
            top_later r x.final_view x.final_block (member_notes k.member) (member_notes y) later
            k.top;
        offers =
            offering_later r x.proposal x.block x.over x.parent (member_notes k.member)
            (member_notes y) later k.offers;
        sent = λ o h. new_on low u v way.more way.pool l o (k.sent o h);
      }

  pub make_offer : IsWelcome r payload → view < 2 ^ 64 - 1 → leader r.epochs 0 view ≡ l
      → (script : List Line) (w : World) → IsCluster r script → ReachesClear r script w
      → ((i : ℕ) (m : Member) → member_at w i ≡ Some m → IsNewTo w i view)
      → (m : Member) → member_at w l ≡ Some m → Shows r payload w (IsMade (length w.pool))
  make_offer welcome room leads script w cluster clear each m at =
      shows_then r payload w IsReadied (IsMade (length w.pool))
      (leads_shows r payload w IsReadied
      (leader_readied script w cluster clear
      (calm_first r none view script w cluster clear each) m at))
      next
    where
      next : (u : World) → Way r w payload AnyVote u → IsReadied u
          → Shows r payload u (IsMade (length w.pool))
      next u way k =
          let (best, found) = k.best in
          shows_map r payload u
          (IsOffered r payload view l (x k best found) (length u.pool)) (IsMade (length w.pool))
          (λ v more o. (
            x k best found,
            made_lower (length w.pool) (length u.pool) longer v (x k best found) o,
          ))
          (offer_turn r none payload welcome view room way.path.script u way.path.cluster
          way.path.clear l k.member k.there k.live k.came leads k.calm k.fin k.top k.ready
          k.has_top best found)
        where
          x : (k : IsReadied u) (best : Best)
              → best_parent r (member_notes k.member) 0 view ≡ Some best → Terms
          x k best found =
              offer0 r none payload welcome view room way.path.script u way.path.cluster
              way.path.clear l k.member k.there k.live k.came leads k.calm k.fin k.top k.ready
              k.has_top best found

          longer : length w.pool ≤ length u.pool
          longer =
              let e = ap (λ (ps : List Sent). length ps) way.pool in
              omega (arith, e, length-append w.pool way.more)

  -- ---- all idle

  -- each honest member is live, and nothing has come to it
  abbrev pub AreAllIdle : World → Type 0
  AreAllIdle u = (j : ℕ) (n : Member) → member_at u j ≡ Some n → IsIdle r none payload n

  idle_all : (low : ℕ) (script : List Line) (u : World) → IsCluster r script
      → ReachesClear r script u → IsMade low u
      → Leads r none payload u (λ v. IsMade low v × AreAllIdle v)
  idle_all low script u cluster clear (x, k) =
      goes_map r payload NoVote u (AreIdleIn r none payload view (numbers u))
      (λ v. IsMade low v × AreAllIdle v) so
      (all_idle r none payload view (numbers u) script u cluster clear k.calm.here)
    where
      so : (v : World) → Way r u payload NoVote v
          → AreIdleIn r none payload view (numbers u) v → IsMade low v × AreAllIdle v
      so v way h = (
        (x, made_on low u v way x k),
        λ j n at.
            let (y, there) = way.back j n at in h.0 j (numbered u j y there) n at,
      )

  -- ---- who has voted

  module _ (script : List Line) (u : World) (cluster : IsCluster r script)
      (clear : ReachesClear r script u) (p : Proposal) (is_view : p.view ≡ view)
      (calm : IsCalm view (IsFor p) u) (i : ℕ) (m : Member) (at : member_at u i ≡ Some m)
      (live : m.live ≡ true) where
    pub in_view : IsInView u i view
    in_view = record {
      member = m;
      there = at;
      live = live;
      epoch_is = epoch_first r none script u cluster clear i m at;
      view_is = calm.here i m at;
    }

    pub unclosed : has_closed (member_notes m) 0 p.view ≡ false
    unclosed = go (cases_Bool (has_closed (member_notes m) 0 p.view))
      where
        closing : (v : Vote) → is_closing v ≡ true → v ≡ Notarize p → ⊥
        closing v t e = false≢true (subst (λ x. is_closing x ≡ true) e t)

        by_note : (x : Note) → In x (member_notes m) → closes 0 p.view x ≡ true → ⊥
        by_note (Note.Vote v) inside e =
            let a = and_parts (is_closing v) (is_of 0 p.view v) e in
            let b = and_parts (vote_epoch v == 0) (vote_view v == p.view) a.1 in
            closing v a.0
            (calm.votes v (record {
              number = i;
              member = m;
              there = at;
              voted =
                  in_any (is_vote v) (member_notes m) (Note.Vote v) inside (same_vote_self v);
            })
            (eqb-true (vote_epoch v) 0 b.0) (eqb-true (vote_view v) p.view b.1 ∙ is_view))
        by_note (Note.Verified y z c) inside e = false≢true e
        by_note (Note.Block c b) inside e = false≢true e
        by_note (Note.Cert s) inside e = false≢true e
        by_note (Note.Certified q) inside e = false≢true e
        by_note (Note.Ack y) inside e = false≢true e
        by_note (Note.Floor y) inside e = false≢true e
        by_note (Note.Prune y) inside e = false≢true e
        by_note (Note.Epoch y c) inside e = false≢true e

        go : (has_closed (member_notes m) 0 p.view ≡ true)
            ⊎ (has_closed (member_notes m) 0 p.view ≡ false)
            → has_closed (member_notes m) 0 p.view ≡ false
        go (inr f) = f
        go (inl t) =
            let (x, inside, e) = any_in (closes 0 p.view) (member_notes m) t in
            absurd (by_note x inside e)

    abbrev pub backed : has_vote (member_notes m) (Notarize p) ≡ true → HasBacked u p i
    backed voted = record {
      in_view =
          record {
            member = m;
            there = at;
            live = live;
            epoch_is = epoch_first r none script u cluster clear i m at;
            view_is = calm.here i m at ∙ sym is_view;
          };
      voted = voted;
      unclosed = unclosed;
    }

  -- ---- the offer, as the law says it

  pub as_offer : leader r.epochs 0 view ≡ l → (low : ℕ) (script : List Line) (u : World)
      → IsCluster r script → ReachesClear r script u → (x : Terms)
      → (k : IsOffered r payload view l x low u) → k.member.live ≡ true
      → IsOffer r u payload view x.proposal
  as_offer leads low script u cluster clear x k live = record {
    epoch_is = k.new.first;
    view_is = k.new.is_view;
    backed =
        backed script u cluster clear x.proposal k.new.is_view k.calm (leader r.epochs 0 view)
        k.member (ap (member_at u) leads ∙ k.there) live k.offers.voted;
    block = x.block;
    payload_is = k.new.carries;
    holds = k.offers.holds;
    fits =
        offering_fits r payload view x.proposal x.block x.over x.parent (member_notes k.member)
        k.new k.offers;
  }

  unfoldable pub as_come : leader r.epochs 0 view ≡ l → (w u : World) → Way r w payload AnyVote u
      → (x : Terms) → IsOffered r payload view l x (length w.pool) u
      → ((j : ℕ) (n : Member) → member_at u j ≡ Some n → n.live ≡ true)
      → ComeToOffer r w payload view
  as_come leads w u way x k lives = record {
    lines = way.path.lines;
    are = way.path.are;
    after = u;
    ends = way.path.ends;
    proposal = x.proposal;
    offer =
        as_offer leads (length w.pool) way.path.script u way.path.cluster way.path.clear x k
        (lives l k.member k.there);
    each = λ i m at. by_kept i m (way.kept i m at);
  }
    where
      by_kept : (i : ℕ) (m : Member)
          → ((y : Member) × (member_at u i ≡ Some y)
          × Later (member_notes m) (member_notes y))
          → IsInView u i view
      by_kept i m (y, there, later) =
          in_view way.path.script u way.path.cluster way.path.clear x.proposal k.new.is_view
          k.calm i y there (lives i y there)

-- the leader of the view that all are in can make an offer
pub proposes : (r : Rules) (script : List Line) (w : World) → r.epochs.span ≡ None
    → IsCluster r script → ReachesClear r script w
    → (payload : List ℕ) → IsWelcome r payload → (view : ℕ) → view < 2 ^ 64 - 1
    → ((i : ℕ) (m : Member) → member_at w i ≡ Some m → IsNewTo w i view)
    → (m : Member) → member_at w (leader r.epochs 0 view) ≡ Some m
    → ComeToOffer r w payload view ⊎ ComesToTwins r w payload
proposes r script w none cluster clear payload welcome view room each m at =
    go
    (shows_then r payload w (Made (length w.pool)) (λ v. Made (length w.pool) v × Idle v)
    (make_offer r none payload view l welcome room refl script w cluster clear each m at)
    (λ u way k.
    leads_shows r payload u (λ v. Made (length w.pool) v × Idle v)
    (idle_all r none payload view l (length w.pool) way.path.script u way.path.cluster
    way.path.clear k)))
  where
    l : ℕ
    l = leader r.epochs 0 view

    Made : ℕ → World → Type 0
    Made = IsMade r none payload view l

    Idle : World → Type 0
    Idle = AreAllIdle r none payload view l

    go : Shows r payload w (λ v. Made (length w.pool) v × Idle v)
        → ComeToOffer r w payload view ⊎ ComesToTwins r w payload
    go (inr twins) = inr twins
    go (inl g) =
        inl
        (as_come r none payload view l refl w g.world g.way g.holds.0.0 g.holds.0.1
        (λ j n there. (g.holds.1 j n there).0))
