-- In one epoch without end, what the honest members voted for and one of them holds a block for comes
-- to be certified by all of them.
use Rattle.std.proofs.Common.{◌≡◌, ℕ, ◌<◌, ◌≤◌, true, List, [], ◌∷◌, ◌++◌, Option, Some, None, filter_map, refl, sym, ◌∙◌, ap, subst, inl, inr, ◌⊎◌, arith, append-nil}
use Rattle.std.specs.List.{AllByRecursion}
use Rattle.std.proofs.lemmas.Bool.{cases_eq, cases_lt, false≢true}
use Rattle.std.proofs.lemmas.List.Elements.{filter_map-append}
use Rattle.std.proofs.lemmas.Option.{same_Some}
use Rattle.cw_types.specs.declared.message.Message.{Message}
use Rattle.cw_types.specs.declared.note.Note.{Note}
use Rattle.cw_types.specs.declared.vote.Proposal.{Proposal}
use Rattle.cw_types.specs.declared.vote.Vote.{Vote}
use Rattle.cw_types.specs.declared.vote.Vote.TheVariants.{Finalize, Notarize, Nullify}
use Rattle.cw_types.specs.Block.{Block}
use Rattle.cw_types.specs.Epochs.{is_member}
use Rattle.cw_types.specs.Votes.{vote_view, well_formed}
use Rattle.cw_rules.specs.Chains.{Ends, block_under, outcome}
use Rattle.cw_rules.specs.Fits.{block_fits}
use Rattle.cw_rules.specs.Held.{finalization_of, greatest_prune, held}
use Rattle.cw_rules.specs.Notes.{ended, ended_by, has_cert, has_certified, has_vote, is_cert, view_of}
use Rattle.cw_rules.specs.Reached.{In, IsCluster, ReachesClear, members_of}
use Rattle.cw_rules.specs.Rules.{Rules}
use Rattle.cw_rules.specs.Sends.{to_all}
use Rattle.cw_rules.specs.Stands.{Stands}
use Rattle.cw_rules.specs.Step.{Member, member_notes}
use Rattle.cw_rules.specs.World.{Line, World, member_at, run}
use Rattle.cw_rules.proofs.Certified.{Fitting, fitting}
use Rattle.cw_rules.proofs.Fits.{fit_positive}
use Rattle.cw_rules.proofs.Lists.{all_both, in_left}
use Rattle.cw_rules.proofs.NoteLemmas.{any_front}
use Rattle.cw_progress.specs.Fresh.{IsFresh}
use Rattle.cw_progress.specs.Going.{helps}
use Rattle.cw_progress.specs.Over.{ComesToClash}
use Rattle.cw_progress.specs.Sent.{IsSent}
use Rattle.cw_progress.specs.Settling.{ComeToCertified, HasCertified, IsBacker}
use Rattle.cw_progress.specs.Tops.{final_top}
use Rattle.cw_progress.proofs.Certifies.{certifies, held_is, keeps, lawful, noted_is}
use Rattle.cw_progress.proofs.Ends.{cert_note, certified_in_notes, ends_here, has_noted}
use Rattle.cw_progress.proofs.Finals.{fits_on}
use Rattle.cw_progress.proofs.Fresh.{all_fresh}
use Rattle.cw_progress.proofs.Latest.{HasTop, Known, Ready, Unknown, cert_stands, final_first, final_noted, gave_up_low, knows_none, ready_on, top_base, top_later}
use Rattle.cw_progress.proofs.Noted.{noted_sent}
use Rattle.cw_progress.proofs.OneView.{IsReady, numbered, numbers, told_last, top_to}
use Rattle.cw_progress.proofs.Outs.{mapped_in}
use Rattle.cw_progress.proofs.Paths.{clear_reaches, outcome_both}
use Rattle.cw_progress.proofs.Quiet.{IsFinal}
use Rattle.cw_progress.proofs.Rising.{certified_held}
use Rattle.cw_progress.proofs.Rounds.{Brings, here_way}
use Rattle.cw_progress.proofs.Settling.{all_stands, has_certified_it, has_voted_for_it, rises_more}
use Rattle.cw_progress.proofs.SettlingViews.{EndsLow, near_fresh}
use Rattle.cw_progress.proofs.SettlingVoters.{nullifier_belongs}
use Rattle.cw_progress.proofs.SettlingVotes.{HasIt, IsThat, one_told, sent_later}
use Rattle.cw_progress.proofs.Stages.{Arrives, Later, later_held, later_in}
use Rattle.cw_progress.proofs.Tops.{in_greatest, in_top, top_at}
use Rattle.cw_progress.proofs.Chains.{chain_lands}
use Rattle.cw_progress.proofs.Valid.{cert_has, stands_formed, vote_in}
use Rattle.cw_progress.proofs.Ways.{HasSome, HasVote, NoVote, Way, all_so, goes_then, goes_weaker, helps_before, stage_way, way_on}

-- a noted certificate stays
pub cert_later : (v : Vote) (xs ys : List Note) → Later xs ys → has_cert xs v ≡ true
    → has_cert ys v ≡ true
cert_later v xs ys k h =
    subst (λ ns. has_cert ns v ≡ true) (sym k.joined) (any_front (is_cert v) xs k.more h)

-- so does a block that is one for a proposal
fits_later : (r : Rules) (p : Proposal) (xs ys : List Note) → Later xs ys
    → block_fits r xs p ≡ true → block_fits r ys p ≡ true
fits_later r p xs ys k h =
    subst (λ ns. block_fits r ns p ≡ true) (sym k.joined)
    (fits_on r xs k.more (ap greatest_prune (sym k.joined) ∙ k.prune) p h)

-- more notes tell of no lower final block
pub top_grows : (r : Rules) (xs ys : List Note) → Later xs ys → final_top r xs ≤ final_top r ys
top_grows r xs ys k = go (cases_lt 0 (final_top r xs))
  where
    go : (0 < final_top r xs) ⊎ (final_top r xs ≤ 0) → final_top r xs ≤ final_top r ys
    go (inr le) = omega (arith, le)
    go (inl pos) =
        let (p, b, inside, holds, same) = top_at r xs pos in
        omega (
          arith,
          same,
          in_top r ys p b
              (subst (λ ns. In p (filter_map finalization_of ns)) (sym k.joined)
              (subst (In p) (sym (filter_map-append finalization_of xs k.more))
              (in_left p (filter_map finalization_of xs) (filter_map finalization_of k.more)
              inside)))
              (later_held r xs ys k p.payload b holds),
        )

-- ---- what one member certified goes to all

module _ (r : Rules) (none : r.epochs.span ≡ None) (payload : List ℕ) (p : Proposal)
    (first : p.epoch ≡ 0) where
  abbrev Leads : World → (World → Type 0) → Type 0
  Leads w P = Brings r none payload NoVote w P

  abbrev AreCertified : List ℕ → World → Type 0
  AreCertified xs u =
      (j : ℕ) → In j xs → (n : Member) → member_at u j ≡ Some n
      → has_certified (member_notes n) p ≡ true

  -- the member has certified it, and has the last finalization, which is of an earlier view
  record IsGiver (u : World) (i : ℕ) : Type 0 where
    view : ℕ
    block : Block
    ready : Ready r u view block
    member : Member
    there : member_at u i ≡ Some member
    top : HasTop r view block (member_notes member)
    said : In (Note.Certified p) (member_notes member)
    above : view < p.view

  giver_on : (u v : World) (i : ℕ) → Way r u payload NoVote v → IsGiver u i → IsGiver v i
  giver_on u v i way k =
      let (y, still, later) = way.kept i k.member k.there in
      record {
        view = k.view;
        block = k.block;
        ready = ready_on r u payload NoVote (λ q h. h) v k.view k.block way k.ready;
        member = y;
        there = still;
        top = top_later r k.view k.block (member_notes k.member) (member_notes y) later k.top;
        said = later_in (member_notes k.member) (member_notes y) later (Note.Certified p) k.said;
        above = k.above;
      }

  abbrev IsCertifier : ℕ → World → Type 0
  IsCertifier x v =
      (z : Member) × (member_at v x ≡ Some z) × (has_certified (member_notes z) p ≡ true)

  -- it goes to one
  to_one : (script : List Line) (u : World) → IsCluster r script → ReachesClear r script u
      → (i : ℕ) → IsGiver u i → (j : ℕ) (n : Member) → member_at u j ≡ Some n
      → Leads u (IsCertifier j)
  to_one script u cluster clear i k j n there = go (cases_eq i j)
    where
      m : Member
      m = k.member

      go : (i ≡ j) ⊎ (i ≡ j → ⊥) → Leads u (IsCertifier j)
      go (inl same) =
          here_way r none payload NoVote script u cluster clear (IsCertifier j) (
            m,
            ap (member_at u) (sym same) ∙ k.there,
            has_noted p (member_notes m) k.said,
          )
      go (inr differ) =
          land
          (chain_lands r script u cluster clear payload i j m n k.there there 0 k.view k.block
          (top_base r none script u cluster clear k.view k.block k.ready i m k.there k.top
          (member_notes n))
          (knows_none r none script u cluster clear k.view k.block k.ready i m k.there)
          (gave_up_low r none script u cluster clear k.view k.block k.ready j n there) differ p
          k.said first k.above)
        where
          land : Arrives r u payload i j differ (member_notes m) (member_notes n)
              (λ notes. has_certified notes p)
              ⊎ ComesToClash r u (helps u payload)
              → Leads u (IsCertifier j)
          land (inr clash) = inr clash
          land (inl x) =
              inl (record {
                world = x.world;
                way =
                    stage_way r payload NoVote u i j m n k.there there x.world x.giver x.taker
                    x.stage;
                holds = (x.taker, x.stage.takes_at, x.passes);
              })

  abbrev AllCertified : List ℕ → Type 0
  AllCertified xs =
      (script : List Line) (u : World) → IsCluster r script → ReachesClear r script u
      → (i : ℕ) → IsGiver u i → Leads u (AreCertified xs)

  -- it goes to all of these
  to_all_of : (xs : List ℕ) → AllCertified xs
  to_all_of [] script u cluster clear i k =
      here_way r none payload NoVote script u cluster clear (AreCertified [])
      (λ j h n there. absurd h)
  to_all_of (x ∷ xs) script u cluster clear i k =
      goes_then r payload NoVote u (AreCertified xs) (AreCertified (x ∷ xs))
      (to_all_of xs script u cluster clear i k) next
    where
      next : (v : World) → Way r u payload NoVote v → AreCertified xs v
          → Leads v (AreCertified (x ∷ xs))
      next v way h = by_there (member_at v x) refl
        where
          both : (t : World) → Way r v payload NoVote t
              → ((n : Member) → member_at t x ≡ Some n → has_certified (member_notes n) p ≡ true)
              → AreCertified (x ∷ xs) t
          both t more own j (inl same) n there =
              own n (ap (member_at t) (sym same) ∙ there)
          both t more own j (inr inside) n there = by_back (more.back j n there)
            where
              by_back : ((z : Member) × (member_at v j ≡ Some z))
                  → has_certified (member_notes n) p ≡ true
              by_back (z, before) =
                  let (y, still, later) = more.kept j z before in
                  let one : y ≡ n = same_Some y n (sym still ∙ there) in
                  subst (λ (q : Member). has_certified (member_notes q) p ≡ true) one
                  (has_noted p (member_notes y)
                  (later_in (member_notes z) (member_notes y) later (Note.Certified p)
                  (certified_in_notes p (member_notes z) (h j inside z before))))

          land : Leads v (IsCertifier x) → Leads v (AreCertified (x ∷ xs))
          land (inr clash) = inr clash
          land (inl g) =
              inl (record {
                world = g.world;
                way = g.way;
                holds = both g.world g.way (own g.holds);
              })
            where
              own : IsCertifier x g.world → (n : Member) → member_at g.world x ≡ Some n
                  → has_certified (member_notes n) p ≡ true
              own (z, there, certified) n at =
                  subst (λ (q : Member). has_certified (member_notes q) p ≡ true)
                  (same_Some z n (sym there ∙ at)) certified

          by_there : (o : Option Member) → member_at v x ≡ o → Leads v (AreCertified (x ∷ xs))
          by_there None e =
              here_way r none payload NoVote way.path.script v way.path.cluster way.path.clear
              (AreCertified (x ∷ xs)) absent
            where
              absent : AreCertified (x ∷ xs) v
              absent j (inl same) n there =
                  let y : ◌≡◌ {A = Option Member} None (Some n) =
                  sym e ∙ (ap (member_at v) (sym same) ∙ there) in
                  absurd (cc y)
              absent j (inr inside) n there = h j inside n there
          by_there (Some n) e =
              land
              (to_one way.path.script v way.path.cluster way.path.clear i
              (giver_on u v i way k) x n e)

  -- ---- from the votes

  module _ (script : List Line) (w : World) (cluster : IsCluster r script)
      (clear : ReachesClear r script w)
      (each : (i : ℕ) (m : Member) → member_at w i ≡ Some m → IsBacker r w p i) (i : ℕ)
      (m : Member) (at : member_at w i ≡ Some m) (holds : block_fits r (member_notes m) p ≡ true)
    where
      that : Vote
      that = Notarize p

      abbrev To : World → (World → Type 0) → Type 0
      To u P = Brings r none payload (IsThat (Notarize p)) u P

      -- each honest member of the epoch has the vote
      voted : (k : ℕ) (x : Member) → member_at w k ≡ Some x → is_member r.epochs 0 k ≡ true
          → has_vote (member_notes x) (Notarize p) ≡ true
      voted k x there is =
          let b = each k x there in
          subst (λ (q : Member). has_vote (member_notes q) (Notarize p) ≡ true)
          (same_Some b.in_view.member x (sym b.in_view.there ∙ there)) (b.voted is)

      live : (k : ℕ) (x : Member) → member_at w k ≡ Some x → x.live ≡ true
      live k x there =
          let b = each k x there in
          subst (λ (q : Member). q.live ≡ true)
          (same_Some b.in_view.member x (sym b.in_view.there ∙ there)) b.in_view.live

      in_view : (k : ℕ) (x : Member) → member_at w k ≡ Some x
          → view_of (member_notes x) 0 ≡ p.view
      in_view k x there =
          let b = each k x there in
          subst (λ (q : Member). view_of (member_notes q) 0 ≡ p.view)
          (same_Some b.in_view.member x (sym b.in_view.there ∙ there)) b.in_view.view_is

      stands : Stands r.epochs (members_of w) (Notarize p)
      stands =
          all_stands r script w cluster clear (Notarize p)
          (λ k x there is. voted k x there
          (subst (λ e. is_member r.epochs e k ≡ true) first is))

      formed : well_formed (Notarize p) ≡ true
      formed =
          stands_formed r (members_of w) (lawful r script w cluster clear)
          (keeps r script w cluster clear) (Notarize p) stands

      sent : (k : ℕ) (x : Member) → member_at w k ≡ Some x → is_member r.epochs 0 k ≡ true
          → IsSent w k (to_all (Message.Vote k (Notarize p)))
      sent k x there is =
          noted_sent r script w cluster (clear_reaches r script w clear) k x there (live k x there)
          (Note.Vote (Notarize p)) (Message.Vote k (Notarize p)) refl
          (vote_in (Notarize p) (member_notes x) (voted k x there is))

      -- what is finalized is of an earlier view
      final_before : (u : World) → Way r w payload (IsThat (Notarize p)) u → (q : Proposal)
          → HasSome u (Finalize q) → q.epoch ≡ 0 → q.view < p.view
      final_before u way q s of =
          by_source (way.certs s.number s.member s.there (Finalize q) s.noted)
        where
          by_source : HasSome w (Finalize q) ⊎ IsThat (Notarize p) (Finalize q) → q.view < p.view
          by_source (inr e) = cc e
          by_source (inl t) =
              let (c, inside, same) = cert_note (Finalize q) (member_notes t.member) t.noted in
              omega (
                arith,
                in_view t.number t.member t.there,
                in_greatest (filter_map (ended 0) (member_notes t.member)) q.view
                    (mapped_in (ended 0) (member_notes t.member) (Note.Cert c) q.view inside
                    (ap (ended_by 0) same ∙ ends_here 0 q.epoch q.view q.view of refl)),
              )

      ready_before : (u : World) → Way r w payload (IsThat (Notarize p)) u → (view : ℕ) (a : Block)
          → Ready r u view a → view < p.view
      ready_before u way view a k = by_top k.top
        where
          by_top : HasTop r view a (member_notes k.member) → view < p.view
          by_top (Unknown z e) = omega (arith, z, in_view i m at)
          by_top (Known q cert is holds_it) =
              omega (
                arith,
                is,
                final_before u way q
                    (record { number = k.number; member = k.member; there = k.there; noted = cert })
                    (final_first r none way.path.script u way.path.cluster way.path.clear q
                    (cert_stands r none way.path.script u way.path.cluster way.path.clear k.number
                    k.member k.there (Finalize q) cert)),
              )

      -- ---- the holder certifies it

      -- the holder has the last finalization
      record HasLast (u : World) : Type 0 where
        view : ℕ
        block : Block
        ready : Ready r u view block
        member : Member
        there : member_at u i ≡ Some member
        top : HasTop r view block (member_notes member)

      weaker : (u : World) (P : World → Type 0) → Leads u P → To u P
      weaker = goes_weaker r payload NoVote (IsThat (Notarize p)) (λ v h. absurd h)

      has_last : To w HasLast
      has_last =
          weaker w HasLast
          (goes_then r payload NoVote w (IsReady r none payload) HasLast
          (told_last r none payload script w cluster clear i m at) next)
        where
          next : (u : World) → Way r w payload NoVote u → IsReady r none payload u → Leads u HasLast
          next u way (view, a, ready) = by_kept (way.kept i m at)
            where
              land : Leads u
                  (λ v. (z : Member) × (member_at v i ≡ Some z) × HasTop r view a (member_notes z))
                  → Leads u HasLast
              land (inr clash) = inr clash
              land (inl g) =
                  let (z, there, top) = g.holds in
                  inl (record {
                    world = g.world;
                    way = g.way;
                    holds =
                        record {
                          view = view;
                          block = a;
                          ready =
                              ready_on r u payload NoVote (λ q h. h) g.world view a g.way ready;
                          member = z;
                          there = there;
                          top = top;
                        };
                  })

              by_kept : ((y : Member) × (member_at u i ≡ Some y)
                  × Later (member_notes m) (member_notes y))
                  → Leads u HasLast
              by_kept (y, there, later) =
                  land
                  (top_to r none payload way.path.script u way.path.cluster way.path.clear view a
                  ready i y there)

      gives : To w (λ u. IsGiver u i)
      gives =
          goes_then r payload (IsThat (Notarize p)) w HasLast (λ u. IsGiver u i) has_last next
        where
          next : (u : World) → Way r w payload (IsThat (Notarize p)) u → HasLast u
              → To u (λ v. IsGiver v i)
          next u way k =
              land
              (one_told r none payload (Notarize p) first formed way.path.script u way.path.cluster
              way.path.clear
              (sent_later r none payload (Notarize p) first formed w u way sent) i k.member k.there)
            where
              land : To u (HasIt r none payload (Notarize p) first formed i)
                  → To u (λ v. IsGiver v i)
              land (inr clash) = inr clash
              land (inl g) =
                  inl (record { world = g.world; way = g.way; holds = by_it g.holds })
                where
                  all : Way r w payload (IsThat (Notarize p)) g.world
                  all = way_on r payload (IsThat (Notarize p)) w u g.world way g.way

                  by_kept : (n : Member) → member_at g.world i ≡ Some n
                      → has_cert (member_notes n) (Notarize p) ≡ true
                      → ((y : Member) × (member_at g.world i ≡ Some y)
                      × Later (member_notes m) (member_notes y))
                      → ((y : Member) × (member_at g.world i ≡ Some y)
                      × Later (member_notes k.member) (member_notes y))
                      → IsGiver g.world i
                  by_kept n there cert (y, still, later) (z, then, more) =
                      let one : y ≡ n = same_Some y n (sym still ∙ there) in
                      let two : z ≡ n = same_Some z n (sym then ∙ there) in
                      let ready =
                      ready_on r u payload (IsThat (Notarize p)) (λ q e. cc e) g.world k.view
                      k.block g.way k.ready in
                      record {
                        view = k.view;
                        block = k.block;
                        ready = ready;
                        member = n;
                        there = there;
                        top =
                            subst (λ (q : Member). HasTop r k.view k.block (member_notes q)) two
                            (top_later r k.view k.block (member_notes k.member) (member_notes z)
                            more k.top);
                        said =
                            certified_in_notes p (member_notes n)
                            (has_certified_it r all.path.script g.world all.path.cluster
                            all.path.clear i n there p cert
                            (subst (λ (q : Member). block_fits r (member_notes q) p ≡ true) one
                            (fits_later r p (member_notes m) (member_notes y) later holds)));
                        above = ready_before g.world all k.view k.block ready;
                      }

                  by_it : HasIt r none payload (Notarize p) first formed i g.world
                      → IsGiver g.world i
                  by_it (n, there, cert) =
                      by_kept n there cert (all.kept i m at) (g.way.kept i k.member k.there)

      -- ---- all certify it

      certified : To w (AreCertified (numbers w))
      certified =
          goes_then r payload (IsThat (Notarize p)) w (λ u. IsGiver u i) (AreCertified (numbers w))
          gives
          (λ u way k. weaker u (AreCertified (numbers w))
          (to_all_of (numbers w) way.path.script u way.path.cluster way.path.clear i k))

      -- what is then so
      module _ (u : World) (way : Way r w payload (IsThat (Notarize p)) u)
          (done : AreCertified (numbers w) u) (fitted : Fitting r (member_notes m) p)
        where
          certifies_it : (k : ℕ) (y : Member) → member_at u k ≡ Some y
              → has_certified (member_notes y) p ≡ true
          certifies_it k y there =
              let (x, before) = way.back k y there in done k (numbered w k x before) y there

          unclosed : (k : ℕ) (y : Member) → member_at u k ≡ Some y
              → has_vote (member_notes y) (Nullify p.epoch p.view) ≡ true → ⊥
          unclosed k y there h = by_source (way.votes k y there (Nullify p.epoch p.view) h)
            where
              by_source : HasVote w (Nullify p.epoch p.view)
                  ⊎ (IsFinal (Nullify p.epoch p.view)
                  ⊎ IsThat (Notarize p) (Nullify p.epoch p.view))
                  → ⊥
              by_source (inr (inl f)) = f
              by_source (inr (inr e)) = cc e
              by_source (inl s) =
                  let b = each s.number s.member s.there in
                  let own =
                  subst (λ e. has_vote (member_notes s.member) (Nullify e p.view) ≡ true) first
                  s.voted in
                  false≢true
                  (sym
                  (b.unclosed
                  (nullifier_belongs r script w cluster (clear_reaches r script w clear) s.number
                  s.member s.there 0 p.view own))
                  ∙ subst (λ (q : Member). has_vote (member_notes q) (Nullify 0 p.view) ≡ true)
                  (same_Some s.member b.in_view.member (sym s.there ∙ b.in_view.there)) own)

          votes_it : (k : ℕ) (y : Member) → member_at u k ≡ Some y
              → is_member r.epochs p.epoch k ≡ true
              → has_vote (member_notes y) (Finalize p) ≡ true
          votes_it k y there is =
              has_voted_for_it r way.path.script u way.path.cluster way.path.clear k y there p
              (certifies_it k y there) is (unclosed k y there)

          stands_final : Stands r.epochs (members_of u) (Finalize p)
          stands_final =
              all_stands r way.path.script u way.path.cluster way.path.clear (Finalize p) votes_it

          under : block_under r u p.payload ≡ Some fitted.block
          under = by_kept (way.kept i m at)
            where
              by_kept : ((y : Member) × (member_at u i ≡ Some y)
                  × Later (member_notes m) (member_notes y))
                  → block_under r u p.payload ≡ Some fitted.block
              by_kept (y, there, later) =
                  held_is r way.path.script u way.path.cluster way.path.clear i y there
                  (member_notes m) later.more later.joined p.payload fitted.block fitted.holds

          -- its block is above all that anybody knows to be final
          higher : (k : ℕ) (y : Member) → member_at u k ≡ Some y
              → final_top r (member_notes y) < fitted.block.height
          higher k y there = go (cases_lt 0 (final_top r (member_notes y)))
            where
              go : (0 < final_top r (member_notes y)) ⊎ (final_top r (member_notes y) ≤ 0)
                  → final_top r (member_notes y) < fitted.block.height
              go (inr le) =
                  omega (
                    arith,
                    le,
                    fit_positive r cluster.spans p fitted.block fitted.over fitted.parent fitted.fit,
                  )
              go (inl pos) =
                  let (q, c, inside, held_there, same) = top_at r (member_notes y) pos in
                  let cert = final_noted (member_notes y) q inside in
                  let final =
                  cert_stands r none way.path.script u way.path.cluster way.path.clear k y there
                  (Finalize q) cert in
                  let of = final_first r none way.path.script u way.path.cluster way.path.clear q final
                  in
                  omega (
                    arith,
                    same,
                    rises_more r way.path.script u way.path.cluster way.path.clear none q p final
                        stands_final (of ∙ sym first)
                        (final_before u way q
                        (record { number = k; member = y; there = there; noted = cert }) of)
                        c fitted.block
                        (held_is r way.path.script u way.path.cluster way.path.clear k y there
                        (member_notes y) [] (sym (append-nil (member_notes y))) q.payload c
                        held_there)
                        under,
                  )

          holds_it : (k : ℕ) (y : Member) → member_at u k ≡ Some y
              → held r (member_notes y) p.payload ≡ Some fitted.block
          holds_it k y there =
              let (c, noted, kept) =
              certified_held r way.path.script u way.path.cluster
              (clear_reaches r way.path.script u way.path.clear) k y there p
              (certified_in_notes p (member_notes y) (certifies_it k y there)) in
              let same : c ≡ fitted.block =
              same_Some c fitted.block
              (sym
              (noted_is r way.path.script u way.path.cluster way.path.clear k y there p.payload c
              noted)
              ∙ under) in
              let high = ap (λ (z : Block). z.height) same in
              kept (omega (arith, high, higher k y there)) ∙ ap Some same

          -- so it was above what was known before
          higher_before : (k : ℕ) (x : Member) → member_at w k ≡ Some x
              → final_top r (member_notes x) < fitted.block.height
          higher_before k x there = by_kept (way.kept k x there)
            where
              by_kept : ((y : Member) × (member_at u k ≡ Some y)
                  × Later (member_notes x) (member_notes y))
                  → final_top r (member_notes x) < fitted.block.height
              by_kept (y, still, later) =
                  omega (arith, higher k y still, top_grows r (member_notes x) (member_notes y) later)

          has_cert_it : (k : ℕ) (y : Member) → member_at u k ≡ Some y
              → has_cert (member_notes y) (Notarize p) ≡ true
          has_cert_it k y there =
              let c =
              certifies r way.path.script u way.path.cluster way.path.clear k y there p
              (certified_in_notes p (member_notes y) (certifies_it k y there)) in
              subst (λ v. has_cert (member_notes y) v ≡ true) c.votes
              (cert_has c.cert (member_notes y)
              (subst (In (Note.Cert c.cert)) (sym c.joined)
              (in_left (Note.Cert c.cert) c.before c.rest c.noted)))

      -- the votes and certificates that are new end no view
      low : (top k : ℕ) (x : Member) → member_at w k ≡ Some x
          → ((j : ℕ) (y : Member) → member_at w j ≡ Some y → view_of (member_notes y) 0 ≤ top)
          → EndsLow (IsThat (Notarize p)) top
      low top k x there all = record {
        proposals =
            λ q e.
            let one = ap vote_view e in
            let view = in_view k x there in
            let le = all k x there in
            omega (arith, one, view, le);
        ends =
            λ v e y f.
            let none_ends : ◌≡◌ {A = Option ℕ} None (Some y) =
            sym (ap (ended_by 0) e) ∙ f in
            absurd (cc none_ends);
      }

      come_certified : ComeToCertified r w (helps w payload) p ⊎ ComesToClash r w (helps w payload)
      come_certified = go certified
        where
          fitted : Fitting r (member_notes m) p
          fitted = fitting r (member_notes m) p holds

          go : To w (AreCertified (numbers w))
              → ComeToCertified r w (helps w payload) p ⊎ ComesToClash r w (helps w payload)
          go (inr clash) = inr clash
          go (inl g) = by_fresh (all_fresh r g.world payload)
            where
              by_fresh : ((lines : List Line)
                  × AllByRecursion (λ line. helps g.world payload line ≡ true) lines
                  × (outcome r g.world lines ≡ Ends (run r g.world lines))
                  × ((k : ℕ) (y : Member) → member_at g.world k ≡ Some y
                  → IsFresh (run r g.world lines) k (member_notes y)))
                  → ComeToCertified r w (helps w payload) p ⊎ ComesToClash r w (helps w payload)
              by_fresh (lines, are, ends, fresh) =
                  inl (record {
                    lines = g.way.path.lines ++ lines;
                    are =
                        all_both (λ line. helps w payload line ≡ true) g.way.path.lines lines
                        g.way.path.are
                        (all_so (λ line. helps g.world payload line ≡ true)
                        (λ line. helps w payload line ≡ true)
                        (helps_before w g.world payload g.way.more g.way.pool) lines are);
                    after = run r g.world lines;
                    ends = outcome_both r w g.world g.way.path.lines lines g.way.path.ends ∙ ends;
                    block = fitted.block;
                    higher = higher_before g.world g.way g.holds fitted;
                    near =
                        near_fresh r none payload script w cluster clear (IsThat (Notarize p)) low
                        g.world g.way lines are fresh;
                    each = λ k x there. by_kept x k (g.way.kept k x there);
                  })
                where
                  by_kept : (x : Member) (k : ℕ)
                      → ((y : Member) × (member_at g.world k ≡ Some y)
                      × Later (member_notes x) (member_notes y))
                      → HasCertified r (run r g.world lines) p fitted.block k
                  by_kept x k (y, there, later) =
                      let f = fresh k y there in
                      record {
                        member = f.member;
                        there = f.there;
                        live = f.live;
                        notarized =
                            subst (λ ns. has_cert ns (Notarize p) ≡ true) (sym f.same)
                            (has_cert_it g.world g.way g.holds fitted k y there);
                        certified =
                            subst (λ ns. has_certified ns p ≡ true) (sym f.same)
                            (certifies_it g.world g.way g.holds fitted k y there);
                        holds =
                            subst (λ ns. held r ns p.payload ≡ Some fitted.block)
                            (sym f.same) (holds_it g.world g.way g.holds fitted k y there);
                        voted =
                            λ is. subst (λ ns. has_vote ns (Finalize p) ≡ true) (sym f.same)
                            (votes_it g.world g.way g.holds fitted k y there is);
                        latest =
                            λ q h of.
                            final_before g.world g.way q
                            (record {
                              number = k;
                              member = y;
                              there = there;
                              noted = subst (λ ns. has_cert ns (Finalize q) ≡ true) f.same h;
                            })
                            (of ∙ first);
                      }

-- all honest members come to certify what they voted for
pub certify : (r : Rules) (script : List Line) (w : World) → r.epochs.span ≡ None
    → IsCluster r script → ReachesClear r script w → (payload : List ℕ) (p : Proposal)
    → p.epoch ≡ 0 → ((i : ℕ) (m : Member) → member_at w i ≡ Some m → IsBacker r w p i)
    → (i : ℕ) (m : Member) → member_at w i ≡ Some m
    → block_fits r (member_notes m) p ≡ true
    → ComeToCertified r w (helps w payload) p ⊎ ComesToClash r w (helps w payload)
certify r script w none cluster clear payload p first each i m at holds =
    come_certified r none payload p first script w cluster clear each i m at holds
