-- In one epoch without end: a member is given what it needs to know of a parent for a proposal.
use Rattle.std.proofs.Common.{◌≡◌, ℕ, zero, suc, ◌+◌, ◌<◌, ◌≤◌, true, List, Some, None, refl, sym, ◌∙◌, ap, subst, inl, inr, arith}
use Rattle.std.proofs.lemmas.Option.{same_Some}
use Rattle.cw_types.specs.declared.commitment.Commitment.{Commitment}
use Rattle.cw_types.specs.declared.note.Note.{Note}
use Rattle.cw_types.specs.declared.vote.Proposal.{Proposal}
use Rattle.cw_types.specs.declared.vote.Vote.{Vote}
use Rattle.cw_types.specs.declared.vote.Vote.TheVariants.{Finalize, Notarize, Nullify}
use Rattle.cw_types.specs.Block.{Block}
use Rattle.cw_rules.specs.Chains.{block_under}
use Rattle.cw_rules.specs.Held.{held}
use Rattle.cw_rules.specs.Notes.{ended, ended_by, has_cert, has_certified, is_certified, settled}
use Rattle.cw_rules.specs.Reached.{In, IsCluster, ReachesClear}
use Rattle.cw_rules.specs.Rules.{Rules, genesis_commitment}
use Rattle.cw_rules.specs.Step.{Member, member_notes}
use Rattle.cw_rules.specs.World.{Line, World, member_at}
use Rattle.cw_rules.proofs.NoteLemmas.{any_front}
use Rattle.cw_progress.specs.Ended.{EndedForSome}
use Rattle.cw_progress.specs.Tops.{final_top}
use Rattle.cw_progress.proofs.Certifies.{noted_is}
use Rattle.cw_progress.proofs.Chains.{settles_so}
use Rattle.cw_progress.proofs.Ends.{all_ended, certified_in_notes, ends_tell}
use Rattle.cw_progress.proofs.Latest.{HasTop, Known, Ready, Unknown, cert_stands, final_first, knows_none, ready_on, top_later}
use Rattle.cw_progress.proofs.OfferCalm.{IsCalm, calm_on}
use Rattle.cw_progress.proofs.OfferGives.{HasAt, at_on, cert_to, certified_to}
use Rattle.cw_progress.proofs.OfferHeights.{certified_over, certified_there, genesis_held}
use Rattle.cw_progress.proofs.OfferParents.{HasBest, best_here, best_later, best_over}
use Rattle.cw_progress.proofs.OneView.{Leads, top_to}
use Rattle.cw_progress.proofs.Outs.{mapped_from}
use Rattle.cw_progress.proofs.Paths.{clear_reaches}
use Rattle.cw_progress.proofs.Rising.{certified_held}
use Rattle.cw_progress.proofs.Stages.{Later}
use Rattle.cw_progress.proofs.Valid.{cert_has}
use Rattle.cw_progress.proofs.Ways.{HasSome, NoVote, Way, goes_then}

-- ---- in a world

module _ (r : Rules) (none : r.epochs.span ≡ None) (script : List Line) (w : World)
    (cluster : IsCluster r script) (clear : ReachesClear r script w) (fin : ℕ) (a : Block)
    (ready : Ready r w fin a) (l : ℕ) (n : Member) (at : member_at w l ≡ Some n) where
  -- the final block is settled and held
  pub top_settles : HasTop r fin a (member_notes n)
      → (c : Commitment) × (settled (genesis_commitment r) (member_notes n) 0 fin ≡ Some c)
      × (held r (member_notes n) c ≡ Some a)
  top_settles (Unknown z e) = (
    genesis_commitment r,
    subst
        (λ x. settled (genesis_commitment r) (member_notes n) 0 x ≡ Some (genesis_commitment r))
        (sym z) refl,
    genesis_held r (member_notes n) ∙ ap Some (sym e),
  )
  top_settles (Known p cert is holds) =
      let of =
      final_first r none script w cluster clear p
      (cert_stands r none script w cluster clear l n at (Finalize p) cert) in (
        p.payload,
        subst
            (λ x. settled (genesis_commitment r) (member_notes n) 0 x ≡ Some p.payload) is
            (subst
            (λ e. settled (genesis_commitment r) (member_notes n) e p.view ≡ Some p.payload) of
            (settles_so r script w cluster clear l n at p (inr cert))),
        holds,
      )

  -- so is what it certified above
  certified_settles : (q : Proposal) → has_certified (member_notes n) q ≡ true
      → q.epoch ≡ 0 → fin < q.view
      → (b : Block) × (settled (genesis_commitment r) (member_notes n) 0 q.view ≡ Some q.payload)
      × (held r (member_notes n) q.payload ≡ Some b)
  certified_settles q said of above =
      by_held
      (certified_held r script w cluster (clear_reaches r script w clear) l n at q inside)
    where
      inside : In (Note.Certified q) (member_notes n)
      inside = certified_in_notes q (member_notes n) said

      by_held : ((b : Block) × In (Note.Block q.payload b) (member_notes n)
          × (final_top r (member_notes n) ≤ b.height
          → held r (member_notes n) q.payload ≡ Some b))
          → (b : Block)
          × (settled (genesis_commitment r) (member_notes n) 0 q.view ≡ Some q.payload)
          × (held r (member_notes n) q.payload ≡ Some b)
      by_held (b, noted, kept) =
          let under : block_under r w q.payload ≡ Some b =
          noted_is r script w cluster clear l n at q.payload b noted in
          let high =
          certified_over r none script w cluster clear fin a ready q
          (certified_there r none script w cluster clear l n at q inside) (omega (arith, above)) b
          under in
          let low = (knows_none r none script w cluster clear fin a ready l n at).1 in (
            b,
            subst
                (λ e. settled (genesis_commitment r) (member_notes n) e q.view ≡ Some q.payload)
                of
                (settles_so r script w cluster clear l n at q (inl said)),
            kept (omega (arith, high, low)),
          )

-- ---- the parent

module _ (r : Rules) (none : r.epochs.span ≡ None) (payload : List ℕ) (view : ℕ) (fin : ℕ)
    (a : Block) (l : ℕ) (Voted : Vote → Type 0) where
  -- the notes have the last finalization, and tell of a parent below that view
  abbrev pub IsPrepared : ℕ → List Note → Type 0
  IsPrepared x notes = HasTop r fin a notes × HasBest r notes x

  prepared_later : (x : ℕ) (xs ys : List Note) → Later xs ys → IsPrepared x xs → IsPrepared x ys
  prepared_later x xs ys k (top, best) =
      (top_later r fin a xs ys k top, best_later r xs ys k x best)

  certified_later : (q : Proposal) (xs ys : List Note) → Later xs ys
      → has_certified xs q ≡ true → has_certified ys q ≡ true
  certified_later q xs ys k h =
      subst (λ ns. has_certified ns q ≡ true) (sym k.joined)
      (any_front (is_certified q) xs k.more h)

  -- ---- one view more

  module _ (x : ℕ) (above : fin < x) where
    abbrev Done : World → Type 0
    Done u = HasAt r none payload (IsPrepared (suc x)) l u

    module _ (u : World) (way_script : List Line) (way_cluster : IsCluster r way_script)
        (way_clear : ReachesClear r way_script u) (ready_u : Ready r u fin a) (z : Member)
        (there : member_at u l ≡ Some z) (top : HasTop r fin a (member_notes z))
        (best : HasBest r (member_notes z) x) where
      -- what it is given, with what it had
      with_more : (T : List Note → Type 0) (v : World) → Way r u payload NoVote v
          → HasAt r none payload T l v
          → (y : Member) × (member_at v l ≡ Some y) × T (member_notes y)
          × HasTop r fin a (member_notes y) × HasBest r (member_notes y) x
      with_more T v more (y, at_y, t) =
          by_prepared
          (at_on r none payload (IsPrepared x) (prepared_later x) NoVote l u v more
          (z, there, (top, best)))
        where
          by_prepared : HasAt r none payload (IsPrepared x) l v
              → (y : Member) × (member_at v l ≡ Some y) × T (member_notes y)
              × HasTop r fin a (member_notes y) × HasBest r (member_notes y) x
          by_prepared (s, at_s, p) = (
            s,
            at_s,
            subst (λ (o : Member). T (member_notes o)) (same_Some y s (sym at_y ∙ at_s)) t,
            p.0,
            p.1,
          )

      by_null : HasSome u (Nullify 0 x) → Leads r none payload u Done
      by_null s =
          land
          (cert_to r none payload way_script u way_cluster way_clear
          (Nullify 0 x) s l z there)
        where
          T : List Note → Type 0
          T ns = has_cert ns (Nullify 0 x) ≡ true

          land : Leads r none payload u (HasAt r none payload T l)
              → Leads r none payload u Done
          land (inr clash) = inr clash
          land (inl g) =
              let (y, at_y, t, tops, bests) = with_more T g.world g.way g.holds in
              inl (record {
                world = g.world;
                way = g.way;
                holds = (y, at_y, (tops, best_over r (member_notes y) x t bests));
              })

      by_certified : (q : Proposal) → q.epoch ≡ 0 → q.view ≡ x → (i : ℕ) (m : Member)
          → member_at u i ≡ Some m → In (Note.Certified q) (member_notes m)
          → Leads r none payload u Done
      by_certified q of is i m at_m said =
          land
          (certified_to r none payload way_script u way_cluster way_clear fin a
          ready_u i m at_m q said of (omega (arith, is, above)) l z there)
        where
          T : List Note → Type 0
          T ns = has_certified ns q ≡ true

          bested : (v : World) → Way r u payload NoVote v → (y : Member)
              → member_at v l ≡ Some y → T (member_notes y)
              → HasBest r (member_notes y) (suc x)
          bested v more y at_y t =
              let (b, s, h) =
              certified_settles r none more.path.script v more.path.cluster more.path.clear fin
              a (ready_on r u payload NoVote (λ p h. h) v fin a more ready_u) l y at_y q t of
              (omega (arith, is, above)) in
              subst (λ o. HasBest r (member_notes y) (suc o)) is
              (best_here r (member_notes y) q.view q.payload b s h)

          land : Leads r none payload u (HasAt r none payload T l)
              → Leads r none payload u Done
          land (inr clash) = inr clash
          land (inl g) =
              let (y, at_y, t, tops, bests) = with_more T g.world g.way g.holds in
              inl (record {
                world = g.world;
                way = g.way;
                holds = (y, at_y, (tops, bested g.world g.way y at_y t));
              })

      by_vote : (i : ℕ) (m : Member) → member_at u i ≡ Some m → (v : Vote)
          → has_cert (member_notes m) v ≡ true → ended_by 0 v ≡ Some x
          → Leads r none payload u Done
      by_vote i m at_m (Notarize q) cert e = cc e
      by_vote i m at_m (Nullify epoch y) cert e =
          let t = ends_tell 0 epoch y x e in
          by_null (record {
            number = i;
            member = m;
            there = at_m;
            noted =
                subst (λ o. has_cert (member_notes m) (Nullify 0 o) ≡ true) t.1
                (subst (λ o. has_cert (member_notes m) (Nullify o y) ≡ true) t.0 cert);
          })
      by_vote i m at_m (Finalize q) cert e =
          let t = ends_tell 0 q.epoch q.view x e in
          let late =
          ready_u.last q (record { number = i; member = m; there = at_m; noted = cert }) in
          absurd (omega (arith, t.1, late, above))

      by_note : (i : ℕ) (m : Member) → member_at u i ≡ Some m → (o : Note)
          → In o (member_notes m) → ended 0 o ≡ Some x → Leads r none payload u Done
      by_note i m at_m (Note.Certified q) h e =
          let t = ends_tell 0 q.epoch q.view x e in by_certified q t.0 t.1 i m at_m h
      by_note i m at_m (Note.Cert s) h e =
          by_vote i m at_m s.vote (cert_has s (member_notes m) h) e
      by_note i m at_m (Note.Vote v) h e = cc e
      by_note i m at_m (Note.Verified y s c) h e = cc e
      by_note i m at_m (Note.Block c b) h e = cc e
      by_note i m at_m (Note.Ack y) h e = cc e
      by_note i m at_m (Note.Floor y) h e = cc e
      by_note i m at_m (Note.Prune y) h e = cc e
      by_note i m at_m (Note.Epoch y c) h e = cc e

      by_ended : EndedForSome u 0 x → Leads r none payload u Done
      by_ended s =
          let (o, inside, e) = mapped_from (ended 0) (member_notes s.member) x s.noted in
          by_note s.number s.member s.there o inside e

  abbrev AllPrepare : ℕ → Type 0
  AllPrepare k =
      (script : List Line) (w : World) → IsCluster r script → ReachesClear r script w
      → Ready r w fin a → IsCalm view Voted w → (n : Member) → member_at w l ≡ Some n
      → Leads r none payload w (HasAt r none payload (IsPrepared (fin + 1 + k)) l)

  -- from the last final view on, view after view
  pub prepare : (k : ℕ) → fin + 1 + k ≤ view → AllPrepare k
  prepare zero low script w cluster clear ready calm n at =
      land (top_to r none payload script w cluster clear fin a ready l n at)
    where
      prepared : (u : World) → Way r w payload NoVote u
          → HasAt r none payload (HasTop r fin a) l u
          → HasAt r none payload (IsPrepared (fin + 1 + zero)) l u
      prepared u way (z, there, top) =
          let (c, s, h) =
          top_settles r none way.path.script u way.path.cluster way.path.clear fin a
          (ready_on r w payload NoVote (λ p h. h) u fin a way ready) l z there top in
          let same : suc fin ≡ fin + 1 + zero = omega arith in (
            z,
            there,
            (
              top,
              subst (λ x. HasBest r (member_notes z) x) same
                  (best_here r (member_notes z) fin c a s h),
            ),
          )

      land : Leads r none payload w (HasAt r none payload (HasTop r fin a) l)
          → Leads r none payload w (HasAt r none payload (IsPrepared (fin + 1 + zero)) l)
      land (inr clash) = inr clash
      land (inl g) =
          inl (record {
            world = g.world;
            way = g.way;
            holds = prepared g.world g.way g.holds;
          })
  prepare (suc k) low script w cluster clear ready calm n at =
      goes_then r payload NoVote w (HasAt r none payload (IsPrepared (fin + 1 + k)) l)
      (HasAt r none payload (IsPrepared (fin + 1 + suc k)) l)
      (prepare k (omega (arith, low)) script w cluster clear ready calm n at) next
    where
      same : suc (fin + 1 + k) ≡ fin + 1 + suc k
      same = omega arith

      next : (u : World) → Way r w payload NoVote u
          → HasAt r none payload (IsPrepared (fin + 1 + k)) l u
          → Leads r none payload u (HasAt r none payload (IsPrepared (fin + 1 + suc k)) l)
      next u way (z, there, (top, best)) =
          let calm_u = calm_on r none view payload Voted w u way calm in
          let is = calm_u.here l z there in
          subst (λ y. Leads r none payload u (HasAt r none payload (IsPrepared y) l)) same
          (by_ended (fin + 1 + k) (omega arith) u way.path.script way.path.cluster way.path.clear
          (ready_on r w payload NoVote (λ p h. h) u fin a way ready) z there top best
          (all_ended r way.path.script u way.path.cluster
          (clear_reaches r way.path.script u way.path.clear) l z there 0 (fin + 1 + k)
          (omega arith) (omega (arith, low, is))))
