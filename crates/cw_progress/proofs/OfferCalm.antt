-- In one epoch without end: all are in one view, and stay in it while nothing is certified there.
use Rattle.std.proofs.Common.{◌≡◌, ℕ, suc, ◌-◌, ◌<◌, ◌≤◌, true, false, ◌==◌, List, None, Some, filter_map, slice_get, refl, sym, ◌∙◌, ap, subst, inl, inr, ◌⊎◌, arith, eq-eqb, eqb-true}
use Rattle.std.proofs.lemmas.Bool.{and_from, and_parts, cases_lt, false≢true}
use Rattle.std.proofs.lemmas.Option.{same_Some}
use Rattle.cw_types.specs.declared.note.Note.{Note}
use Rattle.cw_types.specs.declared.vote.Proposal.{Proposal}
use Rattle.cw_types.specs.declared.vote.Vote.{Vote}
use Rattle.cw_types.specs.declared.vote.Vote.TheVariants.{Finalize, Notarize, Nullify}
use Rattle.cw_types.specs.Votes.{vote_epoch, vote_view}
use Rattle.cw_types.proofs.Same.{same_vote_self}
use Rattle.cw_rules.specs.Fits.{block_fits}
use Rattle.cw_rules.specs.Notes.{ended, ended_by, has_cert, has_vote, is_vote, view_of}
use Rattle.cw_rules.specs.Owed.{has_voted, votes_in}
use Rattle.cw_rules.specs.Reached.{In, IsCluster, ReachesClear, members_of}
use Rattle.cw_rules.specs.Rules.{Rules}
use Rattle.cw_rules.specs.Stands.{Stands}
use Rattle.cw_rules.specs.Step.{Member, member_notes}
use Rattle.cw_rules.specs.World.{Line, World, member_at}
use Rattle.cw_rules.proofs.Chain.{finalized_certified}
use Rattle.cw_rules.proofs.Lists.{in_left}
use Rattle.cw_rules.proofs.Quorums.{Sharer, sharer}
use Rattle.cw_progress.specs.Views.{IsNewTo}
use Rattle.cw_progress.proofs.Certifies.{certifies, lawful, notes_at}
use Rattle.cw_progress.proofs.Ends.{cert_note, certified_in_notes, ends_here, ends_tell, member_is, member_with}
use Rattle.cw_progress.proofs.Latest.{cert_stands, notarized_first, view_later}
use Rattle.cw_progress.proofs.NewView.{notarize_low}
use Rattle.cw_progress.proofs.Outs.{mapped_from, mapped_in}
use Rattle.cw_progress.proofs.Quiet.{IsFinal}
use Rattle.cw_progress.proofs.Quorum.{any_in, in_any}
use Rattle.cw_progress.proofs.Stages.{Later}
use Rattle.cw_progress.proofs.Tops.{greatest_low, in_greatest}
use Rattle.cw_progress.proofs.Valid.{cert_has, vote_in}
use Rattle.cw_progress.proofs.Ways.{HasSome, HasVote, NoVote, Way}

-- ---- notes

-- a vote in a view
voted_in : (notes : List Note) (view : ℕ) (v : Vote) → has_vote notes v ≡ true
    → vote_epoch v ≡ 0 → vote_view v ≡ view → has_voted notes 0 view ≡ true
voted_in notes view v h of is =
    in_any (votes_in 0 view) notes (Note.Vote v) (vote_in v notes h)
    (and_from (vote_epoch v == 0) (vote_view v == view) (eq-eqb (vote_epoch v) 0 of)
    (eq-eqb (vote_view v) view is))

-- a view in which a vote was cast has one
pub vote_of : (notes : List Note) (view : ℕ) → has_voted notes 0 view ≡ true
    → (v : Vote) × (has_vote notes v ≡ true) × (vote_epoch v ≡ 0) × (vote_view v ≡ view)
vote_of notes view h =
    let (x, inside, e) = any_in (votes_in 0 view) notes h in by_note x inside e
  where
    by_note : (x : Note) → In x notes → votes_in 0 view x ≡ true
        → (v : Vote) × (has_vote notes v ≡ true) × (vote_epoch v ≡ 0) × (vote_view v ≡ view)
    by_note (Note.Vote v) inside e =
        let a = and_parts (vote_epoch v == 0) (vote_view v == view) e in (
          v,
          in_any (is_vote v) notes (Note.Vote v) inside (same_vote_self v),
          eqb-true (vote_epoch v) 0 a.0,
          eqb-true (vote_view v) view a.1,
        )
    by_note (Note.Verified y u c) inside e = absurd (false≢true e)
    by_note (Note.Block c b) inside e = absurd (false≢true e)
    by_note (Note.Cert s) inside e = absurd (false≢true e)
    by_note (Note.Certified q) inside e = absurd (false≢true e)
    by_note (Note.Ack y) inside e = absurd (false≢true e)
    by_note (Note.Floor y) inside e = absurd (false≢true e)
    by_note (Note.Prune y) inside e = absurd (false≢true e)
    by_note (Note.Epoch y c) inside e = absurd (false≢true e)

-- who has certified a proposal is past its view
certified_past : (notes : List Note) (q : Proposal) → In (Note.Certified q) notes
    → q.epoch ≡ 0 → q.view < view_of notes 0
certified_past notes q h of =
    let e =
    in_greatest (filter_map (ended 0) notes) q.view
    (mapped_in (ended 0) notes (Note.Certified q) q.view h
    (ends_here 0 q.epoch q.view q.view of refl)) in
    omega (arith, e)

-- the notes end no view but by what these certificates end, and no proposal is certified in a view
-- that isn't below
pub view_under : (notes : List Note) (view : ℕ) → 0 < view
    → ((q : Proposal) → In (Note.Certified q) notes → q.view < view)
    → ((v : Vote) → has_cert notes v ≡ true → (x : ℕ) → ended_by 0 v ≡ Some x → x < view)
    → view_of notes 0 ≤ view
view_under notes view pos said certs =
    let low =
    greatest_low (filter_map (ended 0) notes) (view - 1)
    (λ x h. let e = by_end x (mapped_from (ended 0) notes x h) in omega (arith, e)) in
    omega (arith, pos, low)
  where
    by_note : (x : ℕ) (n : Note) → In n notes → ended 0 n ≡ Some x → x < view
    by_note x (Note.Certified q) h e =
        let t = ends_tell 0 q.epoch q.view x e in
        let low = said q h in
        omega (arith, low, t.1)
    by_note x (Note.Cert s) h e = certs s.vote (cert_has s notes h) x e
    by_note x (Note.Vote v) h e = cc e
    by_note x (Note.Verified y u c) h e = cc e
    by_note x (Note.Block c b) h e = cc e
    by_note x (Note.Ack y) h e = cc e
    by_note x (Note.Floor y) h e = cc e
    by_note x (Note.Prune y) h e = cc e
    by_note x (Note.Epoch y c) h e = cc e

    by_end : (x : ℕ) → ((n : Note) × In n notes × (ended 0 n ≡ Some x)) → x < view
    by_end x (n, h, e) = by_note x n h e

-- what a certificate in the notes ends is below their view
pub cert_under : (notes : List Note) (v : Vote) → has_cert notes v ≡ true → (x : ℕ)
    → ended_by 0 v ≡ Some x → x < view_of notes 0
cert_under notes v h x e =
    let (t, inside, same) = cert_note v notes h in
    let k =
    in_greatest (filter_map (ended 0) notes) x
    (mapped_in (ended 0) notes (Note.Cert t) x inside (ap (ended_by 0) same ∙ e)) in
    omega (arith, k)

-- ---- worlds

-- all are in the view, nobody has a certificate to notarize a proposal of it, or of a later one,
-- and each vote in it is one of these
pub record IsCalm (view : ℕ) (Voted : Vote → Type 0) (u : World) : Type 0 where
  pub here : (j : ℕ) (n : Member) → member_at u j ≡ Some n → view_of (member_notes n) 0 ≡ view
  pub certs : (q : Proposal) → HasSome u (Notarize q) → q.view < view
  pub votes : (v : Vote) → HasVote u v → vote_epoch v ≡ 0 → vote_view v ≡ view → Voted v

-- who has certified a proposal has a certificate to notarize it
pub certified_cert : (r : Rules) (script : List Line) (w : World) → IsCluster r script
    → ReachesClear r script w → (i : ℕ) (m : Member) → member_at w i ≡ Some m → (q : Proposal)
    → In (Note.Certified q) (member_notes m) → has_cert (member_notes m) (Notarize q) ≡ true
certified_cert r script w cluster clear i m at q h =
    let c = certifies r script w cluster clear i m at q h in
    subst (λ v. has_cert (member_notes m) v ≡ true) c.votes
    (cert_has c.cert (member_notes m)
    (subst (In (Note.Cert c.cert)) (sym c.joined)
    (in_left (Note.Cert c.cert) c.before c.rest c.noted)))

module _ (r : Rules) (none : r.epochs.span ≡ None) (view : ℕ) where
  module _ (script : List Line) (w : World) (cluster : IsCluster r script)
      (clear : ReachesClear r script w)
      (each : (i : ℕ) (m : Member) → member_at w i ≡ Some m → IsNewTo w i view) where
    unvoted : (i : ℕ) (m : Member) → member_at w i ≡ Some m
        → has_voted (member_notes m) 0 view ≡ false
    unvoted i m at =
        let k = each i m at in
        subst (λ (x : Member). has_voted (member_notes x) 0 view ≡ false)
        (same_Some k.in_view.member m (sym k.in_view.there ∙ at)) k.unvoted

    in_here : (i : ℕ) (m : Member) → member_at w i ≡ Some m
        → view_of (member_notes m) 0 ≡ view
    in_here i m at =
        let k = each i m at in
        subst (λ (x : Member). view_of (member_notes x) 0 ≡ view)
        (same_Some k.in_view.member m (sym k.in_view.there ∙ at)) k.in_view.view_is

    by_sharer : (q : Proposal) → Stands r.epochs (members_of w) (Notarize q)
        → Sharer (members_of w) (Notarize q) (Notarize q) → q.view < view
    by_sharer q stands s = by_member (member_with w s.place s.notes s.at)
      where
        of : q.epoch ≡ 0
        of = notarized_first r none script w cluster clear (suc q.view) q stands (omega arith)

        by_order : (n : Member) → member_at w s.place ≡ Some n
            → has_vote (member_notes n) (Notarize q) ≡ true → (q.view < view) ⊎ (view ≤ q.view)
            → q.view < view
        by_order n at h (inl lt) = lt
        by_order n at h (inr le) =
            let low = notarize_low r script w cluster clear s.place n at q h in
            let same = ap (view_of (member_notes n)) of in
            let here = in_here s.place n at in
            absurd
            (false≢true
            (sym (unvoted s.place n at)
            ∙ voted_in (member_notes n) view (Notarize q) h of
            (omega (arith, low, same, here, le))))

        by_member : ((n : Member) × (slice_get w.members s.place ≡ Some (Some n))
            × (member_notes n ≡ s.notes))
            → q.view < view
        by_member (n, place, same) =
            by_order n (member_is w s.place n place)
            (subst (λ ns. has_vote ns (Notarize q) ≡ true) (sym same) s.first)
            (cases_lt q.view view)

    -- where none has voted in it
    pub calm_first : IsCalm view NoVote w
    calm_first = record {
      here = in_here;
      certs =
          λ q s.
          let stands =
          cert_stands r none script w cluster clear s.number s.member s.there (Notarize q)
          s.noted in
          by_sharer q stands
          (sharer r.epochs (members_of w) (Notarize q) (Notarize q)
          (lawful r script w cluster clear).faults refl stands stands);
      votes =
          λ v s of is.
          false≢true
          (sym (unvoted s.number s.member s.there)
          ∙ voted_in (member_notes s.member) view v s.voted of is);
    }

  -- who is in the view hasn't voted to finalize in it
  pub unfinal : (script : List Line) (w : World) → IsCluster r script → ReachesClear r script w
      → (i : ℕ) (m : Member) → member_at w i ≡ Some m → view_of (member_notes m) 0 ≤ view
      → (p : Proposal) → has_vote (member_notes m) (Finalize p) ≡ true → p.epoch ≡ 0
      → p.view ≡ view → ⊥
  unfinal script w cluster clear i m at low p h of is =
      let past =
      certified_past (member_notes m) p
      (certified_in_notes p (member_notes m)
      (finalized_certified r.epochs (block_fits r) (members_of w) (member_notes m)
      ((lawful r script w cluster clear).honest i (member_notes m)
      (notes_at r script w cluster clear i m at))
      p h))
      of in
      omega (arith, past, is, low)

  -- it stays so
  pub calm_on : (payload : List ℕ) (Voted : Vote → Type 0) (w u : World)
      → Way r w payload NoVote u → IsCalm view Voted w → IsCalm view Voted u
  calm_on payload Voted w u way k = record {
    here = here;
    certs = certs;
    votes =
        λ v s of is. by_vote v s of is (way.votes s.number s.member s.there v s.voted);
  }
    where
      by_cert : (q : Proposal) → HasSome w (Notarize q) ⊎ ⊥ → q.view < view
      by_cert q (inl s) = k.certs q s
      by_cert q (inr h) = absurd h

      certs : (q : Proposal) → HasSome u (Notarize q) → q.view < view
      certs q s = by_cert q (way.certs s.number s.member s.there (Notarize q) s.noted)

      by_end : (v : Vote) → HasSome w v ⊎ ⊥ → (x : ℕ) → ended_by 0 v ≡ Some x → x < view
      by_end v (inl s) x e =
          let low = cert_under (member_notes s.member) v s.noted x e in
          let is = k.here s.number s.member s.there in
          omega (arith, low, is)
      by_end v (inr h) x e = absurd h

      said : (j : ℕ) (n : Member) → member_at u j ≡ Some n → (q : Proposal)
          → In (Note.Certified q) (member_notes n) → q.view < view
      said j n at q h =
          certs q (record {
            number = j;
            member = n;
            there = at;
            noted = certified_cert r way.path.script u way.path.cluster way.path.clear j n at q h;
          })

      by_kept : (j : ℕ) (x n : Member) → member_at w j ≡ Some x → member_at u j ≡ Some n
          → ((y : Member) × (member_at u j ≡ Some y)
          × Later (member_notes x) (member_notes y))
          → view_of (member_notes n) 0 ≡ view
      by_kept j x n there at (y, still, later) =
          let same = ap (λ (z : Member). view_of (member_notes z) 0) (same_Some y n (sym still ∙ at))
          in
          let is = k.here j x there in
          let up = view_later (member_notes x) (member_notes y) later 0 in
          let low =
          view_under (member_notes n) view (omega (arith, is)) (said j n at)
          (λ v h. by_end v (way.certs j n at v h)) in
          omega (arith, same, is, up, low)

      here : (j : ℕ) (n : Member) → member_at u j ≡ Some n → view_of (member_notes n) 0 ≡ view
      here j n at =
          let (x, there) = way.back j n at in by_kept j x n there at (way.kept j x there)

      final : (v : Vote) → HasVote u v → vote_epoch v ≡ 0 → vote_view v ≡ view → IsFinal v → ⊥
      final (Finalize p) s of is f =
          let e = here s.number s.member s.there in
          unfinal way.path.script u way.path.cluster way.path.clear s.number s.member s.there
          (omega (arith, e)) p s.voted of is
      final (Notarize p) s of is f = f
      final (Nullify x y) s of is f = f

      by_vote : (v : Vote) → HasVote u v → vote_epoch v ≡ 0 → vote_view v ≡ view
          → HasVote w v ⊎ (IsFinal v ⊎ ⊥) → Voted v
      by_vote v s of is (inl old) = k.votes v old of is
      by_vote v s of is (inr (inl f)) = absurd (final v s of is f)
      by_vote v s of is (inr (inr h)) = absurd h
