-- In one epoch without end: what the last finalization that somebody knows says of all.
use Rattle.std.proofs.Common.{◌≡◌, ℕ, zero, suc, ◌+◌, ◌<◌, ◌≤◌, true, ◌==◌, max, List, [], ◌++◌, Option, Some, None, filter_map, slice_get, refl, sym, ◌∙◌, ap, subst, inl, inr, ◌⊎◌, arith, append-nil, eqb-true}
use Rattle.std.specs.List.{list_any}
use Rattle.std.proofs.lemmas.Bool.{cases_lt, cond-true, false≢true, or_cases}
use Rattle.std.proofs.lemmas.List.Elements.{filter_map-append}
use Rattle.std.proofs.lemmas.Option.{same_Some}
use Rattle.cw_types.specs.declared.commitment.Commitment.{Commitment}
use Rattle.cw_types.specs.declared.note.Note.{Note}
use Rattle.cw_types.specs.declared.vote.Cert.{Cert}
use Rattle.cw_types.specs.declared.vote.Proposal.{Proposal}
use Rattle.cw_types.specs.declared.vote.Vote.{Vote}
use Rattle.cw_types.specs.declared.vote.Vote.TheVariants.{Finalize, Notarize, Nullify}
use Rattle.cw_types.specs.Block.{Block}
use Rattle.cw_types.specs.Same.{same_commitment}
use Rattle.cw_types.specs.Votes.{finalized}
use Rattle.cw_types.proofs.Same.{same_commitment_self}
use Rattle.cw_rules.specs.Chains.{block_under}
use Rattle.cw_rules.specs.Fits.{block_fits}
use Rattle.cw_rules.specs.Held.{finalization_of, greatest_floor, greatest_prune, held, kept_block}
use Rattle.cw_rules.specs.Keeps.{Keeps, meaning}
use Rattle.cw_rules.specs.Notes.{ended, ended_by, enters, epoch_of, entered, greatest, has_cert, is_cert, is_vote, settled, view_of}
use Rattle.cw_rules.specs.Reached.{In, IsCluster, Reaches, ReachesClear, members_of}
use Rattle.cw_rules.specs.Rules.{Rules, genesis, genesis_commitment}
use Rattle.cw_rules.specs.Stands.{IsSettled, Stands}
use Rattle.cw_rules.specs.Step.{Member, member_notes}
use Rattle.cw_rules.specs.World.{Line, World, member_at}
use Rattle.cw_rules.proofs.Chain.{finalized_notarized, notarized_above, notarized_below, one_notarized, settler_stands}
use Rattle.cw_rules.proofs.Lists.{in_left}
use Rattle.cw_rules.proofs.NoteLemmas.{Settles, Settles_front, any_front, found_after, settler_found, vote_note}
use Rattle.cw_rules.proofs.Quorums.{sharer}
use Rattle.cw_progress.specs.Over.{Begun, Final, IsBase, KnowsNoLater}
use Rattle.cw_progress.specs.Tops.{final_top}
use Rattle.cw_progress.proofs.Carries.{each_at}
use Rattle.cw_progress.proofs.Certifies.{certifies, held_is, keeps, lawful, notes_at}
use Rattle.cw_progress.proofs.Ends.{below_notarized, cert_note, ends_tell, member_is, member_with}
use Rattle.cw_progress.proofs.Outs.{mapped_from, mapped_in}
use Rattle.cw_progress.proofs.Paths.{clear_reaches}
use Rattle.cw_progress.proofs.Quorum.{any_in}
use Rattle.cw_progress.proofs.Rising.{rises}
use Rattle.cw_progress.proofs.Stages.{Later, later_held}
use Rattle.cw_progress.proofs.Tops.{floor_low, greatest_low, in_greatest, prune_final, top_at}
use Rattle.cw_progress.proofs.Valid.{cert_has}
use Rattle.cw_progress.proofs.Ways.{HasSome, Way}

-- ---- notes

pub finalized_is : (v : Vote) (p : Proposal) → finalized v ≡ Some p → v ≡ Finalize p
finalized_is (Notarize q) p h = cc h
finalized_is (Nullify epoch view) p h = cc h
finalized_is (Finalize q) p h = ap Finalize (same_Some q p h)

-- the certificate of a note that finalizes
pub finalizing_note : (n : Note) (p : Proposal) → finalization_of n ≡ Some p
    → (s : Cert) × (n ≡ Note.Cert s) × (s.vote ≡ Finalize p)
finalizing_note (Note.Cert s) p h = (s, refl, finalized_is s.vote p h)
finalizing_note (Note.Vote v) p h = cc h
finalizing_note (Note.Verified epoch view c) p h = cc h
finalizing_note (Note.Block c b) p h = cc h
finalizing_note (Note.Certified q) p h = cc h
finalizing_note (Note.Ack x) p h = cc h
finalizing_note (Note.Floor x) p h = cc h
finalizing_note (Note.Prune x) p h = cc h
finalizing_note (Note.Epoch epoch c) p h = cc h

pub final_noted : (notes : List Note) (p : Proposal) → In p (filter_map finalization_of notes)
    → has_cert notes (Finalize p) ≡ true
final_noted notes p h =
    let (n, at, e) = mapped_from finalization_of notes p h in
    let (s, is, votes) = finalizing_note n p e in
    subst (λ v. has_cert notes v ≡ true) votes
    (cert_has s notes (subst (λ x. In x notes) is at))

entering_note : (epoch : ℕ) (n : Note) → enters epoch n ≡ true
    → (e : ℕ) × (c : Commitment) × (n ≡ Note.Epoch e c)
entering_note epoch (Note.Epoch e c) h = (e, c, refl)
entering_note epoch (Note.Vote v) h = absurd (false≢true h)
entering_note epoch (Note.Verified x view c) h = absurd (false≢true h)
entering_note epoch (Note.Block c b) h = absurd (false≢true h)
entering_note epoch (Note.Cert s) h = absurd (false≢true h)
entering_note epoch (Note.Certified q) h = absurd (false≢true h)
entering_note epoch (Note.Ack x) h = absurd (false≢true h)
entering_note epoch (Note.Floor x) h = absurd (false≢true h)
entering_note epoch (Note.Prune x) h = absurd (false≢true h)

entered_is : (n : Note) (epoch : ℕ) → entered n ≡ Some epoch
    → (c : Commitment) × (n ≡ Note.Epoch epoch c)
entered_is (Note.Epoch e c) epoch h =
    (c, ap (λ x. Note.Epoch x c) (same_Some e epoch h))
entered_is (Note.Vote v) epoch h = cc h
entered_is (Note.Verified x view c) epoch h = cc h
entered_is (Note.Block c b) epoch h = cc h
entered_is (Note.Cert s) epoch h = cc h
entered_is (Note.Certified q) epoch h = cc h
entered_is (Note.Ack x) epoch h = cc h
entered_is (Note.Floor x) epoch h = cc h
entered_is (Note.Prune x) epoch h = cc h

-- more notes bring no lower view
pub view_later : (xs ys : List Note) → Later xs ys → (epoch : ℕ)
    → view_of xs epoch ≤ view_of ys epoch
view_later xs ys k epoch =
    let a = filter_map (ended epoch) xs in
    let b = filter_map (ended epoch) k.more in
    let same : filter_map (ended epoch) ys ≡ a ++ b =
    ap (filter_map (ended epoch)) k.joined ∙ filter_map-append (ended epoch) xs k.more in
    let one = ap greatest same in
    omega (
      arith,
      one,
      greatest_low a (greatest (a ++ b)) (λ x h. in_greatest (a ++ b) x (in_left x a b h)),
    )

-- ---- the last finalization

-- genesis, where no view has ended by a finalization, or the block that is final in that view: the
-- notes have its finalization and hold it
pub data HasTop (r : Rules) (view : ℕ) (a : Block) (notes : List Note) : Type 0 where
  Unknown : view ≡ 0 → a ≡ genesis r → HasTop r view a notes
  Known : (p : Proposal) → has_cert notes (Finalize p) ≡ true → p.view ≡ view
      → held r notes p.payload ≡ Some a → HasTop r view a notes

pub top_later : (r : Rules) (view : ℕ) (a : Block) (xs ys : List Note) → Later xs ys
    → HasTop r view a xs → HasTop r view a ys
top_later r view a xs ys k (Unknown z e) = Unknown z e
top_later r view a xs ys k (Known p cert is holds) =
    Known p
    (subst (λ ns. has_cert ns (Finalize p) ≡ true) (sym k.joined)
    (any_front (is_cert (Finalize p)) xs k.more cert))
    is (later_held r xs ys k p.payload a holds)

-- nobody knows of a finalization in a later view, and some honest member has that one
pub record Ready (r : Rules) (w : World) (view : ℕ) (a : Block) : Type 0 where
  pub last : (p : Proposal) → HasSome w (Finalize p) → p.view ≤ view
  pub number : ℕ
  pub member : Member
  pub there : member_at w number ≡ Some member
  pub top : HasTop r view a (member_notes member)

pub ready_on : (r : Rules) (w : World) (payload : List ℕ) (New : Vote → Type 0)
    → ((p : Proposal) → New (Finalize p) → ⊥) → (u : World) (view : ℕ) (a : Block)
    → Way r w payload New u → Ready r w view a → Ready r u view a
ready_on r w payload New never u view a way k =
    let (y, at, later) = way.kept k.number k.member k.there in
    record {
      last =
          λ p s.
          by_source p (way.certs s.number s.member s.there (Finalize p) s.noted);
      number = k.number;
      member = y;
      there = at;
      top = top_later r view a (member_notes k.member) (member_notes y) later k.top;
    }
  where
    by_source : (p : Proposal) → HasSome w (Finalize p) ⊎ New (Finalize p) → p.view ≤ view
    by_source p (inl s) = k.last p s
    by_source p (inr n) = absurd (never p n)

-- that finalization and its block, as the world has them
pub data IsTopIn (r : Rules) (w : World) (view : ℕ) (a : Block) : Type 0 where
  Lacks : view ≡ 0 → IsTopIn r w view a
  Has : (p : Proposal) → Stands r.epochs (members_of w) (Finalize p) → p.view ≡ view
      → block_under r w p.payload ≡ Some a → IsTopIn r w view a

module _ (r : Rules) (none : r.epochs.span ≡ None) (script : List Line) (w : World)
    (cluster : IsCluster r script) (clear : ReachesClear r script w) where
  -- no epoch is ever entered
  no_entry : (i : ℕ) (m : Member) → member_at w i ≡ Some m → (epoch : ℕ) (c : Commitment)
      → In (Note.Epoch epoch c) (member_notes m) → ⊥
  no_entry i m at epoch c h =
      let (front, rest, joined, k) =
      each_at (Keeps r (meaning r.epochs (members_of w))) [] (member_notes m)
      (Note.Epoch epoch c)
      (keeps r script w cluster clear i (member_notes m) (notes_at r script w cluster clear i m at))
      h in
      let y : ◌≡◌ {A = Option ℕ} None (Some k.span) = sym none ∙ k.is_span in
      cc y

  pub epoch_first : (i : ℕ) (m : Member) → member_at w i ≡ Some m → epoch_of (member_notes m) ≡ 0
  epoch_first i m at =
      let low =
      greatest_low (filter_map entered (member_notes m)) 0
      (λ x h. absurd (by_note x (mapped_from entered (member_notes m) x h))) in
      omega (arith, low)
    where
      by_note : (x : ℕ) → ((n : Note) × In n (member_notes m) × (entered n ≡ Some x)) → ⊥
      by_note x (n, inside, e) =
          let (c, is) = entered_is n x e in
          no_entry i m at x c (subst (λ y. In y (member_notes m)) is inside)

  -- what stands notarized is of the first epoch
  pub notarized_first : (bound : ℕ) (p : Proposal) → Stands r.epochs (members_of w) (Notarize p)
      → p.view < bound → p.epoch ≡ 0
  notarized_first zero p a lt = absurd (omega (arith, lt))
  notarized_first (suc bound) p a lt =
      let s =
      sharer r.epochs (members_of w) (Notarize p) (Notarize p)
      (lawful r script w cluster clear).faults refl a a in
      let f =
      found_after (Keeps r (meaning r.epochs (members_of w))) (is_vote (Notarize p)) [] s.notes
      (keeps r script w cluster clear s.place s.notes s.at) s.first in
      let k =
      subst (Keeps r (meaning r.epochs (members_of w)) f.before)
      (vote_note (Notarize p) f.note f.passes) f.holds in
      by_settled s.place s.notes f.before f.rest s.at f.joined k.2 (notarized_first bound)
    where
      by_begun : (i : ℕ) (notes before rest : List Note)
          → slice_get (members_of w) i ≡ Some (Some notes) → notes ≡ before ++ rest
          → ((p.epoch == 0) ≡ true) ⊎ (list_any (enters p.epoch) before ≡ true) → p.epoch ≡ 0
      by_begun i notes before rest at joined (inl t) = eqb-true p.epoch 0 t
      by_begun i notes before rest at joined (inr t) =
          let (n, inside, e) = any_in (enters p.epoch) before t in
          let (epoch, c, is) = entering_note p.epoch n e in
          let (m, there, same) = member_with w i notes at in
          absurd
          (no_entry i m (member_is w i m there) epoch c
          (subst (λ ns. In (Note.Epoch epoch c) ns) (sym joined ∙ sym same)
          (in_left (Note.Epoch epoch c) before rest
          (subst (λ x. In x before) is inside))))

      by_settler : (i : ℕ) (notes before rest : List Note)
          → slice_get (members_of w) i ≡ Some (Some notes) → notes ≡ before ++ rest
          → ((q : Proposal) × Settles before p.epoch p.parent q)
          → ((q : Proposal) → Stands r.epochs (members_of w) (Notarize q) → q.view < bound
          → q.epoch ≡ 0)
          → p.epoch ≡ 0
      by_settler i notes before rest at joined (q, t) later =
          sym t.0
          ∙ later q
          (settler_stands r.epochs (block_fits r) (members_of w)
          (lawful r script w cluster clear) notes
          ((lawful r script w cluster clear).honest i notes at) p.epoch p.parent q
          (subst (λ ns. Settles ns p.epoch p.parent q) (sym joined)
          (Settles_front before rest p.epoch p.parent q t)))
          (omega (
            arith,
            t.1,
            lt,
            notarized_below r.epochs (block_fits r) (members_of w)
                (lawful r script w cluster clear) p a,
          ))

      by_settled : (i : ℕ) (notes before rest : List Note)
          → slice_get (members_of w) i ≡ Some (Some notes) → notes ≡ before ++ rest
          → IsSettled before p.epoch p.parent
          → ((q : Proposal) → Stands r.epochs (members_of w) (Notarize q) → q.view < bound
          → q.epoch ≡ 0)
          → p.epoch ≡ 0
      by_settled i notes before rest at joined (inl z) later =
          by_begun i notes before rest at joined
          (or_cases (p.epoch == 0) (list_any (enters p.epoch) before) z.1)
      by_settled i notes before rest at joined (inr z) later =
          by_settler i notes before rest at joined (settler_found before p.epoch p.parent z.1)
          later

  pub cert_stands : (i : ℕ) (m : Member) → member_at w i ≡ Some m → (v : Vote)
      → has_cert (member_notes m) v ≡ true → Stands r.epochs (members_of w) v
  cert_stands i m at v h =
      ((lawful r script w cluster clear).honest i (member_notes m)
      (notes_at r script w cluster clear i m at)).certs_stand v h

  pub final_first : (p : Proposal) → Stands r.epochs (members_of w) (Finalize p) → p.epoch ≡ 0
  final_first p a =
      notarized_first (suc p.view) p
      (finalized_notarized r.epochs (block_fits r) (members_of w)
      (lawful r script w cluster clear) p a)
      (omega arith)

  -- ---- heights

  -- nobody knows of a higher final block
  pub none_higher : (view : ℕ) (a : Block) → IsTopIn r w view a
      → ((p : Proposal) → HasSome w (Finalize p) → p.view ≤ view) → (i : ℕ) (m : Member)
      → member_at w i ≡ Some m → final_top r (member_notes m) ≤ a.height
  none_higher view a top last i m at = go (cases_lt 0 (final_top r (member_notes m)))
    where
      by_final : (q : Proposal) (b : Block) → has_cert (member_notes m) (Finalize q) ≡ true
          → held r (member_notes m) q.payload ≡ Some b → IsTopIn r w view a
          → b.height ≤ a.height
      by_final q b cert holds (Lacks z) =
          absurd
          (omega (
            arith,
            z,
            last q (record { number = i; member = m; there = at; noted = cert }),
            notarized_above r.epochs (block_fits r) (members_of w)
                (lawful r script w cluster clear) q
                (finalized_notarized r.epochs (block_fits r) (members_of w)
                (lawful r script w cluster clear) q (cert_stands i m at (Finalize q) cert)),
          ))
      by_final q b cert holds (Has p stands is under) = by_order (cases_lt q.view p.view)
        where
          own : Stands r.epochs (members_of w) (Finalize q)
          own = cert_stands i m at (Finalize q) cert

          under_q : block_under r w q.payload ≡ Some b
          under_q =
              held_is r script w cluster clear i m at (member_notes m) []
              (sym (append-nil (member_notes m))) q.payload b holds

          epochs : q.epoch ≡ p.epoch
          epochs = final_first q own ∙ sym (final_first p stands)

          by_order : (q.view < p.view) ⊎ (p.view ≤ q.view) → b.height ≤ a.height
          by_order (inl lt) =
              rises r script w cluster clear q p own stands epochs lt b a under_q under
          by_order (inr le) =
              let views : q.view ≡ p.view =
              omega (
                arith,
                le,
                is,
                last q (record { number = i; member = m; there = at; noted = cert }),
              ) in
              let one : q ≡ p =
              one_notarized r.epochs (block_fits r) (members_of w)
              (lawful r script w cluster clear) q p
              (finalized_notarized r.epochs (block_fits r) (members_of w)
              (lawful r script w cluster clear) q own)
              (finalized_notarized r.epochs (block_fits r) (members_of w)
              (lawful r script w cluster clear) p stands)
              epochs views in
              let two : b ≡ a =
              same_Some b a
              (sym under_q ∙ (ap (λ (x : Proposal). block_under r w x.payload) one ∙ under)) in
              let three = ap (λ (x : Block). x.height) two in
              omega (arith, three)

      go : (0 < final_top r (member_notes m)) ⊎ (final_top r (member_notes m) ≤ 0)
          → final_top r (member_notes m) ≤ a.height
      go (inr le) = omega (arith, le)
      go (inl pos) =
          let (q, b, inside, holds, same) = top_at r (member_notes m) pos in
          omega (
            arith,
            same,
            by_final q b (final_noted (member_notes m) q inside) holds top,
          )

  module _ (view : ℕ) (a : Block) (k : Ready r w view a) where
    in_world : IsTopIn r w view a
    in_world = go k.top
      where
        go : HasTop r view a (member_notes k.member) → IsTopIn r w view a
        go (Unknown z e) = Lacks z
        go (Known p cert is holds) =
            Has p (cert_stands k.number k.member k.there (Finalize p) cert) is
            (held_is r script w cluster clear k.number k.member k.there (member_notes k.member)
            [] (sym (append-nil (member_notes k.member))) p.payload a holds)

    higher : (i : ℕ) (m : Member) → member_at w i ≡ Some m
        → final_top r (member_notes m) ≤ a.height
    higher = none_higher view a in_world k.last

    pub knows_none : (i : ℕ) (m : Member) → member_at w i ≡ Some m
        → KnowsNoLater r (member_notes m) 0 view a.height
    knows_none i m at = (
      λ p cert of. k.last p (record { number = i; member = m; there = at; noted = cert }),
      higher i m at,
    )

    -- nor gave up a height above it
    pub gave_up_low : (i : ℕ) (m : Member) → member_at w i ≡ Some m
        → max (greatest_floor (member_notes m)) (greatest_prune (member_notes m)) ≤ a.height
    gave_up_low i m at =
        let reach : Reaches r script w = clear_reaches r script w clear in
        omega (
          arith,
          higher i m at,
          floor_low r script w cluster reach i m at,
          prune_final r script w cluster reach i m at,
        )

    pub top_base : (i : ℕ) (m : Member) → member_at w i ≡ Some m
        → HasTop r view a (member_notes m) → (theirs : List Note)
        → IsBase r (member_notes m) theirs 0 view a
    top_base i m at (Unknown z e) theirs =
        let g = genesis_commitment r in
        Begun z g (subst (λ v. settled g theirs 0 v ≡ Some g) (sym z) refl)
        (cond-true (same_commitment g g) (Some (genesis r)) (kept_block theirs g)
        (same_commitment_self g)
        ∙ ap Some (sym e))
    top_base i m at (Known p cert is holds) theirs =
        Final p cert (final_first p (cert_stands i m at (Finalize p) cert)) is holds

  -- ---- views

  module _ (top : ℕ) (pos : 0 < top)
      (each : (i : ℕ) (m : Member) → member_at w i ≡ Some m → view_of (member_notes m) 0 ≤ top)
    where
      -- what has ended for somebody is below
      ended_low : (i : ℕ) (m : Member) → member_at w i ≡ Some m → (x : ℕ)
          → In x (filter_map (ended 0) (member_notes m)) → x < top
      ended_low i m at x h =
          omega (arith, each i m at, in_greatest (filter_map (ended 0) (member_notes m)) x h)

      notarized_low : (q : Proposal) → Stands r.epochs (members_of w) (Notarize q) → q.view ≤ top
      notarized_low q a = go q.view refl
        where
          go : (v : ℕ) → q.view ≡ v → q.view ≤ top
          go zero e = omega (arith, e)
          go (suc zero) e = omega (arith, e, pos)
          go (suc (suc v)) e =
              let s =
              below_notarized r script w cluster (clear_reaches r script w clear) q a (suc v) e
              (omega arith) in
              let zero_epoch : q.epoch ≡ 0 = notarized_first (suc q.view) q a (omega arith) in
              omega (
                arith,
                e,
                ended_low s.number s.member s.there (suc v)
                    (subst
                    (λ x. In (suc v) (filter_map (ended x) (member_notes s.member))) zero_epoch
                    s.noted),
              )

      voted_low : (v : Vote) → HasSome w v → (x : ℕ) → ended_by 0 v ≡ Some x → x ≤ top
      voted_low v s x e =
          let (t, inside, same) = cert_note v (member_notes s.member) s.noted in
          omega (
            arith,
            ended_low s.number s.member s.there x
                (mapped_in (ended 0) (member_notes s.member) (Note.Cert t) x inside
                (ap (ended_by 0) same ∙ e)),
          )

      -- so nobody comes further than one view on
      pub one_on : (payload : List ℕ) (New : Vote → Type 0)
          → ((q : Proposal) → New (Notarize q) → q.view ≤ top)
          → ((v : Vote) → New v → (x : ℕ) → ended_by 0 v ≡ Some x → x ≤ top) → (u : World)
          → Way r w payload New u → (i : ℕ) (m : Member) → member_at u i ≡ Some m
          → view_of (member_notes m) 0 ≤ top + 1
      one_on payload New never ends u way i m at =
          let low =
          greatest_low (filter_map (ended 0) (member_notes m)) top
          (λ x h. by_end x (mapped_from (ended 0) (member_notes m) x h)) in
          omega (arith, low)
        where
          by_source : (q : Proposal) → HasSome w (Notarize q) ⊎ New (Notarize q) → q.view ≤ top
          by_source q (inl s) =
              notarized_low q (cert_stands s.number s.member s.there (Notarize q) s.noted)
          by_source q (inr n) = never q n

          by_vote : (v : Vote) → HasSome w v ⊎ New v → (x : ℕ) → ended_by 0 v ≡ Some x → x ≤ top
          by_vote v (inl s) x e = voted_low v s x e
          by_vote v (inr n) x e = ends v n x e

          by_certified : (q : Proposal) → In (Note.Certified q) (member_notes m) → q.view ≤ top
          by_certified q h =
              let c =
              certifies r way.path.script u way.path.cluster way.path.clear i m at q h in
              let cert : has_cert (member_notes m) (Notarize q) ≡ true =
              subst (λ v. has_cert (member_notes m) v ≡ true) c.votes
              (cert_has c.cert (member_notes m)
              (subst (In (Note.Cert c.cert)) (sym c.joined)
              (in_left (Note.Cert c.cert) c.before c.rest c.noted))) in
              by_source q (way.certs i m at (Notarize q) cert)

          by_note : (x : ℕ) (n : Note) → In n (member_notes m) → ended 0 n ≡ Some x → x ≤ top
          by_note x (Note.Certified q) h e =
              let t = ends_tell 0 q.epoch q.view x e in omega (arith, by_certified q h, t.1)
          by_note x (Note.Cert s) h e =
              by_vote s.vote (way.certs i m at s.vote (cert_has s (member_notes m) h)) x e
          by_note x (Note.Vote v) h e = cc e
          by_note x (Note.Verified y view c) h e = cc e
          by_note x (Note.Block c b) h e = cc e
          by_note x (Note.Ack y) h e = cc e
          by_note x (Note.Floor y) h e = cc e
          by_note x (Note.Prune y) h e = cc e
          by_note x (Note.Epoch y c) h e = cc e

          by_end : (x : ℕ) → ((n : Note) × In n (member_notes m) × (ended 0 n ≡ Some x)) → x ≤ top
          by_end x (n, h, e) = by_note x n h e
