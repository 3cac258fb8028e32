-- What each honest member has done with what it has: it has certified what it can, and has closed each
-- view in which it certified.
use Rattle.std.proofs.Common.{◌≡◌, ℕ, ◌<◌, ◌≤◌, Bool, true, false, ◌&&◌, ◌==◌, not, List, [], ◌∷◌, Option, Some, None, filter_map, length, option_map, slice_get, refl, sym, ◌∙◌, ap, subst, inl, inr, arith, eq-eqb, eqb-true, IsTrue}
use Rattle.std.specs.List.{AllByRecursion}
use Rattle.std.specs.Option.{option_map_or}
use Rattle.std.proofs.lemmas.Bool.{and_from, and_parts, false≢true}
use Rattle.std.proofs.lemmas.Option.{same_Some}
use Rattle.cw_types.specs.declared.event.Event.{Event}
use Rattle.cw_types.specs.declared.note.Note.{Note}
use Rattle.cw_types.specs.declared.vote.Proposal.{Proposal}
use Rattle.cw_types.specs.declared.vote.Vote.{Vote}
use Rattle.cw_types.specs.declared.vote.Vote.TheVariants.{Finalize, Notarize, Nullify}
use Rattle.cw_types.specs.Block.{Block}
use Rattle.cw_types.specs.Epochs.{is_member, members_in}
use Rattle.cw_types.specs.Votes.{proposal_of, vote_epoch, vote_view}
use Rattle.cw_types.proofs.Same.{same_vote_self}
use Rattle.cw_rules.specs.Accepted.{State, first_some}
use Rattle.cw_rules.specs.Chains.{block_under}
use Rattle.cw_rules.specs.Fits.{block_fits}
use Rattle.cw_rules.specs.Notes.{has_cert, has_certified, has_vote, is_vote}
use Rattle.cw_rules.specs.Owed.{ballot_vote, block_owed, cert_owed, certified_owed, closes, epoch_owed, finalize_owed, floor_owed, has_closed, is_closing, is_of, named_commitments, named_proposals, named_votes, note_proposal, notarize_owed, when}
use Rattle.cw_rules.specs.Reached.{GoesDown, In, IsCluster, Lower, ReachesClear, Same, members_of}
use Rattle.cw_rules.specs.Rules.{Rules}
use Rattle.cw_rules.specs.Stands.{AreKept, Descends, LeadsTo, Stands, backs, backs_at}
use Rattle.cw_rules.specs.Step.{Member, member_notes, state_of, step, step_notes, taken, with_notes}
use Rattle.cw_rules.specs.World.{Line, World, member_at, signed}
use Rattle.cw_rules.proofs.Certified.{finalized_in}
use Rattle.cw_rules.proofs.Chain.{certified_rests, finalized_certified, finalized_descent, finalized_notarized, one_notarized}
use Rattle.cw_rules.proofs.Fits.{last_is}
use Rattle.cw_rules.proofs.Grows.{count_signers}
use Rattle.cw_rules.proofs.Lists.{in_right, is_in}
use Rattle.cw_rules.proofs.Runs.{clear_down}
use Rattle.cw_rules.proofs.Settles.{step_ends}
use Rattle.cw_rules.proofs.Worlds.{frames_join, get-map, length-mapped, member_there}
use Rattle.cw_progress.proofs.Carries.{AnyLine, Carries, any_lines, reached_all}
use Rattle.cw_progress.proofs.Certifies.{keeps, lawful, notes_at, step_certifies}
use Rattle.cw_progress.proofs.Ends.{certified_in_notes, member_is}
use Rattle.cw_progress.proofs.Outs.{mapped_in}
use Rattle.cw_progress.proofs.Paths.{clear_reaches, clear_world}
use Rattle.cw_progress.proofs.Quorum.{any_in, in_any}
use Rattle.cw_progress.proofs.Rests.{first_none, or_none}
use Rattle.cw_progress.proofs.Rising.{way_low}
use Rattle.cw_progress.proofs.Rounds.{get_some}

all_in : (P : ℕ → Type 0) (xs : List ℕ) (x : ℕ) → AllByRecursion P xs → In x xs → P x
all_in P [] x a h = absurd h
all_in P (y ∷ ys) x a (inl same) = subst P (sym same) a.0
all_in P (y ∷ ys) x a (inr h) = all_in P ys x a.1 h

-- ---- steps

-- a member of the epoch that has certified a proposal has closed its view
step_closes : (r : Rules) (id : ℕ) (sign : ℕ → Vote → Bool) (n : Member) (e : Event)
    (p : Proposal)
    → has_certified (member_notes (step r id sign n e).member) p ≡ true
    → is_member r.epochs p.epoch id ≡ true
    → has_closed (member_notes (step r id sign n e).member) p.epoch p.view ≡ true
step_closes r id sign n e p certified belongs =
    go (has_closed all p.epoch p.view) refl
    (first_none (finalize_owed r id done) (named_proposals done) p none named)
  where
    done : State
    done = state_of (step r id sign n e).member

    all : List Note
    all = member_notes (step r id sign n e).member

    during : State
    during = taken r sign (state_of n) e

    ended : State
    ended = with_notes during (step_notes r id during e)

    none_ended : first_some (finalize_owed r id ended) (named_proposals ended) ≡ None
    none_ended =
        (or_none (first_some (notarize_owed r id ended) (named_proposals ended)) _
        (or_none (epoch_owed r ended) _
        (or_none (first_some (floor_owed r ended) ended.came.wishes) _
        (or_none (first_some (certified_owed r ended) (named_proposals ended)) _
        (or_none (first_some (cert_owed r id ended) (named_votes ended)) _
        (or_none (first_some (block_owed r ended) (named_commitments r ended)) _
        (step_ends r id during e)).1).1).1).1).1).1

    as_notes : List Note → State
    as_notes ns = record { notes = ns; came = during.came; given = n.given }

    none : first_some (finalize_owed r id done) (named_proposals done) ≡ None
    none =
        subst
        (λ ns. first_some (finalize_owed r id (as_notes ns)) (named_proposals (as_notes ns))
        ≡ None)
        (sym (frames_join n.frames (step_notes r id during e))) none_ended

    named : In p (named_proposals done)
    named =
        in_right p (filter_map (λ x. proposal_of (ballot_vote x)) done.came.ballots)
        (filter_map note_proposal all)
        (mapped_in note_proposal all (Note.Certified p) p (certified_in_notes p all certified) refl)

    go : (b : Bool) → has_closed all p.epoch p.view ≡ b
        → when (has_certified all p && is_member r.epochs p.epoch id && not b)
        (Note.Vote (Finalize p))
        ≡ None
        → has_closed all p.epoch p.view ≡ true
    go true f h = f
    go false f h =
        let x : when true (Note.Vote (Finalize p)) ≡ None =
        ap (λ t. when t (Note.Vote (Finalize p)))
        (sym
        (and_from (has_certified all p && is_member r.epochs p.epoch id) true
        (and_from (has_certified all p) (is_member r.epochs p.epoch id) certified belongs) refl))
        ∙ h in
        cc x

-- ---- each honest member

-- it has certified what is notarized and fits, and closed each view in which it certified
abbrev IsDone : Rules → ℕ → List Note → Type 0
IsDone r i notes =
    (p : Proposal)
    → (has_cert notes (Notarize p) ≡ true → block_fits r notes p ≡ true
    → has_certified notes p ≡ true)
    × (has_certified notes p ≡ true → is_member r.epochs p.epoch i ≡ true
    → has_closed notes p.epoch p.view ≡ true)

done_carries : (r : Rules) (script : List Line)
    → Carries r script AnyLine (λ w i m. IsDone r i (member_notes m))
done_carries r script = record {
  stays = λ w v i m e d. d;
  first = λ i p. ((λ c f. absurd (false≢true c)), (λ c b. absurd (false≢true c)));
  stepped =
      λ w i m e t d p. (step_certifies r i (signed w) m e p, step_closes r i (signed w) m e p);
  halts = λ w i m d. d;
  kept =
      λ w i m e t d p. (step_certifies r i (signed w) m e p, step_closes r i (signed w) m e p);
  started = λ w i m c at live d. d;
}

module _ (r : Rules) (script : List Line) (w : World) (cluster : IsCluster r script)
    (clear : ReachesClear r script w) where
  is_done : (i : ℕ) (m : Member) → member_at w i ≡ Some m → IsDone r i (member_notes m)
  is_done i m at =
      reached_all r script AnyLine (λ u j n. IsDone r j (member_notes n)) (done_carries r script)
      w cluster (any_lines script) (clear_reaches r script w clear) i m (member_there w i m at)

  -- who knows that a proposal is notarized, and holds a block that is one for it, has certified it
  pub has_certified_it : (i : ℕ) (m : Member) → member_at w i ≡ Some m → (p : Proposal)
      → has_cert (member_notes m) (Notarize p) ≡ true
      → block_fits r (member_notes m) p ≡ true → has_certified (member_notes m) p ≡ true
  has_certified_it i m at p = (is_done i m at p).0

  -- a member of the epoch that has certified a proposal, and hasn't voted to nullify its view, has
  -- voted to finalize it
  pub has_voted_for_it : (i : ℕ) (m : Member) → member_at w i ≡ Some m → (p : Proposal)
      → has_certified (member_notes m) p ≡ true → is_member r.epochs p.epoch i ≡ true
      → (has_vote (member_notes m) (Nullify p.epoch p.view) ≡ true → ⊥)
      → has_vote (member_notes m) (Finalize p) ≡ true
  has_voted_for_it i m at p certified belongs unclosed =
      let (n, inside, f) =
      any_in (closes p.epoch p.view) notes ((is_done i m at p).1 certified belongs) in
      by_note n inside f
    where
      notes : List Note
      notes = member_notes m

      own : AreKept r.epochs (block_fits r) (members_of w) notes
      own =
          (lawful r script w cluster clear).honest i notes
          (notes_at r script w cluster clear i m at)

      by_vote : (v : Vote) → In (Note.Vote v) notes → is_closing v ≡ true
          → vote_epoch v ≡ p.epoch → vote_view v ≡ p.view
          → has_vote notes (Finalize p) ≡ true
      by_vote (Notarize q) inside f of view = absurd (false≢true f)
      by_vote (Nullify x y) inside f of view =
          absurd
          (unclosed
          (subst (λ z. has_vote notes (Nullify p.epoch z) ≡ true) view
          (subst (λ z. has_vote notes (Nullify z y) ≡ true) of
          (in_any (is_vote (Nullify x y)) notes (Note.Vote (Nullify x y)) inside
          (same_vote_self (Nullify x y))))))
      by_vote (Finalize q) inside f of view =
          let voted : has_vote notes (Finalize q) ≡ true =
          in_any (is_vote (Finalize q)) notes (Note.Vote (Finalize q)) inside
          (same_vote_self (Finalize q)) in
          subst (λ x. has_vote notes (Finalize x) ≡ true)
          (one_notarized r.epochs (block_fits r) (members_of w) (lawful r script w cluster clear)
          q p
          (certified_rests r.epochs (block_fits r) (members_of w) notes own q
          (finalized_certified r.epochs (block_fits r) (members_of w) notes own q voted))
          (certified_rests r.epochs (block_fits r) (members_of w) notes own p certified) of view)
          voted

      by_note : (n : Note) → In n notes → closes p.epoch p.view n ≡ true
          → has_vote notes (Finalize p) ≡ true
      by_note (Note.Vote v) inside f =
          let a = and_parts (is_closing v) (is_of p.epoch p.view v) f in
          let b = and_parts (vote_epoch v == p.epoch) (vote_view v == p.view) a.1 in
          by_vote v inside a.0 (eqb-true (vote_epoch v) p.epoch b.0)
          (eqb-true (vote_view v) p.view b.1)
      by_note (Note.Verified x y d) inside f = absurd (false≢true f)
      by_note (Note.Block d b) inside f = absurd (false≢true f)
      by_note (Note.Cert u) inside f = absurd (false≢true f)
      by_note (Note.Certified q) inside f = absurd (false≢true f)
      by_note (Note.Ack x) inside f = absurd (false≢true f)
      by_note (Note.Floor x) inside f = absurd (false≢true f)
      by_note (Note.Prune x) inside f = absurd (false≢true f)
      by_note (Note.Epoch x d) inside f = absurd (false≢true f)

  -- ---- all votes

  -- what each honest member of its epoch has voted for stands
  pub all_stands : (v : Vote)
      → ((i : ℕ) (m : Member) → member_at w i ≡ Some m
      → is_member r.epochs (vote_epoch v) i ≡ true → has_vote (member_notes m) v ≡ true)
      → Stands r.epochs (members_of w) v
  all_stands v voted =
      omega (
        arith,
        count_signers (backs_at (members_of w) v) 0 xs xs (cluster.rising (vote_epoch v))
            (cluster.rising (vote_epoch v)) (each xs (λ i h. h)),
      )
    where
      xs : List ℕ
      xs = members_in r.epochs (vote_epoch v)

      belongs : (i : ℕ) → In i xs → is_member r.epochs (vote_epoch v) i ≡ true
      belongs i h = in_any (λ j. j == i) xs i h (eq-eqb i i refl)

      low : r.epochs.total ≤ length w.members
      low =
          let total = ((clear_world r script w cluster clear).0).total in
          let same = length-mapped (option_map member_notes) w.members in
          omega (arith, total, same)

      backs_it : (i : ℕ) → is_member r.epochs (vote_epoch v) i ≡ true
          → (o : Option Member) → slice_get w.members i ≡ Some o
          → backs_at (members_of w) v i ≡ true
      backs_it i is o at = by_member o at
        where
          tells : (o : Option Member) → slice_get w.members i ≡ Some o
              → backs_at (members_of w) v i ≡ backs v (option_map member_notes o)
          tells o at =
              ap (λ x. option_map_or (backs v) x false)
              (get-map (option_map member_notes) w.members i o at)

          by_member : (o : Option Member) → slice_get w.members i ≡ Some o
              → backs_at (members_of w) v i ≡ true
          by_member None at = tells None at
          by_member (Some m) at = tells (Some m) at ∙ voted i m (member_is w i m at) is

      each : (ys : List ℕ) → ((i : ℕ) → In i ys → In i xs)
          → AllByRecursion (λ i. IsTrue (is_in xs i) × (backs_at (members_of w) v i ≡ true)) ys
      each [] f = tt
      each (y ∷ ys) f =
          let is = belongs y (f y (inl refl)) in
          let (o, at) =
          get_some w.members y
          (omega (arith, low, all_in (λ i. i < r.epochs.total) xs y (cluster.there (vote_epoch v)) (f y (inl refl))))
          in ((is, backs_it y is o at), each ys (λ i h. f i (inr h)))

  -- ---- heights

  -- in one epoch without end what is finalized in a later view is higher
  pub rises_more : r.epochs.span ≡ None → (p q : Proposal)
      → Stands r.epochs (members_of w) (Finalize p)
      → Stands r.epochs (members_of w) (Finalize q) → p.epoch ≡ q.epoch → p.view < q.view
      → (a b : Block) → block_under r w p.payload ≡ Some a → block_under r w q.payload ≡ Some b
      → a.height < b.height
  rises_more none p q fp fq same lt a b f g =
      go
      (finalized_descent r.epochs (block_fits r) (members_of w) (lawful r script w cluster clear)
      p q fp
      (finalized_notarized r.epochs (block_fits r) (members_of w)
      (lawful r script w cluster clear) q fq)
      same lt)
    where
      by_step : (y : Proposal) (way : List Proposal) → LeadsTo r.epochs (members_of w) y way p
          → LeadsTo r.epochs (members_of w) q (y ∷ []) y → GoesDown r w q y
          → a.height < b.height
      by_step y way more first (Lower d c k l up) =
          let one : b ≡ d = same_Some b d (sym g ∙ k) in
          let two = ap (λ (z : Block). z.height) one in
          omega (
            arith,
            two,
            up,
            way_low r script w cluster clear q fq (y ∷ []) way y p first more c a l f,
          )
      by_step y way more first (Same s d k last) =
          let (span, is, e) = last_is r.epochs q.epoch d.height last in
          let x : ◌≡◌ {A = Option ℕ} None (Some span) = sym none ∙ is in
          absurd (cc x)

      by_way : (way : List Proposal) → LeadsTo r.epochs (members_of w) q way p
          → a.height < b.height
      by_way [] is =
          let one = ap (λ (z : Proposal). z.view) is in absurd (omega (arith, one, lt))
      by_way (y ∷ way) (stands, of, view, more) =
          by_step y way more (stands, of, view, refl)
          (clear_down r script w cluster clear q y
          (finalized_in r cluster.spans (members_of w) (lawful r script w cluster clear)
          (keeps r script w cluster clear) q fq)
          stands of view)

      go : Descends r.epochs (members_of w) q p → a.height < b.height
      go (way, leads) = by_way way leads
