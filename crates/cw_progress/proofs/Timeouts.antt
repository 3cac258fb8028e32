-- A view that a quorum of honest members is in can be ended.
use Rattle.std.proofs.Common.{◌≡◌, ℕ, ◌-◌, ◌^◌, ◌<◌, ◌≤◌, Bool, true, false, ◌&&◌, ◌==◌, not, nat_lt, List, [], ◌∷◌, ◌++◌, Some, filter_map, length, option_map, refl, sym, ◌∙◌, ap, subst, inl, inr, ◌⊎◌, arith, eq-eqb, eqb-true, lt-ltb}
use Rattle.std.proofs.lemmas.Bool.{and_from, and_parts, cases_Bool, cond-true, false≢true, or_left}
use Rattle.cw_types.specs.declared.event.Event.{Event}
use Rattle.cw_types.specs.declared.note.Note.{Note}
use Rattle.cw_types.specs.declared.vote.Vote.{Vote}
use Rattle.cw_types.specs.declared.vote.Vote.TheVariants.{Finalize, Notarize, Nullify}
use Rattle.cw_types.specs.Epochs.{is_member, rises_from, size}
use Rattle.cw_types.specs.Numbers.{quorum}
use Rattle.cw_types.specs.Votes.{vote_epoch, vote_view}
use Rattle.cw_types.specs.Same.{same_vote}
use Rattle.cw_types.proofs.Same.{same_vote_self}
use Rattle.cw_rules.specs.Direct.{timed_out}
use Rattle.cw_rules.specs.Fits.{block_fits}
use Rattle.cw_rules.specs.Notes.{ended, epoch_of, has_cert, has_vote, is_vote, view_of}
use Rattle.cw_rules.specs.Owed.{closes, has_closed, is_closing, is_of}
use Rattle.cw_rules.specs.Reached.{In, IsCluster, Reaches, members_of}
use Rattle.cw_rules.specs.Rules.{Rules}
use Rattle.cw_rules.specs.Stands.{AreKept}
use Rattle.cw_rules.specs.Step.{Member, marks, member_notes, settle, state_of, step, step_notes, taken, with_notes}
use Rattle.cw_rules.specs.World.{Ask, Line, World, member_at, signed}
use Rattle.cw_rules.specs.Accepted.{State}
use Rattle.cw_rules.proofs.Chain.{finalized_certified}
use Rattle.cw_rules.proofs.NoteLemmas.{any_back, any_front}
use Rattle.cw_rules.proofs.Reach.{reached_lawful}
use Rattle.cw_rules.proofs.Worlds.{frames_join, get-map, member_there}
use Rattle.cw_progress.specs.Over.{ComesTo, is_delivery_or_timeout}
use Rattle.cw_progress.specs.Views.{IsVoter}
use Rattle.cw_progress.proofs.Ends.{certified_in_notes, ends_here}
use Rattle.cw_progress.proofs.Outs.{mapped_in}
use Rattle.cw_progress.proofs.Quorum.{any_in, in_any}
use Rattle.cw_progress.proofs.Tops.{in_greatest}
use Rattle.cw_progress.proofs.Voting.{Voting, voting_over}

-- who closed the view that it is in has voted to nullify it
closed_nullified : (r : Rules) (w : World) (notes : List Note)
    → AreKept r.epochs (block_fits r) (members_of w) notes → (epoch view : ℕ)
    → view_of notes epoch ≡ view → has_closed notes epoch view ≡ true
    → has_vote notes (Nullify epoch view) ≡ true
closed_nullified r w notes kept epoch view is h =
    let (n, at, e) = any_in (closes epoch view) notes h in by_note n at e
  where
    by_vote : (v : Vote) → In (Note.Vote v) notes → is_closing v ≡ true
        → (vote_epoch v ≡ epoch) → (vote_view v ≡ view)
        → has_vote notes (Nullify epoch view) ≡ true
    by_vote (Notarize p) at c of in_view = absurd (false≢true c)
    by_vote (Nullify x y) at c of in_view =
        in_any (is_vote (Nullify epoch view)) notes (Note.Vote (Nullify x y)) at
        (subst (λ z. same_vote (Nullify epoch view) (Nullify z y) ≡ true) (sym of)
        (subst (λ z. same_vote (Nullify epoch view) (Nullify epoch z) ≡ true) (sym in_view)
        (same_vote_self (Nullify epoch view))))
    by_vote (Finalize p) at c of in_view =
        let voted : has_vote notes (Finalize p) ≡ true =
        in_any (is_vote (Finalize p)) notes (Note.Vote (Finalize p)) at
        (same_vote_self (Finalize p)) in
        let certified =
        certified_in_notes p notes
        (finalized_certified r.epochs (block_fits r) (members_of w) notes kept p voted) in
        let inside =
        mapped_in (ended epoch) notes (Note.Certified p) view certified
        (ends_here epoch p.epoch p.view view of in_view) in
        absurd
        (omega (arith, is, in_greatest (filter_map (ended epoch) notes) view inside))

    by_note : (n : Note) → In n notes → closes epoch view n ≡ true
        → has_vote notes (Nullify epoch view) ≡ true
    by_note (Note.Vote v) at e =
        let a = and_parts (is_closing v) (is_of epoch view v) e in
        let b = and_parts (vote_epoch v == epoch) (vote_view v == view) a.1 in
        by_vote v at a.0 (eqb-true (vote_epoch v) epoch b.0) (eqb-true (vote_view v) view b.1)
    by_note (Note.Verified x y c) at e = absurd (false≢true e)
    by_note (Note.Block c b) at e = absurd (false≢true e)
    by_note (Note.Cert s) at e = absurd (false≢true e)
    by_note (Note.Certified p) at e = absurd (false≢true e)
    by_note (Note.Ack x) at e = absurd (false≢true e)
    by_note (Note.Floor x) at e = absurd (false≢true e)
    by_note (Note.Prune x) at e = absurd (false≢true e)
    by_note (Note.Epoch x c) at e = absurd (false≢true e)

module _ (r : Rules) (epoch view : ℕ) (room : view < 2 ^ 64 - 1) where
  -- a member of that view has voted after a timeout
  pub voter_votes : (script : List Line) (w : World) → IsCluster r script → Reaches r script w
      → (i : ℕ) → (x : IsVoter r w epoch view i)
      → has_vote (member_notes (step r i (signed w) x.member (Event.Timeout view)).member)
      (Nullify epoch view)
      ≡ true
  voter_votes script w cluster reach i x =
      subst (λ ns. has_vote ns (Nullify epoch view) ≡ true)
      (sym (frames_join x.member.frames notes)) (go (cases_Bool (has_closed own epoch view)))
    where
      own : List Note
      own = member_notes x.member

      during : State
      during = taken r (signed w) (state_of x.member) (Event.Timeout view)

      notes : List Note
      notes = step_notes r i during (Event.Timeout view)

      kept : AreKept r.epochs (block_fits r) (members_of w) own
      kept =
          (reached_lawful r script w cluster reach).honest i own
          (get-map (option_map member_notes) w.members i (Some x.member)
          (member_there w i x.member x.there))

      test : ℕ → Bool
      test e =
          (view == view_of own e) && nat_lt view (2 ^ 64 - 1) && is_member r.epochs e i
          && not (has_closed own e view)

      passes : has_closed own epoch view ≡ false → test (epoch_of own) ≡ true
      passes f =
          subst (λ e. test e ≡ true) (sym x.epoch_is)
          (and_from
          ((view == view_of own epoch) && nat_lt view (2 ^ 64 - 1) && is_member r.epochs epoch i)
          (not (has_closed own epoch view))
          (and_from ((view == view_of own epoch) && nat_lt view (2 ^ 64 - 1))
          (is_member r.epochs epoch i)
          (and_from (view == view_of own epoch) (nat_lt view (2 ^ 64 - 1))
          (eq-eqb view (view_of own epoch) (sym x.view_is)) (lt-ltb view (2 ^ 64 - 1) room))
          x.belongs)
          (ap not f))

      said : has_closed own epoch view ≡ false
          → has_vote (timed_out r i own view) (Nullify epoch view) ≡ true
      said f =
          subst (λ ns. has_vote ns (Nullify epoch view) ≡ true)
          (sym
          (cond-true (test (epoch_of own)) (Note.Vote (Nullify (epoch_of own) view) ∷ []) []
          (passes f)))
          (or_left (is_vote (Nullify epoch view) (Note.Vote (Nullify (epoch_of own) view))) false
          (subst (λ z. same_vote (Nullify epoch view) (Nullify z view) ≡ true) (sym x.epoch_is)
          (same_vote_self (Nullify epoch view))))

      go : (has_closed own epoch view ≡ true) ⊎ (has_closed own epoch view ≡ false)
          → has_vote (own ++ notes) (Nullify epoch view) ≡ true
      go (inl t) =
          any_front (is_vote (Nullify epoch view)) own notes
          (closed_nullified r w own kept epoch view x.view_is t)
      go (inr f) =
          any_back (is_vote (Nullify epoch view)) own notes
          (any_front (is_vote (Nullify epoch view)) (timed_out r i own view)
          (settle r i (marks (with_notes during (timed_out r i own view)))
          (with_notes during (timed_out r i own view)))
          (said f))

  timeouts_vote : Voting r (Ask.Timeout view) (Nullify epoch view) (λ w. Unit {0})
      (λ w i. IsVoter r w epoch view i)
  timeouts_vote = record {
    stays = λ w u e h. h;
    same =
        λ w u i s x.
        record {
          member = x.member;
          there = s ∙ x.there;
          live = x.live;
          belongs = x.belongs;
          epoch_is = x.epoch_is;
          view_is = x.view_is;
        };
    event = λ w h i. (Event.Timeout view, refl);
    votes =
        λ script w cluster reach h i x.
        record {
          member = x.member;
          there = x.there;
          live = x.live;
          event = Event.Timeout view;
          asked = refl;
          voted = voter_votes script w cluster reach i x;
        };
  }

-- a view that a quorum of honest members is in can be ended
pub view_ends : (r : Rules) (script : List Line) (w : World) → IsCluster r script
    → Reaches r script w → (epoch view : ℕ) → view < 2 ^ 64 - 1 → (voters : List ℕ)
    → rises_from 0 voters ≡ true → quorum (size r.epochs epoch) ≤ length voters
    → ((i : ℕ) → In i voters → IsVoter r w epoch view i)
    → (j : ℕ) (n : Member) → member_at w j ≡ Some n → n.live ≡ true
    → ComesTo r w j is_delivery_or_timeout (λ notes. has_cert notes (Nullify epoch view))
view_ends r script w cluster reach epoch view room [] rise enough each j n at live =
    absurd (omega (arith, enough, cluster.enough epoch))
view_ends r script w cluster reach epoch view room (x ∷ xs) rise enough each j n at live =
    voting_over r (Ask.Timeout view) (Nullify epoch view) (λ w. Unit {0})
    (λ w i. IsVoter r w epoch view i) (timeouts_vote r epoch view room)
    (λ w i y. (y.member, y.there)) script w cluster reach tt
    (and_from (nat_lt 0 view) (nat_lt view (2 ^ 64 - 1))
    (lt-ltb 0 view (omega (arith, (each x (inl refl)).view_is)))
    (lt-ltb view (2 ^ 64 - 1) room))
    (x ∷ xs) rise enough (λ i h. (each i h).belongs) each is_delivery_or_timeout (λ i. refl)
    (λ i number. refl) j n at live
