-- What is notarized, and held where it fits by a quorum, can be finalized.
use Rattle.std.proofs.Common.{◌≡◌, ℕ, ◌≤◌, Bool, true, false, ◌&&◌, ◌==◌, not, cond, List, [], ◌∷◌, ◌++◌, Option, Some, None, filter_map, find, length, option_map, option_and_then, slice_get, refl, sym, ◌∙◌, ap, subst, inl, inr, ◌⊎◌, eqb-true}
use Rattle.std.specs.Option.{option_map_or}
use Rattle.std.proofs.lemmas.Bool.{and_from, and_parts, cases_Bool, cond-true, false≢true}
use Rattle.std.proofs.lemmas.List.Elements.{filter_map-append}
use Rattle.cw_types.specs.declared.commitment.Commitment.{Commitment}
use Rattle.cw_types.specs.declared.event.Event.{Event}
use Rattle.cw_types.specs.declared.message.Message.{Message}
use Rattle.cw_types.specs.declared.note.Note.{Note}
use Rattle.cw_types.specs.declared.vote.Cert.{Cert}
use Rattle.cw_types.specs.declared.vote.Proposal.{Proposal}
use Rattle.cw_types.specs.declared.vote.Vote.{Vote}
use Rattle.cw_types.specs.declared.vote.Vote.TheVariants.{Finalize, Notarize, Nullify}
use Rattle.cw_types.specs.Block.{Block}
use Rattle.cw_types.specs.Epochs.{is_member, rises_from, size}
use Rattle.cw_types.specs.Numbers.{quorum}
use Rattle.cw_types.specs.Same.{same_commitment}
use Rattle.cw_types.specs.Votes.{proposal_of, vote_epoch, vote_view, well_formed}
use Rattle.cw_types.proofs.Same.{same_vote_self}
use Rattle.cw_rules.specs.Accepted.{Many, State, first_some, is_valid}
use Rattle.cw_rules.specs.Fits.{block_fits, fits, fits_over}
use Rattle.cw_rules.specs.Held.{greatest_prune, held, kept_block}
use Rattle.cw_rules.specs.Notes.{epoch_entered, epoch_parent, has_cert, has_certified, has_vote, is_vote, settled, settler, settling}
use Rattle.cw_rules.specs.Owed.{ballot_vote, block_owed, cert_owed, certified_owed, closes, epoch_owed, finalize_owed, floor_owed, has_closed, is_closing, is_of, named_commitments, named_proposals, named_votes, note_proposal, notarize_owed, when}
use Rattle.cw_rules.specs.Reached.{In, IsCluster, Reaches, members_of}
use Rattle.cw_rules.specs.Rules.{Rules, genesis, genesis_commitment}
use Rattle.cw_rules.specs.Sends.{to_all}
use Rattle.cw_rules.specs.Stands.{EachAfter}
use Rattle.cw_rules.specs.Step.{Member, Stepped, member_notes, state_of, step, step_notes, taken, with_notes}
use Rattle.cw_rules.specs.World.{Ask, Do, Line, Sent, World, event_of, is_to, member_at, signed, with_done}
use Rattle.cw_rules.proofs.Certified.{fitting}
use Rattle.cw_rules.proofs.Chain.{certified_rests, finalized_certified, one_notarized}
use Rattle.cw_rules.proofs.Lists.{get_front, in_cases, in_left}
use Rattle.cw_rules.proofs.Reach.{reached_lawful}
use Rattle.cw_rules.proofs.Settles.{step_ends}
use Rattle.cw_rules.proofs.Worlds.{frames_join, get-map, member_there}
use Rattle.cw_progress.specs.Over.{ComesTo, is_delivery}
use Rattle.cw_progress.specs.Views.{CanFinalize}
use Rattle.cw_progress.proofs.Carries.{Extends, each_at}
use Rattle.cw_progress.proofs.Further.{reaches_on}
use Rattle.cw_progress.proofs.Noted.{noted_sent}
use Rattle.cw_progress.proofs.Outs.{mapped_in}
use Rattle.cw_progress.proofs.Over.{delivery_keeps, member_done}
use Rattle.cw_progress.proofs.Quorum.{any_in, in_any}
use Rattle.cw_progress.proofs.Rests.{first_none, or_none, step_each}
use Rattle.cw_progress.proofs.Taken.{cert_taken}
use Rattle.cw_progress.proofs.Tops.{cert_noted, held_same}
use Rattle.cw_progress.proofs.Valid.{noted_valid, valid_formed, valid_more}
use Rattle.cw_progress.proofs.Voting.{Votes, Voting, turn_goes, voting_over}

-- ---- what stays with more notes

find_front : {X : Type 0} (p : X → Bool) (xs ys : List X) (x : X) → find p xs ≡ Some x
    → find p (xs ++ ys) ≡ Some x
find_front p [] ys x h = cc
find_front {X} p (y ∷ zs) ys x h = go (p y) h (find_front p zs ys x)
  where
    go : (b : Bool) → cond b (Some y) (find p zs) ≡ Some x
        → (find p zs ≡ Some x → find p (zs ++ ys) ≡ Some x)
        → cond b (Some y) (find p (zs ++ ys)) ≡ Some x
    go true h later = h
    go false h later = later h

cond_both : {X : Type 0} (b : Bool) (o p q u : Option X) (x : X) → (o ≡ Some x → q ≡ Some x)
    → (p ≡ Some x → u ≡ Some x) → cond b o p ≡ Some x → cond b q u ≡ Some x
cond_both true o p q u x f g h = f h
cond_both false o p q u x f g h = g h

map_found : {X Y : Type 0} (f : X → Y) (o p : Option X) (y : Y)
    → ((x : X) → o ≡ Some x → p ≡ Some x) → option_map f o ≡ Some y → option_map f p ≡ Some y
map_found f None p y g h = cc
map_found f (Some x) p y g h = ap (option_map f) (g x refl) ∙ h

-- what is settled stays so
pub settled_stays : (c0 : Commitment) (xs ys : List Note) (epoch view : ℕ) (c : Commitment)
    → settled c0 xs epoch view ≡ Some c → settled c0 (xs ++ ys) epoch view ≡ Some c
settled_stays c0 xs ys epoch view c =
    cond_both (view == 0) (epoch_parent c0 xs epoch)
    (option_map (λ p. p.payload) (settler xs epoch view)) (epoch_parent c0 (xs ++ ys) epoch)
    (option_map (λ p. p.payload) (settler (xs ++ ys) epoch view)) c
    (cond_both (epoch == 0) (Some c0)
    (option_map (λ e. e.1) (find (λ e. e.0 == epoch) (filter_map epoch_entered xs))) (Some c0)
    (option_map (λ e. e.1) (find (λ e. e.0 == epoch) (filter_map epoch_entered (xs ++ ys)))) c
    (λ h. h)
    (map_found (λ (e : ℕ × Commitment). e.1)
    (find (λ e. e.0 == epoch) (filter_map epoch_entered xs))
    (find (λ e. e.0 == epoch) (filter_map epoch_entered (xs ++ ys))) c
    (λ e h.
    ap (find (λ (e : ℕ × Commitment). e.0 == epoch)) (filter_map-append epoch_entered xs ys)
    ∙ find_front (λ (e : ℕ × Commitment). e.0 == epoch) (filter_map epoch_entered xs)
    (filter_map epoch_entered ys) e h)))
    (map_found (λ (p : Proposal). p.payload) (settler xs epoch view)
    (settler (xs ++ ys) epoch view) c
    (λ p h.
    ap (find (λ (p : Proposal). (p.epoch == epoch) && (p.view == view)))
    (filter_map-append settling xs ys)
    ∙ find_front (λ (p : Proposal). (p.epoch == epoch) && (p.view == view))
    (filter_map settling xs) (filter_map settling ys) p h))

module _ (r : Rules) (xs ys : List Note)
    (same : greatest_prune (xs ++ ys) ≡ greatest_prune xs) where
  -- what is held stays so where nothing more is let go
  pub held_on : (c : Commitment) (b : Block) → held r xs c ≡ Some b → held r (xs ++ ys) c ≡ Some b
  held_on c b h = go (cases_Bool (same_commitment c (genesis_commitment r)))
    where
      go : (same_commitment c (genesis_commitment r) ≡ true)
          ⊎ (same_commitment c (genesis_commitment r) ≡ false)
          → held r (xs ++ ys) c ≡ Some b
      go (inl t) =
          cond-true (same_commitment c (genesis_commitment r)) (Some (genesis r))
          (kept_block (xs ++ ys) c) t
          ∙ (sym
          (cond-true (same_commitment c (genesis_commitment r)) (Some (genesis r))
          (kept_block xs c) t)
          ∙ h)
      go (inr f) = held_same r xs ys c b f h same

  -- so what fits does
  pub fits_on : (p : Proposal) → block_fits r xs p ≡ true → block_fits r (xs ++ ys) p ≡ true
  fits_on p h =
      let f = fitting r xs p h in
      ap (λ o. option_map_or (fits r (xs ++ ys) p) o false) (held_on p.payload f.block f.holds)
      ∙ (ap
      (λ o. option_map_or
      (λ c. option_map_or (fits_over r p f.block c) (held r (xs ++ ys) c) false) o false)
      (settled_stays (genesis_commitment r) xs ys p.epoch p.parent f.over f.settles)
      ∙ (ap (λ o. option_map_or (fits_over r p f.block f.over) o false)
      (held_on f.over f.parent f.holds_parent)
      ∙ f.fit))

-- a delivery writes no vote to nullify
abbrev NoNullify : List Note → Note → Type 0
NoNullify before (Note.Vote (Nullify epoch view)) = ⊥
NoNullify before _ = Unit {0}

delivery_nullifies_none : (r : Rules) (id : ℕ) (s : State) (m : Message)
    → EachAfter NoNullify s.notes (step_notes r id s (Event.Deliver m))
delivery_nullifies_none r id s m =
    step_each NoNullify r id s (Event.Deliver m) (record {
      of_block = λ ns c b. tt;
      of_verified = λ ns epoch view c. tt;
      of_notarize = λ ns p o. tt;
      of_finalize = λ ns p. tt;
      of_certified = λ ns p. tt;
      of_epoch = λ ns epoch c. tt;
      of_nullify = λ view is e. never view is;
      of_ack = λ h s. tt;
      of_prune = λ h a is l o. tt;
      of_cert = λ ns v signers h. tt;
      of_floor = λ ns c b a o n h. tt;
    })
  where
    never : (view : ℕ) → Event.Deliver m ≡ Event.Timeout view → ⊥
    never view e = cc

-- ---- a certificate that is delivered

module _ (r : Rules) (p : Proposal) (s : Cert) (is : s.vote ≡ Notarize p) (number i : ℕ) where
  -- the certificate is there, and valid
  abbrev IsThere : World → Type 0
  IsThere w =
      (x : Sent) × (slice_get w.pool number ≡ Some x) × (x.to ≡ (to_all (Message.Cert s)).to)
      × (x.message ≡ Message.Cert s) × (is_valid r (signed w) s ≡ true)

  there_stays : (w u : World) → Extends w u → IsThere w → IsThere u
  there_stays w u e (x, at, to, says, valid) = (
    x,
    subst (λ pool. slice_get pool number ≡ Some x) (sym e.pool)
        (get_front w.pool e.more number x at),
    to,
    says,
    valid_more r (signed w) (signed u) s (λ j. e.signs j s.vote) valid,
  )

  there_event : (w : World) → IsThere w → (j : ℕ)
      → event_of w j (Ask.Deliver number) ≡ Some (Event.Deliver (Message.Cert s))
  there_event w (x, at, to, says, valid) j =
      ap (option_map Event.Deliver)
      (ap (option_and_then (λ (y : Sent). cond (is_to j y.to) (Some y.message) None)) at
      ∙ (ap (λ t. cond (is_to j t) (Some x.message) None) to ∙ ap Some says))

  module _ (script : List Line) (w : World) (cluster : IsCluster r script)
      (reach : Reaches r script w) (t : IsThere w) (j : ℕ) (c : CanFinalize r w p j) where
    abbrev own : List Note
    own = member_notes c.member

    abbrev e : Event
    e = Event.Deliver (Message.Cert s)

    abbrev during : State
    during = taken r (signed w) (state_of c.member) e

    abbrev notes : List Note
    notes = step_notes r j during e

    abbrev after : State
    after = with_notes during notes

    abbrev done : Stepped
    done = step r j (signed w) c.member e

    taken_in : In (Many s) during.came.ballots
    taken_in = cert_taken c.member.came (is_valid r (signed w) s) s t.4

    -- nothing is owed after the step
    no_cert : first_some (cert_owed r j after) (named_votes after) ≡ None
    no_cert =
        (or_none (first_some (cert_owed r j after) (named_votes after)) _
        (or_none (first_some (block_owed r after) (named_commitments r after)) _
        (step_ends r j during e)).1).0

    no_certified : first_some (certified_owed r after) (named_proposals after) ≡ None
    no_certified =
        (or_none (first_some (certified_owed r after) (named_proposals after)) _
        (or_none (first_some (cert_owed r j after) (named_votes after)) _
        (or_none (first_some (block_owed r after) (named_commitments r after)) _
        (step_ends r j during e)).1).1).0

    no_finalize : first_some (finalize_owed r j after) (named_proposals after) ≡ None
    no_finalize =
        (or_none (first_some (notarize_owed r j after) (named_proposals after)) _
        (or_none (epoch_owed r after) _
        (or_none (first_some (floor_owed r after) after.came.wishes) _
        (or_none (first_some (certified_owed r after) (named_proposals after)) _
        (or_none (first_some (cert_owed r j after) (named_votes after)) _
        (or_none (first_some (block_owed r after) (named_commitments r after)) _
        (step_ends r j during e)).1).1).1).1).1).1

    named : In p (named_proposals after)
    named =
        in_left p (filter_map (λ x. proposal_of (ballot_vote x)) during.came.ballots)
        (filter_map note_proposal (own ++ notes))
        (mapped_in (λ x. proposal_of (ballot_vote x)) during.came.ballots (Many s) p taken_in
        (ap proposal_of is))

    cert_there : has_cert (own ++ notes) (Notarize p) ≡ true
    cert_there =
        subst (λ v. has_cert (own ++ notes) v ≡ true) is (cert_noted r j after s no_cert taken_in)

    still_fits : block_fits r (own ++ notes) p ≡ true
    still_fits = fits_on r own notes (delivery_keeps r j during (Message.Cert s)) p c.fits

    certified : has_certified (own ++ notes) p ≡ true
    certified =
        go (has_certified (own ++ notes) p) refl
        (first_none (certified_owed r after) (named_proposals after) p no_certified named)
      where
        go : (b : Bool) → has_certified (own ++ notes) p ≡ b
            → when
            (has_cert (own ++ notes) (Notarize p) && not b && block_fits r (own ++ notes) p)
            (Note.Certified p)
            ≡ None
            → has_certified (own ++ notes) p ≡ true
        go true f h = f
        go false f h =
            let x : when true (Note.Certified p) ≡ None =
            ap (λ t. when t (Note.Certified p))
            (sym
            (and_from (has_cert (own ++ notes) (Notarize p) && true)
            (block_fits r (own ++ notes) p)
            (and_from (has_cert (own ++ notes) (Notarize p)) true cert_there refl) still_fits))
            ∙ h in
            cc

    closed : has_closed (own ++ notes) p.epoch p.view ≡ true
    closed =
        go (has_closed (own ++ notes) p.epoch p.view) refl
        (first_none (finalize_owed r j after) (named_proposals after) p no_finalize named)
      where
        go : (b : Bool) → has_closed (own ++ notes) p.epoch p.view ≡ b
            → when
            (has_certified (own ++ notes) p && is_member r.epochs p.epoch j && not b)
            (Note.Vote (Finalize p))
            ≡ None
            → has_closed (own ++ notes) p.epoch p.view ≡ true
        go true f h = f
        go false f h =
            let x : when true (Note.Vote (Finalize p)) ≡ None =
            ap (λ t. when t (Note.Vote (Finalize p)))
            (sym
            (and_from (has_certified (own ++ notes) p && is_member r.epochs p.epoch j) true
            (and_from (has_certified (own ++ notes) p) (is_member r.epochs p.epoch j) certified
            c.belongs)
            refl))
            ∙ h in
            cc

    -- no vote to nullify is there
    no_nullify : In (Note.Vote (Nullify p.epoch p.view)) (own ++ notes) → ⊥
    no_nullify h = go (in_cases (Note.Vote (Nullify p.epoch p.view)) own notes h)
      where
        go : In (Note.Vote (Nullify p.epoch p.view)) own
            ⊎ In (Note.Vote (Nullify p.epoch p.view)) notes
            → ⊥
        go (inl a) =
            false≢true
            (sym c.unclosed
            ∙ in_any (is_vote (Nullify p.epoch p.view)) own
            (Note.Vote (Nullify p.epoch p.view)) a
            (same_vote_self (Nullify p.epoch p.view)))
        go (inr b) =
            let (front, rest, joined, x) =
            each_at NoNullify own notes (Note.Vote (Nullify p.epoch p.view))
            (delivery_nullifies_none r j during (Message.Cert s)) b in
            x

    -- and another vote to finalize would be for the same
    one_final : (q : Proposal) → q.epoch ≡ p.epoch → q.view ≡ p.view
        → has_vote (own ++ notes) (Finalize q) ≡ true → q ≡ p
    one_final q of view voted =
        let (longer, among, further) =
        reaches_on r script w (Do j (Ask.Deliver number) ∷ []) cluster reach (refl, tt) in
        by_world
        (subst (Reaches r longer)
        (turn_goes r w j c.member (Ask.Deliver number) e c.there c.live (there_event w t j))
        further)
        among
      where
        by_world : {longer : List Line} → Reaches r longer (with_done w j done)
            → IsCluster r longer → q ≡ p
        by_world {longer} further among =
            let lawful = reached_lawful r longer (with_done w j done) among further in
            let kept =
            lawful.honest j (own ++ notes)
            (get-map (option_map member_notes) (with_done w j done).members j
            (Some done.member)
            (member_there (with_done w j done) j done.member (member_done w j c.member done c.there))
            ∙ ap (λ ns. Some (Some ns)) (frames_join c.member.frames notes)) in
            one_notarized r.epochs (block_fits r) (members_of (with_done w j done)) lawful q p
            (certified_rests r.epochs (block_fits r) (members_of (with_done w j done))
            (own ++ notes) kept q
            (finalized_certified r.epochs (block_fits r) (members_of (with_done w j done))
            (own ++ notes) kept q voted))
            (certified_rests r.epochs (block_fits r) (members_of (with_done w j done))
            (own ++ notes) kept p certified)
            of view

    finalizes : has_vote (own ++ notes) (Finalize p) ≡ true
    finalizes =
        let (n, at, f) = any_in (closes p.epoch p.view) (own ++ notes) closed in by_note n at f
      where
        by_vote : (v : Vote) → In (Note.Vote v) (own ++ notes) → is_closing v ≡ true
            → vote_epoch v ≡ p.epoch → vote_view v ≡ p.view
            → has_vote (own ++ notes) (Finalize p) ≡ true
        by_vote (Notarize q) at f of view = absurd (false≢true f)
        by_vote (Nullify x y) at f of view =
            absurd
            (no_nullify
            (subst (λ z. In (Note.Vote (Nullify p.epoch z)) (own ++ notes)) view
            (subst (λ z. In (Note.Vote (Nullify z y)) (own ++ notes)) of at)))
        by_vote (Finalize q) at f of view =
            let voted : has_vote (own ++ notes) (Finalize q) ≡ true =
            in_any (is_vote (Finalize q)) (own ++ notes) (Note.Vote (Finalize q)) at
            (same_vote_self (Finalize q)) in
            subst (λ x. has_vote (own ++ notes) (Finalize x) ≡ true)
            (one_final q of view voted) voted

        by_note : (n : Note) → In n (own ++ notes) → closes p.epoch p.view n ≡ true
            → has_vote (own ++ notes) (Finalize p) ≡ true
        by_note (Note.Vote v) at f =
            let a = and_parts (is_closing v) (is_of p.epoch p.view v) f in
            let b = and_parts (vote_epoch v == p.epoch) (vote_view v == p.view) a.1 in
            by_vote v at a.0 (eqb-true (vote_epoch v) p.epoch b.0)
            (eqb-true (vote_view v) p.view b.1)
        by_note (Note.Verified x y d) at f = absurd (false≢true f)
        by_note (Note.Block d b) at f = absurd (false≢true f)
        by_note (Note.Cert u) at f = absurd (false≢true f)
        by_note (Note.Certified q) at f = absurd (false≢true f)
        by_note (Note.Ack x) at f = absurd (false≢true f)
        by_note (Note.Floor x) at f = absurd (false≢true f)
        by_note (Note.Prune x) at f = absurd (false≢true f)
        by_note (Note.Epoch x d) at f = absurd (false≢true f)

    can_votes : Votes r (Ask.Deliver number) (Finalize p) w j
    can_votes = record {
      member = c.member;
      there = c.there;
      live = c.live;
      event = e;
      asked = there_event w t j;
      voted =
          subst (λ ns. has_vote ns (Finalize p) ≡ true)
          (sym (frames_join c.member.frames notes)) finalizes;
    }

  cert_votes : Voting r (Ask.Deliver number) (Finalize p) IsThere (λ w j. CanFinalize r w p j)
  cert_votes = record {
    stays = there_stays;
    same =
        λ w u j at c.
        record {
          member = c.member;
          there = at ∙ c.there;
          live = c.live;
          belongs = c.belongs;
          fits = c.fits;
          unclosed = c.unclosed;
        };
    event = λ w t j. (Event.Deliver (Message.Cert s), there_event w t j);
    votes = λ script w cluster reach t j c. can_votes script w cluster reach t j c;
  }

-- what is notarized, and held where it fits by a quorum that hasn't given up its view, can be
-- finalized
pub can_finalize : (r : Rules) (script : List Line) (w : World) → IsCluster r script
    → Reaches r script w → (p : Proposal) (s : Cert) → s.vote ≡ Notarize p
    → (i : ℕ) (m : Member) → member_at w i ≡ Some m → m.live ≡ true
    → In (Note.Cert s) (member_notes m) → (voters : List ℕ) → rises_from 0 voters ≡ true
    → quorum (size r.epochs p.epoch) ≤ length voters
    → ((j : ℕ) → In j voters → CanFinalize r w p j)
    → (j : ℕ) (n : Member) → member_at w j ≡ Some n → n.live ≡ true
    → ComesTo r w j is_delivery (λ notes. has_cert notes (Finalize p))
can_finalize r script w cluster reach p s is i m at live h voters rise enough each j n there
    ready =
    let sent =
    noted_sent r script w cluster reach i m at live (Note.Cert s) (Message.Cert s) refl h in
    let valid = noted_valid r script w cluster reach i m at live s h in
    voting_over r (Ask.Deliver sent.number) (Finalize p) (IsThere r p s is sent.number i)
    (λ w j. CanFinalize r w p j) (cert_votes r p s is sent.number i)
    (λ w j c. (c.member, c.there)) script w cluster reach
    (sent.sent, sent.there, sent.to, sent.message, valid)
    (ap well_formed (sym is) ∙ valid_formed r (signed w) s valid) voters rise enough
    (λ j h. (each j h).belongs) each is_delivery (λ j. refl) (λ j number. refl) j n there ready
