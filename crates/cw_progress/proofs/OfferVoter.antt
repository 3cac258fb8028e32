-- A step of a member to which only the leader's vote came.
use Rattle.std.proofs.Common.{◌≡◌, ℕ, ◌+◌, ◌≤◌, Bool, true, false, ◌&&◌, ◌==◌, not, nat_le, List, [], ◌∷◌, Some, None, filter_map, length, refl, sym, ◌∙◌, ap, subst, inl, inr, ◌⊎◌, arith, eq-eqb, eqb-true}
use Rattle.std.specs.List.{list_any}
use Rattle.std.proofs.lemmas.Bool.{and_from, and_parts, false≢true, leb-true, or_cases}
use Rattle.std.proofs.lemmas.Option.{same_Some}
use Rattle.cw_types.specs.declared.event.Event.{Event}
use Rattle.cw_types.specs.declared.note.Note.{Note}
use Rattle.cw_types.specs.declared.vote.Cert.{Cert}
use Rattle.cw_types.specs.declared.vote.Proposal.{Proposal}
use Rattle.cw_types.specs.declared.vote.Vote.{Vote}
use Rattle.cw_types.specs.declared.vote.Vote.TheVariants.{Finalize, Notarize, Nullify}
use Rattle.cw_types.specs.Epochs.{is_member, leader, members_in, rises_from, size}
use Rattle.cw_types.specs.Numbers.{quorum}
use Rattle.cw_types.specs.Same.{same_vote}
use Rattle.cw_types.specs.Votes.{proposal_of, vote_epoch}
use Rattle.cw_types.proofs.Same.{same_vote-true, same_vote_self}
use Rattle.cw_rules.specs.Accepted.{Ballot, Many, Single, State, first_some}
use Rattle.cw_rules.specs.Notes.{epoch_of, has_cert, has_vote, is_vote, view_of}
use Rattle.cw_rules.specs.Owed.{all_nullified, ballot_vote, block_owed, can_vote, cert_owed, certified_owed, epoch_owed, floor_owed, has_voted, is_single, known, knows, named_commitments, named_proposals, named_votes, notarize_owed, note_proposal, signers_in, signers_of, when}
use Rattle.cw_rules.specs.Reached.{In, IsCluster}
use Rattle.cw_rules.specs.Rules.{Rules}
use Rattle.cw_rules.specs.Stands.{EachAfter}
use Rattle.cw_rules.specs.Step.{Member, member_notes, state_of, step, step_notes, taken, with_notes}
use Rattle.cw_rules.specs.World.{Line}
use Rattle.cw_rules.proofs.Lists.{filter_rises, in_cases, in_left, when_some}
use Rattle.cw_rules.proofs.Settles.{step_ends}
use Rattle.cw_rules.proofs.Worlds.{frames_join}
use Rattle.cw_progress.proofs.Carries.{each_at}
use Rattle.cw_progress.proofs.Ends.{cert_note}
use Rattle.cw_progress.proofs.Outs.{filter_from, mapped_in}
use Rattle.cw_progress.proofs.Quiet.{AreOf, IsFinal}
use Rattle.cw_progress.proofs.Quorum.{any_in, in_any}
use Rattle.cw_progress.proofs.Rests.{IsProposing, first_found, first_none, noted_as, or_none, or_split, step_each}
use Rattle.cw_progress.proofs.Valid.{cert_has, vote_in}

-- ---- two aren't a quorum

-- a list that rises has no three of two numbers
only_two : (a b : ℕ) (xs : List ℕ) → rises_from 0 xs ≡ true
    → ((i : ℕ) → In i xs → (i ≡ a) ⊎ (i ≡ b)) → length xs ≤ 2
only_two a b [] rise all = omega arith
only_two a b (x ∷ []) rise all = omega arith
only_two a b (x ∷ y ∷ []) rise all = omega arith
only_two a b (x ∷ y ∷ z ∷ zs) rise all =
    absurd (go (all x (inl refl)) (all y (inr (inl refl))) (all z (inr (inr (inl refl)))))
  where
    one : (nat_le 0 x ≡ true) × (rises_from (x + 1) (y ∷ z ∷ zs) ≡ true)
    one = and_parts (nat_le 0 x) (rises_from (x + 1) (y ∷ z ∷ zs)) rise

    two : (nat_le (x + 1) y ≡ true) × (rises_from (y + 1) (z ∷ zs) ≡ true)
    two = and_parts (nat_le (x + 1) y) (rises_from (y + 1) (z ∷ zs)) one.1

    three : (nat_le (y + 1) z ≡ true) × (rises_from (z + 1) zs ≡ true)
    three = and_parts (nat_le (y + 1) z) (rises_from (z + 1) zs) two.1

    low : x + 1 ≤ y
    low = leb-true (x + 1) y two.0

    high : y + 1 ≤ z
    high = leb-true (y + 1) z three.0

    go : (x ≡ a) ⊎ (x ≡ b) → (y ≡ a) ⊎ (y ≡ b) → (z ≡ a) ⊎ (z ≡ b) → ⊥
    go (inl e) (inl f) g = omega (arith, e, f, low)
    go (inr e) (inr f) g = omega (arith, e, f, low)
    go (inl e) (inr f) (inl g) = omega (arith, e, g, low, high)
    go (inl e) (inr f) (inr g) = omega (arith, f, g, high)
    go (inr e) (inl f) (inl g) = omega (arith, f, g, high)
    go (inr e) (inl f) (inr g) = omega (arith, e, g, low, high)

three_quorum : (n : ℕ) → 4 ≤ n → 3 ≤ quorum n
three_quorum n h = omega (arith, h)

same_proposal_of : (p q : Proposal) → Notarize p ≡ Notarize q → p ≡ q
same_proposal_of p q e = same_Some p q (ap proposal_of e)

-- the leader's vote for the proposal
abbrev pub IsLeaders : ℕ → Proposal → Ballot → Type 0
IsLeaders l p x = x ≡ Single l (Notarize p)

module _ (r : Rules) (script : List Line) (cluster : IsCluster r script) (id l : ℕ)
    (p : Proposal) where
  -- no certificate is owed then
  no_signers : (s : State) (v : Vote) (signers : List ℕ) → AreOf (IsLeaders l p) s.came
      → signers_of r id s v ≡ Some signers → ⊥
  no_signers s v signers are h =
      go
      (or_split (first_some (signers_in v) s.came.ballots)
      (when (nat_le (quorum (size r.epochs (vote_epoch v))) (length (known r id s v)))
      (known r id s v))
      signers h)
    where
      by_cert : (x : Ballot) → IsLeaders l p x → signers_in v x ≡ Some signers → ⊥
      by_cert (Single i y) is f = cc f
      by_cert (Many t) is f = cc is

      by_single : (i : ℕ) (x : Ballot) → IsLeaders l p x → is_single i v x ≡ true → i ≡ l
      by_single i x is f =
          eqb-true i l
          (and_parts (i == l) (same_vote v (Notarize p))
          (subst (λ y. is_single i v y ≡ true) is f)).0

      who : (i : ℕ) → knows id s v i ≡ true → (i ≡ l) ⊎ (i ≡ id)
      who i k =
          by_case
          (or_cases (list_any (is_single i v) s.came.ballots) ((i == id) && has_vote s.notes v) k)
        where
          by_case : (list_any (is_single i v) s.came.ballots ≡ true)
              ⊎ (((i == id) && has_vote s.notes v) ≡ true)
              → (i ≡ l) ⊎ (i ≡ id)
          by_case (inl a) =
              let (x, at, f) = any_in (is_single i v) s.came.ballots a in
              inl (by_single i x (are x at) f)
          by_case (inr b) = inr (eqb-true i id (and_parts (i == id) (has_vote s.notes v) b).0)

      few : length (known r id s v) ≤ 2
      few =
          only_two l id (known r id s v)
          (filter_rises (knows id s v) 0 (members_in r.epochs (vote_epoch v))
          (cluster.rising (vote_epoch v)))
          (λ i h. who i
          (filter_from (knows id s v) (members_in r.epochs (vote_epoch v)) i h).1)

      go : (first_some (signers_in v) s.came.ballots ≡ Some signers)
          ⊎ ((first_some (signers_in v) s.came.ballots ≡ None)
          × (when (nat_le (quorum (size r.epochs (vote_epoch v))) (length (known r id s v)))
          (known r id s v)
          ≡ Some signers))
          → ⊥
      go (inl e) =
          let (x, at, f) = first_found (signers_in v) s.came.ballots signers e in
          by_cert x (are x at) f
      go (inr e) =
          let enough =
          when_some (nat_le (quorum (size r.epochs (vote_epoch v))) (length (known r id s v)))
          (known r id s v) signers e.1 in
          omega (
            arith,
            few,
            leb-true (quorum (size r.epochs (vote_epoch v))) (length (known r id s v)) enough.0,
            three_quorum (size r.epochs (vote_epoch v)) (cluster.enough (vote_epoch v)),
          )

  abbrev IsNoCert : List Note → Note → Type 0
  IsNoCert ns (Note.Cert t) = ⊥
  IsNoCert ns _ = Unit {0}

  -- so a step brings none
  pub quiet_certs : (sign : ℕ → Vote → Bool) (n : Member) (e : Event)
      → AreOf (IsLeaders l p) (taken r sign (state_of n) e).came → (v : Vote)
      → has_cert (member_notes (step r id sign n e).member) v ≡ true
      → has_cert (member_notes n) v ≡ true
  quiet_certs sign n e are v h =
      let (t, inside, same) = cert_note v (member_notes (step r id sign n e).member) h in
      go t same
      (in_cases (Note.Cert t) (member_notes n) written
      (subst (In (Note.Cert t)) (frames_join n.frames written) inside))
    where
      during : State
      during = taken r sign (state_of n) e

      written : List Note
      written = step_notes r id during e

      all : EachAfter IsNoCert during.notes written
      all =
          step_each IsNoCert r id during e (record {
            of_block = λ ns c b. tt;
            of_verified = λ ns epoch view c. tt;
            of_notarize = λ ns q o. tt;
            of_finalize = λ ns q. tt;
            of_certified = λ ns q. tt;
            of_epoch = λ ns epoch c. tt;
            of_nullify = λ view is q. tt;
            of_ack = λ x q. tt;
            of_prune = λ x a is y o. tt;
            of_cert = λ ns x signers k. no_signers (noted_as during ns) x signers are k;
            of_floor = λ ns c b at o m k. tt;
          })

      go : (t : Cert) → t.vote ≡ v
          → In (Note.Cert t) (member_notes n) ⊎ In (Note.Cert t) written
          → has_cert (member_notes n) v ≡ true
      go t same (inl a) =
          subst (λ x. has_cert (member_notes n) x ≡ true) same (cert_has t (member_notes n) a)
      go t same (inr a) =
          let (front, rest, joined, k) =
          each_at IsNoCert (member_notes n) written (Note.Cert t) all a in
          absurd k

  -- a note that, if a vote, isn't one to nullify; if it notarizes, it is for the proposal, unless
  -- the event asks for one
  abbrev IsOwn : Event → List Note → Note → Type 0
  IsOwn e ns (Note.Vote (Notarize q)) = IsProposing e ⊎ (q ≡ p)
  IsOwn e ns (Note.Vote (Nullify epoch view)) = ⊥
  IsOwn e ns _ = Unit {0}

  -- after a step without a timeout a member has the votes that it had, such as finalize, and those
  pub quiet_votes : (sign : ℕ → Vote → Bool) (n : Member) (e : Event)
      → ((view : ℕ) → e ≡ Event.Timeout view → ⊥)
      → AreOf (IsLeaders l p) (taken r sign (state_of n) e).came → (v : Vote)
      → has_vote (member_notes (step r id sign n e).member) v ≡ true
      → (has_vote (member_notes n) v ≡ true)
      ⊎ (IsFinal v
      ⊎ ((q : Proposal) × (v ≡ Notarize q) × (IsProposing e ⊎ (q ≡ p))))
  quiet_votes sign n e timeless are v h =
      go
      (in_cases (Note.Vote v) (member_notes n) written
      (subst (In (Note.Vote v)) (frames_join n.frames written)
      (vote_in v (member_notes (step r id sign n e).member) h)))
    where
      during : State
      during = taken r sign (state_of n) e

      written : List Note
      written = step_notes r id during e

      by_source : (q : Proposal)
          → IsProposing e
          ⊎ (list_any (is_single (leader r.epochs q.epoch q.view) (Notarize q))
          during.came.ballots
          ≡ true)
          → IsProposing e ⊎ (q ≡ p)
      by_source q (inl o) = inl o
      by_source q (inr a) =
          let (x, at, f) =
          any_in (is_single (leader r.epochs q.epoch q.view) (Notarize q)) during.came.ballots a
          in
          let g =
          and_parts (leader r.epochs q.epoch q.view == l) (same_vote (Notarize q) (Notarize p))
          (subst
          (λ y. is_single (leader r.epochs q.epoch q.view) (Notarize q) y ≡ true) (are x at) f)
          in
          inr (same_proposal_of q p (same_vote-true (Notarize q) (Notarize p) g.1))

      all : EachAfter (IsOwn e) during.notes written
      all =
          step_each (IsOwn e) r id during e (record {
            of_block = λ ns c b. tt;
            of_verified = λ ns epoch view c. tt;
            of_notarize = λ ns q o. by_source q o;
            of_finalize = λ ns q. tt;
            of_certified = λ ns q. tt;
            of_epoch = λ ns epoch c. tt;
            of_nullify = λ view is q. timeless view is;
            of_ack = λ x q. tt;
            of_prune = λ x a is y o. tt;
            of_cert = λ ns x signers k. tt;
            of_floor = λ ns c b at o m k. tt;
          })

      by_own : (x : Vote) (front : List Note) → IsOwn e front (Note.Vote x)
          → IsFinal x ⊎ ((q : Proposal) × (x ≡ Notarize q) × (IsProposing e ⊎ (q ≡ p)))
      by_own (Notarize q) front o = inr (q, refl, o)
      by_own (Nullify epoch view) front o = absurd o
      by_own (Finalize q) front o = inl tt

      go : In (Note.Vote v) (member_notes n) ⊎ In (Note.Vote v) written
          → (has_vote (member_notes n) v ≡ true)
          ⊎ (IsFinal v
          ⊎ ((q : Proposal) × (v ≡ Notarize q) × (IsProposing e ⊎ (q ≡ p))))
      go (inl a) = inl (in_any (is_vote v) (member_notes n) (Note.Vote v) a (same_vote_self v))
      go (inr a) =
          let (front, rest, joined, k) =
          each_at (IsOwn e) (member_notes n) written (Note.Vote v) all a in
          inr (by_own v front k)

-- who can vote for the leader's proposal of its view has voted in it after a step
pub step_voted : (r : Rules) (id : ℕ) (sign : ℕ → Vote → Bool) (n : Member) (e : Event)
    (p : Proposal)
    → list_any (is_single (leader r.epochs p.epoch p.view) (Notarize p))
    (step r id sign n e).member.came.ballots
    ≡ true
    → epoch_of (member_notes (step r id sign n e).member) ≡ p.epoch
    → view_of (member_notes (step r id sign n e).member) p.epoch ≡ p.view
    → is_member r.epochs p.epoch id ≡ true
    → can_vote r id
    (record {
      notes = member_notes (step r id sign n e).member;
      came = (taken r sign (state_of n) e).came;
      given = n.given;
    }) p
    ≡ true
    → all_nullified (member_notes (step r id sign n e).member) p.epoch p.parent p.view ≡ true
    → has_voted (member_notes (step r id sign n e).member) p.epoch p.view ≡ true
step_voted r id sign n e p told epoch view belongs can nulls =
    go (has_voted all p.epoch p.view) refl
    (first_none (notarize_owed r id done) (named_proposals done) p none named)
  where
    all : List Note
    all = member_notes (step r id sign n e).member

    during : State
    during = taken r sign (state_of n) e

    as_notes : List Note → State
    as_notes ns = record { notes = ns; came = during.came; given = n.given }

    done : State
    done = as_notes all

    ended : State
    ended = with_notes during (step_notes r id during e)

    none_ended : first_some (notarize_owed r id ended) (named_proposals ended) ≡ None
    none_ended =
        (or_none (first_some (notarize_owed r id ended) (named_proposals ended)) _
        (or_none (epoch_owed r ended) _
        (or_none (first_some (floor_owed r ended) ended.came.wishes) _
        (or_none (first_some (certified_owed r ended) (named_proposals ended)) _
        (or_none (first_some (cert_owed r id ended) (named_votes ended)) _
        (or_none (first_some (block_owed r ended) (named_commitments r ended)) _
        (step_ends r id during e)).1).1).1).1).1).0

    none : first_some (notarize_owed r id done) (named_proposals done) ≡ None
    none =
        subst
        (λ ns. first_some (notarize_owed r id (as_notes ns)) (named_proposals (as_notes ns))
        ≡ None)
        (sym (frames_join n.frames (step_notes r id during e))) none_ended

    lead : ℕ
    lead = leader r.epochs p.epoch p.view

    by_ballot : (x : Ballot) → In x done.came.ballots → is_single lead (Notarize p) x ≡ true
        → In p (filter_map (λ y. proposal_of (ballot_vote y)) done.came.ballots)
    by_ballot (Single i v) at f =
        mapped_in (λ y. proposal_of (ballot_vote y)) done.came.ballots (Single i v) p at
        (ap proposal_of
        (sym (same_vote-true (Notarize p) v (and_parts (lead == i) (same_vote (Notarize p) v) f).1)))
    by_ballot (Many t) at f = absurd (false≢true f)

    named : In p (named_proposals done)
    named =
        let (x, at, f) = any_in (is_single lead (Notarize p)) done.came.ballots told in
        in_left p (filter_map (λ y. proposal_of (ballot_vote y)) done.came.ballots)
        (filter_map note_proposal all) (by_ballot x at f)

    go : (b : Bool) → has_voted all p.epoch p.view ≡ b
        → when ((p.epoch == epoch_of all) && (p.view == view_of all p.epoch)
        && is_member r.epochs p.epoch id
        && list_any (is_single lead (Notarize p)) done.came.ballots
        && not b && can_vote r id done p && all_nullified all p.epoch p.parent p.view)
        (Note.Vote (Notarize p))
        ≡ None
        → has_voted all p.epoch p.view ≡ true
    go true f h = f
    go false f h =
        let a1 =
        and_from (p.epoch == epoch_of all) (p.view == view_of all p.epoch)
        (eq-eqb p.epoch (epoch_of all) (sym epoch))
        (eq-eqb p.view (view_of all p.epoch) (sym view)) in
        let a2 =
        and_from ((p.epoch == epoch_of all) && (p.view == view_of all p.epoch))
        (is_member r.epochs p.epoch id) a1 belongs in
        let a3 =
        and_from
        ((p.epoch == epoch_of all) && (p.view == view_of all p.epoch)
        && is_member r.epochs p.epoch id)
        (list_any (is_single lead (Notarize p)) done.came.ballots) a2 told in
        let a4 =
        and_from
        ((p.epoch == epoch_of all) && (p.view == view_of all p.epoch)
        && is_member r.epochs p.epoch id
        && list_any (is_single lead (Notarize p)) done.came.ballots)
        true a3 refl in
        let a5 =
        and_from
        ((p.epoch == epoch_of all) && (p.view == view_of all p.epoch)
        && is_member r.epochs p.epoch id
        && list_any (is_single lead (Notarize p)) done.came.ballots && true)
        (can_vote r id done p) a4 can in
        let a6 =
        and_from
        ((p.epoch == epoch_of all) && (p.view == view_of all p.epoch)
        && is_member r.epochs p.epoch id
        && list_any (is_single lead (Notarize p)) done.came.ballots && true
        && can_vote r id done p)
        (all_nullified all p.epoch p.parent p.view) a5 nulls in
        let x : when true (Note.Vote (Notarize p)) ≡ None =
        ap (λ t. when t (Note.Vote (Notarize p))) (sym a6) ∙ h in
        cc x
