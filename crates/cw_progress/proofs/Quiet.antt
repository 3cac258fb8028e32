-- A member notes certificates only of votes that came to it.
use Rattle.std.proofs.Common.{ap, refl, ◌≡◌, ℕ, ◌+◌, ◌<◌, ◌≤◌, Bool, true, false, ◌&&◌, ◌==◌, nat_le, List, [], ◌∷◌, Some, None, filter, length, sym, ◌∙◌, subst, inl, inr, ◌⊎◌, arith, eqb-true}
use Rattle.std.specs.List.{list_any}
use Rattle.std.proofs.lemmas.Bool.{and_parts, cases_Bool, cond-true, cond-false, false≢true, leb-true, or_cases}
use Rattle.cw_types.specs.declared.event.Event.{Event}
use Rattle.cw_types.specs.declared.message.Message.{Message}
use Rattle.cw_types.specs.declared.note.Note.{Note}
use Rattle.cw_types.specs.declared.vote.Cert.{Cert}
use Rattle.cw_types.specs.declared.vote.Proposal.{Proposal}
use Rattle.cw_types.specs.declared.vote.Vote.{Vote}
use Rattle.cw_types.specs.declared.vote.Vote.TheVariants.{Finalize, Notarize, Nullify}
use Rattle.cw_types.specs.Epochs.{is_member, leader, members_in, rises_from, size}
use Rattle.cw_types.specs.Numbers.{quorum}
use Rattle.cw_types.specs.Same.{same_vote}
use Rattle.cw_types.specs.Votes.{vote_epoch, well_formed}
use Rattle.cw_types.proofs.Same.{same_vote-true, same_vote_self}
use Rattle.cw_rules.specs.Accepted.{Ballot, Came, Many, Row, Single, State, Whole, accepted, first_some, is_chunk_of, is_valid}
use Rattle.cw_rules.specs.Notes.{epoch_of, has_cert, has_vote, is_vote}
use Rattle.cw_rules.specs.Owed.{ballot_vote, is_single, known, knows, signers_in, signers_of, when}
use Rattle.cw_rules.specs.Reached.{In, IsCluster}
use Rattle.cw_rules.specs.Rules.{Rules}
use Rattle.cw_rules.specs.Stands.{EachAfter}
use Rattle.cw_rules.specs.Step.{Member, member_notes, state_of, step, step_notes, taken}
use Rattle.cw_rules.specs.World.{Line}
use Rattle.cw_rules.proofs.Lists.{in_cases, when_some}
use Rattle.cw_rules.proofs.Worlds.{frames_join}
use Rattle.cw_progress.proofs.Carries.{each_at}
use Rattle.cw_progress.proofs.Ends.{cert_note}
use Rattle.cw_progress.proofs.Quorum.{any_in, in_any}
use Rattle.cw_progress.proofs.Rests.{IsProposing, first_found, noted_as, or_split, step_each}
use Rattle.cw_progress.proofs.Taken.{ballot_from, part_ballots}
use Rattle.cw_progress.proofs.Valid.{cert_has, vote_in}

-- ---- a list that rises

-- what passes only at a lower number passes nowhere
none_pass : (p : ℕ → Bool) (id low : ℕ) (xs : List ℕ) → ((i : ℕ) → p i ≡ true → i ≡ id)
    → id < low → rises_from low xs ≡ true → length (filter p xs) ≤ 0
none_pass p id low [] only lt h = omega arith
none_pass p id low (x ∷ xs) only lt h =
    go (cases_Bool (p x)) (none_pass p id (x + 1) xs only (omega (arith, lt, high)) parts.1)
  where
    parts : (nat_le low x ≡ true) × (rises_from (x + 1) xs ≡ true)
    parts = and_parts (nat_le low x) (rises_from (x + 1) xs) h

    high : low ≤ x
    high = leb-true low x parts.0

    go : (p x ≡ true) ⊎ (p x ≡ false) → length (filter p xs) ≤ 0
        → length (filter p (x ∷ xs)) ≤ 0
    go (inl t) later = absurd (omega (arith, only x t, lt, high))
    go (inr f) later =
        subst (λ (ys : List ℕ). length ys ≤ 0)
        (sym (cond-false (p x) (x ∷ filter p xs) (filter p xs) f)) later

-- what passes only at one number passes at most once
one_passes : (p : ℕ → Bool) (id low : ℕ) (xs : List ℕ) → ((i : ℕ) → p i ≡ true → i ≡ id)
    → rises_from low xs ≡ true → length (filter p xs) ≤ 1
one_passes p id low [] only h = omega arith
one_passes p id low (x ∷ xs) only h =
    go (cases_Bool (p x)) (one_passes p id (x + 1) xs only parts.1)
  where
    parts : (nat_le low x ≡ true) × (rises_from (x + 1) xs ≡ true)
    parts = and_parts (nat_le low x) (rises_from (x + 1) xs) h

    go : (p x ≡ true) ⊎ (p x ≡ false) → length (filter p xs) ≤ 1
        → length (filter p (x ∷ xs)) ≤ 1
    go (inl t) later =
        subst (λ (ys : List ℕ). length ys ≤ 1)
        (sym (cond-true (p x) (x ∷ filter p xs) (filter p xs) t))
        (omega (arith, none_pass p id (x + 1) xs only (omega (arith, only x t)) parts.1))
    go (inr f) later =
        subst (λ (ys : List ℕ). length ys ≤ 1)
        (sym (cond-false (p x) (x ∷ filter p xs) (filter p xs) f)) later

-- one member isn't a quorum
big_quorum : (n : ℕ) → 4 ≤ n → 2 ≤ quorum n
big_quorum n h = omega (arith, h)

-- ---- what came

-- the ballot is the vote of one signer
abbrev single_of : Vote → Ballot → Bool
single_of v (Single j x) = same_vote v x
single_of v (Many t) = false

single_is : (i : ℕ) (v : Vote) (x : Ballot) → is_single i v x ≡ true → single_of v x ≡ true
single_is i v (Single j y) h = (and_parts (i == j) (same_vote v y) h).1
single_is i v (Many t) h = absurd (false≢true h)

-- a vote to finalize
abbrev pub IsFinal : Vote → Type 0
IsFinal (Finalize p) = Unit {0}
IsFinal _ = ⊥

module _ (P : Ballot → Type 0) where
  -- only such votes and certificates came
  abbrev pub AreOf : Came → Type 0
  AreOf came = (x : Ballot) → In x came.ballots → P x

  -- the message, if a vote or a certificate, is such a one
  abbrev pub IsOf : Message → Type 0
  IsOf (Message.Vote i v) = P (Single i v)
  IsOf (Message.Cert t) = P (Many t)
  IsOf _ = Unit {0}

  -- such a one is of the vote
  abbrev pub IsBy : Vote → Type 0
  IsBy v = (x : Ballot) × P x × (ballot_vote x ≡ v)

  pub came_of : (r : Rules) (sign : ℕ → Vote → Bool) (came : Came) (m : Message) → AreOf came
      → IsOf m → AreOf (accepted r sign came m)
  came_of r sign came (Message.Vote i v) are is x h =
      go
      (ballot_from came (is_member r.epochs (vote_epoch v) i && well_formed v && sign i v)
      (Single i v) x h)
    where
      go : In x came.ballots
          ⊎ ((x ≡ Single i v)
          × ((is_member r.epochs (vote_epoch v) i && well_formed v && sign i v) ≡ true))
          → P x
      go (inl a) = are x a
      go (inr e) = subst P (sym e.0) is
  came_of r sign came (Message.Cert t) are is x h =
      go (ballot_from came (is_valid r sign t) (Many t) x h)
    where
      go : In x came.ballots ⊎ ((x ≡ Many t) × (is_valid r sign t ≡ true)) → P x
      go (inl a) = are x a
      go (inr e) = subst P (sym e.0) is
  came_of r sign came (Message.Shard c y) are is x h =
      are x (subst (In x) (part_ballots came (is_chunk_of r c y) (Row c y)) h)
  came_of r sign came (Message.Block b) are is x h =
      are x (subst (In x) (part_ballots came true (Whole b)) h)
  came_of r sign came _ are is x h = are x h

  module _ (r : Rules) (script : List Line) (cluster : IsCluster r script) (id : ℕ) where
    -- a certificate that is owed is of a vote that came
    signers_come : (s : State) (v : Vote) (signers : List ℕ) → AreOf s.came
        → signers_of r id s v ≡ Some signers → IsBy v
    signers_come s v signers are h =
        go (cases_Bool (list_any (single_of v) s.came.ballots))
        (or_split (first_some (signers_in v) s.came.ballots)
        (when (nat_le (quorum (size r.epochs (vote_epoch v))) (length (known r id s v)))
        (known r id s v))
        signers h)
      where
        by_cert : (x : Ballot) → P x → signers_in v x ≡ Some signers → IsBy v
        by_cert (Single i y) is f = cc f
        by_cert (Many t) is f = (
          Many t,
          is,
          sym (same_vote-true v t.vote (when_some (same_vote v t.vote) t.signers signers f).0),
        )

        by_single : (x : Ballot) → P x → single_of v x ≡ true → IsBy v
        by_single (Single i y) is f = (Single i y, is, sym (same_vote-true v y f))
        by_single (Many t) is f = absurd (false≢true f)

        no_single : list_any (single_of v) s.came.ballots ≡ false → (i : ℕ)
            → list_any (is_single i v) s.came.ballots ≡ true → ⊥
        no_single none i a =
            let (x, at, f) = any_in (is_single i v) s.came.ballots a in
            false≢true
            (sym none ∙ in_any (single_of v) s.came.ballots x at (single_is i v x f))

        itself : list_any (single_of v) s.came.ballots ≡ false → (i : ℕ)
            → knows id s v i ≡ true → i ≡ id
        itself none i k =
            by_case
            (or_cases (list_any (is_single i v) s.came.ballots) ((i == id) && has_vote s.notes v) k)
          where
            by_case : (list_any (is_single i v) s.came.ballots ≡ true)
                ⊎ (((i == id) && has_vote s.notes v) ≡ true)
                → i ≡ id
            by_case (inl a) = absurd (no_single none i a)
            by_case (inr b) = eqb-true i id (and_parts (i == id) (has_vote s.notes v) b).0

        few : list_any (single_of v) s.came.ballots ≡ false → length (known r id s v) ≤ 1
        few none =
            one_passes (knows id s v) id 0 (members_in r.epochs (vote_epoch v)) (itself none)
            (cluster.rising (vote_epoch v))

        go : (list_any (single_of v) s.came.ballots ≡ true)
            ⊎ (list_any (single_of v) s.came.ballots ≡ false)
            → (first_some (signers_in v) s.came.ballots ≡ Some signers)
            ⊎ ((first_some (signers_in v) s.came.ballots ≡ None)
            × (when (nat_le (quorum (size r.epochs (vote_epoch v))) (length (known r id s v)))
            (known r id s v)
            ≡ Some signers))
            → IsBy v
        go t (inl e) =
            let (x, at, f) = first_found (signers_in v) s.came.ballots signers e in
            by_cert x (are x at) f
        go (inl t) (inr e) =
            let (x, at, f) = any_in (single_of v) s.came.ballots t in by_single x (are x at) f
        go (inr t) (inr e) =
            let enough =
            when_some (nat_le (quorum (size r.epochs (vote_epoch v))) (length (known r id s v)))
            (known r id s v) signers e.1 in
            absurd
            (omega (
              arith,
              few t,
              leb-true (quorum (size r.epochs (vote_epoch v))) (length (known r id s v)) enough.0,
              big_quorum (size r.epochs (vote_epoch v)) (cluster.enough (vote_epoch v)),
            ))

    -- a note that, if a certificate, is one of such a vote
    abbrev IsQuiet : List Note → Note → Type 0
    IsQuiet ns (Note.Cert t) = IsBy t.vote
    IsQuiet ns _ = Unit {0}

    quiet_notes : (s : State) (e : Event) → AreOf s.came
        → EachAfter IsQuiet s.notes (step_notes r id s e)
    quiet_notes s e are =
        step_each IsQuiet r id s e (record {
          of_block = λ ns c b. tt;
          of_verified = λ ns epoch view c. tt;
          of_notarize = λ ns q o. tt;
          of_finalize = λ ns q. tt;
          of_certified = λ ns q. tt;
          of_epoch = λ ns epoch c. tt;
          of_nullify = λ view is q. tt;
          of_ack = λ h q. tt;
          of_prune = λ h a is l o. tt;
          of_cert = λ ns v signers h. signers_come (noted_as s ns) v signers are h;
          of_floor = λ ns c b at o n h. tt;
        })

    -- after a step a member has certificates of the votes that it had, and of such
    pub step_certs : (sign : ℕ → Vote → Bool) (n : Member) (e : Event)
        → AreOf (taken r sign (state_of n) e).came → (v : Vote)
        → has_cert (member_notes (step r id sign n e).member) v ≡ true
        → (has_cert (member_notes n) v ≡ true) ⊎ IsBy v
    step_certs sign n e are v h =
        let (t, inside, same) = cert_note v (member_notes (step r id sign n e).member) h in
        go t same
        (in_cases (Note.Cert t) (member_notes n) written
        (subst (In (Note.Cert t)) (frames_join n.frames written) inside))
      where
        written : List Note
        written = step_notes r id (taken r sign (state_of n) e) e

        go : (t : Cert) → t.vote ≡ v
            → In (Note.Cert t) (member_notes n) ⊎ In (Note.Cert t) written
            → (has_cert (member_notes n) v ≡ true) ⊎ IsBy v
        go t same (inl a) =
            inl
            (subst (λ x. has_cert (member_notes n) x ≡ true) same (cert_has t (member_notes n) a))
        go t same (inr a) =
            let (front, rest, joined, k) =
            each_at IsQuiet (member_notes n) written (Note.Cert t)
            (quiet_notes (taken r sign (state_of n) e) e are) a in
            inr (subst IsBy same k)

    -- ---- its own votes

    -- a note that, if a vote, is one to finalize or that of a timeout
    abbrev IsOwn : State → Event → List Note → Note → Type 0
    IsOwn s e ns (Note.Vote (Notarize p)) = ⊥
    IsOwn s e ns (Note.Vote (Nullify epoch view)) =
        (e ≡ Event.Timeout view) × (epoch ≡ epoch_of s.notes)
    IsOwn s e ns _ = Unit {0}

    module _ (no : (i : ℕ) (p : Proposal) → P (Single i (Notarize p)) → ⊥) where
      no_proposal : (came : Came) (i : ℕ) (p : Proposal) → AreOf came
          → list_any (is_single i (Notarize p)) came.ballots ≡ true → ⊥
      no_proposal came i p are a =
          let (x, at, f) = any_in (is_single i (Notarize p)) came.ballots a in
          by_ballot x (are x at) f
        where
          by_ballot : (x : Ballot) → P x → is_single i (Notarize p) x ≡ true → ⊥
          by_ballot (Single j v) is f =
              no j p
              (subst (λ y. P (Single j y))
              (sym (same_vote-true (Notarize p) v (and_parts (i == j) (same_vote (Notarize p) v) f).1))
              is)
          by_ballot (Many t) is f = false≢true f

      own_notes : (s : State) (e : Event) → (IsProposing e → ⊥) → AreOf s.came
          → EachAfter (IsOwn s e) s.notes (step_notes r id s e)
      own_notes s e plain are =
          step_each (IsOwn s e) r id s e (record {
            of_block = λ ns c b. tt;
            of_verified = λ ns epoch view c. tt;
            of_notarize = λ ns q o. by_source q o;
            of_finalize = λ ns q. tt;
            of_certified = λ ns q. tt;
            of_epoch = λ ns epoch c. tt;
            of_nullify = λ view is q. (is, refl);
            of_ack = λ h q. tt;
            of_prune = λ h a is l o. tt;
            of_cert = λ ns v signers h. tt;
            of_floor = λ ns c b at o n h. tt;
          })
        where
          by_source : (q : Proposal)
              → IsProposing e
              ⊎ (list_any (is_single (leader r.epochs q.epoch q.view) (Notarize q))
              s.came.ballots
              ≡ true)
              → ⊥
          by_source q (inl o) = plain o
          by_source q (inr a) = no_proposal s.came (leader r.epochs q.epoch q.view) q are a

      -- after a step without a proposal a member has the votes that it had, that of the timeout, and
      -- such as finalize
      pub step_votes : (sign : ℕ → Vote → Bool) (n : Member) (e : Event) → (IsProposing e → ⊥)
          → AreOf (taken r sign (state_of n) e).came → (v : Vote)
          → has_vote (member_notes (step r id sign n e).member) v ≡ true
          → (has_vote (member_notes n) v ≡ true)
          ⊎ (IsFinal v
          ⊎ ((view : ℕ) × (e ≡ Event.Timeout view)
          × (v ≡ Nullify (epoch_of (member_notes n)) view)))
      step_votes sign n e plain are v h =
          go
          (in_cases (Note.Vote v) (member_notes n) written
          (subst (In (Note.Vote v)) (frames_join n.frames written)
          (vote_in v (member_notes (step r id sign n e).member) h)))
        where
          during : State
          during = taken r sign (state_of n) e

          written : List Note
          written = step_notes r id during e

          by_own : (x : Vote) (front : List Note) → IsOwn during e front (Note.Vote x)
              → IsFinal x
              ⊎ ((view : ℕ) × (e ≡ Event.Timeout view)
              × (x ≡ Nullify (epoch_of (member_notes n)) view))
          by_own (Notarize p) front o = absurd o
          by_own (Nullify epoch view) front o =
              inr (view, o.0, ap (λ z. Nullify z view) o.1)
          by_own (Finalize p) front o = inl tt

          go : In (Note.Vote v) (member_notes n) ⊎ In (Note.Vote v) written
              → (has_vote (member_notes n) v ≡ true)
              ⊎ (IsFinal v
              ⊎ ((view : ℕ) × (e ≡ Event.Timeout view)
              × (v ≡ Nullify (epoch_of (member_notes n)) view)))
          go (inl a) =
              inl (in_any (is_vote v) (member_notes n) (Note.Vote v) a (same_vote_self v))
          go (inr a) =
              let (front, rest, joined, k) =
              each_at (IsOwn during e) (member_notes n) written (Note.Vote v)
              (own_notes during e plain are) a in
              inr (by_own v front k)
