-- A vote that a quorum sent comes to a certificate.
use Rattle.std.proofs.Common.{◌≡◌, ℕ, ◌≤◌, Bool, true, false, ◌&&◌, ◌==◌, not, cond, nat_le, List, [], ◌∷◌, ◌++◌, Option, Some, None, filter_map, length, map, option_map, IsTrue, refl, sym, ◌∙◌, ap, subst, inl, inr, ◌⊎◌, arith, eq-eqb}
use Rattle.std.specs.List.{AllByRecursion, list_any}
use Rattle.std.proofs.lemmas.Bool.{and_from, and_parts, cond-true, false≢true, le-leb, or_cases, or_left, or_right}
use Rattle.std.proofs.lemmas.List.Sums.{length-filter}
use Rattle.cw_types.specs.declared.event.Event.{Event}
use Rattle.cw_types.specs.declared.message.Message.{Message}
use Rattle.cw_types.specs.declared.note.Note.{Note}
use Rattle.cw_types.specs.declared.vote.Vote.{Vote}
use Rattle.cw_types.specs.Epochs.{is_member, members_in, rises_from, size}
use Rattle.cw_types.specs.Numbers.{quorum}
use Rattle.cw_types.specs.Same.{same_vote}
use Rattle.cw_types.specs.Votes.{vote_epoch, well_formed}
use Rattle.cw_types.proofs.Same.{same_vote-true, same_vote_self}
use Rattle.cw_rules.specs.Accepted.{Ballot, Came, Many, Single, first_some, same_ballot, take_ballot}
use Rattle.cw_rules.specs.Notes.{has_cert, has_vote}
use Rattle.cw_rules.specs.Owed.{ballot_vote, block_owed, cert_owed, is_single, known, knows, named_commitments, named_votes, note_vote, signers_in, signers_of, when}
use Rattle.cw_rules.specs.Reached.{In, IsCluster}
use Rattle.cw_rules.specs.Rules.{Rules}
use Rattle.cw_rules.specs.Sends.{to_all}
use Rattle.cw_rules.specs.Step.{Member, Stepped, member_notes, state_of, step, step_notes, taken, with_notes}
use Rattle.cw_rules.specs.World.{Ask, Do, Line, World, happens, member_at, run, signed, with_done}
use Rattle.cw_rules.proofs.Grows.{count_signers}
use Rattle.cw_rules.proofs.Lists.{in_left, in_right, is_in}
use Rattle.cw_rules.proofs.Settles.{step_ends}
use Rattle.cw_rules.proofs.Worlds.{frames_join, member_there}
use Rattle.cw_progress.specs.Over.{ComesTo, is_delivery}
use Rattle.cw_progress.specs.Sent.{IsSent}
use Rattle.cw_progress.proofs.Carries.{extends_done}
use Rattle.cw_progress.proofs.Outs.{in_map, sent_stays}
use Rattle.cw_progress.proofs.Over.{delivery_happens, member_done}
use Rattle.cw_progress.proofs.Rests.{first_none, or_none}
use Rattle.cw_progress.proofs.Taken.{ballot_in, ballots_stay}
use Rattle.cw_progress.proofs.Valid.{sent_signs}

-- ---- lists

pub any_in : {X : Type 0} (t : X → Bool) (xs : List X) → list_any t xs ≡ true
    → (x : X) × In x xs × (t x ≡ true)
any_in t [] h = absurd (false≢true h)
any_in {X} t (x ∷ xs) h = go (or_cases (t x) (list_any t xs) h) (any_in t xs)
  where
    go : (t x ≡ true) ⊎ (list_any t xs ≡ true)
        → (list_any t xs ≡ true → (y : X) × In y xs × (t y ≡ true))
        → (y : X) × In y (x ∷ xs) × (t y ≡ true)
    go (inl e) later = (x, inl refl, e)
    go (inr e) later = let (y, at, f) = later e in (y, inr at, f)

pub in_any : {X : Type 0} (t : X → Bool) (xs : List X) (x : X) → In x xs → t x ≡ true
    → list_any t xs ≡ true
in_any t [] x h e = absurd h
in_any t (y ∷ ys) x (inl s) e = or_left (t y) (list_any t ys) (ap t (sym s) ∙ e)
in_any t (y ∷ ys) x (inr h) e = or_right (t y) (list_any t ys) (in_any t ys x h e)

-- ---- a vote that is delivered

same_single : (i : ℕ) (v : Vote) (b : Ballot) → same_ballot (Single i v) b ≡ true
    → is_single i v b ≡ true
same_single i v (Single j w) h = h
same_single i v (Many s) h = absurd (false≢true h)

-- a vote that fits is among the ballots
pub single_taken : (came : Came) (fits : Bool) (i : ℕ) (v : Vote) → fits ≡ true
    → list_any (is_single i v) (take_ballot came fits (Single i v)).ballots ≡ true
single_taken came fits i v f = go (list_any (same_ballot (Single i v)) came.ballots) refl
  where
    more : Came
    more =
        record {
          ballots = came.ballots ++ Single i v ∷ [];
          parts = came.parts;
          wishes = came.wishes;
        }

    go : (t : Bool) → list_any (same_ballot (Single i v)) came.ballots ≡ t
        → list_any (is_single i v) (take_ballot came fits (Single i v)).ballots ≡ true
    go true e =
        let (b, at, s) = any_in (same_ballot (Single i v)) came.ballots e in
        in_any (is_single i v) (take_ballot came fits (Single i v)).ballots b
        (ballot_in came fits (Single i v) b at) (same_single i v b s)
    go false e =
        in_any (is_single i v) (take_ballot came fits (Single i v)).ballots (Single i v)
        (subst (λ (c : Came). In (Single i v) c.ballots)
        (sym
        (cond-true (fits && not (list_any (same_ballot (Single i v)) came.ballots)) more came
        (and_from fits (not (list_any (same_ballot (Single i v)) came.ballots)) f (ap not e))))
        (in_right (Single i v) came.ballots (Single i v ∷ []) (inl refl)))
        (and_from (i == i) (same_vote v v) (eq-eqb i i refl) (same_vote_self v))

-- ---- a quorum of votes

module _ (r : Rules) (j : ℕ) (v : Vote) where
  -- the member owes no certificate
  abbrev pub OwesNone : Member → Type 0
  OwesNone n = first_some (cert_owed r j (state_of n)) (named_votes (state_of n)) ≡ None

  pub step_none : (sign : ℕ → Vote → Bool) (n : Member) (e : Event)
      → OwesNone (step r j sign n e).member
  step_none sign n e =
      let during = taken r sign (state_of n) e in
      let notes = step_notes r j during e in
      let after = with_notes during notes in
      subst
      (λ ns. first_some
      (cert_owed r j (record { notes = ns; came = during.came; given = n.given }))
      (named_votes (record { notes = ns; came = during.came; given = n.given }))
      ≡ None)
      (sym (frames_join n.frames notes))
      (or_none (first_some (cert_owed r j after) (named_votes after)) _
      (or_none (first_some (block_owed r after) (named_commitments r after)) _
      (step_ends r j during e)).1).0

  -- where a quorum's votes came and no certificate is owed, one is noted
  pub quorum_noted : (n : Member) (signers : List ℕ) (one : ℕ)
      → ((epoch : ℕ) → IsTrue (rises_from 0 (members_in r.epochs epoch))) → OwesNone n
      → rises_from 0 signers ≡ true → In one signers
      → ((i : ℕ) → In i signers → is_member r.epochs (vote_epoch v) i ≡ true)
      → quorum (size r.epochs (vote_epoch v)) ≤ length signers
      → ((i : ℕ) → In i signers → list_any (is_single i v) n.came.ballots ≡ true)
      → has_cert (member_notes n) v ≡ true
  quorum_noted n signers one rising none rise first members enough came =
      go (has_cert (member_notes n) v) refl
      (first_none (cert_owed r j (state_of n)) (named_votes (state_of n)) v none named)
    where
      by_ballot : (b : Ballot) → In b n.came.ballots → is_single one v b ≡ true
          → In v (map ballot_vote n.came.ballots)
      by_ballot (Many s) at e = absurd (false≢true e)
      by_ballot (Single i w) at e =
          subst (λ x. In x (map ballot_vote n.came.ballots))
          (sym (same_vote-true v w (and_parts (one == i) (same_vote v w) e).1))
          (in_map ballot_vote n.came.ballots (Single i w) at)

      named : In v (named_votes (state_of n))
      named =
          let (b, at, e) = any_in (is_single one v) n.came.ballots (came one first) in
          in_left v (map ballot_vote n.came.ballots) (filter_map note_vote (member_notes n))
          (by_ballot b at e)

      knows_all : (xs : List ℕ) → ((i : ℕ) → In i xs → In i signers)
          → AllByRecursion
          (λ i. IsTrue (is_in (members_in r.epochs (vote_epoch v)) i)
          × (knows j (state_of n) v i ≡ true)) xs
      knows_all [] f = tt
      knows_all (x ∷ xs) f = (
        (
          members x (f x (inl refl)),
          or_left (list_any (is_single x v) n.came.ballots)
              ((x == j) && has_vote (member_notes n) v)
              (came x (f x (inl refl))),
        ),
        knows_all xs (λ i h. f i (inr h)),
      )

      many : quorum (size r.epochs (vote_epoch v)) ≤ length (known r j (state_of n) v)
      many =
          omega (
            arith,
            enough,
            count_signers (knows j (state_of n) v) 0 (members_in r.epochs (vote_epoch v))
                signers (rising (vote_epoch v)) rise (knows_all signers (λ i h. h)),
            length-filter (knows j (state_of n) v) (members_in r.epochs (vote_epoch v)),
          )

      nothing : signers_of r j (state_of n) v ≡ None → ⊥
      nothing e =
          let a =
          (or_none (first_some (signers_in v) n.came.ballots)
          (when
          (nat_le (quorum (size r.epochs (vote_epoch v))) (length (known r j (state_of n) v)))
          (known r j (state_of n) v)) e).1 in
          let b : when true (known r j (state_of n) v) ≡ None =
          ap (λ t. when t (known r j (state_of n) v))
          (sym
          (le-leb (quorum (size r.epochs (vote_epoch v)))
          (length (known r j (state_of n) v)) many))
          ∙ a in
          cc

      by_signers : (o : Option (List ℕ)) → signers_of r j (state_of n) v ≡ o
          → option_map (λ signers. Note.Cert (record { vote = v; signers = signers })) o ≡ None
          → ⊥
      by_signers None e h = nothing e
      by_signers (Some xs) e h = cc

      go : (b : Bool) → has_cert (member_notes n) v ≡ b
          → cond b None
          (option_map (λ signers. Note.Cert (record { vote = v; signers = signers }))
          (signers_of r j (state_of n) v))
          ≡ None
          → has_cert (member_notes n) v ≡ true
      go true e h = e
      go false e h = absurd (by_signers (signers_of r j (state_of n) v) refl h)

  -- the member with these votes delivered
  abbrev pub NoneAfter : List ℕ → Member → Member → Type 0
  NoneAfter [] n after = OwesNone n → OwesNone after
  NoneAfter (x ∷ xs) n after = OwesNone after

  record Given (w : World) (n : Member) (xs : List ℕ) : Type 0 where
    pub lines : List Line
    pub are : AllByRecursion (λ line. is_delivery line ≡ true) lines
    pub after : Member
    pub there : member_at (run r w lines) j ≡ Some after
    pub live : after.live ≡ true
    pub none : NoneAfter xs n after
    pub came : (i : ℕ) → In i xs → list_any (is_single i v) after.came.ballots ≡ true
    pub stays : (b : Ballot) → In b n.came.ballots → In b after.came.ballots

  given_all : (xs : List ℕ) (w : World) (n : Member) → member_at w j ≡ Some n → n.live ≡ true
      → well_formed v ≡ true
      → ((i : ℕ) → In i xs → is_member r.epochs (vote_epoch v) i ≡ true)
      → ((i : ℕ) → In i xs → IsSent w i (to_all (Message.Vote i v))) → Given w n xs
  given_all [] w n at live formed members sent = record {
    lines = [];
    are = tt;
    after = n;
    there = at;
    live = live;
    none = λ h. h;
    came = λ i h. absurd h;
    stays = λ b h. h;
  }
  given_all (x ∷ xs) w n at live formed members sent =
      joined
      (given_all xs next_world done.member (member_done w j n done at) refl formed
      (λ i h. members i (inr h))
      (λ i h. sent_stays w next_world i (to_all (Message.Vote i v))
      (extends_done w j n done (member_there w j n at)) (sent i (inr h))))
    where
      e : Event
      e = Event.Deliver (Message.Vote x v)

      done : Stepped
      done = step r j (signed w) n e

      next_world : World
      next_world = with_done w j done

      it : IsSent w x (to_all (Message.Vote x v))
      it = sent x (inl refl)

      fits : (is_member r.epochs (vote_epoch v) x && well_formed v && signed w x v) ≡ true
      fits =
          and_from (is_member r.epochs (vote_epoch v) x && well_formed v) (signed w x v)
          (and_from (is_member r.epochs (vote_epoch v) x) (well_formed v)
          (members x (inl refl)) formed)
          (sent_signs w x v it)

      here : list_any (is_single x v) done.member.came.ballots ≡ true
      here =
          single_taken n.came
          (is_member r.epochs (vote_epoch v) x && well_formed v && signed w x v) x v fits

      goes : happens r w (Do j (Ask.Deliver it.number)) ≡ next_world
      goes = delivery_happens r w x j n (to_all (Message.Vote x v)) it at live refl

      none_all : (ys : List ℕ) (after : Member) → NoneAfter ys done.member after
          → OwesNone after
      none_all [] after h = h (step_none (signed w) n e)
      none_all (y ∷ ys) after h = h

      joined : Given next_world done.member xs → Given w n (x ∷ xs)
      joined g = record {
        lines = Do j (Ask.Deliver it.number) ∷ g.lines;
        are = (refl, g.are);
        after = g.after;
        there = ap (λ u. member_at (run r u g.lines) j) goes ∙ g.there;
        live = g.live;
        none = none_all xs g.after g.none;
        came = λ i h. by_place i h;
        stays = λ b h. g.stays b (ballots_stay r (signed w) n.came e b h);
      }
        where
          by_place : (i : ℕ) → (i ≡ x) ⊎ In i xs
              → list_any (is_single i v) g.after.came.ballots ≡ true
          by_place i (inl s) =
              subst (λ y. list_any (is_single y v) g.after.came.ballots ≡ true) (sym s)
              (let (b, there, f) = any_in (is_single x v) done.member.came.ballots here in
              in_any (is_single x v) g.after.came.ballots b (g.stays b there) f)
          by_place i (inr h) = g.came i h

-- a vote that a quorum sent comes to a certificate at whoever is live
pub votes_over : (r : Rules) (script : List Line) (w : World) → IsCluster r script
    → (j : ℕ) (n : Member) → member_at w j ≡ Some n → n.live ≡ true
    → (v : Vote) → well_formed v ≡ true → (signers : List ℕ) → rises_from 0 signers ≡ true
    → quorum (size r.epochs (vote_epoch v)) ≤ length signers
    → ((i : ℕ) → In i signers → is_member r.epochs (vote_epoch v) i ≡ true)
    → ((i : ℕ) → In i signers → IsSent w i (to_all (Message.Vote i v)))
    → ComesTo r w j is_delivery (λ notes. has_cert notes v)
votes_over r script w cluster j n at live v formed [] rise enough members sent =
    absurd (omega (arith, enough, cluster.enough (vote_epoch v)))
votes_over r script w cluster j n at live v formed (x ∷ xs) rise enough members sent =
    let g = given_all r j v (x ∷ xs) w n at live formed members sent in
    record {
      lines = g.lines;
      are = g.are;
      after = g.after;
      there = g.there;
      live = g.live;
      passes =
          quorum_noted r j v g.after (x ∷ xs) x cluster.rising g.none rise (inl refl) members
          enough g.came;
    }
