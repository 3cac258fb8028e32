-- Where each honest member of the first epoch has sent a vote, a member comes to a certificate of it,
-- by lines that help.
use Rattle.std.proofs.Common.{◌≡◌, ℕ, ◌≤◌, Bool, true, false, ◌&&◌, ◌==◌, nat_le, List, [], ◌∷◌, Some, None, length, slice_get, refl, sym, ◌∙◌, ap, subst, inl, inr, ◌⊎◌, arith, eq-eqb}
use Rattle.std.specs.List.{list_any}
use Rattle.std.specs.Option.{option_map_or}
use Rattle.std.proofs.lemmas.Bool.{and_from, and_parts, false≢true, or_right}
use Rattle.cw_types.specs.declared.event.Event.{Event}
use Rattle.cw_types.specs.declared.message.Message.{Message}
use Rattle.cw_types.specs.declared.note.Note.{Note}
use Rattle.cw_types.specs.declared.vote.Proposal.{Proposal}
use Rattle.cw_types.specs.declared.vote.Vote.{Vote}
use Rattle.cw_types.specs.declared.vote.Vote.TheVariants.{Finalize, Notarize, Nullify}
use Rattle.cw_types.specs.Epochs.{is_member, leader, members_in, rises_from, size}
use Rattle.cw_types.specs.Numbers.{quorum}
use Rattle.cw_types.specs.Same.{same_vote}
use Rattle.cw_types.specs.Votes.{vote_epoch, well_formed}
use Rattle.cw_types.proofs.Same.{same_vote-true, same_vote_self}
use Rattle.cw_rules.specs.Accepted.{Ballot, Many, Single, State}
use Rattle.cw_rules.specs.Notes.{has_cert, has_vote, is_vote}
use Rattle.cw_rules.specs.Owed.{ballot_vote, is_single}
use Rattle.cw_rules.specs.Reached.{In, IsCluster, ReachesClear}
use Rattle.cw_rules.specs.Rules.{Rules}
use Rattle.cw_rules.specs.Sends.{to_all}
use Rattle.cw_rules.specs.Stands.{EachAfter}
use Rattle.cw_rules.specs.Step.{Member, Stepped, member_notes, nothing_came, state_of, step, step_notes, taken}
use Rattle.cw_rules.specs.World.{Ask, Do, Line, Sent, World, happens, member_at, sent_now, signed, with_done}
use Rattle.cw_rules.proofs.Lists.{filter_rises, in_cases}
use Rattle.cw_rules.proofs.Worlds.{frames_join}
use Rattle.cw_progress.specs.Going.{helps, is_ballot}
use Rattle.cw_progress.specs.Over.{ComesToClash}
use Rattle.cw_progress.specs.Sent.{IsSent}
use Rattle.cw_progress.proofs.Carries.{each_at}
use Rattle.cw_progress.proofs.Outs.{filter_from}
use Rattle.cw_progress.proofs.Over.{delivery_happens, member_done}
use Rattle.cw_progress.proofs.Paths.{Path, path_on}
use Rattle.cw_progress.proofs.Quiet.{AreOf, IsBy, IsFinal, came_of, step_certs}
use Rattle.cw_progress.proofs.Quorum.{NoneAfter, OwesNone, any_in, in_any, quorum_noted, single_taken, step_none}
use Rattle.cw_progress.proofs.Rests.{step_each}
use Rattle.cw_progress.proofs.Rounds.{Brings, here_way, honest_there, is_honest, voters, voters_enough}
use Rattle.cw_progress.proofs.Stages.{delivered_later, helps_honest}
use Rattle.cw_progress.proofs.Taken.{ballots_stay}
use Rattle.cw_progress.proofs.Turns.{Idles, restart_way, sent_on, single_way}
use Rattle.cw_progress.proofs.Valid.{sent_signs, vote_in}
use Rattle.cw_progress.proofs.Voting.{other_same}
use Rattle.cw_progress.proofs.Ways.{NoVote, Way, goes_then, goes_weaker, way_here}

-- the ballot is the vote of some signer
abbrev pub IsVoteOf : Vote → Ballot → Type 0
IsVoteOf v x = (i : ℕ) × (x ≡ Single i v)

-- the vote is that one
abbrev pub IsThat : Vote → Vote → Type 0
IsThat v x = x ≡ v

module _ (v : Vote) where
  by_ballot : (x : Vote) → IsBy (IsVoteOf v) x → x ≡ v
  by_ballot x (b, (i, e), same) = sym same ∙ ap ballot_vote e

  -- ---- own votes

  -- a note that, if a vote, finalizes or is that vote
  abbrev IsOwn : List Note → Note → Type 0
  IsOwn ns (Note.Vote (Notarize p)) = Notarize p ≡ v
  IsOwn ns (Note.Vote (Nullify epoch view)) = ⊥
  IsOwn ns _ = Unit {0}

  own_notes : (r : Rules) (id : ℕ) (s : State) (m : Message) → AreOf (IsVoteOf v) s.came
      → EachAfter IsOwn s.notes (step_notes r id s (Event.Deliver m))
  own_notes r id s m are =
      step_each IsOwn r id s (Event.Deliver m) (record {
        of_block = λ ns c b. tt;
        of_verified = λ ns epoch view c. tt;
        of_notarize = λ ns q o. by_source q o;
        of_finalize = λ ns q. tt;
        of_certified = λ ns q. tt;
        of_epoch = λ ns epoch c. tt;
        of_nullify = λ view is q. never view is;
        of_ack = λ h q. tt;
        of_prune = λ h a is l o. tt;
        of_cert = λ ns x signers h. tt;
        of_floor = λ ns c b at o n h. tt;
      })
    where
      never : (view : ℕ) → Event.Deliver m ≡ Event.Timeout view → ⊥
      never view e = cc e

      by_single : (i : ℕ) (q : Proposal) (x : Ballot) → IsVoteOf v x
          → is_single i (Notarize q) x ≡ true → Notarize q ≡ v
      by_single i q (Single j y) (k, e) f =
          same_vote-true (Notarize q) y (and_parts (i == j) (same_vote (Notarize q) y) f).1
          ∙ ap ballot_vote e
      by_single i q (Many t) is f = absurd (false≢true f)

      by_source : (q : Proposal)
          → ⊥
          ⊎ (list_any (is_single (leader r.epochs q.epoch q.view) (Notarize q)) s.came.ballots
          ≡ true)
          → Notarize q ≡ v
      by_source q (inl o) = absurd o
      by_source q (inr a) =
          let (x, at, f) =
          any_in (is_single (leader r.epochs q.epoch q.view) (Notarize q)) s.came.ballots a in
          by_single (leader r.epochs q.epoch q.view) q x (are x at) f

  -- after a delivery a member has the votes that it had, that one, and such as finalize
  delivery_votes : (r : Rules) (id : ℕ) (sign : ℕ → Vote → Bool) (n : Member) (m : Message)
      → AreOf (IsVoteOf v) (taken r sign (state_of n) (Event.Deliver m)).came → (x : Vote)
      → has_vote (member_notes (step r id sign n (Event.Deliver m)).member) x ≡ true
      → (has_vote (member_notes n) x ≡ true) ⊎ (IsFinal x ⊎ IsThat v x)
  delivery_votes r id sign n m are x h =
      go
      (in_cases (Note.Vote x) (member_notes n) written
      (subst (In (Note.Vote x)) (frames_join n.frames written)
      (vote_in x (member_notes (step r id sign n (Event.Deliver m)).member) h)))
    where
      during : State
      during = taken r sign (state_of n) (Event.Deliver m)

      written : List Note
      written = step_notes r id during (Event.Deliver m)

      by_own : (y : Vote) (front : List Note) → IsOwn front (Note.Vote y)
          → IsFinal y ⊎ IsThat v y
      by_own (Notarize p) front o = inr o
      by_own (Nullify epoch view) front o = absurd o
      by_own (Finalize p) front o = inl tt

      go : In (Note.Vote x) (member_notes n) ⊎ In (Note.Vote x) written
          → (has_vote (member_notes n) x ≡ true) ⊎ (IsFinal x ⊎ IsThat v x)
      go (inl a) = inl (in_any (is_vote x) (member_notes n) (Note.Vote x) a (same_vote_self x))
      go (inr a) =
          let (front, rest, joined, k) =
          each_at IsOwn (member_notes n) written (Note.Vote x) (own_notes r id during m are) a in
          inr (by_own x front k)

module _ (r : Rules) (none : r.epochs.span ≡ None) (payload : List ℕ) (v : Vote)
    (first : vote_epoch v ≡ 0) (formed : well_formed v ≡ true) where
  abbrev pub Leads : World → (World → Type 0) → Type 0
  Leads w P = Brings r none payload (IsThat v) w P

  -- ---- one vote

  -- the vote of a member is delivered to another, to which only such votes came
  vote_turn : (script : List Line) (w : World) → IsCluster r script → ReachesClear r script w
      → (j : ℕ) (n : Member) → member_at w j ≡ Some n → n.live ≡ true
      → AreOf (IsVoteOf v) n.came → (x : ℕ) → IsSent w x (to_all (Message.Vote x v))
      → Leads w
      (λ u. u ≡ with_done w j (step r j (signed w) n (Event.Deliver (Message.Vote x v))))
  vote_turn script w cluster clear j n at live are x it =
      go
      (path_on r w (helps w payload) (helps_honest w payload) w
      (way_here r payload NoVote script w cluster clear).path (Do j (Ask.Deliver it.number)) fits)
    where
      m : Message
      m = Message.Vote x v

      done : Stepped
      done = step r j (signed w) n (Event.Deliver m)

      u : World
      u = with_done w j done

      goes : happens r w (Do j (Ask.Deliver it.number)) ≡ u
      goes = delivery_happens r w x j n (to_all m) it at live refl

      ballot : option_map_or (λ (s : Sent). is_ballot s.message) (slice_get w.pool it.number)
          false
          ≡ true
      ballot =
          ap (λ o. option_map_or (λ (s : Sent). is_ballot s.message) o false) it.there
          ∙ ap is_ballot it.message

      fits : helps w payload (Do j (Ask.Deliver it.number)) ≡ true
      fits =
          or_right (nat_le (length w.pool) it.number)
          (option_map_or (λ (s : Sent). is_ballot s.message) (slice_get w.pool it.number) false)
          ballot

      came : AreOf (IsVoteOf v) done.member.came
      came = came_of (IsVoteOf v) r (signed w) n.came m are (x, refl)

      by_cert : (y : Vote) → (has_cert (member_notes n) y ≡ true) ⊎ IsBy (IsVoteOf v) y
          → (has_cert (member_notes n) y ≡ true) ⊎ IsThat v y
      by_cert y (inl h) = inl h
      by_cert y (inr h) = inr (by_ballot v y h)

      way : Path r w (helps w payload) (happens r w (Do j (Ask.Deliver it.number)))
          → Way r w payload (IsThat v) u
      way path =
          single_way r payload (IsThat v) w u j n done.member at (member_done w j n done at)
          (subst (Path r w (helps w payload)) goes path) (sent_now w j done.sent) refl
          (delivered_later r j (signed w) n m) (other_same w j done)
          (λ y h. by_cert y
          (step_certs (IsVoteOf v) r script cluster j (signed w) n (Event.Deliver m) came y h))
          (delivery_votes v r j (signed w) n m came)

      go : Path r w (helps w payload) (happens r w (Do j (Ask.Deliver it.number)))
          ⊎ ComesToClash r w (helps w payload)
          → Leads w (λ z. z ≡ with_done w j (step r j (signed w) n (Event.Deliver m)))
      go (inr clash) = inr clash
      go (inl path) = inl (record { world = u; way = way path; holds = refl })

  -- ---- all votes

  record IsGivenVotes (j : ℕ) (n : Member) (xs : List ℕ) (u : World) : Type 0 where
    member : Member
    there : member_at u j ≡ Some member
    owes : NoneAfter r j v xs n member
    came : (i : ℕ) → In i xs → list_any (is_single i v) member.came.ballots ≡ true
    stays : (b : Ballot) → In b n.came.ballots → In b member.came.ballots

  abbrev AllGiven : ℕ → List ℕ → Type 0
  AllGiven j xs =
      (script : List Line) (w : World) → IsCluster r script → ReachesClear r script w
      → (n : Member) → member_at w j ≡ Some n → n.live ≡ true → AreOf (IsVoteOf v) n.came
      → ((i : ℕ) → In i xs → is_member r.epochs (vote_epoch v) i ≡ true)
      → ((i : ℕ) → In i xs → IsSent w i (to_all (Message.Vote i v)))
      → Leads w (IsGivenVotes j n xs)

  all_given : (j : ℕ) (xs : List ℕ) → AllGiven j xs
  all_given j [] script w cluster clear n at live are members sent =
      here_way r none payload (IsThat v) script w cluster clear (IsGivenVotes j n []) (record {
        member = n;
        there = at;
        owes = λ h. h;
        came = λ i h. absurd h;
        stays = λ b h. h;
      })
  all_given j (x ∷ xs) script w cluster clear n at live are members sent =
      goes_then r payload (IsThat v) w (λ u. u ≡ with_done w j done) (IsGivenVotes j n (x ∷ xs))
      (vote_turn script w cluster clear j n at live are x (sent x (inl refl)))
      (next (all_given j xs))
    where
      e : Event
      e = Event.Deliver (Message.Vote x v)

      done : Stepped
      done = step r j (signed w) n e

      came : AreOf (IsVoteOf v) done.member.came
      came = came_of (IsVoteOf v) r (signed w) n.came (Message.Vote x v) are (x, refl)

      here : list_any (is_single x v) done.member.came.ballots ≡ true
      here =
          single_taken n.came
          (is_member r.epochs (vote_epoch v) x && well_formed v && signed w x v) x v
          (and_from (is_member r.epochs (vote_epoch v) x && well_formed v) (signed w x v)
          (and_from (is_member r.epochs (vote_epoch v) x) (well_formed v)
          (members x (inl refl)) formed)
          (sent_signs w x v (sent x (inl refl))))

      none_all : (ys : List ℕ) (after : Member) → NoneAfter r j v ys done.member after
          → OwesNone r j v after
      none_all [] after h = h (step_none r j v (signed w) n e)
      none_all (y ∷ ys) after h = h

      joined : (u : World) → IsGivenVotes j done.member xs u → IsGivenVotes j n (x ∷ xs) u
      joined u g = record {
        member = g.member;
        there = g.there;
        owes = none_all xs g.member g.owes;
        came = λ i h. by_place i h;
        stays = λ b h. g.stays b (ballots_stay r (signed w) n.came e b h);
      }
        where
          by_place : (i : ℕ) → (i ≡ x) ⊎ In i xs
              → list_any (is_single i v) g.member.came.ballots ≡ true
          by_place i (inl s) =
              subst (λ y. list_any (is_single y v) g.member.came.ballots ≡ true) (sym s)
              (let (b, there, f) = any_in (is_single x v) done.member.came.ballots here in
              in_any (is_single x v) g.member.came.ballots b (g.stays b there) f)
          by_place i (inr h) = g.came i h

      next : AllGiven j xs → (u : World) → Way r w payload (IsThat v) u
          → u ≡ with_done w j done → Leads u (IsGivenVotes j n (x ∷ xs))
      next later u way same =
          land
          (later way.path.script u way.path.cluster way.path.clear done.member
          (ap (λ z. member_at z j) same ∙ member_done w j n done at) refl came
          (λ i h. members i (inr h))
          (λ i h. sent_on w u way.more way.pool i (to_all (Message.Vote i v)) (sent i (inr h))))
        where
          land : Leads u (IsGivenVotes j done.member xs) → Leads u (IsGivenVotes j n (x ∷ xs))
          land (inr clash) = inr clash
          land (inl g) =
              inl (record { world = g.world; way = g.way; holds = joined g.world g.holds })

  -- ---- a certificate

  -- each honest member of the epoch has sent the vote
  abbrev pub AreSent : World → Type 0
  AreSent w =
      (i : ℕ) (m : Member) → member_at w i ≡ Some m → is_member r.epochs 0 i ≡ true
      → IsSent w i (to_all (Message.Vote i v))

  -- the member has a certificate of the vote
  abbrev pub HasIt : ℕ → World → Type 0
  HasIt j u =
      (n : Member) × (member_at u j ≡ Some n) × (has_cert (member_notes n) v ≡ true)

  pub sent_later : (w u : World) → Way r w payload (IsThat v) u → AreSent w → AreSent u
  sent_later w u way sent i m at is = by_back (way.back i m at)
    where
      by_back : ((x : Member) × (member_at w i ≡ Some x))
          → IsSent u i (to_all (Message.Vote i v))
      by_back (x, there) =
          sent_on w u way.more way.pool i (to_all (Message.Vote i v)) (sent i x there is)

  idle_told : (script : List Line) (w : World) → IsCluster r script → ReachesClear r script w
      → AreSent w → (j : ℕ) (n : Member) → member_at w j ≡ Some n → n.live ≡ true
      → n.came ≡ nothing_came → Leads w (HasIt j)
  idle_told script w cluster clear sent j n at live nothing =
      by_voters (voters r w) refl (voters_enough r script w cluster clear)
    where
      rise : rises_from 0 (voters r w) ≡ true
      rise = filter_rises (is_honest w) 0 (members_in r.epochs 0) (cluster.rising 0)

      in_first : (i : ℕ) → In i (voters r w) → is_member r.epochs 0 i ≡ true
      in_first i inside =
          let (there, is) = filter_from (is_honest w) (members_in r.epochs 0) i inside in
          in_any (λ k. k == i) (members_in r.epochs 0) i there (eq-eqb i i refl)

      belongs : (i : ℕ) → In i (voters r w) → is_member r.epochs (vote_epoch v) i ≡ true
      belongs i inside =
          subst (λ e. is_member r.epochs e i ≡ true) (sym first) (in_first i inside)

      each_sent : (i : ℕ) → In i (voters r w) → IsSent w i (to_all (Message.Vote i v))
      each_sent i inside =
          let (within, is) = filter_from (is_honest w) (members_in r.epochs 0) i inside in
          let (m, there) = honest_there w i is in
          sent i m there (in_first i inside)

      enough_for : quorum (size r.epochs (vote_epoch v)) ≤ length (voters r w)
      enough_for =
          subst (λ e. quorum (size r.epochs e) ≤ length (voters r w)) (sym first)
          (voters_enough r script w cluster clear)

      noted : (x : ℕ) (xs : List ℕ) → voters r w ≡ x ∷ xs
          → Leads w (IsGivenVotes j n (voters r w)) → Leads w (HasIt j)
      noted x xs same (inr clash) = inr clash
      noted x xs same (inl g) =
          inl (record {
            world = g.world;
            way = g.way;
            holds = (
              g.holds.member,
              g.holds.there,
              quorum_noted r j v g.holds.member (voters r w) x cluster.rising
                  (subst (λ ys. NoneAfter r j v ys n g.holds.member) same g.holds.owes) rise
                  (subst (In x) (sym same) (inl refl)) belongs enough_for g.holds.came,
            );
          })

      by_voters : (xs : List ℕ) → voters r w ≡ xs
          → quorum (size r.epochs 0) ≤ length (voters r w) → Leads w (HasIt j)
      by_voters [] same enough =
          let e = ap (λ (ys : List ℕ). length ys) same in
          absurd (omega (arith, enough, e, cluster.enough 0))
      by_voters (x ∷ xs) same enough =
          noted x xs same
          (all_given j (voters r w) script w cluster clear n at live
          (λ y inside. absurd (subst (λ z. In y z.ballots) nothing inside)) belongs each_sent)

  -- a member comes to a certificate of the vote
  pub one_told : (script : List Line) (w : World) → IsCluster r script → ReachesClear r script w
      → AreSent w → (j : ℕ) (n : Member) → member_at w j ≡ Some n → Leads w (HasIt j)
  one_told script w cluster clear sent j n at =
      goes_then r payload (IsThat v) w (Idles r payload w j n) (HasIt j)
      (goes_weaker r payload NoVote (IsThat v) (λ x h. absurd h) w (Idles r payload w j n)
      (inl (restart_way r payload script w cluster clear j n at)))
      next
    where
      next : (u : World) → Way r w payload (IsThat v) u → Idles r payload w j n u
          → Leads u (HasIt j)
      next u way k =
          idle_told way.path.script u way.path.cluster way.path.clear (sent_later w u way sent) j
          k.fresh.member k.fresh.there k.fresh.live k.fresh.nothing
