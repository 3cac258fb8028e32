-- In one epoch without end all honest members come from view to view.
use Rattle.std.proofs.Common.{◌≡◌, ℕ, zero, suc, ◌+◌, ◌-◌, ◌<◌, ◌≤◌, ◌^◌, Bool, true, false, ◌&&◌, ◌==◌, cond, count_by, is_none, is_some, nat_le, nat_lt, List, [], ◌∷◌, Option, Some, None, filter, filter_map, length, option_and_then, option_map, slice_get, refl, sym, ◌∙◌, ap, subst, inl, inr, ◌⊎◌, arith, eq-eqb}
use Rattle.std.specs.List.{AllByRecursion, list_any}
use Rattle.std.specs.Option.{option_map_or}
use Rattle.std.proofs.lemmas.Bool.{and_from, cases_Bool, cases_eq, cond-true, cond-false, false≢true, lt-ltb, or_right}
use Rattle.std.proofs.lemmas.Option.{same_Some}
use Rattle.cw_types.specs.declared.event.Event.{Event}
use Rattle.cw_types.specs.declared.message.Message.{Message}
use Rattle.cw_types.specs.declared.note.Note.{Note}
use Rattle.cw_types.specs.declared.vote.Proposal.{Proposal}
use Rattle.cw_types.specs.declared.vote.Vote.{Vote}
use Rattle.cw_types.specs.declared.vote.Vote.TheVariants.{Finalize, Notarize, Nullify}
use Rattle.cw_types.specs.Block.{Block}
use Rattle.cw_types.specs.Epochs.{is_member, members_in, rises_from, size}
use Rattle.cw_types.specs.Numbers.{quorum}
use Rattle.cw_types.specs.Votes.{vote_epoch, well_formed}
use Rattle.cw_rules.specs.Accepted.{Ballot, Single}
use Rattle.cw_rules.specs.Notes.{ended, ended_by, epoch_of, has_cert, has_vote, view_of}
use Rattle.cw_rules.specs.Owed.{ballot_vote, is_single}
use Rattle.cw_rules.specs.Reached.{In, IsCluster, ReachesClear, members_of}
use Rattle.cw_rules.specs.Rules.{Rules}
use Rattle.cw_rules.specs.Sends.{to_all}
use Rattle.cw_rules.specs.Stands.{is_faulty_at}
use Rattle.cw_rules.specs.Step.{Member, Stepped, member_notes, nothing_came, step}
use Rattle.cw_rules.specs.World.{Ask, Do, Line, Sent, World, event_of, is_to, member_at, signed, with_done}
use Rattle.cw_rules.proofs.Lists.{count-cons, counts_as, filter_rises}
use Rattle.cw_rules.proofs.Worlds.{get-map, length-mapped}
use Rattle.cw_progress.specs.Going.{helps, is_ballot}
use Rattle.cw_progress.specs.Over.{ComesToClash}
use Rattle.cw_progress.specs.Sent.{IsSent}
use Rattle.cw_progress.proofs.Ends.{cert_note, ends_here, member_is}
use Rattle.cw_progress.proofs.Latest.{Ready, epoch_first, one_on, ready_on}
use Rattle.cw_progress.proofs.Noted.{noted_sent}
use Rattle.cw_progress.proofs.OneView.{AreIn, AreUp, all_to, numbered, numbers, up_there}
use Rattle.cw_progress.proofs.Outs.{filter_from, mapped_in}
use Rattle.cw_progress.proofs.Over.{member_done}
use Rattle.cw_progress.proofs.Paths.{clear_reaches, clear_world}
use Rattle.cw_progress.proofs.Quiet.{AreOf, IsBy, came_of}
use Rattle.cw_progress.proofs.Quorum.{NoneAfter, OwesNone, any_in, in_any, quorum_noted, single_taken, step_none}
use Rattle.cw_progress.proofs.Taken.{ballots_stay}
use Rattle.cw_progress.proofs.Timeouts.{voter_votes}
use Rattle.cw_progress.proofs.Tops.{in_greatest}
use Rattle.cw_progress.proofs.Turns.{Idles, restart_way, sent_on, turn_way}
use Rattle.cw_progress.proofs.Valid.{sent_signs, vote_in}
use Rattle.cw_progress.proofs.Voting.{other_same}
use Rattle.cw_progress.proofs.Ways.{Goes, NoVote, Way, goes_then, goes_weaker, way_here, way_on, way_weaker}

-- ---- a quorum of honest members

pub get_some : {X : Type 0} (xs : List X) (i : ℕ) → i < length xs
    → (x : X) × (slice_get xs i ≡ Some x)
get_some [] i lt = absurd (omega (arith, lt))
get_some (x ∷ xs) zero lt = (x, refl)
get_some (x ∷ xs) (suc i) lt = get_some xs i (omega (arith, lt))

count_one : (p : ℕ → Bool) (i : ℕ) (is : List ℕ) → p i ≡ true
    → count_by p (i ∷ is) ≡ 1 + count_by p is
unfolding counts_as
count_one p i is h = count-cons p i is ∙ ap (λ b. counts_as b + count_by p is) h

count_later : (p : ℕ → Bool) (i : ℕ) (is : List ℕ) → count_by p is ≤ count_by p (i ∷ is)
count_later p i is = let e = count-cons p i is in omega (arith, e)

-- the member is honest
abbrev pub is_honest : World → ℕ → Bool
is_honest w i = is_some (member_at w i)

pub honest_there : (w : World) (i : ℕ) → is_honest w i ≡ true
    → (m : Member) × (member_at w i ≡ Some m)
honest_there w i h = go (member_at w i) refl h
  where
    go : (o : Option Member) → member_at w i ≡ o → is_some o ≡ true
        → (m : Member) × (member_at w i ≡ Some m)
    go None e t = absurd (false≢true t)
    go (Some m) e t = (m, e)

honest_many : (w : World) (xs : List ℕ) → AllByRecursion (λ i. i < length w.members) xs
    → length xs ≤ length (filter (is_honest w) xs) + count_by (is_faulty_at (members_of w)) xs
honest_many w [] a = omega arith
honest_many w (x ∷ xs) a = go (get_some w.members x a.0) (honest_many w xs a.1)
  where
    fault : ℕ → Bool
    fault = is_faulty_at (members_of w)

    by_none : slice_get w.members x ≡ Some None
        → length xs ≤ length (filter (is_honest w) xs) + count_by fault xs
        → length (x ∷ xs) ≤ length (filter (is_honest w) (x ∷ xs)) + count_by fault (x ∷ xs)
    by_none e later =
        let is : fault x ≡ true =
        ap (λ o. option_map_or is_none o false)
        (get-map (option_map member_notes) w.members x None e) in
        let other : is_honest w x ≡ false =
        ap (λ o. is_some (option_and_then (λ (y : Option Member). y) o)) e in
        omega (
          arith,
          later,
          count_one fault x xs is,
          ap (λ (ys : List ℕ). length ys)
              (cond-false (is_honest w x) (x ∷ filter (is_honest w) xs) (filter (is_honest w) xs)
              other),
        )

    by_some : (m : Member) → slice_get w.members x ≡ Some (Some m)
        → length xs ≤ length (filter (is_honest w) xs) + count_by fault xs
        → length (x ∷ xs) ≤ length (filter (is_honest w) (x ∷ xs)) + count_by fault (x ∷ xs)
    by_some m e later =
        let is : is_honest w x ≡ true = ap is_some (member_is w x m e) in
        omega (
          arith,
          later,
          count_later fault x xs,
          ap (λ (ys : List ℕ). length ys)
              (cond-true (is_honest w x) (x ∷ filter (is_honest w) xs) (filter (is_honest w) xs)
              is),
        )

    go : ((o : Option Member) × (slice_get w.members x ≡ Some o))
        → length xs ≤ length (filter (is_honest w) xs) + count_by fault xs
        → length (x ∷ xs) ≤ length (filter (is_honest w) (x ∷ xs)) + count_by fault (x ∷ xs)
    go (None, e) later = by_none e later
    go (Some m, e) later = by_some m e later

-- the honest members of the first epoch
abbrev pub voters : Rules → World → List ℕ
voters r w = filter (is_honest w) (members_in r.epochs 0)

below_all : (low high : ℕ) → low ≤ high → (xs : List ℕ) → AllByRecursion (λ i. i < low) xs
    → AllByRecursion (λ i. i < high) xs
below_all low high le [] a = tt
below_all low high le (x ∷ xs) a = (omega (arith, a.0, le), below_all low high le xs a.1)

pub voters_enough : (r : Rules) (script : List Line) (w : World) → IsCluster r script
    → ReachesClear r script w → quorum (size r.epochs 0) ≤ length (voters r w)
voters_enough r script w cluster clear =
    let kept = (clear_world r script w cluster clear).0 in
    let total = kept.total in
    let same = length-mapped (option_map member_notes) w.members in
    let low : r.epochs.total ≤ length w.members = omega (arith, total, same) in
    omega (
      arith,
      honest_many w (members_in r.epochs 0)
          (below_all r.epochs.total (length w.members) low (members_in r.epochs 0)
          (cluster.there 0)),
      kept.few 0,
    )

-- ---- rounds

-- the vote to nullify this view
abbrev pub IsNull : ℕ → Vote → Type 0
IsNull view v = v ≡ Nullify 0 view

-- the vote to nullify a view below
abbrev pub IsNullBelow : ℕ → Vote → Type 0
IsNullBelow top v = (x : ℕ) × (x < top) × (v ≡ Nullify 0 x)

-- such a vote of somebody
abbrev IsNullOf : ℕ → Ballot → Type 0
IsNullOf view x = (i : ℕ) × (x ≡ Single i (Nullify 0 view))

module _ (r : Rules) (none : r.epochs.span ≡ None) (payload : List ℕ) where
  abbrev pub Brings : (Vote → Type 0) → World → (World → Type 0) → Type 0
  Brings New w P = Goes r w payload New P ⊎ ComesToClash r w (helps w payload)

  pub here_way : (New : Vote → Type 0) (script : List Line) (w : World) → IsCluster r script
      → ReachesClear r script w → (P : World → Type 0) → P w → Brings New w P
  here_way New script w cluster clear P h =
      inl (record {
        world = w;
        way = way_here r payload New script w cluster clear;
        holds = h;
      })

  -- ---- all started again

  abbrev pub IsIdle : Member → Type 0
  IsIdle n = (n.live ≡ true) × (n.came ≡ nothing_came)

  abbrev pub AreIdle : List ℕ → World → Type 0
  AreIdle xs u = (j : ℕ) → In j xs → (n : Member) → member_at u j ≡ Some n → IsIdle n

  -- all are in the view, and these have been started again
  abbrev pub AreIdleIn : ℕ → List ℕ → World → Type 0
  AreIdleIn view xs u = AreIdle xs u × AreIn r none payload view u

  idle_on : (view : ℕ) (x : ℕ) (xs : List ℕ) (w : World) (n : Member) → member_at w x ≡ Some n
      → AreIdleIn view xs w → (u : World) → Idles r payload w x n u → AreIdleIn view (x ∷ xs) u
  idle_on view x xs w n at h u k = (idle, still)
    where
      own : (m : Member) → member_at u x ≡ Some m → k.fresh.member ≡ m
      own m there = same_Some k.fresh.member m (sym k.fresh.there ∙ there)

      own_idle : (m : Member) → k.fresh.member ≡ m → IsIdle m
      own_idle m one =
          subst (λ (q : Member). IsIdle q) one (k.fresh.live, k.fresh.nothing)

      by_place : (j : ℕ) → In j xs → (m : Member) → member_at u j ≡ Some m
          → (x ≡ j) ⊎ (x ≡ j → ⊥) → IsIdle m
      by_place j inside m there (inl same) =
          own_idle m (own m (ap (member_at u) same ∙ there))
      by_place j inside m there (inr d) = h.0 j inside m (sym (k.others j d) ∙ there)

      idle : (j : ℕ) → In j (x ∷ xs) → (m : Member) → member_at u j ≡ Some m → IsIdle m
      idle j (inl same) m there = own_idle m (own m (ap (member_at u) (sym same) ∙ there))
      idle j (inr inside) m there = by_place j inside m there (cases_eq x j)

      by_view : (j : ℕ) (m : Member) → member_at u j ≡ Some m → (x ≡ j) ⊎ (x ≡ j → ⊥)
          → view_of (member_notes m) 0 ≡ view
      by_view j m there (inl same) =
          let one = own m (ap (member_at u) same ∙ there) in
          ap (λ (q : Member). view_of (member_notes q) 0) (sym one)
          ∙ (ap (λ ns. view_of ns 0) k.fresh.same ∙ h.1 x n at)
      by_view j m there (inr d) = h.1 j m (sym (k.others j d) ∙ there)

      still : (j : ℕ) (m : Member) → member_at u j ≡ Some m → view_of (member_notes m) 0 ≡ view
      still j m there = by_view j m there (cases_eq x j)

  abbrev pub AllIdle : ℕ → List ℕ → Type 0
  AllIdle view xs =
      (script : List Line) (w : World) → IsCluster r script → ReachesClear r script w
      → AreIn r none payload view w → Brings NoVote w (AreIdleIn view xs)

  pub all_idle : (view : ℕ) (xs : List ℕ) → AllIdle view xs
  all_idle view [] script w cluster clear h =
      here_way NoVote script w cluster clear (AreIdleIn view []) ((λ j inside n at. absurd inside), h)
  all_idle view (x ∷ xs) script w cluster clear h =
      goes_then r payload NoVote w (AreIdleIn view xs) (AreIdleIn view (x ∷ xs))
      (all_idle view xs script w cluster clear h) next
    where
      next : (u : World) → Way r w payload NoVote u → AreIdleIn view xs u
          → Brings NoVote u (AreIdleIn view (x ∷ xs))
      next u way k = by_there (member_at u x) refl
        where
          skip : member_at u x ≡ None → (j : ℕ) → In j (x ∷ xs) → (m : Member)
              → member_at u j ≡ Some m → IsIdle m
          skip e j (inl same) m there =
              let y : ◌≡◌ {A = Option Member} None (Some m) =
              sym e ∙ (ap (member_at u) (sym same) ∙ there) in
              absurd (cc y)
          skip e j (inr inside) m there = k.0 j inside m there

          started : (n : Member) → member_at u x ≡ Some n
              → Goes r u payload NoVote (Idles r payload u x n)
              → Brings NoVote u (AreIdleIn view (x ∷ xs))
          started n e g =
              inl (record {
                world = g.world;
                way = g.way;
                holds = idle_on view x xs u n e k g.world g.holds;
              })

          by_there : (o : Option Member) → member_at u x ≡ o
              → Brings NoVote u (AreIdleIn view (x ∷ xs))
          by_there None e =
              here_way NoVote way.path.script u way.path.cluster way.path.clear
              (AreIdleIn view (x ∷ xs)) (skip e, k.1)
          by_there (Some n) e =
              started n e
              (restart_way r payload way.path.script u way.path.cluster way.path.clear x n e)

  -- ---- the view ends

  module _ (view : ℕ) (pos : 0 < view) (room : view < 2 ^ 64 - 1) where
    unproposed : (i : ℕ) (p : Proposal) → IsNullOf view (Single i (Notarize p)) → ⊥
    unproposed i p (k, e) =
        let f : Notarize p ≡ Nullify 0 view = ap ballot_vote e in cc f

    nulls : (v : Vote) → IsBy (IsNullOf view) v → IsNull view v
    nulls v (x, (i, e), same) = sym same ∙ ap ballot_vote e

    -- the member is idle, and is in the view or has voted to nullify it
    abbrev IsTimed : Member → Type 0
    IsTimed n =
        IsIdle n
        × ((has_vote (member_notes n) (Nullify 0 view) ≡ true)
        ⊎ (view_of (member_notes n) 0 ≡ view))

    -- all are, and those of these numbers that are members have voted so
    abbrev AreTimed : List ℕ → World → Type 0
    AreTimed xs u =
        ((j : ℕ) (n : Member) → member_at u j ≡ Some n → IsTimed n)
        × ((j : ℕ) → In j xs → is_member r.epochs 0 j ≡ true → (n : Member)
        → member_at u j ≡ Some n → has_vote (member_notes n) (Nullify 0 view) ≡ true)

    timed_on : (x : ℕ) (xs : List ℕ) (w : World) (n : Member) → member_at w x ≡ Some n
        → AreTimed xs w → (done : Stepped) → IsIdle done.member
        → has_vote (member_notes done.member) (Nullify 0 view) ≡ true → (u : World)
        → ((m : Member) → member_at u x ≡ Some m → done.member ≡ m)
        → ((k : ℕ) → (x ≡ k → ⊥) → member_at u k ≡ member_at w k) → AreTimed (x ∷ xs) u
    timed_on x xs w n at h done idle voted u own others = (timed, each)
      where
        by_timed : (j : ℕ) (m : Member) → member_at u j ≡ Some m → (x ≡ j) ⊎ (x ≡ j → ⊥)
            → IsTimed m
        by_timed j m there (inl same) =
            subst (λ (q : Member). IsTimed q) (own m (ap (member_at u) same ∙ there))
            (idle, inl voted)
        by_timed j m there (inr d) = h.0 j m (sym (others j d) ∙ there)

        timed : (j : ℕ) (m : Member) → member_at u j ≡ Some m → IsTimed m
        timed j m there = by_timed j m there (cases_eq x j)

        by_each : (j : ℕ) → In j xs → is_member r.epochs 0 j ≡ true → (m : Member)
            → member_at u j ≡ Some m → (x ≡ j) ⊎ (x ≡ j → ⊥)
            → has_vote (member_notes m) (Nullify 0 view) ≡ true
        by_each j inside is m there (inl same) =
            subst (λ (q : Member). has_vote (member_notes q) (Nullify 0 view) ≡ true)
            (own m (ap (member_at u) same ∙ there)) voted
        by_each j inside is m there (inr d) =
            h.1 j inside is m (sym (others j d) ∙ there)

        each : (j : ℕ) → In j (x ∷ xs) → is_member r.epochs 0 j ≡ true → (m : Member)
            → member_at u j ≡ Some m → has_vote (member_notes m) (Nullify 0 view) ≡ true
        each j (inl same) is m there =
            subst (λ (q : Member). has_vote (member_notes q) (Nullify 0 view) ≡ true)
            (own m (ap (member_at u) (sym same) ∙ there)) voted
        each j (inr inside) is m there = by_each j inside is m there (cases_eq x j)

    abbrev AllTimed : List ℕ → Type 0
    AllTimed xs =
        (script : List Line) (w : World) → IsCluster r script → ReachesClear r script w
        → ((j : ℕ) (n : Member) → member_at w j ≡ Some n → IsTimed n)
        → Brings (IsNull view) w (AreTimed xs)

    all_timed : (xs : List ℕ) → AllTimed xs
    all_timed [] script w cluster clear h =
        here_way (IsNull view) script w cluster clear (AreTimed [])
        (h, λ j inside is n at. absurd inside)
    all_timed (x ∷ xs) script w cluster clear h =
        goes_then r payload (IsNull view) w (AreTimed xs) (AreTimed (x ∷ xs))
        (all_timed xs script w cluster clear h) next
      where
        next : (u : World) → Way r w payload (IsNull view) u → AreTimed xs u
            → Brings (IsNull view) u (AreTimed (x ∷ xs))
        next u way k =
            by_there (member_at u x) refl (cases_Bool (is_member r.epochs 0 x))
          where
            skip : ((n : Member) → member_at u x ≡ Some n → is_member r.epochs 0 x ≡ true
                → has_vote (member_notes n) (Nullify 0 view) ≡ true)
                → (j : ℕ) → In j (x ∷ xs) → is_member r.epochs 0 j ≡ true → (m : Member)
                → member_at u j ≡ Some m → has_vote (member_notes m) (Nullify 0 view) ≡ true
            skip e j (inl same) is m there =
                e m (ap (member_at u) (sym same) ∙ there)
                (ap (is_member r.epochs 0) (sym same) ∙ is)
            skip e j (inr inside) is m there = k.1 j inside is m there

            skipped : ((n : Member) → member_at u x ≡ Some n → is_member r.epochs 0 x ≡ true
                → has_vote (member_notes n) (Nullify 0 view) ≡ true)
                → Brings (IsNull view) u (AreTimed (x ∷ xs))
            skipped e =
                here_way (IsNull view) way.path.script u way.path.cluster way.path.clear
                (AreTimed (x ∷ xs)) (k.0, skip e)

            timeout : (n : Member) → member_at u x ≡ Some n → is_member r.epochs 0 x ≡ true
                → IsIdle n → view_of (member_notes n) 0 ≡ view
                → Brings (IsNull view) u (AreTimed (x ∷ xs))
            timeout n e is idle in_view =
                land
                (turn_way r payload (IsNullOf view) (IsNull view) unproposed nulls
                way.path.script u way.path.cluster way.path.clear x n e idle.0
                (Ask.Timeout view) (Event.Timeout view) refl refl (λ p. p) (λ h f. cc f)
                (λ v f. timed v f)
                (λ y inside. absurd (subst (λ z. In y z.ballots) idle.1 inside)))
              where
                done : Stepped
                done = step r x (signed u) n (Event.Timeout view)

                first : epoch_of (member_notes n) ≡ 0
                first =
                    epoch_first r none way.path.script u way.path.cluster way.path.clear x n e

                timed : (v : ℕ) → Event.Timeout view ≡ Event.Timeout v
                    → IsNull view (Nullify (epoch_of (member_notes n)) v)
                timed v f =
                    let same : view ≡ v = cc f in
                    ap (λ y. Nullify y v) first ∙ ap (λ y. Nullify 0 y) (sym same)

                voted : has_vote (member_notes done.member) (Nullify 0 view) ≡ true
                voted =
                    voter_votes r 0 view room way.path.script u way.path.cluster
                    (clear_reaches r way.path.script u way.path.clear) x
                    (record {
                      member = n;
                      there = e;
                      live = idle.0;
                      belongs = is;
                      epoch_is = first;
                      view_is = in_view;
                    })

                own : (v : World) → v ≡ with_done u x done → (m : Member)
                    → member_at v x ≡ Some m → done.member ≡ m
                own v same m there =
                    same_Some done.member m
                    (sym (member_done u x n done e) ∙ (ap (λ z. member_at z x) (sym same) ∙ there))

                land : Brings (IsNull view) u (λ v. v ≡ with_done u x done)
                    → Brings (IsNull view) u (AreTimed (x ∷ xs))
                land (inr clash) = inr clash
                land (inl g) =
                    inl (record {
                      world = g.world;
                      way = g.way;
                      holds =
                          timed_on x xs u n e k done (refl, idle.1) voted g.world
                          (own g.world g.holds)
                          (λ z d. ap (λ v. member_at v z) g.holds
                          ∙ other_same u x done z d);
                    })

            by_timed : (n : Member) → member_at u x ≡ Some n → is_member r.epochs 0 x ≡ true
                → IsTimed n → Brings (IsNull view) u (AreTimed (x ∷ xs))
            by_timed n e is (idle, inl voted) =
                skipped
                (λ m there f. subst
                (λ (q : Member). has_vote (member_notes q) (Nullify 0 view) ≡ true)
                (same_Some n m (sym e ∙ there)) voted)
            by_timed n e is (idle, inr in_view) = timeout n e is idle in_view

            by_there : (o : Option Member) → member_at u x ≡ o
                → (is_member r.epochs 0 x ≡ true) ⊎ (is_member r.epochs 0 x ≡ false)
                → Brings (IsNull view) u (AreTimed (x ∷ xs))
            by_there None e is =
                skipped
                (λ n there f.
                let y : ◌≡◌ {A = Option Member} None (Some n) = sym e ∙ there in absurd (cc y))
            by_there (Some n) e (inr f) =
                skipped (λ m there is. absurd (false≢true (sym f ∙ is)))
            by_there (Some n) e (inl is) = by_timed n e is (k.0 x n e)

    -- ---- the votes come to one member

    record IsGivenVotes (j : ℕ) (n : Member) (xs : List ℕ) (u : World) : Type 0 where
      member : Member
      there : member_at u j ≡ Some member
      live : member.live ≡ true
      owes : NoneAfter r j (Nullify 0 view) xs n member
      came : (i : ℕ) → In i xs
          → list_any (is_single i (Nullify 0 view)) member.came.ballots ≡ true
      stays : (b : Ballot) → In b n.came.ballots → In b member.came.ballots

    abbrev AllGiven : ℕ → List ℕ → Type 0
    AllGiven j xs =
        (script : List Line) (w : World) → IsCluster r script → ReachesClear r script w
        → (n : Member) → member_at w j ≡ Some n → n.live ≡ true → AreOf (IsNullOf view) n.came
        → ((i : ℕ) → In i xs → is_member r.epochs 0 i ≡ true)
        → ((i : ℕ) → In i xs → IsSent w i (to_all (Message.Vote i (Nullify 0 view))))
        → Brings (IsNull view) w (IsGivenVotes j n xs)

    formed : well_formed (Nullify 0 view) ≡ true
    formed =
        and_from (nat_lt 0 view) (nat_lt view (2 ^ 64 - 1)) (lt-ltb 0 view pos)
        (lt-ltb view (2 ^ 64 - 1) room)

    all_given : (j : ℕ) (xs : List ℕ) → AllGiven j xs
    all_given j [] script w cluster clear n at live are members sent =
        here_way (IsNull view) script w cluster clear (IsGivenVotes j n [])
        (record {
          member = n;
          there = at;
          live = live;
          owes = λ h. h;
          came = λ i h. absurd h;
          stays = λ b h. h;
        })
    all_given j (x ∷ xs) script w cluster clear n at live are members sent =
        goes_then r payload (IsNull view) w (λ u. u ≡ with_done w j done)
        (IsGivenVotes j n (x ∷ xs))
        (turn_way r payload (IsNullOf view) (IsNull view) unproposed nulls script w cluster clear
        j n at live (Ask.Deliver it.number) e asked fits (λ p. p) (λ h f. cc f) (λ v f. cc f) came)
        (next (all_given j xs))
      where
        v : Vote
        v = Nullify 0 view

        e : Event
        e = Event.Deliver (Message.Vote x v)

        done : Stepped
        done = step r j (signed w) n e

        it : IsSent w x (to_all (Message.Vote x v))
        it = sent x (inl refl)

        asked : event_of w j (Ask.Deliver it.number) ≡ Some e
        asked =
            ap (option_map Event.Deliver)
            (ap
            (option_and_then
            (λ (s : Sent). cond (is_to j s.to) (Some s.message) None))
            it.there
            ∙ (ap (λ t. cond (is_to j t) (Some it.sent.message) None) it.to
            ∙ ap (λ m. Some m) it.message))

        ballot : option_map_or (λ (s : Sent). is_ballot s.message) (slice_get w.pool it.number)
            false
            ≡ true
        ballot =
            ap (λ o. option_map_or (λ (s : Sent). is_ballot s.message) o false) it.there
            ∙ ap is_ballot it.message

        fits : helps w payload (Do j (Ask.Deliver it.number)) ≡ true
        fits =
            or_right (nat_le (length w.pool) it.number)
            (option_map_or (λ (s : Sent). is_ballot s.message) (slice_get w.pool it.number) false)
            ballot

        came : AreOf (IsNullOf view) done.member.came
        came =
            came_of (IsNullOf view) r (signed w) n.came (Message.Vote x v) are (x, refl)

        accepted : (is_member r.epochs (vote_epoch v) x && well_formed v && signed w x v) ≡ true
        accepted =
            and_from (is_member r.epochs (vote_epoch v) x && well_formed v) (signed w x v)
            (and_from (is_member r.epochs (vote_epoch v) x) (well_formed v)
            (members x (inl refl)) formed)
            (sent_signs w x v it)

        here : list_any (is_single x v) done.member.came.ballots ≡ true
        here =
            single_taken n.came
            (is_member r.epochs (vote_epoch v) x && well_formed v && signed w x v) x v accepted

        none_all : (ys : List ℕ) (after : Member) → NoneAfter r j v ys done.member after
            → OwesNone r j v after
        none_all [] after h = h (step_none r j v (signed w) n e)
        none_all (y ∷ ys) after h = h

        joined : (u : World) → IsGivenVotes j done.member xs u → IsGivenVotes j n (x ∷ xs) u
        joined u g = record {
          member = g.member;
          there = g.there;
          live = g.live;
          owes = none_all xs g.member g.owes;
          came = λ i h. by_place i h;
          stays = λ b h. g.stays b (ballots_stay r (signed w) n.came e b h);
        }
          where
            by_place : (i : ℕ) → (i ≡ x) ⊎ In i xs
                → list_any (is_single i v) g.member.came.ballots ≡ true
            by_place i (inl s) =
                subst (λ y. list_any (is_single y v) g.member.came.ballots ≡ true) (sym s)
                (let (b, there, f) = any_in (is_single x v) done.member.came.ballots here in
                in_any (is_single x v) g.member.came.ballots b (g.stays b there) f)
            by_place i (inr h) = g.came i h

        next : AllGiven j xs → (u : World) → Way r w payload (IsNull view) u
            → u ≡ with_done w j done → Brings (IsNull view) u (IsGivenVotes j n (x ∷ xs))
        next later u way same =
            land
            (later way.path.script u way.path.cluster way.path.clear done.member
            (ap (λ z. member_at z j) same ∙ member_done w j n done at) refl came
            (λ i h. members i (inr h))
            (λ i h. sent_on w u way.more way.pool i (to_all (Message.Vote i v)) (sent i (inr h))))
          where
            land : Brings (IsNull view) u (IsGivenVotes j done.member xs)
                → Brings (IsNull view) u (IsGivenVotes j n (x ∷ xs))
            land (inr clash) = inr clash
            land (inl g) =
                inl (record { world = g.world; way = g.way; holds = joined g.world g.holds })

    -- ---- the round

    abbrev Told : World → Type 0
    Told u =
        (j : ℕ) × (n : Member) × (member_at u j ≡ Some n)
        × (has_cert (member_notes n) (Nullify 0 view) ≡ true)

    -- some honest member comes to a nullification
    told_null : (script : List Line) (w : World) → IsCluster r script → ReachesClear r script w
        → AreTimed (voters r w) w → Brings (IsNull view) w Told
    told_null script w cluster clear h =
        by_voters (voters r w) refl (voters_enough r script w cluster clear)
      where
        rise : rises_from 0 (voters r w) ≡ true
        rise = filter_rises (is_honest w) 0 (members_in r.epochs 0) (cluster.rising 0)

        belongs : (i : ℕ) → In i (voters r w) → is_member r.epochs 0 i ≡ true
        belongs i inside =
            let (there, is) = filter_from (is_honest w) (members_in r.epochs 0) i inside in
            in_any (λ j. j == i) (members_in r.epochs 0) i there (eq-eqb i i refl)

        sent : (i : ℕ) → In i (voters r w)
            → IsSent w i (to_all (Message.Vote i (Nullify 0 view)))
        sent i inside =
            let (within, is) = filter_from (is_honest w) (members_in r.epochs 0) i inside in
            let (n, at) = honest_there w i is in
            noted_sent r script w cluster (clear_reaches r script w clear) i n at (h.0 i n at).0.0
            (Note.Vote (Nullify 0 view)) (Message.Vote i (Nullify 0 view)) refl
            (vote_in (Nullify 0 view) (member_notes n) (h.1 i inside (belongs i inside) n at))

        noted : (x : ℕ) → In x (voters r w) → (n : Member) → member_at w x ≡ Some n
            → (xs : List ℕ) → voters r w ≡ x ∷ xs → Brings (IsNull view) w (IsGivenVotes x n (voters r w))
            → Brings (IsNull view) w Told
        noted x first n at xs same (inr clash) = inr clash
        noted x first n at xs same (inl g) =
            inl (record {
              world = g.world;
              way = g.way;
              holds = (
                x,
                g.holds.member,
                g.holds.there,
                quorum_noted r x (Nullify 0 view) g.holds.member (voters r w) x cluster.rising
                    (subst (λ ys. NoneAfter r x (Nullify 0 view) ys n g.holds.member) same
                    g.holds.owes)
                    rise first belongs (voters_enough r script w cluster clear) g.holds.came,
              );
            })

        by_voters : (xs : List ℕ) → voters r w ≡ xs → quorum (size r.epochs 0) ≤ length (voters r w)
            → Brings (IsNull view) w Told
        by_voters [] same enough =
            let e = ap (λ (ys : List ℕ). length ys) same in
            absurd (omega (arith, enough, e, cluster.enough 0))
        by_voters (x ∷ xs) same enough =
            let first : In x (voters r w) = subst (In x) (sym same) (inl refl) in
            let (within, is) = filter_from (is_honest w) (members_in r.epochs 0) x first in
            let (n, at) = honest_there w x is in
            let idle = (h.0 x n at).0 in
            noted x first n at xs same
            (all_given x (voters r w) script w cluster clear n at idle.0
            (λ y inside. absurd (subst (λ z. In y z.ballots) idle.1 inside)) belongs sent)

    never_final : (p : Proposal) → IsNull view (Finalize p) → ⊥
    never_final p e = cc e

    never_notarize : (q : Proposal) → IsNull view (Notarize q) → ⊥
    never_notarize q e = cc e

    null_ends : (v : Vote) → IsNull view v → (x : ℕ) → ended_by 0 v ≡ Some x → x ≤ view
    null_ends v is x e =
        let f : Some view ≡ Some x = ap (ended_by 0) (sym is) ∙ e in
        let same : view ≡ x = same_Some view x f in
        omega (arith, same)

    -- all honest members come one view on
    round : (script : List Line) (w : World) → IsCluster r script → ReachesClear r script w
        → (fin : ℕ) (a : Block) → Ready r w fin a → AreIn r none payload view w
        → Brings (IsNull view) w (AreIn r none payload (view + 1))
    round script w cluster clear fin a ready here =
        goes_then r payload (IsNull view) w (AreIdleIn view (numbers w))
        (AreIn r none payload (view + 1))
        (goes_weaker r payload NoVote (IsNull view) (λ v h. absurd h) w
        (AreIdleIn view (numbers w)) (all_idle view (numbers w) script w cluster clear here))
        by_idle
      where
        -- nobody comes further
        no_further : (u : World) → Way r w payload (IsNull view) u → (j : ℕ) (n : Member)
            → member_at u j ≡ Some n → view_of (member_notes n) 0 ≤ view + 1
        no_further =
            one_on r none script w cluster clear view pos
            (λ i m at. let e = here i m at in omega (arith, e)) payload (IsNull view)
            (λ q e. absurd (never_notarize q e)) null_ends

        by_told : (u : World) → Way r w payload (IsNull view) u → Told u
            → Brings (IsNull view) u (AreIn r none payload (view + 1))
        by_told u way (j, n, at, cert) =
            land
            (all_to r none payload way.path.script u way.path.cluster way.path.clear fin a
            (ready_on r w payload (IsNull view) never_final u fin a way ready) j n at)
          where
            high : view + 1 ≤ view_of (member_notes n) 0
            high =
                let (t, inside, votes) = cert_note (Nullify 0 view) (member_notes n) cert in
                omega (
                  arith,
                  in_greatest (filter_map (ended 0) (member_notes n)) view
                      (mapped_in (ended 0) (member_notes n) (Note.Cert t) view inside
                      (ap (ended_by 0) votes ∙ ends_here 0 0 view view refl refl)),
                )

            land : Brings NoVote u (AreUp r none payload (view_of (member_notes n) 0) (numbers u))
                → Brings (IsNull view) u (AreIn r none payload (view + 1))
            land (inr clash) = inr clash
            land (inl g) =
                let more = way_weaker r payload NoVote (IsNull view) (λ v h. absurd h) u g.world
                g.way in
                inl (record {
                  world = g.world;
                  way = more;
                  holds =
                      λ k m there.
                      omega (
                        arith,
                        high,
                        no_further g.world
                            (way_on r payload (IsNull view) w u g.world way more) k m there,
                        up_there r none payload (view_of (member_notes n) 0) u g.world g.way
                            g.holds k m there,
                      );
                })

        by_timed : (u : World) → Way r w payload (IsNull view) u → AreTimed (voters r u) u
            → Brings (IsNull view) u (AreIn r none payload (view + 1))
        by_timed u way h =
            goes_then r payload (IsNull view) u Told (AreIn r none payload (view + 1))
            (told_null way.path.script u way.path.cluster way.path.clear h)
            (λ v more told. by_told v (way_on r payload (IsNull view) w u v way more) told)

        by_idle : (u : World) → Way r w payload (IsNull view) u → AreIdleIn view (numbers w) u
            → Brings (IsNull view) u (AreIn r none payload (view + 1))
        by_idle u way h =
            goes_then r payload (IsNull view) u (AreTimed (numbers u))
            (AreIn r none payload (view + 1))
            (all_timed (numbers u) way.path.script u way.path.cluster way.path.clear timed)
            (λ v more k. by_timed v (way_on r payload (IsNull view) w u v way more)
            (among v more k))
          where
            timed : (j : ℕ) (n : Member) → member_at u j ≡ Some n → IsTimed n
            timed j n at = (by_back (way.back j n at), inr (h.1 j n at))
              where
                by_back : ((x : Member) × (member_at w j ≡ Some x)) → IsIdle n
                by_back (x, there) = h.0 j (numbered w j x there) n at

            among : (v : World) → Way r u payload (IsNull view) v → AreTimed (numbers u) v
                → AreTimed (voters r v) v
            among v more k = (
              k.0,
              λ j inside is n at.
                  let (x, there) = more.back j n at in k.1 j (numbered u j x there) is n at,
            )

  -- ---- later views

  abbrev pub AllLater : ℕ → ℕ → Type 0
  AllLater top more =
      (script : List Line) (w : World) → IsCluster r script → ReachesClear r script w
      → (fin : ℕ) (a : Block) → Ready r w fin a → (view : ℕ) → 0 < view
      → AreIn r none payload view w → view + more ≤ top
      → Brings (IsNullBelow top) w (AreIn r none payload (view + more))

  pub all_later : (top more : ℕ) → top < 2 ^ 64 - 1 → AllLater top more
  all_later top zero room script w cluster clear fin a ready view pos here low =
      here_way (IsNullBelow top) script w cluster clear (AreIn r none payload (view + zero))
      (λ j n at. let e = here j n at in omega (arith, e))
  all_later top (suc more) room script w cluster clear fin a ready view pos here low =
      goes_then r payload (IsNullBelow top) w (AreIn r none payload (view + 1))
      (AreIn r none payload (view + suc more))
      (goes_weaker r payload (IsNull view) (IsNullBelow top)
      (λ v e. (view, omega (arith, low), e)) w (AreIn r none payload (view + 1))
      (round view pos (omega (arith, low, room)) script w cluster clear fin a ready here))
      (next (all_later top more room))
    where
      next : AllLater top more → (u : World) → Way r w payload (IsNullBelow top) u
          → AreIn r none payload (view + 1) u
          → Brings (IsNullBelow top) u (AreIn r none payload (view + suc more))
      next later u way there =
          land
          (later way.path.script u way.path.cluster way.path.clear fin a
          (ready_on r w payload (IsNullBelow top) never u fin a way ready) (view + 1)
          (omega arith) there (omega (arith, low)))
        where
          never : (p : Proposal) → IsNullBelow top (Finalize p) → ⊥
          never p (x, lt, e) = cc e

          land : Brings (IsNullBelow top) u (AreIn r none payload (view + 1 + more))
              → Brings (IsNullBelow top) u (AreIn r none payload (view + suc more))
          land (inr clash) = inr clash
          land (inl g) =
              inl (record {
                world = g.world;
                way = g.way;
                holds = λ j n at. let e = g.holds j n at in omega (arith, e);
              })
