-- In one epoch without end a cluster that is able goes on, or twins are shown.
use Rattle.std.proofs.Common.{◌≡◌, ℕ, suc, ◌+◌, ◌-◌, ◌*◌, ◌/◌, ◌%◌, ◌<◌, ◌≤◌, ◌^◌, true, false, ◌==◌, nat_lt, List, [], ◌∷◌, ◌++◌, Option, Some, None, length, map, option_map, slice_get, unwrap_or, refl, sym, ◌∙◌, ap, subst, inl, inr, ◌⊎◌, arith, append_assoc, append-nil, div-add-mod', mod-lt, eq-eqb, lt-ltb, option_and_then, zero}
use Rattle.std.specs.List.{AllByRecursion, enumerate_from, list_all, list_any}
use Rattle.std.specs.Option.{option_map_or}
use Rattle.std.proofs.lemmas.Bool.{and_from, and_parts, cases_Bool, cases_eq, false≢true}
use Rattle.std.proofs.lemmas.Nat.{mod-mul-add}
use Rattle.std.proofs.lemmas.Option.{same_Some}
use Rattle.cw_types.specs.declared.event.Event.{Event}
use Rattle.cw_types.specs.declared.event.Handed.{Handed}
use Rattle.cw_types.specs.declared.note.Note.{Note}
use Rattle.cw_types.specs.declared.vote.Proposal.{Proposal}
use Rattle.cw_types.specs.declared.vote.Vote.{Vote}
use Rattle.cw_types.specs.declared.vote.Vote.TheVariants.{Notarize, Nullify}
use Rattle.cw_types.specs.Block.{Block}
use Rattle.cw_types.specs.Epochs.{leader, members_in, size}
use Rattle.cw_types.specs.Numbers.{quorum}
use Rattle.cw_rules.specs.Chains.{Clashes, Ends, Outcome, outcome}
use Rattle.cw_rules.specs.Coding.{IsCoder}
use Rattle.cw_rules.specs.Fits.{block_fits}
use Rattle.cw_rules.specs.Notes.{has_vote, is_vote, view_of}
use Rattle.cw_rules.specs.Owed.{closes, has_closed}
use Rattle.cw_rules.specs.Reached.{In, IsCluster, ReachesClear}
use Rattle.cw_rules.specs.Rules.{Rules}
use Rattle.cw_rules.specs.Step.{Member, Stepped, member_notes, nothing_came, step}
use Rattle.cw_rules.specs.World.{Ask, Cut, Do, Faulty, Line, Restart, Sent, World, done_by, fault_sends, happens, member_at, run, sent_now, signed, turned, with_done}
use Rattle.cw_rules.specs.declared.travel.Travel.TheVariants.{Chunked}
use Rattle.cw_rules.proofs.Lists.{all_both}
use Rattle.cw_rules.proofs.NoteLemmas.{vote_note}
use Rattle.cw_progress.specs.Going.{GoesOnTimes, can_enter, ends_able, goes_on, handed_of, helps, is_able, is_stocked, known_top, newest_epoch, numbered_members, shows_twins, twins_in}
use Rattle.cw_progress.specs.Handing.{AllHandAbove, CanHandUpTo, is_ack}
use Rattle.cw_progress.specs.Offered.{ComeToOffer, ComeToVotes, ComesToTwins, IsWelcome}
use Rattle.cw_progress.specs.Over.{ComesToClash, is_honest_line}
use Rattle.cw_progress.specs.Settling.{ComeToCertified, ComeToFinal, ComeToHold, HasCertified, IsBacker, KnowsFinal}
use Rattle.cw_progress.specs.Tops.{final_top}
use Rattle.cw_progress.specs.Views.{ComeToView, AreViewsLeft, IsInView, IsNewTo}
use Rattle.cw_progress.proofs.Able.{all_pass, single_able}
use Rattle.cw_progress.proofs.Ends.{member_is}
use Rattle.cw_progress.proofs.Further.{run_both}
use Rattle.cw_progress.proofs.Over.{member_done}
use Rattle.cw_progress.proofs.HandingAll.{all_above}
use Rattle.cw_progress.proofs.NewView.{new_view}
use Rattle.cw_progress.proofs.OneView.{BestAmong, NoneAmong, best_among, numbered, numbers}
use Rattle.cw_progress.proofs.Outs.{filter_from, mapped_from}
use Rattle.cw_progress.proofs.Paths.{Path, clear_on, clear_reaches, ends_run, outcome_both}
use Rattle.cw_progress.proofs.Quiet.{IsBy}
use Rattle.cw_progress.proofs.Quorum.{any_in, in_any}
use Rattle.cw_progress.proofs.Rounds.{Brings, here_way, honest_there, is_honest, voters, voters_enough}
use Rattle.cw_progress.proofs.SettlingCertified.{certify, top_grows}
use Rattle.cw_progress.proofs.SettlingFinal.{finalize}
use Rattle.cw_progress.proofs.SettlingHeld.{hold}
use Rattle.cw_progress.proofs.SettlingStocked.{lines_back, lines_later, stocked_stays}
use Rattle.cw_progress.proofs.SettlingViews.{near_way}
use Rattle.cw_progress.proofs.Stages.{Later, helps_honest}
use Rattle.cw_progress.proofs.Tops.{greatest_low}
use Rattle.cw_progress.proofs.Turns.{turn_way}
use Rattle.cw_progress.proofs.Voting.{other_same, turn_goes}
use Rattle.cw_progress.proofs.OfferVotes.{all_notarize}
use Rattle.cw_progress.proofs.Ways.{NoVote, all_so, goes_then, helps_before}

-- ---- a view that a member leads

place_of : (xs : List ℕ) (x : ℕ) → In x xs
    → (k : ℕ) × (k < length xs) × (slice_get xs k ≡ Some x)
place_of [] x h = absurd h
place_of (y ∷ ys) x (inl same) = (0, omega arith, ap Some (sym same))
place_of (y ∷ ys) x (inr h) =
    let (k, lt, at) = place_of ys x h in (suc k, omega (arith, lt), at)

-- each member leads in one of the views next
leads_soon : (r : Rules) (top x : ℕ) → In x (members_in r.epochs 0)
    → (view : ℕ) × (top < view) × (view ≤ top + 2 * size r.epochs 0)
    × (leader r.epochs 0 view ≡ x)
leads_soon r top x h = go (place_of (members_in r.epochs 0) x h)
  where
    n : ℕ
    n = size r.epochs 0

    go : ((k : ℕ) × (k < n) × (slice_get (members_in r.epochs 0) k ≡ Some x))
        → (view : ℕ) × (top < view) × (view ≤ top + 2 * n) × (leader r.epochs 0 view ≡ x)
    go (k, lt, at) =
        let split = div-add-mod' top n in
        let some : 0 < n = omega (arith, lt) in
        let low = mod-lt top some in
        let more : (top / n + 1) * n ≡ top / n * n + n = omega arith in
        let view = (top / n + 1) * n + k in
        let place : view % n ≡ k = mod-mul-add (top / n + 1) n k lt in (
          view,
          omega (arith, split, low, more),
          omega (arith, split, low, more, lt),
          ap (λ i. unwrap_or (slice_get (members_in r.epochs 0) i) 0) place
              ∙ ap (λ o. unwrap_or o 0) at,
        )

-- ---- honest members by number

numbered_at : (low : ℕ) (os : List (Option Member)) (i : ℕ) (o : Option Member)
    → In (i, o) (enumerate_from low os) → (k : ℕ) × (i ≡ low + k) × (slice_get os k ≡ Some o)
numbered_at low [] i o h = absurd h
numbered_at low (x ∷ xs) i o (inl e) =
    let one : i ≡ low = ap (λ (p : ℕ × Option Member). p.0) e in
    let same : o ≡ x = ap (λ (p : ℕ × Option Member). p.1) e in
    (0, omega (arith, one), ap Some (sym same))
numbered_at low (x ∷ xs) i o (inr h) =
    let (k, is, at) = numbered_at (low + 1) xs i o h in (suc k, omega (arith, is), at)

-- each stands at its number
there_at : (w : World) (at : ℕ × Member) → In at (numbered_members w)
    → member_at w at.0 ≡ Some at.1
there_at w at h = go (mapped_from pick (enumerate_from 0 w.members) at h)
  where
    pick : ℕ × Option Member → Option (ℕ × Member)
    pick x = option_map (λ m. (x.0, m)) x.1

    by_member : (i : ℕ) (o : Option Member) → In (i, o) (enumerate_from 0 w.members)
        → option_map (λ (m : Member). (i, m)) o ≡ Some at → member_at w at.0 ≡ Some at.1
    by_member i None there e = cc e
    by_member i (Some m) there e =
        let same : (i, m) ≡ at = same_Some (i, m) at e in
        let one : i ≡ at.0 = ap (λ (p : ℕ × Member). p.0) same in
        let two : m ≡ at.1 = ap (λ (p : ℕ × Member). p.1) same in
        let (k, is, slot) = numbered_at 0 w.members i (Some m) there in
        let place : k ≡ at.0 = omega (arith, is, one) in
        subst (λ j. member_at w j ≡ Some at.1) place
        (member_is w k at.1 (slot ∙ ap (λ x. Some (Some x)) two))

    go : ((x : ℕ × Option Member) × In x (enumerate_from 0 w.members) × (pick x ≡ Some at))
        → member_at w at.0 ≡ Some at.1
    go ((i, o), there, e) = by_member i o there e

from_list : {X Y : Type 0} (f : X → Y) (xs : List X) (y : Y) → In y (map f xs)
    → (x : X) × In x xs × (f x ≡ y)
from_list f [] y h = absurd h
from_list f (x ∷ xs) y (inl e) = (x, inl refl, sym e)
from_list f (x ∷ xs) y (inr h) = let (z, at, e) = from_list f xs y h in (z, inr at, e)

-- where each honest member's final block is lower, so is the highest
top_below : (r : Rules) (w : World) (high : ℕ) → 0 < high
    → ((i : ℕ) (m : Member) → member_at w i ≡ Some m → final_top r (member_notes m) < high)
    → known_top r w < high
top_below r w high pos below =
    let tops =
    map (λ (at : ℕ × Member). final_top r (member_notes at.1)) (numbered_members w) in
    let low =
    greatest_low tops (high - 1)
    (λ x h.
    let (at, inside, same) =
    from_list (λ (at : ℕ × Member). final_top r (member_notes at.1)) (numbered_members w) x h in
    let lt = below at.0 at.1 (there_at w at inside) in
    omega (arith, same, lt)) in
    omega (arith, low, pos)

-- who has closed no view hasn't voted to nullify it
closed_not : (notes : List Note) (view : ℕ) → has_closed notes 0 view ≡ false
    → has_vote notes (Nullify 0 view) ≡ false
closed_not notes view h = go (cases_Bool (has_vote notes (Nullify 0 view)))
  where
    go : (has_vote notes (Nullify 0 view) ≡ true) ⊎ (has_vote notes (Nullify 0 view) ≡ false)
        → has_vote notes (Nullify 0 view) ≡ false
    go (inr f) = f
    go (inl t) =
        let (n, inside, e) = any_in (is_vote (Nullify 0 view)) notes t in
        let is = vote_note (Nullify 0 view) n e in
        absurd
        (false≢true
        (sym h
        ∙ in_any (closes 0 view) notes (Note.Vote (Nullify 0 view))
        (subst (λ x. In x notes) is inside)
        (and_from (0 == 0) (view == view) refl (eq-eqb view view refl))))

-- ---- paths

pool_on : (r : Rules) (w : World) (line : Line)
    → (more : List Sent) × ((happens r w line).pool ≡ w.pool ++ more)
pool_on r w (Faulty a fault) = (sent_now w a (fault_sends r w a fault), refl)
pool_on r w (Do i ask) = by_done i (done_by r w (Do i ask))
  where
    by_done : (j : ℕ) (o : Option Stepped)
        → (more : List Sent) × ((option_map_or (with_done w j) o w).pool ≡ w.pool ++ more)
    by_done j None = ([], sym (append-nil w.pool))
    by_done j (Some done) = (sent_now w j done.sent, refl)
pool_on r w (Cut a c x i ask) = by_done i (done_by r w (Cut a c x i ask))
  where
    by_done : (j : ℕ) (o : Option Stepped)
        → (more : List Sent) × ((option_map_or (with_done w j) o w).pool ≡ w.pool ++ more)
    by_done j None = ([], sym (append-nil w.pool))
    by_done j (Some done) = (sent_now w j done.sent, refl)
pool_on r w (Restart i) = by_done i (done_by r w (Restart i))
  where
    by_done : (j : ℕ) (o : Option Stepped)
        → (more : List Sent) × ((option_map_or (with_done w j) o w).pool ≡ w.pool ++ more)
    by_done j None = ([], sym (append-nil w.pool))
    by_done j (Some done) = (sent_now w j done.sent, refl)

pool_run : (r : Rules) (w : World) (lines : List Line)
    → (more : List Sent) × ((run r w lines).pool ≡ w.pool ++ more)
pool_run r w [] = ([], sym (append-nil w.pool))
pool_run r w (line ∷ lines) =
    let (a, e) = pool_on r w line in
    let (b, f) = pool_run r (happens r w line) lines in
    (a ++ b, f ∙ (ap (λ ps. ps ++ b) e ∙ append_assoc w.pool a b))

module _ (r : Rules) (w : World) (payload : List ℕ) where
  abbrev IsPath : World → Type 0
  IsPath u = Path r w (helps w payload) u

  -- what helps from where a path leads helps from its beginning
  helps_too : (u : World) → IsPath u → (line : Line) → helps u payload line ≡ true
      → helps w payload line ≡ true
  helps_too u p =
      let (more, e) = pool_run r w p.lines in
      helps_before w u payload more (ap (λ (v : World). v.pool) (ends_run r w u p.lines p.ends) ∙ e)

  -- and on
  onward : (u v : World) → IsPath u → (lines : List Line)
      → AllByRecursion (λ line. helps u payload line ≡ true) lines → outcome r u lines ≡ Ends v
      → IsPath v
  onward u v p lines are ends =
      let (longer, among, clear) =
      clear_on r p.script u v lines p.cluster p.clear
      (all_so (λ line. helps u payload line ≡ true) (λ line. is_honest_line line ≡ true)
      (helps_honest u payload) lines are)
      ends in
      record {
        lines = p.lines ++ lines;
        are =
            all_both (λ line. helps w payload line ≡ true) p.lines lines p.are
            (all_so (λ line. helps u payload line ≡ true)
            (λ line. helps w payload line ≡ true) (helps_too u p) lines are);
        ends = outcome_both r w u p.lines lines p.ends ∙ ends;
        script = longer;
        cluster = among;
        clear = clear;
      }

  twins_on : (u : World) → IsPath u → ComesToTwins r u payload → ComesToTwins r w payload
  twins_on u p t = record {
    lines = p.lines ++ t.lines;
    are =
        all_both (λ line. helps w payload line ≡ true) p.lines t.lines p.are
        (all_so (λ line. helps u payload line ≡ true) (λ line. helps w payload line ≡ true)
        (helps_too u p) t.lines t.are);
    shows = ap (twins_in r payload) (outcome_both r w u p.lines t.lines p.ends) ∙ t.shows;
  }

  clash_on : (u : World) → IsPath u → ComesToClash r u (helps u payload)
      → ComesToTwins r w payload
  clash_on u p c =
      twins_on u p
      (record { lines = c.lines; are = c.are; shows = ap (twins_in r payload) c.ends })

  -- who is there
  back : (u : World) → IsPath u → (i : ℕ) (y : Member) → member_at u i ≡ Some y
      → (m : Member) × (member_at w i ≡ Some m)
  back u p i y at =
      lines_back r w payload p.lines p.are w i y
      (ap (λ v. member_at v i) (sym (ends_run r w u p.lines p.ends)) ∙ at)

  forth : (u : World) → IsPath u → (i : ℕ) (m : Member) → member_at w i ≡ Some m
      → (y : Member) × (member_at u i ≡ Some y) × Later (member_notes m) (member_notes y)
  forth u p i m at =
      let (y, there, later) = lines_later r w payload p.lines p.are w i m at in
      (y, ap (λ v. member_at v i) (ends_run r w u p.lines p.ends) ∙ there, later)

-- ---- acknowledgements

module _ (r : Rules) (none : r.epochs.span ≡ None) (payload : List ℕ) where
  -- each honest member is live, and nothing has come to it
  abbrev AreQuiet : World → Type 0
  AreQuiet u =
      (k : ℕ) (y : Member) → member_at u k ≡ Some y
      → (y.live ≡ true) × (y.came ≡ nothing_came)

  abbrev AfterAcks : List Line → World → World → Type 0
  AfterAcks acks u v = v ≡ run r u acks

  abbrev AllAcked : List Line → Type 0
  AllAcked acks =
      AllByRecursion (λ line. is_ack line ≡ true) acks → (script : List Line) (u : World)
      → IsCluster r script → ReachesClear r script u → AreQuiet u
      → Brings r none payload NoVote u (AfterAcks acks u)

  acked : (acks : List Line) → AllAcked acks
  acked [] are script u cluster clear quiet =
      here_way r none payload NoVote script u cluster clear (AfterAcks [] u) refl
  acked (Do i Ask.Ack ∷ acks) are script u cluster clear quiet =
      by_there (member_at u i) refl (acked acks)
    where
      land : (v : World) → happens r u (Do i Ask.Ack) ≡ v
          → Brings r none payload NoVote v (AfterAcks acks v)
          → Brings r none payload NoVote v (AfterAcks (Do i Ask.Ack ∷ acks) u)
      land v same (inr clash) = inr clash
      land v same (inl g) =
          inl (record {
            world = g.world;
            way = g.way;
            holds = g.holds ∙ ap (λ z. run r z acks) (sym same);
          })

      turn : (n : Member) → member_at u i ≡ Some n → AllAcked acks
          → Brings r none payload NoVote u (AfterAcks (Do i Ask.Ack ∷ acks) u)
      turn n e later =
          goes_then r payload NoVote u (λ v. v ≡ with_done u i done)
          (AfterAcks (Do i Ask.Ack ∷ acks) u)
          (turn_way r payload (λ b. ⊥) NoVote (λ k p h. h) by_none script u cluster clear i n e
          (quiet i n e).0 Ask.Ack Event.Ack refl refl (λ p. p) (λ h f. cc f) (λ v f. cc f)
          (λ y inside.
          subst (λ z. In y z.ballots) (quiet i n e).1 inside))
          (λ v way same. land v (goes ∙ sym same)
          (later are.1 way.path.script v way.path.cluster way.path.clear (quiet_then v same)))
        where
          done : Stepped
          done = step r i (signed u) n Event.Ack

          by_none : (v : Vote) → IsBy (λ b. ⊥) v → ⊥
          by_none v (b, h, e) = h

          goes : happens r u (Do i Ask.Ack) ≡ with_done u i done
          goes = turn_goes r u i n Ask.Ack Event.Ack e (quiet i n e).0 refl

          quiet_then : (v : World) → v ≡ with_done u i done → AreQuiet v
          quiet_then v same k y at = go (cases_eq i k)
            where
              here : member_at (with_done u i done) k ≡ Some y
              here = ap (λ z. member_at z k) (sym same) ∙ at

              go : (i ≡ k) ⊎ (i ≡ k → ⊥) → (y.live ≡ true) × (y.came ≡ nothing_came)
              go (inl one) =
                  subst (λ (q : Member). (q.live ≡ true) × (q.came ≡ nothing_came))
                  (same_Some done.member y
                  (sym (member_done u i n done e)
                  ∙ (ap (member_at (with_done u i done)) one ∙ here)))
                  (refl, (quiet i n e).1)
              go (inr ne) = quiet k y (sym (other_same u i done k ne) ∙ here)

      by_there : (o : Option Member) → member_at u i ≡ o
          → AllAcked acks
          → Brings r none payload NoVote u (AfterAcks (Do i Ask.Ack ∷ acks) u)
      by_there None e later =
          land u
          (ap (λ o. option_map_or (with_done u i) o u)
          (ap (option_and_then (turned r u i (Do i Ask.Ack))) e))
          (later are.1 script u cluster clear quiet)
      by_there (Some n) e later = turn n e later
  acked (_ ∷ acks) are script u cluster clear quiet = absurd (false≢true are.0)

-- ---- one block more

module _ (r : Rules) (script : List Line) (w : World) (none : r.epochs.span ≡ None)
    (cluster : IsCluster r script) (clear : ReachesClear r script w)
    (coder : r.travel ≡ Chunked → IsCoder r) (pos : 0 < r.backlog) (payload : List ℕ)
    (welcome : IsWelcome r payload) (base : ℕ)
    (views : (i : ℕ) (m : Member) → member_at w i ≡ Some m → view_of (member_notes m) 0 ≤ base)
    (room : base + 2 * size r.epochs 0 < 2 ^ 64 - 1) (stocked : is_stocked w ≡ true) where
  -- lines that help by which the cluster goes on
  record GoesBy : Type 0 where
    more : List Line
    are : AllByRecursion (λ line. helps w payload line ≡ true) more
    goes : goes_on r w more ≡ true
    near : (i : ℕ) (y : Member) → member_at (run r w more) i ≡ Some y
        → view_of (member_notes y) 0 ≤ base + 2 * size r.epochs 0 + 4

  abbrev IsGoing : Type 0
  IsGoing = GoesBy ⊎ ComesToTwins r w payload

  abbrev IsAt : World → Type 0
  IsAt u = Path r w (helps w payload) u

  acks_help : (acks : List Line) → AllByRecursion (λ line. is_ack line ≡ true) acks
      → AllByRecursion (λ line. helps w payload line ≡ true) acks
  acks_help acks are =
      all_so (λ line. is_ack line ≡ true) (λ line. helps w payload line ≡ true) by_line acks are
    where
      by_line : (line : Line) → is_ack line ≡ true → helps w payload line ≡ true
      by_line (Do i Ask.Ack) h = refl
      by_line _ h = absurd (false≢true h)

  -- it hands out what all hold
  by_hand : (u : World) → IsAt u → (top : ℕ) → known_top r w < top
      → ((i : ℕ) (m : Member) → member_at u i ≡ Some m → CanHandUpTo r m top)
      → AreQuiet r none payload u
      → ((i : ℕ) (m : Member) → member_at u i ≡ Some m
      → view_of (member_notes m) 0 ≤ base + 2 * size r.epochs 0 + 3)
      → IsGoing
  by_hand u p top higher can quiet low =
      by_acks
      (all_above r script w cluster (clear_reaches r script w clear) pos p.lines
      (all_so (λ line. helps w payload line ≡ true) (λ line. is_honest_line line ≡ true)
      (helps_honest w payload) p.lines p.are)
      (p.ends ∙ ap Ends goes) top higher
      (λ i m at. can i m (ap (λ v. member_at v i) goes ∙ at)))
    where
      goes : u ≡ run r w p.lines
      goes = ends_run r w u p.lines p.ends

      land : (a : AllHandAbove r w p.lines)
          → Brings r none payload NoVote u (AfterAcks r none payload a.acks u) → IsGoing
      land a (inr clash) = inr (clash_on r w payload u p clash)
      land a (inl g) =
          inl (record {
            more = lines;
            are = are;
            goes =
                and_from (ends_able r (outcome r w lines))
                (list_all
                (λ (at : ℕ × Member).
                list_any (λ (x : Handed). nat_lt (known_top r w) x.height)
                (handed_of r w at.0 lines))
                (numbered_members w))
                (ap (ends_able r) a.ends
                ∙ single_able r (run r w lines) none
                (stocked_stays r script w cluster (clear_reaches r script w clear) payload stocked
                lines are))
                (all_pass _ (numbered_members w)
                (λ at inside.
                let (x, there, high) = a.each at.0 at.1 (there_at w at inside) in
                in_any (λ (y : Handed). nat_lt (known_top r w) y.height)
                (handed_of r w at.0 lines) x there (lt-ltb (known_top r w) x.height high)));
            near =
                λ i y at.
                let le =
                near_way r none payload p.script u p.cluster p.clear NoVote
                (λ top i m at all. record {
                  proposals = λ q h. absurd h;
                  ends = λ v h x e. absurd h;
                })
                g.world g.way (base + 2 * size r.epochs 0 + 3) low i y
                (ap (λ v. member_at v i)
                (g.holds
                ∙ (ap (λ v. run r v a.acks) goes ∙ sym (run_both r w p.lines a.acks)))
                ∙ at) in
                omega (arith, le);
          })
        where
          lines : List Line
          lines = p.lines ++ a.acks

          are : AllByRecursion (λ line. helps w payload line ≡ true) (p.lines ++ a.acks)
          are =
              all_both (λ line. helps w payload line ≡ true) p.lines a.acks p.are
              (acks_help a.acks a.are)

      by_acks : AllHandAbove r w p.lines → IsGoing
      by_acks a = land a (acked r none payload a.acks a.are p.script u p.cluster p.clear quiet)

  module _ (x : ℕ) (m : Member) (at : member_at w x ≡ Some m) where
    -- from where all know a block to be final
    by_final : (u : World) → IsAt u → (p : Proposal) (b : Block)
        → ((i : ℕ) (n : Member) → member_at w i ≡ Some n
        → final_top r (member_notes n) < b.height)
        → ((i : ℕ) (n : Member) → member_at u i ≡ Some n → KnowsFinal r u p b i)
        → ((i : ℕ) (n : Member) → member_at u i ≡ Some n
        → view_of (member_notes n) 0 ≤ base + 2 * size r.epochs 0 + 2)
        → IsGoing
    by_final u q p b higher each low =
        land
        (hold r q.script u none q.cluster q.clear payload
        (subst (λ v. is_stocked v ≡ true) (sym (ends_run r w u q.lines q.ends))
        (stocked_stays r script w cluster (clear_reaches r script w clear) payload stocked q.lines
        q.are))
        p b each)
      where
        land : ComeToHold r u (helps u payload) b.height ⊎ ComesToClash r u (helps u payload)
            → IsGoing
        land (inr clash) = inr (clash_on r w payload u q clash)
        land (inl k) =
            by_hand k.after next b.height
            (top_below r w b.height (let lt = higher x m at in omega (arith, lt)) higher)
            (λ i n there. can i n there (before i n there))
            (λ i n there. quiet i n there (before i n there))
            (λ i n there.
            let le = k.near (base + 2 * size r.epochs 0 + 2) low i n there in omega (arith, le))
          where
            before : (i : ℕ) (n : Member) → member_at k.after i ≡ Some n
                → (y : Member) × (member_at u i ≡ Some y)
            before i n there =
                lines_back r u payload k.lines k.are u i n
                (ap (λ v. member_at v i) (sym (ends_run r u k.after k.lines k.ends)) ∙ there)

            quiet : (i : ℕ) (n : Member) → member_at k.after i ≡ Some n
                → ((y : Member) × (member_at u i ≡ Some y))
                → (n.live ≡ true) × (n.came ≡ nothing_came)
            quiet i n there (y, then) =
                let h = k.each i y then in
                subst (λ (z : Member). (z.live ≡ true) × (z.came ≡ nothing_came))
                (same_Some h.member n (sym h.there ∙ there)) (h.can.live, h.nothing)

            next : IsAt k.after
            next = onward r w payload u k.after q k.lines k.are k.ends

            can : (i : ℕ) (n : Member) → member_at k.after i ≡ Some n
                → ((y : Member) × (member_at u i ≡ Some y)) → CanHandUpTo r n b.height
            can i n there (y, before) =
                let h = k.each i y before in
                subst (λ (z : Member). CanHandUpTo r z b.height)
                (same_Some h.member n (sym h.there ∙ there)) h.can

    -- from where all have certified it
    by_certified : (u : World) → IsAt u → (p : Proposal) (b : Block)
        → ((i : ℕ) (n : Member) → member_at w i ≡ Some n
        → final_top r (member_notes n) < b.height)
        → ((i : ℕ) (n : Member) → member_at u i ≡ Some n → HasCertified r u p b i)
        → ((i : ℕ) (n : Member) → member_at u i ≡ Some n
        → view_of (member_notes n) 0 ≤ base + 2 * size r.epochs 0 + 1)
        → IsGoing
    by_certified u q p b higher each low =
        land (finalize r q.script u none q.cluster q.clear payload p b each)
      where
        land : ComeToFinal r u (helps u payload) p b ⊎ ComesToClash r u (helps u payload)
            → IsGoing
        land (inr clash) = inr (clash_on r w payload u q clash)
        land (inl k) =
            by_final k.after (onward r w payload u k.after q k.lines k.are k.ends) p b higher
            (λ i n there. knows i
            (lines_back r u payload k.lines k.are u i n
            (ap (λ v. member_at v i) (sym (ends_run r u k.after k.lines k.ends)) ∙ there)))
            (λ i n there.
            let le = k.near (base + 2 * size r.epochs 0 + 1) low i n there in omega (arith, le))
          where
            knows : (i : ℕ) → ((y : Member) × (member_at u i ≡ Some y))
                → KnowsFinal r k.after p b i
            knows i (y, before) = k.each i y before

    -- from where all have voted for it
    by_backed : (u : World) → IsAt u → (p : Proposal) → p.epoch ≡ 0
        → ((i : ℕ) (n : Member) → member_at u i ≡ Some n → IsBacker r u p i) → (i : ℕ)
        (n : Member) → member_at u i ≡ Some n → block_fits r (member_notes n) p ≡ true
        → ((i : ℕ) (n : Member) → member_at u i ≡ Some n
        → view_of (member_notes n) 0 ≤ base + 2 * size r.epochs 0)
        → IsGoing
    by_backed u q p first each i n there fits low =
        land (certify r q.script u none q.cluster q.clear payload p first each i n there fits)
      where
        land : ComeToCertified r u (helps u payload) p ⊎ ComesToClash r u (helps u payload)
            → IsGoing
        land (inr clash) = inr (clash_on r w payload u q clash)
        land (inl k) =
            by_certified k.after (onward r w payload u k.after q k.lines k.are k.ends) p k.block
            (λ j z before. higher z j (forth r w payload u q j z before))
            (λ j z after. certified j
            (lines_back r u payload k.lines k.are u j z
            (ap (λ v. member_at v j) (sym (ends_run r u k.after k.lines k.ends)) ∙ after)))
            (k.near (base + 2 * size r.epochs 0) low)
          where
            higher : (z : Member) (j : ℕ)
                → ((y : Member) × (member_at u j ≡ Some y)
                × Later (member_notes z) (member_notes y))
                → final_top r (member_notes z) < k.block.height
            higher z j (y, then, later) =
                omega (
                  arith,
                  k.higher j y then,
                  top_grows r (member_notes z) (member_notes y) later,
                )

            certified : (j : ℕ) → ((y : Member) × (member_at u j ≡ Some y))
                → HasCertified r k.after p k.block j
            certified j (y, before) = k.each j y before

    -- from where all are in a view that it leads
    by_view : (view : ℕ) → view < 2 ^ 64 - 1 → view ≤ base + 2 * size r.epochs 0
        → leader r.epochs 0 view ≡ x → (u : World)
        → IsAt u → ((i : ℕ) (n : Member) → member_at u i ≡ Some n → IsNewTo u i view) → IsGoing
    by_view view low near leads u q each = by_leader (forth r w payload u q x m at)
      where
        land : ComeToVotes r u payload view ⊎ ComesToTwins r u payload → IsGoing
        land (inr twins) = inr (twins_on r w payload u q twins)
        land (inl k) =
            by_backed o.after (onward r w payload u o.after q o.lines o.are o.ends) p
            o.offer.epoch_is
            (λ i n there. backer i n there
            (lines_back r u payload o.lines o.are u i n
            (ap (λ v. member_at v i) (sym (ends_run r u o.after o.lines o.ends)) ∙ there)))
            (leader r.epochs 0 view) o.offer.backed.in_view.member o.offer.backed.in_view.there
            o.offer.fits
            (λ i n there. in_it i n there
            (lines_back r u payload o.lines o.are u i n
            (ap (λ v. member_at v i) (sym (ends_run r u o.after o.lines o.ends)) ∙ there)))
          where
            o : ComeToOffer r u payload view
            o = k.offered

            p : Proposal
            p = o.proposal

            in_it : (i : ℕ) (n : Member) → member_at o.after i ≡ Some n
                → ((y : Member) × (member_at u i ≡ Some y))
                → view_of (member_notes n) 0 ≤ base + 2 * size r.epochs 0
            in_it i n there (y, before) =
                let t = o.each i y before in
                let same =
                ap (λ (z : Member). view_of (member_notes z) 0)
                (same_Some t.member n (sym t.there ∙ there)) in
                let is = t.view_is in
                omega (arith, near, same, is)

            backer : (i : ℕ) (n : Member) → member_at o.after i ≡ Some n
                → ((y : Member) × (member_at u i ≡ Some y)) → IsBacker r o.after p i
            backer i n there (y, before) =
                record {
                  in_view = in_view;
                  voted =
                      λ is.
                      let b = k.voted i y before is in
                      subst (λ (z : Member). has_vote (member_notes z) (Notarize p) ≡ true)
                      (same_Some b.in_view.member in_view.member
                      (sym b.in_view.there ∙ in_view.there))
                      b.voted;
                  unclosed =
                      λ is.
                      let b = k.voted i y before is in
                      subst (λ (z : Member). has_vote (member_notes z) (Nullify 0 p.view) ≡ false)
                      (same_Some b.in_view.member in_view.member
                      (sym b.in_view.there ∙ in_view.there))
                      (closed_not (member_notes b.in_view.member) p.view b.unclosed);
                }
              where
                in_view : IsInView o.after i p.view
                in_view =
                    subst (IsInView o.after i) (sym o.offer.view_is) (o.each i y before)

        by_leader : ((y : Member) × (member_at u x ≡ Some y)
            × Later (member_notes m) (member_notes y))
            → IsGoing
        by_leader (y, there, later) =
            land
            (all_notarize r q.script u none q.cluster q.clear coder payload welcome view low each
            y (ap (member_at u) leads ∙ there))

    -- to a view that it leads
    by_lead : In x (members_in r.epochs 0) → IsGoing
    by_lead h = go (leads_soon r base x h)
      where
        go : ((view : ℕ) × (base < view) × (view ≤ base + 2 * size r.epochs 0)
            × (leader r.epochs 0 view ≡ x))
            → IsGoing
        go (view, above, near, leads) =
            land
            (new_view r script w none cluster clear payload view low
            (λ i n there.
            let le = views i n there in omega (arith, le, above)))
          where
            low : view < 2 ^ 64 - 1
            low = omega (arith, near, room)

            land : ComeToView r w (helps w payload) view ⊎ ComesToClash r w (helps w payload)
                → IsGoing
            land (inr c) =
                inr (record {
                  lines = c.lines;
                  are = c.are;
                  shows = ap (twins_in r payload) c.ends;
                })
            land (inl k) = by_clear
                (clear_on r script w k.after k.lines cluster clear
                (all_so (λ line. helps w payload line ≡ true)
                (λ line. is_honest_line line ≡ true) (helps_honest w payload) k.lines k.are)
                k.ends)
              where
                by_clear : ((longer : List Line) × IsCluster r longer
                    × ReachesClear r longer k.after)
                    → IsGoing
                by_clear (longer, among, still) =
                    by_view view low near leads k.after q
                    (λ i n there. new i (back r w payload k.after q i n there))
                  where
                    q : IsAt k.after
                    q = record {
                      lines = k.lines;
                      are = k.are;
                      ends = k.ends;
                      script = longer;
                      cluster = among;
                      clear = still;
                    }

                    new : (i : ℕ) → ((y : Member) × (member_at w i ≡ Some y))
                        → IsNewTo k.after i view
                    new i (y, before) = k.each i y before

  going : IsGoing
  going = by_voters (voters r w) refl (voters_enough r script w cluster clear)
    where
      by_voters : (xs : List ℕ) → voters r w ≡ xs
          → quorum (size r.epochs 0) ≤ length (voters r w) → IsGoing
      by_voters [] same enough =
          let e = ap (λ (ys : List ℕ). length ys) same in
          absurd (omega (arith, enough, e, cluster.enough 0))
      by_voters (x ∷ xs) same enough =
          let (within, is) =
          filter_from (is_honest w) (members_in r.epochs 0) x
          (subst (In x) (sym same) (inl refl)) in
          let (m, at) = honest_there w x is in
          by_lead x m at within

-- where the cluster is able and views are left for so many blocks, it goes on so many times
pub goes_on_times : (r : Rules) → r.epochs.span ≡ None → (r.travel ≡ Chunked → IsCoder r)
    → 0 < r.backlog → (payload : List ℕ) → IsWelcome r payload → (count : ℕ) (script : List Line)
    (w : World)
    → IsCluster r script → ReachesClear r script w → (base : ℕ)
    → ((i : ℕ) (m : Member) → member_at w i ≡ Some m → view_of (member_notes m) 0 ≤ base)
    → base + count * (2 * size r.epochs 0 + 4) < 2 ^ 64 - 1
    → is_able r w ≡ true → GoesOnTimes r payload count w
goes_on_times r none coder pos payload welcome zero script w cluster clear base views room able = tt
goes_on_times r none coder pos payload welcome (suc count) script w cluster clear base views room
    able =
    go
    (going r script w none cluster clear coder pos payload welcome base views
    (omega (arith, room, split)) stocked)
    (goes_on_times r none coder pos payload welcome count)
  where
    split : suc count * (2 * size r.epochs 0 + 4)
        ≡ (2 * size r.epochs 0 + 4) + count * (2 * size r.epochs 0 + 4)
    split = omega arith

    stocked : is_stocked w ≡ true
    stocked =
        (and_parts (is_stocked w) (list_all (can_enter r (newest_epoch w)) (numbered_members w))
        able).0

    ended : (more : List Line) → (o : Outcome) → outcome r w more ≡ o → ends_able r o ≡ true
        → (u : World) × (outcome r w more ≡ Ends u) × (is_able r u ≡ true)
    ended more (Ends u) e h = (u, e, h)
    ended more (Clashes earlier later) e h = absurd (false≢true h)

    go : IsGoing r script w none cluster clear coder pos payload welcome base views
        (omega (arith, room, split)) stocked
        → ((longer : List Line) (u : World) → IsCluster r longer → ReachesClear r longer u
        → (top : ℕ)
        → ((i : ℕ) (m : Member) → member_at u i ≡ Some m → view_of (member_notes m) 0 ≤ top)
        → top + count * (2 * size r.epochs 0 + 4) < 2 ^ 64 - 1
        → is_able r u ≡ true → GoesOnTimes r payload count u)
        → GoesOnTimes r payload (suc count) w
    go (inr t) later = (t.lines, t.are, inr t.shows)
    go (inl g) later =
        by_end
        (ended g.more (outcome r w g.more) refl
        (and_parts (ends_able r (outcome r w g.more))
        (list_all
        (λ (at : ℕ × Member).
        list_any (λ (x : Handed). nat_lt (known_top r w) x.height) (handed_of r w at.0 g.more))
        (numbered_members w))
        g.goes).0)
      where
        by_end : ((u : World) × (outcome r w g.more ≡ Ends u) × (is_able r u ≡ true))
            → GoesOnTimes r payload (suc count) w
        by_end (u, e, still) =
            let same : u ≡ run r w g.more = ends_run r w u g.more e in
            let (longer, among, further) =
            clear_on r script w (run r w g.more) g.more cluster clear
            (all_so (λ line. helps w payload line ≡ true) (λ line. is_honest_line line ≡ true)
            (helps_honest w payload) g.more g.are)
            (e ∙ ap Ends same) in (
              g.more,
              g.are,
              inl (
                g.goes,
                later longer (run r w g.more) among further (base + 2 * size r.epochs 0 + 4)
                    g.near (omega (arith, room, split))
                    (subst (λ v. is_able r v ≡ true) same still),
              ),
            )

-- a cluster that is able goes on by lines that help, or twins are shown
pub able_goes_on : (r : Rules) (script : List Line) (w : World) → r.epochs.span ≡ None
    → IsCluster r script → ReachesClear r script w → (r.travel ≡ Chunked → IsCoder r)
    → 0 < r.backlog → (payload : List ℕ) → IsWelcome r payload → AreViewsLeft r w
    → is_able r w ≡ true
    → (more : List Line) × AllByRecursion (λ line. helps w payload line ≡ true) more
    × ((goes_on r w more ≡ true) ⊎ (shows_twins r w payload more ≡ true))
able_goes_on r script w none cluster clear coder pos payload welcome room able =
    by_best (best_among w (numbers w))
  where
    stocked : is_stocked w ≡ true
    stocked =
        (and_parts (is_stocked w) (list_all (can_enter r (newest_epoch w)) (numbered_members w))
        able).0

    IsLed : Type 0
    IsLed =
        (more : List Line) × AllByRecursion (λ line. helps w payload line ≡ true) more
        × ((goes_on r w more ≡ true) ⊎ (shows_twins r w payload more ≡ true))

    from : (base : ℕ)
        → ((i : ℕ) (m : Member) → member_at w i ≡ Some m → view_of (member_notes m) 0 ≤ base)
        → base + 2 * size r.epochs 0 < 2 ^ 64 - 1 → IsLed
    from base views left =
        go (going r script w none cluster clear coder pos payload welcome base views left stocked)
      where
        go : IsGoing r script w none cluster clear coder pos payload welcome base views left stocked
            → IsLed
        go (inl g) = (g.more, g.are, inl g.goes)
        go (inr t) = (t.lines, t.are, inr t.shows)

    by_best : NoneAmong w (numbers w) ⊎ BestAmong w (numbers w) → IsLed
    by_best (inr b) =
        from (view_of (member_notes b.member) 0)
        (λ i n there. b.best i (numbered w i n there) n there) (room b.number b.member b.there)
    by_best (inl nobody) = by_voters (voters r w) refl (voters_enough r script w cluster clear)
      where
        by_voters : (xs : List ℕ) → voters r w ≡ xs
            → quorum (size r.epochs 0) ≤ length (voters r w) → IsLed
        by_voters [] same enough =
            let e = ap (λ (ys : List ℕ). length ys) same in
            absurd (omega (arith, enough, e, cluster.enough 0))
        by_voters (x ∷ xs) same enough =
            let (within, is) =
            filter_from (is_honest w) (members_in r.epochs 0) x
            (subst (In x) (sym same) (inl refl)) in
            let (m, at) = honest_there w x is in
            absurd (nobody x (numbered w x m at) m at)
