-- Members that one ask each brings to a vote come to a certificate of it.
use Rattle.std.proofs.Common.{◌≡◌, ℕ, zero, suc, ◌≤◌, Bool, true, cond, List, [], ◌∷◌, ◌++◌, Option, Some, None, length, option_map, option_and_then, slice_get, slice_set, refl, sym, ◌∙◌, ap, subst, inl, inr, ◌⊎◌}
use Rattle.std.specs.List.{AllByRecursion}
use Rattle.std.specs.Option.{option_map_or}
use Rattle.std.proofs.lemmas.Bool.{cases_eq, false≢true}
use Rattle.cw_types.specs.declared.event.Event.{Event}
use Rattle.cw_types.specs.declared.message.Message.{Message}
use Rattle.cw_types.specs.declared.note.Note.{Note}
use Rattle.cw_types.specs.declared.vote.Vote.{Vote}
use Rattle.cw_types.specs.Epochs.{is_member, rises_from, size}
use Rattle.cw_types.specs.Numbers.{quorum}
use Rattle.cw_types.specs.Votes.{vote_epoch, well_formed}
use Rattle.cw_rules.specs.Notes.{has_cert, has_vote, is_vote}
use Rattle.cw_rules.specs.Reached.{In, IsCluster, Reaches}
use Rattle.cw_rules.specs.Rules.{Rules}
use Rattle.cw_rules.specs.Sends.{to_all}
use Rattle.cw_rules.specs.Step.{Member, Stepped, member_notes, state_of, step, step_notes, taken}
use Rattle.cw_rules.specs.World.{Ask, Do, Line, World, event_of, happens, member_at, run, signed, turned, with_done}
use Rattle.cw_rules.proofs.Anchors.{get-set_other}
use Rattle.cw_rules.proofs.Lists.{all_both}
use Rattle.cw_rules.proofs.NoteLemmas.{any_front}
use Rattle.cw_rules.proofs.Worlds.{frames_join, member_there}
use Rattle.cw_progress.specs.Over.{ComesTo, is_delivery, is_honest_line}
use Rattle.cw_progress.specs.Sent.{IsSent}
use Rattle.cw_progress.proofs.Carries.{Extends, extends_done}
use Rattle.cw_progress.proofs.Ends.{member_is}
use Rattle.cw_progress.proofs.Further.{reaches_on, run_both}
use Rattle.cw_progress.proofs.Noted.{noted_sent}
use Rattle.cw_progress.proofs.Over.{member_done}
use Rattle.cw_progress.proofs.Quorum.{votes_over}
use Rattle.cw_progress.proofs.Valid.{vote_in}

-- the member is live and has the vote
pub record HasVoted (v : Vote) (w : World) (i : ℕ) : Type 0 where
  pub member : Member
  pub there : member_at w i ≡ Some member
  pub live : member.live ≡ true
  pub voted : has_vote (member_notes member) v ≡ true

-- the ask brings the member to the vote
pub record Votes (r : Rules) (ask : Ask) (v : Vote) (w : World) (i : ℕ) : Type 0 where
  pub member : Member
  pub there : member_at w i ≡ Some member
  pub live : member.live ≡ true
  pub event : Event
  pub asked : event_of w i ask ≡ Some event
  pub voted : has_vote (member_notes (step r i (signed w) member event).member) v ≡ true

-- where Inv holds, which stays, the ask brings each taker to the vote, and a taker stays one while
-- others act
pub record Voting (r : Rules) (ask : Ask) (v : Vote) (Inv : World → Type 0)
    (Taker : World → ℕ → Type 0) : Type 0 where
  pub stays : (w u : World) → Extends w u → Inv w → Inv u
  pub same : (w u : World) (i : ℕ) → member_at u i ≡ member_at w i → Taker w i → Taker u i
  pub event : (w : World) → Inv w → (i : ℕ) → (e : Event) × (event_of w i ask ≡ Some e)
  pub votes : (script : List Line) (w : World) → IsCluster r script → Reaches r script w → Inv w
      → (i : ℕ) → Taker w i → Votes r ask v w i

-- a live member's turn
pub turn_goes : (r : Rules) (w : World) (i : ℕ) (m : Member) (ask : Ask) (e : Event)
    → member_at w i ≡ Some m → m.live ≡ true → event_of w i ask ≡ Some e
    → happens r w (Do i ask) ≡ with_done w i (step r i (signed w) m e)
turn_goes r w i m ask e at live is =
    ap (λ d. option_map_or (with_done w i) d w)
    (ap (option_and_then (turned r w i (Do i ask))) at
    ∙ (ap (λ b. cond b (option_map (step r i (signed w) m) (event_of w i ask)) None) live
    ∙ ap (option_map (step r i (signed w) m)) is))

get-set_apart : {X : Type 0} (xs : List X) (i j : ℕ) (x : X) → (i ≡ j → ⊥)
    → slice_get (slice_set xs i x) j ≡ slice_get xs j
get-set_apart [] i j x ne = refl
get-set_apart (y ∷ ys) zero zero x ne = absurd (ne refl)
get-set_apart (y ∷ ys) zero (suc j) x ne = refl
get-set_apart (y ∷ ys) (suc i) zero x ne = refl
get-set_apart (y ∷ ys) (suc i) (suc j) x ne = get-set_apart ys i j x (λ e. ne (ap suc e))

-- another member, or nobody, stands as before
pub other_same : (w : World) (i : ℕ) (done : Stepped) (j : ℕ) → (i ≡ j → ⊥)
    → member_at (with_done w i done) j ≡ member_at w j
other_same w i done j ne =
    ap (option_and_then (λ (o : Option Member). o))
    (get-set_apart w.members i j (Some done.member) ne)

-- another member stands as it stood
pub other_stands : (w : World) (i : ℕ) (done : Stepped) (j : ℕ) (n : Member) → (i ≡ j → ⊥)
    → member_at w j ≡ Some n → member_at (with_done w i done) j ≡ Some n
other_stands w i done j n ne there =
    member_is (with_done w i done) j n
    (get-set_other w.members i j (Some done.member) (Some n) ne (member_there w j n there))

module _ (r : Rules) (ask : Ask) (v : Vote) (Inv : World → Type 0)
    (Taker : World → ℕ → Type 0) (k : Voting r ask v Inv Taker)
    (stands : (w : World) (i : ℕ) → Taker w i → (m : Member) × (member_at w i ≡ Some m)) where
  abbrev IsReady : World → ℕ → Type 0
  IsReady w i = Taker w i ⊎ HasVoted v w i

  abbrev IsLive : World → ℕ → Type 0
  IsLive w i = (n : Member) × (member_at w i ≡ Some n) × (n.live ≡ true)

  -- what the turn of a ready member leaves
  record Turned (w u : World) (i : ℕ) : Type 0 where
    pub voted : HasVoted v u i
    pub keeps : (j : ℕ) → HasVoted v w j → HasVoted v u j
    pub ready : (j : ℕ) → IsReady w j → IsReady u j
    pub lives : (j : ℕ) → IsLive w j → IsLive u j
    pub inv : Inv u

  turned_by : (w : World) (i : ℕ) (m : Member) (e : Event) → Inv w → member_at w i ≡ Some m
      → has_vote (member_notes (step r i (signed w) m e).member) v ≡ true
      → Turned w (with_done w i (step r i (signed w) m e)) i
  turned_by w i m e inv at h = record {
    voted = it;
    keeps = λ j x. by_voted j x (cases_eq i j);
    ready = λ j x. by_ready j x (cases_eq i j);
    lives = λ j x. by_live j x (cases_eq i j);
    inv = k.stays w after (extends_done w i m done (member_there w i m at)) inv;
  }
    where
      done : Stepped
      done = step r i (signed w) m e

      after : World
      after = with_done w i done

      it : HasVoted v after i
      it = record {
        member = done.member;
        there = member_done w i m done at;
        live = refl;
        voted = h;
      }

      by_voted : (j : ℕ) → HasVoted v w j → (i ≡ j) ⊎ (i ≡ j → ⊥) → HasVoted v after j
      by_voted j x (inl s) = subst (HasVoted v after) s it
      by_voted j x (inr ne) =
          record {
            member = x.member;
            there = other_stands w i done j x.member ne x.there;
            live = x.live;
            voted = x.voted;
          }

      by_ready : (j : ℕ) → IsReady w j → (i ≡ j) ⊎ (i ≡ j → ⊥) → IsReady after j
      by_ready j x (inl s) = inr (subst (HasVoted v after) s it)
      by_ready j (inr x) (inr ne) = inr (by_voted j x (inr ne))
      by_ready j (inl x) (inr ne) =
          let (n, there) = stands w j x in
          inl (k.same w after j (other_stands w i done j n ne there ∙ sym there) x)

      by_live : (j : ℕ) → IsLive w j → (i ≡ j) ⊎ (i ≡ j → ⊥) → IsLive after j
      by_live j x (inl s) =
          subst (IsLive after) s (done.member, member_done w i m done at, refl)
      by_live j (n, there, live) (inr ne) = (n, other_stands w i done j n ne there, live)

  ready_turned : (script : List Line) (w : World) → IsCluster r script → Reaches r script w
      → Inv w → (i : ℕ) → IsReady w i → Turned w (happens r w (Do i ask)) i
  ready_turned script w cluster reach inv i (inl x) =
      let y = k.votes script w cluster reach inv i x in
      subst (λ u. Turned w u i)
      (sym (turn_goes r w i y.member ask y.event y.there y.live y.asked))
      (turned_by w i y.member y.event inv y.there y.voted)
  ready_turned script w cluster reach inv i (inr x) =
      let (e, is) = k.event w inv i in
      subst (λ u. Turned w u i) (sym (turn_goes r w i x.member ask e x.there x.live is))
      (turned_by w i x.member e inv x.there
      (subst (λ ns. has_vote ns v ≡ true)
      (sym
      (frames_join x.member.frames (step_notes r i (taken r (signed w) (state_of x.member) e) e)))
      (any_front (is_vote v) (member_notes x.member)
      (step_notes r i (taken r (signed w) (state_of x.member) e) e) x.voted)))

  -- some members asked, one after another
  abbrev asks_of : List ℕ → List Line
  asks_of [] = []
  asks_of (x ∷ xs) = Do x ask ∷ asks_of xs

  asks_pass : (t : Line → Bool) → ((i : ℕ) → t (Do i ask) ≡ true) → (xs : List ℕ)
      → AllByRecursion (λ line. t line ≡ true) (asks_of xs)
  asks_pass t f [] = tt
  asks_pass t f (x ∷ xs) = (f x, asks_pass t f xs)

  -- each of them has voted then
  record AllVoted (w : World) (xs : List ℕ) : Type 0 where
    pub each : (i : ℕ) → In i xs → HasVoted v (run r w (asks_of xs)) i
    pub keeps : (j : ℕ) → HasVoted v w j → HasVoted v (run r w (asks_of xs)) j
    pub lives : (j : ℕ) → IsLive w j → IsLive (run r w (asks_of xs)) j

  all_voted : (xs : List ℕ) (script : List Line) (w : World) → IsCluster r script
      → Reaches r script w → Inv w → ((i : ℕ) → In i xs → IsReady w i) → AllVoted w xs
  all_voted [] script w cluster reach inv ready =
      record { each = λ i h. absurd h; keeps = λ j x. x; lives = λ j x. x }
  all_voted (x ∷ xs) script w cluster reach inv ready =
      let t = ready_turned script w cluster reach inv x (ready x (inl refl)) in
      let (longer, among, further) =
      reaches_on r script w (Do x ask ∷ []) cluster reach (refl, tt) in
      joined t
      (all_voted xs longer (happens r w (Do x ask)) among further t.inv
      (λ i h. t.ready i (ready i (inr h))))
    where
      joined : Turned w (happens r w (Do x ask)) x → AllVoted (happens r w (Do x ask)) xs
          → AllVoted w (x ∷ xs)
      joined t rest = record {
        each = λ i h. by_place i h;
        keeps = λ j y. rest.keeps j (t.keeps j y);
        lives = λ j y. rest.lives j (t.lives j y);
      }
        where
          by_place : (i : ℕ) → (i ≡ x) ⊎ In i xs
              → HasVoted v (run r (happens r w (Do x ask)) (asks_of xs)) i
          by_place i (inl s) =
              subst (HasVoted v (run r (happens r w (Do x ask)) (asks_of xs))) (sym s)
              (rest.keeps x t.voted)
          by_place i (inr h) = rest.each i h

  -- where a quorum are takers, a certificate of the vote comes to whoever is live
  pub voting_over : (script : List Line) (w : World) → IsCluster r script → Reaches r script w
      → Inv w → well_formed v ≡ true → (voters : List ℕ) → rises_from 0 voters ≡ true
      → quorum (size r.epochs (vote_epoch v)) ≤ length voters
      → ((i : ℕ) → In i voters → is_member r.epochs (vote_epoch v) i ≡ true)
      → ((i : ℕ) → In i voters → Taker w i)
      → (allowed : Line → Bool) → ((i : ℕ) → allowed (Do i ask) ≡ true)
      → ((i number : ℕ) → allowed (Do i (Ask.Deliver number)) ≡ true)
      → (j : ℕ) (n : Member) → member_at w j ≡ Some n → n.live ≡ true
      → ComesTo r w j allowed (λ notes. has_cert notes v)
  voting_over script w cluster reach inv formed voters rise enough members takers allowed asks
      deliveries j n at live =
      let voted = all_voted voters script w cluster reach inv (λ i h. inl (takers i h)) in
      let (longer, among, further) =
      reaches_on r script w (asks_of voters) cluster reach
      (asks_pass is_honest_line (λ i. refl) voters) in
      let (m, there, ready) = voted.lives j (n, at, live) in
      joined
      (votes_over r longer after among j m there ready v formed voters rise enough members
      (λ i h. sent longer among further i (voted.each i h)))
    where
      after : World
      after = run r w (asks_of voters)

      sent : (longer : List Line) → IsCluster r longer → Reaches r longer after → (i : ℕ)
          → HasVoted v after i → IsSent after i (to_all (Message.Vote i v))
      sent longer among further i y =
          noted_sent r longer after among further i y.member y.there y.live (Note.Vote v)
          (Message.Vote i v) refl (vote_in v (member_notes y.member) y.voted)

      allow : (lines : List Line) → AllByRecursion (λ line. is_delivery line ≡ true) lines
          → AllByRecursion (λ line. allowed line ≡ true) lines
      allow [] a = tt
      allow (line ∷ lines) a = (by_line line a.0, allow lines a.1)
        where
          by_line : (line : Line) → is_delivery line ≡ true → allowed line ≡ true
          by_line (Do i (Ask.Deliver number)) h = deliveries i number
          by_line _ h = absurd (false≢true h)

      joined : ComesTo r after j is_delivery (λ notes. has_cert notes v)
          → ComesTo r w j allowed (λ notes. has_cert notes v)
      joined g = record {
        lines = asks_of voters ++ g.lines;
        are =
            all_both (λ line. allowed line ≡ true) (asks_of voters) g.lines
            (asks_pass allowed asks voters) (allow g.lines g.are);
        after = g.after;
        there =
            ap (λ u. member_at u j) (run_both r w (asks_of voters) g.lines) ∙ g.there;
        live = g.live;
        passes = g.passes;
      }
