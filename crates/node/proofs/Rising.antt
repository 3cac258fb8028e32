-- Since a start the heights that are handed out go up by one, save jumps to noted floors.
use Rattle.std.proofs.Common.{◌≡◌, ℕ, zero, suc, ◌+◌, ◌<◌, ◌≤◌, ◌&&◌, Bool, true, false, cond, max, nat_le, nat_lt, List, [], ◌∷◌, ◌++◌, length, map, Option, Some, None, flat_map, option_map, option_and_then, refl, sym, ◌∙◌, ap, subst, inl, inr, arith, append_assoc, append-nil, length-append}
use Rattle.std.specs.List.{last_or}
use Rattle.std.specs.List.Sorted.{IsStrictlyIncreasing}
use Rattle.std.specs.Option.{option_map_or}
use Rattle.cw_types.specs.Block.{Block}
use Rattle.cw_types.specs.declared.commitment.Commitment.{Commitment}
use Rattle.cw_types.specs.declared.event.Event.{Event}
use Rattle.cw_types.specs.declared.event.Handed.{Handed}
use Rattle.cw_types.specs.declared.note.Note.{Note}
use Rattle.cw_rules.specs.Accepted.{Came, State}
use Rattle.cw_rules.specs.Direct.{direct, least}
use Rattle.cw_rules.specs.Held.{at_height, greatest_floor, greatest_prune, held, last_ack, next, pending, resume}
use Rattle.cw_rules.specs.Reached.{In}
use Rattle.cw_rules.specs.Rules.{Rules}
use Rattle.cw_rules.specs.Step.{Member, deliveries_within, delivery, handing, marks, member_notes, most_delivered, settle, start, state_of, step, step_notes, taken, with_given, with_notes}
use Rattle.node.proofs.Votes.{frame_added}
use Rattle.node.specs.Lives.{GoUp, IsNext, Turn, after_turns, since_start}
use Rattle.cw_rules.proofs.Acks.{acks, acks_behind, settle_quiet, quiet_if, quiet_proposed, quiet_timeout, floor_grows}
use Rattle.cw_rules.proofs.Lists.{in_left}

-- ---- nothing is acknowledged before something was handed out

quiet_direct : (r : Rules) (id : ℕ) (s : State) (e : Event) → s.given ≡ []
    → acks (direct r id s e) ≡ []
quiet_direct r id s (Event.Propose payload) none = quiet_proposed r id s.notes payload
quiet_direct r id s (Event.Timeout view) none = quiet_timeout r id s.notes view
quiet_direct r id s Event.Ack none =
    subst
    (λ (given : List ℕ). acks
    (option_map_or (λ h. Note.Ack h ∷ []) (least (pending (record {
      notes = s.notes;
      came = s.came;
      given = given;
    }))) [])
    ≡ [])
    (sym none) refl
quiet_direct r id s (Event.Prune h) none =
    quiet_if
    (option_map_or (λ a. nat_le h a) (last_ack s.notes) false
    && nat_lt (greatest_prune s.notes) h)
    (Note.Prune h ∷ []) refl
quiet_direct r id s _ none = refl

pub step_quiet : (r : Rules) (id : ℕ) (s : State) (e : Event) → s.given ≡ []
    → acks (step_notes r id s e) ≡ []
step_quiet r id s e none =
    let first = direct r id s e in
    let after = with_notes s first in
    acks_behind first (settle r id (marks after) after)
    ∙ (λ i. quiet_direct r id s e none i ++ settle_quiet r id (marks after) after i)

-- ---- floors

-- the greatest noted floor is noted
floor_in : (notes : List Note) → 0 < greatest_floor notes
    → In (Note.Floor (greatest_floor notes)) notes
floor_in [] some = absurd (omega arith)
floor_in (Note.Floor h ∷ notes) some = go (nat_le (greatest_floor notes) h) refl (floor_in notes)
  where
    go : (b : Bool) → nat_le (greatest_floor notes) h ≡ b
        → (0 < greatest_floor notes → In (Note.Floor (greatest_floor notes)) notes)
        → In (Note.Floor (max h (greatest_floor notes))) (Note.Floor h ∷ notes)
    go true e later =
        let same : max h (greatest_floor notes) ≡ h = grind arith in inl (ap Note.Floor same)
    go false e later =
        let above : h < greatest_floor notes = grind arith in
        let same : greatest_floor notes ≡ max h (greatest_floor notes) = omega arith in
        inr (subst (λ (n : ℕ). In (Note.Floor n) notes) same (later (omega arith)))
floor_in (_ ∷ notes) some = inr (floor_in notes some)

-- ---- heights that go up

-- the height that is due after these
abbrev due_after : ℕ → List ℕ → ℕ
due_after due [] = due
due_after due (height ∷ heights) = due_after (height + 1) heights

due_last : (g : ℕ) (heights : List ℕ) (due : ℕ)
    → due_after (g + 1) heights ≡ option_map_or (λ h. h + 1) (last_or (Some g) heights) due
due_last g [] due = refl
due_last g (height ∷ heights) due = due_last height heights due

-- no height is handed out again with more notes, where they acknowledge nothing before something was
-- handed out
pub next_grows : (notes more : List Note) (came later : Came) (given : List ℕ)
    → (given ≡ [] → acks more ≡ [])
    → next (record { notes = notes; came = came; given = given })
    ≤ next (record { notes = notes ++ more; came = later; given = given })
next_grows notes more came later [] quiet =
    let same : option_map_or (λ h. h + 1) (last_ack (notes ++ more)) 0
    ≡ option_map_or (λ h. h + 1) (last_ack notes) 0 =
    ap (λ l. option_map_or (λ h. h + 1) (last_or None l) 0)
    (acks_behind notes more
    ∙ (ap (λ l. acks notes ++ l) (quiet refl) ∙ append-nil (acks notes))) in
    omega (arith, same, floor_grows notes more)
next_grows notes more came later (g ∷ given) quiet =
    let same = sym (due_last g given (resume notes)) ∙ due_last g given (resume (notes ++ more)) in
    omega (arith, same, floor_grows notes more)

next_more : (notes more : List Note) (due height : ℕ) → IsNext notes due height
    → IsNext (notes ++ more) due height
next_more notes more due height (inl e) = inl e
next_more notes more due height (inr (above, floor)) =
    inr (above, in_left (Note.Floor height) notes more floor)

up_more : (notes more : List Note) (due : ℕ) (heights : List ℕ) → GoUp notes due heights
    → GoUp (notes ++ more) due heights
up_more notes more due [] up = tt
up_more notes more due (height ∷ heights) up =
    (next_more notes more due height up.0, up_more notes more (height + 1) heights up.1)

up_push : (notes : List Note) (due : ℕ) (heights : List ℕ) (height : ℕ) → GoUp notes due heights
    → IsNext notes (due_after due heights) height → GoUp notes due (heights ++ height ∷ [])
up_push notes due [] height up is = (is, tt)
up_push notes due (h ∷ heights) height up is = (up.0, up_push notes (h + 1) heights height up.1 is)

next_above : (notes : List Note) (due height : ℕ) → IsNext notes due height → due ≤ height
next_above notes due height (inl e) = omega arith
next_above notes due height (inr (above, floor)) = omega arith

-- so no height comes twice
pub increasing : (notes : List Note) (due : ℕ) (heights : List ℕ) → GoUp notes due heights
    → IsStrictlyIncreasing heights
increasing notes due [] up k less = absurd (omega arith)
increasing notes due (h ∷ []) up k less = absurd (omega arith)
increasing notes due (h ∷ j ∷ heights) up zero less =
    omega (arith, next_above notes (h + 1) j up.1.0)
increasing notes due (h ∷ j ∷ heights) up (suc k) less =
    let later = increasing notes (h + 1) (j ∷ heights) up.1 k (omega arith) in
    let e : suc k + 1 ≡ suc (k + 1) = omega arith in
    rw e later

-- since a start with these notes: what was noted since, and how the heights went
pub record IsUp (first notes : List Note) (given : List ℕ) : Type 0 where
  pub more : List Note
  pub grown : notes ≡ first ++ more
  pub quiet : given ≡ [] → acks more ≡ []
  pub up : GoUp notes (resume first) given

up_started : (first : List Note) → IsUp first first []
up_started first = record { more = []; grown = sym (append-nil first); quiet = λ e. refl; up = tt }

up_noted : (first notes : List Note) (given : List ℕ) (new : List Note) → IsUp first notes given
    → (given ≡ [] → acks new ≡ []) → IsUp first (notes ++ new) given
up_noted first notes given new is none = record {
  more = is.more ++ new;
  grown = ap (λ l. l ++ new) is.grown ∙ append_assoc first is.more new;
  quiet = λ e. acks_behind is.more new ∙ (λ i. is.quiet e i ++ none e i);
  up = up_more notes new (resume first) given is.up;
}

-- the height to be handed out next is the one that is due, or the greatest floor
next_is : (first : List Note) (s : State) → IsUp first s.notes s.given
    → next s ≡ max (due_after (resume first) s.given) (greatest_floor s.notes)
next_is first s is = go s.given refl
  where
    floors : greatest_floor first ≤ greatest_floor s.notes
    floors =
        subst (λ (l : List Note). greatest_floor first ≤ greatest_floor l) (sym is.grown)
        (floor_grows first is.more)

    acked : s.given ≡ [] → last_ack s.notes ≡ last_ack first
    acked none =
        ap last_ack is.grown
        ∙ ap (last_or None)
        (acks_behind first is.more
        ∙ (ap (λ l. acks first ++ l) (is.quiet none) ∙ append-nil (acks first)))

    go : (given : List ℕ) → s.given ≡ given
        → max (option_map_or (λ h. h + 1) (last_or None given) (resume s.notes))
        (greatest_floor s.notes)
        ≡ max (due_after (resume first) given) (greatest_floor s.notes)
    go [] e =
        let same : option_map_or (λ h. h + 1) (last_ack s.notes) 0
        ≡ option_map_or (λ h. h + 1) (last_ack first) 0 =
        ap (λ o. option_map_or (λ h. h + 1) o 0) (acked e) in
        omega (arith, same, floors)
    go (g ∷ given) e =
        ap (λ (n : ℕ). max n (greatest_floor s.notes)) (sym (due_last g given (resume s.notes)))

is_next : (first : List Note) (s : State) → IsUp first s.notes s.given
    → IsNext s.notes (due_after (resume first) s.given) (next s)
is_next first s is = go (nat_le (greatest_floor s.notes) due) refl
  where
    due : ℕ
    due = due_after (resume first) s.given

    same : next s ≡ max due (greatest_floor s.notes)
    same = next_is first s is

    go : (b : Bool) → nat_le (greatest_floor s.notes) due ≡ b → IsNext s.notes due (next s)
    go true e = let low : max due (greatest_floor s.notes) ≡ due = grind arith in inl (same ∙ low)
    go false e =
        let above : due < greatest_floor s.notes = grind arith in
        let high : max due (greatest_floor s.notes) ≡ greatest_floor s.notes = omega arith in
        subst (λ (n : ℕ). IsNext s.notes due n) (sym (same ∙ high))
        (inr (above, floor_in s.notes (omega arith)))

up_given : (first : List Note) (s : State) (height : ℕ) → IsUp first s.notes s.given
    → height ≡ next s → IsUp first s.notes (s.given ++ height ∷ [])
up_given first s height is e = record {
  more = is.more;
  grown = is.grown;
  quiet = λ none. absurd (omega (arith, ap length none, length-append s.given (height ∷ [])));
  up =
      up_push s.notes (resume first) s.given height is.up
      (subst (λ (n : ℕ). IsNext s.notes (due_after (resume first) s.given) n) (sym e)
      (is_next first s is));
}

pub height_is : (r : Rules) (s : State) (h : Handed) → delivery r s ≡ Some h → h.height ≡ next s
height_is r s h e = by (nat_lt (length (pending s)) r.backlog) e
  where
    of_block : (c : Commitment) (o : Option Block) → option_map (handing r (next s) c) o ≡ Some h
        → h.height ≡ next s
    of_block c None f = cc
    of_block c (Some b) f =
        let same : handing r (next s) c b ≡ h = cc in ap (λ (x : Handed). x.height) (sym same)

    of_place : (o : Option Commitment)
        → option_and_then (λ c. option_map (handing r (next s) c) (held r s.notes c)) o ≡ Some h
        → h.height ≡ next s
    of_place None f = cc
    of_place (Some c) f = of_block c (held r s.notes c) f

    by : (b : Bool)
        → cond b
        (option_and_then (λ c. option_map (handing r (next s) c) (held r s.notes c))
        (at_height r s.notes (next s)))
        None
        ≡ Some h
        → h.height ≡ next s
    by true f = of_place (at_height r s.notes (next s)) f
    by false f = cc

up_handed : (r : Rules) (first : List Note) (steps : ℕ) (s : State) → IsUp first s.notes s.given
    → IsUp first s.notes (s.given ++ map (λ h. h.height) (deliveries_within r steps s))
up_handed r first zero s is =
    subst (λ (l : List ℕ). IsUp first s.notes l) (sym (append-nil s.given)) is
up_handed r first (suc steps) s is =
    go (delivery r s) refl (λ h. up_handed r first steps (with_given s h))
  where
    go : (o : Option Handed) → delivery r s ≡ o
        → ((h : ℕ) → IsUp first s.notes (s.given ++ h ∷ [])
        → IsUp first s.notes
        ((s.given ++ h ∷ [])
        ++ map (λ x. x.height) (deliveries_within r steps (with_given s h))))
        → IsUp first s.notes
        (s.given
        ++ map (λ x. x.height)
        (option_map_or (λ x. x ∷ deliveries_within r steps (with_given s x.height)) o
        []))
    go None e later = subst (λ (l : List ℕ). IsUp first s.notes l) (sym (append-nil s.given)) is
    go (Some h) e later =
        subst (λ (l : List ℕ). IsUp first s.notes l)
        (append_assoc s.given (h.height ∷ [])
        (map (λ x. x.height) (deliveries_within r steps (with_given s h.height))))
        (later h.height (up_given first s h.height is (height_is r s h e)))

-- ---- steps since a start

turn_up : (r : Rules) (id : ℕ) (first : List Note) (m : Member) (turn : Turn)
    → IsUp first (member_notes m) m.given
    → IsUp first (member_notes (step r id turn.signed m turn.event).member)
    (step r id turn.signed m turn.event).member.given
turn_up r id first m turn is =
    let during = taken r turn.signed (state_of m) turn.event in
    let notes = step_notes r id during turn.event in
    let after = with_notes during notes in
    let noted =
    up_noted first (member_notes m) m.given notes is
    (λ none. step_quiet r id during turn.event none) in
    subst (λ (l : List Note). IsUp first l (step r id turn.signed m turn.event).member.given)
    (sym (frame_added m.frames notes)) (up_handed r first (most_delivered r after) after noted)

turns_up : (r : Rules) (id : ℕ) (first : List Note) (m : Member) (turns : List Turn)
    → IsUp first (member_notes m) m.given
    → IsUp first (member_notes (after_turns r id m turns)) (after_turns r id m turns).given
turns_up r id first m [] is = is
turns_up r id first m (turn ∷ turns) is =
    turns_up r id first (step r id turn.signed m turn.event).member turns
    (turn_up r id first m turn is)

pub since_up : (r : Rules) (id : ℕ) (frames : List (List Note)) (turns : List Turn)
    → GoUp (member_notes (since_start r id frames turns))
    (resume (flat_map (λ (frame : List Note). frame) frames))
    (since_start r id frames turns).given
since_up r id frames turns =
    let first = flat_map (λ (frame : List Note). frame) frames in
    let m = (start r id frames).member in
    let s : State = record { notes = first; came = m.came; given = [] } in
    (turns_up r id first m turns (up_handed r first (most_delivered r s) s (up_started first))).up

-- ---- what was handed out stays in front

turns_both : (r : Rules) (id : ℕ) (m : Member) (turns more : List Turn)
    → after_turns r id m (turns ++ more) ≡ after_turns r id (after_turns r id m turns) more
turns_both r id m [] more = refl
turns_both r id m (turn ∷ turns) more =
    turns_both r id (step r id turn.signed m turn.event).member turns more

turns_stay : (r : Rules) (id : ℕ) (m : Member) (turns : List Turn)
    → (later : List ℕ) × ((after_turns r id m turns).given ≡ m.given ++ later)
turns_stay r id m [] = ([], sym (append-nil m.given))
turns_stay r id m (turn ∷ turns) =
    let s = step r id turn.signed m turn.event in
    let new = map (λ h. h.height) s.handed in
    let later = turns_stay r id s.member turns in
    (new ++ later.0, later.1 ∙ append_assoc m.given new later.0)

pub since_stays : (r : Rules) (id : ℕ) (frames : List (List Note)) (turns more : List Turn)
    → (later : List ℕ)
    × ((since_start r id frames (turns ++ more)).given
    ≡ (since_start r id frames turns).given ++ later)
since_stays r id frames turns more =
    let m = (start r id frames).member in
    let later = turns_stay r id (after_turns r id m turns) more in
    (later.0, ap (λ (x : Member). x.given) (turns_both r id m turns more) ∙ later.1)
