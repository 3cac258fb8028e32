-- A step as a whole.
use Rattle.std.proofs.Common.{◌≡◌, ℕ, Bool, true, ◌≤◌, arith, length-append, List, [], ◌++◌, length, map, drop, filter_map, flat_map, refl, sym, ◌∙◌, ap, subst, append-nil}
use Rattle.std.proofs.lemmas.List.{drop_at}
use Rattle.cw_base.specs.declared.hash.Digest32.{Digest32}
use Rattle.cw_types.specs.Block.{Block}
use Rattle.cw_types.specs.declared.commitment.Commitment.{Commitment}
use Rattle.cw_types.specs.declared.event.Event.{Event}
use Rattle.cw_types.specs.declared.event.Handed.{Handed}
use Rattle.cw_types.specs.declared.event.StepOut.{StepOut}
use Rattle.cw_types.specs.declared.note.Note.{Note}
use Rattle.cw_types.specs.declared.vote.Vote.{Vote}
use Rattle.cw_rules.specs.Accepted.{State}
use Rattle.cw_rules.specs.Held.{next}
use Rattle.cw_rules.specs.Rules.{Rules}
use Rattle.cw_rules.specs.Sends.{sends}
use Rattle.cw_rules.specs.Step as rule
use Rattle.cw_rules.specs.Step.{Tickets, add_frame, deliveries, served, step, step_notes, taken, ticket_given, ticketed, unserved, with_notes}
use Rattle.node.proofs.Rising.{next_grows, step_quiet}
use Rattle.node.proofs.Votes.{frame_added}
use Rattle.node.specs.Acting.{HasActed, notes_of_event}
use Rattle.node.specs.Answering.{HasAnswered}
use Rattle.node.specs.Holding.{Holding, came_of, own_state, member_of, rules_of}
use Rattle.node.specs.Leading.{GoesOnFrom, IsLedBy}
use Rattle.node.specs.Noting.{committed}
use Rattle.node.specs.Standing.{OwesNoBlock, PartsStand}
use Rattle.node.specs.State.{stepped}
use Rattle.node.specs.Store.{Store, stored_notes}
use Rattle.node.specs.declared.leads.Led.{Led}
use Rattle.voter.specs.Standing as voter

-- the notes of the frames with one more are those before with those that waited
pub joined : (frames : List (List Note)) (staged : List Note)
    → flat_map (λ (frame : List Note). frame) (add_frame frames staged) ++ []
    ≡ flat_map (λ (frame : List Note). frame) frames ++ staged
joined frames staged =
    append-nil (flat_map (λ (frame : List Note). frame) (add_frame frames staged))
    ∙ frame_added frames staged

pub same_notes : (t : Store) → stored_notes (committed t) ≡ stored_notes t
same_notes t = joined t.frames t.staged

module _ {D A : Type 0} (hash : List ℕ → Digest32) (accepts : A → Block → Block → Bool) where
  -- a commit keeps what the rules ask about
  pub state_committed : (b c : Holding D A)
      → c ≡ record b { store = committed b.store; log = c.log } → own_state c ≡ own_state b
  state_committed b c is =
      ap (λ (h : Holding D A). own_state h) is ∙ (λ i. record {
        notes = same_notes b.store i;
        came = came_of b;
        given = b.store.given;
      })

  pub stands_committed : (b c : Holding D A) → PartsStand hash accepts b
      → c ≡ record b { store = committed b.store; log = c.log } → PartsStand hash accepts c
  stands_committed b c s is =
      subst (λ (h : Holding D A). PartsStand hash accepts h) (sym is) (record {
        epochs = s.epochs;
        backlog = s.backlog;
        running = s.running;
        id = s.id;
        tally =
            subst (λ (t : State). voter.IsTallyOf hash b.tally (rules_of hash accepts b) t)
            (λ i. record {
              notes = sym (same_notes b.store) i;
              came = came_of b;
              given = b.store.given;
            })
            s.tally;
        shards = record { rules = s.shards.rules; rows = s.shards.rows };
        rows = s.rows;
        named = s.named;
        shown = s.shown;
      })

  -- what is handed out is kept
  pub stands_handed : (b c : Holding D A) (out : List Handed) → PartsStand hash accepts b
      → voter.IsTallyOf hash b.tally (rules_of hash accepts b)
      (rule.with_handed (own_state b) out)
      → c ≡ record b { store = record b.store { given = b.store.given ++ map (λ h. h.height) out } }
      → PartsStand hash accepts c
  stands_handed b c out s tally is =
      subst (λ (h : Holding D A). PartsStand hash accepts h) (sym is) (record {
        epochs = s.epochs;
        backlog = s.backlog;
        running = s.running;
        id = s.id;
        tally = tally;
        shards = record { rules = s.shards.rules; rows = s.shards.rows };
        rows = s.rows;
        named = s.named;
        shown = s.shown;
      })

  -- and tickets are nothing that the rules ask about
  pub stands_ticketed : (b c : Holding D A) (t : Tickets) → PartsStand hash accepts b
      → c ≡ record b { store = record b.store { tickets = t } } → PartsStand hash accepts c
  stands_ticketed b c t s is =
      subst (λ (h : Holding D A). PartsStand hash accepts h) (sym is) (record {
        epochs = s.epochs;
        backlog = s.backlog;
        running = s.running;
        id = s.id;
        tally = s.tally;
        shards = record { rules = s.shards.rules; rows = s.shards.rows };
        rows = s.rows;
        named = s.named;
        shown = s.shown;
      })

  -- neither a commit nor an answer makes a block owed
  pub rests_answered : (e : Event) (was : State) (b c d : Holding D A) (out : StepOut)
      → c ≡ record b { store = committed b.store; log = c.log }
      → HasAnswered hash accepts e was c d out
      → OwesNoBlock (rules_of hash accepts b) (own_state b)
      → OwesNoBlock (rules_of hash accepts d) (own_state d)
  rests_answered e was b c d out is a rests =
      subst (λ (h : Holding D A). OwesNoBlock (rules_of hash accepts h) (own_state h))
      (sym a.left)
      (subst (λ (r : Rules). OwesNoBlock r (own_state c))
      (sym (ap (λ (h : Holding D A). rules_of hash accepts h) is))
      (subst (λ (s : State). OwesNoBlock (rules_of hash accepts b) s)
      (sym (state_committed b c is)) rests))

  -- there are no fewer notes after a step
  pub no_fewer : (signed : ℕ → Vote → Bool) (e : Event) (old b c : Holding D A) (n : ℕ)
      → HasActed hash accepts signed e old b
      → c ≡ record b { store = committed b.store; log = c.log } → n
      ≡ length (own_state old).notes
      → n ≤ length (stored_notes c.store)
  no_fewer signed e old b c n acted is count =
      let all =
      ap (λ (s : State). length s.notes) (state_committed b c is ∙ acted.state)
      ∙ length-append (own_state old).notes
      (notes_of_event (rules_of hash accepts old) signed e old) in
      omega (arith, all, count)

  -- and no height is handed out again
  pub goes_on : (signed : ℕ → Vote → Bool) (e : Event) (old b c : Holding D A)
      (entries : List (Commitment × Led))
      → HasActed hash accepts signed e old b → rules_of hash accepts b ≡ rules_of hash accepts old
      → c ≡ record b { store = committed b.store; log = c.log }
      → IsLedBy (rules_of hash accepts old) (stored_notes old.store) entries
      → GoesOnFrom (rules_of hash accepts c) (own_state old) (own_state c) entries
  goes_on signed e old b c entries acted rules is led = record {
    more = more;
    notes = ap (λ (s : State). s.notes) state;
    rises =
        subst (λ (s : State). next (own_state old) ≤ next s) (sym state)
        (next_grows (stored_notes old.store) more (came_of old) during.came old.store.given
        (λ none. step_quiet r old.id during e none));
    led =
        subst (λ (x : Rules). IsLedBy x (stored_notes old.store) entries)
        (sym (ap (λ (h : Holding D A). rules_of hash accepts h) is ∙ rules))
        led;
  }
    where
      r : Rules
      r = rules_of hash accepts old

      during : State
      during = taken r signed (own_state old) e

      more : List Note
      more = notes_of_event r signed e old

      state : own_state c ≡ with_notes during more
      state = state_committed b c is ∙ acted.state

  module _ (signed : ℕ → Vote → Bool) (e : Event) (old b c d : Holding D A) (out : StepOut)
      (quiet : old.store.staged ≡ [])
      (acted : HasActed hash accepts signed e old b)
      (rules : rules_of hash accepts b ≡ rules_of hash accepts old) (id : b.id ≡ old.id)
      (is : c ≡ record b { store = committed b.store; log = c.log })
      (a : HasAnswered hash accepts e (own_state old) c d out) where
    -- the state of the member before
    before : own_state old ≡ rule.state_of (member_of true old)
    before =
        λ i. record {
          notes =
              (ap (λ l. flat_map (λ (frame : List Note). frame) old.store.frames ++ l) quiet
              ∙ append-nil (flat_map (λ (frame : List Note). frame) old.store.frames))
              i;
          came = came_of old;
          given = old.store.given;
        }

    -- its notes
    notes : notes_of_event (rules_of hash accepts old) signed e old
        ≡ step_notes (rules_of hash accepts old) old.id
        (taken (rules_of hash accepts old) signed (rule.state_of (member_of true old)) e) e
    notes =
        λ i. step_notes (rules_of hash accepts old) old.id
        (taken (rules_of hash accepts old) signed (before i) e) e

    after_rules : rules_of hash accepts c ≡ rules_of hash accepts old
    after_rules = ap (λ (h : Holding D A). rules_of hash accepts h) is ∙ rules

    after_id : c.id ≡ old.id
    after_id = ap (λ (h : Holding D A). h.id) is ∙ id

    after_state : own_state c
        ≡ with_notes
        (taken (rules_of hash accepts old) signed (rule.state_of (member_of true old)) e)
        (step_notes (rules_of hash accepts old) old.id
        (taken (rules_of hash accepts old) signed (rule.state_of (member_of true old)) e) e)
    after_state =
        state_committed b c is
        ∙ (acted.state
        ∙ (λ i. with_notes (taken (rules_of hash accepts old) signed (before i) e) (notes i)))

    after_tickets : c.store.tickets ≡ old.store.tickets
    after_tickets =
        ap (λ (h : Holding D A). h.store.tickets) is ∙ ap (λ (t : Store). t.tickets) acted.store

    after_given : c.store.given ≡ old.store.given
    after_given =
        ap (λ (h : Holding D A). h.store.given) is ∙ ap (λ (t : Store). t.given) acted.store

    staged : b.store.staged ≡ notes_of_event (rules_of hash accepts old) signed e old
    staged =
        ap (λ (t : Store). t.staged) acted.store
        ∙ ap (λ l. l ++ notes_of_event (rules_of hash accepts old) signed e old) quiet

    after_frames : c.store.frames
        ≡ add_frame old.store.frames
        (step_notes (rules_of hash accepts old) old.id
        (taken (rules_of hash accepts old) signed (rule.state_of (member_of true old)) e) e)
    after_frames =
        ap (λ (h : Holding D A). h.store.frames) is
        ∙ ((λ i. add_frame ((ap (λ (t : Store). t.frames) acted.store) i) (staged i))
        ∙ (λ i. add_frame old.store.frames (notes i)))

    -- those of the step stand behind those before
    behind : drop (length (own_state old).notes) (stored_notes c.store)
        ≡ step_notes (rules_of hash accepts old) old.id
        (taken (rules_of hash accepts old) signed (rule.state_of (member_of true old)) e) e
    behind =
        ap (λ (s : State). drop (length (own_state old).notes) s.notes)
        (state_committed b c is ∙ acted.state)
        ∙ (drop_at (own_state old).notes
        (notes_of_event (rules_of hash accepts old) signed e old)
        (length (own_state old).notes) refl
        ∙ notes)

    sent : out.sent ≡ (step (rules_of hash accepts old) old.id signed (member_of true old) e).sent
    sent =
        a.sent ∙ (λ i. sends (after_rules i) (after_id i) (before i) (after_state i) e (behind i))

    handed : out.handed
        ≡ (step (rules_of hash accepts old) old.id signed (member_of true old) e).handed
    handed = a.handed ∙ (λ i. deliveries (after_rules i) (after_state i))

    tickets : out.tickets
        ≡ (step (rules_of hash accepts old) old.id signed (member_of true old) e).tickets
    tickets =
        a.tickets
        ∙ (λ i. ticket_given (after_tickets i) e
        ++ filter_map (served (after_rules i) (after_state i).notes)
        (ticketed (after_tickets i) e).waiting)

    pub whole_step : stepped (member_of true d) out
        ≡ step (rules_of hash accepts old) old.id signed (member_of true old) e
    whole_step =
        let frames = ap (λ (h : Holding D A). h.store.frames) a.left ∙ after_frames in
        let came =
        ap (λ (h : Holding D A). came_of h) a.left ∙ ap (λ (s : State). s.came) after_state in
        let given =
        ap (λ (h : Holding D A). h.store.given) a.left
        ∙ (λ i. after_given i ++ map (λ x. x.height) (handed i)) in
        let waiting =
        ap (λ (h : Holding D A). h.store.tickets) a.left
        ∙ (λ i. unserved (after_rules i) (after_state i).notes
        (ticketed (after_tickets i) e)) in
        λ i. record {
          member =
              record {
                frames = frames i;
                came = came i;
                given = given i;
                tickets = waiting i;
                live = true;
              };
          sent = sent i;
          handed = handed i;
          tickets = tickets i;
        }

-- the notes of a step, as those of the member
pub notes_same : {D A : Type 0} (r : Rules) (signed : ℕ → Vote → Bool) (e : Event) (h : Holding D A)
    (live : Bool)
    → h.store.staged ≡ []
    → notes_of_event r signed e h
    ≡ step_notes r h.id (taken r signed (rule.state_of (member_of live h)) e) e
notes_same r signed e h live quiet =
    λ i. step_notes r h.id (taken r signed (record {
      notes =
          (ap (λ l. flat_map (λ (frame : List Note). frame) h.store.frames ++ l) quiet
          ∙ append-nil (flat_map (λ (frame : List Note). frame) h.store.frames))
          i;
      came = came_of h;
      given = h.store.given;
    }) e) e
