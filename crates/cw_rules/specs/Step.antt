-- One step of a member: what it notes, sends and hands out, and which tickets it serves.
use Rattle.std.specs.Prelude.{[], ℕ, ◌&&◌, ◌*◌, ◌++◌, ◌+◌, ◌-◌, ◌==◌, ◌||◌, ◌∷◌, Bool, List, None, Option, Some, false, filter, filter_map, flat_map, if◌then◌else◌, is_none, length, map, nat_lt, not, option_and_then, option_map, suc, true, unwrap_or, zero}
use Rattle.std.specs.List.{last_or}
use Rattle.std.specs.Option.{option_map_or}
use Rattle.cw_base.specs.Memory.{counted}
use Rattle.cw_base.specs.declared.hash.Digest32.{Digest32}
use Rattle.cw_types.specs.Block.{Block}
use Rattle.cw_types.specs.Same.{same_digest}
use Rattle.cw_types.specs.declared.commitment.Commitment.{Commitment}
use Rattle.cw_types.specs.declared.event.Event.{Event}
use Rattle.cw_types.specs.declared.event.Handed.{Handed}
use Rattle.cw_types.specs.declared.event.Out.{Out}
use Rattle.cw_types.specs.declared.event.TicketOut.{TicketOut}
use Rattle.cw_types.specs.declared.message.Message.{Message}
use Rattle.cw_types.specs.declared.note.Note.{Note}
use Rattle.cw_types.specs.declared.vote.Vote.{Vote}
use Rattle.cw_rules.specs.Accepted.{Came, State, accepted, first_some, wished}
use Rattle.cw_rules.specs.Direct.{direct}
use Rattle.cw_rules.specs.Held.{at_height, held, last_ack, next, pending}
use Rattle.cw_rules.specs.Owed.{owed}
use Rattle.cw_rules.specs.Rules.{Rules, digest, genesis, genesis_commitment}
use Rattle.cw_rules.specs.Sends.{missing, note_sends, sends, to_all}

-- ---- the notes of a step

-- the state with more notes
abbrev pub with_notes : State → List Note → State
with_notes s more = record { notes = s.notes ++ more; came = s.came; given = s.given }

-- the owed notes, one after another, at most so many
abbrev pub settle : Rules → ℕ → ℕ → State → List Note
settle r id zero s = []
settle r id (suc steps) s =
    option_map_or (λ note. note ∷ settle r id steps (with_notes s (note ∷ []))) (owed r id s) []

-- five marks for each entry of what came and of the notes: no more notes that enter no epoch are
-- owed than there are, and one more that does
abbrev pub marks : State → ℕ
marks s =
    1 + 10 * (length s.came.ballots + length s.came.parts + length s.came.wishes + length s.notes)

-- what came, with what a member accepts from an event
abbrev pub taken_came : Rules → (ℕ → Vote → Bool) → Came → Event → Came
taken_came r signed came (Event.Deliver m) = accepted r signed came m
taken_came r signed came (Event.Floor c) = wished r signed came c
taken_came r signed came _ = came

-- the state with what a member accepts from an event
abbrev pub taken : Rules → (ℕ → Vote → Bool) → State → Event → State
taken r signed s e =
    record { notes = s.notes; came = taken_came r signed s.came e; given = s.given }

-- the notes that a step writes, from what it accepted on
abbrev pub step_notes : Rules → ℕ → State → Event → List Note
step_notes r id s e =
    let first = direct r id s e in
    let after = with_notes s first in
    first ++ settle r id (marks after) after

-- ---- what is handed out

-- what is handed out: a height, the commitment there, and the digest of its block
abbrev pub handing : Rules → ℕ → Commitment → Block → Handed
handing r height c b = record { height = height; commitment = c; digest = digest r b }

-- the block to hand out now: the next one, while fewer than the backlog are pending
abbrev pub delivery : Rules → State → Option Handed
delivery r s =
    if nat_lt (length (pending s)) r.backlog
    then option_and_then (λ c. option_map (handing r (next s) c) (held r s.notes c))
    (at_height r s.notes (next s))
    else None

-- the state once that height is handed out
abbrev pub with_given : State → ℕ → State
with_given s height = record { notes = s.notes; came = s.came; given = s.given ++ height ∷ [] }

-- the blocks handed out, one after another, at most so many
abbrev pub deliveries_within : Rules → ℕ → State → List Handed
deliveries_within r zero s = []
deliveries_within r (suc steps) s =
    option_map_or (λ h. h ∷ deliveries_within r steps (with_given s h.height)) (delivery r s) []

-- the height behind the last Ack. Those below it are never pending
abbrev pub above_ack : State → ℕ
above_ack s = option_map_or (λ h. h + 1) (last_ack s.notes) 0

-- no more are handed out than there are heights up to the last Ack, and then as many as may be
-- pending
abbrev pub most_delivered : Rules → State → ℕ
most_delivered r s = above_ack s + r.backlog

-- how many more may be handed out: up to the last Ack, and then while there is room in the backlog
abbrev pub left_to_hand : Rules → State → ℕ
left_to_hand r s = (above_ack s - next s) + (r.backlog - length (pending s))

-- the blocks that a step hands out
abbrev pub deliveries : Rules → State → List Handed
deliveries r s = deliveries_within r (most_delivered r s) s

-- the state once these are handed out
abbrev pub with_handed : State → List Handed → State
with_handed s out =
    record { notes = s.notes; came = s.came; given = s.given ++ map (λ h. h.height) out }

-- ---- tickets

-- what a ticket waits for: a block of that digest, or under that commitment
pub data Wanted : Type 0 where
  Of_digest : (digest : Digest32) → Wanted
  Of_commitment : (commitment : Commitment) → Wanted

-- a ticket that waits
pub record Ticket : Type 0 where
  pub number : ℕ
  pub wanted : Wanted

-- the tickets since the start: the number of the next one, and those that wait, by number
pub record Tickets : Type 0 where
  pub coming : ℕ
  pub waiting : List Ticket

-- the tickets of a start
abbrev pub no_tickets : Tickets
no_tickets = record { coming = 0; waiting = [] }

-- one more ticket. Their count stands still at its end
abbrev pub give_ticket : Tickets → Wanted → Tickets
give_ticket t wanted =
    record {
      coming = counted t.coming;
      waiting = t.waiting ++ record { number = t.coming; wanted = wanted } ∷ [];
    }

-- the tickets after an event: a watch gives one, and a cancelled one waits no more
abbrev pub ticketed : Tickets → Event → Tickets
ticketed t (Event.WatchDigest d) = give_ticket t (Of_digest d)
ticketed t (Event.WatchCommitment c) = give_ticket t (Of_commitment c)
ticketed t (Event.Cancel number) =
    record { coming = t.coming; waiting = filter (λ x. not (x.number == number)) t.waiting }
ticketed t _ = t

-- the ticket that an event gives
abbrev pub ticket_given : Tickets → Event → List TicketOut
ticket_given t (Event.WatchDigest d) = record { number = t.coming; commitment = None } ∷ []
ticket_given t (Event.WatchCommitment c) = record { number = t.coming; commitment = None } ∷ []
ticket_given t _ = []

-- the commitment of a noted block that is held and has that digest
abbrev pub noted_of : Rules → List Note → Digest32 → Note → Option Commitment
noted_of r notes d (Note.Block c b) =
    option_and_then (λ a. if same_digest (digest r a) d then Some c else None) (held r notes c)
noted_of r notes d _ = None

-- the commitment of the wanted block, where it is held; of a digest, genesis or the first such
-- block
abbrev pub found : Rules → List Note → Wanted → Option Commitment
found r notes (Of_digest d) =
    if same_digest (digest r (genesis r)) d then Some (genesis_commitment r)
    else first_some (noted_of r notes d) notes
found r notes (Of_commitment c) = option_map (λ _. c) (held r notes c)

-- the commitment that a ticket is served with, where its block is held
abbrev pub served : Rules → List Note → Ticket → Option TicketOut
served r notes x =
    option_map (λ c. record { number = x.number; commitment = Some c }) (found r notes x.wanted)

-- the tickets without those that are served
abbrev pub unserved : Rules → List Note → Tickets → Tickets
unserved r notes t =
    record { coming = t.coming; waiting = filter (λ x. is_none (found r notes x.wanted)) t.waiting }

-- ---- a whole step

-- a member: the frames of its notes, one for each step that had any, and what it knows since its
-- start
pub record Member : Type 0 where
  pub frames : List (List Note)
  pub came : Came
  pub given : List ℕ
  pub tickets : Tickets
  pub live : Bool

-- all notes of a member
abbrev pub member_notes : Member → List Note
member_notes m = flat_map (λ frame. frame) m.frames

-- what the rules ask about a member
abbrev pub state_of : Member → State
state_of m = record { notes = member_notes m; came = m.came; given = m.given }

-- what a start has accepted
abbrev pub nothing_came : Came
nothing_came = record { ballots = []; parts = []; wishes = [] }

-- what a step leaves and answers
pub record Stepped : Type 0 where
  pub member : Member
  pub sent : List Out
  pub handed : List Handed
  pub tickets : List TicketOut

-- the frames with one more, unless it is empty
abbrev pub add_frame : List (List Note) → List Note → List (List Note)
add_frame frames [] = frames
add_frame frames (note ∷ notes) = frames ++ (note ∷ notes) ∷ []

-- what an event makes of a member that is live
abbrev pub step : Rules → ℕ → (ℕ → Vote → Bool) → Member → Event → Stepped
step r id signed m e =
    let before = state_of m in
    let during = taken r signed before e in
    let notes = step_notes r id during e in
    let after = with_notes during notes in
    let out = deliveries r after in
    let tickets = ticketed m.tickets e in
    record {
      member =
          record {
            frames = add_frame m.frames notes;
            came = during.came;
            given = m.given ++ map (λ h. h.height) out;
            tickets = unserved r after.notes tickets;
            live = true;
          };
      sent = sends r id before after e notes;
      handed = out;
      tickets = ticket_given m.tickets e ++ filter_map (served r after.notes) tickets.waiting;
    }

-- a start on the disk: what the last frame's notes send, a question for each missing block, and
-- deliveries
abbrev pub start : Rules → ℕ → List (List Note) → Stepped
start r id frames =
    let fresh : Member =
    record {
      frames = frames;
      came = nothing_came;
      given = [];
      tickets = no_tickets;
      live = true;
    } in
    let s = state_of fresh in
    let out = deliveries r s in
    record {
      member =
          record {
            frames = frames;
            came = nothing_came;
            given = map (λ h. h.height) out;
            tickets = no_tickets;
            live = true;
          };
      sent =
          flat_map (note_sends r id s.notes) (unwrap_or (last_or None frames) [])
          ++ map (λ c. to_all (Message.Ask id c)) (missing r s);
      handed = out;
      tickets = [];
    }

-- the member once it is stopped, with these frames
abbrev pub stopped : Member → List (List Note) → Member
stopped m frames =
    record { frames = frames; came = m.came; given = m.given; tickets = m.tickets; live = false }

-- a step with a stop at its a-th device call, at cut c and fill x
abbrev pub cut_step : Rules → ℕ → (ℕ → Vote → Bool) → Member → ℕ → ℕ → ℕ → Event → Stepped
cut_step r id signed m a c x e =
    let done = step r id signed m e in
    let notes = step_notes r id (taken r signed (state_of m) e) e in
    if (length notes == 0) || nat_lt 4 a
    then record {
      member = stopped done.member done.member.frames;
      sent = done.sent;
      handed = done.handed;
      tickets = done.tickets;
    }
    else record {
      member =
          stopped m
          (if nat_lt 2 a && (nat_lt 0 c || (x == 1)) then done.member.frames else m.frames);
      sent = [];
      handed = [];
      tickets = [];
    }
