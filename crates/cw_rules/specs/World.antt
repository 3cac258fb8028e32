-- A cluster: its members, the messages that were sent, and what each line of a script does.
use Rattle.std.specs.Prelude.{[], ℕ, ◌&&◌, ◌++◌, ◌+◌, ◌==◌, ◌||◌, ◌∷◌, Bool, List, None, Option, Some, false, if◌then◌else◌, is_none, is_some, length, map, option_and_then, option_map, slice_get, slice_set, true}
use Rattle.std.specs.List.{list_any, range_with_len}
use Rattle.std.specs.Option.{option_map_or}
use Rattle.cw_types.specs.Block.{Block}
use Rattle.cw_types.specs.Reading.{message_of}
use Rattle.cw_types.specs.Same.{same_vote}
use Rattle.cw_types.specs.Votes.{finalized, proposal_of}
use Rattle.cw_types.specs.declared.event.Event.{Event}
use Rattle.cw_types.specs.declared.event.Out.{Out}
use Rattle.cw_types.specs.declared.event.To.{To}
use Rattle.cw_types.specs.declared.message.Message.{Message}
use Rattle.cw_types.specs.declared.vote.Proposal.{Proposal}
use Rattle.cw_types.specs.declared.vote.Vote.{Vote}
use Rattle.cw_types.specs.declared.vote.Vote.TheVariants.{Finalize, Notarize, Nullify}
use Rattle.cw_rules.specs.Fits.{context_for}
use Rattle.cw_rules.specs.Rules.{Rules, commit, digest, genesis, genesis_commitment}
use Rattle.cw_rules.specs.Sends.{block_sends, to_all}
use Rattle.cw_rules.specs.Step.{Member, Stepped, cut_step, start, step}

-- a message that was sent, numbered from 0
pub record Sent : Type 0 where
  pub number : ℕ
  pub from : ℕ
  pub to : To
  pub message : Message

-- the members by number, a faulty one without a state, and all that was ever sent
pub record World : Type 0 where
  pub members : List (Option Member)
  pub pool : List Sent

-- what a script asks of a member. A message is named by its number
pub data Ask : Type 0 where
  Propose : (payload : List ℕ) → Ask
  Timeout : (view : ℕ) → Ask
  Deliver : (number : ℕ) → Ask
  Ack : Ask
  Prune : (height : ℕ) → Ask
  Floor : (number : ℕ) → Ask
  Hint : (height : ℕ) → Ask

-- what a faulty member sends
pub data Fault : Type 0 where
  Silent : Fault
  Offer : (view : ℕ) (payload : List ℕ) → Fault
  Notarize_of : (number : ℕ) → Fault
  Finalize_of : (number : ℕ) → Fault
  Nullify_of : (view : ℕ) → Fault
  Raw : (bytes : List ℕ) → Fault

-- a line of a script
pub data Line : Type 0 where
  Do : (member : ℕ) (ask : Ask) → Line
  Cut : (call cut fill member : ℕ) (ask : Ask) → Line
  Restart : (member : ℕ) → Line
  Faulty : (member : ℕ) (fault : Fault) → Line

-- the message is addressed to the member
abbrev pub is_to : ℕ → To → Bool
is_to member To.All = true
is_to member (To.One i) = i == member

-- the message of that number, where it is addressed to the member
abbrev pub message_for : World → ℕ → ℕ → Option Message
message_for w member number =
    option_and_then (λ s. if is_to member s.to then Some s.message else None)
    (slice_get w.pool number)

-- the floor event of a message, where that is a finalization
abbrev pub as_finalization : Message → Option Event
as_finalization (Message.Cert s) = if is_some (finalized s.vote) then Some (Event.Floor s) else None
as_finalization _ = None

-- the event that a member is asked for, if there is one
abbrev pub event_of : World → ℕ → Ask → Option Event
event_of w member (Propose payload) = Some (Event.Propose payload)
event_of w member (Timeout view) = Some (Event.Timeout view)
event_of w member (Deliver number) = option_map Event.Deliver (message_for w member number)
event_of w member Ack = Some Event.Ack
event_of w member (Prune height) = Some (Event.Prune height)
event_of w member (Floor number) = option_and_then as_finalization (message_for w member number)
event_of w member (Hint height) = Some (Event.Hint height)

-- the message is this vote of the member
abbrev pub is_vote_of : ℕ → Vote → Message → Bool
is_vote_of i v (Message.Vote j w) = (j == i) && same_vote v w
is_vote_of i v _ = false

-- the member sent the vote
abbrev pub is_sent_vote : ℕ → Vote → Sent → Bool
is_sent_vote i v s = (s.from == i) && is_vote_of i v s.message

-- the member is faulty
abbrev pub is_faulty : World → ℕ → Bool
is_faulty w i = option_map_or is_none (slice_get w.members i) false

-- ideal signatures: a faulty member signed every vote, an honest one those that it sent
abbrev pub signed : World → ℕ → Vote → Bool
signed w i v = is_faulty w i || list_any (is_sent_vote i v) w.pool

-- the proposal of a vote
abbrev pub message_proposal : Message → Option Proposal
message_proposal (Message.Vote i v) = proposal_of v
message_proposal _ = None

-- the proposal of a vote that was sent under that number
abbrev pub voted_on : World → ℕ → Option Proposal
voted_on w number = option_and_then (λ s. message_proposal s.message) (slice_get w.pool number)

-- what a faulty member sends. An offer is a block of height 1 over genesis, and raw bytes go as the
-- message that they read as
abbrev pub fault_sends : Rules → World → ℕ → Fault → List Out
fault_sends r w a Silent = []
fault_sends r w a (Offer view payload) =
    let b : Block =
    record {
      context = context_for r (record {
        epoch = 0;
        view = view;
        parent = 0;
        payload = genesis_commitment r;
      }) (genesis_commitment r);
      parent = digest r (genesis r);
      height = 1;
      payload = payload;
    } in
    block_sends r.travel r a 0 b
    ++ to_all (Message.Vote a (Notarize (record {
      epoch = 0;
      view = view;
      parent = 0;
      payload = commit r b;
    }))) ∷ []
fault_sends r w a (Notarize_of number) =
    option_map_or (λ p. to_all (Message.Vote a (Notarize p)) ∷ []) (voted_on w number) []
fault_sends r w a (Finalize_of number) =
    option_map_or (λ p. to_all (Message.Vote a (Finalize p)) ∷ []) (voted_on w number) []
fault_sends r w a (Nullify_of view) = to_all (Message.Vote a (Nullify 0 view)) ∷ []
fault_sends r w a (Raw bytes) = to_all (message_of bytes) ∷ []

-- what comes from a member, numbered on from there
abbrev pub sent_from : ℕ → ℕ → List Out → List Sent
sent_from number i [] = []
sent_from number i (o ∷ outs) =
    record { number = number; from = i; to = o.to; message = o.message }
    ∷ sent_from (number + 1) i outs

-- what a member sends next in a world
abbrev pub sent_now : World → ℕ → List Out → List Sent
sent_now w i outs = sent_from (length w.pool) i outs

-- an honest member
abbrev pub member_at : World → ℕ → Option Member
member_at w i = option_and_then (λ o. o) (slice_get w.members i)

-- what a line makes of an honest member: nothing where it is stopped, or live at a restart, or
-- where there is no such message
abbrev pub turned : Rules → World → ℕ → Line → Member → Option Stepped
turned r w i (Do j ask) m =
    if m.live then option_map (step r i (signed w) m) (event_of w i ask) else None
turned r w i (Cut a c x j ask) m =
    if m.live then option_map (cut_step r i (signed w) m a c x) (event_of w i ask) else None
turned r w i (Restart j) m = if m.live then None else Some (start r i m.frames)
turned r w i (Faulty j fault) m = None

-- the member that a line names
abbrev pub line_member : Line → ℕ
line_member (Do i ask) = i
line_member (Cut a c x i ask) = i
line_member (Restart i) = i
line_member (Faulty i fault) = i

-- what a line gives of its honest member
abbrev pub done_by : Rules → World → Line → Option Stepped
done_by r w line =
    option_and_then (turned r w (line_member line) line) (member_at w (line_member line))

-- the world with what a member did
abbrev pub with_done : World → ℕ → Stepped → World
with_done w i done =
    record {
      members = slice_set w.members i (Some done.member);
      pool = w.pool ++ sent_now w i done.sent;
    }

-- the world with what a faulty member sent
abbrev pub with_sends : World → ℕ → List Out → World
with_sends w i outs = record { members = w.members; pool = w.pool ++ sent_now w i outs }

-- the world after a line
abbrev pub happens : Rules → World → Line → World
happens r w (Faulty a fault) = with_sends w a (fault_sends r w a fault)
happens r w line = option_map_or (with_done w (line_member line)) (done_by r w line) w

-- the world after a script
abbrev pub run : Rules → World → List Line → World
run r w [] = w
run r w (line ∷ lines) = run r (happens r w line) lines

-- a line that makes a member faulty
abbrev pub faults : ℕ → Line → Bool
faults i (Faulty j fault) = i == j
faults i _ = false

-- each honest member is started on an empty disk, which sends nothing
abbrev pub opening : Rules → List Line → World
opening r script =
    record {
      members =
          map (λ i. if list_any (faults i) script then None else Some (start r i []).member)
          (range_with_len 0 r.epochs.total);
      pool = [];
    }

-- the world that a script ends in
abbrev pub world_of : Rules → List Line → World
world_of r script = run r (opening r script) script
