-- A turn of a member, by what its host vouches for, is lines of a script.
use Rattle.std.proofs.Common.{◌≡◌, ℕ, Bool, true, if◌then◌else◌, List, [], ◌∷◌, ◌++◌, Option, Some, None, is_some, length, map, option_map, option_and_then, slice_get, refl, sym, ◌∙◌, ap, subst, ⊎_elim}
use Rattle.std.specs.List.{list_any}
use Rattle.std.specs.Option.{option_map_or}
use Rattle.std.proofs.lemmas.Bool.{or_cases, or_left, or_right}
use Rattle.cw_types.specs.Reading.{message_of, tagged_message_at}
use Rattle.cw_types.specs.Votes.{finalized}
use Rattle.cw_types.specs.declared.event.Event.{Event}
use Rattle.cw_types.specs.declared.event.Handed.{Handed}
use Rattle.cw_types.specs.declared.event.Out.{Out}
use Rattle.cw_types.specs.declared.message.Message.{Message}
use Rattle.cw_types.specs.declared.note.Note.{Note}
use Rattle.cw_types.specs.declared.vote.Cert.{Cert}
use Rattle.cw_types.specs.declared.vote.Vote.{Vote}
use Rattle.cw_rules.specs.Accepted.{Came, State, accepted, wished}
use Rattle.cw_rules.specs.Rules.{Rules}
use Rattle.cw_rules.specs.Sends.{sends, to_all}
use Rattle.cw_rules.specs.Step.{Member, Stepped, Tickets, add_frame, deliveries, member_notes, state_of, step, step_notes, taken_came, with_notes}
use Rattle.cw_rules.specs.World.{Ask, Do, Line, Sent, World, as_finalization, event_of, is_faulty, is_sent_vote, is_to, message_for, signed, with_done}
use Rattle.cw_rules.specs.World as world
use Rattle.member_runs.specs.Turns.{IsFromBytes}
use Rattle.member_runs.proofs.Accepts.{IsWithin, cert_alike, vote_alike, wish_alike}
use Rattle.member_runs.proofs.Going.{Goes, brings, brought, done_at, goes_brought, goes_by, goes_on}

-- ---- but for tickets

abbrev pub bare : Member → Tickets → Member
bare p tickets =
    record { frames = p.frames; came = p.came; given = p.given; tickets = tickets; live = true }

-- a live member that is the same but for its tickets
abbrev pub SameBut : Member → Member → Type 0
SameBut p m = (tickets : Tickets) × (m ≡ bare p tickets)

-- what a step gives, but for tickets
record Moved : Type 0 where
  frames : List (List Note)
  came : Came
  given : List ℕ
  sent : List Out
  handed : List Handed

abbrev moved : Stepped → Moved
moved d =
    record {
      frames = d.member.frames;
      came = d.member.came;
      given = d.member.given;
      sent = d.sent;
      handed = d.handed;
    }

-- lines by which the member comes to what the step gives
pub record TurnGoes (r : Rules) (w : World) (i : ℕ) (d : Stepped) : Type 0 where
  pub lines : List Line
  pub member : Member
  pub same : SameBut d.member member
  pub goes : Goes r w lines i member d.sent d.handed

goes_same : (r : Rules) (w : World) (i : ℕ) (lines : List Line) (e d : Stepped) → moved e ≡ moved d
    → e.member.live ≡ true → Goes r w lines i e.member e.sent e.handed → TurnGoes r w i d
goes_same r w i lines e d is live goes = record {
  lines = lines;
  member = e.member;
  same = (
    e.member.tickets,
    ap
        (λ (b : Bool). record {
          frames = e.member.frames;
          came = e.member.came;
          given = e.member.given;
          tickets = e.member.tickets;
          live = b;
        })
        live
        ∙ ap
        (λ (x : Moved). record {
          frames = x.frames;
          came = x.came;
          given = x.given;
          tickets = e.member.tickets;
          live = true;
        })
        is,
  );
  goes = subst (λ (x : Moved). Goes r w lines i e.member x.sent x.handed) is goes;
}

-- a step behind what came
abbrev core : Rules → ℕ → Member → Event → Came → Moved
core r id m e came =
    let during : State = record { notes = member_notes m; came = came; given = m.given } in
    let notes = step_notes r id during e in
    let after = with_notes during notes in
    let out = deliveries r after in
    record {
      frames = add_frame m.frames notes;
      came = came;
      given = m.given ++ map (λ h. h.height) out;
      sent = sends r id (state_of m) after e notes;
      handed = out;
    }

core_is : (r : Rules) (id : ℕ) (sign : ℕ → Vote → Bool) (m : Member) (e : Event)
    → moved (step r id sign m e) ≡ core r id m e (taken_came r sign m.came e)
core_is r id sign m e = refl

-- an event that does nothing by itself
abbrev idle : Event
idle = Event.Deliver (Message.Junk [])

abbrev IsIdle : Rules → ℕ → Member → Event → Type 0
IsIdle r id m e = (came : Came) → core r id m e came ≡ core r id m idle came

-- ---- a line of the member

module _ (r : Rules) (i : ℕ) (p : Member) (tickets : Tickets) where
  goes_do : (w : World) → slice_get w.members i ≡ Some (Some (bare p tickets)) → (ask : Ask)
      (e : Event) → event_of w i ask ≡ Some e
      → Goes r w (Do i ask ∷ []) i (step r i (signed w) (bare p tickets) e).member
      (step r i (signed w) (bare p tickets) e).sent
      (step r i (signed w) (bare p tickets) e).handed
  goes_do w at ask e is =
      let d : Stepped = step r i (signed w) (bare p tickets) e in
      let done = done_at r w (Do i ask) (bare p tickets) at
      ∙ ap (λ (o : Option Event). option_map (step r i (signed w) (bare p tickets)) o) is in
      goes_by r w (Do i ask) i (bare p tickets) d tt at done
      (ap (λ (o : Option Stepped). option_map_or (with_done w i) o w) done)

  -- with what came the same
  goes_direct : (w : World) → slice_get w.members i ≡ Some (Some (bare p tickets)) → (ask : Ask)
      (e : Event) → event_of w i ask ≡ Some e → (sign : ℕ → Vote → Bool)
      → taken_came r sign p.came e ≡ taken_came r (signed w) p.came e
      → TurnGoes r w i (step r i sign p e)
  goes_direct w at ask e is sign same =
      goes_same r w i (Do i ask ∷ []) (step r i (signed w) (bare p tickets) e) (step r i sign p e)
      (ap (λ (c : Came). core r i p e c) (sym same)) refl (goes_do w at ask e is)

  -- ---- a line behind one that brings bytes

  behind : (w : World) → slice_get w.members i ≡ Some (Some (bare p tickets)) → (bytes : List ℕ)
      (d : Stepped) → TurnGoes r (brought r w bytes) i d → TurnGoes r w i d
  behind w at bytes d later = record {
    lines = brings r bytes ∷ later.lines;
    member = later.member;
    same = later.same;
    goes =
        goes_on r w (brings r bytes ∷ []) later.lines i (bare p tickets) later.member [] d.sent []
        d.handed (goes_brought r w bytes i (bare p tickets) at) later.goes;
  }

  at_end : {X : Type 0} (xs : List X) (x : X) → slice_get (xs ++ x ∷ []) (length xs) ≡ Some x
  at_end [] x = refl
  at_end (y ∷ xs) x = at_end xs x

  message_there : (w : World) (bytes : List ℕ)
      → message_for (brought r w bytes) i (length w.pool) ≡ Some (message_of bytes)
  message_there w bytes =
      ap
      (λ (o : Option Sent). option_and_then
      (λ (s : Sent). if is_to i s.to then Some s.message else None) o)
      (at_end w.pool
      (record {
        number = length w.pool;
        from = r.epochs.total;
        to = (to_all (message_of bytes)).to;
        message = message_of bytes;
      }))

  still_signed : (w : World) (bytes : List ℕ) (sign : ℕ → Vote → Bool)
      → slice_get w.members i ≡ Some (Some (bare p tickets)) → IsWithin sign (signed w)
      → IsWithin sign (signed (brought r w bytes))
  still_signed w bytes sign at within j v h =
      ⊎_elim
      (λ bad. or_left (is_faulty w j) (list_any (is_sent_vote j v) (brought r w bytes).pool) bad)
      (λ said. or_right (is_faulty w j) (list_any (is_sent_vote j v) (brought r w bytes).pool)
      ((goes_brought r w bytes i (bare p tickets) at).pool j v said))
      (or_cases (is_faulty w j) (list_any (is_sent_vote j v) w.pool) (within j v h))

  -- an event that does nothing beside what came
  goes_idle : (w : World) → slice_get w.members i ≡ Some (Some (bare p tickets)) → (e : Event)
      (sign : ℕ → Vote → Bool) → taken_came r sign p.came e ≡ p.came → IsIdle r i p e
      → TurnGoes r w i (step r i sign p e)
  unfolding tagged_message_at
  goes_idle w at e sign none quiet =
      let v : World = brought r w [] in
      behind w at [] (step r i sign p e)
      (goes_same r v i (Do i (world.Deliver (length w.pool)) ∷ [])
      (step r i (signed v) (bare p tickets) idle) (step r i sign p e)
      (sym (ap (λ (c : Came). core r i p e c) none ∙ quiet p.came)) refl
      (goes_do v at (world.Deliver (length w.pool)) idle
      (ap (λ (o : Option Message). option_map Event.Deliver o) (message_there w []))))

  -- ---- what a turn brings

  goes_message : (w : World) → slice_get w.members i ≡ Some (Some (bare p tickets))
      → (bytes : List ℕ) (m : Message) → message_of bytes ≡ m → (sign : ℕ → Vote → Bool)
      → accepted r sign p.came m ≡ accepted r (signed (brought r w bytes)) p.came m
      → TurnGoes r w i (step r i sign p (Event.Deliver m))
  goes_message w at bytes m is sign same =
      behind w at bytes (step r i sign p (Event.Deliver m))
      (goes_direct (brought r w bytes) at (world.Deliver (length w.pool)) (Event.Deliver m)
      (ap (λ (o : Option Message). option_map Event.Deliver o) (message_there w bytes)
      ∙ ap (λ (x : Message). Some (Event.Deliver x)) is)
      sign same)

  goes_floor : (w : World) → slice_get w.members i ≡ Some (Some (bare p tickets))
      → (bytes : List ℕ) (s : Cert) → message_of bytes ≡ Message.Cert s
      → is_some (finalized s.vote) ≡ true → (sign : ℕ → Vote → Bool)
      → wished r sign p.came s ≡ wished r (signed (brought r w bytes)) p.came s
      → TurnGoes r w i (step r i sign p (Event.Floor s))
  goes_floor w at bytes s is final sign same =
      behind w at bytes (step r i sign p (Event.Floor s))
      (goes_direct (brought r w bytes) at (world.Floor (length w.pool)) (Event.Floor s)
      (ap (λ (o : Option Message). option_and_then as_finalization o) (message_there w bytes)
      ∙ ap as_finalization is
      ∙ ap (λ (b : Bool). if b then Some (Event.Floor s) else None) final)
      sign same)

  module _ (w : World) (at : slice_get w.members i ≡ Some (Some (bare p tickets)))
      (sign : ℕ → Vote → Bool) (within : IsWithin sign (signed w)) where
    by_message : (m : Message) → (bytes : List ℕ) → message_of bytes ≡ m
        → TurnGoes r w i (step r i sign p (Event.Deliver m))
    by_message (Message.Vote j v) bytes is =
        ⊎_elim (λ same. goes_message w at bytes (Message.Vote j v) is sign same)
        (λ none. goes_idle w at (Event.Deliver (Message.Vote j v)) sign none (λ came. refl))
        (vote_alike r sign (signed (brought r w bytes)) (still_signed w bytes sign at within) p.came
        j v)
    by_message (Message.Cert s) bytes is =
        ⊎_elim (λ same. goes_message w at bytes (Message.Cert s) is sign same)
        (λ none. goes_idle w at (Event.Deliver (Message.Cert s)) sign none (λ came. refl))
        (cert_alike r sign (signed (brought r w bytes)) (still_signed w bytes sign at within) p.came
        s)
    by_message (Message.Shard c x) bytes is =
        goes_message w at bytes (Message.Shard c x) is sign refl
    by_message (Message.Ask j c) bytes is = goes_message w at bytes (Message.Ask j c) is sign refl
    by_message (Message.AskHeight j h) bytes is =
        goes_message w at bytes (Message.AskHeight j h) is sign refl
    by_message (Message.Block b) bytes is = goes_message w at bytes (Message.Block b) is sign refl
    by_message (Message.Junk raw) bytes is = goes_message w at bytes (Message.Junk raw) is sign refl

    by_floor : (s : Cert) (bytes : List ℕ) → message_of bytes ≡ Message.Cert s
        → is_some (finalized s.vote) ≡ true → TurnGoes r w i (step r i sign p (Event.Floor s))
    by_floor s bytes is final =
        ⊎_elim (λ same. goes_floor w at bytes s is final sign same)
        (λ none. goes_idle w at (Event.Floor s) sign none (λ came. refl))
        (wish_alike r sign (signed (brought r w bytes)) (still_signed w bytes sign at within) p.came
        s)

    -- a turn is lines of a script
    pub turn_goes : (e : Event) → IsFromBytes e → TurnGoes r w i (step r i sign p e)
    turn_goes (Event.Propose payload) from =
        goes_direct w at (world.Propose payload) (Event.Propose payload) refl sign refl
    turn_goes (Event.Timeout view) from =
        goes_direct w at (world.Timeout view) (Event.Timeout view) refl sign refl
    turn_goes (Event.Deliver m) from = by_message m from.0 from.1
    turn_goes Event.Ack from = goes_direct w at world.Ack Event.Ack refl sign refl
    turn_goes (Event.Prune h) from =
        goes_direct w at (world.Prune h) (Event.Prune h) refl sign refl
    turn_goes (Event.Floor s) from = by_floor s from.0 from.1 from.2
    turn_goes (Event.Hint h) from = goes_direct w at (world.Hint h) (Event.Hint h) refl sign refl
    turn_goes (Event.WatchDigest d) from =
        goes_idle w at (Event.WatchDigest d) sign refl (λ came. refl)
    turn_goes (Event.WatchCommitment c) from =
        goes_idle w at (Event.WatchCommitment c) sign refl (λ came. refl)
    turn_goes (Event.Cancel n) from = goes_idle w at (Event.Cancel n) sign refl (λ came. refl)
