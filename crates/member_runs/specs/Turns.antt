-- The turns that lines ask of a member at work, and what they come to.
use Rattle.std.specs.Prelude.{[], List, None, Ok, Option, Result, Some, if◌then◌else◌, is_some, length, nat_lt, true, ℕ, ◌++◌, ◌∷◌, ◌≡◌}
use Rattle.cw_types.specs.Reading.{message_of}
use Rattle.cw_types.specs.Votes.{finalized}
use Rattle.cw_types.specs.declared.event.Event.{Event}
use Rattle.cw_types.specs.declared.event.Handed.{Handed}
use Rattle.cw_types.specs.declared.event.Out.{Out}
use Rattle.cw_types.specs.declared.message.Message.{Message}
use Rattle.cw_types.specs.declared.note.Note.{Note}
use Rattle.cw_rules.specs.Rules.{Rules}
use Rattle.cw_rules.specs.Step.{Member, Stepped, step}
use Rattle.marshal.specs.Frames.{FindsNotes}
use Rattle.node.specs.Lives.{Turn, after_turns}
use Rattle.node_disk.specs.Disk.{DeviceCall}
use Rattle.member_lines.specs.Claims.{claims}
use Rattle.member_lines.specs.HostLines.{host_line}
use Rattle.member_lines.specs.declared.line.HostLine.{HostLine}
use Rattle.member_lines.specs.declared.line.HostLine.TheVariants.{Take}
use Rattle.member_lines.specs.declared.refusal.Refusal.{Refusal}
use Rattle.member_session.specs.Talk.{longest_line}
use Rattle.member_session.specs.Told.{turn_calls, turn_notes}

-- the turn of a line that is an event
abbrev pub taken_in : Result HostLine Refusal → Option Turn
taken_in (Ok (Take event claim)) = Some (record { signed = claims claim; event = event })
taken_in _ = None

-- the turn that a line asks of a member at work, if it asks for one
abbrev pub turn_in : List ℕ → Option Turn
turn_in text = if nat_lt longest_line (length text) then None else taken_in (host_line text)

-- a turn, if there is one, in front of others
abbrev pub in_front : Option Turn → List Turn → List Turn
in_front None turns = turns
in_front (Some turn) turns = turn ∷ turns

-- the turns of some lines
abbrev pub turns_in : List (List ℕ) → List Turn
turns_in [] = []
turns_in (text ∷ lines) = in_front (turn_in text) (turns_in lines)

-- a message that an event brings was read from bytes; a floor is a finalization
abbrev pub IsFromBytes : Event → Type 0
IsFromBytes (Event.Deliver m) = (bytes : List ℕ) × (message_of bytes ≡ m)
IsFromBytes (Event.Floor s) =
    (bytes : List ℕ) × (message_of bytes ≡ Message.Cert s) × (is_some (finalized s.vote) ≡ true)
IsFromBytes _ = Unit {0}

-- what a turn comes to
abbrev pub turn_of : Rules → ℕ → Member → Turn → Stepped
turn_of r id m t = step r id t.signed m t.event

-- what some turns note, one behind the other
abbrev pub turns_notes : Rules → ℕ → Member → List Turn → List (List Note)
turns_notes r id m [] = []
turns_notes r id m (t ∷ ts) = turn_notes r id m t ∷ turns_notes r id (turn_of r id m t).member ts

-- the device calls that each of them tells
abbrev pub turns_calls : Rules → ℕ → Member → List Turn → List (List DeviceCall)
turns_calls r id m [] = []
turns_calls r id m (t ∷ ts) = turn_calls r id m t ∷ turns_calls r id (turn_of r id m t).member ts

-- what they send
abbrev pub turns_sends : Rules → ℕ → Member → List Turn → List Out
turns_sends r id m [] = []
turns_sends r id m (t ∷ ts) =
    (turn_of r id m t).sent ++ turns_sends r id (turn_of r id m t).member ts

-- what they hand out
abbrev pub turns_handed : Rules → ℕ → Member → List Turn → List Handed
turns_handed r id m [] = []
turns_handed r id m (t ∷ ts) =
    (turn_of r id m t).handed ++ turns_handed r id (turn_of r id m t).member ts

-- A start on this image finds the frames of the member behind some of these turns, from the first
-- on: all notes of each of them, and none of another.
pub record FindsTurns (r : Rules) (id : ℕ) (m : Member) (turns : List Turn) (image : List ℕ)
    : Type 0 where
  pub first : List Turn
  pub rest : List Turn
  pub whole : turns ≡ first ++ rest
  pub found : FindsNotes (after_turns r id m first).frames image
