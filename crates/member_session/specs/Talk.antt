-- The talk of a member with its host: what each line leaves, and what is answered.
use Rattle.std.specs.Prelude.{[], Bool, Err, List, None, Ok, Option, Result, Some, if◌then◌else◌, is_some, length, nat_lt, option_map, unwrap_or, ℕ, ◌++◌, ◌+◌, ◌≡◌, ◌∷◌}
use Rattle.cw_base.specs.declared.hash.Digest32.{Digest32}
use Rattle.cw_types.specs.Block.{Block}
use Rattle.cw_types.specs.declared.commitment.Commitment.{Commitment}
use Rattle.cw_types.specs.declared.event.Event.{Event}
use Rattle.cw_types.specs.declared.message.Message.TheVariants as message
use Rattle.cw_types.specs.declared.note.Note.{Note}
use Rattle.cw_types.specs.declared.vote.Cert.{Cert}
use Rattle.cw_rules.specs.Held.{at_height}
use Rattle.cw_rules.specs.Rules.{Rules, digest}
use Rattle.cw_rules.specs.Step.{member_notes, start, step}
use Rattle.cw_rules.specs.declared.travel.Travel.{Travel}
use Rattle.marshal.specs.Finding.{finalization, identified}
use Rattle.marshal.specs.Frames.{read_frames}
use Rattle.marshal.specs.declared.identifier.Identifier.TheVariants as ident
use Rattle.node.specs.Lives.{Turn}
use Rattle.hail_script.specs.Grammar.{script_by}
use Rattle.hail_script.specs.Scenario.{Scenario}
use Rattle.hail_script.specs.declared.error.RunError.{RunError}
use Rattle.hail_script.specs.declared.error.RunError.TheVariants as error
use Rattle.hail_report.specs.Text.{line}
use Rattle.member_lines.specs.Answers.{block_line, final_line, names_line, no_line, ok_line}
use Rattle.member_lines.specs.Claims.{claims}
use Rattle.member_lines.specs.HostLines.{host_line}
use Rattle.member_lines.specs.declared.claim.Claim.{Claim}
use Rattle.member_lines.specs.declared.line.HostLine.{HostLine}
use Rattle.member_lines.specs.declared.line.HostLine.TheVariants.{Ask, Disk, Start, Take}
use Rattle.member_lines.specs.declared.line.Question.{Question}
use Rattle.member_lines.specs.declared.line.Question.TheVariants as question
use Rattle.member_lines.specs.declared.refusal.Refusal.{Refusal}
use Rattle.member_lines.specs.declared.refusal.Refusal.TheVariants.{BadCommittee, Foreign, NoBlock, Syntax, TooEarly, TooLate, TooLong, UnknownMember}
use Rattle.member_session.specs.Serving.{Prepared, Serving, accepting, serving_rules}
use Rattle.member_session.specs.Told.{start_text, turn_text, view_line}
use Rattle.member_session.specs.declared.heading.Heading.{Heading}
use Rattle.member_session.specs.declared.session.Session.{Session}
use Rattle.member_session.specs.declared.session.Session.TheVariants as stage

-- what a line leaves, and what is answered
pub record Answered : Type 0 where
  pub session : Session Serving
  pub text : List ℕ

-- the line was done, with this told
abbrev pub done : Session Serving → List ℕ → Answered
done session text = record { session = session; text = text ++ ok_line }

-- the line was refused, and nothing changed
abbrev pub refused : Session Serving → Refusal → Answered
refused session refusal = record { session = session; text = no_line refusal }

-- ---- lines of the header

-- the lines of a header with one more
abbrev pub longer : Heading → List ℕ → List ℕ
longer h text = h.text ++ line text

-- why a header is refused that can't be longer
abbrev pub why_headed : RunError → Refusal
why_headed error.BadCommittee = BadCommittee
why_headed (error.UnknownMember at) = UnknownMember
why_headed _ = Syntax

-- The header is whole once its lines are a script; it lacks a line while what they miss is one
-- behind the last. All else is refused.
abbrev pub headed_as : Heading → List ℕ → Result Scenario RunError → Answered
headed_as h text (Ok s) =
    if nat_lt h.id s.committees.total
    then done (stage.Opening (record {
      id = h.id;
      epochs = s.committees;
      backlog = s.backlog;
      file = [];
    })) []
    else refused (stage.Heading h) UnknownMember
headed_as h text (Err (error.Syntax at)) =
    if nat_lt (h.count + 1) at
    then done (stage.Heading (record { id = h.id; text = longer h text; count = h.count + 1 })) []
    else refused (stage.Heading h) Syntax
headed_as h text (Err e) = refused (stage.Heading h) (why_headed e)

-- a line of the header
abbrev pub headed : Travel → Heading → List ℕ → Answered
headed travel h text = headed_as h text (script_by travel (longer h text))

-- ---- lines that prepare the start, and the start

-- a member that starts on these frames of notes
abbrev pub started : (List ℕ → Digest32) → Travel → Prepared → List (List Note) → Serving
started hash travel o frames =
    record {
      id = o.id;
      epochs = o.epochs;
      backlog = o.backlog;
      member = (start (accepting hash travel o.epochs o.backlog) o.id frames).member;
    }

-- a start on a file that is these frames of notes, or that isn't a member's
abbrev pub answered_start : (List ℕ → Digest32) → Travel → Prepared → Result (List (List Note)) ℕ
    → Answered
answered_start hash travel o (Ok frames) =
    done (stage.Running (started hash travel o frames))
    (start_text (accepting hash travel o.epochs o.backlog) o.id o.file frames)
answered_start hash travel o (Err place) = refused (stage.Opening o) (Foreign place)

-- a line between the header and the start
abbrev pub answered_open : (List ℕ → Digest32) → Travel → Prepared → HostLine → Answered
answered_open hash travel o (Disk bytes) =
    done (stage.Opening (record o { file = o.file ++ bytes })) []
answered_open hash travel o Start = answered_start hash travel o (read_frames o.file)
answered_open hash travel o _ = refused (stage.Opening o) TooEarly

-- ---- events

-- a step of the member: its host vouches for what it claims, and for nothing else
abbrev pub answered_turn : (List ℕ → Digest32) → Travel → Serving → Event → Claim → Answered
answered_turn hash travel s event claim =
    let r = serving_rules hash travel s in
    let turn : Turn = record { signed = claims claim; event = event } in
    done
    (stage.Running (record s { member = (step r s.id turn.signed s.member event).member }))
    (turn_text r s.id s.member turn)

-- ---- questions

-- a block that is there, and the commitment under which it is known
abbrev pub block_told : Rules → Option Commitment → Option Block → Option (List ℕ)
block_told r commitment block =
    option_map (λ b. block_line b.height (digest r b) commitment b.payload) block

-- what is told, if it is there
abbrev pub told_to : Rules → Serving → List Note → Question → Option (List ℕ)
told_to r s notes (question.At height) =
    block_told r (at_height r notes height) (identified r notes (ident.Height height))
told_to r s notes (question.OfDigest digest) =
    block_told r None (identified r notes (ident.Digest digest))
told_to r s notes (question.Under commitment) =
    block_told r (Some commitment) (identified r notes (ident.Commitment commitment))
told_to r s notes (question.Final height) =
    option_map (λ cert. final_line height (message.Cert cert)) (finalization r notes height)
told_to r s notes question.View = Some (view_line s.epochs notes)
told_to r s notes (question.Names m) = Some (names_line m)

-- what is told, or there is no such block
abbrev pub or_no_block : Serving → Option (List ℕ) → Answered
or_no_block s None = refused (stage.Running s) NoBlock
or_no_block s (Some text) = done (stage.Running s) text

-- a question, which changes nothing
abbrev pub answered_question : (List ℕ → Digest32) → Travel → Serving → Question → Answered
answered_question hash travel s q =
    or_no_block s (told_to (serving_rules hash travel s) s (member_notes s.member) q)

-- a line behind the start
abbrev pub answered_run : (List ℕ → Digest32) → Travel → Serving → HostLine → Answered
answered_run hash travel s (Disk bytes) = refused (stage.Running s) TooLate
answered_run hash travel s Start = refused (stage.Running s) TooLate
answered_run hash travel s (Take event claim) = answered_turn hash travel s event claim
answered_run hash travel s (Ask q) = answered_question hash travel s q

-- ---- the answer to a line

-- a line that asks for this
abbrev pub answered_ask : (List ℕ → Digest32) → Travel → Session Serving → HostLine → Answered
answered_ask hash travel (stage.Heading h) asked = refused (stage.Heading h) TooEarly
answered_ask hash travel (stage.Opening o) asked = answered_open hash travel o asked
answered_ask hash travel (stage.Running s) asked = answered_run hash travel s asked

-- a line that asks for nothing: until the header is whole it may be one of that
abbrev pub else_headed : Travel → Session Serving → List ℕ → Refusal → Answered
else_headed travel (stage.Heading h) text Syntax = headed travel h text
else_headed travel session text refusal = refused session refusal

-- a line that was read, or not
abbrev pub answered_read : (List ℕ → Digest32) → Travel → Session Serving → List ℕ
    → Result HostLine Refusal → Answered
answered_read hash travel session text (Ok asked) = answered_ask hash travel session asked
answered_read hash travel session text (Err refusal) = else_headed travel session text refusal

-- the most bytes of a line
abbrev pub longest_line : ℕ
longest_line = 4194304

-- a line
abbrev pub answered : (List ℕ → Digest32) → Travel → Session Serving → List ℕ → Answered
answered hash travel session text =
    if nat_lt longest_line (length text) then refused session TooLong
    else answered_read hash travel session text (host_line text)

-- ---- the answers to lines, one behind the other

-- a member of this number, of which nothing else is known
abbrev pub new_session : ℕ → Session Serving
new_session id = stage.Heading (record { id = id; text = []; count = 0 })

-- what all that is told behind some lines comes to
abbrev pub answers : (List ℕ → Digest32) → Travel → Session Serving → List (List ℕ) → List ℕ
answers hash travel session [] = []
answers hash travel session (text ∷ more) =
    let a = answered hash travel session text in
    a.text ++ answers hash travel a.session more

-- the session behind some lines
abbrev pub session_after : (List ℕ → Digest32) → Travel → Session Serving → List (List ℕ)
    → Session Serving
session_after hash travel session [] = session
session_after hash travel session (text ∷ more) =
    session_after hash travel (answered hash travel session text).session more

-- a line left this session, and put its answer behind what was told before
pub record Answers (a : Answered) (before after : List ℕ) (session : Session Serving) : Type 0 where
  pub left : session ≡ a.session
  pub told : after ≡ before ++ a.text

-- what is told, if anything is, was put behind what was told before
pub record TellsFound (text : Option (List ℕ)) (before after : List ℕ) (there : Bool) : Type 0 where
  pub found : there ≡ is_some text
  pub told : after ≡ before ++ unwrap_or text []
