-- What becomes of a member over its steps and its starts, whatever crashes.
use Rattle.std.specs.Prelude.{[], ℕ, ⊤, ◌+◌, ◌<◌, ◌∷◌, ◌≡◌, ◌≤◌, ◌⊎◌, Bool, IsTrue, List, count_by, false}
use Rattle.std.specs.List.{list_any}
use Rattle.cw_types.specs.declared.event.Event.{Event}
use Rattle.cw_types.specs.declared.message.Message.{Message}
use Rattle.cw_types.specs.declared.note.Note.{Note}
use Rattle.cw_types.specs.declared.vote.Vote.{Vote}
use Rattle.cw_types.specs.declared.vote.Vote.TheVariants.{Finalize, Notarize, Nullify}
use Rattle.cw_rules.specs.Owed.{is_of}
use Rattle.cw_rules.specs.Reached.{In}
use Rattle.cw_rules.specs.Rules.{Rules}
use Rattle.cw_rules.specs.Sends.{to_all}
use Rattle.cw_rules.specs.Step.{Member, start, step}

-- a step that a member takes: the votes that are found to be signed, and the event
pub record Turn : Type 0 where
  pub signed : ℕ → Vote → Bool
  pub event : Event

-- a member after these steps
abbrev pub after_turns : Rules → ℕ → Member → List Turn → Member
after_turns r id m [] = m
after_turns r id m (turn ∷ turns) = after_turns r id (step r id turn.signed m turn.event).member
    turns

-- a member that started on these frames, after these steps
abbrev pub since_start : Rules → ℕ → List (List Note) → List Turn → Member
since_start r id frames turns = after_turns r id (start r id frames).member turns

-- a member from a start to a crash: the rules that it goes by, and the steps whose notes lie on the
-- disk then. A step that the crash cuts is the last of them, or none of them
pub record Life : Type 0 where
  pub rules : Rules
  pub turns : List Turn

-- the frames on a disk after these lives, one after another
abbrev pub after_lives : ℕ → List (List Note) → List Life → List (List Note)
after_lives id frames [] = frames
after_lives id frames (life ∷ lives) = after_lives id
    (since_start life.rules id frames life.turns).frames lives

-- ---- own votes

-- a step of the member sends this vote of its own
abbrev pub SendsVote : Rules → ℕ → Member → Turn → Vote → Type 0
SendsVote r id m turn v =
    In (to_all (Message.Vote id v)) (step r id turn.signed m turn.event).sent

-- the note is an own vote to notarize in that view
abbrev pub notarizes : ℕ → ℕ → Note → Bool
notarizes epoch view (Note.Vote (Notarize p)) = is_of epoch view (Notarize p)
notarizes epoch view _ = false

-- the note is an own vote to nullify that view
abbrev pub nullifies : ℕ → ℕ → Note → Bool
nullifies epoch view (Note.Vote (Nullify e v)) = is_of epoch view (Nullify e v)
nullifies epoch view _ = false

-- the note is an own vote to finalize in that view
abbrev pub finalizes : ℕ → ℕ → Note → Bool
finalizes epoch view (Note.Vote (Finalize p)) = is_of epoch view (Finalize p)
finalizes epoch view _ = false

-- no two votes to notarize of one epoch and view, and never a vote to nullify a view and one to
-- finalize in it
pub record VotesOnce (notes : List Note) : Type 0 where
  pub one_notarize : (epoch view : ℕ) → count_by (notarizes epoch view) notes ≤ 1
  pub not_both : (epoch view : ℕ) → IsTrue (list_any (nullifies epoch view) notes)
      → IsTrue (list_any (finalizes epoch view) notes) → ⊥

-- ---- heights

-- where one height is due that one is handed out, or a noted floor above it
abbrev pub IsNext : List Note → ℕ → ℕ → Type 0
IsNext notes due height = (height ≡ due) ⊎ ((due < height) × In (Note.Floor height) notes)

-- heights that go up by one from the one that is due, save jumps to noted floors
abbrev pub GoUp : List Note → ℕ → List ℕ → Type 0
GoUp notes due [] = ⊤
GoUp notes due (height ∷ heights) = IsNext notes due height × GoUp notes (height + 1) heights
