-- What lines make of a session.
use Rattle.std.proofs.Common.{◌≡◌, ℕ, Bool, true, false, if◌then◌else◌, nat_lt, List, [], ◌∷◌, ◌++◌, Option, Some, None, Result, Ok, Err, length, refl, sym, ◌∙◌, ap, subst}
use Rattle.std.specs.Prelude.{codes}
use Rattle.std.proofs.lemmas.Option.{same_Some}
use Rattle.cw_base.specs.declared.hash.Digest32.{Digest32}
use Rattle.cw_types.specs.declared.note.Note.{Note}
use Rattle.cw_rules.specs.Step.{Member}
use Rattle.cw_rules.specs.declared.travel.Travel.{Travel}
use Rattle.marshal.specs.Frames.{read_frames}
use Rattle.node.specs.Lives.{Turn, after_turns}
use Rattle.member_lines.specs.HostLines.{host_line}
use Rattle.member_lines.specs.declared.line.HostLine.{HostLine}
use Rattle.member_lines.specs.declared.line.HostLine.TheVariants.{Ask, Disk, Start, Take}
use Rattle.member_lines.specs.declared.refusal.Refusal.{Refusal}
use Rattle.member_lines.specs.declared.refusal.Refusal.TheVariants.{TooLong}
use Rattle.member_session.specs.Serving.{Prepared, Serving, serving_rules}
use Rattle.member_session.specs.Talk.{Answered, answered, answered_read, answered_start, done, longest_line, or_no_block, refused, session_after, started}
use Rattle.member_session.specs.Told.{turn_text}
use Rattle.member_session.specs.declared.session.Session.{Session}
use Rattle.member_session.specs.declared.session.Session.TheVariants as stage
use Rattle.member_runs.specs.Turns.{IsFromBytes, in_front, taken_in, turn_in, turn_of, turns_in}
use Rattle.member_runs.proofs.Lines.{FromBytes, line_from}

-- a turn was read from bytes
pub from_bytes : (text : List ℕ) (t : Turn) → turn_in text ≡ Some t → IsFromBytes t.event
from_bytes text t is =
    go (nat_lt longest_line (length text)) (host_line text) (line_from text) is
  where
    go : (b : Bool) (o : Result HostLine Refusal) → FromBytes o
        → (if b then None else taken_in o) ≡ Some t → IsFromBytes t.event
    go true o from is = absurd (cc)
    go false (Ok (Take event claim)) from is =
        subst (λ (x : Turn). IsFromBytes x.event) (same_Some _ t is) from
    go false (Ok (Disk bytes)) from is = absurd (cc)
    go false (Ok Start) from is = absurd (cc)
    go false (Ok (Ask q)) from is = absurd (cc)
    go false (Err refusal) from is = absurd (cc)

module _ (hash : List ℕ → Digest32) (travel : Travel) where
  -- the member of a process with another member of the rules
  abbrev pub going_on : Serving → Member → Serving
  going_on s m = record s { member = m }

  module _ (s : Serving) (text : List ℕ) where
    abbrev by_turn : Turn → Answered
    by_turn t =
        done (stage.Running (going_on s (turn_of (serving_rules hash travel s) s.id s.member t).member))
        (turn_text (serving_rules hash travel s) s.id s.member t)

    pub turn_answer : (t : Turn) → turn_in text ≡ Some t
        → answered hash travel (stage.Running s) text ≡ by_turn t
    turn_answer t is = go (nat_lt longest_line (length text)) (host_line text) is
      where
        go : (b : Bool) (o : Result HostLine Refusal) → (if b then None else taken_in o) ≡ Some t
            → (if b then refused (stage.Running s) TooLong
            else answered_read hash travel (stage.Running s) text o)
            ≡ by_turn t
        go true o is = absurd (cc)
        go false (Ok (Take event claim)) is = ap by_turn (same_Some _ t is)
        go false (Ok (Disk bytes)) is = absurd (cc)
        go false (Ok Start) is = absurd (cc)
        go false (Ok (Ask q)) is = absurd (cc)
        go false (Err refusal) is = absurd (cc)

    asked : (o : Option (List ℕ)) → (or_no_block s o).session ≡ stage.Running s
    asked None = refl
    asked (Some told) = refl

    pub no_turn : turn_in text ≡ None
        → (answered hash travel (stage.Running s) text).session ≡ stage.Running s
    no_turn is = go (nat_lt longest_line (length text)) (host_line text) is
      where
        go : (b : Bool) (o : Result HostLine Refusal) → (if b then None else taken_in o) ≡ None
            → (if b then refused (stage.Running s) TooLong
            else answered_read hash travel (stage.Running s) text o).session
            ≡ stage.Running s
        go true o is = refl
        go false (Ok (Take event claim)) is = absurd (cc)
        go false (Ok (Disk bytes)) is = refl
        go false (Ok Start) is = refl
        go false (Ok (Ask q)) is = asked _
        go false (Err refusal) is = refl

  -- lines leave the member behind their turns
  pub lines_go : (s : Serving) (lines : List (List ℕ))
      → session_after hash travel (stage.Running s) lines
      ≡ stage.Running
      (going_on s (after_turns (serving_rules hash travel s) s.id s.member (turns_in lines)))
  lines_go s [] = refl
  lines_go s (text ∷ lines) = go (turn_in text) refl (λ (x : Serving). lines_go x lines)
    where
      go : (o : Option Turn) → turn_in text ≡ o
          → ((x : Serving)
          → session_after hash travel (stage.Running x) lines
          ≡ stage.Running
          (going_on x (after_turns (serving_rules hash travel x) x.id x.member (turns_in lines))))
          → session_after hash travel (answered hash travel (stage.Running s) text).session lines
          ≡ stage.Running
          (going_on s (after_turns (serving_rules hash travel s) s.id s.member
          (in_front (turn_in text) (turns_in lines))))
      go None is further =
          ap (λ (x : Session Serving). session_after hash travel x lines) (no_turn s text is)
          ∙ further s
          ∙ sym
          (ap
          (λ (o : Option Turn). stage.Running
          (going_on s (after_turns (serving_rules hash travel s) s.id s.member
          (in_front o (turns_in lines)))))
          is)
      go (Some t) is further =
          ap (λ (a : Answered). session_after hash travel a.session lines)
          (turn_answer s text t is)
          ∙ further (going_on s (turn_of (serving_rules hash travel s) s.id s.member t).member)
          ∙ sym
          (ap
          (λ (o : Option Turn). stage.Running
          (going_on s (after_turns (serving_rules hash travel s) s.id s.member
          (in_front o (turns_in lines)))))
          is)

  session_both : (session : Session Serving) (first second : List (List ℕ))
      → session_after hash travel session (first ++ second)
      ≡ session_after hash travel (session_after hash travel session first) second
  session_both session [] second = refl
  session_both session (text ∷ first) second =
      session_both (answered hash travel session text).session first second

  -- the line `start` behind those that prepare it
  pub start_goes : (session : Session Serving) (opening : List (List ℕ)) (o : Prepared)
      (frames : List (List Note))
      → session_after hash travel session opening ≡ stage.Opening o
      → read_frames o.file ≡ Ok frames
      → session_after hash travel session (opening ++ codes "start" ∷ [])
      ≡ stage.Running (started hash travel o frames)
  start_goes session opening o frames opens found =
      session_both session opening (codes "start" ∷ [])
      ∙ ap (λ (x : Session Serving). session_after hash travel x (codes "start" ∷ [])) opens
      ∙ ap (λ x. (answered_start hash travel o x).session) found
