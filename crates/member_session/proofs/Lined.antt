-- The end of an answer, behind what was told.
use Rattle.std.proofs.Common.{◌≡◌, ◌∙◌, ◌++◌, Bool, List, None, Option, Some, ap, append_assoc, false, true, ℕ}
use Rattle.std.proofs.lemmas.List.{append-nil}
use Rattle.cw_base.specs.declared.hash.Digest32.{Digest32}
use Rattle.cw_types.specs.declared.event.Event.{Event}
use Rattle.cw_rules.specs.declared.travel.Travel.{Travel}
use Rattle.member_lines.specs.Answers.{no_line, ok_line}
use Rattle.member_lines.specs.Claims.{claims}
use Rattle.member_lines.specs.declared.claim.Claim.{Claim}
use Rattle.member_lines.specs.declared.refusal.Refusal.TheVariants.{NoBlock}
use Rattle.member_session.specs.Serving.{Serving, serving_rules}
use Rattle.member_session.specs.Talk.{Answers, TellsFound, answered_turn, or_no_block}
use Rattle.member_session.specs.Told.{Turns, turn_text}
use Rattle.member_session.specs.declared.session.Session.{Session}
use Rattle.member_session.specs.declared.session.Session.TheVariants as stage

-- what is there was told
pub found_answer : (s : Serving) (text : Option (List ℕ)) (before mid after : List ℕ)
    (left : Session Serving)
    → TellsFound text before mid true → left ≡ stage.Running s → after ≡ mid ++ ok_line
    → Answers (or_no_block s text) before after left
found_answer s None before mid after left tells goes ends =
    let no : true ≡ false = tells.found in cc
found_answer s (Some text) before mid after left tells goes ends = record {
  left = goes;
  told =
      ends ∙ ap (λ (l : List ℕ). l ++ ok_line) tells.told ∙ append_assoc before text ok_line;
}

-- nothing is there
pub none_answer : (s : Serving) (text : Option (List ℕ)) (before mid after : List ℕ)
    (left : Session Serving)
    → TellsFound text before mid false → left ≡ stage.Running s
    → after ≡ mid ++ no_line NoBlock → Answers (or_no_block s text) before after left
none_answer s None before mid after left tells goes ends = record {
  left = goes;
  told =
      ends ∙ ap (λ (l : List ℕ). l ++ no_line NoBlock) (tells.told ∙ append-nil before);
}
none_answer s (Some text) before mid after left tells goes ends =
    let no : false ≡ true = tells.found in cc

-- an event was taken
pub turn_answer : (hash : List ℕ → Digest32) (travel : Travel) (s left : Serving) (event : Event)
    (claim : Claim) (before mid after : List ℕ) (session : Session Serving)
    → Turns (serving_rules hash travel s) s (record { signed = claims claim; event = event }) before
    mid left
    → session ≡ stage.Running left → after ≡ mid ++ ok_line
    → Answers (answered_turn hash travel s event claim) before after session
turn_answer hash travel s left event claim before mid after session turns goes ends = record {
  left = goes ∙ ap (λ (x : Serving). stage.Running x) turns.member;
  told =
      ends
      ∙ ap (λ (l : List ℕ). l ++ ok_line) turns.told
      ∙ append_assoc before
      (turn_text (serving_rules hash travel s) s.id s.member
      (record { signed = claims claim; event = event }))
      ok_line;
}
