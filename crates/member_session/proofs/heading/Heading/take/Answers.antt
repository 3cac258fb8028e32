use Rattle.std.proofs.Common.{◌≡◌, ◌∙◌, ◌++◌, Err, IfOk, List, Ok, Result, ap, string_bytes, sym, ℕ}
use Rattle.cw_rules.specs.declared.travel.Travel.{Travel}
use Rattle.hail_report.specs.Text as report
use Rattle.hail_script.specs.Grammar.{script_by}
use Rattle.hail_script.specs.Scenario.{Scenario}
use Rattle.hail_script.specs.declared.error.RunError.{RunError}
use Rattle.member_session.specs.Serving.{Serving}
use Rattle.member_session.specs.Talk.{Answers, headed, headed_as}
use Rattle.member_session.specs.declared.session.Session.{Session}
use Rattle.member_session.proofs.Headed.{headed_by, where_ok}
use Rattle.member_session.proofs.heading.Heading.take.Goals as goal

pub returns-in-Ok : goal.returns-in-Ok
returns-in-Ok g c =
    let h = c.args.self in
    let line = c.args.line.now in
    let read : Result Scenario RunError = Ok c.in-Ok.script in
    let before = string_bytes c.args.out.now in
    let after = string_bytes c.whole.new.out in
    where_ok c.whole.result
    (λ (left : Session Serving). (x : List ℕ) → Answers (headed_as h x read) before after left)
    (λ (left : Session Serving). Answers (headed g.W.Way.travel h line) before after left)
    (λ (left : Session Serving) answers.
    headed_by g.W.Way.travel h line c.as_slice-2.result.now read before after left
    (c.as_slice-2.ensures
    ∙ (c.in_ok-longer.ensures ∙ ap (λ (l : List ℕ). l ++ report.line line) c.as_slice.ensures))
    (ap (λ (t : Travel). script_by t c.as_slice-2.result.now) (sym c.travel.ensures) ∙ c.in-Ok.ensures.ok)
    (answers line))
    c.whole.ensures
