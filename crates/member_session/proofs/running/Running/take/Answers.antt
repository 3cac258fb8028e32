use Rattle.std.proofs.Common.{subst, sym}
use Rattle.std.specs.Prelude.{IfOk, string_bytes}
use Rattle.std.proofs.lemmas.Result.{IfOk-weaker}
use Rattle.member_lines.specs.declared.line.HostLine.{HostLine}
use Rattle.member_session.specs.Talk.{Answers, answered_run}
use Rattle.member_session.proofs.Lined.{turn_answer}
use Rattle.member_session.proofs.running.Running.take.Goals as goal

pub returns-in_ok-left-in-Take : goal.returns-in_ok-left-in-Take
returns-in_ok-left-in-Take g c =
    subst
    (λ (a : HostLine). IfOk c.done.result (λ left. Answers
    (answered_run g.H.Hasher.digest_of g.W.Way.travel c.args.self a) (string_bytes c.args.out.now)
    (string_bytes c.done.new.out) left))
    (sym c.in-Take.is)
    (IfOk-weaker c.done.result _ _
    (λ left e. turn_answer g.H.Hasher.digest_of g.W.Way.travel c.args.self
    c.in_ok-left-in-Take.left c.in-Take.event c.in-Take.claim (string_bytes c.args.out.now)
    (string_bytes c.turn.new.out) (string_bytes c.done.new.out) left
    c.in_ok-left-in-Take.ensures e.0 e.1)
    c.done.ensures)
