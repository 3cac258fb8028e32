use Rattle.std.proofs.Common.{Bool, subst}
use Rattle.std.specs.Prelude.{string_bytes}
use Rattle.std.proofs.lemmas.Result.{IfOk-weaker}
use Rattle.cw_rules.specs.Step.{member_notes}
use Rattle.member_session.specs.Serving.{serving_rules}
use Rattle.member_session.specs.Talk.{TellsFound, told_to}
use Rattle.member_session.proofs.Lined.{found_answer, none_answer}
use Rattle.member_session.proofs.running.Running.ask.Goals as goal

pub returns-in-Ok-true : goal.returns-in-Ok-true
returns-in-Ok-true g c =
    let s = c.args.self in
    IfOk-weaker c.done.result _ _
    (λ left e. found_answer s
    (told_to (serving_rules g.H.Hasher.digest_of g.W.Way.travel s) s (member_notes s.member)
    c.args.question.now)
    (string_bytes c.args.out.now) (string_bytes c.tells.new.out) (string_bytes c.done.new.out) left
    (subst
    (λ (b : Bool). TellsFound
    (told_to (serving_rules g.H.Hasher.digest_of g.W.Way.travel s) s (member_notes s.member)
    c.args.question.now)
    (string_bytes c.args.out.now) (string_bytes c.tells.new.out) b)
    c.in-Ok-true.field-0-test c.in-Ok-true.ensures)
    e.0 e.1)
    c.done.ensures

pub returns-in-Ok-false : goal.returns-in-Ok-false
returns-in-Ok-false g c =
    let s = c.args.self in
    IfOk-weaker c.refused.result _ _
    (λ left e. none_answer s
    (told_to (serving_rules g.H.Hasher.digest_of g.W.Way.travel s) s (member_notes s.member)
    c.args.question.now)
    (string_bytes c.args.out.now) (string_bytes c.tells.new.out) (string_bytes c.refused.new.out)
    left (subst
    (λ (b : Bool). TellsFound
    (told_to (serving_rules g.H.Hasher.digest_of g.W.Way.travel s) s (member_notes s.member)
    c.args.question.now)
    (string_bytes c.args.out.now) (string_bytes c.tells.new.out) b)
    c.in-Ok-false.field-0-test c.in-Ok-false.ensures)
    e.0 e.1)
    c.refused.ensures
