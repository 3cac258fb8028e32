use Rattle.std.proofs.Common.{ap, sym, ◌∙◌}
use Rattle.member_lines.specs.Ahead.{Ahead}
use Rattle.member_session.proofs.Served.{ends_answered, ends_counted, ends_next, ends_with, served_none, served_with}
use Rattle.member_session.proofs.program.serve.Goals as goal

pub lines-init : goal.lines-init
lines-init g c =
    served_none _ _ _ _ _ _ _ _ (ap (λ (a : Ahead). a.ahead) c.in-Ok.ensures)
    c.fresh-session.ensures

pub returns-in-Some : goal.returns-in-Some
returns-in-Some g c =
    ends_next _ _ _ _ _ _ _ _ _ _ _ _ _ _ _ _ c.lines.invariant _ _ (sym c.in-Some.ensures)
    c.next-next.ensures

pub returns-in-Err : goal.returns-in-Err
returns-in-Err g c =
    ends_answered _ _ _ _ _ _ _ _ _ _ _ _ _ _ _ _ c.lines.invariant _ _ _ _ _ c.line.ensures
    (sym c.in_default-end_of.ensures) c.next-next.ensures c.in-Err.ensures

pub returns-then-is_last : goal.returns-then-is_last
returns-then-is_last g c =
    ends_with _ _ _ _ _ _ _ _ _ _ _ _ _ _ _ _ c.lines.invariant _ _ _ _ _ c.line.ensures
    (sym c.is_last.ensures ∙ c.if-is_last.true) c.next-next.ensures c.in-Ok-answer_line.ensures

pub lines-preserved : goal.lines-preserved
lines-preserved g c =
    served_with _ _ _ _ _ _ _ _ _ _ _ _ _ _ _ _ c.lines.invariant _ _ _ _ _ c.line.ensures
    (sym c.in_default-end_of.ensures) (sym c.is_last.ensures ∙ c.if-is_last.false)
    c.next-next.ensures c.in-Ok-answer_line.ensures

pub returns : goal.returns
returns g c = ends_counted _ _ _ _ _ _ _ _ _ _ _ _ _ c.lines.invariant c.lines-test.false
