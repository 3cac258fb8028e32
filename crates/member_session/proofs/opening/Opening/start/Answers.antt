use Rattle.std.proofs.Common.{◌∙◌, ap}
use Rattle.std.specs.Prelude.{string_bytes}
use Rattle.std.proofs.lemmas.Result.{IfOk-weaker}
use Rattle.member_session.specs.Serving.{Serving}
use Rattle.member_session.specs.declared.session.Session.TheVariants as stage
use Rattle.member_session.proofs.Begun.{started_answer}
use Rattle.member_session.proofs.opening.Opening.start.Goals as goal

pub returns-in_ok-running-in-Ok : goal.returns-in_ok-running-in-Ok
returns-in_ok-running-in-Ok g c =
    IfOk-weaker c.done.result _ _
    (λ left e. started_answer g.H.Hasher.digest_of g.W.Way.travel c.args.self c.in-Ok.member
    c.in-Ok.step (string_bytes c.args.out.now) (string_bytes c.started-running.new.out)
    (string_bytes c.done.new.out) left c.in-Ok.ensures.begins c.in_ok-running-in-Ok.ensures.told
    (e.0 ∙ ap (λ (s : Serving). stage.Running s) c.in_ok-running-in-Ok.ensures.left) e.1)
    c.done.ensures
