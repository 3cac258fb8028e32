use Rattle.std.proofs.Common.{ap, ap₂, sym, ◌∙◌, arith}
use Rattle.rs_code.specs.Field.{times}
use Rattle.rs_code.specs.Transform.{by_next}
use Rattle.rs_code.proofs.TransformLaws.{vanishing_none, vanishing_more}
use Rattle.rs_code.proofs.subspaces.vanishing_at.Goals as goal

pub loop-step-init : goal.loop-step-init
loop-step-init c = sym (vanishing_none c.args.x)

pub loop-step-preserved : goal.loop-step-preserved
loop-step-preserved c =
    c.mul-y.ensures
    ∙ ap₂ times (c.with_next.ensures ∙ ap by_next c.loop-step.invariant)
    (c.requires.scales c.loop-step.step (omega arith))
    ∙ sym (vanishing_more c.loop-step.step c.args.x)
