use Rattle.std.proofs.Common.{◌∙◌, List, subst, ℕ}
use Rattle.hail_script.specs.declared.error.RunError.{RunError}
use Rattle.hailstorm.specs.Lanes.{IsLanesCause}
use Rattle.hailstorm.proofs.LanesMeaning.{lanes_clash, lanes_early}
use Rattle.hailstorm.proofs.lane_program.end_with.Goals as goal

pub returns-in-Ok-clause-answer : goal.returns-in-Ok-clause-answer
returns-in-Ok-clause-answer g c = λ text cause.
    let hash = g.H.Hasher.digest_of in
    lanes_clash _ hash text _ _ _ _ c.finish.result c.args.order.now c.in-HashClash.earlier
    c.in-HashClash.later c.deref.result.now
    (subst (λ (e : RunError). IsLanesCause hash text c.args.order.now e) c.in-HashClash.is cause)
    (rw (c.as_slice.ensures, c.as_slice-in-HashClash.ensures) at
    (c.deref.ensures.value ∙ c.in-Ok.ensures))
    c.finish.ensures

pub returns-in_default-clause-answer : goal.returns-in_default-clause-answer
returns-in_default-clause-answer g c = λ text cause.
    lanes_early _ g.H.Hasher.digest_of text _ _ _ _ c.end_early.result c.args.order.now c.args.error
    (λ a b e. c.in_default.not-HashClash a b e) cause
    (rw c.early_of.ensures at c.end_early.ensures)
