use Rattle.std.proofs.Common.{◌∙◌, List, ap, subst, sym, ℕ}
use Rattle.hailstorm.specs.Lanes.{IsLanesCause}
use Rattle.hailstorm.specs.LanesProgram.{lanes_text}
use Rattle.hailstorm.proofs.LanesMeaning.{lanes_done}
use Rattle.hailstorm.proofs.lane_program.run_whole.Goals as goal

pub returns-in-Ok-lanes_text-clause-answer : goal.returns-in-Ok-lanes_text-clause-answer
returns-in-Ok-lanes_text-clause-answer g c =
    lanes_done _ g.H.Hasher.digest_of c.args.text.now _ _ _ _ c.finish.result c.in-Ok.order c.in-Ok.report
    c.deref.result.now c.in-Ok.ensures.ok
    (c.deref.ensures.value ∙ c.in-Ok-lanes_text.ensures
    ∙ ap (λ (o : List ℕ). lanes_text g.H.Hasher.digest_of o c.in-Ok.report) c.as_slice.ensures)
    c.finish.ensures

pub returns-in-Err-clause-answer : goal.returns-in-Err-clause-answer
returns-in-Err-clause-answer g c =
    c.end_with.ensures.answer c.args.text.now
    (subst
    (λ (o : List ℕ). IsLanesCause g.H.Hasher.digest_of c.args.text.now o c.in-Err.error)
    (sym c.as_slice-in-Err.ensures) c.in-Err.ensures.err)
