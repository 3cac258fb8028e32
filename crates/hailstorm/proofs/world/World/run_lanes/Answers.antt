use Rattle.std.proofs.Common.{◌∙◌, Ok, Result, ap, sym}
use Rattle.hail_script.specs.Lanes.{Laned}
use Rattle.hail_script.specs.declared.error.RunError.{RunError}
use Rattle.hailstorm.proofs.LanesChain.{kept_one_chain}
use Rattle.hailstorm.proofs.world.World.run_lanes.Goals as goal

pub returns-in-Some-clause-one_chain : goal.returns-in-Some-clause-one_chain
returns-in-Some-clause-one_chain g c =
    kept_one_chain g.H.Hasher.digest_of c.args.script.now c.end_of.result
    (c.end_of.ensures.ok c.args.script.now
    (c.in-Ok.ensures.ok
    ∙ ap (λ (x : Laned). let o : Result Laned RunError = Ok x in o) (sym c.in-Some.ensures)))

pub returns-in-Ok-open_text-clause-one_chain : goal.returns-in-Ok-open_text-clause-one_chain
returns-in-Ok-open_text-clause-one_chain g c =
    kept_one_chain g.H.Hasher.digest_of c.args.script.now c.end_of-in-Ok-open_text.result
    (c.end_of-in-Ok-open_text.ensures.ok c.args.script.now c.in-Ok-open_text.ensures.ok)
