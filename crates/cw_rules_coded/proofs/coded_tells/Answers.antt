use Rattle.cw_rules.specs.declared.travel.Travel.TheVariants.{Chunked}
use Rattle.cw_rules_coded.proofs.Told.{tells_blocks}
use Rattle.cw_rules_coded.proofs.coded_tells.Goals as goal

pub returns : goal.returns
returns g c =
    let laws =
    g.met.H.Hasher g.world.𝓛 g.world.𝓜 g.world.𝓡 ((λ s x. x), (λ x. x), (λ x. x), λ x. x) in
    λ epochs backlog accepts few. tells_blocks Chunked g.H.Hasher.digest_of epochs backlog
    accepts laws.sized few
