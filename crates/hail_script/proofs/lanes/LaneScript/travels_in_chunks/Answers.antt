use Rattle.std.proofs.Common.{◌≡◌, subst}
use Rattle.cw_rules.specs.declared.travel.Travel.TheVariants.{Chunked}
use Rattle.hail_script.specs.Lanes.{Laned}
use Rattle.hail_script.proofs.lanes.LaneScript.travels_in_chunks.Goals as goal

pub returns : goal.returns
returns c = subst (λ (x : Laned). x.script.travel ≡ Chunked) c.self.view_is c.self.invariant
