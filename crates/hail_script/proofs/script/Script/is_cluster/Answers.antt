use Rattle.std.proofs.Common.{sym, ap, ◌∙◌, subst}
use Rattle.cw_rules.specs.Reached.{IsCluster}
use Rattle.hail_script.specs.Scenario.{Scenario}
use Rattle.hail_script.proofs.Clusters.{cluster}
use Rattle.hail_script.proofs.script.Script.is_cluster.Goals as goal

pub returns : goal.returns
returns c r is =
    let x = c.self.inside.committees in
    let lines = c.self.inside.events in
    let sound = c.committees_are_sound.ensures in
    let here =
    cluster x lines c.self.invariant.3.few sound.enough sound.rising sound.there sound.spans r
    (is ∙ sym (ap (λ (s : Scenario). s.committees) c.self.view_is)) in
    subst (λ (s : Scenario). IsCluster r s.lines) c.self.view_is here
