use Rattle.std.proofs.Common.{◌≡◌, ◌∙◌, ap, subst}
use Rattle.std.specs.List.{enumerate_from}
use Rattle.hail_script.specs.Grammar.{first_event}
use Rattle.hail_world.specs.Clusters.{Cluster}
use Rattle.hail_world.specs.Places.{script_rules}
use Rattle.hail_world.specs.Runs.{IsStopped, opened}
use Rattle.hail_world.proofs.Running.{ran}
use Rattle.hail_world.proofs.world.run_script.Goals as goal

pub returns-in-Err-clause-err : goal.returns-in-Err-clause-err
returns-in-Err-clause-err g c =
    let hash = g.H.Hasher.digest_of in
    subst
    (λ (k : Cluster). IsStopped (script_rules hash k.script) (opened hash k.script) k.script.lines
    c.in-Err.error)
    c.in_ok-cluster.ensures c.in-Err.ensures.err

pub returns-in-Ok-end-clause-script : goal.returns-in-Ok-end-clause-script
returns-in-Ok-end-clause-script g c =
    let all =
    c.in-Ok.ensures.ok
    ∙ ap
    (λ (k : Cluster). let n : Cluster =
    record k { rows = enumerate_from (first_event k.script.committees) k.script.lines } in n)
    c.in_ok-cluster.ensures in
    c.in-Ok-end.ensures.script ∙ ap (λ (k : Cluster). k.script) all

pub returns-in-Ok-end-clause-ok : goal.returns-in-Ok-end-clause-ok
returns-in-Ok-end-clause-ok g c =
    let hash = g.H.Hasher.digest_of in
    let all =
    c.in-Ok.ensures.ok
    ∙ ap
    (λ (k : Cluster). let n : Cluster =
    record k { rows = enumerate_from (first_event k.script.committees) k.script.lines } in n)
    c.in_ok-cluster.ensures in
    ran hash c.args.script c.play_all.new.cluster c.in-Ok-end.ran.report all
    (c.goes_on.ensures (ap (λ (k : Cluster). k.over) all)) c.in-Ok-end.ensures.report
