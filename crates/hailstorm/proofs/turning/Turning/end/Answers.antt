use Rattle.std.proofs.Common.{◌≡◌, ◌≤◌, [], None, Ok, refl, sym, ap, subst, ◌∙◌, arith, rules, true}
use Rattle.hail_script.specs.Grammar.{IsRunnable}
use Rattle.std.specs.Prelude.{flat_map}
use Rattle.hail_script.specs.Lanes.{Laned, laned_of, lanes}
use Rattle.hail_script.specs.Scenario.{Scenario}
use Rattle.hailstorm.specs.Lanes.{left}
use Rattle.hail_world.specs.Clusters.{Cluster}
use Rattle.hail_world.specs.Places.{script_rules}
use Rattle.hailstorm.specs.Turns.{Turning}
use Rattle.hailstorm.proofs.Between.{between_of, over_cause, over_of}
use Rattle.hail_world.proofs.Known.{few_members}
use Rattle.hailstorm.proofs.Laned.{lanes_reported, tells_apart}
use Rattle.hailstorm.proofs.turning.Turning.end.Goals as goal

pub returns-in-Ok-clause-ok : goal.returns-in-Ok-clause-ok
returns-in-Ok-clause-ok g c = λ text spells.
    let i = c.self.inside in
    let x : Laned =
    record { script = i.cluster.script; numbers = i.numbers; sizes = i.sizes } in
    let hash = g.H.Hasher.digest_of in
    let nothing =
    subst
    (λ (t : Turning). t.stopped ≡ None
    → flat_map (λ lane. lane) (left (lanes t.laned) t.order) ≡ [])
    (sym c.self.view_is) c.requires c.in-None.is in
    let backlog =
    c.backlog-backlog.ensures.value ∙ ap (λ (s : Scenario). s.backlog) c.script-plain.ensures in
    let h =
    between_of hash x i.order i.stopped i.cluster i.cursors.items c.self.invariant c.in-None.is in
    lanes_reported hash text x i.order i.cluster i.cursors.items c.in-Ok.ran.report
    (subst (λ (t : Turning). laned_of text ≡ Ok t.laned) (sym c.self.view_is) spells) h nothing
    (c.goes_on.ensures (ap (λ (k : Cluster). k.over) h.played)) c.in-Ok.ensures.report
    ((rw c.script-plain.ensures at c.is_cluster.ensures) (script_rules hash i.cluster.script) refl)
    (omega (arith, backlog, c.backlog-backlog.ensures.bound)) c.report_laws.ensures

pub end-requires : goal.end-requires
end-requires g c =
    let i = c.self.inside in
    let x : Laned =
    record { script = i.cluster.script; numbers = i.numbers; sizes = i.sizes } in
    let h =
    between_of g.H.Hasher.digest_of x i.order i.stopped i.cluster i.cursors.items c.self.invariant
    c.in-None.is in
    (search rules, (search rules, ap (λ (k : Cluster). k.over) h.played))

pub returns-clause-err : goal.returns-clause-err
returns-clause-err g c = λ text spells.
    let i = c.self.inside in
    let x : Laned =
    record { script = i.cluster.script; numbers = i.numbers; sizes = i.sizes } in
    let hash = g.H.Hasher.digest_of in
    let s = i.cluster.script in
    let laned = subst (λ (t : Turning). laned_of text ≡ Ok t.laned) (sym c.self.view_is) spells in
    let few : s.committees.total ≤ 65535 =
    omega (
      arith,
      few_members s (subst IsRunnable c.script-plain.ensures c.lines-lines.ensures.runnable),
    ) in
    rw c.order_beside.ensures
    (over_cause hash text x i.order c.in-Some.error laned
    (over_of hash x i.order i.stopped i.cluster i.cursors.items c.self.invariant c.in-Some.error
    c.in-Some.is)
    c.clash_laws.ensures.blocks
    (tells_apart hash x (c.ruled_tells.ensures s.travel s.committees s.backlog (λ b a. true) few)
    ((rw c.script-plain.ensures at c.is_cluster.ensures) (script_rules hash s) refl)
    (c.script_laws.ensures.laned text x laned) c.clash_laws.ensures.texts))
