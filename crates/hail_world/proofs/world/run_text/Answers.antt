use Rattle.std.proofs.Common.{◌≡◌, ◌<◌, ◌≤◌, Ok, Result, refl, sym, ap, subst, ◌∙◌, arith, true}
use Rattle.hail_script.specs.Scenario.{Scenario}
use Rattle.hail_script.specs.declared.error.RunError.{RunError}
use Rattle.hail_world.specs.Places.{script_rules}
use Rattle.hail_world.specs.Reports.{IsRun}
use Rattle.hail_world.proofs.Known.{few_members}
use Rattle.hail_world.proofs.Refusals.{refused}
use Rattle.hail_world.proofs.Reporting.{caused, reported}
use Rattle.hail_world.proofs.OneChain.{report_one_chain}
use Rattle.hail_world.proofs.world.run_text.Goals as goal

pub returns-in-Err-clause-err : goal.returns-in-Err-clause-err
returns-in-Err-clause-err g c =
    refused g.W.Way.travel g.H.Hasher.digest_of c.args.text.now c.in-Err.error
    (rw c.travel.ensures at c.in-Err.ensures.err)

pub returns-in-Ok-run_script-clause-spells : goal.returns-in-Ok-run_script-clause-spells
returns-in-Ok-run_script-clause-spells g c =
    (rw c.travel.ensures at c.in-Ok.ensures.ok)
    ∙ ap (λ (s : Scenario). let o : Result Scenario RunError = Ok s in o)
    (sym c.in-Ok-run_script.ensures.script)

pub returns-in-Ok-run_script-clause-run : goal.returns-in-Ok-run_script-clause-run
returns-in-Ok-run_script-clause-run g c =
    subst (λ (s : Scenario). IsRun g.H.Hasher.digest_of s c.in-Ok-run_script.ran.report)
    (sym c.in-Ok-run_script.ensures.script) c.in-Ok-run_script.ensures.ok

pub returns-in-Ok-run_script-clause-report : goal.returns-in-Ok-run_script-clause-report
returns-in-Ok-run_script-clause-report g c =
    let hash = g.H.Hasher.digest_of in
    let s = c.in-Ok.script in
    let h = c.in-Ok-run_script.ensures.ok in
    let some : 0 < (script_rules hash s).backlog =
    omega (arith, c.backlog-backlog.ensures.bound, c.backlog-backlog.ensures.value) in
    reported g.W.Way.travel hash c.args.text.now s c.in-Ok-run_script.ran.report
    (rw c.travel.ensures at c.in-Ok.ensures.ok) h
    (c.is_cluster.ensures (script_rules hash s) refl)
    (c.report_laws.ensures (script_rules hash s) s.lines h.world
    (c.is_cluster.ensures (script_rules hash s) refl) some h.ends)

pub returns-in-Err-run_script-clause-err : goal.returns-in-Err-run_script-clause-err
returns-in-Err-run_script-clause-err g c =
    let hash = g.H.Hasher.digest_of in
    let s = c.in-Ok.script in
    let r = script_rules hash s in
    let spells = rw c.travel.ensures at c.in-Ok.ensures.ok in
    let few : s.committees.total ≤ 65535 =
    omega (arith, few_members s c.lines-lines.ensures.runnable) in
    caused g.W.Way.travel hash c.args.text.now s c.in-Err-run_script.error spells
    (c.clash_laws.ensures.blocks r s.lines)
    (λ earlier later. c.clash_laws.ensures.texts r s.lines earlier later
    (c.ruled_tells.ensures s.travel s.committees s.backlog (λ b a. true) few)
    (c.is_cluster.ensures r refl)
    (c.script_laws.ensures.fits g.W.Way.travel c.args.text.now s spells))
    c.in-Err-run_script.ensures.err

pub returns-in-Ok-run_script-clause-one_chain : goal.returns-in-Ok-run_script-clause-one_chain
returns-in-Ok-run_script-clause-one_chain g c =
    let hash = g.H.Hasher.digest_of in
    let s = c.in-Ok.script in
    let h = c.in-Ok-run_script.ensures.ok in
    let some : 0 < (script_rules hash s).backlog =
    omega (arith, c.backlog-backlog.ensures.bound, c.backlog-backlog.ensures.value) in
    report_one_chain g.W.Way.travel hash c.args.text.now c.in-Ok-run_script.ran.report
    (reported g.W.Way.travel hash c.args.text.now s c.in-Ok-run_script.ran.report
    (rw c.travel.ensures at c.in-Ok.ensures.ok) h
    (c.is_cluster.ensures (script_rules hash s) refl)
    (c.report_laws.ensures (script_rules hash s) s.lines h.world
    (c.is_cluster.ensures (script_rules hash s) refl) some h.ends))
