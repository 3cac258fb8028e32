use Rattle.std.proofs.Common.{◌≡◌, ◌≤◌, arith, refl, subst, true}
use Rattle.hail_script.specs.Grammar.{IsRunnable}
use Rattle.hail_world.specs.Places.{script_rules}
use Rattle.hail_world.proofs.Known.{few_members}
use Rattle.hailstorm.proofs.Laned.{lanes_refused, opening_clashed, tells_apart}
use Rattle.hailstorm.proofs.lanes.open_text.Goals as goal

pub returns-in-Err-clause-err : goal.returns-in-Err-clause-err
returns-in-Err-clause-err g c =
    lanes_refused g.H.Hasher.digest_of c.args.text.now c.in-Err.error c.in-Err.ensures.err

pub returns-in-Err-open-clause-err : goal.returns-in-Err-open-clause-err
returns-in-Err-open-clause-err g c =
    let hash = g.H.Hasher.digest_of in
    let x = c.in-Ok.script in
    let s = x.script in
    let few : s.committees.total ≤ 65535 =
    omega (
      arith,
      few_members s (subst IsRunnable c.script-2.ensures
          c.lines-lines.ensures.runnable),
    ) in
    opening_clashed hash c.args.text.now x c.in-Err-open.error
    c.in-Ok.ensures.ok c.in-Err-open.ensures.err c.clash_laws.ensures.blocks
    (tells_apart hash x (c.ruled_tells.ensures s.travel s.committees s.backlog (λ b a. true) few)
    ((rw c.script.ensures at c.is_cluster.ensures) (script_rules hash s) refl)
    (c.script_laws.ensures.laned c.args.text.now x c.in-Ok.ensures.ok) c.clash_laws.ensures.texts)
