use Rattle.std.proofs.Common.{◌≡◌, ◌+◌, ◌++◌, ◌∷◌, ℕ, [], List, Some, length, take, ap, subst, sym, ◌∙◌, arith}
use Rattle.std.specs.Prelude.{slice_get}
use Rattle.std.specs.List.{enumerate_from}
use Rattle.std.proofs.lemmas.List.{take_all}
use Rattle.cw_rules.specs.World.{Line}
use Rattle.hail_script.specs.Grammar.{first_event}
use Rattle.hail_script.specs.Scenario.{Scenario}
use Rattle.hail_world.specs.Clusters.{Cluster}
use Rattle.hail_world.specs.Places.{script_rules}
use Rattle.hail_world.specs.Played.{lines_of}
use Rattle.hail_world.specs.Runs.{IsStopped, opened}
use Rattle.hail_world.proofs.Clusters.{line_there, numbered_lines, numbered_more, stops}
use Rattle.hail_world.proofs.world.play_all.Goals as goal

pub loop-at-init : goal.loop-at-init
loop-at-init g c =
    ap (λ (l : List (ℕ × Line)). let k : Cluster = record c.args.cluster.now { rows = l } in k)
    c.requires.first

pub turn-requires-clause-whole : goal.turn-requires-clause-whole
turn-requires-clause-whole g c κs within =
    ap (λ (k : Cluster). k.over) c.loop-at.invariant ∙ c.requires.whole

pub turn-requires-clause-there : goal.turn-requires-clause-there
turn-requires-clause-there g c =
    let all =
    c.lines-count.ensures.value ∙ ap (λ (s : Scenario). s.lines) c.script-2.ensures in
    let many : length c.args.cluster.now.script.lines ≡ length c.lines-count.result.now =
    ap (λ (l : List Line). length l) (sym all) in
    let same : length c.loop-at.cluster.script.lines ≡ length c.args.cluster.now.script.lines =
    ap (λ (k : Cluster). length k.script.lines) c.loop-at.invariant in
    omega (arith, many, same, c.loop-at-test.true)

pub loop-at-preserved : goal.loop-at-preserved
loop-at-preserved g c =
    let k : Cluster = c.args.cluster.now in
    let at : ℕ = c.loop-at.at in
    let n : ℕ = first_event k.script.committees in
    let all =
    c.lines-count.ensures.value ∙ ap (λ (s : Scenario). s.lines) c.script-2.ensures in
    let many : length k.script.lines ≡ length c.lines-count.result.now =
    ap (λ (l : List Line). length l) (sym all) in
    let there = line_there k.script.lines at (omega (arith, many, c.loop-at-test.true)) in
    let there_now : slice_get c.loop-at.cluster.script.lines at ≡ Some there.0 =
    ap (λ (x : Cluster). slice_get x.script.lines at) c.loop-at.invariant ∙ there.1 in
    let first : c.first_event-first.result ≡ n =
    c.first_event-first.ensures.value
    ∙ ap (λ (s : Scenario). first_event s.committees) c.script.ensures in
    c.in-Ok.ensures.ok there.0 there_now
    ∙ ap
    (λ (x : Cluster). let y : Cluster =
    record x { rows = x.rows ++ (c.first_event-first.result + at, there.0) ∷ [] } in y)
    c.loop-at.invariant
    ∙ ap
    (λ (m : ℕ). let y : Cluster =
    record k { rows = enumerate_from n (take at k.script.lines) ++ (m + at, there.0) ∷ [] } in y)
    first
    ∙ ap (λ (l : List (ℕ × Line)). let y : Cluster = record k { rows = l } in y)
    (sym (numbered_more n k.script.lines at there.0 there.1))

pub returns-in-Err-clause-err : goal.returns-in-Err-clause-err
returns-in-Err-clause-err g c =
    let hash = g.H.Hasher.digest_of in
    let k : Cluster = c.args.cluster.now in
    let at : ℕ = c.loop-at.at in
    let n : ℕ = first_event k.script.committees in
    let all =
    c.lines-count.ensures.value ∙ ap (λ (s : Scenario). s.lines) c.script-2.ensures in
    let many : length k.script.lines ≡ length c.lines-count.result.now =
    ap (λ (l : List Line). length l) (sym all) in
    let there = line_there k.script.lines at (omega (arith, many, c.loop-at-test.true)) in
    let there_now : slice_get c.loop-at.cluster.script.lines at ≡ Some there.0 =
    ap (λ (x : Cluster). slice_get x.script.lines at) c.loop-at.invariant ∙ there.1 in
    let stopped =
    subst
    (λ (x : Cluster). IsStopped (script_rules hash x.script) (opened hash x.script)
    (lines_of x.rows ++ there.0 ∷ []) c.in-Err.error)
    c.loop-at.invariant (c.in-Err.ensures.err there.0 there_now) in
    stops (script_rules hash k.script) (opened hash k.script) k.script.lines at there.0
    c.in-Err.error
    there.1
    (subst
    (λ (l : List Line). IsStopped (script_rules hash k.script) (opened hash k.script)
    (l ++ there.0 ∷ []) c.in-Err.error)
    (numbered_lines n (take at k.script.lines)) stopped)

pub returns-clause-ok : goal.returns-clause-ok
returns-clause-ok g c =
    let k : Cluster = c.args.cluster.now in
    let n : ℕ = first_event k.script.committees in
    let all =
    c.lines-count.ensures.value ∙ ap (λ (s : Scenario). s.lines) c.script-2.ensures in
    let many : length k.script.lines ≡ length c.lines-count.result.now =
    ap (λ (l : List Line). length l) (sym all) in
    c.loop-at.invariant
    ∙ ap
    (λ (l : List Line). let y : Cluster = record k { rows = enumerate_from n l } in y)
    (take_all c.loop-at.at k.script.lines (omega (arith, many, c.loop-at-test.false)))
