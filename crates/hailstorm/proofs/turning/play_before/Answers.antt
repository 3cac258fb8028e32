use Rattle.std.proofs.Common.{◌≡◌, ◌+◌, ◌++◌, ◌∷◌, ℕ, [], List, Some, length, take, refl, ap, subst, sym, ◌∙◌, arith}
use Rattle.std.specs.Prelude.{slice_get, slice_index}
use Rattle.cw_rules.specs.World.{Line}
use Rattle.hail_script.specs.Lanes.{rows}
use Rattle.hail_script.specs.Scenario.{Scenario}
use Rattle.hail_world.specs.Clusters.{Cluster}
use Rattle.hail_world.specs.Places.{script_rules}
use Rattle.hail_world.specs.Played.{lines_of}
use Rattle.hail_world.specs.Runs.{IsStopped, opened}
use Rattle.hail_world.proofs.Clusters.{line_there}
use Rattle.hailstorm.proofs.Prefixed.{before_stops, taken_more}
use Rattle.hailstorm.proofs.turning.play_before.Goals as goal

pub loop-at-init : goal.loop-at-init
loop-at-init g c = λ x s n.
    ap (λ (l : List (ℕ × Line)). let k : Cluster = record c.args.cluster.now { rows = l } in k)
    c.requires.first

pub turn-requires-clause-whole : goal.turn-requires-clause-whole
turn-requires-clause-whole g c κs within =
    ap (λ (k : Cluster). k.over)
    (c.loop-at.invariant
    (record { script = c.args.cluster.now.script; numbers = c.args.numbers.now; sizes = [] }) refl
    refl)
    ∙ c.requires.whole

pub turn-requires-clause-there : goal.turn-requires-clause-there
turn-requires-clause-there g c =
    let same : length c.loop-at.cluster.script.lines ≡ length c.args.cluster.now.script.lines =
    ap (λ (k : Cluster). length k.script.lines)
    (c.loop-at.invariant
    (record { script = c.args.cluster.now.script; numbers = c.args.numbers.now; sizes = [] }) refl
    refl) in
    omega (arith, same, c.loop-at-test.true, c.requires.within)

pub loop-at-preserved : goal.loop-at-preserved
loop-at-preserved g c = λ x s n.
    let k : Cluster = c.args.cluster.now in
    let at : ℕ = c.loop-at.at in
    let inv = c.loop-at.invariant x s n in
    let there =
    line_there k.script.lines at (omega (arith, c.loop-at-test.true, c.requires.within)) in
    let there_now : slice_get c.loop-at.cluster.script.lines at ≡ Some there.0 =
    ap (λ (y : Cluster). slice_get y.script.lines at) inv ∙ there.1 in
    let there_x : slice_get x.script.lines at ≡ Some there.0 =
    ap (λ (y : Scenario). slice_get y.lines at) s ∙ there.1 in
    let number : c.number_of-number.result ≡ slice_index x.numbers at =
    c.number_of-number.ensures ∙ ap (λ (l : List ℕ). slice_index l at) (sym n) in
    c.in-Ok.ensures.ok there.0 there_now
    ∙ ap
    (λ (y : Cluster). let z : Cluster =
    record y { rows = y.rows ++ (c.number_of-number.result, there.0) ∷ [] } in z)
    inv
    ∙ ap
    (λ (m : ℕ). let z : Cluster =
    record k { rows = take at (rows x) ++ (m, there.0) ∷ [] } in z)
    number
    ∙ ap (λ (l : List (ℕ × Line)). let z : Cluster = record k { rows = l } in z)
    (sym (taken_more x at there.0 there_x))

pub returns-in-Err-clause-err : goal.returns-in-Err-clause-err
returns-in-Err-clause-err g c = λ x s n.
    let hash = g.H.Hasher.digest_of in
    let k : Cluster = c.args.cluster.now in
    let at : ℕ = c.loop-at.at in
    let inv = c.loop-at.invariant x s n in
    let there =
    line_there k.script.lines at (omega (arith, c.loop-at-test.true, c.requires.within)) in
    let there_now : slice_get c.loop-at.cluster.script.lines at ≡ Some there.0 =
    ap (λ (y : Cluster). slice_get y.script.lines at) inv ∙ there.1 in
    let there_x : slice_get x.script.lines at ≡ Some there.0 =
    ap (λ (y : Scenario). slice_get y.lines at) s ∙ there.1 in
    let stopped =
    subst
    (λ (y : Cluster). IsStopped (script_rules hash y.script) (opened hash y.script)
    (lines_of y.rows ++ there.0 ∷ []) c.in-Err.error)
    inv (c.in-Err.ensures.err there.0 there_now) in
    let of_x =
    subst
    (λ (y : Scenario). IsStopped (script_rules hash y) (opened hash y)
    (lines_of (take at (rows x)) ++ there.0 ∷ []) c.in-Err.error)
    (sym s) stopped in
    before_stops (script_rules hash x.script) (opened hash x.script) x at c.args.before there.0
    c.in-Err.error there_x c.loop-at-test.true of_x
